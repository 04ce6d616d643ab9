-- Structs, enums and unions, read, printed and compared.
use Rattle.std.proofs.Common.{◌≡◌, Bool, true, false, refl, sym, ap, ap₂, ◌∙◌, true≢false}
use Rattle.std.specs.Prelude.{Option, Some, None}
use Rattle.syn_grammar.specs.Words.{w_struct, w_enum, w_union}
use Rattle.syn_grammar.specs.Tokens.{Stream, and, at_word}
use Rattle.syn_grammar.specs.Rules.{attributes, visibility, structure, enumeration, union_item, derive_input}
use Rattle.syn_grammar.specs.Grammar.{Syntax, Nothing, Both, Left, Right, Node, Case, Added, Unshown, word, plain_syntax}
use Rattle.syn_grammar.specs.Take.{Out, sees, take_token, taken}
use Rattle.syn_grammar.specs.Run.{wrap, and_then, branch, named, parse_rule, parse_form}
use Rattle.syn_grammar.specs.Same.{same_syntax}
use Rattle.syn_grammar.proofs.Each.{derive_input_is, structure_is, structure_rest_is, enumeration_is, enumeration_rest_is, union_item_is, union_item_rest_is}
use Rattle.syn_grammar.proofs.Begins.{not_here, not_there}
use Rattle.syn_grammar.proofs.Looks.{sees_word}
use Rattle.syn_tokens.specs.Leaves.{maybe}
use Rattle.syn_tokens.specs.Kinds.{Semi, semi_syntax, struct_syntax}
use Rattle.syn_lower.specs.Parts.{first, second}
use Rattle.syn_tree.specs.Data.{syntax_of_Fields}
use Rattle.syn_tree.specs.Derive.{structure_body_of, shape_of, input_of, syntax_of_Data, structure_form, enumeration_form, union_form, shape_form, placed}
use Rattle.syn_tree.specs.declared.data.Fields.TheVariants as Fields-m
use Rattle.syn_tree.specs.declared.derive.Data.TheVariants as Data-m
use Rattle.syn_lower.proofs.Compared.{reported}

-- AS THEY ARE READ: the three rules begin alike, so the beginning is read once, and then the next word decides which it is

-- by the results of the three rules
abbrev answer : Out → Out → Out → Out
answer a b c = wrap Node (named structure a (named enumeration b (named union_item c None)))

-- after attributes and a visibility
abbrev following : Syntax → Syntax → Out → Out
following a v o = wrap Node (wrap (Both a) (wrap Node (wrap (Both v) o)))

turn : (a v : Syntax) (r : Stream) (b c : Bool) → sees (at_word w_struct) r ≡ b → sees (at_word w_enum) r ≡ c →
    answer (following a v (parse_form structure_form r)) (following a v (parse_form enumeration_form r)) (following a v (parse_form union_form r))
    ≡ wrap placed (wrap (Both a) (wrap (Both v) (branch b (parse_form structure_form r) (branch c (parse_form enumeration_form r) (parse_form union_form r)))))
turn a v r true c e f =
    ap₂ (λ x y. answer (following a v (parse_form structure_form r)) (following a v x) (following a v y)) (not_here (at_word w_struct) enumeration_form refl r e) (not_here (at_word w_struct) union_form refl r e)
    ∙ go (parse_form structure_form r)
  where
    go : (o : Out) → answer (following a v o) None None ≡ wrap placed (wrap (Both a) (wrap (Both v) (wrap Left o)))
    go None = refl
    go (Some p) = refl
turn a v r false true e f =
    ap₂ (λ x y. answer (following a v x) (following a v (parse_form enumeration_form r)) (following a v y)) (not_there (at_word w_struct) structure_form refl r e) (not_here (at_word w_enum) union_form refl r f)
    ∙ go (parse_form enumeration_form r)
  where
    go : (o : Out) → answer None (following a v o) None ≡ wrap placed (wrap (Both a) (wrap (Both v) (wrap Right (wrap Left o))))
    go None = refl
    go (Some p) = refl
turn a v r false false e f =
    ap₂ (λ x y. answer (following a v x) (following a v y) (following a v (parse_form union_form r))) (not_there (at_word w_struct) structure_form refl r e) (not_there (at_word w_enum) enumeration_form refl r f)
    ∙ go (parse_form union_form r)
  where
    go : (o : Out) → answer None None (following a v o) ≡ wrap placed (wrap (Both a) (wrap (Both v) (wrap Right (wrap Right o))))
    go None = refl
    go (Some p) = refl

-- the rule of one kind, after the attributes
abbrev after_attributes : Out → (Stream → Out) → Out
after_attributes o p = wrap Node (and_then o (λ m. wrap Node (and_then (parse_rule visibility m) p)))

at_attributes : (o : Out) (p q : Stream → Out) → ((m : Stream) → p m ≡ q m) → wrap Node (and_then o p) ≡ wrap Node (and_then o q)
at_attributes None p q h = refl
at_attributes (Some x) p q h = ap (λ z. wrap Node (wrap (Both x.0) z)) (h x.1)

pub derive_input_turns : (ts : Stream) → parse_rule derive_input ts ≡ wrap placed (and_then (parse_rule attributes ts) (λ m. and_then (parse_rule visibility m) (parse_form shape_form)))
derive_input_turns ts =
    derive_input_is ts
    ∙ ap (λ x. answer x (parse_rule enumeration ts) (parse_rule union_item ts)) (structure_is ts ∙ at_attributes (parse_rule attributes ts) _ _ structure_rest_is)
    ∙ ap₂ (answer (after_attributes (parse_rule attributes ts) (parse_form structure_form))) (enumeration_is ts ∙ at_attributes (parse_rule attributes ts) _ _ enumeration_rest_is) (union_item_is ts ∙ at_attributes (parse_rule attributes ts) _ _ union_item_rest_is)
    ∙ go (parse_rule attributes ts)
  where
    inner : (a : Syntax) (o : Out) →
        answer (wrap Node (wrap (Both a) (wrap Node (and_then o (parse_form structure_form))))) (wrap Node (wrap (Both a) (wrap Node (and_then o (parse_form enumeration_form))))) (wrap Node (wrap (Both a) (wrap Node (and_then o (parse_form union_form)))))
        ≡ wrap placed (wrap (Both a) (and_then o (parse_form shape_form)))
    inner a None = refl
    inner a (Some q) = turn a q.0 q.1 (sees (at_word w_struct) q.1) (sees (at_word w_enum) q.1) refl refl

    go : (o : Out) → answer (after_attributes o (parse_form structure_form)) (after_attributes o (parse_form enumeration_form)) (after_attributes o (parse_form union_form)) ≡ wrap placed (and_then o (λ m. and_then (parse_rule visibility m) (parse_form shape_form)))
    go None = refl
    go (Some p) = inner p.0 (parse_rule visibility p.1)

-- if `union` isn't next, it can't be taken
pub no_union : (ts : Stream) → sees (at_word w_union) ts ≡ false → take_token (word w_union) ts ≡ None
no_union ts h = go (take_token (word w_union) ts) (sym (sees_word w_union ts) ∙ h)
  where
    go : (o : Out) → taken o ≡ false → o ≡ None
    go None e = refl
    go (Some x) e = absurd (true≢false e)

-- A STRUCT'S BODY, compared

abbrev body_in_order : Syntax → Syntax → Syntax → Syntax
body_in_order fields clause semi_token = Both fields (Both clause semi_token)

abbrev body_of : Syntax → Syntax
body_of s = structure_body_of (first s) (first (second s)) (second (second s))

abbrev body_back : Syntax → Syntax
body_back (Node (Right (Both c (Left (Both (Unshown Nothing) f))))) = body_in_order (Left f) c (Right Nothing)
body_back (Node (Right (Both c (Left (Both (Unshown s) f))))) = body_in_order (Left f) c (Left s)
body_back (Node (Left (Both f (Both c (Added x))))) = body_in_order (Right (Left f)) c (Right Nothing)
body_back (Node (Left (Both f (Both c s)))) = body_in_order (Right (Left f)) c (Left s)
body_back (Node (Right (Both c (Right (Added x))))) = body_in_order (Right (Right Nothing)) c (Right Nothing)
body_back (Node (Right (Both c (Right s)))) = body_in_order (Right (Right Nothing)) c (Left s)
body_back s = s

abbrev listed : Fields-m.the_data → Syntax → Option Semi → Syntax
listed f c s = body_in_order (syntax_of_Fields f) c (maybe semi_syntax s)

abbrev formed : Fields-m.the_data → Syntax → Option Semi → Syntax
formed f c s = structure_body_of (syntax_of_Fields f) c (maybe semi_syntax s)

plain_body : (f : Fields-m.the_data) (c : Syntax) (s : Option Semi) → plain_syntax (formed f c s) ≡ body_of (plain_syntax (listed f c s))
plain_body (Fields-m.Named f) c (Some s) = refl
plain_body (Fields-m.Named f) c None = refl
plain_body (Fields-m.Unnamed f) c (Some s) = refl
plain_body (Fields-m.Unnamed f) c None = refl
plain_body Fields-m.«Unit» c (Some s) = refl
plain_body Fields-m.«Unit» c None = refl

known_body : (f : Fields-m.the_data) (c : Syntax) (s : Option Semi) → body_back (plain_syntax (formed f c s)) ≡ plain_syntax (listed f c s)
known_body (Fields-m.Named f) c (Some s) = refl
known_body (Fields-m.Named f) c None = refl
known_body (Fields-m.Unnamed f) c (Some s) = refl
known_body (Fields-m.Unnamed f) c None = refl
known_body Fields-m.«Unit» c (Some s) = refl
known_body Fields-m.«Unit» c None = refl

pub same_body : (f g : Fields-m.the_data) (c d : Syntax) (s t : Option Semi) →
    same_syntax (structure_body_of (syntax_of_Fields f) c (maybe semi_syntax s)) (structure_body_of (syntax_of_Fields g) d (maybe semi_syntax t)) ≡ and (same_syntax (syntax_of_Fields f) (syntax_of_Fields g)) (and (same_syntax c d) (same_syntax (maybe semi_syntax s) (maybe semi_syntax t)))
same_body f g c d s t = reported body_of body_back _ _ (listed f c s) (listed g d t) (plain_body f c s) (plain_body g d t) (known_body f c s) (known_body g d t)

-- AN INPUT, compared by its parts, whichever kind it is of

abbrev parts_in_order : Syntax → Syntax → Syntax → Syntax → Syntax → Syntax → Syntax
parts_in_order attrs vis ident params clause own = Both attrs (Both vis (Both ident (Both params (Both clause own))))

abbrev after_ident : Syntax → Syntax
after_ident s = second (second (second s))

abbrev whole : Syntax → Syntax
whole s = input_of (first s) (first (second s)) (shape_of (first (second (second s))) (first (after_ident s)) (first (second (after_ident s))) (second (second (after_ident s))))

-- of a struct after its parameters
abbrev struct_back : Syntax → Syntax → Syntax → Syntax → Syntax → Syntax → Syntax
struct_back a v i p w body = parts_in_order a v i p (first (second body)) (Left (Both w (Both (first body) (second (second body)))))

abbrev parts_back : Syntax → Syntax
parts_back (Node (Case structure (Both a (Node (Both v (Both w (Both i (Both p body)))))))) = struct_back a v i p w (body_back body)
parts_back (Node (Case enumeration (Both a (Node (Both v (Both w (Both i (Both p (Both c g))))))))) = parts_in_order a v i p c (Right (Left (Both w g)))
parts_back (Node (Case union_item (Both a (Node (Both v (Both w (Both i (Both p (Both c g))))))))) = parts_in_order a v i p c (Right (Right (Both w g)))
parts_back s = s

module _ (a v i p c : Syntax) where
  abbrev in_order : Data-m.the_data → Syntax
  in_order d = parts_in_order a v i p c (syntax_of_Data d)

  abbrev input : Data-m.the_data → Syntax
  input d = input_of a v (shape_of i p c (syntax_of_Data d))

  plain_input : (d : Data-m.the_data) → plain_syntax (input d) ≡ whole (plain_syntax (in_order d))
  plain_input (Data-m.Struct d) = go d.fields d.semi_token
    where
      go : (f : Fields-m.the_data) (s : Option Semi) → plain_syntax (input (Data-m.Struct (record d { fields = f; semi_token = s }))) ≡ whole (plain_syntax (in_order (Data-m.Struct (record d { fields = f; semi_token = s }))))
      go (Fields-m.Named f) (Some s) = refl
      go (Fields-m.Named f) None = refl
      go (Fields-m.Unnamed f) (Some s) = refl
      go (Fields-m.Unnamed f) None = refl
      go Fields-m.«Unit» (Some s) = refl
      go Fields-m.«Unit» None = refl
  plain_input (Data-m.Enum d) = refl
  plain_input (Data-m.Union d) = refl

  known_input : (d : Data-m.the_data) → parts_back (plain_syntax (input d)) ≡ plain_syntax (in_order d)
  known_input (Data-m.Struct d) = go d.fields d.semi_token
    where
      go : (f : Fields-m.the_data) (s : Option Semi) → parts_back (plain_syntax (input (Data-m.Struct (record d { fields = f; semi_token = s })))) ≡ plain_syntax (in_order (Data-m.Struct (record d { fields = f; semi_token = s })))
      go (Fields-m.Named f) (Some s) = refl
      go (Fields-m.Named f) None = refl
      go (Fields-m.Unnamed f) (Some s) = refl
      go (Fields-m.Unnamed f) None = refl
      go Fields-m.«Unit» (Some s) = refl
      go Fields-m.«Unit» None = refl
  known_input (Data-m.Enum d) = refl
  known_input (Data-m.Union d) = refl

pub same_input : (a b v w i j p q c d : Syntax) (x y : Data-m.the_data) →
    same_syntax (input_of a v (shape_of i p c (syntax_of_Data x))) (input_of b w (shape_of j q d (syntax_of_Data y))) ≡ and (same_syntax a b) (and (same_syntax v w) (and (same_syntax i j) (and (same_syntax p q) (and (same_syntax c d) (same_syntax (syntax_of_Data x) (syntax_of_Data y))))))
same_input a b v w i j p q c d x y = reported whole parts_back _ _ (in_order a v i p c x) (in_order b w j q d y) (plain_input a v i p c x) (plain_input b w j q d y) (known_input a v i p c x) (known_input b w j q d y)
