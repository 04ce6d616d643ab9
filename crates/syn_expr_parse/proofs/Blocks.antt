-- Blocks, loops and `if`, by what was read of their parts.
use Rattle.std.proofs.Common.{◌≡◌, ℕ, zero, suc, Bool, true, false, List, [], ◌∷◌, Some, None, Result, Ok, Err, refl, sym, ap, ◌∙◌, true≢false}
use Rattle.syn_grammar.specs.Words.{exclamation, pound, w_loop, w_while}
use Rattle.syn_grammar.specs.Tokens.{Stream, Bracket, and, no, pick, at_word}
use Rattle.syn_grammar.specs.Rules.{if_expression, inner_attributes, loop_expression, meta}
use Rattle.syn_grammar.specs.Shape.{ForLoop, If, Loop, While, expr}
use Rattle.syn_grammar.specs.Grammar.{Syntax, Nothing, Both, Left, Right, Node, Shaped, Unshown, Grammar, ◌&◌, inside, rule}
use Rattle.syn_grammar.specs.Forms.{asking_punctuation, punctuation}
use Rattle.syn_grammar.specs.Table.{at_brace, at_inner_attribute}
use Rattle.syn_grammar.specs.Take.{Out, sees}
use Rattle.syn_grammar.specs.Values.{core, label, new, no_attributes, with_label}
use Rattle.syn_grammar.specs.Run.{wrap, and_then, branch, run, runs, parse_rule, parse_form}
use Rattle.syn_grammar.specs.Promises.{Computes}
use Rattle.syn_grammar.proofs.Takes.{TreeAndRest}
use Rattle.syn_grammar.proofs.Each.{if_expression_is, loop_expression_is}
use Rattle.syn_tokens.specs.InOrder.{in_order}
use Rattle.syn_lower.specs.Attributes.{every, inner_attributes_syntax, inner_listed, is_inner, is_outer, none_listed, outer_listed, shown_before, syntax_of_Attribute}
use Rattle.syn_lower.specs.declared.attr.Attribute.{Attribute}
use Rattle.syn_lower.specs.Bodies.{attributes_before_body, attributes_in_body, listed_before, listed_inside, outer_first}
use Rattle.syn_expr_parse.specs.Parts.{after_else}
use Rattle.syn_expr_parse.specs.BlockForms.{if_form, labelled_as, loop_form, while_form, for_form}

-- one result has one value
abbrev found : Syntax → Stream → Out
found s r = Some (s, r)

one_value : (a b : Syntax) (m r : Stream) → found a m ≡ found b r → a ≡ b
one_value a b m r e =
    let i : ◌≡◌ {A = TreeAndRest} (a, m) (b, r) = cc e in
    ap (λ (y : TreeAndRest). y.0) i

-- LOOPS

-- after a label
pub labelled_loop : (l : Syntax) (o : Out) → wrap label (wrap (Both l) (wrap Right o)) ≡ wrap (with_label l) (wrap core o)
labelled_loop l None = refl
labelled_loop l (Some p) = refl

pub loops_are : (l : Syntax) (ts : Stream) → wrap (with_label l) (wrap core (parse_rule loop_expression ts))
    ≡ pick (sees (at_word w_loop) ts) (wrap (labelled_as Loop l) (parse_form loop_form ts))
    (pick (sees (at_word w_while) ts) (wrap (labelled_as While l) (parse_form while_form ts)) (wrap (labelled_as ForLoop l) (parse_form for_form ts)))
loops_are l ts = ap (λ o. wrap (with_label l) (wrap core o)) (loop_expression_is ts) ∙ go (sees (at_word w_loop) ts) (sees (at_word w_while) ts) (parse_form loop_form ts) (parse_form while_form ts) (parse_form for_form ts)
  where
    go : (b c : Bool) (x y z : Out) → wrap (with_label l) (wrap core (wrap Node (wrap core (branch b (wrap (new Loop) x) (branch c (wrap (new While) y) (wrap (new ForLoop) z))))))
        ≡ pick b (wrap (labelled_as Loop l) x) (pick c (wrap (labelled_as While l) y) (wrap (labelled_as ForLoop l) z))
    go true c None y z = refl
    go true c (Some p) y z = refl
    go false true x None z = refl
    go false true x (Some p) z = refl
    go false false x y None = refl
    go false false x y (Some p) = refl

-- by the next token
pub read_loop : (l : Syntax) (ts : Stream) → sees (at_word w_loop) ts ≡ true → wrap (with_label l) (wrap core (parse_rule loop_expression ts)) ≡ wrap (labelled_as Loop l) (parse_form loop_form ts)
read_loop l ts h =
    loops_are l ts
    ∙ ap (λ b. pick b (wrap (labelled_as Loop l) (parse_form loop_form ts)) (pick (sees (at_word w_while) ts) (wrap (labelled_as While l) (parse_form while_form ts)) (wrap (labelled_as ForLoop l) (parse_form for_form ts)))) h

pub read_while : (l : Syntax) (ts : Stream) → sees (at_word w_loop) ts ≡ false → sees (at_word w_while) ts ≡ true →
    wrap (with_label l) (wrap core (parse_rule loop_expression ts)) ≡ wrap (labelled_as While l) (parse_form while_form ts)
read_while l ts h k =
    loops_are l ts
    ∙ ap (λ b. pick b (wrap (labelled_as Loop l) (parse_form loop_form ts)) (pick (sees (at_word w_while) ts) (wrap (labelled_as While l) (parse_form while_form ts)) (wrap (labelled_as ForLoop l) (parse_form for_form ts)))) h
    ∙ ap (λ b. pick b (wrap (labelled_as While l) (parse_form while_form ts)) (wrap (labelled_as ForLoop l) (parse_form for_form ts))) k

pub read_for : (l : Syntax) (ts : Stream) → sees (at_word w_loop) ts ≡ false → sees (at_word w_while) ts ≡ false →
    wrap (with_label l) (wrap core (parse_rule loop_expression ts)) ≡ wrap (labelled_as ForLoop l) (parse_form for_form ts)
read_for l ts h k =
    loops_are l ts
    ∙ ap (λ b. pick b (wrap (labelled_as Loop l) (parse_form loop_form ts)) (pick (sees (at_word w_while) ts) (wrap (labelled_as While l) (parse_form while_form ts)) (wrap (labelled_as ForLoop l) (parse_form for_form ts)))) h
    ∙ ap (λ b. pick b (wrap (labelled_as While l) (parse_form while_form ts)) (wrap (labelled_as ForLoop l) (parse_form for_form ts))) k

-- INNER ATTRIBUTES

abbrev attribute : Grammar
attribute = asking_punctuation pound & punctuation exclamation & inside Bracket (rule meta)

-- what follows the last attribute
abbrev tail : Syntax → Syntax
tail (Node (Left (Both a more))) = tail more
tail (Node (Right s)) = s
tail s = s

abbrev Known : ℕ → Type 0
Known n = (m : Stream) (t : Syntax) (q : Stream) → run n inner_attributes m ≡ Some (t, q) → tail t ≡ Unshown Nothing

-- nothing is read
read_tail : (n : ℕ) (ts : Stream) (s : Syntax) (r : Stream) → run n inner_attributes ts ≡ Some (s, r) → tail s ≡ Unshown Nothing
unfolding run
read_tail zero ts s r e = absurd (cc e)
read_tail (suc n) ts s r e = go (sees at_inner_attribute ts) (runs (run n) attribute ts) (read_tail n) e
  where
    further : (a : Syntax) (m : Stream) (o : Out) → Known n → run n inner_attributes m ≡ o → wrap Node (wrap Left (wrap (Both a) o)) ≡ Some (s, r) → tail s ≡ Unshown Nothing
    further a m None known h k = absurd (cc k)
    further a m (Some p) known h k =
        ap tail (sym (one_value (Node (Left (Both a p.0))) s p.1 r k)) ∙ known m p.0 p.1 h

    go : (b : Bool) (o : Out) → Known n → wrap Node (branch b (and_then o (run n inner_attributes)) (Some (Unshown Nothing, ts))) ≡ Some (s, r) → tail s ≡ Unshown Nothing
    go true None known h = absurd (cc h)
    go true (Some p) known h = further p.0 p.1 (run n inner_attributes p.1) known refl h
    go false o known h = ap tail (sym (one_value (Node (Right (Unshown Nothing))) s ts r h))

pub inner_tail : (ts : Stream) (s : Syntax) (r : Stream) → parse_rule inner_attributes ts ≡ Some (s, r) → tail s ≡ Unshown Nothing
unfolding parse_rule
inner_tail ts s r e = read_tail _ ts s r e

-- `if`

pub read_if : (ts : Stream) (e : Syntax) (r : Stream) → parse_rule if_expression ts ≡ Some (Node e, r) → (s : Syntax) × (e ≡ Shaped (expr If) s)
read_if ts e r h = go (parse_form if_form ts) (if_expression_is ts)
  where
    go : (o : Out) → parse_rule if_expression ts ≡ wrap Node (wrap (new If) o) → (s : Syntax) × (e ≡ Shaped (expr If) s)
    go None k = absurd (cc (h, k))
    go (Some p) k =
        let i : Node e ≡ Node (new If p.0) = one_value (Node e) (Node (new If p.0)) r p.1 (sym h ∙ k) in
        let j : e ≡ Shaped (expr If) (Both no_attributes p.0) = cc i in
        (Both no_attributes p.0, j)

-- an `if` after `else`
pub if_after_else : (ts : Stream) (e : Syntax) (r : Stream) → parse_rule if_expression ts ≡ Some (Node e, r) → after_else e ≡ Right (Node e)
if_after_else ts e r h =
    let (s, i) = read_if ts e r h in
    ap after_else i ∙ sym (ap (λ z. Right (Node z)) i)

pub if_read : {T E : Type 0} (refusal : E → Type 0) (view : T → Syntax) (x : Out) (ts : Stream) (r : Result T E) (m : Stream) → sees at_brace ts ≡ false →
    Computes refusal (λ e. Node (view e)) (parse_rule if_expression ts) r m → Computes refusal (λ e. after_else (view e)) (branch (sees at_brace ts) x (parse_rule if_expression ts)) r m
if_read refusal view x ts (Ok e) m h k = rw h (ap (wrap Right) k ∙ ap (λ s. Some (s, m)) (sym (if_after_else ts (view e) m k)))
if_read refusal view x ts (Err e) m h k = λ u. rw h (ap (wrap Right) (k u))

-- ATTRIBUTES IN A BODY

pub none_shown : outer_listed Nothing ≡ none_listed
unfolding outer_listed
none_shown = refl

pub none_before : listed_before Nothing ≡ none_listed
unfolding listed_before
none_before = refl

pub none_inside : listed_inside Nothing ≡ none_listed
unfolding listed_inside
none_inside = refl

-- only those attributes leave nothing after them that are all printed
abbrev all : List Attribute → Syntax
all l = in_order syntax_of_Attribute l

shown_tail : (test : Syntax → Bool) (u : Syntax) (l : List Attribute) → tail (shown_before test u (all l)) ≡ Unshown u
shown_tail test u [] = refl
shown_tail test u (a ∷ l) = go (test (syntax_of_Attribute a)) (shown_tail test u l)
  where
    go : (b : Bool) → tail (shown_before test u (all l)) ≡ Unshown u → tail (pick b (Node (Left (Both (syntax_of_Attribute a) (shown_before test u (all l))))) (shown_before test u (all l))) ≡ Unshown u
    go true h = h
    go false h = h

inner_all : (l : List Attribute) → tail (inner_listed (all l)) ≡ Unshown Nothing → every is_inner (all l) ≡ true
unfolding inner_listed
inner_all [] h = refl
inner_all (a ∷ l) h = go (every is_inner (all (a ∷ l))) refl
  where
    go : (b : Bool) → every is_inner (all (a ∷ l)) ≡ b → b ≡ true
    go true e = refl
    go false e = absurd (cc (sym (shown_tail is_inner (pick (every is_inner (all (a ∷ l))) Nothing (all (a ∷ l))) (a ∷ l)) ∙ h, ap (λ b. Unshown (pick b Nothing (all (a ∷ l)))) e))

-- inner attributes follow no outer ones
none_outer : (u : Syntax) (l : List Attribute) → every is_inner (all l) ≡ true → shown_before is_outer u (all l) ≡ Node (Right (Unshown u))
none_outer u [] h = refl
none_outer u (a ∷ l) h = go (is_outer (syntax_of_Attribute a)) (none_outer u l) h
  where
    go : (b : Bool) → (every is_inner (all l) ≡ true → shown_before is_outer u (all l) ≡ Node (Right (Unshown u))) → and (no b) (every is_inner (all l)) ≡ true →
        pick b (Node (Left (Both (syntax_of_Attribute a) (shown_before is_outer u (all l))))) (shown_before is_outer u (all l)) ≡ Node (Right (Unshown u))
    go true more k = absurd (true≢false (sym k))
    go false more k = more k

in_order_first : (l : List Attribute) → every is_inner (all l) ≡ true → outer_first (all l) ≡ true
in_order_first [] h = refl
in_order_first (a ∷ l) h = go (is_outer (syntax_of_Attribute a)) (in_order_first l) h
  where
    go : (b : Bool) → (every is_inner (all l) ≡ true → outer_first (all l) ≡ true) → and (no b) (every is_inner (all l)) ≡ true → pick b (outer_first (all l)) (and (no b) (every is_inner (all l))) ≡ true
    go true more k = absurd (true≢false (sym k))
    go false more k = k

pub inner_in_body : (ts : Stream) (l : List Attribute) (r : Stream) → parse_rule inner_attributes ts ≡ Some (inner_attributes_syntax l, r) → attributes_in_body l ≡ inner_attributes_syntax l
unfolding listed_inside inner_listed
inner_in_body ts l r e =
    let h = inner_all l (inner_tail ts (inner_attributes_syntax l) r e) in
    ap (λ b. shown_before is_inner (pick b Nothing (all l)) (all l)) (sym h)

pub none_before_body : (ts : Stream) (l : List Attribute) (r : Stream) → parse_rule inner_attributes ts ≡ Some (inner_attributes_syntax l, r) → attributes_before_body l ≡ none_listed
unfolding listed_before
none_before_body ts l r e =
    let h = inner_all l (inner_tail ts (inner_attributes_syntax l) r e) in
    ap (λ b. shown_before is_outer (pick b Nothing (all l)) (all l)) (in_order_first l h) ∙ none_outer Nothing l h
