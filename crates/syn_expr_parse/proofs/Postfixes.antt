-- What continues an expression: what one step of the loop reads.
use Rattle.std.proofs.Common.{◌≡◌, Bool, true, false, List, [], ◌∷◌, Some, None, Result, Ok, Err, refl, sym, ap, ap₂, ◌∙◌, true≢false}
use Rattle.syn_grammar.specs.Words.{Text, colons, dot}
use Rattle.syn_grammar.specs.Tokens.{Span, Stream, end, leaf, punct, group, ident, literal, and, pick, Str, ByteStr, CStr, Byte, Char, Int, Float, at_literal}
use Rattle.syn_grammar.specs.Shape.{MethodCall, dotted}
use Rattle.syn_grammar.specs.Rules.{Rule, generic_arguments, member, postfixes}
use Rattle.syn_grammar.specs.Grammar.{Syntax, Nothing, Token, Both, Left, Right, Node, index, is_index, literal_of}
use Rattle.syn_grammar.specs.Table.{at_any_literal, at_colons}
use Rattle.syn_grammar.specs.Take.{Out, lookahead_at, only, sees, take_mark, take_token, taken}
use Rattle.syn_grammar.specs.Values.{member_variant, new, onto, shape}
use Rattle.syn_grammar.specs.Promises.{Computes, OrMemory}
use Rattle.syn_grammar.specs.Run.{and_then, branch, parse_form, parse_rule, wrap}
use Rattle.syn_grammar.proofs.Each.{member_is, postfixes_is}
use Rattle.syn_grammar.proofs.Looks.{sees_literal}
use Rattle.syn_parse.proofs.FirstTokens.{no_literal_at_ident}
use Rattle.syn_parse.proofs.Literals.{no_literal_seen}
use Rattle.syn_lower.specs.TypeForms.{angle_bracketed_form}
use Rattle.syn_expr_parse.specs.Parts.{method_arguments}
use Rattle.syn_expr_parse.specs.Postfixes.{Link, arguments_form, after_dot, after_name, follow, generic_call_form, linked, links_form, named_form, postfix_links, then_more}

through_node : (a : Syntax) (o : Out) → wrap (onto a) (wrap Node o) ≡ wrap (onto a) o
through_node a None = refl
through_node a (Some p) = refl

module _ (a : Syntax) (more : Rule) where
  links_step : (l : List Link) (ts : Stream) → wrap (onto a) (parse_form (links_form l more) ts) ≡ follow l a (parse_rule more) ts
  links_step [] ts = refl
  links_step (l ∷ ls) ts = go (sees l.0 ts) (parse_form l.1.1 ts) (links_step ls ts)
    where
      rest : (s : Syntax) (z : Out) → wrap (onto a) (wrap Left (wrap (Both s) z)) ≡ wrap (onto (onto a s)) z
      rest s None = refl
      rest s (Some p) = refl

      off : (z : Out) → wrap (onto a) (wrap Right z) ≡ wrap (onto a) z
      off None = refl
      off (Some p) = refl

      go : (b : Bool) (t : Out) → wrap (onto a) (parse_form (links_form ls more) ts) ≡ follow ls a (parse_rule more) ts →
          wrap (onto a) (branch b (and_then (wrap (shape l.1.0) t) (parse_rule more)) (parse_form (links_form ls more) ts))
          ≡ pick b (then_more (linked l.1.0 a t) (parse_rule more)) (follow ls a (parse_rule more) ts)
      go true None ih = refl
      go true (Some p) ih = rest (shape l.1.0 p.0) (parse_rule more p.1)
      go false t ih = off (parse_form (links_form ls more) ts) ∙ ih

pub postfixes_step : (a : Syntax) (ts : Stream) → wrap (onto a) (parse_rule postfixes ts) ≡ follow postfix_links a (parse_rule postfixes) ts
postfixes_step a ts = ap (wrap (onto a)) (postfixes_is ts) ∙ through_node a _ ∙ links_step a postfixes postfix_links ts

-- GENERIC ARGUMENTS after `::`

abbrev value_in : Out → Syntax
value_in (Some p) = p.0
value_in None = Nothing

abbrev rest_in : Out → Stream
rest_in (Some p) = p.1
rest_in None = end

-- if `::` is next
abbrev after_colons : Stream → Out
after_colons ts = and_then (wrap Left (take_mark colons ts)) (parse_rule generic_arguments)

colons_seen : (ts : Stream) → sees at_colons ts ≡ true → after_colons ts ≡ parse_form angle_bracketed_form ts
colons_seen ts h = ap (λ b. and_then (branch b (take_mark colons ts) (Some (Nothing, ts))) (parse_rule generic_arguments)) (sym h)

pub generic_call_is : (ts : Stream) (generic : Syntax) (r : Stream) → sees at_colons ts ≡ true → parse_form angle_bracketed_form ts ≡ Some (generic, r) →
    wrap Left (parse_form generic_call_form ts) ≡ wrap (method_arguments (Some generic)) (parse_form arguments_form r)
generic_call_is ts generic r h e = go (take_mark colons ts) (colons_seen ts h ∙ e)
  where
    last : (x y : Syntax) (o : Out) → wrap Left (wrap (Both x) (wrap (Both y) o)) ≡ wrap (method_arguments (Some (Both (Left x) y))) o
    last x y None = refl
    last x y (Some p) = refl

    next : (x : Syntax) (o : Out) → wrap (Both (Left x)) o ≡ Some (generic, r) → wrap Left (wrap (Both x) (and_then o (parse_form arguments_form))) ≡ wrap (method_arguments (Some generic)) (parse_form arguments_form r)
    next x None e = absurd (cc e)
    next x (Some p) e = last x p.0 (parse_form arguments_form p.1) ∙ ap₂ (λ y m. wrap (method_arguments (Some y)) (parse_form arguments_form m)) (ap value_in e) (ap rest_in e)

    go : (o : Out) → and_then (wrap Left o) (parse_rule generic_arguments) ≡ Some (generic, r) →
        wrap Left (and_then o (λ m. and_then (parse_rule generic_arguments m) (parse_form arguments_form))) ≡ wrap (method_arguments (Some generic)) (parse_form arguments_form r)
    go None e = absurd (cc e)
    go (Some p) e = next p.0 (parse_rule generic_arguments p.1) e

pub no_generic_call : (ts : Stream) → sees at_colons ts ≡ true → parse_form angle_bracketed_form ts ≡ None → parse_form generic_call_form ts ≡ None
no_generic_call ts h e = go (take_mark colons ts) (colons_seen ts h ∙ e)
  where
    next : (x : Syntax) (o : Out) → wrap (Both (Left x)) o ≡ None → wrap (Both x) (and_then o (parse_form arguments_form)) ≡ None
    next x None e = refl
    next x (Some p) e = absurd (cc e)

    go : (o : Out) → and_then (wrap Left o) (parse_rule generic_arguments) ≡ None → and_then o (λ m. and_then (parse_rule generic_arguments m) (parse_form arguments_form)) ≡ None
    go None e = refl
    go (Some p) e = next p.0 (parse_rule generic_arguments p.1) e

-- with generic arguments it is a call, whatever they are
pub generic_variant : (d word generic arguments : Syntax) → member_variant (Both d (Node (Right (Both word (method_arguments (Some generic) arguments))))) ≡ MethodCall
generic_variant d word (Both (Left m) generic) arguments = refl
generic_variant d word generic arguments = refl

-- MEMBERS

never : (b : Bool) (s : Syntax) (m : Stream) → None ≡ wrap Left (only (and b false) (Some (s, m)))
never true s m = refl
never false s m = refl

number : (ts : Stream) → sees at_any_literal ts ≡ true → branch (sees (at_literal Int) ts) (take_token index ts) (parse_form named_form ts) ≡ wrap Left (take_token index ts)
unfolding sees lookahead_at take_token
number end h = absurd (true≢false (sym h))
number (group d o c i m) h = absurd (true≢false (sym h))
number (punct c j sp m) h = absurd (true≢false (sym h ∙ no_literal_seen (punct c j sp m) (λ k e. refl)))
number (leaf (ident x) sp m) h = absurd (true≢false (sym h ∙ no_literal_seen (leaf (ident x) sp m) (no_literal_at_ident x sp m)))
number (leaf (literal Int x) sp m) h = refl
number (leaf (literal Str x) sp m) h = never (is_index x) (Token (literal Str x) sp) m
number (leaf (literal ByteStr x) sp m) h = never (is_index x) (Token (literal ByteStr x) sp) m
number (leaf (literal CStr x) sp m) h = never (is_index x) (Token (literal CStr x) sp) m
number (leaf (literal Byte x) sp m) h = never (is_index x) (Token (literal Byte x) sp) m
number (leaf (literal Char x) sp m) h = never (is_index x) (Token (literal Char x) sp) m
number (leaf (literal Float x) sp m) h = never (is_index x) (Token (literal Float x) sp) m

-- if a literal is next, a member is the number of a field, or nothing is read
pub number_member : (ts : Stream) → sees at_any_literal ts ≡ true → parse_rule member ts ≡ wrap Node (wrap Left (take_token index ts))
number_member ts h = member_is ts ∙ ap (wrap Node) (number ts h)

no_word : (x : Text) (sp : Span) (m : Stream) → sees (at_literal Int) (leaf (ident x) sp m) ≡ false
no_word x sp m = sees_literal Int (leaf (ident x) sp m) ∙ ap taken (no_literal_at_ident x sp m (literal_of (Int ∷ [])) refl)

no_integer : (ts : Stream) → sees at_any_literal ts ≡ false → sees (at_literal Int) ts ≡ false
unfolding sees lookahead_at take_token
no_integer end h = refl
no_integer (group d o c i m) h = refl
no_integer (punct c j sp m) h = sees_literal Int (punct c j sp m)
no_integer (leaf (ident x) sp m) h = no_word x sp m
no_integer (leaf (literal Int x) sp m) h = absurd (true≢false h)
no_integer (leaf (literal Str x) sp m) h = refl
no_integer (leaf (literal ByteStr x) sp m) h = refl
no_integer (leaf (literal CStr x) sp m) h = refl
no_integer (leaf (literal Byte x) sp m) h = refl
no_integer (leaf (literal Char x) sp m) h = refl
no_integer (leaf (literal Float x) sp m) h = refl

pub named_member : (ts : Stream) → sees at_any_literal ts ≡ false → parse_rule member ts ≡ wrap Node (wrap Right (parse_form named_form ts))
named_member ts h = member_is ts ∙ rw (no_integer ts h) refl

-- after `.` and where no literal is next
pub named_step : (b d : Syntax) (ts m : Stream) → take_mark dot ts ≡ Some (d, m) → sees at_any_literal m ≡ false →
    linked dotted b (and_then (take_mark dot ts) (parse_rule member)) ≡ after_dot b d (wrap Right (parse_form named_form m))
named_step b d ts m e h = ap (λ o. linked dotted b (and_then o (parse_rule member))) e ∙ ap (λ o. linked dotted b (wrap (Both d) o)) (named_member m h)

-- a call with generic arguments
pub generic_called : (a d w generic s : Syntax) (ts r n : Stream) → sees at_colons ts ≡ true → parse_form angle_bracketed_form ts ≡ Some (generic, r) → parse_form arguments_form r ≡ Some (s, n) →
    after_name a d w (wrap Left (parse_form generic_call_form ts)) ≡ Some (new MethodCall (Both a (Both d (Node (Right (Both w (method_arguments (Some generic) s)))))), n)
generic_called a d w generic s ts r n h e k =
    ap (after_name a d w) (generic_call_is ts generic r h e ∙ ap (wrap (method_arguments (Some generic))) k)
    ∙ ap (λ v. Some (new v (Both a (Both d (Node (Right (Both w (method_arguments (Some generic) s)))))), n)) (generic_variant d w generic s)

-- what is made of what was read, where memory was there
pub made_of : {T E : Type 0} (refusal : E → Type 0) (view : T → Syntax) (o : Out) (s : Syntax) (r : Result T E) (m : Stream) → o ≡ Some (s, m) → OrMemory refusal r (λ x. view x ≡ s) → Computes refusal view o r m
made_of refusal view o s (Ok x) m e h = e ∙ ap (λ z. Some (z, m)) (sym h)
made_of refusal view o s (Err x) m e h = λ u. absurd (h u)
