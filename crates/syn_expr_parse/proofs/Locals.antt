-- Locals, by what was read of their parts.
use Rattle.std.proofs.Common.{◌≡◌, Bool, true, false, Some, None, refl, sym, ap, ◌∙◌}
use Rattle.syn_grammar.specs.Words.{equals, w_else}
use Rattle.syn_grammar.specs.Tokens.{Stream, and, no, pick, at_word}
use Rattle.syn_grammar.specs.Rules.{whole_expression}
use Rattle.syn_grammar.specs.Shape.{untagged}
use Rattle.syn_grammar.specs.Grammar.{Syntax, Nothing, Both, Left, Right, Such, Shaped, ends_brace, trailing_brace, no_trailing_brace, Grammar, empty, when◌then◌else◌, shaped}
use Rattle.syn_grammar.specs.Table.{at_equals, no_else}
use Rattle.syn_grammar.specs.Take.{Out, before, only, sees, take_mark}
use Rattle.syn_grammar.specs.Values.{untag}
use Rattle.syn_grammar.specs.Run.{wrap, and_then, branch, first_of, such_as, parse_rule, parse_form}
use Rattle.syn_recognize.specs.Trailing.{ends_by}
use Rattle.syn_expr_parse.specs.StatementForms.{then_by, diverges, diverging_form, local_init_form, local_value, local_value_form, valued}
use Rattle.syn_recognize.proofs.Trailing.{trailing_brace_read}

abbrev otherwise_form : Grammar
otherwise_form = shaped untagged (when at_word w_else then diverging_form else empty)

-- what follows a value that doesn't end with braces
after_value : (c : Bool) (ts : Stream) → wrap untag (branch c (parse_form diverging_form ts) (Some (Nothing, ts))) ≡ pick (and c true) (wrap (Shaped untagged) (parse_form diverging_form ts)) (Some (Shaped untagged Nothing, ts))
after_value true ts = go (parse_form diverging_form ts)
  where
    go : (o : Out) → wrap untag (wrap Left o) ≡ wrap (Shaped untagged) o
    go None = refl
    go (Some p) = refl
after_value false ts = refl

with_value : (sign e : Syntax) (b : Bool) (m : Stream) → wrap (Both sign) (wrap untag (first_of (and_then (only b (Some (Such e, m))) (parse_form no_else)) (and_then (only (no b) (Some (Such e, m))) (parse_form otherwise_form))))
    ≡ valued sign e (diverges b m)
with_value sign e true m = go (sees (at_word w_else) m)
  where
    go : (c : Bool) → Some (Both sign (Shaped untagged (Both (Such e) (Shaped untagged Nothing))), m) ≡ valued sign e (pick (and c false) (wrap (Shaped untagged) (parse_form diverging_form m)) (Some (Shaped untagged Nothing, m)))
    go true = refl
    go false = refl
with_value sign e false m = go (parse_form otherwise_form m) ∙ ap (valued sign e) (after_value (sees (at_word w_else) m) m)
  where
    go : (o : Out) → wrap (Both sign) (wrap untag (wrap Right (wrap (Both (Such e)) o))) ≡ valued sign e o
    go None = refl
    go (Some p) = refl

pub local_init_is : (ts : Stream) → parse_form local_init_form ts ≡ pick (sees at_equals ts) (wrap Left (then_by (take_mark equals ts) local_value)) (Some (Right Nothing, ts))
unfolding local_value
local_init_is ts = go (sees at_equals ts) (take_mark equals ts)
  where
    value : (sign : Syntax) (m : Stream) → wrap (Both sign) (parse_form local_value_form m) ≡ then_by (parse_rule whole_expression m) (λ e n. valued sign e (diverges (ends_brace e) n))
    value sign m = by_value (parse_rule whole_expression m)
      where
        by_value : (o : Out) → wrap (Both sign) (wrap untag (first_of (and_then (such_as trailing_brace o) (parse_form no_else)) (and_then (such_as no_trailing_brace o) (parse_form otherwise_form))))
            ≡ then_by o (λ e n. valued sign e (diverges (ends_brace e) n))
        by_value None = refl
        by_value (Some p) = with_value sign p.0 (ends_brace p.0) p.1

    go : (b : Bool) (o : Out) → branch b (and_then o (parse_form local_value_form)) (Some (Nothing, ts)) ≡ pick b (wrap Left (then_by o local_value)) (Some (Right Nothing, ts))
    go true None = refl
    go true (Some p) = ap (wrap Left) (value p.0 p.1)
    go false o = refl

-- a value, by the tokens that it was read from
pub value_read : (sign e : Syntax) (ts m : Stream) → parse_rule whole_expression ts ≡ Some (e, m) → local_value sign ts ≡ valued sign e (diverges (ends_by false (before ts m)) m)
unfolding local_value
value_read sign e ts m h = ap (λ o. then_by o (λ x n. valued sign x (diverges (ends_brace x) n))) h ∙ ap (λ b. valued sign e (diverges b m)) (sym (trailing_brace_read ts e m h))
