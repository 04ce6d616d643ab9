-- What is read and written where a parameter has no name.
use Rattle.std.proofs.Common.{◌≡◌, ◌<◌, Bool, true, false, [], ◌∷◌, Some, None, refl, sym, ap, ap₂, ◌∙◌, true≢false}
use Rattle.std.proofs.lemmas.Bool.{lt-ltb}
use Rattle.syn_grammar.specs.Words.{colon, w_underscore}
use Rattle.syn_grammar.specs.Tokens.{Span, Stream, end, leaf, punct, group, ident, Fact, Before_less, at_name, ◌⧺◌}
use Rattle.syn_grammar.specs.Rules.{pattern}
use Rattle.syn_grammar.specs.Grammar.{Syntax, Token, Mark, Both, Node, Left, Grammar, ◌&◌, mark, rule, supplied, at_unnamed, underscore}
use Rattle.syn_grammar.specs.Take.{Out, left, is_end, sees, lookahead_at, take_token, first_span, leaf_span, only}
use Rattle.syn_grammar.specs.Run.{wrap, named_or_not, supplied_to, supplied_at, name_supplied, parse_form, parse_rule}
use Rattle.syn_grammar.proofs.FirstSets.{nullable}
use Rattle.syn_grammar.proofs.Said.{start_of}
use Rattle.syn_grammar.proofs.Run.{parse_rule_is, parse_rule_less, runs_shrinks, Less}
use Rattle.syn_grammar.proofs.Sets.{and_left}
use Rattle.syn_tokens.specs.Spans.{at}
use Rattle.syn_tokens.specs.declared.span.Span.{Span as Span-t}
use Rattle.syn_parse.specs.Nexts.{IsNext}
use Rattle.syn_recognize.specs.PrintedRows.{way}
use Rattle.syn_recognize.specs.Written.{Written, adds}
use Rattle.syn_recognize.specs.Copies.{Copy, Reached, Refused, Stuck, copied, copy_form, next}
use Rattle.syn_recognize.specs.Supplied.{Unnamed, supplied_form, typed_form, unnamed}
use Rattle.syn_recognize.specs.declared.supplied.Nameless.{Nameless}
use Rattle.syn_recognize.specs.declared.supplied.Nameless.TheVariants as Nameless-m
use Rattle.syn_recognize.proofs.Copied.{following, then_is}
use Rattle.syn_recognize.proofs.PathLooks.{no_name}
use Rattle.syn_recognize.proofs.Ways.{way_both, way_mark}
use Rattle.syn_recognize.proofs.Writes.{adds_more}

-- `_` is a pattern
abbrev lone_underscore : Span → Syntax
lone_underscore sp = Node (Left (Token (ident w_underscore) sp))

underscore_read : (sp : Span) → parse_rule pattern (underscore sp) ≡ Some (lone_underscore sp, end)
unfolding sees lookahead_at take_token
underscore_read sp = parse_rule_is pattern (underscore sp)

abbrev with_name : Span → Syntax → Syntax
with_name sp s = Both (lone_underscore sp) (Both (Mark ((58, sp) ∷ [])) s)

-- what such a parameter is read as, where some token is read after its name
module _ (g : Grammar) (n : Fact) (ts : Stream) (sp : Span) (h : sees (at_unnamed n) ts ≡ true) (first : leaf_span ts ≡ Some sp) (some : nullable start_of g ≡ false) where
  spanned : (r : Stream) → left r < left ts → first_span ts r ≡ Some sp
  unfolding first_span
  spanned r k = ap (λ b. only b (leaf_span ts)) (lt-ltb (left r) (left ts) k) ∙ first

  fewer : (s : Syntax) (r : Stream) → parse_form g ts ≡ Some (s, r) → left r < left ts
  fewer s r e = by (nullable start_of g) some (runs_shrinks parse_rule parse_rule_less g ts (s, r) e)
    where
      by : (b : Bool) → b ≡ false → Less b ts r → left r < left ts
      by false q k = k
      by true q k = absurd (true≢false q)

  unnamed_is : parse_form (supplied n (rule pattern) g) ts ≡ wrap (with_name sp) (parse_form g ts)
  unfolding is_end
  unnamed_is = ap (λ b. named_or_not b (parse_rule pattern) (parse_form g) ts) h ∙ go (parse_form g ts) refl
    where
      go : (o : Out) → parse_form g ts ≡ o → supplied_to ts o (parse_rule pattern) ≡ wrap (with_name sp) o
      go None e = refl
      go (Some p) e = ap (λ z. supplied_at p.0 p.1 z (parse_rule pattern)) (spanned p.1 (fewer p.0 p.1 e)) ∙ ap (name_supplied p.0 p.1 sp) (underscore_read sp)

  -- and what is written of it
  unnamed_written : (w : Written) → copy_form (supplied n (rule pattern) g) w ts ≡ copy_form g (adds w (unnamed sp)) ts
  unfolding copy_form
  unnamed_written w = ap (copied w) unnamed_is ∙ following (unnamed sp) (with_name sp) w shown (parse_form g ts)
    where
      name_shown : (a : Bool) → way a (lone_underscore sp) ≡ leaf (ident w_underscore) sp end
      name_shown true = refl
      name_shown false = refl

      shown : (s : Syntax) → way w.printing (with_name sp s) ≡ unnamed sp ⧺ way w.printing s
      shown s =
          way_both w.printing (lone_underscore sp) (Both (Mark ((58, sp) ∷ [])) s)
          ∙ ap₂ (λ i j. i ⧺ j) (name_shown w.printing) (way_both w.printing (Mark ((58, sp) ∷ [])) s ∙ ap (λ i. i ⧺ way w.printing s) (way_mark w.printing ((58, sp) ∷ [])))

-- some token is read after a name
typed_some : (k : Nameless) → nullable start_of (typed_form k) ≡ false
typed_some Nameless-m.Argument = refl
typed_some Nameless-m.Input = refl

pub without_name : (k : Nameless) (w v : Written) (ts : Stream) → sees (at_unnamed Before_less) ts ≡ true → Unnamed w ts v → copy_form (supplied_form k) w ts ≡ copy_form (typed_form k) v ts
without_name k w v ts h (sp, first, e) = unnamed_written (typed_form k) Before_less ts sp h first (typed_some k) w ∙ ap (λ z. copy_form (typed_form k) z ts) (sym e)

-- with its name
named : (k : Nameless) (w : Written) (ts : Stream) → sees (at_unnamed Before_less) ts ≡ false → copy_form (supplied_form k) w ts ≡ copy_form (rule pattern & mark false colon & typed_form k) w ts
unfolding copy_form
named k w ts h = ap (λ b. copied w (named_or_not b (parse_rule pattern) (parse_form (typed_form k)) ts)) h

pub with_its_name : (k : Nameless) (w : Written) (ts : Stream) → sees (at_unnamed Before_less) ts ≡ false → copy_form (supplied_form k) w ts ≡ next (next (copy_form (rule pattern) w ts) (copy_form (mark false colon))) (copy_form (typed_form k))
with_its_name k w ts h = named k w ts h ∙ then_is (rule pattern) (mark false colon & typed_form k) w ts ∙ go (copy_form (rule pattern) w ts)
  where
    go : (o : Copy) → next o (copy_form (mark false colon & typed_form k)) ≡ next (next o (copy_form (mark false colon))) (copy_form (typed_form k))
    go (Reached v r) = then_is (mark false colon) (typed_form k) v r
    go Refused = refl
    go Stuck = refl

-- the span that is written
pub unnamed_present : (ts : Stream) (w : Written) (s : Span-t) → sees (at_unnamed Before_less) ts ≡ true → IsNext ts s → Unnamed w ts (adds (adds w (leaf (ident w_underscore) (at s) end)) (punct 58 false (at s) end))
unfolding sees lookahead_at
unnamed_present end w s h k = absurd (true≢false (sym h))
unnamed_present (leaf x sp r) w s h k = (at s, ap Some (sym k), adds_more w (leaf (ident w_underscore) (at s) end) (punct 58 false (at s) end))
unnamed_present (punct c j sp r) w s h k = absurd (true≢false (sym (and_left (sees at_name (punct c j sp r)) _ h) ∙ no_name c j sp r))
unnamed_present (group d o c i r) w s h k = absurd (true≢false (sym h))
