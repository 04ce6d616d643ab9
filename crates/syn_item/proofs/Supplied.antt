-- A pattern and a colon, written or supplied, and what follows them.
use Rattle.std.proofs.Common.{◌≡◌, ◌<◌, Bool, true, false, [], ◌∷◌, Some, None, refl, sym, ap, ◌∙◌, true≢false}
use Rattle.std.proofs.lemmas.Bool.{lt-ltb}
use Rattle.syn_grammar.specs.Words.{colon}
use Rattle.syn_grammar.specs.Tokens.{Span, Stream, end, leaf, punct, group, Before_less, at_name, pick}
use Rattle.syn_grammar.specs.Rules.{pattern}
use Rattle.syn_grammar.specs.Grammar.{Syntax, Mark, Both, Grammar, ◌&◌, rule, supplied, at_unnamed, underscore}
use Rattle.syn_grammar.specs.Forms.{punctuation}
use Rattle.syn_grammar.specs.Take.{Out, left, is_end, sees, lookahead_at, take_mark, take_token, first_span, leaf_span, only}
use Rattle.syn_grammar.specs.Run.{and_then, wrap, named_or_not, supplied_to, supplied_at, name_supplied, parse_form, parse_rule}
use Rattle.syn_grammar.proofs.FirstSets.{nullable}
use Rattle.syn_grammar.proofs.Said.{start_of}
use Rattle.syn_grammar.proofs.Run.{parse_rule_is, parse_rule_less, runs_shrinks, Less}
use Rattle.syn_grammar.proofs.Sets.{and_left}
use Rattle.syn_parse.specs.Nexts.{IsNext}
use Rattle.syn_tokens.specs.Spans.{at}
use Rattle.syn_tokens.specs.declared.span.Span.{Span as TokenSpan}
use Rattle.syn_lower.specs.Parameters.{after}
use Rattle.syn_lower.specs.Parts.{first, second}
use Rattle.syn_recognize.proofs.PathLooks.{no_name}
use Rattle.syn_item.specs.SignatureForms.{named_pattern, supplied_name, wild_at}

-- `_` is a pattern
underscore_read : (sp : Span) → parse_rule pattern (underscore sp) ≡ Some (wild_at (Some sp), end)
unfolding sees lookahead_at take_token
underscore_read sp = parse_rule_is pattern (underscore sp)

-- a name that is there has a span
name_present : (ts : Stream) → sees (at_unnamed Before_less) ts ≡ true → (sp : Span) × (leaf_span ts ≡ Some sp)
unfolding sees lookahead_at
name_present end h = absurd (true≢false (sym h))
name_present (leaf x sp r) h = (sp, refl)
name_present (punct c j sp r) h = absurd (true≢false (sym (and_left (sees at_name (punct c j sp r)) _ h) ∙ no_name c j sp r))
name_present (group d o c i r) h = absurd (true≢false (sym h))

pub name_spanned : (ts : Stream) (s : TokenSpan) → sees (at_unnamed Before_less) ts ≡ true → IsNext ts s → leaf_span ts ≡ Some (at s)
unfolding sees lookahead_at
name_spanned end s h k = absurd (true≢false (sym h))
name_spanned (leaf x sp r) s h k = ap (λ z. Some z) (sym k)
name_spanned (punct c j sp r) s h k = absurd (true≢false (sym (and_left (sees at_name (punct c j sp r)) _ h) ∙ no_name c j sp r))
name_spanned (group d o c i r) s h k = absurd (true≢false (sym h))

-- a name before what follows it
abbrev pub with_name : Syntax → Syntax → Syntax
with_name name s = Both (first name) (Both (second name) s)

abbrev supplied_at_span : Span → Syntax
supplied_at_span sp = Both (wild_at (Some sp)) (Mark ((58, sp) ∷ []))

module _ (g : Grammar) (ts : Stream) (some : nullable start_of g ≡ false) where
  spanned : (sp : Span) → leaf_span ts ≡ Some sp → (r : Stream) → left r < left ts → first_span ts r ≡ Some sp
  unfolding first_span
  spanned sp e r k = ap (λ b. only b (leaf_span ts)) (lt-ltb (left r) (left ts) k) ∙ e

  fewer : (s : Syntax) (r : Stream) → parse_form g ts ≡ Some (s, r) → left r < left ts
  fewer s r e = by (nullable start_of g) some (runs_shrinks parse_rule parse_rule_less g ts (s, r) e)
    where
      by : (b : Bool) → b ≡ false → Less b ts r → left r < left ts
      by false q k = k
      by true q k = absurd (true≢false q)

  unnamed_is : (sp : Span) → leaf_span ts ≡ Some sp → supplied_to ts (parse_form g ts) (parse_rule pattern) ≡ wrap (with_name (supplied_at_span sp)) (parse_form g ts)
  unfolding is_end
  unnamed_is sp at_first = go (parse_form g ts) refl
    where
      go : (o : Out) → parse_form g ts ≡ o → supplied_to ts o (parse_rule pattern) ≡ wrap (with_name (supplied_at_span sp)) o
      go None e = refl
      go (Some p) e = ap (λ z. supplied_at p.0 p.1 z (parse_rule pattern)) (spanned sp at_first p.1 (fewer p.0 p.1 e)) ∙ ap (name_supplied p.0 p.1 sp) (underscore_read sp)

  named_is : (o : Out) → and_then o (λ m. and_then (take_mark colon m) (parse_form g)) ≡ after (and_then o (take_mark colon)) (λ name m. wrap (with_name name) (parse_form g m))
  named_is None = refl
  named_is (Some p) = go (take_mark colon p.1)
    where
      inner : (c : Syntax) (o : Out) → wrap (Both p.0) (wrap (Both c) o) ≡ wrap (with_name (Both p.0 c)) o
      inner c None = refl
      inner c (Some q) = refl

      go : (o : Out) → wrap (Both p.0) (and_then o (parse_form g)) ≡ after (wrap (Both p.0) o) (λ name m. wrap (with_name name) (parse_form g m))
      go None = refl
      go (Some c) = inner c.0 (parse_form g c.1)

  pub supplied_is : parse_form (supplied Before_less (rule pattern) g) ts ≡ after (named_pattern ts) (λ name m. wrap (with_name name) (parse_form g m))
  unfolding named_pattern
  supplied_is = go (sees (at_unnamed Before_less) ts) refl
    where
      go : (b : Bool) → sees (at_unnamed Before_less) ts ≡ b →
          named_or_not b (parse_rule pattern) (parse_form g) ts ≡ after (pick b (supplied_name (leaf_span ts) ts) (parse_form (rule pattern & punctuation colon) ts)) (λ name m. wrap (with_name name) (parse_form g m))
      go true h =
          let (sp, e) = name_present ts h in
          unnamed_is sp e ∙ ap (λ z. after (supplied_name z ts) (λ name m. wrap (with_name name) (parse_form g m))) (sym e)
      go false h = named_is (parse_rule pattern ts)
