-- Statements, where the first begins with a word and has no attribute: if no item is next, it is one that isn't stored verbatim.
use Rattle.std.proofs.Common.{◌≡◌, Bool, true, false, [], ◌∷◌, Some, None, refl, sym, ap, subst, ◌∙◌, true≢false}
use Rattle.syn_grammar.specs.Tokens.{Stream, pick}
use Rattle.syn_grammar.specs.Rules.{attributes, kept_in_block, statement_rest, statements}
use Rattle.syn_grammar.specs.Shape.{an_item}
use Rattle.syn_grammar.specs.Grammar.{Right, Grammar, ◌&◌, either, one_of, rule, shaped, when◌then◌else◌}
use Rattle.syn_grammar.specs.Table.{table, at_item}
use Rattle.syn_grammar.specs.Take.{Out, sees}
use Rattle.syn_grammar.specs.Run.{first_of, parse_form}
use Rattle.syn_parse.specs.Firsts.{Begins}
use Rattle.syn_parse.specs.declared.buffer.first.First.{First}
use Rattle.syn_parse.specs.declared.buffer.first.First.TheVariants as F
use Rattle.syn_recognize.specs.Within.{first, second}
use Rattle.syn_recognize.specs.Written.{Written, unwritten}
use Rattle.syn_recognize.specs.Copies.{Copy, Reached, Refused, copied, next, copy_form, capturing}
use Rattle.syn_recognize.specs.Ladder.{loud}
use Rattle.syn_recognize.specs.Opens.{Opens, pruned}
use Rattle.syn_recognize.specs.Stages.{planned_form}
use Rattle.syn_recognize.specs.declared.plan.Planned.TheVariants as Planned-m
use Rattle.syn_recognize.proofs.Ways.{way_right}
use Rattle.syn_recognize.proofs.Copied.{rule_is, shaped_is, then_is, when_is, wrapped}
use Rattle.syn_recognize.proofs.WrittenAside.{captured_is}
use Rattle.syn_recognize.proofs.Ladder.{silent}
use Rattle.syn_recognize.proofs.Opened.{pruned_is}

-- the two ways of the list: an item that is stored verbatim, or another statement
abbrev list : Grammar
list = planned_form Planned-m.Statements

is_read : Copy → Bool
is_read Refused = false
is_read _ = true

not_read : (w : Written) (o : Out) → copied w o ≡ Refused → o ≡ None
unfolding is_read
not_read w None e = refl
not_read w (Some p) e = absurd (true≢false (ap is_read e))

-- where the first of two forms isn't read, the second is
none_first : (g h : Grammar) (w : Written) (ts : Stream) → copy_form g w ts ≡ Refused → copy_form (either g h) w ts ≡ copy_form h w ts
unfolding copy_form
none_first g h w ts e = ap (λ o. copied w (first_of o (parse_form h ts))) (not_read w (parse_form g ts) e) ∙ wrapped Right way_right w (parse_form h ts)

module _ (f : First) (ts : Stream) (b : Begins f ts) (q : loud (table attributes) f ≡ false) (e : sees at_item ts ≡ false) where
  unmarked : (w : Written) → copy_form (rule attributes) w ts ≡ Reached w ts
  unmarked w = rule_is attributes (table attributes) w ts refl ∙ silent (table attributes) f w ts b q

  following : (g h : Grammar) (w : Written) → copy_form (rule attributes & (when at_item then g else h)) w ts ≡ copy_form h w ts
  following g h w =
      then_is (rule attributes) (when at_item then g else h) w ts ∙ ap (λ o. next o (copy_form (when at_item then g else h))) (unmarked w)
      ∙ when_is at_item g h w ts ∙ ap (λ a. pick a (copy_form g w ts) (copy_form h w ts)) e

  nothing : (w : Written) → copy_form (one_of []) w ts ≡ Refused
  unfolding copy_form
  nothing w = refl

  abbrev kept : Grammar
  kept = first (table kept_in_block)

  not_kept : (w : Written) → copy_form (first list) w ts ≡ Refused
  not_kept w =
      then_is (shaped an_item (rule kept_in_block)) (rule statements) w ts
      ∙ ap (λ o. next o (copy_form (rule statements)))
      (shaped_is an_item (rule kept_in_block) w ts ∙ rule_is kept_in_block (table kept_in_block) w ts refl ∙ captured_is kept w ts
      ∙ ap (λ o. next o (capturing w ts)) (following (first (second kept)) (second (second kept)) unwritten ∙ nothing unwritten))

  other : (w : Written) → copy_form list w ts ≡ copy_form (rule statement_rest) w ts
  other w = none_first (first list) (second list) w ts (not_kept w) ∙ following (first (second (second list))) (rule statement_rest) w

-- the form of a list, where no attribute is next
abbrev pub listed : Grammar
listed = when at_item then list else rule statement_rest

listed_as : (f : First) → pruned (statements ∷ []) 30 f (rule statements) ≡ list → loud (table attributes) f ≡ false → Opens f listed statements
unfolding Opens
listed_as f p q = λ w ts b.
    sym (pruned_is (statements ∷ []) 30 f (rule statements) ts b w) ∙ ap (λ g. copy_form g w ts) p
    ∙ sym (when_is at_item list (rule statement_rest) w ts ∙ go w ts b (sees at_item ts) refl)
  where
    go : (w : Written) (ts : Stream) → Begins f ts → (a : Bool) → sees at_item ts ≡ a → pick a (copy_form list w ts) (copy_form (rule statement_rest) w ts) ≡ copy_form list w ts
    go w ts b true e = refl
    go w ts b false e = sym (other f ts b q e w)

pub listed_by_name : (f : First) → f ≡ F.Name → Opens f listed statements
listed_by_name f e = subst (λ z. Opens z listed statements) (sym e) (listed_as F.Name refl refl)

pub listed_by_keyword : (f : First) → f ≡ F.Keyword → Opens f listed statements
listed_by_keyword f e = subst (λ z. Opens z listed statements) (sym e) (listed_as F.Keyword refl refl)
