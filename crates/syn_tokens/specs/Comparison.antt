-- Comparisons that ignore spans.
use Rattle.std.specs.Prelude.{Bool}
use Rattle.std.specs.Cmp.{IsEquivalence, IsPartialEquivalence, partial_equiv_from_equiv, on_equiv}
use Rattle.syn_grammar.specs.Grammar.{Syntax, plain_syntax}
use Rattle.syn_grammar.specs.Same.{same_syntax}
use Rattle.syn_grammar.proofs.Same.{same_syntax_plain}
use Rattle.syn_tokens.specs.Equal.{equiv_from_view}

module _ {A : Type 0} (view : A → Syntax) where
  -- two values represent the same syntax
  abbrev pub same_by : A → A → Bool
  same_by a b = same_syntax (view a) (view b)

  pub same_equiv : IsEquivalence same_by
  same_equiv = on_equiv view (equiv_from_view plain_syntax same_syntax (λ s t. (same_syntax_plain s t).0) (λ s t. (same_syntax_plain s t).1))

  pub same_per : IsPartialEquivalence same_by
  same_per = partial_equiv_from_equiv same_equiv
