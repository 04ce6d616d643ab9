-- Tests of equality are equivalences.
use Rattle.std.specs.Prelude.{◌≡◌, Bool, true}
use Rattle.std.specs.Cmp.{IsEquivalence, IsPartialEquivalence, partial_equiv_from_equiv, both_ways}
use Rattle.std.specs.Cmp.Lexicographic.{nat_list_eq_equiv}
use Rattle.std.proofs.Common.{subst, refl, sym, ◌∙◌}
use Rattle.syn_grammar.specs.Tokens.{same_text}
use Rattle.syn_grammar.proofs.Same.{bytes_same_text}

-- a test whether two values have the same view
pub equiv_from_view : {K V : Type 0} (view : K → V) (E : K → K → Bool) → ((x y : K) → E x y ≡ true → view x ≡ view y) → ((x y : K) → view x ≡ view y → E x y ≡ true) → IsEquivalence E
equiv_from_view view E to from = record {
  refl = λ x. from x x refl;
  symm = λ x y. both_ways (E x y) (E y x) (λ h. from y x (sym (to x y h))) (λ h. from x y (sym (to y x h)));
  congr = λ x y z e. both_ways (E x z) (E y z) (λ h. from y z (sym (to x y e) ∙ to x z h)) (λ h. from x z (to x y e ∙ to y z h));
}

-- the grammar's comparison of texts
pub same_text_equiv : IsEquivalence same_text
same_text_equiv = subst IsEquivalence (λ i x y. bytes_same_text x y i) nat_list_eq_equiv

pub same_text_per : IsPartialEquivalence same_text
same_text_per = partial_equiv_from_equiv same_text_equiv
