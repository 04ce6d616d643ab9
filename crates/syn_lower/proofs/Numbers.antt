-- Numbers by their decimal digits.
use Rattle.std.proofs.Common.{◌≡◌, ℕ, ◌<◌, ◌^◌, true, ◌==◌, decimal, subst}
use Rattle.std.specs.Cmp.{both_ways}
use Rattle.std.proofs.lemmas.Bool.{eq-eqb, eqb-true}
use Rattle.std.proofs.lemmas.Fmt.{decimal_injective}
use Rattle.syn_grammar.specs.Tokens.{same_text}
use Rattle.syn_grammar.proofs.Sets.{same_text_eq, same_text_refl}

-- two numbers are equal exactly where their decimal digits are
pub same_number : (m n : ℕ) → m < 2 ^ 64 → n < 2 ^ 64 → (m == n) ≡ same_text (decimal m) (decimal n)
same_number m n p q = both_ways (m == n) (same_text (decimal m) (decimal n))
    (λ e. subst (λ k. same_text (decimal m) (decimal k) ≡ true) (eqb-true m n e) (same_text_refl (decimal m)))
    (λ e. eq-eqb m n (decimal_injective m n p q (same_text_eq (decimal m) (decimal n) e)))
