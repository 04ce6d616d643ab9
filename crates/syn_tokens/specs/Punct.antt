-- The characters of marks.
use Rattle.std.specs.Prelude.{◌≡◌, ℕ, Bool, true, false, List, [], ◌∷◌, codes, nat_eq, ◌==◌}
use Rattle.std.specs.Cmp.{IsEquivalence, IsPartialEquivalence, partial_equiv_from_equiv}
use Rattle.std.proofs.Common.{refl, sym, subst, true≢false}
use Rattle.std.proofs.lemmas.Bool.{eqb-true, eq-eqb}
use Rattle.syn_grammar.specs.Tokens.{and}
use Rattle.syn_grammar.specs.Same.{same_bool}
use Rattle.syn_grammar.proofs.Sets.{and_left, and_right}
use Rattle.syn_grammar.proofs.Same.{and_both}
use Rattle.syn_tokens.specs.Equal.{equiv_from_view}
use Rattle.std.specs.List.{list_any}
use Rattle.syn_tokens.specs.declared.span.Span.{Span}
use Rattle.syn_tokens.specs.declared.punct.Spacing.{Spacing}
use Rattle.syn_tokens.specs.declared.punct.Spacing.TheVariants.{Joint, Alone}

-- one character of a mark, as callers see it
pub record PunctValue : Type 0 where
  pub character : ℕ
  pub spacing : Spacing
  pub span : Span

-- the next character belongs to the same mark
abbrev pub is_joint : Spacing → Bool
is_joint Joint = true
is_joint Alone = false

-- the characters of marks
abbrev pub punct_characters : List ℕ
punct_characters = codes "~!@#$%^&*-=+|;:,<.>/?'"

unfoldable pub is_punct_character : ℕ → Bool
is_punct_character c = list_any (λ d. d == c) punct_characters

-- each of these
abbrev pub all_punct : List ℕ → Bool
all_punct [] = true
all_punct (c ∷ l) = and (is_punct_character c) (all_punct l)

-- the same character, and the next one belongs to the same mark or not
abbrev pub same_punct : PunctValue → PunctValue → Bool
same_punct a b = and (nat_eq a.character b.character) (same_bool (is_joint a.spacing) (is_joint b.spacing))

joint_same : (a b : Spacing) → same_bool (is_joint a) (is_joint b) ≡ true → a ≡ b
joint_same Joint Joint e = refl
joint_same Joint Alone e = absurd (true≢false (sym e))
joint_same Alone Joint e = absurd (true≢false (sym e))
joint_same Alone Alone e = refl

joint_refl : (a : Spacing) → same_bool (is_joint a) (is_joint a) ≡ true
joint_refl Joint = refl
joint_refl Alone = refl

abbrev shown : PunctValue → ℕ × Spacing
shown a = (a.character, a.spacing)

pub same_punct_equiv : IsEquivalence same_punct
same_punct_equiv = equiv_from_view shown same_punct
    (λ a b h. λ i. (eqb-true a.character b.character (and_left _ _ h) i, joint_same a.spacing b.spacing (and_right _ _ h) i))
    (λ a b e. subst (λ (p : ℕ × Spacing). and (nat_eq a.character p.0) (same_bool (is_joint a.spacing) (is_joint p.1)) ≡ true) e (and_both (eq-eqb a.character a.character refl) (joint_refl a.spacing)))

pub same_punct_per : IsPartialEquivalence same_punct
same_punct_per = partial_equiv_from_equiv same_punct_equiv
