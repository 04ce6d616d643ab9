-- Positions at which a text may be cut.
use Rattle.std.proofs.Common.{◌≡◌, ℕ, ◌+◌, ◌-◌, List, ◌++◌, drop, length, ap, sym, ◌∙◌, subst, arith, inl, inr}
use Rattle.std.specs.Str.{IsUtf8, IsCharBoundary}
use Rattle.std.proofs.Math.Seq.{drop-append_seam}
use Rattle.std.proofs.lemmas.Bool.{cases_lt}
use Rattle.std.proofs.lemmas.List.{length-drop, drop-drop}
use Rattle.std.proofs.lemmas.Str.{IsCharBoundary-from_drop, IsCharBoundary-end}
use Rattle.syn_reader.specs.Places.{EndsWith}

boundary_at : (text rest : List ℕ) (j : ℕ) → rest ≡ drop j text → IsUtf8 rest → IsCharBoundary text (length text - length rest)
boundary_at text rest j r u =
    let l : length rest ≡ length text - j = ap length r ∙ length-drop j text in
    elim (cases_lt (length text) j) as (λ _. IsCharBoundary text (length text - length rest)) [
      | inl over ↦
          let e : length text - length rest ≡ length text = omega (arith, l, over) in
          rw e (IsCharBoundary-end text)
      | inr within ↦
          let e : length text - length rest ≡ j = omega (arith, l, within) in
          rw e (IsCharBoundary-from_drop text j within (subst IsUtf8 r u))
    ]

-- the rest after a position starts at a character boundary
pub boundary_of_rest : (text rest : List ℕ) (i : ℕ) → EndsWith (drop i text) rest → IsUtf8 rest → IsCharBoundary text (length text - length rest)
boundary_of_rest text rest i e u = boundary_at text rest (i + e.0) (e.1 ∙ drop-drop e.0 i text) u

-- the text after a prefix is a suffix
pub ends_after : (text front rest : List ℕ) → text ≡ front ++ rest → EndsWith text rest
ends_after text front rest e = (length front, sym (ap (drop (length front)) e ∙ drop-append_seam front rest))
