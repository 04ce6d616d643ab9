-- The end of a block comment, step by step.
use Rattle.std.proofs.Common.{◌≡◌, ◌<◌, ◌+◌, ◌-◌, ℕ, zero, suc, Bool, true, false, ◌&&◌, ◌==◌, List, [], ◌∷◌, drop, if◌then◌else◌, Some, None, refl, ap, ◌∙◌, arith}
use Rattle.syn_reader.specs.Scanning.{begins_with, after_blocks}

pub blocks_step : (n c : ℕ) (cs : List ℕ) → after_blocks (suc n) (c ∷ cs)
    ≡ (if c == 42 && begins_with 47 cs then after_blocks n (drop 1 cs)
    else if c == 47 && begins_with 42 cs then after_blocks (suc (suc n)) (drop 1 cs) else after_blocks (suc n) cs)
unfolding after_blocks
blocks_step n c [] = go (c == 42) (c == 47)
  where
    go : (a b : Bool) → None ≡ (if a && false then after_blocks n [] else if b && false then after_blocks (suc (suc n)) [] else None)
    go true true = refl
    go true false = refl
    go false true = refl
    go false false = refl
blocks_step n c (d ∷ cs) = refl

-- a `*/`
pub blocks_close : (n c : ℕ) (cs ds es : List ℕ) → 0 < n → cs ≡ c ∷ ds → true ≡ (c == 42 && begins_with 47 ds) → es ≡ drop 1 ds → after_blocks n cs ≡ after_blocks (n - 1) es
blocks_close zero c cs ds es h e b d = absurd (omega (arith, h))
blocks_close (suc n) c cs ds es h e b d = ap (after_blocks (suc n)) e ∙ (rw (blocks_step n c ds, ← b, d, less n) refl)
  where
    less : (n : ℕ) → suc n - 1 ≡ n
    less n = omega arith

-- a `/*`
pub blocks_open : (n c : ℕ) (cs ds es : List ℕ) → 0 < n → cs ≡ c ∷ ds → false ≡ (c == 42 && begins_with 47 ds) → true ≡ (c == 47 && begins_with 42 ds) → es ≡ drop 1 ds
    → after_blocks n cs ≡ after_blocks (n + 1) es
blocks_open zero c cs ds es h e a b d = absurd (omega (arith, h))
blocks_open (suc n) c cs ds es h e a b d = ap (after_blocks (suc n)) e ∙ (rw (blocks_step n c ds, ← a, ← b, d, more n) refl)
  where
    more : (n : ℕ) → suc n + 1 ≡ suc (suc n)
    more n = omega arith

-- any other character
pub blocks_stay : (n c : ℕ) (cs ds : List ℕ) → 0 < n → cs ≡ c ∷ ds → false ≡ (c == 42 && begins_with 47 ds) → false ≡ (c == 47 && begins_with 42 ds) → after_blocks n cs ≡ after_blocks n ds
blocks_stay zero c cs ds h e a b = absurd (omega (arith, h))
blocks_stay (suc n) c cs ds h e a b = ap (after_blocks (suc n)) e ∙ (rw (blocks_step n c ds, ← a, ← b) refl)

pub blocks_end : (n : ℕ) (cs : List ℕ) → 0 < n → cs ≡ [] → after_blocks n cs ≡ None
unfolding after_blocks
blocks_end zero cs h e = absurd (omega (arith, h))
blocks_end (suc n) cs h e = ap (after_blocks (suc n)) e

pub blocks_done : (n : ℕ) (cs : List ℕ) → n ≡ 0 → after_blocks n cs ≡ Some cs
unfolding after_blocks
blocks_done n cs e = ap (λ k. after_blocks k cs) e
