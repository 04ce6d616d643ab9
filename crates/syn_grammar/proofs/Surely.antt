-- What is printed for sure: looks that hold of every lookahead with a terminal, or of none, whatever follows it.
use Rattle.std.proofs.Common.{◌≡◌, Bool, true, false, List, [], ◌∷◌, refl, sym, ap, ◌∙◌, ap₂, true≢false, ◌⊎◌, inl, inr}
use Rattle.syn_grammar.specs.Tokens.{or, and, no, pick, Terminal, Lookahead, lookahead_with, Fact, same_fact, has_fact, mem, Look, ended, at_name, at_word, at_mark, at_literal, at_group, at_empty_group, ahead, ◌or_else◌, ◌and_also◌, ◌but_not◌, answers, Asked, facts_for}
use Rattle.syn_grammar.proofs.Sets.{or_left, or_split, and_left, and_right, no_true, every, every_at, may, must, off_of, on_of, or_right}
use Rattle.syn_grammar.proofs.Marks.{and_off_left, and_off_right}

-- WHAT IS PRINTED FOR SURE: a lookahead with this terminal, and its conditions on the next one, which has one of these terminals
abbrev pub never_ahead : Fact → List Terminal → Asked → Bool
never_ahead n A [] = true
never_ahead n A (p ∷ l) = and (or (no (same_fact n p.1)) (every (λ e. no (may p.0 e)) A)) (never_ahead n A l)

-- the lookahead meets this condition (true), or doesn't (false)
abbrev pub surely : Bool → Asked → List Terminal → Look → Terminal → Bool
surely true l A (ahead n) f = false
surely false l A (ahead n) f = never_ahead n A l
surely true l A (a or_else b) f = or (surely true l A a f) (surely true l A b f)
surely false l A (a or_else b) f = and (surely false l A a f) (surely false l A b f)
surely true l A (a and_also b) f = and (surely true l A a f) (surely true l A b f)
surely false l A (a and_also b) f = or (surely false l A a f) (surely false l A b f)
surely true l A (a but_not b) f = and (surely true l A a f) (surely false l A b f)
surely false l A (a but_not b) f = or (surely false l A a f) (surely true l A b f)
surely true l A c f = must c f
surely false l A c f = no (may c f)

never_ahead_sound : (n : Fact) (A : List Terminal) (l : Asked) (z : Lookahead) → mem z.terminal A ≡ true → never_ahead n A l ≡ true → has_fact n (facts_for l z) ≡ false
never_ahead_sound n A [] z e w = refl
never_ahead_sound n A (p ∷ l) z e w =
    let ih = never_ahead_sound n A l z e (and_right (or (no (same_fact n p.1)) (every (λ e. no (may p.0 e)) A)) _ w) in
    go (or_split (no (same_fact n p.1)) _ (and_left (or (no (same_fact n p.1)) (every (λ e. no (may p.0 e)) A)) _ w)) ih
  where
    other : (v : Bool) → same_fact n p.1 ≡ false → has_fact n (facts_for l z) ≡ false → has_fact n (pick v (p.1 ∷ facts_for l z) (facts_for l z)) ≡ false
    other true q ih = ap (λ b. or b (has_fact n (facts_for l z))) q ∙ ih
    other false q ih = ih

    go : (no (same_fact n p.1) ≡ true) ⊎ (every (λ e. no (may p.0 e)) A ≡ true) → has_fact n (facts_for l z) ≡ false → has_fact n (pick (answers p.0 z) (p.1 ∷ facts_for l z) (facts_for l z)) ≡ false
    go (inl q) ih = other (answers p.0 z) (no_true (same_fact n p.1) q) ih
    go (inr q) ih = ap (λ v. has_fact n (pick v (p.1 ∷ facts_for l z) (facts_for l z))) (off_of p.0 z (every_at (λ e. no (may p.0 e)) z.terminal A q e)) ∙ ih

either_true : (a b x y : Bool) → (a ≡ true → x ≡ true) → (b ≡ true → y ≡ true) → or a b ≡ true → or x y ≡ true
either_true true b x y k l w = or_left x y (k refl)
either_true false b x y k l w = or_right x y (l w)

either_false : (a b x y : Bool) → (a ≡ true → x ≡ false) → (b ≡ true → y ≡ false) → or a b ≡ true → and x y ≡ false
either_false true b x y k l w = and_off_left x y (k refl)
either_false false b x y k l w = and_off_right x y (l w)

pub surely_sound : (v : Bool) (l : Asked) (A : List Terminal) (c : Look) (f : Terminal) (z : Lookahead) → mem z.terminal A ≡ true → surely v l A c f ≡ true → answers c (lookahead_with f (facts_for l z)) ≡ v
surely_sound true l A (ahead n) f z e w = absurd (true≢false (sym w))
surely_sound false l A (ahead n) f z e w = never_ahead_sound n A l z e w
surely_sound true l A (a or_else b) f z e w = either_true (surely true l A a f) (surely true l A b f) (answers a (lookahead_with f (facts_for l z))) (answers b (lookahead_with f (facts_for l z))) (surely_sound true l A a f z e) (surely_sound true l A b f z e) w
surely_sound false l A (a or_else b) f z e w = ap₂ or (surely_sound false l A a f z e (and_left (surely false l A a f) _ w)) (surely_sound false l A b f z e (and_right (surely false l A a f) _ w))
surely_sound true l A (a and_also b) f z e w = ap₂ and (surely_sound true l A a f z e (and_left (surely true l A a f) _ w)) (surely_sound true l A b f z e (and_right (surely true l A a f) _ w))
surely_sound false l A (a and_also b) f z e w = either_false (surely false l A a f) (surely false l A b f) (answers a (lookahead_with f (facts_for l z))) (answers b (lookahead_with f (facts_for l z))) (surely_sound false l A a f z e) (surely_sound false l A b f z e) w
surely_sound true l A (a but_not b) f z e w =
    ap₂ (λ x y. and x (no y)) (surely_sound true l A a f z e (and_left (surely true l A a f) _ w)) (surely_sound false l A b f z e (and_right (surely true l A a f) _ w))
surely_sound false l A (a but_not b) f z e w =
    either_false (surely false l A a f) (surely true l A b f) (answers a (lookahead_with f (facts_for l z))) (no (answers b (lookahead_with f (facts_for l z)))) (surely_sound false l A a f z e) (λ q. ap no (surely_sound true l A b f z e q)) w
surely_sound true l A ended f z e w = on_of ended (lookahead_with f (facts_for l z)) w
surely_sound true l A at_name f z e w = on_of at_name (lookahead_with f (facts_for l z)) w
surely_sound true l A (at_word x) f z e w = on_of (at_word x) (lookahead_with f (facts_for l z)) w
surely_sound true l A (at_mark x) f z e w = on_of (at_mark x) (lookahead_with f (facts_for l z)) w
surely_sound true l A (at_literal x) f z e w = on_of (at_literal x) (lookahead_with f (facts_for l z)) w
surely_sound true l A (at_group x) f z e w = on_of (at_group x) (lookahead_with f (facts_for l z)) w
surely_sound true l A at_empty_group f z e w = on_of at_empty_group (lookahead_with f (facts_for l z)) w
surely_sound false l A ended f z e w = off_of ended (lookahead_with f (facts_for l z)) w
surely_sound false l A at_name f z e w = off_of at_name (lookahead_with f (facts_for l z)) w
surely_sound false l A (at_word x) f z e w = off_of (at_word x) (lookahead_with f (facts_for l z)) w
surely_sound false l A (at_mark x) f z e w = off_of (at_mark x) (lookahead_with f (facts_for l z)) w
surely_sound false l A (at_literal x) f z e w = off_of (at_literal x) (lookahead_with f (facts_for l z)) w
surely_sound false l A (at_group x) f z e w = off_of (at_group x) (lookahead_with f (facts_for l z)) w
surely_sound false l A at_empty_group f z e w = off_of at_empty_group (lookahead_with f (facts_for l z)) w
