-- Marks are printed character by character.
use Rattle.std.proofs.Common.{◌≡◌, ℕ, zero, suc, ◌+◌, ◌<◌, ◌≤◌, true, nat_lt, List, [], ◌∷◌, length, drop, get_or, refl, ap, sym, ◌∙◌, add-one, arith}
use Rattle.std.specs.Prelude.{IsTrue}
use Rattle.std.proofs.lemmas.List.{drop_all}
use Rattle.std.proofs.lemmas.Bool.Decides.{nat_tests}
use Rattle.syn_grammar.specs.Words.{Text}
use Rattle.syn_grammar.specs.Tokens.{end, punct, ◌⧺◌}
use Rattle.syn_grammar.specs.Grammar.{spell}
use Rattle.syn_grammar.proofs.Sets.{and_left, and_right}
use Rattle.syn_tokens.specs.Spans.{at}
use Rattle.syn_tokens.specs.Leaves.{placed}
use Rattle.syn_tokens.specs.Punct.{all_punct, is_punct_character}
use Rattle.syn_tokens.specs.declared.span.Span.{Span}

another : (n : ℕ) → true ≡ nat_lt (0 + 1) (suc (suc n))
another n = grind (arith, nat_tests)

one_less : (i n : ℕ) → nat_lt (suc i + 1) (suc n) ≡ nat_lt (i + 1) n
one_less i n = grind (arith, nat_tests)

dropped : {X : Type 0} (p : X) (ps : List X) (i : ℕ) → drop (i + 1) ps ≡ drop (suc i + 1) (p ∷ ps)
dropped p ps i = ap (λ n. drop n ps) (add-one i) ∙ sym (ap (λ n. drop n (p ∷ ps)) (add-one (suc i)))

few_placed : (x : Text) (l : List Span) → length (placed x l) ≤ length x
few_placed [] l = omega arith
few_placed (c ∷ x) [] = omega arith
few_placed (c ∷ x) (s ∷ l) = omega (arith, few_placed x l)

-- the characters from this one on, and whether another follows it
pub next_character : (x : Text) (l : List Span) (i : ℕ) (c : ℕ) (s : Span) → length x ≡ length l → i < length x →
    spell (drop i (placed x l)) end ≡ punct (get_or x i c) (nat_lt (i + 1) (length x)) (at (get_or l i s)) end ⧺ spell (drop (i + 1) (placed x l)) end
next_character [] l i c s e h = absurd (omega arith)
next_character (a ∷ x) [] i c s e h = absurd (omega arith)
next_character (a ∷ []) (b ∷ []) zero c s e h = refl
next_character (a ∷ []) (b ∷ b' ∷ l) zero c s e h = absurd (omega arith)
next_character (a ∷ a' ∷ x) (b ∷ []) zero c s e h = absurd (omega arith)
next_character (a ∷ a' ∷ x) (b ∷ b' ∷ l) zero c s e h = ap (λ j. punct a j (at b) (spell (placed (a' ∷ x) (b' ∷ l)) end)) (another (length x))
next_character (a ∷ x) (b ∷ l) (suc i) c s e h =
    next_character x l i c s (omega arith) (omega arith)
    ∙ (λ k. punct (get_or x i c) (sym (one_less i (length x)) k) (at (get_or l i s)) (spell (dropped (a, at b) (placed x l) i k) end))

-- each of them is a character of marks
pub each_printable : (x : Text) (i c : ℕ) → all_punct x ≡ true → i < length x → IsTrue (is_punct_character (get_or x i c))
each_printable [] i c a h = absurd (omega arith)
each_printable (d ∷ x) zero c a h = and_left _ _ a
each_printable (d ∷ x) (suc i) c a h = each_printable x i c (and_right _ _ a) (omega arith)

-- none is left
pub no_character : (x : Text) (l : List Span) (i : ℕ) → length x ≤ i → spell (drop i (placed x l)) end ≡ end
no_character x l i h = ap (λ ps. spell ps end) (drop_all i (placed x l) (omega (arith, few_placed x l)))

pub ruleset marks = (next_character, each_printable, no_character)
