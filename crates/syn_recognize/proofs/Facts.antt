-- Facts that a token states of the tokens after it.
use Rattle.std.proofs.Common.{◌≡◌, Bool, true, false, [], ◌∷◌, ◌++◌, refl, sym, ap, ◌∙◌, true≢false}
use Rattle.syn_grammar.specs.Words.{Text, keywords, contextual}
use Rattle.syn_grammar.specs.Tokens.{ident, or, and, pick, has_fact, Fact, same_fact, Asked, Lookahead, facts_for, leaf_terminal, answers, is_word, one_of_texts, Word, Name, Look}
use Rattle.syn_grammar.proofs.Sets.{same_text_eq}

-- a lookahead that doesn't test a fact doesn't depend on it
abbrev pub asks : Fact → Asked → Bool
asks n [] = false
asks n (p ∷ l) = or (same_fact n p.1) (asks n l)

pub not_known : (n : Fact) (l : Asked) (f : Lookahead) → asks n l ≡ false → has_fact n (facts_for l f) ≡ false
not_known n [] f e = refl
not_known n (p ∷ l) f e = go (answers p.0 f) (same_fact n p.1) refl (not_known n l f)
  where
    go : (a b : Bool) → same_fact n p.1 ≡ b → (asks n l ≡ false → has_fact n (facts_for l f) ≡ false) → has_fact n (pick a (p.1 ∷ facts_for l f) (facts_for l f)) ≡ false
    go a true q h = absurd (true≢false (ap (λ z. or z (asks n l)) (sym q) ∙ e))
    go true false q h = ap (λ z. or z (has_fact n (facts_for l f))) q ∙ h (ap (λ z. or z (asks n l)) (sym q) ∙ e)
    go false false q h = h (ap (λ z. or z (asks n l)) (sym q) ∙ e)

-- of a condition that is stated first, without others after it
pub reported_first : (n : Fact) (c : Look) (l : Asked) (f : Lookahead) → same_fact n n ≡ true → asks n l ≡ false → has_fact n (facts_for ((c, n) ∷ l) f) ≡ answers c f
reported_first n c l f r e = go (answers c f)
  where
    go : (a : Bool) → has_fact n (pick a (n ∷ facts_for l f) (facts_for l f)) ≡ a
    go true = ap (λ z. or z (has_fact n (facts_for l f))) r
    go false = not_known n l f e

-- an identifier's terminal is this word's only where that is its text
pub word_face : (w x : Text) → is_word w (leaf_terminal (ident x)) ≡ true → x ≡ w
word_face w x e = go (one_of_texts x (keywords ++ contextual)) e
  where
    go : (b : Bool) → is_word w (pick b (Word x) Name) ≡ true → x ≡ w
    go true e = sym (same_text_eq w x e)
    go false e = absurd (true≢false (sym e))

pub and_same : (b c d : Bool) → (b ≡ true → c ≡ d) → and b c ≡ and b d
and_same true c d h = h refl
and_same false c d h = refl
