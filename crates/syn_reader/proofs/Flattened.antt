-- Flat lists of the tokens of streams.
use Rattle.std.proofs.Common.{◌≡◌, ℕ, Bool, true, false, ◌&&◌, List, [], ◌∷◌, ◌++◌, refl, ap, sym, ◌∙◌, append_assoc, true≢false}
use Rattle.std.specs.List.{list_all}
use Rattle.std.proofs.lemmas.List.Folds.{list_all-append}
use Rattle.syn_grammar.specs.Tokens.{Span, Stream, end, leaf, punct, group, ◌⧺◌, is_visible, visible}
use Rattle.syn_reader.specs.Flat.{Token, one, punctuation, opened, closed, flat}
use Rattle.syn_reader.specs.Spelling.{Piece, word, constant, mark, opening, closing, comment, doc, IsWhole, tokens_of, IsCut, all_tokens, Spells}

-- one stream after another
pub flat_append : (a b : Stream) → flat (a ⧺ b) ≡ flat a ++ flat b
flat_append end b = refl
flat_append (leaf x s m) b = ap (λ l. one x s ∷ l) (flat_append m b)
flat_append (punct c j s m) b = ap (λ l. punctuation c j s ∷ l) (flat_append m b)
flat_append (group d o c i m) b =
    ap (λ l. opened d o ∷ (flat i ++ (closed d c ∷ l))) (flat_append m b)
    ∙ ap (λ l. opened d o ∷ l) (sym (append_assoc (flat i) (closed d c ∷ flat m) (flat b)))

-- and after other tokens
pub flat_more : (around : List Token) (a b : Stream) → around ++ flat (a ⧺ b) ≡ (around ++ flat a) ++ flat b
flat_more around a b = ap (λ l. around ++ l) (flat_append a b) ∙ sym (append_assoc around (flat a) (flat b))

-- VISIBLE STREAMS

-- the token opens no invisible group
abbrev is_seen : Token → Bool
is_seen (one x s) = true
is_seen (punctuation c j s) = true
is_seen (opened d s) = is_visible d
is_seen (closed d s) = true

visible_by_tokens : (m : Stream) → list_all is_seen (flat m) ≡ true → visible m ≡ true
visible_by_tokens end h = refl
visible_by_tokens (leaf x s m) h = visible_by_tokens m h
visible_by_tokens (punct c j s m) h = visible_by_tokens m h
visible_by_tokens (group d o c i m) h =
    let parts = sym (list_all-append is_seen (flat i) (closed d c ∷ flat m)) ∙ second (is_visible d) _ h in
    rw (first (is_visible d) _ h, visible_by_tokens i (first (list_all is_seen (flat i)) _ parts), visible_by_tokens m (second (list_all is_seen (flat i)) _ parts)) refl
  where
    first : (a b : Bool) → (a && b) ≡ true → a ≡ true
    first true b e = refl
    first false b e = e

    second : (a b : Bool) → (a && b) ≡ true → b ≡ true
    second true b e = e
    second false b e = absurd (true≢false (sym e))

piece_is_seen : (text : List ℕ) (p : Piece) (i j : ℕ) (s : Span) → IsWhole text p i j → list_all is_seen (tokens_of p s) ≡ true
piece_is_seen text (word x) i j s h = refl
piece_is_seen text (constant k x) i j s h = refl
piece_is_seen text (mark c joint) i j s h = refl
piece_is_seen text (opening d) i j s h = rw h refl
piece_is_seen text (closing d) i j s h = refl
piece_is_seen text (comment x) i j s h = refl
piece_is_seen text (doc x true said) i j s h = refl
piece_is_seen text (doc x false said) i j s h = refl

cut_is_seen : (text : List ℕ) (i : ℕ) (ps : List (Piece × Span)) (j : ℕ) → IsCut text i ps j → list_all is_seen (all_tokens ps) ≡ true
cut_is_seen text i [] j h = refl
cut_is_seen text i ((p, s) ∷ ps) j h =
    list_all-append is_seen (tokens_of p s) (all_tokens ps) ∙ rw (piece_is_seen text p s.start s.stop s h.1.2, cut_is_seen text s.stop ps j h.2) refl

-- the stream of a text is visible
pub spells_visible : (text : List ℕ) (stream : Stream) → Spells text stream → visible stream ≡ true
spells_visible text stream (pieces, cut, same) = visible_by_tokens stream (ap (list_all is_seen) same ∙ cut_is_seen text 0 pieces _ cut)
