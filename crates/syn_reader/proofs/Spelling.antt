-- The token streams of texts, composed and decomposed.
use Rattle.std.proofs.Common.{◌≡◌, ℕ, ◌+◌, ◌-◌, ◌<◌, ◌≤◌, List, [], ◌∷◌, ◌++◌, take, drop, length, refl, ap, sym, ◌∙◌, arith, append_assoc, append-nil}
use Rattle.std.specs.Char.{is_not_whitespace}
use Rattle.std.proofs.lemmas.List.{length-append, length-drop, drop-drop}
use Rattle.std.proofs.lemmas.Str.{NoCharPasses-nil, NoCharPasses-append}
use Rattle.std.proofs.Math.Seq.{drop-append_seam, take-append_seam}
use Rattle.syn_grammar.specs.Tokens.{Span}
use Rattle.syn_reader.specs.Spelling.{Present, IsBlank, Piece, IsPieceAt, IsCut, tokens_of, all_tokens}

-- BYTES IN A TEXT

-- what comes before the rest of a text ends where the rest starts
pub is_before : (text front rest : List ℕ) (i : ℕ) → i ≤ length text → drop i text ≡ front ++ rest → Present text front i (length text - length rest)
is_before text front rest i h e =
    let l : length text - i ≡ length front + length rest = sym (length-drop i text) ∙ (ap length e ∙ length-append front rest) in
    let j : length text - length rest ≡ i + length front = omega (arith, h, l) in
    let following : drop (length text - length rest) text ≡ rest =
    ap (λ n. drop n text) j ∙ (sym (drop-drop (length front) i text) ∙ (ap (drop (length front)) e ∙ drop-append_seam front rest)) in
    record { split = e ∙ ap (λ r. front ++ r) (sym following); ends = j }

pub present_append : {text x y : List ℕ} {i j k : ℕ} → Present text x i j → Present text y j k → Present text (x ++ y) i k
present_append {text} {x} {y} {i} {j} {k} a b = record {
  split = a.split ∙ (ap (λ r. x ++ r) b.split ∙ sym (append_assoc x y (drop k text)));
  ends = b.ends ∙ (ap (λ n. n + length y) a.ends ∙ omega (arith, length-append x y));
}

-- no other bytes are there
pub is_alone : {text x y : List ℕ} {i j : ℕ} → Present text x i j → Present text y i j → x ≡ y
is_alone {text} {x} {y} {i} {j} a b =
    let l : length x ≡ length y = omega (arith, a.ends, b.ends) in
    sym (take-append_seam x (drop j text)) ∙ (ap (take (length x)) (sym a.split ∙ b.split) ∙ (ap (λ n. take n (y ++ drop j text)) l ∙ take-append_seam y (drop j text)))

-- nonempty bytes in a text end at most at its end
pub present_within : {text x : List ℕ} {i j : ℕ} → Present text x i j → i < j → j ≤ length text
present_within {text} {x} {i} {j} h l =
    let e : length text - i ≡ length x + (length text - j) =
    sym (length-drop i text) ∙ (ap length h.split ∙ (length-append x (drop j text) ∙ ap (λ n. length x + n) (length-drop j text))) in
    omega (arith, e, h.ends, l)

pub blank_here : (text : List ℕ) (i : ℕ) → IsBlank text i i
blank_here text i = ([], NoCharPasses-nil is_not_whitespace, record { split = refl; ends = omega arith })

pub blank_append : (text : List ℕ) (i j k : ℕ) → IsBlank text i j → IsBlank text j k → IsBlank text i k
blank_append text i j k a b = (a.0 ++ b.0, NoCharPasses-append is_not_whitespace a.0 b.0 a.1 b.1, present_append a.2 b.2)

-- PIECES

-- white space before the first piece
pub cut_first : (text : List ℕ) (i j : ℕ) (ps : List (Piece × Span)) (k : ℕ) → IsBlank text i j → IsCut text j ps k → IsCut text i ps k
cut_first text i j [] k b h = blank_append text i j k b h
cut_first text i j ((p, s) ∷ ps) k b h = (blank_append text i j s.start b h.0, h.1, h.2)

-- and one more piece after the last
pub cut_more : (text : List ℕ) (i : ℕ) (ps : List (Piece × Span)) (j : ℕ) (p : Piece) (s : Span) → IsCut text i ps j → IsBlank text j s.start
    → IsPieceAt text p s.start s.stop → IsCut text i (ps ++ ((p, s) ∷ [])) s.stop
cut_more text i [] j p s h b g = (blank_append text i j s.start h b, g, blank_here text s.stop)
cut_more text i ((q, t) ∷ ps) j p s h b g = (h.0, h.1, cut_more text t.stop ps j p s h.2 b g)

-- white space after the last piece
pub cut_blank : (text : List ℕ) (i : ℕ) (ps : List (Piece × Span)) (j k : ℕ) → IsCut text i ps j → IsBlank text j k → IsCut text i ps k
cut_blank text i [] j k h b = blank_append text i j k h b
cut_blank text i ((q, t) ∷ ps) j k h b = (h.0, h.1, cut_blank text t.stop ps j k h.2 b)

-- the tokens of one more piece
pub tokens_more : (ps : List (Piece × Span)) (p : Piece) (s : Span) → all_tokens (ps ++ ((p, s) ∷ [])) ≡ all_tokens ps ++ tokens_of p s
tokens_more [] p s = append-nil (tokens_of p s)
tokens_more ((q, t) ∷ ps) p s = ap (λ l. tokens_of q t ++ l) (tokens_more ps p s) ∙ sym (append_assoc (tokens_of q t) (all_tokens ps) (tokens_of p s))
