-- The text that is written for a doc comment.
use Rattle.std.proofs.Common.{◌≡◌, ℕ, List, [], ◌∷◌, ◌++◌, length, ap, sym, ◌∙◌, arith, append_assoc}
use Rattle.std.specs.Char.{encode_utf8}
use Rattle.std.specs.Str.{IsUtf8, chars}
use Rattle.std.proofs.lemmas.Str.{chars-nil, chars_past_char}
use Rattle.syn_reader.specs.Docs.{escaped, all_escaped}

-- one more character
pub escaped_more : (written text rest : List ℕ) (c : ℕ) (last : List ℕ) → IsUtf8 text → text ≡ encode_utf8 c ++ rest
    → (written ++ escaped c) ++ (all_escaped (chars rest) ++ last) ≡ written ++ (all_escaped (chars text) ++ last)
escaped_more written text rest c last u e =
    append_assoc written (escaped c) (all_escaped (chars rest) ++ last)
    ∙ ap (λ l. written ++ l) (sym (append_assoc (escaped c) (all_escaped (chars rest)) last) ∙ ap (λ l. all_escaped l ++ last) (sym (chars_past_char text rest c u e)))

-- no character remains
pub escaped_all : (written text last : List ℕ) → length text ≡ 0 → written ++ last ≡ written ++ (all_escaped (chars text) ++ last)
escaped_all written [] last e = ap (λ l. written ++ (all_escaped l ++ last)) (sym chars-nil)
escaped_all written (c ∷ text) last e = absurd (omega (arith, e))
