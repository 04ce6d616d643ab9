-- The same tokens, spans too.
use Rattle.std.proofs.Common.{◌≡◌, ℕ, List, ◌∷◌, drop, get_or, length, ◌+◌, ◌<◌, ◌≤◌, refl, sym, ap₂, ◌∙◌}
use Rattle.std.proofs.lemmas.List.{at_drop_more, drop_all}
use Rattle.syn_grammar.specs.Tokens.{Stream}
use Rattle.syn_tokens.specs.Entries.{encode}
use Rattle.syn_tokens.proofs.Entries.{decoded}
use Rattle.syn_tokens.specs.declared.stream.entry.Token.{Token as Entry}

pub same_entries : (a b : Stream) → encode a ≡ encode b → a ≡ b
same_entries a b e = sym (decoded (encode a) a refl) ∙ decoded (encode a) b e

pub drop_same : (l m : List Entry) (i : ℕ) (x y : Entry) → i < length l → i < length m → x ≡ get_or l i x → y ≡ get_or m i y → x ≡ y → drop (i + 1) l ≡ drop (i + 1) m → drop i l ≡ drop i m
drop_same l m i x y h k e f g s =
    at_drop_more (λ z. z) l i x h ∙ ap₂ (λ u v. u ∷ v) (sym e ∙ g ∙ f) s ∙ sym (at_drop_more (λ z. z) m i y k)

pub all_same : (a b : Stream) (i : ℕ) → length (encode a) ≤ i → length (encode b) ≤ i → (drop i (encode a) ≡ drop i (encode b) → encode a ≡ encode b) → a ≡ b
all_same a b i h k f = same_entries a b (f (drop_all i (encode a) h ∙ sym (drop_all i (encode b) k)))
