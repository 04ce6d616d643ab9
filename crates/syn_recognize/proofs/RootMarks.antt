-- Trees of a use with `::` before them, among entries.
use Rattle.std.proofs.Common.{◌≡◌, ℕ, ◌+◌, ◌<◌, ◌≤◌, length, drop, get_or, Bool, true, false, List, [], ◌∷◌, ◌++◌, refl, ap, ap₂, ◌∙◌}
use Rattle.std.proofs.lemmas.List.{at_drop_more, drop_all}
use Rattle.std.specs.Prelude.{nat_eq}
use Rattle.syn_grammar.specs.Tokens.{Stream, end, leaf, punct, group, Leaf, ident, literal, and, or}
use Rattle.syn_grammar.specs.DecidedByTokens.{roots}
use Rattle.syn_tokens.specs.Entries.{encode, leaf_entry, close_entry}
use Rattle.syn_tokens.specs.declared.stream.entry.Token.{Token as Entry}
use Rattle.syn_recognize.specs.RootMarks.{colon_entry, begins_entry, roots_in}

none_there : (b : Bool) (c v : Bool) → c ≡ false → or (and b c) v ≡ v
none_there true c v e = ap (λ z. or z v) e
none_there false c v e = refl

or_assoc : (a b c : Bool) → or a (or b c) ≡ or (or a b) c
or_assoc true b c = refl
or_assoc false b c = refl

-- after a token before which no tree begins
roots_append : (b : Bool) (l m : List Entry) (e : Entry) → colon_entry e ≡ false → begins_entry e ≡ false → roots_in b (l ++ e ∷ m) ≡ or (roots_in b l) (roots_in false m)
roots_append b [] m e f g = none_there b (colon_entry e) (roots_in (begins_entry e) m) f ∙ ap (λ z. roots_in z m) g
roots_append b (x ∷ l) m e f g = ap (or (and b (colon_entry x))) (roots_append (begins_entry x) l m e f g) ∙ or_assoc (and b (colon_entry x)) (roots_in (begins_entry x) l) (roots_in false m)

pub roots_are : (b : Bool) (i : Stream) → roots_in b (encode i) ≡ roots b i
roots_are b end = refl
roots_are b (leaf x sp m) = go x ∙ roots_are false m
  where
    go : (x : Leaf) → roots_in b (leaf_entry x sp ∷ encode m) ≡ roots_in false (encode m)
    go (ident y) = none_there b false (roots_in false (encode m)) refl
    go (literal k y) = none_there b false (roots_in false (encode m)) refl
roots_are b (punct c j sp m) = ap (or (and b (nat_eq c 58))) (roots_are (nat_eq c 44) m)
roots_are b (group d o c i m) =
    none_there b false (roots_in true (encode i ++ close_entry d c _ ∷ encode m)) refl ∙ roots_append true (encode i) (encode m) (close_entry d c _) refl refl ∙ ap₂ or (roots_are true i) (roots_are false m)

pub roots_step : (b : Bool) (l : List Entry) (i : ℕ) (e : Entry) → i < length l → roots_in b (drop i l) ≡ or (and b (colon_entry (get_or l i e))) (roots_in (begins_entry (get_or l i e)) (drop (i + 1) l))
roots_step b l i e h = at_drop_more (roots_in b) l i e h

pub roots_done : (b : Bool) (l : List Entry) (i : ℕ) → length l ≤ i → roots_in b (drop i l) ≡ false
roots_done b l i h = ap (roots_in b) (drop_all i l h)
