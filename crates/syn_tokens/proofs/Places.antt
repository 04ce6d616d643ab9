-- Trees by their indices.
use Rattle.std.proofs.Common.{◌≡◌, ℕ, zero, suc, ◌-◌, ◌≤◌, List, ◌∷◌, ◌++◌, length, length-append, take, min, refl, sym, ap, ◌∙◌, append_assoc, arith}
use Rattle.std.proofs.lemmas.List.{take_at}
use Rattle.syn_grammar.specs.Tokens.{Stream, end, leaf, punct, group}
use Rattle.syn_grammar.specs.Take as grammar
use Rattle.syn_tokens.specs.Entries.{leaf_entry, punct_entry, open_entry, close_entry, encode}
use Rattle.syn_tokens.specs.Cursors.{before_next}
use Rattle.syn_tokens.specs.Places.{place, after}
use Rattle.syn_tokens.specs.declared.stream.entry.Token.{Token as Entry}
use Rattle.syn_tokens.specs.declared.stream.cursor.TokenTreeRef.{TokenTreeRef}
use Rattle.syn_tokens.specs.declared.stream.cursor.TokenTreeRef.TheVariants as N

after_next : (x : TokenTreeRef) (r : Stream) → after 1 (before_next x r) ≡ r
after_next (N.Ident i) r = refl
after_next (N.Literal l) r = refl
after_next (N.Punct p) r = refl
after_next (N.Group g) r = refl

after_more : (n : ℕ) (ts : Stream) → after (suc n) ts ≡ after 1 (after n ts)
after_more zero ts = refl
after_more (suc n) end = refl
after_more (suc n) (leaf x sp m) = after_more n m
after_more (suc n) (punct c j sp m) = after_more n m
after_more (suc n) (group d o c i m) = after_more n m

-- one tree further
pub after_one : (n : ℕ) (ts : Stream) (x : TokenTreeRef) (r : Stream) → after n ts ≡ before_next x r → after (suc n) ts ≡ r
after_one n ts x r e = after_more n ts ∙ ap (after 1) e ∙ after_next x r

after_end : (n : ℕ) → after n end ≡ end
after_end zero = refl
after_end (suc n) = refl

-- nothing follows the end
pub after_ended : (n k : ℕ) (ts : Stream) → after n ts ≡ end → n ≤ k → after k ts ≡ end
after_ended zero k ts e h = ap (after k) e ∙ after_end k
after_ended (suc n) zero ts e h = absurd (omega arith)
after_ended (suc n) (suc k) end e h = refl
after_ended (suc n) (suc k) (leaf x sp m) e h = after_ended n k m e (omega arith)
after_ended (suc n) (suc k) (punct c j sp m) e h = after_ended n k m e (omega arith)
after_ended (suc n) (suc k) (group d o c i m) e h = after_ended n k m e (omega arith)

-- the entries of the first few trees, and then those of the others
pub encode_first : (n : ℕ) (ts : Stream) → encode ts ≡ encode (grammar.first n ts) ++ encode (after n ts)
encode_first zero ts = refl
encode_first (suc n) end = refl
encode_first (suc n) (leaf x sp m) = ap (λ es. leaf_entry x sp ∷ es) (encode_first n m)
encode_first (suc n) (punct c j sp m) = ap (λ es. punct_entry c j sp ∷ es) (encode_first n m)
encode_first (suc n) (group d o c i m) =
    ap (λ es. open_entry d o (length (encode i)) ∷ (encode i ++ close_entry d c (grammar.length i) ∷ es)) (encode_first n m)
    ∙ ap (λ es. open_entry d o (length (encode i)) ∷ es) (sym (append_assoc (encode i) (close_entry d c (grammar.length i) ∷ encode (grammar.first n m)) (encode (after n m))))

pub length_first : (n : ℕ) (ts : Stream) → grammar.length (grammar.first n ts) ≡ min (grammar.length ts) n
length_first zero ts = omega arith
length_first (suc n) end = omega arith
length_first (suc n) (leaf x sp m) = omega (arith, length_first n m)
length_first (suc n) (punct c j sp m) = omega (arith, length_first n m)
length_first (suc n) (group d o c i m) = omega (arith, length_first n m)

-- the tree at an index is the first after those before it
pub place_is : (n : ℕ) (ts : Stream) (x : TokenTreeRef) (r : Stream) → after n ts ≡ before_next x r → place n ts ≡ before_next x end
place_is n ts x r e = go n ts ∙ ap (place 0) e ∙ one x r
  where
    go : (n : ℕ) (ts : Stream) → place n ts ≡ place 0 (after n ts)
    go zero ts = refl
    go (suc n) end = refl
    go (suc n) (leaf y sp m) = go n m
    go (suc n) (punct c j sp m) = go n m
    go (suc n) (group d o c i m) = go n m

    one : (x : TokenTreeRef) (r : Stream) → place 0 (before_next x r) ≡ before_next x end
    one (N.Ident i) r = refl
    one (N.Literal l) r = refl
    one (N.Punct p) r = refl
    one (N.Group g) r = refl

pub no_place : (n : ℕ) (ts : Stream) → after n ts ≡ end → place n ts ≡ end
no_place zero ts e = ap (place 0) e
no_place (suc n) end e = refl
no_place (suc n) (leaf y sp m) e = no_place n m e
no_place (suc n) (punct c j sp m) e = no_place n m e
no_place (suc n) (group d o c i m) e = no_place n m e

-- where the entries of the first few trees end
pub front_fits : (n : ℕ) (ts : Stream) (es rest : List Entry) → es ≡ encode ts → rest ≡ encode (after n ts) → length rest ≤ length es
front_fits n ts es rest e f = omega (arith, ap length e, ap length f, ap length (encode_first n ts), length-append (encode (grammar.first n ts)) (encode (after n ts)))

pub front_is : (n : ℕ) (ts : Stream) (es rest : List Entry) → es ≡ encode ts → rest ≡ encode (after n ts) → take (length es - length rest) es ≡ encode (grammar.first n ts)
front_is n ts es rest e f =
    let long : length (encode (grammar.first n ts)) ≡ length es - length rest =
    omega (arith, ap length e, ap length f, ap length (encode_first n ts), length-append (encode (grammar.first n ts)) (encode (after n ts))) in
    ap (take (length es - length rest)) (e ∙ encode_first n ts) ∙ take_at (encode (grammar.first n ts)) (encode (after n ts)) (length es - length rest) long

-- and these entries, from their number alone
pub cut_first : (n : ℕ) (ts : Stream) (es : List Entry) (k : ℕ) → es ≡ encode ts → k ≡ length (encode (grammar.first n ts)) → take k es ≡ encode (grammar.first n ts)
cut_first n ts es k e h = ap (take k) (e ∙ encode_first n ts) ∙ take_at (encode (grammar.first n ts)) (encode (after n ts)) k (sym h)
