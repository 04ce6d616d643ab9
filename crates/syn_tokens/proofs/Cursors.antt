-- The group that an opening delimiter starts.
use Rattle.std.proofs.Common.{◌≡◌, ℕ, suc, ◌-◌, List, [], ◌∷◌, ◌++◌, length, refl, sym, ap, ◌∙◌, arith}
use Rattle.syn_grammar.specs.Tokens as grammar
use Rattle.syn_grammar.specs.Tokens.{ident, literal, Stream, end, leaf, punct, group}
use Rattle.syn_grammar.specs.Take as count
use Rattle.syn_tokens.specs.Spans.{at}
use Rattle.syn_tokens.specs.Delimiters.{delimiter_of}
use Rattle.syn_tokens.specs.Entries.{from, delimiter_from, encode, decode, IsFlat}
use Rattle.syn_tokens.specs.Cursors.{Closes}
use Rattle.syn_tokens.proofs.Entries.{delimiter_back, decoded, is_flat}
use Rattle.syn_tokens.specs.declared.stream.entry.Open.{Open}
use Rattle.syn_tokens.specs.declared.stream.entry.Close.{Close}
use Rattle.syn_tokens.specs.declared.stream.entry.Token.{Token as Entry}
use Rattle.syn_tokens.specs.declared.stream.entry.Token.TheVariants as E

abbrev closing_of : grammar.Delimiter → grammar.Span → ℕ → Close
closing_of d c n = record { delimiter = delimiter_from d; span = from c; trees = n }

-- what follows an opening delimiter
record Begins (o : Open) (rest : List Entry) (ts : Stream) : Type 0 where
  pub inner : Stream
  pub after : Stream
  pub closing : Close
  pub whole : rest ≡ encode inner ++ E.Close closing ∷ encode after
  pub skip : length (encode inner) ≡ o.skip
  pub trees : count.length inner ≡ closing.trees
  pub is : ts ≡ group (delimiter_of o.delimiter) (at o.span) (at closing.span) inner after

begins : (o : Open) (rest : List Entry) (ts : Stream) → E.Open o ∷ rest ≡ encode ts → Begins o rest ts
begins o rest end h = absurd (cc)
begins o rest (leaf (ident x) sp m) h = absurd (cc)
begins o rest (leaf (literal k x) sp m) h = absurd (cc)
begins o rest (punct c j sp m) h = absurd (cc)
begins o rest (group d p c i m) h = record {
  inner = i;
  after = m;
  closing = closing_of d c (count.length i);
  whole = cc;
  skip = let e : o ≡ record { delimiter = delimiter_from d; span = from p; skip = length (encode i) } = cc in sym (ap (λ o. o.skip) e);
  trees = refl;
  is =
      let e : o ≡ record { delimiter = delimiter_from d; span = from p; skip = length (encode i) } = cc in
      ap (λ f. group f p c i m) (sym (delimiter_back d)) ∙ ap (λ (q : Open). group (delimiter_of q.delimiter) (at q.span) c i m) (sym e);
}

-- its closing delimiter is where it says
pub closes : (o : Open) (rest : List Entry) (n : ℕ) → IsFlat (E.Open o ∷ rest) n → Closes rest o.skip
closes o rest n flat =
    let b = begins o rest (decode (E.Open o ∷ rest)) flat.encoded in
    record { content = encode b.inner; closing = b.closing; rest = encode b.after; is = b.whole; long = b.skip }

-- two lists that are split at the same index
cut_left : (ws xs ys zs : List Entry) → ws ++ xs ≡ ys ++ zs → length ws ≡ length ys → ws ≡ ys
cut_left [] xs [] zs e h = refl
cut_left [] xs (c ∷ ys) zs e h = absurd (omega arith)
cut_left (a ∷ ws) xs [] zs e h = absurd (omega arith)
cut_left (a ∷ ws) xs (c ∷ ys) zs e h =
    let first : a ≡ c = cc in
    let rest : ws ++ xs ≡ ys ++ zs = cc in
    λ i. first i ∷ cut_left ws xs ys zs rest (omega arith) i

cut_right : (ws xs ys zs : List Entry) → ws ++ xs ≡ ys ++ zs → length ws ≡ length ys → xs ≡ zs
cut_right [] xs [] zs e h = e
cut_right [] xs (c ∷ ys) zs e h = absurd (omega arith)
cut_right (a ∷ ws) xs [] zs e h = absurd (omega arith)
cut_right (a ∷ ws) xs (c ∷ ys) zs e h =
    let rest : ws ++ xs ≡ ys ++ zs = cc in
    cut_right ws xs ys zs rest (omega arith)

-- the group, from where its entries are split
pub record Found (o : Open) (rest : List Entry) (n : ℕ) (content : List Entry) (c : Close) (after : List Entry) : Type 0 where
  pub inside : IsFlat content c.trees
  pub following : IsFlat after (n - 1)
  pub is : decode (E.Open o ∷ rest) ≡ group (delimiter_of o.delimiter) (at o.span) (at c.span) (decode content) (decode after)

pub found : (o : Open) (rest : List Entry) (n : ℕ) (content : List Entry) (c : Close) (after : List Entry) →
    IsFlat (E.Open o ∷ rest) n → rest ≡ content ++ E.Close c ∷ after → length content ≡ o.skip → Found o rest n content c after
found o rest n content c after flat cut long =
    let b = begins o rest (decode (E.Open o ∷ rest)) flat.encoded in
    let same : content ++ E.Close c ∷ after ≡ encode b.inner ++ E.Close b.closing ∷ encode b.after = sym cut ∙ b.whole in
    let lengths : length content ≡ length (encode b.inner) = long ∙ sym b.skip in
    let left : content ≡ encode b.inner = cut_left _ _ _ _ same lengths in
    let right : E.Close c ∷ after ≡ E.Close b.closing ∷ encode b.after = cut_right _ _ _ _ same lengths in
    let sign : c ≡ b.closing = cc in
    let others : after ≡ encode b.after = cc in
    let counted : n ≡ suc (count.length b.after) = flat.counted ∙ ap count.length b.is in
    record {
      inside = is_flat content b.inner c.trees left (ap (λ (q : Close). q.trees) sign ∙ sym b.trees);
      following = is_flat after b.after (n - 1) others (omega arith);
      is = b.is ∙ (λ i. group (delimiter_of o.delimiter) (at o.span) (at (sym sign i).span) (sym (decoded content b.inner left) i) (sym (decoded after b.after others) i));
    }
