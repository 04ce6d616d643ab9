-- The trees of a stream, one after another.
use Rattle.std.proofs.Common.{◌≡◌, ◌∷◌, length, refl, ap, arith}
use Rattle.syn_grammar.specs.Tokens.{ident, literal, Stream, end, leaf, punct, group}
use Rattle.syn_grammar.specs.Take as count
use Rattle.syn_tokens.specs.Cursors.{before_next}
use Rattle.syn_tokens.specs.Walks.{trees_of, in_turn}
use Rattle.syn_tokens.proofs.Entries.{joint_back, delimiter_back, kind_back, joint_there, delimiter_there, kind_there}
use Rattle.syn_tokens.specs.declared.stream.cursor.TokenTreeRef.{TokenTreeRef}
use Rattle.syn_tokens.specs.declared.stream.cursor.TokenTreeRef.TheVariants as T

-- a tree before others is the first one
pub first_tree : (t : TokenTreeRef) (r : Stream) → trees_of (before_next t r) ≡ t ∷ trees_of r
first_tree (T.Ident i) r = refl
first_tree (T.Literal l) r = ap (λ k. T.Literal (record { kind = k; text = l.text; span = l.span }) ∷ trees_of r) (kind_there l.kind)
first_tree (T.Punct p) r = ap (λ s. T.Punct (record { character = p.character; spacing = s; span = p.span }) ∷ trees_of r) (joint_there p.spacing)
first_tree (T.Group g) r = ap (λ d. T.Group (record { delimiter = d; opening = g.opening; closing = g.closing; content = g.content }) ∷ trees_of r) (delimiter_there g.delimiter)

-- the trees of a stream form that stream
pub whole : (ts : Stream) → in_turn (trees_of ts) ≡ ts
whole end = refl
whole (leaf (ident x) sp m) = ap (leaf (ident x) sp) (whole m)
whole (leaf (literal k x) sp m) = (λ i. leaf (literal (kind_back k i) x) sp (whole m i))
whole (punct c j sp m) = (λ i. punct c (joint_back j i) sp (whole m i))
whole (group d o c n m) = (λ i. group (delimiter_back d i) o c n (whole m i))

-- there are as many as the stream counts
pub counted : (ts : Stream) → length (trees_of ts) ≡ count.length ts
counted end = refl
counted (leaf (ident x) sp m) = omega (arith, counted m)
counted (leaf (literal k x) sp m) = omega (arith, counted m)
counted (punct c j sp m) = omega (arith, counted m)
counted (group d o c n m) = omega (arith, counted m)
