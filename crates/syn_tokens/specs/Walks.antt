-- The trees of a stream, one after another.
use Rattle.std.specs.Prelude.{List, [], ◌∷◌}
use Rattle.syn_grammar.specs.Tokens.{ident, literal, Stream, end, leaf, punct, group}
use Rattle.syn_tokens.specs.Entries.{from, spacing_from, delimiter_from, kind_from}
use Rattle.syn_tokens.specs.Cursors.{before_next}
use Rattle.syn_tokens.specs.declared.stream.cursor.TokenTreeRef.{TokenTreeRef}
use Rattle.syn_tokens.specs.declared.stream.cursor.TokenTreeRef.TheVariants as T

-- its trees in order, a group counts as one
abbrev pub trees_of : Stream → List TokenTreeRef
trees_of end = []
trees_of (leaf (ident x) sp m) = T.Ident (record { text = x; span = from sp }) ∷ trees_of m
trees_of (leaf (literal k x) sp m) = T.Literal (record { kind = kind_from k; text = x; span = from sp }) ∷ trees_of m
trees_of (punct c j sp m) = T.Punct (record { character = c; spacing = spacing_from j; span = from sp }) ∷ trees_of m
trees_of (group d o c i m) = T.Group (record { delimiter = delimiter_from d; opening = from o; closing = from c; content = i }) ∷ trees_of m

-- the stream of these trees, in order
abbrev pub in_turn : List TokenTreeRef → Stream
in_turn [] = end
in_turn (t ∷ l) = before_next t (in_turn l)
