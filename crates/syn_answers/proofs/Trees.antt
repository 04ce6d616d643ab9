-- Fewer tokens are left after the next token tree, and in its group.
use Rattle.std.proofs.Common.{◌<◌, arith}
use Rattle.syn_grammar.specs.Tokens.{Stream}
use Rattle.syn_grammar.specs.Take.{left}
use Rattle.syn_tokens.specs.Cursors.{before_next}
use Rattle.syn_tokens.specs.declared.stream.cursor.GroupRef.{GroupRef}
use Rattle.syn_tokens.specs.declared.stream.cursor.TokenTreeRef.{TokenTreeRef}
use Rattle.syn_tokens.specs.declared.stream.cursor.TokenTreeRef.TheVariants as N

pub fewer_after : (t : TokenTreeRef) (m : Stream) → left m < left (before_next t m)
unfolding left
fewer_after (N.Ident i) m = omega arith
fewer_after (N.Literal l) m = omega arith
fewer_after (N.Punct p) m = omega arith
fewer_after (N.Group g) m = omega arith

pub fewer_inside : (g : GroupRef) (m : Stream) → left g.content < left (before_next (N.Group g) m)
unfolding left
fewer_inside g m = omega arith
