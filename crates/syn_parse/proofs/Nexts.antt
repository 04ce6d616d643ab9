-- The position of the next token.
use Rattle.std.proofs.Common.{refl}
use Rattle.syn_grammar.specs.Tokens.{Stream}
use Rattle.syn_tokens.specs.Cursors.{before_next, next_span}
use Rattle.syn_parse.specs.Nexts.{IsNext}
use Rattle.syn_tokens.specs.declared.stream.cursor.TokenTreeRef.{TokenTreeRef}
use Rattle.syn_tokens.specs.declared.stream.cursor.TokenTreeRef.TheVariants.{Group, Ident, Punct, Literal}

-- it is the position of the first tree
pub first_present : (t : TokenTreeRef) (r : Stream) → IsNext (before_next t r) (next_span t)
first_present (Group g) r = refl
first_present (Ident i) r = refl
first_present (Punct p) r = refl
first_present (Literal l) r = refl
