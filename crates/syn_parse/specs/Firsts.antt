-- THE KIND OF THE NEXT TOKEN TREE, from a single lookup.
use Rattle.std.specs.Prelude.{◌≡◌, true, false}
use Rattle.syn_grammar.specs.Tokens.{Stream, end, leaf, ident, literal, punct, group}
use Rattle.syn_tokens.specs.Idents.{is_keyword}
use Rattle.syn_tokens.specs.Delimiters.{delimiter_of}
use Rattle.syn_parse.specs.declared.buffer.first.First.{First}
use Rattle.syn_parse.specs.declared.buffer.first.First.TheVariants as F

-- the stream starts with a tree of this kind
abbrev pub Begins : First → Stream → Type 0
Begins F.Ended end = Unit {0}
Begins F.Name (leaf (ident x) sp m) = is_keyword x ≡ false
Begins F.Keyword (leaf (ident x) sp m) = is_keyword x ≡ true
Begins F.Literal (leaf (literal k x) sp m) = Unit {0}
Begins (F.Mark c) (punct d j sp m) = d ≡ c
Begins (F.Group d) (group e o c i m) = e ≡ delimiter_of d
Begins f ts = ⊥
