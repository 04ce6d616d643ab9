-- Written by tools/kinds.py; edits are lost.
-- THE VIEWS OF STRUCTS THAT ARE THEIR RULE'S PARTS IN ORDER.
use Rattle.syn_grammar.specs.Grammar.{Both, Node, Syntax}
use Rattle.syn_grammar.specs.Promises.{itself}
use Rattle.syn_tokens.specs.Kinds.{path_sep_syntax}
use Rattle.syn_tokens.specs.Leaves.{maybe}
use Rattle.syn_tokens.specs.Listing.{joined_of}
use Rattle.syn_lower.specs.declared.path.Path.TheInside as Path-in

abbrev pub view_Path : Path-in.Inside → Syntax
view_Path a = Node (Both (maybe path_sep_syntax a.leading_colon) (joined_of itself path_sep_syntax a.segments.pairs a.segments.last))
