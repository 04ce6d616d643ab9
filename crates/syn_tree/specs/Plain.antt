-- Written by tools/kinds.py; edits are lost.
-- THE VIEWS OF STRUCTS THAT ARE THEIR RULE'S PARTS IN ORDER.
use Rattle.syn_grammar.specs.Grammar.{Node, Syntax}
use Rattle.syn_grammar.specs.Promises.{itself}
use Rattle.syn_grammar.specs.Tokens.{Brace, Paren}
use Rattle.syn_lower.specs.Parts.{group_syntax}
use Rattle.syn_tokens.specs.Kinds.{comma_syntax}
use Rattle.syn_tokens.specs.Listing.{list_of}
use Rattle.syn_tree.specs.declared.data.FieldsNamed.TheInside as FieldsNamed-in
use Rattle.syn_tree.specs.declared.data.FieldsUnnamed.TheInside as FieldsUnnamed-in

abbrev pub view_FieldsNamed : FieldsNamed-in.Inside → Syntax
view_FieldsNamed a = Node (group_syntax Brace a.brace_token (list_of itself comma_syntax a.named.pairs a.named.last))

abbrev pub view_FieldsUnnamed : FieldsUnnamed-in.Inside → Syntax
view_FieldsUnnamed a = Node (group_syntax Paren a.paren_token (list_of itself comma_syntax a.unnamed.pairs a.unnamed.last))
