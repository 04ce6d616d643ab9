-- WHAT THE BRACKETS OF AN ARRAY HOLD.
use Rattle.syn_grammar.specs.Rules.{expressions}
use Rattle.syn_grammar.specs.Words.{comma}
use Rattle.syn_grammar.specs.Grammar.{Syntax, Both, Left, Right, Node, Grammar, empty, ◌&◌, when◌then◌else◌, rule}
use Rattle.syn_grammar.specs.Forms.{punctuation}
use Rattle.syn_grammar.specs.Table.{at_comma}
use Rattle.syn_grammar.specs.Take.{Out}
use Rattle.syn_grammar.specs.Run.{wrap}
use Rattle.syn_tokens.specs.Kinds.{comma_syntax, semi_syntax}
use Rattle.syn_tokens.specs.Listing.{list_of}
use Rattle.syn_expr_parse.specs.Parts.{array_elements}
use Rattle.syn_expr_parse.specs.declared.parsing.groups.ArrayContent.TheVariants as ArrayContent-m

abbrev pub syntax_of_ArrayContent : {E : Type 0} → (E → Syntax) → ArrayContent-m.the_data E → Syntax
syntax_of_ArrayContent view (ArrayContent-m.Elements l) = array_elements (list_of view comma_syntax l.pairs l.last)
syntax_of_ArrayContent view (ArrayContent-m.Copies e semi len) = Node (Right (Both (view e.value) (Left (Both (semi_syntax semi) (view len.value)))))

-- after the first element
abbrev pub array_rest_form : Grammar
array_rest_form = when at_comma then punctuation comma & rule expressions else empty

abbrev pub array_rest : Syntax → Out → Out
array_rest first o = wrap Node (wrap Right (wrap (Both first) (wrap Right o)))
