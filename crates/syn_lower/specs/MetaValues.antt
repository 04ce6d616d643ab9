-- THE SYNTAX OF THE VALUE OF A META.
use Rattle.syn_grammar.specs.Grammar.{Syntax, Node}
use Rattle.syn_tokens.specs.Kinds.{eq_syntax}
use Rattle.syn_lower.specs.Attributes.{after_equals, filled, no_value, syntax_of_MacroDelimiter}
use Rattle.syn_lower.specs.declared.attr.parsing.MetaValue.TheVariants as MetaValue-m

abbrev pub syntax_of_MetaValue : MetaValue-m.the_data → Syntax
syntax_of_MetaValue (MetaValue-m.Group d tokens) = Node (filled tokens (syntax_of_MacroDelimiter d))
syntax_of_MetaValue (MetaValue-m.Rest sign tokens) = Node (after_equals (eq_syntax sign) tokens)
syntax_of_MetaValue MetaValue-m.Nothing = Node no_value
