-- The delimiters of groups, as the grammar represents them.
use Rattle.syn_grammar.specs.Tokens as grammar
use Rattle.syn_tokens.specs.declared.delimiter.Delimiter.{Delimiter}
use Rattle.syn_tokens.specs.declared.delimiter.Delimiter.TheVariants.{Paren, Brace, Bracket, None}

abbrev pub delimiter_of : Delimiter → grammar.Delimiter
delimiter_of Paren = grammar.Paren
delimiter_of Brace = grammar.Brace
delimiter_of Bracket = grammar.Bracket
delimiter_of None = grammar.None
