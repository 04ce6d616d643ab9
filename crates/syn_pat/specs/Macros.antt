-- THE SYNTAX OF A MACRO.
use Rattle.syn_grammar.specs.Tokens.{Stream, Paren, Brace, Bracket}
use Rattle.syn_grammar.specs.Grammar.{Syntax, Both, Left, Right, Node, Raw}
use Rattle.syn_tokens.specs.Kinds.{not_syntax}
use Rattle.syn_tokens.specs.Spans.{at}
use Rattle.syn_lower.specs.declared.attr.MacroDelimiter.TheVariants as MacroDelimiter-m
use Rattle.syn_pat.specs.declared.mac.Macro.TheInside as Macro-in

-- a group of any tokens, by its delimiters
abbrev pub macro_group : Stream → MacroDelimiter-m.the_data → Syntax
macro_group tokens (MacroDelimiter-m.Paren d) = Left (Raw Paren (at d.opening) (at d.closing) tokens)
macro_group tokens (MacroDelimiter-m.Bracket d) = Right (Left (Raw Bracket (at d.opening) (at d.closing) tokens))
macro_group tokens (MacroDelimiter-m.Brace d) = Right (Right (Raw Brace (at d.opening) (at d.closing) tokens))

abbrev pub view_Macro : Macro-in.Inside → Syntax
view_Macro a = Node (Both a.path (Both (Left (not_syntax a.bang_token)) (macro_group a.tokens a.delimiter)))
