-- HOW A VIEW IS MADE OF THE SYNTAX OF ITS PARTS, where it isn't simply all of them in print order.
-- An optional part that is there is `Left` of its syntax, and else `Right Nothing`.
use Rattle.syn_grammar.specs.Words.{Text}
use Rattle.syn_grammar.specs.Tokens.{Delimiter}
use Rattle.syn_grammar.specs.Grammar.{Syntax, Both, Left, Group, Added}
use Rattle.syn_tokens.specs.Spans.{at}
use Rattle.syn_tokens.specs.declared.token.delimiters.Delimiters.{Delimiters}

-- an optional part's syntax, or else this
abbrev pub or_else : Syntax → Syntax → Syntax
or_else absent (Left part) = part
or_else absent _ = absent

-- an optional mark, which is printed though there is none
abbrev pub or_added : Text → Syntax → Syntax
or_added mark = or_else (Added mark)

-- the two parts of a pair
abbrev pub first : Syntax → Syntax
first (Both s t) = s
first s = s

abbrev pub second : Syntax → Syntax
second (Both s t) = t
second s = s

-- in a group with these delimiters
abbrev pub group_syntax : {K : Type 0} → Delimiter → Delimiters K → Syntax → Syntax
group_syntax d delimiters content = Group d (at delimiters.opening) (at delimiters.closing) content
