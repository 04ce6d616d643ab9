-- THE SYNTAX OF A STRUCT'S MEMBER: the name of a field, or a literal of the decimal digits of its place.
use Rattle.std.specs.Prelude.{decimal}
use Rattle.syn_grammar.specs.Tokens.{Int, literal}
use Rattle.syn_grammar.specs.Grammar.{Syntax, Token, Left, Right}
use Rattle.syn_tokens.specs.Leaves.{syntax_of_ident}
use Rattle.syn_tokens.specs.Spans.{at}
use Rattle.syn_lower.specs.declared.member.Index.{Index}
use Rattle.syn_lower.specs.declared.member.Member.TheVariants as Member-m

abbrev pub syntax_of_Index : Index → Syntax
syntax_of_Index i = Token (literal Int (decimal i.index)) (at i.span)

abbrev pub syntax_of_Member : Member-m.the_data → Syntax
syntax_of_Member (Member-m.Named i) = Right (syntax_of_ident i)
syntax_of_Member (Member-m.Unnamed i) = Left (syntax_of_Index i)
