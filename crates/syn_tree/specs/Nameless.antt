-- THE FIELDS OF A FIELD THAT IS NAMED `_`: kept verbatim, but read as fields.
use Rattle.syn_grammar.specs.Words.{w_struct, w_union}
use Rattle.syn_grammar.specs.Tokens.{at_word}
use Rattle.syn_grammar.specs.Grammar.{Grammar, Syntax, Left, Right, word, when◌then◌else◌}
use Rattle.syn_grammar.specs.Forms.{plainly}
use Rattle.syn_tokens.specs.Kinds.{struct_syntax, union_syntax}
use Rattle.syn_tree.specs.declared.data.parsing.Keyword.TheVariants as Keyword-m

-- `struct` or `union`
abbrev pub keyword_form : Grammar
keyword_form = when at_word w_struct then plainly (word w_struct) else plainly (word w_union)

abbrev pub syntax_of_Keyword : Keyword-m.the_data → Syntax
syntax_of_Keyword (Keyword-m.Struct w) = Left (struct_syntax w)
syntax_of_Keyword (Keyword-m.Union w) = Right (union_syntax w)
