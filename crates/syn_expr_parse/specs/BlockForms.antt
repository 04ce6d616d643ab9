-- THE PARTS OF BLOCKS, LOOPS AND `if`, as they are read.
use Rattle.syn_grammar.specs.Words.{w_else, w_for, w_if, w_in, w_loop, w_unsafe, w_while, colon}
use Rattle.syn_grammar.specs.Tokens.{at_word, at_lifetime}
use Rattle.syn_grammar.specs.Rules.{block, body, if_expression, loop_expression, pattern, whole_expression_head}
use Rattle.syn_grammar.specs.Shape.{Variant, Block, operand, labelled}
use Rattle.syn_grammar.specs.Grammar.{Syntax, Both, Grammar, empty, lifetime, ◌&◌, when◌then◌else◌, rule, shaped, word}
use Rattle.syn_grammar.specs.Forms.{plainly, punctuation}
use Rattle.syn_grammar.specs.Table.{at_brace, else_block}
use Rattle.syn_grammar.specs.Values.{new}

abbrev pub label_form : Grammar
label_form = when at_lifetime then lifetime & punctuation colon else empty

abbrev pub unsafe_form : Grammar
unsafe_form = plainly (word w_unsafe) & rule body

abbrev pub labelled_form : Grammar
labelled_form = shaped labelled (label_form & (when at_brace then shaped (operand Block) (rule body) else rule loop_expression))

-- an expression without attributes, its label first
abbrev pub labelled_as : Variant → Syntax → Syntax → Syntax
labelled_as v label s = new v (Both label s)

abbrev pub loop_form : Grammar
loop_form = plainly (word w_loop) & rule body

abbrev pub while_form : Grammar
while_form = plainly (word w_while) & rule whole_expression_head & rule body

abbrev pub for_form : Grammar
for_form = plainly (word w_for) & rule pattern & plainly (word w_in) & rule whole_expression_head & rule body

-- a block or another `if`
abbrev pub else_branch_form : Grammar
else_branch_form = when at_brace then else_block else rule if_expression

abbrev pub otherwise_form : Grammar
otherwise_form = when at_word w_else then plainly (word w_else) & else_branch_form else empty

abbrev pub if_form : Grammar
if_form = plainly (word w_if) & rule whole_expression_head & rule block & otherwise_form
