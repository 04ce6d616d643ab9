use Rattle.syn_recognize.proofs.Opened.{head_brackets_open, head_parentheses_open}
use Rattle.syn_recognize.proofs.operands.group_head_operand.Goals as goal

pub returns-in-Paren : goal.returns-in-Paren
unfolding Rattle.syn_recognize.specs.Names.rule_of Rattle.syn_recognize.specs.Parts.part_form
returns-in-Paren c = head_parentheses_open c.args.delimiter c.in-Paren.is

pub returns-in-Bracket : goal.returns-in-Bracket
unfolding Rattle.syn_recognize.specs.Names.rule_of Rattle.syn_recognize.specs.Parts.part_form
returns-in-Bracket c = head_brackets_open c.args.delimiter c.in-Bracket.is
