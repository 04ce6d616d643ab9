use Rattle.syn_recognize.proofs.Opened.{brackets_open, parentheses_open}
use Rattle.syn_recognize.proofs.operands.group_operand.Goals as goal

pub returns-in-Paren : goal.returns-in-Paren
unfolding Rattle.syn_recognize.specs.Names.rule_of Rattle.syn_recognize.specs.Parts.part_form
returns-in-Paren c = parentheses_open c.args.delimiter c.in-Paren.is

pub returns-in-Bracket : goal.returns-in-Bracket
unfolding Rattle.syn_recognize.specs.Names.rule_of Rattle.syn_recognize.specs.Parts.part_form
returns-in-Bracket c = brackets_open c.args.delimiter c.in-Bracket.is
