use Rattle.syn_recognize.proofs.Opened.{head_keyword_opens, head_literal_opens, head_name_opens}
use Rattle.syn_recognize.proofs.operands.head_operand.Goals as goal

pub returns-in-Name : goal.returns-in-Name
unfolding Rattle.syn_recognize.specs.Names.rule_of Rattle.syn_recognize.specs.Parts.part_form
returns-in-Name c = head_name_opens c.args.next c.in-Name.is

pub returns-in-Keyword : goal.returns-in-Keyword
unfolding Rattle.syn_recognize.specs.Names.rule_of Rattle.syn_recognize.specs.Parts.part_form
returns-in-Keyword c = head_keyword_opens c.args.next c.in-Keyword.is

pub returns-in-Literal : goal.returns-in-Literal
unfolding Rattle.syn_recognize.specs.Names.rule_of Rattle.syn_recognize.specs.Parts.part_form
returns-in-Literal c = head_literal_opens c.args.next c.in-Literal.is
