use Rattle.syn_recognize.proofs.Opened.{keyword_opens, literal_opens, name_opens}
use Rattle.syn_recognize.proofs.operands.operand.Goals as goal

pub returns-in-Name : goal.returns-in-Name
unfolding Rattle.syn_recognize.specs.Names.rule_of Rattle.syn_recognize.specs.Parts.part_form
returns-in-Name c = name_opens c.args.next c.in-Name.is

pub returns-in-Keyword : goal.returns-in-Keyword
unfolding Rattle.syn_recognize.specs.Names.rule_of Rattle.syn_recognize.specs.Parts.part_form
returns-in-Keyword c = keyword_opens c.args.next c.in-Keyword.is

pub returns-in-Literal : goal.returns-in-Literal
unfolding Rattle.syn_recognize.specs.Names.rule_of Rattle.syn_recognize.specs.Parts.part_form
returns-in-Literal c = literal_opens c.args.next c.in-Literal.is
