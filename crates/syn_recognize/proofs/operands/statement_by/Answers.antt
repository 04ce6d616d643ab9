use Rattle.syn_recognize.proofs.Beginnings.{statement_opens}
use Rattle.syn_recognize.proofs.operands.statement_by.Goals as goal

pub returns-in-Name : goal.returns-in-Name
unfolding Rattle.syn_recognize.specs.Names.rule_of Rattle.syn_recognize.specs.Parts.part_form
returns-in-Name c = statement_opens c.args.next c.in-Name.is
