use Rattle.syn_recognize.proofs.Beginnings.{meta_opens}
use Rattle.syn_recognize.proofs.operands.meta_by.Goals as goal

pub returns-in-Name : goal.returns-in-Name
unfolding Rattle.syn_recognize.specs.Names.rule_of Rattle.syn_recognize.specs.Parts.part_form
returns-in-Name c = meta_opens c.args.next c.in-Name.is
