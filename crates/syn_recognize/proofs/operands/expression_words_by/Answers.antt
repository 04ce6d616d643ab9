use Rattle.syn_recognize.proofs.Beginnings.{expression_words_open}
use Rattle.syn_recognize.proofs.operands.expression_words_by.Goals as goal

pub returns-in-Name : goal.returns-in-Name
unfolding Rattle.syn_recognize.specs.Names.rule_of Rattle.syn_recognize.specs.Parts.part_form
returns-in-Name c = expression_words_open c.args.next c.in-Name.is
