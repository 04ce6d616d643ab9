use Rattle.syn_recognize.proofs.Beginnings.{tuple_opens}
use Rattle.syn_recognize.proofs.operands.type_by_group.Goals as goal

pub returns-in-Paren : goal.returns-in-Paren
unfolding Rattle.syn_recognize.specs.Names.rule_of Rattle.syn_recognize.specs.Parts.part_form
returns-in-Paren c = tuple_opens c.args.delimiter c.in-Paren.is
