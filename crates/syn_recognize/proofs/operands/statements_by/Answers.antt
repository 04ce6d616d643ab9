use Rattle.syn_recognize.proofs.Listed.{listed_by_keyword, listed_by_name}
use Rattle.syn_recognize.proofs.operands.statements_by.Goals as goal

pub returns-in-Name : goal.returns-in-Name
unfolding Rattle.syn_recognize.specs.Names.rule_of Rattle.syn_recognize.specs.Parts.part_form
returns-in-Name c = listed_by_name c.args.next c.in-Name.is

pub returns-in-Keyword : goal.returns-in-Keyword
unfolding Rattle.syn_recognize.specs.Names.rule_of Rattle.syn_recognize.specs.Parts.part_form
returns-in-Keyword c = listed_by_keyword c.args.next c.in-Keyword.is
