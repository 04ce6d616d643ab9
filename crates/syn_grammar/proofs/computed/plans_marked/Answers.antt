use Rattle.syn_grammar.proofs.Marked.{plans_marked}
use Rattle.syn_grammar.proofs.computed.plans_marked.Goals as goal

pub returns : goal.returns
returns c = record { as_said = plans_marked }
