use Rattle.syn_grammar.proofs.MemberPlans.{plans_show}
use Rattle.syn_grammar.proofs.computed.plans_show.Goals as goal

pub returns : goal.returns
returns c = record { as_shown = plans_show }
