use Rattle.syn_grammar.proofs.StatementPlans.{crate_macro_plan_is}
use Rattle.syn_grammar.proofs.computed.crate_macro_plan.Goals as goal

pub returns : goal.returns
returns c = record { as_the_rule = crate_macro_plan_is }
