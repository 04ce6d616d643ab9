use Rattle.syn_grammar.proofs.Outcomes.{parse_means}
use Rattle.syn_grammar.proofs.computed.parse_means.Goals as goal

pub returns : goal.returns
returns c = record { as_derived = parse_means }
