use Rattle.syn_grammar.proofs.Outcomes.{parse_onward}
use Rattle.syn_grammar.proofs.computed.parse_onward.Goals as goal

pub returns : goal.returns
returns c = record { no_more_left = parse_onward }
