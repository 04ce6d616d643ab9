use Rattle.syn_grammar.proofs.Outcomes.{parse_rows}
use Rattle.syn_grammar.proofs.computed.parse_rows.Goals as goal

pub returns : goal.returns
returns c = record { one_step = parse_rows }
