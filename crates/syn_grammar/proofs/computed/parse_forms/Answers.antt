use Rattle.syn_grammar.proofs.Outcomes.{parse_forms}
use Rattle.syn_grammar.proofs.computed.parse_forms.Goals as goal

pub returns : goal.returns
returns c = record { by_form = parse_forms }
