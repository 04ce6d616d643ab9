use Rattle.syn_grammar.proofs.ValueForms.{values_same_form}
use Rattle.syn_grammar.proofs.computed.values_same_form.Goals as goal

pub returns : goal.returns
returns c = record { by_print = values_same_form }
