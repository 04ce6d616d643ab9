use Rattle.syn_grammar.proofs.ValueForms.{same_value_form}
use Rattle.syn_grammar.proofs.laws.same_value_form.Goals as goal

pub returns : goal.returns
returns c = record { by_value = same_value_form }
