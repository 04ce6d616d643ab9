use Rattle.syn_grammar.proofs.ValueForms.{value_print_is_read}
use Rattle.syn_grammar.proofs.computed.value_print_is_read.Goals as goal

pub returns : goal.returns
returns c = record { derived_again = value_print_is_read }
