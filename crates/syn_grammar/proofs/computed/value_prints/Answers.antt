use Rattle.syn_grammar.proofs.PrintedValues.{print_value}
use Rattle.syn_grammar.proofs.computed.value_prints.Goals as goal

pub returns : goal.returns
returns c = record { same_print = print_value }
