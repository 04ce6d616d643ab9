use Rattle.syn_grammar.proofs.Proved.{print_is_read}
use Rattle.syn_grammar.proofs.laws.print_is_read.Goals as goal

pub returns : goal.returns
returns c = record { derived_again = print_is_read }
