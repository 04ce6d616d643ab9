use Rattle.syn_grammar.proofs.Proved.{print_is_visible}
use Rattle.syn_grammar.proofs.laws.print_is_visible.Goals as goal

pub returns : goal.returns
returns c = record { stays_visible = print_is_visible }
