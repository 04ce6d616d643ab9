use Rattle.syn_grammar.proofs.Proved.{same_form}
use Rattle.syn_grammar.proofs.laws.same_form.Goals as goal

pub returns : goal.returns
returns c = record { by_print = same_form }
