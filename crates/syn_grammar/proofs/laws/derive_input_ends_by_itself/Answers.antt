use Rattle.syn_grammar.proofs.Proved.{derive_input_ends}
use Rattle.syn_grammar.proofs.laws.derive_input_ends_by_itself.Goals as goal

pub returns : goal.returns
returns c = record { before_everything = derive_input_ends }
