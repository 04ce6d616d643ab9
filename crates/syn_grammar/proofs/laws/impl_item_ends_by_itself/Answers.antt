use Rattle.syn_grammar.proofs.Proved.{impl_item_ends}
use Rattle.syn_grammar.proofs.laws.impl_item_ends_by_itself.Goals as goal

pub returns : goal.returns
returns c = record { before_everything = impl_item_ends }
