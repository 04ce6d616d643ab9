use Rattle.syn_grammar.proofs.Proved.{item_ends}
use Rattle.syn_grammar.proofs.laws.item_ends_by_itself.Goals as goal

pub returns : goal.returns
returns c = record { before_everything = item_ends }
