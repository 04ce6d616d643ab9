use Rattle.syn_grammar.proofs.Proved.{foreign_item_ends}
use Rattle.syn_grammar.proofs.laws.foreign_item_ends_by_itself.Goals as goal

pub returns : goal.returns
returns c = record { before_everything = foreign_item_ends }
