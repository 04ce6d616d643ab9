use Rattle.syn_grammar.proofs.Proved.{trait_item_ends}
use Rattle.syn_grammar.proofs.laws.trait_item_ends_by_itself.Goals as goal

pub returns : goal.returns
returns c = record { before_everything = trait_item_ends }
