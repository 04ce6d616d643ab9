use Rattle.syn_grammar.proofs.Proved.{one_tree}
use Rattle.syn_grammar.proofs.laws.one_tree.Goals as goal

pub returns : goal.returns
returns c = record { unambiguous = one_tree }
