use Rattle.syn_grammar.proofs.Proved.{spans}
use Rattle.syn_grammar.proofs.laws.spans_decide_nothing.Goals as goal

pub returns : goal.returns
returns c = record { like_trees = spans }
