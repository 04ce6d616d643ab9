use Rattle.syn_grammar.proofs.Proved.{normal_prints}
use Rattle.syn_grammar.proofs.laws.normal_prints.Goals as goal

pub returns : goal.returns
returns c = record { prints_alike = normal_prints }
