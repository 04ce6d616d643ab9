use Rattle.syn_grammar.proofs.Proved.{normal_forgets_spans}
use Rattle.syn_grammar.proofs.laws.normal_forgets_spans.Goals as goal

pub returns : goal.returns
returns c = record { same_normal = normal_forgets_spans }
