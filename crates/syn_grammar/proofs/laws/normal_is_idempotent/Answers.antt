use Rattle.syn_grammar.proofs.Proved.{normal_is_idempotent}
use Rattle.syn_grammar.proofs.laws.normal_is_idempotent.Goals as goal

pub returns : goal.returns
returns c = record { stays_normal = normal_is_idempotent }
