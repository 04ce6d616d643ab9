use Rattle.syn_grammar.proofs.UseGroups.{use_groups}
use Rattle.syn_grammar.proofs.computed.use_groups.Goals as goal

pub returns : goal.returns
returns c = record { alike = use_groups }
