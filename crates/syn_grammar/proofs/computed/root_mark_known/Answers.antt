use Rattle.syn_grammar.proofs.DecidedByTokens.{root_mark_known}
use Rattle.syn_grammar.proofs.computed.root_mark_known.Goals as goal

pub returns : goal.returns
returns c = record { by_tokens = root_mark_known }
