use Rattle.syn_grammar.proofs.DecidedByTokens.{one_where_known}
use Rattle.syn_grammar.proofs.computed.one_where_known.Goals as goal

pub returns : goal.returns
returns c = record { by_tokens = one_where_known }
