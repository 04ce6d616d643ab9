use Rattle.syn_grammar.proofs.Shows as by
use Rattle.syn_grammar.proofs.computed.same_show.Goals as goal

pub returns : goal.returns
returns c = record { exactly = by.same_show }
