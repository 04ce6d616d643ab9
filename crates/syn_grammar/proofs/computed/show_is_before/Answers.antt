use Rattle.syn_grammar.proofs.Shows as by
use Rattle.syn_grammar.proofs.computed.show_is_before.Goals as goal

pub returns : goal.returns
returns c = record { as_the_same = by.show_is_before }
