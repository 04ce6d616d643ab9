use Rattle.std.proofs.Common.{◌≡◌, ◌++◌, map, take}
use Rattle.syn_tokens.specs.Faults.{syntax_error, faults_of}
use Rattle.syn_parse.proofs.Lookaheads.{fault_at}
use Rattle.syn_parse.proofs.lookahead.Lookahead1.error.Given as goal

abbrev pub invariant-loop-name : goal.invariant-loop-name
invariant-loop-name l = l.error ≡ syntax_error (faults_of l.initial.error ++ map (fault_at l.here) (take l.name-index l.others))
