use Rattle.std.proofs.Common.{◌≡◌, ◌++◌, map, take}
use Rattle.syn_tokens.specs.Faults.{fault_of, faults_of, syntax_error}
use Rattle.syn_tokens.proofs.error.Error.combine.Given as goal

abbrev pub invariant-loop-fault : goal.invariant-loop-fault
invariant-loop-fault l = l.self ≡ syntax_error (take 4 (faults_of l.initial.self ++ map fault_of (take l.fault-index l.fault-items)))
