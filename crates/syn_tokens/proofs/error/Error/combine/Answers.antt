use Rattle.std.proofs.Common.{subst, sym, ap}
use Rattle.syn_tokens.specs.Faults.{IsSyntaxError, faults_of, syntax_error}
use Rattle.syn_tokens.proofs.Faults.{one_more, nothing_added}
use Rattle.syn_tokens.proofs.error.Error.combine.Goals as goal

pub loop-fault-preserved : goal.loop-fault-preserved
loop-fault-preserved c =
    rw (c.add.ensures (subst IsSyntaxError (sym c.loop-fault.invariant) tt), c.loop-fault.invariant)
    (ap syntax_error (one_more (faults_of c.args.self.now) c.faults-fault-items.result.now c.loop-fault.fault-index _ c.loop-fault-test.true))
