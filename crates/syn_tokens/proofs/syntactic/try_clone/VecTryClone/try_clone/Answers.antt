use Rattle.std.proofs.Common.{arith}
use Rattle.std.proofs.lemmas.Grind.{common_steps}
use Rattle.syn_tokens.proofs.Copied.{copied_in_order}
use Rattle.syn_tokens.proofs.syntactic.try_clone.VecTryClone.try_clone.Goals as goal

pub returns-clause-copy : goal.returns-clause-copy
returns-clause-copy g c =
    copied_in_order g.T.Syntactic.syntax c.loop-value.copy.items c.args.self.now.items (grind (arith, common_steps))
