use Rattle.std.proofs.Common.{◌≡◌, take, map}
use Rattle.syn_tokens.proofs.syntactic.try_clone.VecTryClone.try_clone.Given as goal

-- the values so far are copied
abbrev pub invariant-loop-value : goal.invariant-loop-value
invariant-loop-value g l = map g.T.Syntactic.syntax l.copy.items ≡ map g.T.Syntactic.syntax (take l.value-index l.value-items)
