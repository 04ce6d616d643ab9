use Rattle.std.proofs.Common.{◌≡◌, take, map}
use Rattle.syn_pat.proofs.nested.copy.lists.copy_each.Given as goal

-- the values so far are copied
abbrev pub invariant-loop-value : goal.invariant-loop-value
invariant-loop-value g l = map g.V.Syntactic.syntax l.copy.items ≡ map g.V.Syntactic.syntax (take l.value-index l.value-items)
