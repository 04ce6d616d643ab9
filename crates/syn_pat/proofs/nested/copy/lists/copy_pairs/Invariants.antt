use Rattle.std.proofs.Common.{◌≡◌, take, map, None}
use Rattle.syn_tokens.specs.InOrder.{pair_of}
use Rattle.syn_pat.proofs.nested.copy.lists.copy_pairs.Given as goal

-- the pairs so far are copied
abbrev pub invariant-loop-value : goal.invariant-loop-value
invariant-loop-value g l =
    (l.copy.last ≡ None)
    × (map (pair_of g.T.Syntactic.syntax g.P.Syntactic.syntax) l.copy.pairs ≡ map (pair_of g.T.Syntactic.syntax g.P.Syntactic.syntax) (take l.value-index l.value-items))
