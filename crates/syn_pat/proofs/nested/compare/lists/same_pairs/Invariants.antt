use Rattle.std.proofs.Common.{◌≡◌, drop}
use Rattle.syn_grammar.specs.Same.{same_syntax}
use Rattle.syn_tokens.specs.InOrder.{in_order, pair_of}
use Rattle.syn_pat.proofs.nested.compare.lists.same_pairs.Given as goal

-- what is left on both sides decides
abbrev pub invariant-loop-i : goal.invariant-loop-i
invariant-loop-i g l =
    same_syntax (in_order (pair_of g.T.Syntactic.syntax g.P.Syntactic.syntax) l.initial.a) (in_order (pair_of g.T.Syntactic.syntax g.P.Syntactic.syntax) l.initial.b)
    ≡ same_syntax (in_order (pair_of g.T.Syntactic.syntax g.P.Syntactic.syntax) (drop l.i l.a)) (in_order (pair_of g.T.Syntactic.syntax g.P.Syntactic.syntax) (drop l.i l.b))
