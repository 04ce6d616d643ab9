use Rattle.std.proofs.Common.{◌≡◌, drop}
use Rattle.syn_grammar.specs.Same.{same_syntax}
use Rattle.syn_tokens.specs.InOrder.{in_order}
use Rattle.syn_lower.proofs.nested.compare.ordered.same_members.Given as goal

-- what is left on both sides decides
abbrev pub invariant-loop-i : goal.invariant-loop-i
invariant-loop-i g l =
    same_syntax (in_order (λ x. g.T.Syntactic.syntax x.0) l.initial.a) (in_order (λ x. g.T.Syntactic.syntax x.0) l.initial.b)
    ≡ same_syntax (in_order (λ x. g.T.Syntactic.syntax x.0) (drop l.i l.a)) (in_order (λ x. g.T.Syntactic.syntax x.0) (drop l.i l.b))
