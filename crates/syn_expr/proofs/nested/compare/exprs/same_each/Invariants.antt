use Rattle.std.proofs.Common.{◌≡◌, drop}
use Rattle.syn_grammar.specs.Same.{same_syntax}
use Rattle.syn_tokens.specs.InOrder.{in_order}
use Rattle.syn_expr.specs.Statements.{statement_of}
use Rattle.syn_expr.proofs.nested.compare.exprs.same_each.Given as goal

-- what is left on both sides decides
abbrev pub invariant-loop-i : goal.invariant-loop-i
invariant-loop-i g l =
    same_syntax (in_order statement_of l.initial.a) (in_order statement_of l.initial.b)
    ≡ same_syntax (in_order statement_of (drop l.i l.a)) (in_order statement_of (drop l.i l.b))
