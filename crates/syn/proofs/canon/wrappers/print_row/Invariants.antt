use Rattle.std.proofs.Common.{◌≡◌, drop}
use Rattle.syn_tokens.specs.Building.{added}
use Rattle.syn_expr.specs.Prints.{statements_row}
use Rattle.syn.proofs.canon.wrappers.print_row.Given as goal

abbrev pub invariant-loop-stmt : goal.invariant-loop-stmt
invariant-loop-stmt l =
    (added l.out (statements_row (drop l.stmt-index l.stmt-items)) ≡ added l.initial.out (statements_row l.initial.stmts.items))
    × (l.out.before ≡ l.initial.out.before)
