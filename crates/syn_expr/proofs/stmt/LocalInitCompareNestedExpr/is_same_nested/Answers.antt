use Rattle.std.proofs.Common.{rules, sym, ◌∙◌}
use Rattle.syn_expr.proofs.Else.{same_diverging}
use Rattle.syn_expr.proofs.stmt.LocalInitCompareNestedExpr.is_same_nested.Goals as goal

pub returns-then-is_same_one : goal.returns-then-is_same_one
returns-then-is_same_one g c =
    let same = c.same_else.ensures.same ∙ sym (same_diverging c.self.inside.diverge c.other.inside.diverge) in
    search (rules, same)
