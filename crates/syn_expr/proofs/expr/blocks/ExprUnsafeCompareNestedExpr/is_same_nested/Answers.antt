use Rattle.std.proofs.Common.{rules, true}
use Rattle.syn_lower.proofs.Bodies.{same_after_one}
use Rattle.syn_expr.proofs.expr.blocks.ExprUnsafeCompareNestedExpr.is_same_nested.Goals as goal

pub returns-then-is_same-2 : goal.returns-then-is_same-2
returns-then-is_same-2 g c =
    let places = same_after_one c.self.inside.attrs.items c.other.inside.attrs.items true c.same_statements.result in
    search (rules, places)
