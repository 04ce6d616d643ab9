use Rattle.std.proofs.Common.{rules, sym, ◌∙◌}
use Rattle.syn_lower.proofs.Attributes.{same_attributes}
use Rattle.syn_expr.proofs.Else.{same_branches}
use Rattle.syn_expr.proofs.expr.blocks.ExprIfCompareNestedExpr.is_same_nested.Goals as goal

pub returns-then-is_same_nested : goal.returns-then-is_same_nested
returns-then-is_same_nested g c =
    let same = c.same_else.ensures.same ∙ sym (same_branches c.self.inside.else_branch c.other.inside.else_branch) in
    search (rules, same_attributes, same)
