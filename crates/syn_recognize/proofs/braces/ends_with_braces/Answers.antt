use Rattle.std.proofs.Common.{◌+◌, ◌-◌, sym, ap, ◌∙◌}
use Rattle.syn_grammar.specs.Take.{first}
use Rattle.syn_recognize.specs.Trailing.{ends_by}
use Rattle.syn_recognize.proofs.Trailing.{next_ends}
use Rattle.syn_recognize.proofs.braces.ends_with_braces.Goals as goal

pub trees-preserved : goal.trees-preserved
trees-preserved c =
    let n = c.args.count in
    let i = c.trees._tree in
    let left = c.in-Some.following in
    c.trees.invariant ∙ next_ends c.trees.braces n i c.in-Some.tree c.trees.rest left c.trees-test.true c.in-Some.ensures ∙ ap (λ b. ends_by b (first (n - (i + 1)) left)) (sym c.is_in_braces-braces.ensures)
