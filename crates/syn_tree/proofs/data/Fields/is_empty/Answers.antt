use Rattle.std.proofs.Common.{rules, sym, ap, length, ◌∙◌}
use Rattle.syn_tree.proofs.Members.{nothing_in}
use Rattle.syn_tree.proofs.data.Fields.is_empty.Goals as goal

pub returns : goal.returns
returns c =
    let e = c.len.ensures in
    (λ h. nothing_in _ (sym e ∙ search (rules, h)), λ h. let n = e ∙ ap length h in search (rules, n))
