use Rattle.std.proofs.Common.{◌≡◌, drop}
use Rattle.syn_tokens.specs.Building.{added}
use Rattle.syn_tokens.specs.Rows.{row}
use Rattle.syn_pat.proofs.nested.print.lists.print_row.Given as goal

abbrev pub invariant-loop-value : goal.invariant-loop-value
invariant-loop-value g l =
    (added l.out (row g.T.Syntactic.syntax g.P.Syntactic.syntax (drop l.value-index l.value-items) l.list.last)
    ≡ added l.initial.out (row g.T.Syntactic.syntax g.P.Syntactic.syntax l.list.pairs l.list.last))
    × (l.out.before ≡ l.initial.out.before)
