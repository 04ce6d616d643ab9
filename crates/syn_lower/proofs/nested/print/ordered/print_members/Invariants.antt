use Rattle.std.proofs.Common.{◌≡◌, drop}
use Rattle.syn_tokens.specs.Building.{added}
use Rattle.syn_tokens.specs.Kinds.{comma_syntax}
use Rattle.syn_lower.specs.OrderedPrints.{part_row}
use Rattle.syn_lower.proofs.nested.print.ordered.print_members.Given as goal

abbrev pub invariant-loop-pair : goal.invariant-loop-pair
invariant-loop-pair g l =
    (added l.out (part_row g.T.Ordered.is_first g.T.Syntactic.syntax comma_syntax l.first (drop l.pair-index l.pair-items) l.list.last)
    ≡ added l.initial.out (part_row g.T.Ordered.is_first g.T.Syntactic.syntax comma_syntax l.initial.first l.list.pairs l.list.last))
    × (l.out.before ≡ l.initial.out.before)
