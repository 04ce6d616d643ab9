use Rattle.std.proofs.Common.{◌≡◌, drop}
use Rattle.syn_tokens.specs.Building.{added}
use Rattle.syn_lower.specs.Bodies.{inner_row}
use Rattle.syn_lower.proofs.attr.bodies.print_inner_row.Given as goal

abbrev pub invariant-loop-attr : goal.invariant-loop-attr
invariant-loop-attr l =
    (added l.out (inner_row (drop l.attr-index l.attr-items)) ≡ added l.initial.out (inner_row l.initial.attrs.items))
    × (l.out.before ≡ l.initial.out.before)
