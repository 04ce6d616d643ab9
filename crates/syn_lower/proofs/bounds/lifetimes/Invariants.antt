use Rattle.std.proofs.Common.{◌≡◌, ◌≤◌, None}
use Rattle.syn_grammar.specs.Rules.{lifetimes}
use Rattle.syn_grammar.specs.Take.{left}
use Rattle.syn_grammar.specs.Run.{parse_rule, wrap}
use Rattle.syn_lower.proofs.Lifetimes.{so_far}
use Rattle.syn_lower.proofs.bounds.lifetimes.Given as goal

abbrev pub invariant-elements : goal.invariant-elements
invariant-elements l =
    (left l.input ≤ left l.initial.input)
    × (l.list.last ≡ None)
    × (parse_rule lifetimes l.initial.input ≡ wrap (so_far l.list.pairs) (parse_rule lifetimes l.input))

abbrev pub decreases-elements : goal.decreases-elements
decreases-elements l = left l.input
