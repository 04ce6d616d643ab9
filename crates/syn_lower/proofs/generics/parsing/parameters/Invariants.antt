use Rattle.std.proofs.Common.{◌≡◌, ◌≤◌, None}
use Rattle.syn_grammar.specs.Take.{left}
use Rattle.syn_grammar.specs.Run.{wrap}
use Rattle.syn_lower.specs.Parameters.{read_parameters}
use Rattle.syn_lower.proofs.ParameterRows.{before_others}
use Rattle.syn_lower.proofs.generics.parsing.parameters.Given as goal

abbrev pub invariant-params : goal.invariant-params
invariant-params l =
    (left l.input ≤ left l.initial.input)
    × (l.params.last ≡ None)
    × (read_parameters l.initial.input ≡ wrap (before_others l.params.pairs) (read_parameters l.input))

abbrev pub decreases-params : goal.decreases-params
decreases-params l = left l.input
