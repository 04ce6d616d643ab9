use Rattle.std.proofs.Common.{◌≡◌, ◌≤◌}
use Rattle.syn_grammar.specs.Rules.{postfixes}
use Rattle.syn_grammar.specs.Take.{left}
use Rattle.syn_grammar.specs.Values.{core, onto}
use Rattle.syn_grammar.specs.Run.{parse_rule, wrap}
use Rattle.syn_expr_parse.proofs.parsing.postfix.postfixes.Given as goal

abbrev pub invariant-links : goal.invariant-links
invariant-links g l =
    (left l.input ≤ left l.fn.input)
    × (wrap (onto (core (g.N.Trees.Trees.expr_syntax l.fn.first.value))) (parse_rule postfixes l.fn.input) ≡ wrap (onto (g.N.Trees.Trees.expr_syntax l.left.value)) (parse_rule postfixes l.input))

abbrev pub decreases-links : goal.decreases-links
decreases-links g l = left l.input
