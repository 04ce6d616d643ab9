use Rattle.std.proofs.Common.{◌≡◌, ◌≤◌}
use Rattle.syn_grammar.specs.Rules as rules
use Rattle.syn_grammar.specs.Take.{left}
use Rattle.syn_grammar.specs.Values.{core, onto}
use Rattle.syn_grammar.specs.Run.{parse_rule, wrap}
use Rattle.syn_expr_parse.proofs.parsing.levels.following.casts.Given as goal

abbrev pub invariant-casts : goal.invariant-casts
invariant-casts g l =
    (left l.input ≤ left l.fn.input)
    × (wrap (onto (core (g.N.Trees.Trees.expr_syntax l.fn.left.value))) (parse_rule rules.casts l.fn.input)
    ≡ wrap (onto (core (g.N.Trees.Trees.expr_syntax l.all.value))) (parse_rule rules.casts l.input))

abbrev pub decreases-casts : goal.decreases-casts
decreases-casts g l = left l.input
