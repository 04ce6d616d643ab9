use Rattle.std.proofs.Common.{◌≡◌, ◌≤◌}
use Rattle.syn_grammar.specs.Take.{left}
use Rattle.syn_grammar.specs.Values.{core, onto}
use Rattle.syn_grammar.specs.Run.{parse_rule, wrap}
use Rattle.syn_expr_parse.specs.Spots.{within}
use Rattle.syn_expr_parse.proofs.parsing.levels.chain.Given as goal

abbrev pub invariant-operators : goal.invariant-operators
invariant-operators g l =
    (left l.input ≤ left l.fn.input)
    × (wrap (onto (core (g.N.Trees.Trees.expr_syntax l.fn.left.value))) (parse_rule (within l.fn.spot g.L.Level.chain_rule) l.fn.input)
    ≡ wrap (onto (core (g.N.Trees.Trees.expr_syntax l.all.value))) (parse_rule (within l.fn.spot g.L.Level.chain_rule) l.input))

abbrev pub decreases-operators : goal.decreases-operators
decreases-operators g l = left l.input
