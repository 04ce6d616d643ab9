use Rattle.std.proofs.Common.{◌≡◌, ◌≤◌}
use Rattle.syn_grammar.specs.Rules.{statements}
use Rattle.syn_grammar.specs.Take.{left}
use Rattle.syn_grammar.specs.Run.{parse_rule, wrap}
use Rattle.syn_expr_parse.specs.Listed.{statements_before}
use Rattle.syn_expr_parse.proofs.parsing.stmts.statements.Given as goal

abbrev pub invariant-statements : goal.invariant-statements
invariant-statements g l =
    (left l.input ≤ left l.initial.input)
    × (parse_rule statements l.initial.input ≡ wrap (statements_before g.N.Trees.Trees.stmt_syntax l.stmts.items) (parse_rule statements l.input))

abbrev pub decreases-statements : goal.decreases-statements
decreases-statements g l = left l.input
