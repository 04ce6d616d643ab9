use Rattle.std.proofs.Common.{◌≡◌, false, rules}
use Rattle.syn_grammar.specs.Table.{at_brace}
use Rattle.syn_grammar.specs.Take.{sees}
use Rattle.syn_parse.specs.Refusals.{IsSyntax}
use Rattle.syn_expr_parse.proofs.Blocks.{if_read}
use Rattle.syn_expr_parse.proofs.parsing.blocks.else_branch.Goals as goal

pub returns-else-peek-clause-reads : goal.returns-else-peek-clause-reads
returns-else-peek-clause-reads g c =
    let none : sees at_brace c.args.input.now ≡ false = search rules in
    if_read IsSyntax (λ e. g.N.Trees.Trees.expr_syntax e.value) _ c.args.input.now c.expr.result c.expr.new.input none c.expr.ensures.parses.0
