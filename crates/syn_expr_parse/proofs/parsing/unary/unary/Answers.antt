use Rattle.syn_expr_parse.proofs.Unary.{unary_shown}
use Rattle.syn_expr_parse.proofs.parsing.unary.unary.Goals as goal

pub with_attributes-requires-clause-shown : goal.with_attributes-requires-clause-shown
with_attributes-requires-clause-shown g c = unary_shown c.args.spot c.outer_attributes.new.input (g.N.Trees.Trees.expr_syntax c.in_ok-expr.expr.value) c.bare_unary.new.input c.in_ok-expr.ensures.reads
