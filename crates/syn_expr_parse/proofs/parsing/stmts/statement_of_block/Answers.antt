use Rattle.std.proofs.Common.{◌≡◌, true, false, Some, sym, ap, subst, ◌∙◌, rules}
use Rattle.syn_grammar.specs.Rules.{operand_rest}
use Rattle.syn_grammar.specs.Table.{at_postfix_mark, at_semicolon}
use Rattle.syn_grammar.specs.Take.{sees}
use Rattle.syn_grammar.specs.Values.{core, onto}
use Rattle.syn_grammar.specs.Run.{parse_rule, wrap}
use Rattle.syn_grammar.specs.Promises.{Computes}
use Rattle.syn_parse.specs.Refusals.{IsSyntax}
use Rattle.syn_lower.specs.Attributes.{attributes_syntax}
use Rattle.syn_expr_parse.specs.Listed.{is_listed}
use Rattle.syn_expr_parse.specs.Spines.{spine_shown}
use Rattle.syn_expr_parse.proofs.Spines.{going_spine}
use Rattle.syn_expr_parse.proofs.StatementLists.{block_continues}
use Rattle.syn_expr_parse.proofs.parsing.stmts.statement_of_block.Goals as goal

pub statement_of_expression-requires-clause-shown : goal.statement_of_expression-requires-clause-shown
statement_of_expression-requires-clause-shown g c =
    let left = g.N.Trees.Trees.expr_syntax c.args.expr.value in
    let e = g.N.Trees.Trees.expr_syntax c.in_ok-expr.expr.value in
    let got : wrap (onto (core left)) (parse_rule operand_rest c.args.input.now) ≡ Some (e, c.operand_rest.new.input) = search rules in
    going_spine (core left) c.args.input.now e c.operand_rest.new.input (ap spine_shown (g.N.Trees.Trees.core_is c.args.expr.value) ∙ c.requires.shown) got

pub returns-then-at_postfix_mark-clause-reads : goal.returns-then-at_postfix_mark-clause-reads
returns-then-at_postfix_mark-clause-reads g c =
    let ts = c.args.input.now in
    let left = g.N.Trees.Trees.expr_syntax c.args.expr.value in
    let e = g.N.Trees.Trees.expr_syntax c.in_ok-expr.expr.value in
    let none : sees at_semicolon ts ≡ false = search rules in
    let mark : sees at_postfix_mark ts ≡ true = search rules in
    let got : wrap (onto (core left)) (parse_rule operand_rest ts) ≡ Some (e, c.operand_rest.new.input) = search rules in
    let onto_left = ap (λ z. wrap (onto z) (parse_rule operand_rest ts)) (sym (g.N.Trees.Trees.core_is c.args.expr.value)) ∙ got in
    subst (λ o. Computes IsSyntax g.N.Trees.Trees.stmt_syntax o c.statement_of_expression.result c.statement_of_expression.new.input)
    (sym (block_continues (is_listed c.args.place) c.args.braces (attributes_syntax c.args.attrs.items) left ts e c.operand_rest.new.input none mark onto_left)) c.statement_of_expression.ensures.reads
