use Rattle.std.proofs.Common.{◌≡◌, false, Some, sym, ap, subst, ◌∙◌, rules}
use Rattle.syn_grammar.specs.Rules.{whole_expression}
use Rattle.syn_grammar.specs.Grammar.{Node, Both}
use Rattle.syn_grammar.specs.Take.{before}
use Rattle.syn_grammar.specs.Run.{parse_rule}
use Rattle.syn_grammar.specs.Promises.{Computes}
use Rattle.syn_parse.specs.Refusals.{IsSyntax}
use Rattle.syn_tokens.specs.Kinds.{else_syntax, eq_syntax}
use Rattle.syn_tokens.specs.Leaves.{maybe}
use Rattle.syn_expr_parse.specs.Parts.{block_after_else}
use Rattle.syn_expr_parse.specs.StatementForms.{diverges, local_value, valued}
use Rattle.syn_expr_parse.specs.Parts.{diverging}
use Rattle.syn_recognize.specs.Trailing.{ends_by}
use Rattle.syn_expr_parse.proofs.Locals.{value_read}
use Rattle.syn_expr_parse.proofs.parsing.stmts.local_value.Goals as goal

pub returns-in_err-diverge-clause-reads : goal.returns-in_err-diverge-clause-reads
returns-in_err-diverge-clause-reads g c =
    let ts = c.args.input.now in
    let m = c.expr.new.input in
    let sign = eq_syntax c.args.eq_token in
    let e = Node (g.N.Trees.Trees.expr_syntax c.in_ok-expr.expr.value) in
    let inner : parse_rule whole_expression ts ≡ Some (e, m) = search rules in
    let turned : local_value sign ts ≡ valued sign e (diverges (ends_by false (before c.fork-start.result m)) m) =
    value_read sign e ts m inner ∙ ap (λ s. valued sign e (diverges (ends_by false (before s m)) m)) (sym c.fork-start.ensures) in
    subst (λ o. Computes IsSyntax g.N.Trees.Trees.init_syntax o c.from_residual-in_err-diverge.result c.diverging.new.input) (sym turned) (search rules)

pub returns-clause-reads : goal.returns-clause-reads
returns-clause-reads g c =
    let ts = c.args.input.now in
    let m = c.expr.new.input in
    let sign = eq_syntax c.args.eq_token in
    let e = Node (g.N.Trees.Trees.expr_syntax c.in_ok-expr.expr.value) in
    let inner : parse_rule whole_expression ts ≡ Some (e, m) = search rules in
    let turned : local_value sign ts ≡ valued sign e (diverges (ends_by false (before c.fork-start.result m)) m) =
    value_read sign e ts m inner ∙ ap (λ s. valued sign e (diverges (ends_by false (before s m)) m)) (sym c.fork-start.ensures) in
    let other = diverging (maybe (λ p. Both (else_syntax p.0) (block_after_else (g.N.Trees.Trees.expr_syntax p.1.value))) c.in_ok-diverge.diverge) in
    let following : diverges (ends_by false (before c.fork-start.result m)) m ≡ Some (other, c.diverging.new.input) = search rules in
    turned ∙ ap (valued sign e) following ∙ ap (λ s. Some (s, c.diverging.new.input)) (sym c.local_init.ensures)
