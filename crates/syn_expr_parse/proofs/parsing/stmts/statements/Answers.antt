use Rattle.std.proofs.Common.{◌≡◌, ◌<◌, false, ◌∷◌, [], ◌++◌, Some, ◌∙◌, rules, arith}
use Rattle.syn_grammar.specs.Tokens.{ended}
use Rattle.syn_grammar.specs.Take.{left, sees}
use Rattle.syn_expr_parse.specs.StatementForms.{next_statement}
use Rattle.syn_expr_parse.proofs.Listed.{none_more, one_more}
use Rattle.syn_expr_parse.proofs.parsing.stmts.statements.Goals as goal

pub statements-preserved : goal.statements-preserved
statements-preserved g c =
    let stmts = c.statements.stmts.items in
    let stmt = c.in_ok-stmt.stmt in
    let less : left c.listed.new.input < left c.statements.input = search rules in
    let more : sees ended c.statements.input ≡ false = search rules in
    let got : next_statement c.statements.input ≡ Some (g.N.Trees.Trees.stmt_syntax stmt, c.listed.new.input) = search rules in
    let pushed : c.push.new.self.items ≡ stmts ++ stmt ∷ [] = search rules in (
      omega (arith, c.statements.invariant.0, less),
      rw pushed (c.statements.invariant.1 ∙ one_more g.N.Trees.Trees.stmt_syntax stmts stmt c.statements.input c.listed.new.input more got),
    )

pub returns-in_err-stmt : goal.returns-in_err-stmt
returns-in_err-stmt g c =
    let more : sees ended c.statements.input ≡ false = search rules in
    search (rules, none_more g.N.Trees.Trees.stmt_syntax c.statements.stmts.items c.statements.input more)
