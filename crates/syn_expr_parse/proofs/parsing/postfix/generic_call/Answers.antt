use Rattle.std.proofs.Common.{◌≡◌, Some, rules}
use Rattle.syn_grammar.specs.Tokens as grammar
use Rattle.syn_grammar.specs.Grammar.{Syntax, Node}
use Rattle.syn_grammar.specs.Run.{parse_form}
use Rattle.syn_tokens.specs.Kinds.{comma_syntax, dot_syntax}
use Rattle.syn_tokens.specs.Leaves.{syntax_of_ident}
use Rattle.syn_tokens.specs.Listing.{list_of}
use Rattle.syn_parse.specs.Refusals.{IsSyntax}
use Rattle.syn_lower.specs.Parts.{group_syntax}
use Rattle.syn_lower.specs.TypeForms.{angle_bracketed_form}
use Rattle.syn_expr_parse.specs.Postfixes.{arguments_form}
use Rattle.syn_expr_parse.proofs.Postfixes.{generic_called, made_of}
use Rattle.syn_expr_parse.proofs.parsing.postfix.generic_call.Goals as goal

pub returns-clause-reads : goal.returns-clause-reads
returns-clause-reads g c =
    let v = λ (e : g.row.N-Trees-Expr.Denot). Node (g.N.Trees.Trees.expr_syntax e) in
    let ts = c.args.input.now in
    let r = c.read.new.self in
    let n = c.arguments.new.input in
    let arguments : Syntax = group_syntax grammar.Paren c.in_ok-paren_token.paren_token (list_of v comma_syntax c.in_ok-paren_token.args.pairs c.in_ok-paren_token.args.last) in
    let generic : parse_form angle_bracketed_form ts ≡ Some (c.in_ok-read.field-0, r) = search rules in
    let got : parse_form arguments_form r ≡ Some (arguments, n) = search rules in
    made_of IsSyntax (λ e. g.N.Trees.Trees.expr_syntax e.value) _ _ c.expr_method_call.result n
    (generic_called (g.N.Trees.Trees.expr_syntax c.args.receiver.value) (dot_syntax c.args.dot_token) (syntax_of_ident c.args.method) c.in_ok-read.field-0 arguments ts r n c.requires.colons generic got) c.expr_method_call.ensures
