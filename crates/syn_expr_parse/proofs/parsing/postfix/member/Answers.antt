use Rattle.std.proofs.Common.{◌≡◌, false, Some, sym, subst, rules}
use Rattle.syn_grammar.specs.Words.{dot}
use Rattle.syn_grammar.specs.Table.{at_any_literal}
use Rattle.syn_grammar.specs.Take.{sees, take_mark}
use Rattle.syn_grammar.specs.Promises.{Computes}
use Rattle.syn_tokens.specs.Kinds.{dot_syntax}
use Rattle.syn_parse.specs.Refusals.{IsSyntax}
use Rattle.syn_expr_parse.proofs.Postfixes.{named_step}
use Rattle.syn_expr_parse.proofs.parsing.postfix.member.Goals as goal

pub returns-then-not-peek-clause-reads : goal.returns-then-not-peek-clause-reads
returns-then-not-peek-clause-reads g c =
    let ts = c.args.input.now in
    let m = c.read.new.self in
    let sign : take_mark dot ts ≡ Some (dot_syntax c.in_ok-dot_token.dot_token, m) = search rules in
    let none : sees at_any_literal m ≡ false = search rules in
    subst (λ o. Computes IsSyntax (λ e. g.N.Trees.Trees.expr_syntax e.value) o c.named_member.result c.named_member.new.input)
    (sym (named_step (g.N.Trees.Trees.expr_syntax c.args.base.value) (dot_syntax c.in_ok-dot_token.dot_token) ts m sign none)) c.named_member.ensures.reads
