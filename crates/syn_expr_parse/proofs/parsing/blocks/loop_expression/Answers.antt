use Rattle.std.proofs.Common.{◌≡◌, true, false, sym, subst, rules}
use Rattle.syn_grammar.specs.Words.{w_loop, w_while}
use Rattle.syn_grammar.specs.Tokens.{at_word}
use Rattle.syn_grammar.specs.Take.{sees}
use Rattle.syn_grammar.specs.Promises.{Computes}
use Rattle.syn_parse.specs.Refusals.{IsSyntax}
use Rattle.syn_expr_parse.specs.Parts.{label_syntax}
use Rattle.syn_expr_parse.proofs.Blocks.{read_for, read_loop, read_while}
use Rattle.syn_expr_parse.proofs.parsing.blocks.loop_expression.Goals as goal

pub returns-then-peek-clause-reads : goal.returns-then-peek-clause-reads
returns-then-peek-clause-reads g c =
    let label = label_syntax c.args.label in
    let word : sees (at_word w_loop) c.args.input.now ≡ true = search rules in
    subst (λ o. Computes IsSyntax (λ e. g.N.Trees.Trees.expr_syntax e.value) o c.endless_loop.result c.endless_loop.new.input) (sym (read_loop label c.args.input.now word)) c.endless_loop.ensures.reads

pub returns-then-peek-2-clause-reads : goal.returns-then-peek-2-clause-reads
returns-then-peek-2-clause-reads g c =
    let label = label_syntax c.args.label in
    let word : sees (at_word w_loop) c.args.input.now ≡ false = search rules in
    let other : sees (at_word w_while) c.args.input.now ≡ true = search rules in
    subst (λ o. Computes IsSyntax (λ e. g.N.Trees.Trees.expr_syntax e.value) o c.while_loop.result c.while_loop.new.input) (sym (read_while label c.args.input.now word other)) c.while_loop.ensures.reads

pub returns-else-peek-2-clause-reads : goal.returns-else-peek-2-clause-reads
returns-else-peek-2-clause-reads g c =
    let label = label_syntax c.args.label in
    let word : sees (at_word w_loop) c.args.input.now ≡ false = search rules in
    let other : sees (at_word w_while) c.args.input.now ≡ false = search rules in
    subst (λ o. Computes IsSyntax (λ e. g.N.Trees.Trees.expr_syntax e.value) o c.for_loop.result c.for_loop.new.input) (sym (read_for label c.args.input.now word other)) c.for_loop.ensures.reads
