use Rattle.std.proofs.Common.{◌≡◌, rules}
use Rattle.std.specs.Prelude.{Err}
use Rattle.syn_grammar.specs.Grammar.{print}
use Rattle.syn_tokens.specs.Faults.{IsSyntaxError}
use Rattle.syn.proofs.Canons.{same_form_by, same_form_refused_left, same_form_refused_right, same_returned_by, same_returned_refused_left, same_returned_refused_right}
use Rattle.syn.proofs.canon.same_form.Goals as goal

pub returns-in_err-left_tree : goal.returns-in_err-left_tree
returns-in_err-left_tree g c =
    let e = c.in_err-left_tree.field-0.0 in
    let is : c.from_residual.result ≡ Err e = search rules in
    record {
      same_form = same_form_refused_left IsSyntaxError g.T.Syntactic.syntax g.T.Parse.form g.T.Canonical.rule g.met.T.Canonical.reads_rule c.args.left c.args.right e c.from_residual.result is c.in_err-left_tree.ensures;
      returned = same_returned_refused_left IsSyntaxError g.T.Syntactic.syntax g.T.Parse.form g.T.Canonical.rule g.met.T.Canonical.reads_rule c.args.left c.args.right e c.from_residual.result is c.in_err-left_tree.ensures;
    }

pub returns-in_err-right_tree : goal.returns-in_err-right_tree
returns-in_err-right_tree g c =
    let e = c.in_err-right_tree.field-0.0 in
    let is : c.from_residual-in_err-right_tree.result ≡ Err e = search rules in
    record {
      same_form = same_form_refused_right IsSyntaxError g.T.Syntactic.syntax g.T.Parse.form g.T.Canonical.rule g.met.T.Canonical.reads_rule c.args.left c.args.right e c.from_residual-in_err-right_tree.result is c.in_err-right_tree.ensures;
      returned = same_returned_refused_right IsSyntaxError g.T.Syntactic.syntax g.T.Parse.form g.T.Canonical.rule g.met.T.Canonical.reads_rule c.args.left c.args.right e c.from_residual-in_err-right_tree.result is c.in_err-right_tree.ensures;
    }

pub returns : goal.returns
returns g c =
    let left : c.to_tokens.new.tokens ≡ print (g.T.Syntactic.syntax c.in_ok-left_tree.left_tree) = search rules in
    let right : c.to_tokens-2.new.tokens ≡ print (g.T.Syntactic.syntax c.in_ok-right_tree.right_tree) = search rules in
    record {
      same_form = λ v w. same_form_by g.T.Parse.form g.T.Canonical.rule g.met.T.Canonical.reads_rule c.args.left c.args.right c.to_tokens.new.tokens c.to_tokens-2.new.tokens (g.T.Syntactic.syntax c.in_ok-left_tree.left_tree) (g.T.Syntactic.syntax c.in_ok-right_tree.right_tree) c.eq.result (c.in_ok-left_tree.ensures v) (c.in_ok-right_tree.ensures w) left right c.eq.ensures.plain;
      returned = λ v w. same_returned_by g.T.Syntactic.syntax g.T.Parse.form g.T.Canonical.rule g.met.T.Canonical.reads_rule c.args.left c.args.right c.to_tokens.new.tokens c.to_tokens-2.new.tokens c.in_ok-left_tree.left_tree c.in_ok-right_tree.right_tree c.eq.result (c.in_ok-left_tree.ensures v) (c.in_ok-right_tree.ensures w) left right c.eq.ensures.plain;
    }
