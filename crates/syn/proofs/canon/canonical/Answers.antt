use Rattle.std.proofs.Common.{◌≡◌, rules}
use Rattle.std.specs.Prelude.{Err}
use Rattle.syn_grammar.specs.Grammar.{print}
use Rattle.syn_tokens.specs.Faults.{IsSyntaxError}
use Rattle.syn.proofs.Canons.{canonical_by, canonical_refused, returned_by, returned_refused, still_by, still_refused}
use Rattle.syn.proofs.canon.canonical.Goals as goal

pub returns-in_err-tree : goal.returns-in_err-tree
returns-in_err-tree g c =
    let e = c.in_err-tree.field-0.0 in
    let is : c.from_residual.result ≡ Err e = search rules in
    record {
      canonical = canonical_refused IsSyntaxError g.T.Syntactic.syntax g.T.Parse.form g.T.Canonical.rule g.met.T.Canonical.reads_rule c.args.tokens e c.from_residual.result is c.in_err-tree.ensures;
      returned = returned_refused IsSyntaxError g.T.Syntactic.syntax g.T.Parse.form g.T.Canonical.rule g.met.T.Canonical.reads_rule c.args.tokens e c.from_residual.result is c.in_err-tree.ensures;
      grown = still_refused IsSyntaxError g.T.Syntactic.syntax g.T.Parse.form g.T.Canonical.rule g.met.T.Canonical.reads_rule c.args.tokens e c.from_residual.result is c.in_err-tree.ensures;
    }

pub returns : goal.returns
returns g c =
    let printed : c.to_tokens.new.tokens ≡ print (g.T.Syntactic.syntax c.in_ok-tree.tree) = search rules in
    let derived = canonical_by g.T.Parse.form g.T.Canonical.rule g.met.T.Canonical.reads_rule c.args.tokens c.to_tokens.new.tokens (g.T.Syntactic.syntax c.in_ok-tree.tree) in
    record {
      canonical = λ v. derived v (c.in_ok-tree.ensures v) printed;
      returned = λ v. returned_by g.T.Syntactic.syntax g.T.Parse.form g.T.Canonical.rule g.met.T.Canonical.reads_rule c.args.tokens c.to_tokens.new.tokens c.in_ok-tree.tree (c.in_ok-tree.ensures v) printed;
      grown = λ v. still_by g.T.Canonical.rule c.args.tokens c.to_tokens.new.tokens (derived v (c.in_ok-tree.ensures v) printed);
    }
