use Rattle.std.proofs.Common.{◌≡◌, Some, rules}
use Rattle.syn_parse.specs.Form.{parse}
use Rattle.syn_parse.proofs.parse.AnyParse.parse.Goals as goal

pub returns-clause-outcome : goal.returns-clause-outcome
returns-clause-outcome g c = λ v.
    let said : parse g.T.Read.form c.args.input.now ≡ Some (g.T.Syntactic.syntax c.in_ok-value.value, c.advance_to.new.self) = search rules in
    (g.met.T.Read.meaning.derived c.args.input.now v (g.T.Syntactic.syntax c.in_ok-value.value) c.advance_to.new.self).0 said
