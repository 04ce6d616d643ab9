use Rattle.std.proofs.Common.{◌≡◌, Some, None, rules}
use Rattle.syn_parse.specs.Form.{parse}
use Rattle.syn_tokens.specs.Listing.{list_of}
use Rattle.syn_parse.specs.Terminated.{terminated}
use Rattle.syn_parse.proofs.TerminatedLists.{form_list_known, form_list_unread, list_err}
use Rattle.syn_parse.proofs.buffer.ParseBuffer.parse_terminated.Goals as goal

pub returns-in_err-list-clause-outcome : goal.returns-in_err-list-clause-outcome
returns-in_err-list-clause-outcome g c = list_err _ _ _ _ _ c.args.self.now c.from_residual.result c.in_err-list.field-0.0 c.from_residual.ensures.1 (λ v s.
    let none : terminated (parse g.T.Parse.form) (parse g.P.Read.form) c.args.self.now ≡ None = search rules in
    form_list_unread g.T.Parse.form g.P.Read.form g.met.T.Parse.meaning g.met.P.Read.meaning g.met.P.Separator.reads_some c.args.self.now v none)

pub returns-clause-outcome : goal.returns-clause-outcome
returns-clause-outcome g c = λ v.
    let l = c.in_ok-list.list in
    let said : terminated (parse g.T.Parse.form) (parse g.P.Read.form) c.args.self.now ≡ Some (list_of g.T.Syntactic.syntax g.P.Syntactic.syntax l.pairs l.last, c.read_to_end.new.input) = search rules in
    form_list_known g.T.Parse.form g.P.Read.form g.met.T.Parse.meaning g.met.P.Read.meaning g.met.P.Separator.reads_some
    g.T.Syntactic.syntax g.P.Syntactic.syntax l.pairs l.last c.args.self.now c.read_to_end.new.input v said
