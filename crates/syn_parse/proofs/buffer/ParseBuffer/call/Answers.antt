use Rattle.std.proofs.Common.{sym, ◌∙◌, rules}
use Rattle.syn_parse.proofs.Errors.{same_error, no_value}
use Rattle.syn_parse.proofs.buffer.ParseBuffer.call.Goals as goal

pub returns-in_err-value-clause-answered : goal.returns-in_err-value-clause-answered
returns-in_err-value-clause-answered g c = record {
  answer = c.f.result;
  rest = c.f.new.arg2;
  called = search rules;
  same = same_error c.from_residual.result _ _ c.from_residual.ensures.1 (sym c.answer.ensures ∙ c.in_err-value.was);
  proceeds = no_value _ c.from_residual.result _ c.from_residual.ensures.1;
}
