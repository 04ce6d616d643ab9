use Rattle.std.proofs.Common.{sym, ◌∙◌}
use Rattle.syn_grammar.proofs.Same.{same_syntax_plain}
use Rattle.syn_lower.specs.Attributes.{syntax_of_MetaNameValue}
use Rattle.syn_lower.proofs.Equality.{prints_alike}
use Rattle.syn_lower.proofs.compare.attr.MetaNameValuePartialEq.eq.Goals as goal

pub returns-clause-prints : goal.returns-clause-prints
returns-clause-prints c h = prints_alike (syntax_of_MetaNameValue c.args.self.now) (syntax_of_MetaNameValue c.args.other.now) (sym c.is_same.ensures.same ∙ h)

pub returns-clause-equal : goal.returns-clause-equal
returns-clause-equal c = rw c.is_same.ensures.same (same_syntax_plain (syntax_of_MetaNameValue c.args.self.now) (syntax_of_MetaNameValue c.args.other.now))
