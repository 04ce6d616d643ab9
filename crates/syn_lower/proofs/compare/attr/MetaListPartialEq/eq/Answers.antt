use Rattle.std.proofs.Common.{sym, ◌∙◌}
use Rattle.syn_lower.specs.Attributes.{syntax_of_MetaList}
use Rattle.syn_lower.proofs.Equality.{prints_alike}
use Rattle.syn_lower.proofs.compare.attr.MetaListPartialEq.eq.Goals as goal

pub returns-clause-prints : goal.returns-clause-prints
returns-clause-prints c h = prints_alike (syntax_of_MetaList c.args.self.now) (syntax_of_MetaList c.args.other.now) (sym c.is_same.ensures.same ∙ h)
