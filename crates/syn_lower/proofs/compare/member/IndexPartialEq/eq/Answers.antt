use Rattle.std.proofs.Common.{sym, ◌∙◌}
use Rattle.syn_grammar.proofs.Same.{same_syntax_plain}
use Rattle.syn_lower.specs.Members.{syntax_of_Index}
use Rattle.syn_lower.proofs.Equality.{prints_alike}
use Rattle.syn_lower.proofs.compare.member.IndexPartialEq.eq.Goals as goal

pub returns-clause-equal : goal.returns-clause-equal
returns-clause-equal c =
    let same = same_syntax_plain (syntax_of_Index c.args.self.now) (syntax_of_Index c.args.other.now) in
    (λ h. same.0 (sym c.is_same.ensures.same ∙ h), λ h. c.is_same.ensures.same ∙ same.1 h)

pub returns-clause-prints : goal.returns-clause-prints
returns-clause-prints c h = prints_alike (syntax_of_Index c.args.self.now) (syntax_of_Index c.args.other.now) (sym c.is_same.ensures.same ∙ h)
