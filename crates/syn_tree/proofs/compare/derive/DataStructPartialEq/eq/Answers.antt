use Rattle.std.proofs.Common.{sym, ◌∙◌}
use Rattle.syn_tree.specs.Derive.{syntax_of_DataStruct}
use Rattle.syn_lower.proofs.Equality.{prints_alike}
use Rattle.syn_tree.proofs.compare.derive.DataStructPartialEq.eq.Goals as goal

pub returns-clause-prints : goal.returns-clause-prints
returns-clause-prints c h = prints_alike (syntax_of_DataStruct c.args.self.now) (syntax_of_DataStruct c.args.other.now) (sym c.is_same.ensures.same ∙ h)
