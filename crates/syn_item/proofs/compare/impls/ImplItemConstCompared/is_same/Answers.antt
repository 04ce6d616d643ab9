use Rattle.std.proofs.Common.{rules}
use Rattle.syn_item.proofs.SameMembers.{same_impl_constant}
use Rattle.syn_item.proofs.compare.impls.ImplItemConstCompared.is_same.Goals as goal

pub returns-then-is_same-10 : goal.returns-then-is_same-10
returns-then-is_same-10 c = record { same = rw (← c.self.view_is, ← c.other.view_is, same_impl_constant) (search rules) }

pub returns-else-is_same-10 : goal.returns-else-is_same-10
returns-else-is_same-10 c = record { same = rw (← c.self.view_is, ← c.other.view_is, same_impl_constant) (search rules) }
