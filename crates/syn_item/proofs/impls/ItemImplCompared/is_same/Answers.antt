use Rattle.std.proofs.Common.{rules}
use Rattle.syn_item.proofs.SameImpls.{same_impl}
use Rattle.syn_item.proofs.impls.ItemImplCompared.is_same.Goals as goal

pub returns-then-has_same_where : goal.returns-then-has_same_where
returns-then-has_same_where c = record { same = rw (← c.self.view_is, ← c.other.view_is, same_impl) (search rules) }

pub returns-else-has_same_where : goal.returns-else-has_same_where
returns-else-has_same_where c = record { same = rw (← c.self.view_is, ← c.other.view_is, same_impl) (search rules) }
