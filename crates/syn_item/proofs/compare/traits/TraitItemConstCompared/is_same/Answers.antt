use Rattle.std.proofs.Common.{rules}
use Rattle.syn_item.proofs.SameMembers.{same_trait_constant}
use Rattle.syn_item.proofs.compare.traits.TraitItemConstCompared.is_same.Goals as goal

pub returns-then-is_same-8 : goal.returns-then-is_same-8
returns-then-is_same-8 c = record { same = rw (← c.self.view_is, ← c.other.view_is, same_trait_constant) (search rules) }

pub returns-else-is_same-8 : goal.returns-else-is_same-8
returns-else-is_same-8 c = record { same = rw (← c.self.view_is, ← c.other.view_is, same_trait_constant) (search rules) }
