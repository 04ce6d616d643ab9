use Rattle.std.proofs.Common.{◌+◌}
use Rattle.rewrite_items.proofs.widen.+widen.Given as goal

abbrev pub decreases-widen_items : goal.decreases-widen_items
decreases-widen_items l = l.depth + l.depth + 1

abbrev pub decreases-widen_module : goal.decreases-widen_module
decreases-widen_module l = l.depth + l.depth
