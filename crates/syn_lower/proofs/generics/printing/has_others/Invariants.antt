use Rattle.std.proofs.Common.{◌≡◌, drop}
use Rattle.syn_lower.specs.GenericPrints.{has_others}
use Rattle.syn_lower.proofs.generics.printing.has_others.Given as goal

abbrev pub invariant-loop-param : goal.invariant-loop-param
invariant-loop-param l = has_others (drop l.param-index l.pairs) ≡ has_others l.pairs
