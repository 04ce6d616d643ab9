use Rattle.std.proofs.Common.{◌≡◌, drop}
use Rattle.syn_tokens.specs.Entries.{encode}
use Rattle.syn_whole.specs.HiddenGroups.{invisible_in}
use Rattle.syn_whole.proofs.invisible.has_invisible.Given as goal

abbrev pub invariant-loop-entry : goal.invariant-loop-entry
invariant-loop-entry l = invisible_in (encode l.fn.tokens) ≡ invisible_in (drop l.entry-index l.entry-items)
