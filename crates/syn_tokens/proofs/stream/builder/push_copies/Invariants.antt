use Rattle.std.proofs.Common.{◌≡◌, ◌++◌, take}
use Rattle.syn_tokens.proofs.stream.builder.push_copies.Given as goal

abbrev pub invariant-loop-entry : goal.invariant-loop-entry
invariant-loop-entry l = l.following.items ≡ l.initial.following.items ++ take l.entry-index l.entries
