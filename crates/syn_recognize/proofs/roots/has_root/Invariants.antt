use Rattle.std.proofs.Common.{◌≡◌, drop, false}
use Rattle.syn_grammar.specs.DecidedByTokens.{roots}
use Rattle.syn_recognize.specs.RootMarks.{roots_in}
use Rattle.syn_recognize.proofs.roots.has_root.Given as goal

abbrev pub invariant-loop-entry : goal.invariant-loop-entry
invariant-loop-entry l = roots false l.fn.tokens ≡ roots_in l.begins (drop l.entry-index l.entry-items)
