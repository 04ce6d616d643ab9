use Rattle.std.proofs.Common.{◌≡◌}
use Rattle.syn_grammar.specs.Take.{left, sees}
use Rattle.syn_grammar.specs.Table.{at_brace_macro, at_macro}
use Rattle.syn_recognize.specs.ItemLooks.{at_named_macro, brace_macro_from, macro_from, named_macro_from}
use Rattle.syn_recognize.proofs.looks.after_path.Given as goal

abbrev pub invariant-words : goal.invariant-words
invariant-words l = (sees at_macro l.input ≡ macro_from l.ahead) × (sees at_brace_macro l.input ≡ brace_macro_from l.ahead) × (sees at_named_macro l.input ≡ named_macro_from l.ahead)

abbrev pub decreases-words : goal.decreases-words
decreases-words l = left l.ahead
