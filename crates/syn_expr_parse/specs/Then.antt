-- ONE READING AFTER ANOTHER.
use Rattle.std.specs.Prelude.{Some, None}
use Rattle.syn_grammar.specs.Grammar.{Syntax}
use Rattle.syn_grammar.specs.Take.{Out, Parser}

-- with what was read so far
abbrev pub then_by : Out → (Syntax → Parser) → Out
then_by (Some p) q = q p.0 p.1
then_by None q = None
