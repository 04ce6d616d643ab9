use Rattle.std.proofs.Common.{Bool}
use Rattle.syn_grammar.specs.Rules.{attributes}
use Rattle.syn_grammar.specs.Run.{parse_rule}
use Rattle.syn_grammar.specs.Take.{left}
use Rattle.syn_recognize.specs.Ordered.{LeadsTo}
use Rattle.syn_recognize.proofs.list.at_lifetime_parameter.Given as goal

abbrev pub invariant-attributes : goal.invariant-attributes
invariant-attributes l = (b : Bool) → LeadsTo (parse_rule attributes l.ahead) b → LeadsTo (parse_rule attributes l.input) b

abbrev pub decreases-attributes : goal.decreases-attributes
decreases-attributes l = left l.ahead
