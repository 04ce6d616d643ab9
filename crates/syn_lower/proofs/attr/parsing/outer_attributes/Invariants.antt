use Rattle.std.proofs.Common.{◌≡◌, ◌≤◌, true}
use Rattle.syn_grammar.specs.Rules.{attributes}
use Rattle.syn_grammar.specs.Take.{left}
use Rattle.syn_grammar.specs.Run.{parse_rule, wrap}
use Rattle.syn_tokens.specs.InOrder.{in_order}
use Rattle.syn_lower.specs.Attributes.{every, is_outer, syntax_of_Attribute}
use Rattle.syn_lower.proofs.AttributeLists.{in_front}
use Rattle.syn_lower.proofs.attr.parsing.outer_attributes.Given as goal

abbrev pub invariant-attributes : goal.invariant-attributes
invariant-attributes l =
    (left l.input ≤ left l.initial.input)
    × (every is_outer (in_order syntax_of_Attribute l.attrs.items) ≡ true)
    × (parse_rule attributes l.initial.input ≡ wrap (in_front l.attrs.items) (parse_rule attributes l.input))

abbrev pub decreases-attributes : goal.decreases-attributes
decreases-attributes l = left l.input
