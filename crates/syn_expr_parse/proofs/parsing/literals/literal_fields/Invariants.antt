use Rattle.std.proofs.Common.{◌≡◌, ◌≤◌, None}
use Rattle.syn_grammar.specs.Rules.{literal_fields}
use Rattle.syn_grammar.specs.Take.{left}
use Rattle.syn_grammar.specs.Run.{parse_rule, wrap}
use Rattle.syn_tokens.specs.Kinds.{comma_syntax}
use Rattle.syn_expr_parse.specs.StructLiterals.{fields_before}
use Rattle.syn_expr_parse.proofs.parsing.literals.literal_fields.Given as goal

abbrev pub invariant-fields : goal.invariant-fields
invariant-fields g l =
    (left l.input ≤ left l.initial.input) × (l.list.last ≡ None)
    × (parse_rule literal_fields l.initial.input ≡ wrap (fields_before g.N.Trees.Trees.field_syntax comma_syntax l.list.pairs) (parse_rule literal_fields l.input))

abbrev pub decreases-fields : goal.decreases-fields
decreases-fields g l = left l.input
