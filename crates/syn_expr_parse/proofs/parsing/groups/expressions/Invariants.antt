use Rattle.std.proofs.Common.{◌≡◌, ◌≤◌, None}
use Rattle.syn_grammar.specs.Rules.{expressions}
use Rattle.syn_grammar.specs.Grammar.{Node, Right}
use Rattle.syn_grammar.specs.Take.{left}
use Rattle.syn_grammar.specs.Run.{parse_rule, wrap}
use Rattle.syn_tokens.specs.Kinds.{comma_syntax}
use Rattle.syn_tokens.specs.Listing.{onto}
use Rattle.syn_expr_parse.proofs.parsing.groups.expressions.Given as goal

abbrev pub invariant-elements : goal.invariant-elements
invariant-elements g l =
    (left l.input ≤ left l.initial.input) × (l.list.last ≡ None)
    × (parse_rule expressions l.initial.input ≡ wrap (onto Right (λ e. Node (g.N.Trees.Trees.expr_syntax e)) comma_syntax l.list.pairs) (parse_rule expressions l.input))

abbrev pub decreases-elements : goal.decreases-elements
decreases-elements g l = left l.input
