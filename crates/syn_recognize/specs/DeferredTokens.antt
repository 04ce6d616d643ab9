-- DEFERRED TREES: tokens that are read as a whole, the tree they are read as, and the tokens that are printed.
use Rattle.std.specs.Prelude.{◌≡◌, ℕ, zero, suc, Option, Some, None}
use Rattle.syn_grammar.specs.Tokens.{Stream, end, Brace}
use Rattle.syn_grammar.specs.Rules.{Rule, constant, whole_expression, statements, item, items}
use Rattle.syn_grammar.specs.Grammar.{Syntax, Nothing, Node, Group, show, print}
use Rattle.syn_grammar.specs.Take.{Out, only, is_end}
use Rattle.syn_grammar.specs.Run.{parse_rule}
use Rattle.syn_tokens.specs.Spans.{at}
use Rattle.syn_tokens.specs.declared.token.delimiters.Delimiters.{Delimiters}

-- any expression, constants, and an item; and statements and items, which are only read to the end of a group
abbrev pub kind_rule : ℕ → Rule
kind_rule zero = whole_expression
kind_rule (suc zero) = constant
kind_rule (suc (suc zero)) = item
kind_rule (suc (suc (suc zero))) = statements
kind_rule (suc (suc (suc (suc n)))) = items

abbrev pub tree_in : Out → Syntax
tree_in (Some p) = p.0
tree_in None = Nothing

-- what the rule reads these tokens as
abbrev pub read_as : Rule → Stream → Syntax
read_as k ts = tree_in (parse_rule k ts)

-- the rule reads all of the first tokens; they are the shown tokens of the tree, and the others its printed ones
pub record IsDeferred (k : Rule) (source printed : Stream) : Type 0 where
  pub whole : parse_rule k source ≡ Some (read_as k source, end)
  pub shown : source ≡ show (read_as k source)
  pub as_printed : printed ≡ print (read_as k source)

-- the printed tokens, which are given only where they differ from the shown ones
abbrev pub printed_from : {B : Type 0} → (B → Stream) → Stream → Option B → Stream
printed_from of source (Some b) = of b
printed_from of source None = source

abbrev pub printed_or : Stream → Option Stream → Stream
printed_or = printed_from (λ s. s)

-- statements as a block with these braces
abbrev pub in_braces : {K : Type 0} → Delimiters K → Syntax → Syntax
in_braces braces s = Node (Group Brace (at braces.opening) (at braces.closing) s)

-- a result with no tokens left
abbrev pub whole_only : Out → Out
whole_only (Some p) = only (is_end p.1) (Some p)
whole_only None = None
