-- PARAMETERS WITHOUT A NAME: `_ :` counts as read before them.
use Rattle.std.specs.Prelude.{◌≡◌, false, Some}
use Rattle.syn_grammar.specs.Words.{w_underscore, comma}
use Rattle.syn_grammar.specs.Tokens.{Span, Stream, end, leaf, punct, ident, Before_less}
use Rattle.syn_grammar.specs.Rules.{later_inputs, pattern, type, variadic}
use Rattle.syn_grammar.specs.Grammar.{Grammar, empty, ◌&◌, when◌then◌else◌, mark, rule, supplied}
use Rattle.syn_grammar.specs.Take.{leaf_span}
use Rattle.syn_grammar.specs.Table.{at_comma, at_ellipsis}
use Rattle.syn_recognize.specs.Written.{Written, adds}
use Rattle.syn_recognize.specs.declared.supplied.Nameless.{Nameless}
use Rattle.syn_recognize.specs.declared.supplied.Nameless.TheVariants as Nameless-m

-- what follows the name and its colon
abbrev pub typed_form : Nameless → Grammar
typed_form Nameless-m.Argument = rule type
typed_form Nameless-m.Input = when at_ellipsis then rule variadic else rule type & (when at_comma then mark false comma & rule later_inputs else empty)

abbrev pub supplied_form : Nameless → Grammar
supplied_form k = supplied Before_less (rule pattern) (typed_form k)

-- `_ :`
abbrev pub unnamed : Span → Stream
unnamed sp = leaf (ident w_underscore) sp (punct 58 false sp end)

-- this is written, with the span of the next token
abbrev pub Unnamed : Written → Stream → Written → Type 0
Unnamed old ts new = (sp : Span) × (leaf_span ts ≡ Some sp) × (new ≡ adds old (unnamed sp))
