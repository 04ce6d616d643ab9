-- HOW GENERIC PARAMETERS ARE READ, part by part.
use Rattle.std.specs.Prelude.{false, Some, None}
use Rattle.syn_grammar.specs.Words.{colon, equals, w_const}
use Rattle.syn_grammar.specs.Tokens.{Stream}
use Rattle.syn_grammar.specs.Rules.{constant, lifetime_parameter, lifetimes, parameter_bounds, type}
use Rattle.syn_grammar.specs.Grammar.{Syntax, Both, Left, Right, Node, Grammar, ◌&◌, when◌then◌else◌, empty, lifetime, name, rule, vanishing, word}
use Rattle.syn_grammar.specs.Forms.{plainly, punctuation}
use Rattle.syn_grammar.specs.Table.{at_colon, at_equals, parameter}
use Rattle.syn_grammar.specs.Take.{Out, Parser}
use Rattle.syn_grammar.specs.Run.{parse_form, rows, union, wrap}

-- a colon and lifetimes, where a colon is next; a colon and bounds
abbrev pub lifetime_bounds_form : Grammar
lifetime_bounds_form = vanishing false at_colon (punctuation colon & rule lifetimes)

abbrev pub bounds_form : Grammar
bounds_form = vanishing false at_colon (punctuation colon & rule parameter_bounds)

-- what follows the attributes of each parameter
abbrev pub lifetime_form : Grammar
lifetime_form = lifetime & lifetime_bounds_form

abbrev pub const_form : Grammar
const_form = plainly (word w_const) & plainly name & punctuation colon & rule type & (when at_equals then punctuation equals & rule constant else empty)

abbrev pub type_form : Grammar
type_form = plainly name & bounds_form & (when at_equals then punctuation equals & rule type else empty)

-- a parameter, after these attributes
unfoldable pub lifetime_after : Syntax → Parser
lifetime_after attrs ts = wrap (λ s. Node (Both attrs s)) (parse_form lifetime_form ts)

unfoldable pub const_after : Syntax → Parser
const_after attrs ts = wrap (λ s. Both attrs (Left s)) (parse_form const_form ts)

unfoldable pub type_after : Syntax → Parser
type_after attrs ts = wrap (λ s. Both attrs (Right s)) (parse_form type_form ts)

-- what follows what was read
abbrev pub after : Out → (Syntax → Parser) → Out
after (Some p) q = q p.0 p.1
after None q = None

-- parameters up to `>`
abbrev pub read_parameters : Parser
read_parameters = rows (union (parse_form (rule lifetime_parameter)) (parse_form parameter))
