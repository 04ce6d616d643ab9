-- LISTS IN `< >`: which members are printed first, and which are not.
use Rattle.std.specs.Prelude.{◌≡◌, Bool, false, Some, None}
use Rattle.syn_grammar.specs.Tokens.{Stream, at_lifetime}
use Rattle.syn_grammar.specs.Rules.{generic_argument, lifetime_parameter}
use Rattle.syn_grammar.specs.Grammar.{Grammar, lifetime, rule, ordered, vanishing}
use Rattle.syn_grammar.specs.Table.{at_less, parameter}
use Rattle.syn_grammar.specs.Take.{Out, Parser, sees}
use Rattle.syn_grammar.specs.Run.{branch, parse_form, union}
use Rattle.syn_recognize.specs.declared.list.List as list
use Rattle.syn_recognize.specs.declared.list.List.TheVariants as List-m

abbrev pub first_form : list.List → Grammar
first_form List-m.Arguments = lifetime
first_form List-m.Parameters = rule lifetime_parameter

abbrev pub other_form : list.List → Grammar
other_form List-m.Arguments = rule generic_argument
other_form List-m.Parameters = parameter

-- generics
abbrev pub generics_form : Grammar
generics_form = vanishing false at_less (ordered (rule lifetime_parameter) parameter)

-- a member
abbrev pub member : list.List → Parser
member k = union (parse_form (first_form k)) (parse_form (other_form k))

-- it is one that is printed first, or another
pub record Settles (k : list.List) (ts : Stream) (b : Bool) : Type 0 where
  pub is : member k ts ≡ branch b (parse_form (first_form k) ts) (parse_form (other_form k) ts)

-- a lifetime follows what was read, or none
abbrev pub LeadsTo : Out → Bool → Type 0
LeadsTo (Some p) b = sees at_lifetime p.1 ≡ b
LeadsTo None b = Unit {0}
