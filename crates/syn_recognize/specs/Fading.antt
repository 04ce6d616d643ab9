-- PARTS THAT AREN'T PRINTED WHERE THEIR LIST IS EMPTY: the token before the list, the list, and whether it has a member.
use Rattle.std.specs.Prelude.{◌≡◌, Bool, false, [], Some, None, Result, Ok, Err}
use Rattle.syn_grammar.specs.Words.{colon, w_where}
use Rattle.syn_grammar.specs.Tokens.{Stream, Look, at_lifetime, at_mark, at_word, no}
use Rattle.syn_grammar.specs.Rules.{Rule, lifetimes, parameter_bounds, predicates, supertraits, type_bounds}
use Rattle.syn_grammar.specs.Grammar.{Grammar, Syntax, mark, token, word, ◌&◌, rule, vanishing}
use Rattle.syn_grammar.specs.Table.{at_parameter_end, at_predicate_end, at_supertraits_end, at_type_bounds_end}
use Rattle.syn_grammar.specs.Take.{Out, sees}
use Rattle.syn_recognize.specs.declared.fading.Fading as fading
use Rattle.syn_recognize.specs.declared.fading.Fading.TheVariants as Fading-m

abbrev pub head_form : fading.Fading → Grammar
head_form Fading-m.Lifetimes = mark false colon
head_form Fading-m.Bounds = mark false colon
head_form Fading-m.Predicates = token [] (word w_where)
head_form Fading-m.Supertraits = mark false colon
head_form Fading-m.TypeBounds = mark false colon

abbrev pub fading_look : fading.Fading → Look
fading_look Fading-m.Lifetimes = at_mark colon
fading_look Fading-m.Bounds = at_mark colon
fading_look Fading-m.Predicates = at_word w_where
fading_look Fading-m.Supertraits = at_mark colon
fading_look Fading-m.TypeBounds = at_mark colon

abbrev pub list_rule : fading.Fading → Rule
list_rule Fading-m.Lifetimes = lifetimes
list_rule Fading-m.Bounds = parameter_bounds
list_rule Fading-m.Predicates = predicates
list_rule Fading-m.Supertraits = supertraits
list_rule Fading-m.TypeBounds = type_bounds

abbrev pub fading_form : fading.Fading → Grammar
fading_form k = vanishing false (fading_look k) (head_form k & rule (list_rule k))

-- the list that is next has a member
abbrev pub begins_list : fading.Fading → Stream → Bool
begins_list Fading-m.Lifetimes ts = sees at_lifetime ts
begins_list Fading-m.Bounds ts = no (sees at_parameter_end ts)
begins_list Fading-m.Predicates ts = no (sees at_predicate_end ts)
begins_list Fading-m.Supertraits ts = no (sees at_supertraits_end ts)
begins_list Fading-m.TypeBounds ts = no (sees at_type_bounds_end ts)

-- the tree isn't stored; or nothing is read
abbrev pub Skips : {E : Type 0} → (E → Type 0) → Out → Result (Unit {0}) E → Stream → Type 0
Skips refusal out (Ok x) new = (s : Syntax) × (out ≡ Some (s, new))
Skips refusal out (Err e) new = refusal e → out ≡ None
