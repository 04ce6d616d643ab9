-- STAGES OF THE PLAN OF ITEMS: what is left of it where the attributes and the visibility are known, and where a word says what continues.
use Rattle.syn_grammar.specs.Plan.{Plan}
use Rattle.syn_grammar.specs.ItemPlan.{Place, public, unwritten, plain, bare_impl_plan, after_visibility, impl_generics, other_plan}
use Rattle.syn_tokens.specs.Kinds.{const_syntax, default_syntax, impl_syntax, unsafe_syntax}
use Rattle.syn_tokens.specs.Leaves.{maybe}
use Rattle.syn_lower.specs.Attributes.{attributes_syntax}
use Rattle.syn_tree.specs.Restriction.{syntax_of_Visibility}
use Rattle.syn_item.specs.ItemTurns.{const_turn, extern_turn, function_turn, lone_word_turn, module_or_function_turn, other_kinds_turn, unsafe_turn}
use Rattle.syn_item.specs.declared.impls.parsing.ImplMarks.{ImplMarks}
use Rattle.syn_item.specs.declared.item.parsing.Begun.{Begun}
use Rattle.syn_item.specs.declared.item.parsing.Place.TheVariants as Place-m

-- the place of an item
abbrev pub place_of : Place-m.the_data → Place
place_of Place-m.Public = public
place_of Place-m.Unwritten = unwritten
place_of Place-m.Plain = plain

-- after the visibility
abbrev pub after_place : Begun → Plan
after_place b = after_visibility (place_of b.place) (attributes_syntax b.attrs.items) (syntax_of_Visibility b.vis)

abbrev pub other_plan_of : Begun → Plan
other_plan_of b = other_plan (place_of b.place) (attributes_syntax b.attrs.items)

abbrev pub bare_impl_plan_of : Begun → Plan
bare_impl_plan_of b = bare_impl_plan (place_of b.place) (attributes_syntax b.attrs.items)

-- from a word on
abbrev pub function_stage : Begun → Plan
function_stage b = function_turn (attributes_syntax b.attrs.items) (syntax_of_Visibility b.vis)

abbrev pub extern_stage : Begun → Plan
extern_stage b = extern_turn (place_of b.place) (attributes_syntax b.attrs.items) (syntax_of_Visibility b.vis)

abbrev pub unsafe_stage : Begun → Plan
unsafe_stage b = unsafe_turn (place_of b.place) (attributes_syntax b.attrs.items) (syntax_of_Visibility b.vis)

-- neither an extern crate, nor a module, a trait or an impl
abbrev pub module_or_function_stage : Begun → Plan
module_or_function_stage b = module_or_function_turn (place_of b.place) (attributes_syntax b.attrs.items) (syntax_of_Visibility b.vis)

abbrev pub const_stage : Begun → Plan
const_stage b = const_turn (place_of b.place) (attributes_syntax b.attrs.items) (syntax_of_Visibility b.vis)

-- the kinds after the first seven
abbrev pub other_kinds_plan : Begun → Plan
other_kinds_plan b = other_kinds_turn (place_of b.place) (attributes_syntax b.attrs.items) (syntax_of_Visibility b.vis)

-- an impl after its word
abbrev pub impl_after_marks : ImplMarks → Plan
impl_after_marks m =
    impl_generics (attributes_syntax m.attrs.items) (maybe default_syntax m.defaultness) (maybe const_syntax m.constness) (maybe unsafe_syntax m.unsafety) (impl_syntax m.impl_token)

-- an impl of a type in parentheses that hold one word, or a trait after such a restriction, after `impl`
abbrev pub lone_word_plan : ImplMarks → Plan
lone_word_plan m =
    lone_word_turn (attributes_syntax m.attrs.items) (maybe default_syntax m.defaultness) (maybe const_syntax m.constness) (maybe unsafe_syntax m.unsafety) (impl_syntax m.impl_token)
