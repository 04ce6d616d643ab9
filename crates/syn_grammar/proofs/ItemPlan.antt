-- The plan of an item reads what the rule `item` reads.
use Rattle.std.proofs.Common.{◌≡◌, Bool, true, false, List, [], ◌∷◌, ◌++◌, map, Option, Some, None, refl, sym, ap, ap₂, ◌∙◌}
use Rattle.syn_grammar.specs.Words.{w_crate, w_const, w_extern, w_pub, w_impl, w_struct, w_enum, w_union, w_type, w_static, w_use, w_mod, w_trait, w_auto, w_macro, w_fn, w_async, w_unsafe}
use Rattle.syn_grammar.specs.Tokens.{Stream, end, Paren, and, or, Begins_item, Begins_in, Lone_word, at_word, at_empty_group, ahead, ◌or_else◌, ◌and_also◌}
use Rattle.syn_grammar.specs.Rules.{Rule, attributes, visibility, restriction, signature, type, structure, enumeration, union_item, function, const_item, static_item, extern_crate, use_item, module_item, trait_alias, type_item, macro_as_item, trait_definition, impl_definition, foreign_module, bodiless_function, rooted_use, untyped_static, valueless_static, odd_const, macro_definition, odd_type, const_alias, restricted_trait, odd_impl, visible_const_impl, bare_trait, kept_item, kept_item_rest, item}
use Rattle.syn_grammar.specs.Grammar.{word, Grammar, Left, Right, Both, when◌then◌else◌, inside, rule, Syntax, Node}
use Rattle.syn_grammar.specs.Forms.{plainly, never, optional}
use Rattle.syn_grammar.specs.Table.{at_extern, at_paren, at_restriction, item_word}
use Rattle.syn_grammar.specs.Take.{Out, Parser, sees}
use Rattle.syn_grammar.specs.Run.{wrap, and_then, branch, first_rule, parse_rule, parse_form}
use Rattle.syn_grammar.specs.Plan.{reads, turns}
use Rattle.syn_grammar.specs.ItemPlan.{public, unwritten, plain, absent, inherited, at_in_restriction, at_lone_word, kept_end, function_end, signature_end, abi_and_signature, struct_plan, enum_plan, union_plan, type_plan, static_plan, use_plan, module_plan, trait_end, trait_plan, trait_or_alias, const_trait_or_alias, const_plan, definition_plan, kept_impl, impl_types, impl_generics, impl_plan, visible_impl, const_impl_plan, extern_plan, extern_crate_plan, restricted_end, bare_impl_plan, unsafe_plan, following_const, macro_plan, other_plan, after_visibility, item_after, item_plan, ItemPlan}
use Rattle.syn_grammar.proofs.Run.{parse_rule_is}
use Rattle.syn_grammar.proofs.Known.{Known, noted}
use Rattle.syn_grammar.proofs.Threads.{Thread, listed, eaten, alive, Fits, fits_is, answer, answer_all, first, keep, rest, rest_wrap, onward, recog}
use Rattle.syn_grammar.proofs.PlanShows.{Shown}
use Rattle.syn_grammar.proofs.LoneWord.{group_alike}
use Rattle.syn_grammar.proofs.Starts.{kind_thread, kept_thread, listed_thread, kinds_start, kept_union, all_kept, Kept, listed_is, first_rest, keep_first, onward_first, first_none, first_first}

abbrev kinds : List Rule
kinds = structure ∷ enumeration ∷ union_item ∷ function ∷ const_item ∷ static_item ∷ extern_crate ∷ use_item ∷ module_item ∷ trait_alias ∷ type_item ∷ macro_as_item ∷ trait_definition ∷ impl_definition ∷ foreign_module ∷ []

-- a trait after a restriction, by the content of the parentheses
abbrev in_trait : Thread
in_trait = listed (rule attributes ∷ rule visibility ∷ plainly (word w_impl) ∷ (when at_in_restriction then inside Paren (rule restriction) else never) ∷ optional w_const ∷ rule bare_trait ∷ [])

abbrev lone_trait : Thread
lone_trait = listed (rule attributes ∷ rule visibility ∷ plainly (word w_impl) ∷ (when at_in_restriction then never else when at_lone_word then rule type else never) ∷ optional w_const ∷ rule bare_trait ∷ [])

abbrev kept : List Thread
kept =
    kept_thread bodiless_function ∷ kept_thread rooted_use ∷ kept_thread untyped_static ∷ kept_thread valueless_static ∷ kept_thread odd_const ∷ kept_thread macro_definition ∷ listed_thread odd_type ∷ kept_thread const_alias
    ∷ in_trait ∷ lone_trait ∷ listed_thread odd_impl ∷ listed_thread visible_const_impl ∷ []

abbrev pub threads : List Thread
threads = map kind_thread kinds ++ kept

-- after a piece
abbrev got : Option (Syntax → List Thread) → Syntax → List Thread
got (Some v) s = v s
got None s = []

abbrev after_attributes : Syntax → List Thread
after_attributes a = got (eaten [] (rule attributes) threads) a

abbrev public_known : Known
public_known = noted (at_word w_pub) true []

abbrev not_public : Known
not_public = noted (at_word w_pub) false []

abbrev unwritten_known : Known
unwritten_known = noted at_empty_group true not_public

abbrev plain_0 : Known
plain_0 = noted at_empty_group false not_public

abbrev public_0 : Known
public_0 = []

abbrev unwritten_0 : Known
unwritten_0 = []

abbrev public_threads_0 : Syntax → Syntax → List Thread
public_threads_0 a v = got (eaten public_known (rule visibility) (alive public_known (after_attributes a))) v

abbrev unwritten_threads_0 : Syntax → Syntax → List Thread
unwritten_threads_0 a v = got (eaten unwritten_known (rule visibility) (alive unwritten_known (alive not_public (after_attributes a)))) v

abbrev plain_threads_0 : Syntax → List Thread
plain_threads_0 a = alive plain_0 (alive not_public (after_attributes a))

abbrev public_struct : Known
public_struct = noted (at_word w_struct) true public_0

abbrev public_1 : Known
public_1 = noted (at_word w_struct) false public_0

abbrev public_threads_1 : Syntax → Syntax → List Thread
public_threads_1 a v = alive public_1 (public_threads_0 a v)

public_struct_fits : (a v : Syntax) → Fits (struct_plan a v) public_struct (alive public_struct (public_threads_0 a v))
unfolding kept_end function_end signature_end abi_and_signature struct_plan enum_plan union_plan type_plan static_plan use_plan module_plan trait_end trait_plan trait_or_alias const_trait_or_alias const_plan definition_plan kept_impl impl_types impl_generics impl_plan visible_impl const_impl_plan extern_plan extern_crate_plan restricted_end bare_impl_plan unsafe_plan following_const macro_plan other_plan
public_struct_fits a v = λ k. λ n. λ g. λ b. refl

abbrev public_enum : Known
public_enum = noted (at_word w_enum) true public_1

abbrev public_2 : Known
public_2 = noted (at_word w_enum) false public_1

abbrev public_threads_2 : Syntax → Syntax → List Thread
public_threads_2 a v = alive public_2 (public_threads_1 a v)

public_enum_fits : (a v : Syntax) → Fits (enum_plan a v) public_enum (alive public_enum (public_threads_1 a v))
unfolding kept_end function_end signature_end abi_and_signature struct_plan enum_plan union_plan type_plan static_plan use_plan module_plan trait_end trait_plan trait_or_alias const_trait_or_alias const_plan definition_plan kept_impl impl_types impl_generics impl_plan visible_impl const_impl_plan extern_plan extern_crate_plan restricted_end bare_impl_plan unsafe_plan following_const macro_plan other_plan
public_enum_fits a v = λ k. λ n. λ g. λ w. λ b. refl

abbrev public_union : Known
public_union = noted (at_word w_union and_also ahead Begins_item) true public_2

abbrev public_3 : Known
public_3 = noted (at_word w_union and_also ahead Begins_item) false public_2

abbrev public_threads_3 : Syntax → Syntax → List Thread
public_threads_3 a v = alive public_3 (public_threads_2 a v)

public_union_fits : (a v : Syntax) → Fits (union_plan a v) public_union (alive public_union (public_threads_2 a v))
unfolding kept_end function_end signature_end abi_and_signature struct_plan enum_plan union_plan type_plan static_plan use_plan module_plan trait_end trait_plan trait_or_alias const_trait_or_alias const_plan definition_plan kept_impl impl_types impl_generics impl_plan visible_impl const_impl_plan extern_plan extern_crate_plan restricted_end bare_impl_plan unsafe_plan following_const macro_plan other_plan
public_union_fits a v = λ k. λ n. λ g. λ w. λ b. refl

abbrev public_type : Known
public_type = noted (at_word w_type) true public_3

abbrev public_4 : Known
public_4 = noted (at_word w_type) false public_3

abbrev public_threads_4 : Syntax → Syntax → List Thread
public_threads_4 a v = alive public_4 (public_threads_3 a v)

public_type_fits : (a v : Syntax) → Fits (type_plan a v) public_type (alive public_type (public_threads_3 a v))
unfolding kept_end function_end signature_end abi_and_signature struct_plan enum_plan union_plan type_plan static_plan use_plan module_plan trait_end trait_plan trait_or_alias const_trait_or_alias const_plan definition_plan kept_impl impl_types impl_generics impl_plan visible_impl const_impl_plan extern_plan extern_crate_plan restricted_end bare_impl_plan unsafe_plan following_const macro_plan other_plan
public_type_fits a v = λ k. λ n. λ g. ((refl, λ c. λ b. λ t. λ z. refl), λ w. (λ q. λ t. λ x. (((refl, refl), tt), (λ z. refl, tt)), (refl, λ z. refl)))

abbrev public_static : Known
public_static = noted (at_word w_static) true public_4

abbrev public_5 : Known
public_5 = noted (at_word w_static) false public_4

abbrev public_threads_5 : Syntax → Syntax → List Thread
public_threads_5 a v = alive public_5 (public_threads_4 a v)

public_static_fits : (a v : Syntax) → Fits (static_plan a v) public_static (alive public_static (public_threads_4 a v))
unfolding kept_end function_end signature_end abi_and_signature struct_plan enum_plan union_plan type_plan static_plan use_plan module_plan trait_end trait_plan trait_or_alias const_trait_or_alias const_plan definition_plan kept_impl impl_types impl_generics impl_plan visible_impl const_impl_plan extern_plan extern_crate_plan restricted_end bare_impl_plan unsafe_plan following_const macro_plan other_plan
public_static_fits a v = λ k. λ u. λ n. (λ c. λ t. (λ q. λ e. λ z. refl, (refl, λ z. refl)), (refl, λ q. λ e. λ z. refl))

abbrev public_use : Known
public_use = noted (at_word w_use) true public_5

abbrev public_6 : Known
public_6 = noted (at_word w_use) false public_5

abbrev public_threads_6 : Syntax → Syntax → List Thread
public_threads_6 a v = alive public_6 (public_threads_5 a v)

public_use_fits : (a v : Syntax) → Fits (use_plan a v) public_use (alive public_use (public_threads_5 a v))
unfolding kept_end function_end signature_end abi_and_signature struct_plan enum_plan union_plan type_plan static_plan use_plan module_plan trait_end trait_plan trait_or_alias const_trait_or_alias const_plan definition_plan kept_impl impl_types impl_generics impl_plan visible_impl const_impl_plan extern_plan extern_crate_plan restricted_end bare_impl_plan unsafe_plan following_const macro_plan other_plan
public_use_fits a v = λ k. (λ t. (((refl, refl), ((refl, refl), tt)), ((refl, λ z. refl), λ z. refl)), λ c. λ t. λ z. refl)

abbrev public_mod : Known
public_mod = noted (at_word w_mod) true public_6

abbrev public_7 : Known
public_7 = noted (at_word w_mod) false public_6

abbrev public_threads_7 : Syntax → Syntax → List Thread
public_threads_7 a v = alive public_7 (public_threads_6 a v)

public_mod_fits : (a v : Syntax) → Fits (module_plan a v absent) public_mod (alive public_mod (public_threads_6 a v))
unfolding kept_end function_end signature_end abi_and_signature struct_plan enum_plan union_plan type_plan static_plan use_plan module_plan trait_end trait_plan trait_or_alias const_trait_or_alias const_plan definition_plan kept_impl impl_types impl_generics impl_plan visible_impl const_impl_plan extern_plan extern_crate_plan restricted_end bare_impl_plan unsafe_plan following_const macro_plan other_plan
public_mod_fits a v = λ k. λ n. (λ z. refl, λ b. refl)

abbrev public_trait : Known
public_trait = noted (at_word w_trait) true public_7

abbrev public_8 : Known
public_8 = noted (at_word w_trait) false public_7

abbrev public_threads_8 : Syntax → Syntax → List Thread
public_threads_8 a v = alive public_8 (public_threads_7 a v)

public_trait_fits : (a v : Syntax) → Fits (trait_or_alias a v) public_trait (alive public_trait (public_threads_7 a v))
unfolding kept_end function_end signature_end abi_and_signature struct_plan enum_plan union_plan type_plan static_plan use_plan module_plan trait_end trait_plan trait_or_alias const_trait_or_alias const_plan definition_plan kept_impl impl_types impl_generics impl_plan visible_impl const_impl_plan extern_plan extern_crate_plan restricted_end bare_impl_plan unsafe_plan following_const macro_plan other_plan
public_trait_fits a v = λ k. λ n. λ g. (λ q. λ b. λ w. λ z. refl, λ b. λ w. λ m. refl)

abbrev public_auto : Known
public_auto = noted (at_word w_auto and_also ahead Begins_item) true public_8

abbrev public_9 : Known
public_9 = noted (at_word w_auto and_also ahead Begins_item) false public_8

abbrev public_threads_9 : Syntax → Syntax → List Thread
public_threads_9 a v = alive public_9 (public_threads_8 a v)

public_auto_fits : (a v : Syntax) → Fits (trait_plan a v absent absent) public_auto (alive public_auto (public_threads_8 a v))
unfolding kept_end function_end signature_end abi_and_signature struct_plan enum_plan union_plan type_plan static_plan use_plan module_plan trait_end trait_plan trait_or_alias const_trait_or_alias const_plan definition_plan kept_impl impl_types impl_generics impl_plan visible_impl const_impl_plan extern_plan extern_crate_plan restricted_end bare_impl_plan unsafe_plan following_const macro_plan other_plan
public_auto_fits a v = λ o. λ k. λ n. λ g. λ b. λ w. λ m. refl

abbrev public_macro : Known
public_macro = noted (at_word w_macro) true public_9

abbrev public_10 : Known
public_10 = noted (at_word w_macro) false public_9

abbrev public_threads_10 : Syntax → Syntax → List Thread
public_threads_10 a v = alive public_10 (public_threads_9 a v)

public_macro_fits : (a v : Syntax) → Fits (definition_plan) public_macro (alive public_macro (public_threads_9 a v))
unfolding kept_end function_end signature_end abi_and_signature struct_plan enum_plan union_plan type_plan static_plan use_plan module_plan trait_end trait_plan trait_or_alias const_trait_or_alias const_plan definition_plan kept_impl impl_types impl_generics impl_plan visible_impl const_impl_plan extern_plan extern_crate_plan restricted_end bare_impl_plan unsafe_plan following_const macro_plan other_plan
public_macro_fits a v = (refl, λ k. λ n. λ p. λ b. refl)

abbrev public_fn : Known
public_fn = noted (at_word w_fn or_else at_word w_async) true public_10

abbrev public_11 : Known
public_11 = noted (at_word w_fn or_else at_word w_async) false public_10

abbrev public_threads_11 : Syntax → Syntax → List Thread
public_threads_11 a v = alive public_11 (public_threads_10 a v)

public_fn_fits : (a v : Syntax) → Fits (reads (rule signature) λ s. function_end a v s) public_fn (alive public_fn (public_threads_10 a v))
unfolding kept_end function_end signature_end abi_and_signature struct_plan enum_plan union_plan type_plan static_plan use_plan module_plan trait_end trait_plan trait_or_alias const_trait_or_alias const_plan definition_plan kept_impl impl_types impl_generics impl_plan visible_impl const_impl_plan extern_plan extern_crate_plan restricted_end bare_impl_plan unsafe_plan following_const macro_plan other_plan
public_fn_fits a v = λ s. ((refl, λ z. refl), λ b. refl)

abbrev public_extern : Known
public_extern = noted (at_extern) true public_11

abbrev public_12 : Known
public_12 = noted (at_extern) false public_11

abbrev public_threads_12 : Syntax → Syntax → List Thread
public_threads_12 a v = alive public_12 (public_threads_11 a v)

public_extern_fits : (a v : Syntax) → Fits (reads (plainly (word w_extern)) λ e.
    turns (at_word w_crate) (extern_crate_plan a v e)
    (extern_plan public a v absent (Node absent) e)) public_extern (alive public_extern (public_threads_11 a v))
unfolding kept_end function_end signature_end abi_and_signature struct_plan enum_plan union_plan type_plan static_plan use_plan module_plan trait_end trait_plan trait_or_alias const_trait_or_alias const_plan definition_plan kept_impl impl_types impl_generics impl_plan visible_impl const_impl_plan extern_plan extern_crate_plan restricted_end bare_impl_plan unsafe_plan following_const macro_plan other_plan
public_extern_fits a v = λ e. (λ k. λ n. λ r. λ z. refl, λ l. λ s. ((refl, λ z. refl), λ b. refl))

abbrev public_unsafe : Known
public_unsafe = noted (at_word w_unsafe) true public_12

abbrev public_13 : Known
public_13 = noted (at_word w_unsafe) false public_12

abbrev public_threads_13 : Syntax → Syntax → List Thread
public_threads_13 a v = alive public_13 (public_threads_12 a v)

public_unsafe_fits : (a v : Syntax) → Fits (reads (item_word w_unsafe) λ u.
    turns (at_word w_mod) (module_plan a v (Left u))
    (turns (at_word w_trait or_else at_word w_auto) (trait_plan a v absent (Left u))
    (unsafe_plan public a v u))) public_unsafe (alive public_unsafe (public_threads_12 a v))
unfolding kept_end function_end signature_end abi_and_signature struct_plan enum_plan union_plan type_plan static_plan use_plan module_plan trait_end trait_plan trait_or_alias const_trait_or_alias const_plan definition_plan kept_impl impl_types impl_generics impl_plan visible_impl const_impl_plan extern_plan extern_crate_plan restricted_end bare_impl_plan unsafe_plan following_const macro_plan other_plan
public_unsafe_fits a v = λ u. (λ k. λ n. (λ z. refl, λ b. refl), (λ o. λ k. λ n. λ g. λ b. λ w. λ m. refl, (λ e. λ l. λ s. ((refl, λ z. refl), λ b. refl), λ s. ((refl, λ z. refl), λ b. refl))))

abbrev public_const : Known
public_const = noted (at_word w_const) true public_13

abbrev public_14 : Known
public_14 = noted (at_word w_const) false public_13

abbrev public_threads_14 : Syntax → Syntax → List Thread
public_threads_14 a v = alive public_14 (public_threads_13 a v)

public_const_fits : (a v : Syntax) → Fits (reads (item_word w_const) λ c. following_const public a v c) public_const (alive public_const (public_threads_13 a v))
unfolding kept_end function_end signature_end abi_and_signature struct_plan enum_plan union_plan type_plan static_plan use_plan module_plan trait_end trait_plan trait_or_alias const_trait_or_alias const_plan definition_plan kept_impl impl_types impl_generics impl_plan visible_impl const_impl_plan extern_plan extern_crate_plan restricted_end bare_impl_plan unsafe_plan following_const macro_plan other_plan
public_const_fits a v = λ c. (λ u. (λ o. λ k. λ n. λ g. λ b. λ w. λ m. refl, ((refl, λ k. λ g. (λ x. (λ b. refl, λ t. λ f. λ b. refl), λ t. λ f. λ b. refl)), λ e. λ s. ((refl, λ z. refl), λ b. refl))), (λ k. λ n. λ g. ((refl, λ q. λ b. λ w. λ z. refl), λ b. λ w. λ m. refl), (λ o. λ k. λ n. λ g. λ b. λ w. λ m. refl, ((refl, λ k. λ g. (λ x. (λ b. refl, λ t. λ f. λ b. refl), λ t. λ f. λ b. refl)), (λ y. λ u. λ e. λ s. ((refl, λ z. refl), λ b. refl), λ n. ((refl, λ g. λ c. λ t. λ e. λ w. λ z. refl), λ c. λ t. (λ q. λ e. (λ z. refl, (refl, λ w. λ z. refl)), (refl, λ w. λ z. refl))))))))

abbrev public_impl : Known
public_impl = noted (at_word w_impl) true public_14

abbrev public_15 : Known
public_15 = noted (at_word w_impl) false public_14

abbrev public_threads_15 : Syntax → Syntax → List Thread
public_threads_15 a v = alive public_15 (public_threads_14 a v)

public_impl_fits : (a v : Syntax) → Fits (bare_impl_plan public a) public_impl (alive public_impl (public_threads_14 a v))
unfolding kept_end function_end signature_end abi_and_signature struct_plan enum_plan union_plan type_plan static_plan use_plan module_plan trait_end trait_plan trait_or_alias const_trait_or_alias const_plan definition_plan kept_impl impl_types impl_generics impl_plan visible_impl const_impl_plan extern_plan extern_crate_plan restricted_end bare_impl_plan unsafe_plan following_const macro_plan other_plan
public_impl_fits a v = (refl, λ k. (λ r. λ c. λ t. refl, (λ t. λ c. λ t. refl, tt)))

public_other_fits : (a v : Syntax) → Fits (other_plan public a) public_15 (public_threads_15 a v)
unfolding kept_end function_end signature_end abi_and_signature struct_plan enum_plan union_plan type_plan static_plan use_plan module_plan trait_end trait_plan trait_or_alias const_trait_or_alias const_plan definition_plan kept_impl impl_types impl_generics impl_plan visible_impl const_impl_plan extern_plan extern_crate_plan restricted_end bare_impl_plan unsafe_plan following_const macro_plan other_plan
public_other_fits a v = tt

public_fits : (a v : Syntax) → Fits (after_visibility public a v) public_0 (public_threads_0 a v)
unfolding after_visibility
public_fits a v = (public_struct_fits a v, (public_enum_fits a v, (public_union_fits a v, (public_type_fits a v, (public_static_fits a v, (public_use_fits a v, (public_mod_fits a v, (public_trait_fits a v, (public_auto_fits a v, (public_macro_fits a v, (public_fn_fits a v, (public_extern_fits a v, (public_unsafe_fits a v, (public_const_fits a v, (public_impl_fits a v, public_other_fits a v)))))))))))))))

abbrev unwritten_struct : Known
unwritten_struct = noted (at_word w_struct) true unwritten_0

abbrev unwritten_1 : Known
unwritten_1 = noted (at_word w_struct) false unwritten_0

abbrev unwritten_threads_1 : Syntax → Syntax → List Thread
unwritten_threads_1 a v = alive unwritten_1 (unwritten_threads_0 a v)

unwritten_struct_fits : (a v : Syntax) → Fits (struct_plan a v) unwritten_struct (alive unwritten_struct (unwritten_threads_0 a v))
unfolding kept_end function_end signature_end abi_and_signature struct_plan enum_plan union_plan type_plan static_plan use_plan module_plan trait_end trait_plan trait_or_alias const_trait_or_alias const_plan definition_plan kept_impl impl_types impl_generics impl_plan visible_impl const_impl_plan extern_plan extern_crate_plan restricted_end bare_impl_plan unsafe_plan following_const macro_plan other_plan
unwritten_struct_fits a v = λ k. λ n. λ g. λ b. refl

abbrev unwritten_enum : Known
unwritten_enum = noted (at_word w_enum) true unwritten_1

abbrev unwritten_2 : Known
unwritten_2 = noted (at_word w_enum) false unwritten_1

abbrev unwritten_threads_2 : Syntax → Syntax → List Thread
unwritten_threads_2 a v = alive unwritten_2 (unwritten_threads_1 a v)

unwritten_enum_fits : (a v : Syntax) → Fits (enum_plan a v) unwritten_enum (alive unwritten_enum (unwritten_threads_1 a v))
unfolding kept_end function_end signature_end abi_and_signature struct_plan enum_plan union_plan type_plan static_plan use_plan module_plan trait_end trait_plan trait_or_alias const_trait_or_alias const_plan definition_plan kept_impl impl_types impl_generics impl_plan visible_impl const_impl_plan extern_plan extern_crate_plan restricted_end bare_impl_plan unsafe_plan following_const macro_plan other_plan
unwritten_enum_fits a v = λ k. λ n. λ g. λ w. λ b. refl

abbrev unwritten_union : Known
unwritten_union = noted (at_word w_union and_also ahead Begins_item) true unwritten_2

abbrev unwritten_3 : Known
unwritten_3 = noted (at_word w_union and_also ahead Begins_item) false unwritten_2

abbrev unwritten_threads_3 : Syntax → Syntax → List Thread
unwritten_threads_3 a v = alive unwritten_3 (unwritten_threads_2 a v)

unwritten_union_fits : (a v : Syntax) → Fits (union_plan a v) unwritten_union (alive unwritten_union (unwritten_threads_2 a v))
unfolding kept_end function_end signature_end abi_and_signature struct_plan enum_plan union_plan type_plan static_plan use_plan module_plan trait_end trait_plan trait_or_alias const_trait_or_alias const_plan definition_plan kept_impl impl_types impl_generics impl_plan visible_impl const_impl_plan extern_plan extern_crate_plan restricted_end bare_impl_plan unsafe_plan following_const macro_plan other_plan
unwritten_union_fits a v = λ k. λ n. λ g. λ w. λ b. refl

abbrev unwritten_type : Known
unwritten_type = noted (at_word w_type) true unwritten_3

abbrev unwritten_4 : Known
unwritten_4 = noted (at_word w_type) false unwritten_3

abbrev unwritten_threads_4 : Syntax → Syntax → List Thread
unwritten_threads_4 a v = alive unwritten_4 (unwritten_threads_3 a v)

unwritten_type_fits : (a v : Syntax) → Fits (type_plan a v) unwritten_type (alive unwritten_type (unwritten_threads_3 a v))
unfolding kept_end function_end signature_end abi_and_signature struct_plan enum_plan union_plan type_plan static_plan use_plan module_plan trait_end trait_plan trait_or_alias const_trait_or_alias const_plan definition_plan kept_impl impl_types impl_generics impl_plan visible_impl const_impl_plan extern_plan extern_crate_plan restricted_end bare_impl_plan unsafe_plan following_const macro_plan other_plan
unwritten_type_fits a v = λ k. λ n. λ g. ((refl, λ c. λ b. λ t. λ z. refl), λ w. (λ q. λ t. λ x. (((refl, refl), tt), (λ z. refl, tt)), (refl, λ z. refl)))

abbrev unwritten_static : Known
unwritten_static = noted (at_word w_static) true unwritten_4

abbrev unwritten_5 : Known
unwritten_5 = noted (at_word w_static) false unwritten_4

abbrev unwritten_threads_5 : Syntax → Syntax → List Thread
unwritten_threads_5 a v = alive unwritten_5 (unwritten_threads_4 a v)

unwritten_static_fits : (a v : Syntax) → Fits (static_plan a v) unwritten_static (alive unwritten_static (unwritten_threads_4 a v))
unfolding kept_end function_end signature_end abi_and_signature struct_plan enum_plan union_plan type_plan static_plan use_plan module_plan trait_end trait_plan trait_or_alias const_trait_or_alias const_plan definition_plan kept_impl impl_types impl_generics impl_plan visible_impl const_impl_plan extern_plan extern_crate_plan restricted_end bare_impl_plan unsafe_plan following_const macro_plan other_plan
unwritten_static_fits a v = λ k. λ u. λ n. (λ c. λ t. (λ q. λ e. λ z. refl, (refl, λ z. refl)), (refl, λ q. λ e. λ z. refl))

abbrev unwritten_use : Known
unwritten_use = noted (at_word w_use) true unwritten_5

abbrev unwritten_6 : Known
unwritten_6 = noted (at_word w_use) false unwritten_5

abbrev unwritten_threads_6 : Syntax → Syntax → List Thread
unwritten_threads_6 a v = alive unwritten_6 (unwritten_threads_5 a v)

unwritten_use_fits : (a v : Syntax) → Fits (use_plan a v) unwritten_use (alive unwritten_use (unwritten_threads_5 a v))
unfolding kept_end function_end signature_end abi_and_signature struct_plan enum_plan union_plan type_plan static_plan use_plan module_plan trait_end trait_plan trait_or_alias const_trait_or_alias const_plan definition_plan kept_impl impl_types impl_generics impl_plan visible_impl const_impl_plan extern_plan extern_crate_plan restricted_end bare_impl_plan unsafe_plan following_const macro_plan other_plan
unwritten_use_fits a v = λ k. (λ t. (((refl, refl), ((refl, refl), tt)), ((refl, λ z. refl), λ z. refl)), λ c. λ t. λ z. refl)

abbrev unwritten_mod : Known
unwritten_mod = noted (at_word w_mod) true unwritten_6

abbrev unwritten_7 : Known
unwritten_7 = noted (at_word w_mod) false unwritten_6

abbrev unwritten_threads_7 : Syntax → Syntax → List Thread
unwritten_threads_7 a v = alive unwritten_7 (unwritten_threads_6 a v)

unwritten_mod_fits : (a v : Syntax) → Fits (module_plan a v absent) unwritten_mod (alive unwritten_mod (unwritten_threads_6 a v))
unfolding kept_end function_end signature_end abi_and_signature struct_plan enum_plan union_plan type_plan static_plan use_plan module_plan trait_end trait_plan trait_or_alias const_trait_or_alias const_plan definition_plan kept_impl impl_types impl_generics impl_plan visible_impl const_impl_plan extern_plan extern_crate_plan restricted_end bare_impl_plan unsafe_plan following_const macro_plan other_plan
unwritten_mod_fits a v = λ k. λ n. (λ z. refl, λ b. refl)

abbrev unwritten_trait : Known
unwritten_trait = noted (at_word w_trait) true unwritten_7

abbrev unwritten_8 : Known
unwritten_8 = noted (at_word w_trait) false unwritten_7

abbrev unwritten_threads_8 : Syntax → Syntax → List Thread
unwritten_threads_8 a v = alive unwritten_8 (unwritten_threads_7 a v)

unwritten_trait_fits : (a v : Syntax) → Fits (trait_or_alias a v) unwritten_trait (alive unwritten_trait (unwritten_threads_7 a v))
unfolding kept_end function_end signature_end abi_and_signature struct_plan enum_plan union_plan type_plan static_plan use_plan module_plan trait_end trait_plan trait_or_alias const_trait_or_alias const_plan definition_plan kept_impl impl_types impl_generics impl_plan visible_impl const_impl_plan extern_plan extern_crate_plan restricted_end bare_impl_plan unsafe_plan following_const macro_plan other_plan
unwritten_trait_fits a v = λ k. λ n. λ g. (λ q. λ b. λ w. λ z. refl, λ b. λ w. λ m. refl)

abbrev unwritten_auto : Known
unwritten_auto = noted (at_word w_auto and_also ahead Begins_item) true unwritten_8

abbrev unwritten_9 : Known
unwritten_9 = noted (at_word w_auto and_also ahead Begins_item) false unwritten_8

abbrev unwritten_threads_9 : Syntax → Syntax → List Thread
unwritten_threads_9 a v = alive unwritten_9 (unwritten_threads_8 a v)

unwritten_auto_fits : (a v : Syntax) → Fits (trait_plan a v absent absent) unwritten_auto (alive unwritten_auto (unwritten_threads_8 a v))
unfolding kept_end function_end signature_end abi_and_signature struct_plan enum_plan union_plan type_plan static_plan use_plan module_plan trait_end trait_plan trait_or_alias const_trait_or_alias const_plan definition_plan kept_impl impl_types impl_generics impl_plan visible_impl const_impl_plan extern_plan extern_crate_plan restricted_end bare_impl_plan unsafe_plan following_const macro_plan other_plan
unwritten_auto_fits a v = λ o. λ k. λ n. λ g. λ b. λ w. λ m. refl

abbrev unwritten_macro : Known
unwritten_macro = noted (at_word w_macro) true unwritten_9

abbrev unwritten_10 : Known
unwritten_10 = noted (at_word w_macro) false unwritten_9

abbrev unwritten_threads_10 : Syntax → Syntax → List Thread
unwritten_threads_10 a v = alive unwritten_10 (unwritten_threads_9 a v)

unwritten_macro_fits : (a v : Syntax) → Fits (definition_plan) unwritten_macro (alive unwritten_macro (unwritten_threads_9 a v))
unfolding kept_end function_end signature_end abi_and_signature struct_plan enum_plan union_plan type_plan static_plan use_plan module_plan trait_end trait_plan trait_or_alias const_trait_or_alias const_plan definition_plan kept_impl impl_types impl_generics impl_plan visible_impl const_impl_plan extern_plan extern_crate_plan restricted_end bare_impl_plan unsafe_plan following_const macro_plan other_plan
unwritten_macro_fits a v = (refl, λ k. λ n. λ p. λ b. refl)

abbrev unwritten_fn : Known
unwritten_fn = noted (at_word w_fn or_else at_word w_async) true unwritten_10

abbrev unwritten_11 : Known
unwritten_11 = noted (at_word w_fn or_else at_word w_async) false unwritten_10

abbrev unwritten_threads_11 : Syntax → Syntax → List Thread
unwritten_threads_11 a v = alive unwritten_11 (unwritten_threads_10 a v)

unwritten_fn_fits : (a v : Syntax) → Fits (reads (rule signature) λ s. function_end a v s) unwritten_fn (alive unwritten_fn (unwritten_threads_10 a v))
unfolding kept_end function_end signature_end abi_and_signature struct_plan enum_plan union_plan type_plan static_plan use_plan module_plan trait_end trait_plan trait_or_alias const_trait_or_alias const_plan definition_plan kept_impl impl_types impl_generics impl_plan visible_impl const_impl_plan extern_plan extern_crate_plan restricted_end bare_impl_plan unsafe_plan following_const macro_plan other_plan
unwritten_fn_fits a v = λ s. ((refl, λ z. refl), λ b. refl)

abbrev unwritten_extern : Known
unwritten_extern = noted (at_extern) true unwritten_11

abbrev unwritten_12 : Known
unwritten_12 = noted (at_extern) false unwritten_11

abbrev unwritten_threads_12 : Syntax → Syntax → List Thread
unwritten_threads_12 a v = alive unwritten_12 (unwritten_threads_11 a v)

unwritten_extern_fits : (a v : Syntax) → Fits (reads (plainly (word w_extern)) λ e.
    turns (at_word w_crate) (extern_crate_plan a v e)
    (extern_plan unwritten a v absent (Node absent) e)) unwritten_extern (alive unwritten_extern (unwritten_threads_11 a v))
unfolding kept_end function_end signature_end abi_and_signature struct_plan enum_plan union_plan type_plan static_plan use_plan module_plan trait_end trait_plan trait_or_alias const_trait_or_alias const_plan definition_plan kept_impl impl_types impl_generics impl_plan visible_impl const_impl_plan extern_plan extern_crate_plan restricted_end bare_impl_plan unsafe_plan following_const macro_plan other_plan
unwritten_extern_fits a v = λ e. (λ k. λ n. λ r. λ z. refl, λ l. λ s. ((refl, λ z. refl), λ b. refl))

abbrev unwritten_unsafe : Known
unwritten_unsafe = noted (at_word w_unsafe) true unwritten_12

abbrev unwritten_13 : Known
unwritten_13 = noted (at_word w_unsafe) false unwritten_12

abbrev unwritten_threads_13 : Syntax → Syntax → List Thread
unwritten_threads_13 a v = alive unwritten_13 (unwritten_threads_12 a v)

unwritten_unsafe_fits : (a v : Syntax) → Fits (reads (item_word w_unsafe) λ u.
    turns (at_word w_mod) (module_plan a v (Left u))
    (turns (at_word w_trait or_else at_word w_auto) (trait_plan a v absent (Left u))
    (unsafe_plan unwritten a v u))) unwritten_unsafe (alive unwritten_unsafe (unwritten_threads_12 a v))
unfolding kept_end function_end signature_end abi_and_signature struct_plan enum_plan union_plan type_plan static_plan use_plan module_plan trait_end trait_plan trait_or_alias const_trait_or_alias const_plan definition_plan kept_impl impl_types impl_generics impl_plan visible_impl const_impl_plan extern_plan extern_crate_plan restricted_end bare_impl_plan unsafe_plan following_const macro_plan other_plan
unwritten_unsafe_fits a v = λ u. (λ k. λ n. (λ z. refl, λ b. refl), (λ o. λ k. λ n. λ g. λ b. λ w. λ m. refl, (λ e. λ l. λ s. ((refl, λ z. refl), λ b. refl), λ s. ((refl, λ z. refl), λ b. refl))))

abbrev unwritten_const : Known
unwritten_const = noted (at_word w_const) true unwritten_13

abbrev unwritten_14 : Known
unwritten_14 = noted (at_word w_const) false unwritten_13

abbrev unwritten_threads_14 : Syntax → Syntax → List Thread
unwritten_threads_14 a v = alive unwritten_14 (unwritten_threads_13 a v)

unwritten_const_fits : (a v : Syntax) → Fits (reads (item_word w_const) λ c. following_const unwritten a v c) unwritten_const (alive unwritten_const (unwritten_threads_13 a v))
unfolding kept_end function_end signature_end abi_and_signature struct_plan enum_plan union_plan type_plan static_plan use_plan module_plan trait_end trait_plan trait_or_alias const_trait_or_alias const_plan definition_plan kept_impl impl_types impl_generics impl_plan visible_impl const_impl_plan extern_plan extern_crate_plan restricted_end bare_impl_plan unsafe_plan following_const macro_plan other_plan
unwritten_const_fits a v = λ c. (λ u. (λ o. λ k. λ n. λ g. λ b. λ w. λ m. refl, (tt, λ e. λ s. ((refl, λ z. refl), λ b. refl))), (λ k. λ n. λ g. ((refl, λ q. λ b. λ w. λ z. refl), λ b. λ w. λ m. refl), (λ o. λ k. λ n. λ g. λ b. λ w. λ m. refl, (tt, (λ y. λ u. λ e. λ s. ((refl, λ z. refl), λ b. refl), λ n. ((refl, λ g. λ c. λ t. λ e. λ w. λ z. refl), λ c. λ t. (λ q. λ e. (λ z. refl, (refl, λ w. λ z. refl)), (refl, λ w. λ z. refl))))))))

abbrev unwritten_impl : Known
unwritten_impl = noted (at_word w_impl) true unwritten_14

abbrev unwritten_15 : Known
unwritten_15 = noted (at_word w_impl) false unwritten_14

abbrev unwritten_threads_15 : Syntax → Syntax → List Thread
unwritten_threads_15 a v = alive unwritten_15 (unwritten_threads_14 a v)

unwritten_impl_fits : (a v : Syntax) → Fits (bare_impl_plan unwritten a) unwritten_impl (alive unwritten_impl (unwritten_threads_14 a v))
unfolding kept_end function_end signature_end abi_and_signature struct_plan enum_plan union_plan type_plan static_plan use_plan module_plan trait_end trait_plan trait_or_alias const_trait_or_alias const_plan definition_plan kept_impl impl_types impl_generics impl_plan visible_impl const_impl_plan extern_plan extern_crate_plan restricted_end bare_impl_plan unsafe_plan following_const macro_plan other_plan
unwritten_impl_fits a v = (refl, λ k. (λ r. λ c. λ t. refl, (λ t. λ c. λ t. refl, tt)))

unwritten_other_fits : (a v : Syntax) → Fits (other_plan unwritten a) unwritten_15 (unwritten_threads_15 a v)
unfolding kept_end function_end signature_end abi_and_signature struct_plan enum_plan union_plan type_plan static_plan use_plan module_plan trait_end trait_plan trait_or_alias const_trait_or_alias const_plan definition_plan kept_impl impl_types impl_generics impl_plan visible_impl const_impl_plan extern_plan extern_crate_plan restricted_end bare_impl_plan unsafe_plan following_const macro_plan other_plan
unwritten_other_fits a v = tt

unwritten_fits : (a v : Syntax) → Fits (after_visibility unwritten a v) unwritten_0 (unwritten_threads_0 a v)
unfolding after_visibility
unwritten_fits a v = (unwritten_struct_fits a v, (unwritten_enum_fits a v, (unwritten_union_fits a v, (unwritten_type_fits a v, (unwritten_static_fits a v, (unwritten_use_fits a v, (unwritten_mod_fits a v, (unwritten_trait_fits a v, (unwritten_auto_fits a v, (unwritten_macro_fits a v, (unwritten_fn_fits a v, (unwritten_extern_fits a v, (unwritten_unsafe_fits a v, (unwritten_const_fits a v, (unwritten_impl_fits a v, unwritten_other_fits a v)))))))))))))))

abbrev plain_struct : Known
plain_struct = noted (at_word w_struct) true plain_0

abbrev plain_1 : Known
plain_1 = noted (at_word w_struct) false plain_0

abbrev plain_threads_1 : Syntax → List Thread
plain_threads_1 a = alive plain_1 (plain_threads_0 a)

plain_struct_fits : (a : Syntax) → Fits (struct_plan a inherited) plain_struct (alive plain_struct (plain_threads_0 a))
unfolding kept_end function_end signature_end abi_and_signature struct_plan enum_plan union_plan type_plan static_plan use_plan module_plan trait_end trait_plan trait_or_alias const_trait_or_alias const_plan definition_plan kept_impl impl_types impl_generics impl_plan visible_impl const_impl_plan extern_plan extern_crate_plan restricted_end bare_impl_plan unsafe_plan following_const macro_plan other_plan
plain_struct_fits a = λ k. λ n. λ g. λ b. refl

abbrev plain_enum : Known
plain_enum = noted (at_word w_enum) true plain_1

abbrev plain_2 : Known
plain_2 = noted (at_word w_enum) false plain_1

abbrev plain_threads_2 : Syntax → List Thread
plain_threads_2 a = alive plain_2 (plain_threads_1 a)

plain_enum_fits : (a : Syntax) → Fits (enum_plan a inherited) plain_enum (alive plain_enum (plain_threads_1 a))
unfolding kept_end function_end signature_end abi_and_signature struct_plan enum_plan union_plan type_plan static_plan use_plan module_plan trait_end trait_plan trait_or_alias const_trait_or_alias const_plan definition_plan kept_impl impl_types impl_generics impl_plan visible_impl const_impl_plan extern_plan extern_crate_plan restricted_end bare_impl_plan unsafe_plan following_const macro_plan other_plan
plain_enum_fits a = λ k. λ n. λ g. λ w. λ b. refl

abbrev plain_union : Known
plain_union = noted (at_word w_union and_also ahead Begins_item) true plain_2

abbrev plain_3 : Known
plain_3 = noted (at_word w_union and_also ahead Begins_item) false plain_2

abbrev plain_threads_3 : Syntax → List Thread
plain_threads_3 a = alive plain_3 (plain_threads_2 a)

plain_union_fits : (a : Syntax) → Fits (union_plan a inherited) plain_union (alive plain_union (plain_threads_2 a))
unfolding kept_end function_end signature_end abi_and_signature struct_plan enum_plan union_plan type_plan static_plan use_plan module_plan trait_end trait_plan trait_or_alias const_trait_or_alias const_plan definition_plan kept_impl impl_types impl_generics impl_plan visible_impl const_impl_plan extern_plan extern_crate_plan restricted_end bare_impl_plan unsafe_plan following_const macro_plan other_plan
plain_union_fits a = λ k. λ n. λ g. λ w. λ b. refl

abbrev plain_type : Known
plain_type = noted (at_word w_type) true plain_3

abbrev plain_4 : Known
plain_4 = noted (at_word w_type) false plain_3

abbrev plain_threads_4 : Syntax → List Thread
plain_threads_4 a = alive plain_4 (plain_threads_3 a)

plain_type_fits : (a : Syntax) → Fits (type_plan a inherited) plain_type (alive plain_type (plain_threads_3 a))
unfolding kept_end function_end signature_end abi_and_signature struct_plan enum_plan union_plan type_plan static_plan use_plan module_plan trait_end trait_plan trait_or_alias const_trait_or_alias const_plan definition_plan kept_impl impl_types impl_generics impl_plan visible_impl const_impl_plan extern_plan extern_crate_plan restricted_end bare_impl_plan unsafe_plan following_const macro_plan other_plan
plain_type_fits a = λ k. λ n. λ g. ((refl, λ c. λ b. λ t. λ z. refl), λ w. (λ q. λ t. λ x. (((refl, refl), tt), (λ z. refl, tt)), (refl, λ z. refl)))

abbrev plain_static : Known
plain_static = noted (at_word w_static) true plain_4

abbrev plain_5 : Known
plain_5 = noted (at_word w_static) false plain_4

abbrev plain_threads_5 : Syntax → List Thread
plain_threads_5 a = alive plain_5 (plain_threads_4 a)

plain_static_fits : (a : Syntax) → Fits (static_plan a inherited) plain_static (alive plain_static (plain_threads_4 a))
unfolding kept_end function_end signature_end abi_and_signature struct_plan enum_plan union_plan type_plan static_plan use_plan module_plan trait_end trait_plan trait_or_alias const_trait_or_alias const_plan definition_plan kept_impl impl_types impl_generics impl_plan visible_impl const_impl_plan extern_plan extern_crate_plan restricted_end bare_impl_plan unsafe_plan following_const macro_plan other_plan
plain_static_fits a = λ k. λ u. λ n. (λ c. λ t. (λ q. λ e. λ z. refl, (refl, λ z. refl)), (refl, λ q. λ e. λ z. refl))

abbrev plain_use : Known
plain_use = noted (at_word w_use) true plain_5

abbrev plain_6 : Known
plain_6 = noted (at_word w_use) false plain_5

abbrev plain_threads_6 : Syntax → List Thread
plain_threads_6 a = alive plain_6 (plain_threads_5 a)

plain_use_fits : (a : Syntax) → Fits (use_plan a inherited) plain_use (alive plain_use (plain_threads_5 a))
unfolding kept_end function_end signature_end abi_and_signature struct_plan enum_plan union_plan type_plan static_plan use_plan module_plan trait_end trait_plan trait_or_alias const_trait_or_alias const_plan definition_plan kept_impl impl_types impl_generics impl_plan visible_impl const_impl_plan extern_plan extern_crate_plan restricted_end bare_impl_plan unsafe_plan following_const macro_plan other_plan
plain_use_fits a = λ k. (λ t. (((refl, refl), ((refl, refl), tt)), ((refl, λ z. refl), λ z. refl)), λ c. λ t. λ z. refl)

abbrev plain_mod : Known
plain_mod = noted (at_word w_mod) true plain_6

abbrev plain_7 : Known
plain_7 = noted (at_word w_mod) false plain_6

abbrev plain_threads_7 : Syntax → List Thread
plain_threads_7 a = alive plain_7 (plain_threads_6 a)

plain_mod_fits : (a : Syntax) → Fits (module_plan a inherited absent) plain_mod (alive plain_mod (plain_threads_6 a))
unfolding kept_end function_end signature_end abi_and_signature struct_plan enum_plan union_plan type_plan static_plan use_plan module_plan trait_end trait_plan trait_or_alias const_trait_or_alias const_plan definition_plan kept_impl impl_types impl_generics impl_plan visible_impl const_impl_plan extern_plan extern_crate_plan restricted_end bare_impl_plan unsafe_plan following_const macro_plan other_plan
plain_mod_fits a = λ k. λ n. (λ z. refl, λ b. refl)

abbrev plain_trait : Known
plain_trait = noted (at_word w_trait) true plain_7

abbrev plain_8 : Known
plain_8 = noted (at_word w_trait) false plain_7

abbrev plain_threads_8 : Syntax → List Thread
plain_threads_8 a = alive plain_8 (plain_threads_7 a)

plain_trait_fits : (a : Syntax) → Fits (trait_or_alias a inherited) plain_trait (alive plain_trait (plain_threads_7 a))
unfolding kept_end function_end signature_end abi_and_signature struct_plan enum_plan union_plan type_plan static_plan use_plan module_plan trait_end trait_plan trait_or_alias const_trait_or_alias const_plan definition_plan kept_impl impl_types impl_generics impl_plan visible_impl const_impl_plan extern_plan extern_crate_plan restricted_end bare_impl_plan unsafe_plan following_const macro_plan other_plan
plain_trait_fits a = λ k. λ n. λ g. (λ q. λ b. λ w. λ z. refl, λ b. λ w. λ m. refl)

abbrev plain_auto : Known
plain_auto = noted (at_word w_auto and_also ahead Begins_item) true plain_8

abbrev plain_9 : Known
plain_9 = noted (at_word w_auto and_also ahead Begins_item) false plain_8

abbrev plain_threads_9 : Syntax → List Thread
plain_threads_9 a = alive plain_9 (plain_threads_8 a)

plain_auto_fits : (a : Syntax) → Fits (trait_plan a inherited absent absent) plain_auto (alive plain_auto (plain_threads_8 a))
unfolding kept_end function_end signature_end abi_and_signature struct_plan enum_plan union_plan type_plan static_plan use_plan module_plan trait_end trait_plan trait_or_alias const_trait_or_alias const_plan definition_plan kept_impl impl_types impl_generics impl_plan visible_impl const_impl_plan extern_plan extern_crate_plan restricted_end bare_impl_plan unsafe_plan following_const macro_plan other_plan
plain_auto_fits a = λ o. λ k. λ n. λ g. λ b. λ w. λ m. refl

abbrev plain_macro : Known
plain_macro = noted (at_word w_macro) true plain_9

abbrev plain_10 : Known
plain_10 = noted (at_word w_macro) false plain_9

abbrev plain_threads_10 : Syntax → List Thread
plain_threads_10 a = alive plain_10 (plain_threads_9 a)

plain_macro_fits : (a : Syntax) → Fits (definition_plan) plain_macro (alive plain_macro (plain_threads_9 a))
unfolding kept_end function_end signature_end abi_and_signature struct_plan enum_plan union_plan type_plan static_plan use_plan module_plan trait_end trait_plan trait_or_alias const_trait_or_alias const_plan definition_plan kept_impl impl_types impl_generics impl_plan visible_impl const_impl_plan extern_plan extern_crate_plan restricted_end bare_impl_plan unsafe_plan following_const macro_plan other_plan
plain_macro_fits a = (refl, λ k. λ n. λ p. λ b. refl)

abbrev plain_fn : Known
plain_fn = noted (at_word w_fn or_else at_word w_async) true plain_10

abbrev plain_11 : Known
plain_11 = noted (at_word w_fn or_else at_word w_async) false plain_10

abbrev plain_threads_11 : Syntax → List Thread
plain_threads_11 a = alive plain_11 (plain_threads_10 a)

plain_fn_fits : (a : Syntax) → Fits (reads (rule signature) λ s. function_end a inherited s) plain_fn (alive plain_fn (plain_threads_10 a))
unfolding kept_end function_end signature_end abi_and_signature struct_plan enum_plan union_plan type_plan static_plan use_plan module_plan trait_end trait_plan trait_or_alias const_trait_or_alias const_plan definition_plan kept_impl impl_types impl_generics impl_plan visible_impl const_impl_plan extern_plan extern_crate_plan restricted_end bare_impl_plan unsafe_plan following_const macro_plan other_plan
plain_fn_fits a = λ s. ((refl, λ z. refl), λ b. refl)

abbrev plain_extern : Known
plain_extern = noted (at_extern) true plain_11

abbrev plain_12 : Known
plain_12 = noted (at_extern) false plain_11

abbrev plain_threads_12 : Syntax → List Thread
plain_threads_12 a = alive plain_12 (plain_threads_11 a)

plain_extern_fits : (a : Syntax) → Fits (reads (plainly (word w_extern)) λ e.
    turns (at_word w_crate) (extern_crate_plan a inherited e)
    (extern_plan plain a inherited absent (Node absent) e)) plain_extern (alive plain_extern (plain_threads_11 a))
unfolding kept_end function_end signature_end abi_and_signature struct_plan enum_plan union_plan type_plan static_plan use_plan module_plan trait_end trait_plan trait_or_alias const_trait_or_alias const_plan definition_plan kept_impl impl_types impl_generics impl_plan visible_impl const_impl_plan extern_plan extern_crate_plan restricted_end bare_impl_plan unsafe_plan following_const macro_plan other_plan
plain_extern_fits a = λ e. (λ k. λ n. λ r. λ z. refl, λ l. (λ b. refl, λ s. ((refl, λ z. refl), λ b. refl)))

abbrev plain_unsafe : Known
plain_unsafe = noted (at_word w_unsafe) true plain_12

abbrev plain_13 : Known
plain_13 = noted (at_word w_unsafe) false plain_12

abbrev plain_threads_13 : Syntax → List Thread
plain_threads_13 a = alive plain_13 (plain_threads_12 a)

plain_unsafe_fits : (a : Syntax) → Fits (reads (item_word w_unsafe) λ u.
    turns (at_word w_mod) (module_plan a inherited (Left u))
    (turns (at_word w_trait or_else at_word w_auto) (trait_plan a inherited absent (Left u))
    (unsafe_plan plain a inherited u))) plain_unsafe (alive plain_unsafe (plain_threads_12 a))
unfolding kept_end function_end signature_end abi_and_signature struct_plan enum_plan union_plan type_plan static_plan use_plan module_plan trait_end trait_plan trait_or_alias const_trait_or_alias const_plan definition_plan kept_impl impl_types impl_generics impl_plan visible_impl const_impl_plan extern_plan extern_crate_plan restricted_end bare_impl_plan unsafe_plan following_const macro_plan other_plan
plain_unsafe_fits a = λ u. (λ k. λ n. (λ z. refl, λ b. refl), (λ o. λ k. λ n. λ g. λ b. λ w. λ m. refl, (λ k. (λ g. (λ x. (λ b. refl, (λ t. λ f. λ b. refl, (refl, λ t. λ f. λ b. refl))), (λ t. λ f. λ b. refl, λ t. ((refl, λ f. λ b. refl), λ b. refl))), (λ x. (λ b. refl, (λ t. λ f. λ b. refl, (refl, λ t. λ f. λ b. refl))), (λ t. λ f. λ b. refl, λ t. ((refl, λ f. λ b. refl), λ b. refl)))), (λ e. λ l. (λ b. refl, λ s. ((refl, λ z. refl), λ b. refl)), λ s. ((refl, λ z. refl), λ b. refl)))))

abbrev plain_const : Known
plain_const = noted (at_word w_const) true plain_13

abbrev plain_14 : Known
plain_14 = noted (at_word w_const) false plain_13

abbrev plain_threads_14 : Syntax → List Thread
plain_threads_14 a = alive plain_14 (plain_threads_13 a)

plain_const_fits : (a : Syntax) → Fits (reads (item_word w_const) λ c. following_const plain a inherited c) plain_const (alive plain_const (plain_threads_13 a))
unfolding kept_end function_end signature_end abi_and_signature struct_plan enum_plan union_plan type_plan static_plan use_plan module_plan trait_end trait_plan trait_or_alias const_trait_or_alias const_plan definition_plan kept_impl impl_types impl_generics impl_plan visible_impl const_impl_plan extern_plan extern_crate_plan restricted_end bare_impl_plan unsafe_plan following_const macro_plan other_plan
plain_const_fits a = λ c. (λ u. (λ o. λ k. λ n. λ g. λ b. λ w. λ m. refl, (λ k. (λ g. (λ x. (λ b. refl, (λ t. λ f. λ b. refl, (refl, λ t. λ f. λ b. refl))), (λ t. λ f. λ b. refl, λ t. ((refl, λ f. λ b. refl), λ b. refl))), (λ x. (λ b. refl, (λ t. λ f. λ b. refl, (refl, λ t. λ f. λ b. refl))), (λ t. λ f. λ b. refl, λ t. ((refl, λ f. λ b. refl), λ b. refl)))), λ e. λ s. ((refl, λ z. refl), λ b. refl))), (λ k. λ n. λ g. ((refl, λ q. λ b. λ w. λ z. refl), λ b. λ w. λ m. refl), (λ o. λ k. λ n. λ g. λ b. λ w. λ m. refl, (λ k. (λ g. (λ x. (λ b. refl, (λ t. λ f. λ b. refl, (refl, λ t. λ f. λ b. refl))), (λ t. λ f. λ b. refl, λ t. ((refl, λ f. λ b. refl), λ b. refl))), (λ x. (λ b. refl, (λ t. λ f. λ b. refl, (refl, λ t. λ f. λ b. refl))), (λ t. λ f. λ b. refl, λ t. ((refl, λ f. λ b. refl), λ b. refl)))), (λ y. λ u. λ e. λ s. ((refl, λ z. refl), λ b. refl), λ n. ((refl, λ g. λ c. λ t. λ e. λ w. λ z. refl), λ c. λ t. (λ q. λ e. (λ z. refl, (refl, λ w. λ z. refl)), (refl, λ w. λ z. refl))))))))

abbrev plain_impl : Known
plain_impl = noted (at_word w_impl) true plain_14

abbrev plain_15 : Known
plain_15 = noted (at_word w_impl) false plain_14

abbrev plain_threads_15 : Syntax → List Thread
plain_threads_15 a = alive plain_15 (plain_threads_14 a)

plain_impl_fits : (a : Syntax) → Fits (bare_impl_plan plain a) plain_impl (alive plain_impl (plain_threads_14 a))
unfolding kept_end function_end signature_end abi_and_signature struct_plan enum_plan union_plan type_plan static_plan use_plan module_plan trait_end trait_plan trait_or_alias const_trait_or_alias const_plan definition_plan kept_impl impl_types impl_generics impl_plan visible_impl const_impl_plan extern_plan extern_crate_plan restricted_end bare_impl_plan unsafe_plan following_const macro_plan other_plan
plain_impl_fits a = λ k. ((refl, λ r. λ c. λ t. refl), (λ t. ((refl, λ f. λ b. refl), (λ b. refl, (refl, λ c. λ t. refl))), (λ g. (λ x. (λ b. refl, (λ t. λ f. λ b. refl, (refl, λ t. λ f. λ b. refl))), (λ t. λ f. λ b. refl, λ t. ((refl, λ f. λ b. refl), λ b. refl))), (λ x. (λ b. refl, (λ t. λ f. λ b. refl, (refl, λ t. λ f. λ b. refl))), (λ t. λ f. λ b. refl, λ t. ((refl, λ f. λ b. refl), λ b. refl))))))

plain_other_fits : (a : Syntax) → Fits (other_plan plain a) plain_15 (plain_threads_15 a)
unfolding kept_end function_end signature_end abi_and_signature struct_plan enum_plan union_plan type_plan static_plan use_plan module_plan trait_end trait_plan trait_or_alias const_trait_or_alias const_plan definition_plan kept_impl impl_types impl_generics impl_plan visible_impl const_impl_plan extern_plan extern_crate_plan restricted_end bare_impl_plan unsafe_plan following_const macro_plan other_plan
plain_other_fits a = (((tt, λ p. λ x. λ n. λ g. refl), λ d. λ c. λ u. λ k. (λ g. (λ x. (λ b. refl, (λ t. λ f. λ b. refl, (refl, λ t. λ f. λ b. refl))), (λ t. λ f. λ b. refl, λ t. ((refl, λ f. λ b. refl), λ b. refl))), (λ x. (λ b. refl, (λ t. λ f. λ b. refl, (refl, λ t. λ f. λ b. refl))), (λ t. λ f. λ b. refl, λ t. ((refl, λ f. λ b. refl), λ b. refl))))), (tt, λ p. λ x. λ n. λ g. refl))

plain_fits : (a : Syntax) → Fits (after_visibility plain a inherited) plain_0 (plain_threads_0 a)
unfolding after_visibility
plain_fits a = (plain_struct_fits a, (plain_enum_fits a, (plain_union_fits a, (plain_type_fits a, (plain_static_fits a, (plain_use_fits a, (plain_mod_fits a, (plain_trait_fits a, (plain_auto_fits a, (plain_macro_fits a, (plain_fn_fits a, (plain_extern_fits a, (plain_unsafe_fits a, (plain_const_fits a, (plain_impl_fits a, plain_other_fits a)))))))))))))))

pub item_fits : Fits item_plan [] threads
unfolding item_plan item_after
item_fits = λ a. ((λ v. public_fits a v), ((λ v. unwritten_fits a v), plain_fits a))

-- ---- THE UNION IS THESE ALTERNATIVES

-- the content of a restriction's parentheses: by whether there are any, and by its first token
module _ (m : Stream) (fs : List Grammar) where
  abbrev R : Out
  R = parse_form (inside Paren (rule restriction)) m

  abbrev T : Out
  T = parse_rule type m

  abbrev Whole : Bool → Bool → Bool → Option Stream
  Whole p w i = onward (rest (branch (and p (or w i)) R None)) (recog fs)

  abbrev In : Bool → Bool → Option Stream
  In p i = onward (rest (branch (and p i) R None)) (recog fs)

  abbrev Lone : Bool → Bool → Bool → Option Stream
  Lone p w i = onward (rest (branch (and p i) None (branch (and p w) T None))) (recog fs)

  by_content : (p w i : Bool) → (and p w ≡ true → rest R ≡ rest T) → Whole p w i ≡ first_rest (In p i) (Lone p w i)
  by_content false w i h = refl
  by_content true true true h = sym (first_none (onward (rest (wrap Left R)) (recog fs)))
  by_content true false true h = sym (first_none (onward (rest (wrap Left R)) (recog fs)))
  by_content true true false h = ap (λ z. onward z (recog fs)) (rest_wrap Left R ∙ h refl ∙ sym (rest_wrap Left T) ∙ sym (rest_wrap Right (wrap Left T)))
  by_content true false false h = refl

restricted_rest : (m : Stream) (fs : List Grammar) → recog ((when at_restriction then inside Paren (rule restriction) else never) ∷ fs) m
    ≡ first_rest (recog ((when at_in_restriction then inside Paren (rule restriction) else never) ∷ fs) m) (recog ((when at_in_restriction then never else when at_lone_word then rule type else never) ∷ fs) m)
unfolding sees
restricted_rest m fs = by_content m fs (sees at_paren m) (sees (ahead Lone_word) m) (sees (ahead Begins_in) m) (group_alike m)

restricted_is : (ts : Stream) → Kept kept_item ts restricted_trait ≡ first (answer kept_item ts in_trait ts) (answer kept_item ts lone_trait ts)
restricted_is ts =
    listed_is kept_item ts restricted_trait
    ∙ ap (keep kept_item ts)
    (onward_first (rest (parse_rule attributes ts)) _ _ _ (λ a. onward_first (rest (parse_rule visibility a)) _ _ _ (λ b. onward_first (rest (parse_form (plainly (word w_impl)) b)) _ _ _ (λ m. restricted_rest m (optional w_const ∷ rule bare_trait ∷ [])))))
    ∙ keep_first kept_item ts _ _

abbrev kept_rules : List Rule
kept_rules = bodiless_function ∷ rooted_use ∷ untyped_static ∷ valueless_static ∷ odd_const ∷ macro_definition ∷ odd_type ∷ const_alias ∷ restricted_trait ∷ odd_impl ∷ visible_const_impl ∷ []

one_after : (o : Out) (p q : Parser) → ((r : Stream) → rest (p r) ≡ rest (q r)) → rest (and_then o p) ≡ rest (and_then o q)
one_after (Some x) p q h = rest_wrap (Both x.0) (p x.1) ∙ h x.1 ∙ sym (rest_wrap (Both x.0) (q x.1))
one_after None p q h = refl

module _ (ts : Stream) where
  abbrev K : Rule → Out
  K = Kept kept_item ts

  last_three : all_kept kept_item ts (restricted_trait ∷ odd_impl ∷ visible_const_impl ∷ []) ≡ answer_all kept_item ts (in_trait ∷ lone_trait ∷ listed_thread odd_impl ∷ listed_thread visible_const_impl ∷ []) ts
  last_three =
      ap₂ first (restricted_is ts) (ap₂ first (listed_is kept_item ts odd_impl) (ap (λ z. first z None) (listed_is kept_item ts visible_const_impl)))
      ∙ first_first (answer kept_item ts in_trait ts) (answer kept_item ts lone_trait ts) (answer_all kept_item ts (listed_thread odd_impl ∷ listed_thread visible_const_impl ∷ []) ts)

  all_kept_are : all_kept kept_item ts kept_rules ≡ answer_all kept_item ts kept ts
  all_kept_are =
      ap (λ z. first (K bodiless_function) (first (K rooted_use) (first (K untyped_static) (first (K valueless_static) (first (K odd_const) (first (K macro_definition) z))))))
      (ap₂ (λ y z. first y (first (K const_alias) z)) (listed_is kept_item ts odd_type) last_three)

  kept_start : keep kept_item ts (rest (and_then (parse_rule attributes ts) (parse_rule kept_item_rest))) ≡ answer_all kept_item ts kept ts
  kept_start =
      ap (keep kept_item ts) (one_after (parse_rule attributes ts) (parse_rule kept_item_rest) (first_rule parse_rule kept_rules) (λ r. ap rest (parse_rule_is kept_item_rest r) ∙ rest_wrap Node (first_rule parse_rule kept_rules r)))
      ∙ kept_union kept_item ts kept_rules ∙ all_kept_are

  item_start : parse_rule item ts ≡ answer_all kept_item ts threads ts
  item_start = parse_rule_is item ts ∙ kinds_start kept_item ts kinds kept (and_then (parse_rule attributes ts) (parse_rule kept_item_rest)) (parse_rule_is kept_item ts) kept_start

pub item_plan_is : ItemPlan
item_plan_is ts = item_start ts ∙ fits_is item_plan [] threads kept_item ts ts item_fits tt

-- nothing was shown yet
pub kinds_shown : Shown end threads
kinds_shown = (refl, (refl, (refl, (refl, (refl, (refl, (refl, (refl, (refl, (refl, (refl, (refl, (refl, (refl, (refl, tt)))))))))))))))
