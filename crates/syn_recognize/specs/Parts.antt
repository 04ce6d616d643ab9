-- Written by tools/recognizers.py; edits are lost.
-- THE PARTS OF RULES THAT HAVE STATICS OF THEIR OWN: the place of each in its rule.
use Rattle.std.specs.Prelude.{ℕ, true, false, [], ◌∷◌, get_or}
use Rattle.syn_grammar.specs.Words.{colon, equals, exclamation, semicolon, w_as, w_async, w_const, w_default, w_enum, w_fn, w_let, w_struct, w_trait, w_try, w_type, w_underscore, w_union, w_unsafe, w_where}
use Rattle.syn_grammar.specs.Tokens.{Paren, Brace, Begins_in, Lone_word, at_word, ahead, ◌or_else◌, ◌and_also◌, ◌but_not◌}
use Rattle.syn_grammar.specs.Rules as rules
use Rattle.syn_grammar.specs.Shape as shapes
use Rattle.syn_grammar.specs.Table.{table, at_bang, at_block_like, at_brace, at_brace_macro, at_colon, at_crate_macro, at_equals, at_exclamation, at_extern, at_for, at_less, at_macro_name, at_paren, at_postfix_mark, at_semicolon, at_where}
use Rattle.syn_grammar.specs.Grammar.{name, word, name_or, Grammar, empty, token, mark, ◌&◌, when◌then◌else◌, inside, raw, rule, one_of, shaped, vanishing, ordered}
use Rattle.syn_recognize.specs.Within.{first, second}
use Rattle.syn_recognize.specs.Ordered.{first_form, other_form}
use Rattle.syn_recognize.specs.declared.list.List.TheVariants as List-m
use Rattle.syn_recognize.specs.declared.rules.Part.{Part}
use Rattle.syn_recognize.specs.declared.rules.Group.{Group}
use Rattle.syn_recognize.specs.declared.rules.Group.TheVariants as Group-m

abbrev pub types_part : ℕ → Grammar
types_part n = get_or ((first (first (first (table rules.type_words)))) ∷ (second (table rules.type_words)) ∷ (first (first (first (table rules.more_type_words)))) ∷ (second (table rules.more_type_words)) ∷ (second (second (table rules.qualified_path))) ∷ (first (second (second (second (table rules.type))))) ∷ (second (second (table rules.type))) ∷ (first (table rules.type)) ∷ []) n (second (first (table rules.constant)))

abbrev pub generics_part : ℕ → Grammar
generics_part n = get_or ((second (first (second (second (first (table rules.generics)))))) ∷ (second (second (second (first (table rules.generics))))) ∷ (second (first (table rules.generics))) ∷ []) n (second (table rules.predicate))

abbrev pub fields_part : ℕ → Grammar
fields_part n = get_or ((first (first (first (second (second (table rules.named_field)))))) ∷ (first (second (second (table rules.named_field)))) ∷ (second (second (second (table rules.variant)))) ∷ []) n (second (table rules.variant))

abbrev pub inputs_part : ℕ → Grammar
inputs_part n = get_or ((second (table rules.structure_body)) ∷ []) n (second (table rules.enumeration_rest))

abbrev pub patterns_part : ℕ → Grammar
patterns_part n = get_or ((first (first (first (table rules.expression_words)))) ∷ (second (table rules.expression_words)) ∷ (second (second (table rules.qualified_expression_path))) ∷ (first (second (second (second (table rules.pattern))))) ∷ (second (second (second (table rules.pattern)))) ∷ []) n (second (table rules.pattern))

abbrev pub lists_part : ℕ → Grammar
lists_part n = get_or ([]) n (second (table rules.array_content))

abbrev pub blocks_part : ℕ → Grammar
blocks_part n = get_or ((second (second (second (second (second (second (second (second (second (second (second (first (table rules.primary))))))))))))) ∷ (first (second (second (second (second (second (second (second (second (second (first (table rules.primary)))))))))))) ∷ (second (second (second (second (second (second (second (second (second (first (table rules.primary))))))))))) ∷ (second (second (second (second (second (second (second (first (table rules.primary))))))))) ∷ (second (second (second (second (second (first (table rules.primary))))))) ∷ (second (second (first (table rules.primary)))) ∷ (second (first (table rules.literal_fields))) ∷ (second (second (table rules.literal_field))) ∷ (second (second (first (table rules.block_like)))) ∷ (first (second (second (second (first (table rules.if_expression)))))) ∷ (second (second (first (table rules.loop_expression)))) ∷ []) n (second (first (table rules.loop_expression)))

abbrev pub postfixes_part : ℕ → Grammar
postfixes_part n = get_or ((second (second (second (table rules.postfixes)))) ∷ (second (second (table rules.postfixes))) ∷ (second (table rules.postfixes)) ∷ (second (second (table rules.member))) ∷ (second (table rules.member)) ∷ (first (second (second (second (second (first (table rules.unary))))))) ∷ (second (second (second (first (table rules.unary))))) ∷ []) n (second (first (table rules.unary)))

abbrev pub operators_part : ℕ → Grammar
operators_part n = get_or ((second (second (table rules.products))) ∷ (second (table rules.products)) ∷ (second (table rules.sums)) ∷ (second (table rules.shifts)) ∷ (second (second (second (second (table rules.compared))))) ∷ (second (second (second (table rules.compared)))) ∷ (second (second (table rules.compared))) ∷ (second (second (second (second (second (second (second (second (second (table rules.assigned)))))))))) ∷ (second (second (second (second (second (second (second (table rules.assigned)))))))) ∷ (second (second (second (second (second (table rules.assigned)))))) ∷ (second (second (second (table rules.assigned)))) ∷ []) n (second (table rules.assigned))

abbrev pub heads_part : ℕ → Grammar
heads_part n = get_or ((first (second (second (second (second (second (second (second (second (second (first (table rules.primary_head)))))))))))) ∷ (second (second (second (second (second (second (second (second (second (first (table rules.primary_head))))))))))) ∷ (second (second (second (second (second (second (second (first (table rules.primary_head))))))))) ∷ (second (second (second (second (second (first (table rules.primary_head))))))) ∷ (second (second (first (table rules.primary_head)))) ∷ (first (second (second (second (second (first (table rules.unary_head))))))) ∷ (second (second (second (first (table rules.unary_head))))) ∷ (second (first (table rules.unary_head))) ∷ (second (second (table rules.products_head))) ∷ (second (table rules.products_head)) ∷ (second (table rules.sums_head)) ∷ (second (table rules.shifts_head)) ∷ (second (second (second (second (table rules.compared_head))))) ∷ (second (second (second (table rules.compared_head)))) ∷ (second (second (table rules.compared_head))) ∷ (second (second (second (second (second (second (second (second (second (table rules.assigned_head)))))))))) ∷ (second (second (second (second (second (second (second (table rules.assigned_head)))))))) ∷ (second (second (second (second (second (table rules.assigned_head)))))) ∷ (second (second (second (table rules.assigned_head)))) ∷ []) n (second (table rules.assigned_head))

abbrev pub statements_part : ℕ → Grammar
statements_part n = get_or ((second (second (second (second (second (second (table rules.operand_rest))))))) ∷ (second (table rules.operand_rest)) ∷ (second (second (second (table rules.statement_rest)))) ∷ (second (second (table rules.statement_rest))) ∷ (first (table rules.statement_rest)) ∷ (second (second (first (second (first (first (second (second (table rules.local))))))))) ∷ []) n (second (second (table rules.local)))

abbrev pub signatures_part : ℕ → Grammar
signatures_part n = get_or ((second (second (first (table rules.receiver_rest)))) ∷ (second (second (table rules.receiver_rest))) ∷ (first (table rules.receiver_rest)) ∷ (second (first (table rules.inputs))) ∷ (second (table rules.signature)) ∷ []) n (second (table rules.signature_rest))

abbrev pub items_part : ℕ → Grammar
items_part n = get_or ((second (second (second (second (table rules.const_item_rest))))) ∷ (second (second (second (table rules.static_item_rest)))) ∷ (second (second (table rules.extern_crate_rest))) ∷ (second (second (table rules.use_tree))) ∷ (second (second (second (table rules.module_item_rest)))) ∷ (second (table rules.alias)) ∷ []) n (second (table rules.macro_item_rest))

abbrev pub kept_items_part : ℕ → Grammar
kept_items_part n = get_or ((second (second (table rules.untyped_static))) ∷ (second (second (table rules.valueless_static))) ∷ (second (second (second (second (first (second (second (second (table rules.odd_const))))))))) ∷ (second (first (second (second (second (table rules.odd_const)))))) ∷ (first (second (second (second (second (second (second (table rules.odd_const)))))))) ∷ (second (second (second (second (second (table rules.odd_const)))))) ∷ (second (table rules.odd_const)) ∷ (second (second (second (first (first (second (second (second (second (table rules.odd_type)))))))))) ∷ (second (second (first (first (second (second (second (second (table rules.odd_type))))))))) ∷ []) n (first (second (second (second (second (table rules.odd_type))))))

abbrev pub traits_part : ℕ → Grammar
traits_part n = get_or ((second (second (second (second (table rules.bare_trait))))) ∷ (second (table rules.bare_trait)) ∷ []) n (second (second (table rules.restricted_trait)))

abbrev pub impls_part : ℕ → Grammar
impls_part n = get_or ((second (first (second (second (second (second (second (first (table rules.odd_impl))))))))) ∷ (second (second (second (second (second (second (first (table rules.odd_impl)))))))) ∷ (second (second (second (first (table rules.odd_impl))))) ∷ (second (first (table rules.odd_impl))) ∷ (first (second (second (second (second (second (second (first (table rules.visible_const_impl))))))))) ∷ (second (second (second (second (second (second (first (table rules.visible_const_impl)))))))) ∷ []) n (second (second (second (first (table rules.visible_const_impl)))))

abbrev pub trait_members_part : ℕ → Grammar
trait_members_part n = get_or ((second (second (second (second (table rules.bare_trait_type))))) ∷ (second (second (second (second (second (table rules.trait_const)))))) ∷ (second (second (second (second (second (second (table rules.any_const))))))) ∷ (second (second (second (table rules.any_const)))) ∷ (second (second (second (second (first (second (second (second (table rules.odd_trait_const))))))))) ∷ (second (first (second (second (second (table rules.odd_trait_const)))))) ∷ (second (second (second (second (second (second (table rules.odd_trait_const))))))) ∷ []) n (second (second (table rules.odd_trait_const)))

abbrev pub impl_members_part : ℕ → Grammar
impl_members_part n = get_or ((second (second (second (second (second (table rules.impl_const)))))) ∷ (second (table rules.impl_const)) ∷ (second (second (second (second (table rules.impl_type))))) ∷ (second (second (second (second (first (second (second (second (second (table rules.odd_impl_const)))))))))) ∷ (second (first (second (second (second (second (table rules.odd_impl_const))))))) ∷ (first (second (second (second (second (second (second (second (table rules.odd_impl_const))))))))) ∷ (second (second (second (second (second (second (table rules.odd_impl_const))))))) ∷ (second (second (table rules.odd_impl_const))) ∷ (second (second (second (first (second (second (second (second (second (table rules.odd_impl_type)))))))))) ∷ (first (second (second (second (second (second (table rules.odd_impl_type))))))) ∷ []) n (second (second (second (second (table rules.odd_impl_type)))))

abbrev pub foreign_members_part : ℕ → Grammar
foreign_members_part n = get_or ((second (table rules.foreign_signature)) ∷ (second (table rules.bare_foreign_static)) ∷ (second (second (table rules.foreign_type))) ∷ (second (first (second (second (first (second (second (second (second (table rules.odd_foreign_type)))))))))) ∷ (first (second (second (first (second (second (second (second (table rules.odd_foreign_type))))))))) ∷ (second (second (second (second (second (second (table rules.odd_foreign_type))))))) ∷ (second (second (second (second (second (table rules.odd_foreign_type)))))) ∷ []) n (second (second (second (table rules.odd_foreign_type))))

abbrev pub planned_1_part : ℕ → Grammar
planned_1_part n = get_or ((((rule rules.generics) & ((rule rules.where_clause) & ((inside Brace (rule rules.variants)) & empty)))) ∷ (((token [] (name)) & ((rule rules.generics) & ((rule rules.where_clause) & ((rule rules.fields_named) & empty))))) ∷ (((mark false equals) & ((rule rules.type) & (when at_where then ((token [] (word w_where)) & (rule rules.predicates)) else empty)))) ∷ ((((token [] (word w_where)) & (rule rules.predicates)) & (when at_equals then ((mark false equals) & (rule rules.type)) else empty))) ∷ (((when at_where then (((token [] (word w_where)) & (rule rules.predicates)) & (when at_equals then ((mark false equals) & (rule rules.type)) else empty)) else (when at_equals then ((mark false equals) & ((rule rules.type) & (when at_where then ((token [] (word w_where)) & (rule rules.predicates)) else empty))) else empty)) & ((mark false semicolon) & empty))) ∷ (((inside Brace ((rule rules.inner_attributes) & (rule rules.items))) & empty)) ∷ (((rule rules.where_clause) & ((inside Brace ((rule rules.inner_attributes) & (rule rules.trait_items))) & empty))) ∷ (((mark false equals) & ((rule rules.alias_bounds) & ((rule rules.where_clause) & ((mark false semicolon) & empty))))) ∷ (((token [] (name)) & ((rule rules.generics) & (when at_equals then ((mark false equals) & ((rule rules.alias_bounds) & ((rule rules.where_clause) & ((mark false semicolon) & empty)))) else ((vanishing false at_colon ((mark false colon) & (rule rules.supertraits))) & ((rule rules.where_clause) & ((inside Brace ((rule rules.inner_attributes) & (rule rules.trait_items))) & empty))))))) ∷ (((rule rules.where_clause) & ((inside Brace ((rule rules.inner_attributes) & (rule rules.trait_items))) & empty))) ∷ (((token [] (word w_trait)) & ((token [] (name)) & ((rule rules.generics) & ((vanishing false at_colon ((mark false colon) & (rule rules.supertraits))) & ((rule rules.where_clause) & ((inside Brace ((rule rules.inner_attributes) & (rule rules.trait_items))) & empty))))))) ∷ (((token [] (name)) & ((when at_paren then (raw Paren) else empty) & ((raw Brace) & empty)))) ∷ (((when (at_word w_as) then ((token [] (word w_as)) & (token [] (name_or (w_underscore ∷ [])))) else empty) & ((mark false semicolon) & empty))) ∷ (((rule rules.type) & ((rule rules.for_self_type) & ((rule rules.impl_body) & empty)))) ∷ (((rule rules.type) & ((when at_for then (rule rules.for_self_type) else empty) & ((rule rules.impl_body) & empty)))) ∷ ((when at_exclamation then ((mark false exclamation) & (when at_brace then ((rule rules.impl_body) & empty) else ((rule rules.type) & ((rule rules.for_self_type) & ((rule rules.impl_body) & empty))))) else ((rule rules.type) & ((when at_for then (rule rules.for_self_type) else empty) & ((rule rules.impl_body) & empty))))) ∷ []) n (((rule rules.where_clause) & ((inside Brace ((rule rules.inner_attributes) & (rule rules.trait_items))) & empty)))

abbrev pub planned_2_part : ℕ → Grammar
planned_2_part n = get_or ((((when at_where then ((token [] (word w_where)) & (rule rules.predicates)) else empty) & ((mark false semicolon) & empty))) ∷ (((rule rules.type) & ((when at_equals then ((mark false equals) & (rule rules.whole_expression)) else empty) & ((when at_where then ((token [] (word w_where)) & (rule rules.predicates)) else empty) & ((mark false semicolon) & empty))))) ∷ (((when (at_word w_const) then (token [] (word w_const)) else empty) & ((rule rules.bare_trait) & empty))) ∷ (((rule rules.type) & ((when (at_word w_const) then (token [] (word w_const)) else empty) & ((rule rules.bare_trait) & empty)))) ∷ ((when (at_paren and_also (ahead Begins_in)) then ((inside Paren (rule rules.restriction)) & ((when (at_word w_const) then (token [] (word w_const)) else empty) & ((rule rules.bare_trait) & empty))) else (when (at_paren and_also (ahead Lone_word)) then ((rule rules.type) & ((when (at_word w_const) then (token [] (word w_const)) else empty) & ((rule rules.bare_trait) & empty))) else (one_of ([]))))) ∷ (((when (at_word w_const) then (token [] (word w_const)) else empty) & ((rule rules.bare_trait) & empty))) ∷ (((when at_macro_name then (token [] (name_or (w_try ∷ []))) else empty) & ((rule rules.macro_end) & empty))) ∷ ((when at_equals then ((mark false equals) & (rule rules.type)) else empty)) ∷ (((vanishing false at_colon ((mark false colon) & (rule rules.type_bounds))) & ((when at_equals then ((mark false equals) & (rule rules.type)) else empty) & ((rule rules.where_clause) & ((mark false semicolon) & empty))))) ∷ (((rule rules.signature_rest) & (when at_semicolon then ((mark false semicolon) & empty) else ((rule rules.body) & empty)))) ∷ (((rule rules.unsafe_only) & ((when at_extern then (rule rules.abi) else empty) & ((rule rules.signature_rest) & (when at_semicolon then ((mark false semicolon) & empty) else ((rule rules.body) & empty)))))) ∷ (((when at_where then ((token [] (word w_where)) & (rule rules.predicates)) else empty) & ((mark false semicolon) & empty))) ∷ (((rule rules.type) & ((when at_equals then ((mark false equals) & (rule rules.whole_expression)) else empty) & ((when at_where then ((token [] (word w_where)) & (rule rules.predicates)) else empty) & ((mark false semicolon) & empty))))) ∷ (((token [] (name_or (w_underscore ∷ []))) & ((when at_less then (ordered (first_form List-m.Parameters) (other_form List-m.Parameters)) else empty) & ((mark false colon) & ((rule rules.type) & ((when at_equals then ((mark false equals) & (rule rules.whole_expression)) else empty) & ((when at_where then ((token [] (word w_where)) & (rule rules.predicates)) else empty) & ((mark false semicolon) & empty)))))))) ∷ ((when ((at_word w_async) or_else ((at_word w_unsafe) or_else (at_extern or_else (at_word w_fn)))) then ((when (at_word w_async) then (token [] (word w_async)) else empty) & ((rule rules.unsafe_only) & ((when at_extern then (rule rules.abi) else empty) & ((rule rules.signature_rest) & (when at_semicolon then ((mark false semicolon) & empty) else ((rule rules.body) & empty)))))) else ((token [] (name_or (w_underscore ∷ []))) & ((when at_less then (ordered (first_form List-m.Parameters) (other_form List-m.Parameters)) else empty) & ((mark false colon) & ((rule rules.type) & ((when at_equals then ((mark false equals) & (rule rules.whole_expression)) else empty) & ((when at_where then ((token [] (word w_where)) & (rule rules.predicates)) else empty) & ((mark false semicolon) & empty))))))))) ∷ (((rule rules.signature) & (when at_semicolon then ((mark false semicolon) & empty) else ((rule rules.body) & empty)))) ∷ []) n (((token [] (word w_type)) & ((token [] (name)) & ((rule rules.generics) & ((vanishing false at_colon ((mark false colon) & (rule rules.type_bounds))) & ((when at_equals then ((mark false equals) & (rule rules.type)) else empty) & ((rule rules.where_clause) & ((mark false semicolon) & empty))))))))

abbrev pub planned_3_part : ℕ → Grammar
planned_3_part n = get_or (((when (at_word w_type) then ((token [] (word w_type)) & ((token [] (name)) & ((rule rules.generics) & ((vanishing false at_colon ((mark false colon) & (rule rules.type_bounds))) & ((when at_equals then ((mark false equals) & (rule rules.type)) else empty) & ((rule rules.where_clause) & ((mark false semicolon) & empty))))))) else (when (at_word w_const) then ((token [] (word w_const)) & (when ((at_word w_async) or_else ((at_word w_unsafe) or_else (at_extern or_else (at_word w_fn)))) then ((when (at_word w_async) then (token [] (word w_async)) else empty) & ((rule rules.unsafe_only) & ((when at_extern then (rule rules.abi) else empty) & ((rule rules.signature_rest) & (when at_semicolon then ((mark false semicolon) & empty) else ((rule rules.body) & empty)))))) else ((token [] (name_or (w_underscore ∷ []))) & ((when at_less then (ordered (first_form List-m.Parameters) (other_form List-m.Parameters)) else empty) & ((mark false colon) & ((rule rules.type) & ((when at_equals then ((mark false equals) & (rule rules.whole_expression)) else empty) & ((when at_where then ((token [] (word w_where)) & (rule rules.predicates)) else empty) & ((mark false semicolon) & empty))))))))) else ((rule rules.signature) & (when at_semicolon then ((mark false semicolon) & empty) else ((rule rules.body) & empty)))))) ∷ ((when at_equals then ((mark false equals) & (rule rules.type)) else empty)) ∷ (((vanishing false at_colon ((mark false colon) & (rule rules.type_bounds))) & ((when at_equals then ((mark false equals) & (rule rules.type)) else empty) & ((rule rules.where_clause) & ((mark false semicolon) & empty))))) ∷ (((rule rules.signature_rest) & (when at_semicolon then ((mark false semicolon) & empty) else ((rule rules.body) & empty)))) ∷ (((rule rules.unsafe_only) & ((when at_extern then (rule rules.abi) else empty) & ((rule rules.signature_rest) & (when at_semicolon then ((mark false semicolon) & empty) else ((rule rules.body) & empty)))))) ∷ (((when at_where then ((token [] (word w_where)) & (rule rules.predicates)) else empty) & ((mark false semicolon) & empty))) ∷ (((rule rules.type) & ((when at_equals then ((mark false equals) & (rule rules.whole_expression)) else empty) & ((when at_where then ((token [] (word w_where)) & (rule rules.predicates)) else empty) & ((mark false semicolon) & empty))))) ∷ (((token [] (name_or (w_underscore ∷ []))) & ((when at_less then (ordered (first_form List-m.Parameters) (other_form List-m.Parameters)) else empty) & ((mark false colon) & ((rule rules.type) & ((when at_equals then ((mark false equals) & (rule rules.whole_expression)) else empty) & ((when at_where then ((token [] (word w_where)) & (rule rules.predicates)) else empty) & ((mark false semicolon) & empty)))))))) ∷ ((when ((at_word w_async) or_else ((at_word w_unsafe) or_else (at_extern or_else (at_word w_fn)))) then ((when (at_word w_async) then (token [] (word w_async)) else empty) & ((rule rules.unsafe_only) & ((when at_extern then (rule rules.abi) else empty) & ((rule rules.signature_rest) & (when at_semicolon then ((mark false semicolon) & empty) else ((rule rules.body) & empty)))))) else ((token [] (name_or (w_underscore ∷ []))) & ((when at_less then (ordered (first_form List-m.Parameters) (other_form List-m.Parameters)) else empty) & ((mark false colon) & ((rule rules.type) & ((when at_equals then ((mark false equals) & (rule rules.whole_expression)) else empty) & ((when at_where then ((token [] (word w_where)) & (rule rules.predicates)) else empty) & ((mark false semicolon) & empty))))))))) ∷ (((rule rules.signature) & (when at_semicolon then ((mark false semicolon) & empty) else ((rule rules.body) & empty)))) ∷ (((token [] (word w_type)) & ((token [] (name)) & ((rule rules.generics) & ((vanishing false at_colon ((mark false colon) & (rule rules.type_bounds))) & ((when at_equals then ((mark false equals) & (rule rules.type)) else empty) & ((rule rules.where_clause) & ((mark false semicolon) & empty)))))))) ∷ (((when at_where then ((token [] (word w_where)) & (rule rules.predicates)) else empty) & ((mark false semicolon) & empty))) ∷ (((rule rules.type) & ((when at_equals then ((mark false equals) & (rule rules.whole_expression)) else empty) & ((when at_where then ((token [] (word w_where)) & (rule rules.predicates)) else empty) & ((mark false semicolon) & empty))))) ∷ ((((token [] (word w_where)) & (rule rules.predicates)) & ((mark false semicolon) & empty))) ∷ (((rule rules.type) & ((when at_equals then ((mark false equals) & (rule rules.whole_expression)) else empty) & (((token [] (word w_where)) & (rule rules.predicates)) & ((mark false semicolon) & empty))))) ∷ ((when at_less then ((ordered (first_form List-m.Parameters) (other_form List-m.Parameters)) & ((mark false colon) & ((rule rules.type) & ((when at_equals then ((mark false equals) & (rule rules.whole_expression)) else empty) & ((when at_where then ((token [] (word w_where)) & (rule rules.predicates)) else empty) & ((mark false semicolon) & empty)))))) else ((mark false colon) & ((rule rules.type) & ((when at_equals then ((mark false equals) & (rule rules.whole_expression)) else empty) & (((token [] (word w_where)) & (rule rules.predicates)) & ((mark false semicolon) & empty))))))) ∷ []) n (((token [] (word w_default)) & (when (at_word w_type) then ((token [] (word w_type)) & ((token [] (name)) & ((rule rules.generics) & ((vanishing false at_colon ((mark false colon) & (rule rules.type_bounds))) & ((when at_equals then ((mark false equals) & (rule rules.type)) else empty) & ((rule rules.where_clause) & ((mark false semicolon) & empty))))))) else (when (at_word w_const) then ((token [] (word w_const)) & (when ((at_word w_async) or_else ((at_word w_unsafe) or_else (at_extern or_else (at_word w_fn)))) then ((when (at_word w_async) then (token [] (word w_async)) else empty) & ((rule rules.unsafe_only) & ((when at_extern then (rule rules.abi) else empty) & ((rule rules.signature_rest) & (when at_semicolon then ((mark false semicolon) & empty) else ((rule rules.body) & empty)))))) else ((token [] (name_or (w_underscore ∷ []))) & ((when at_less then (ordered (first_form List-m.Parameters) (other_form List-m.Parameters)) else empty) & ((mark false colon) & ((rule rules.type) & ((when at_equals then ((mark false equals) & (rule rules.whole_expression)) else empty) & ((when at_where then ((token [] (word w_where)) & (rule rules.predicates)) else empty) & ((mark false semicolon) & empty))))))))) else ((rule rules.signature) & (when at_semicolon then ((mark false semicolon) & empty) else ((rule rules.body) & empty)))))))

abbrev pub planned_4_part : ℕ → Grammar
planned_4_part n = get_or (((when at_equals then ((mark false equals) & (rule rules.type)) else empty)) ∷ (((vanishing false at_colon ((mark false colon) & (rule rules.type_bounds))) & ((when at_equals then ((mark false equals) & (rule rules.type)) else empty) & ((rule rules.where_clause) & ((mark false semicolon) & empty))))) ∷ (((rule rules.signature_rest) & (when at_semicolon then ((mark false semicolon) & empty) else ((rule rules.body) & empty)))) ∷ (((rule rules.unsafe_only) & ((when at_extern then (rule rules.abi) else empty) & ((rule rules.signature_rest) & (when at_semicolon then ((mark false semicolon) & empty) else ((rule rules.body) & empty)))))) ∷ (((when at_where then ((token [] (word w_where)) & (rule rules.predicates)) else empty) & ((mark false semicolon) & empty))) ∷ (((rule rules.type) & ((when at_equals then ((mark false equals) & (rule rules.whole_expression)) else empty) & ((when at_where then ((token [] (word w_where)) & (rule rules.predicates)) else empty) & ((mark false semicolon) & empty))))) ∷ (((token [] (name_or (w_underscore ∷ []))) & ((when at_less then (ordered (first_form List-m.Parameters) (other_form List-m.Parameters)) else empty) & ((mark false colon) & ((rule rules.type) & ((when at_equals then ((mark false equals) & (rule rules.whole_expression)) else empty) & ((when at_where then ((token [] (word w_where)) & (rule rules.predicates)) else empty) & ((mark false semicolon) & empty)))))))) ∷ ((when ((at_word w_async) or_else ((at_word w_unsafe) or_else (at_extern or_else (at_word w_fn)))) then ((when (at_word w_async) then (token [] (word w_async)) else empty) & ((rule rules.unsafe_only) & ((when at_extern then (rule rules.abi) else empty) & ((rule rules.signature_rest) & (when at_semicolon then ((mark false semicolon) & empty) else ((rule rules.body) & empty)))))) else ((token [] (name_or (w_underscore ∷ []))) & ((when at_less then (ordered (first_form List-m.Parameters) (other_form List-m.Parameters)) else empty) & ((mark false colon) & ((rule rules.type) & ((when at_equals then ((mark false equals) & (rule rules.whole_expression)) else empty) & ((when at_where then ((token [] (word w_where)) & (rule rules.predicates)) else empty) & ((mark false semicolon) & empty))))))))) ∷ (((rule rules.signature) & (when at_semicolon then ((mark false semicolon) & empty) else ((rule rules.body) & empty)))) ∷ (((token [] (word w_type)) & ((token [] (name)) & ((rule rules.generics) & ((vanishing false at_colon ((mark false colon) & (rule rules.type_bounds))) & ((when at_equals then ((mark false equals) & (rule rules.type)) else empty) & ((rule rules.where_clause) & ((mark false semicolon) & empty)))))))) ∷ ((when at_equals then ((mark false equals) & (rule rules.type)) else empty)) ∷ (((vanishing false at_colon ((mark false colon) & (rule rules.type_bounds))) & ((when at_equals then ((mark false equals) & (rule rules.type)) else empty) & ((rule rules.where_clause) & ((mark false semicolon) & empty))))) ∷ (((rule rules.signature_rest) & (when at_semicolon then ((mark false semicolon) & empty) else ((rule rules.body) & empty)))) ∷ (((rule rules.unsafe_only) & ((when at_extern then (rule rules.abi) else empty) & ((rule rules.signature_rest) & (when at_semicolon then ((mark false semicolon) & empty) else ((rule rules.body) & empty)))))) ∷ (((rule rules.module_path) & ((when at_bang then (mark false exclamation) else (one_of ([]))) & ((rule rules.macro_end) & empty)))) ∷ (((rule rules.signature) & (when at_semicolon then ((mark false semicolon) & empty) else ((rule rules.body) & empty)))) ∷ []) n (((when at_where then ((token [] (word w_where)) & (rule rules.predicates)) else empty) & ((mark false semicolon) & empty)))

abbrev pub planned_5_part : ℕ → Grammar
planned_5_part n = get_or ((((rule rules.type_bounds) & ((when at_equals then ((mark false equals) & (rule rules.type)) else empty) & ((when at_where then ((token [] (word w_where)) & (rule rules.predicates)) else empty) & ((mark false semicolon) & empty))))) ∷ (((when at_where then ((token [] (word w_where)) & (rule rules.predicates)) else empty) & ((mark false semicolon) & empty))) ∷ (((rule rules.module_path) & ((when at_bang then (mark false exclamation) else (one_of ([]))) & ((rule rules.macro_end) & empty)))) ∷ (((when at_where then ((token [] (word w_where)) & (rule rules.predicates)) else empty) & ((mark false semicolon) & empty))) ∷ (((rule rules.module_path) & ((when at_bang then (mark false exclamation) else (one_of ([]))) & ((rule rules.macro_end) & empty)))) ∷ ((when at_brace then ((raw Brace) & (when at_postfix_mark then (one_of ([])) else ((rule rules.statement_end) & empty))) else (one_of ([])))) ∷ (((when at_macro_name then (token [] (name_or (w_try ∷ []))) else empty) & ((rule rules.macro_end) & (when at_postfix_mark then empty else (one_of ([])))))) ∷ ((when at_brace then ((raw Brace) & (when at_postfix_mark then empty else ((rule rules.statement_end) & empty))) else ((when at_macro_name then (token [] (name_or (w_try ∷ []))) else empty) & ((rule rules.macro_end) & (when at_postfix_mark then empty else (one_of ([]))))))) ∷ (((rule rules.module_path) & ((when at_bang then (mark false exclamation) else (one_of ([]))) & (when at_brace then ((raw Brace) & (when at_postfix_mark then (one_of ([])) else ((rule rules.statement_end) & empty))) else (one_of ([])))))) ∷ (((rule rules.generics) & ((rule rules.where_clause) & ((inside Brace (rule rules.variants)) & empty)))) ∷ (((token [] (name)) & ((rule rules.generics) & ((rule rules.where_clause) & ((rule rules.fields_named) & empty))))) ∷ (((token [] (word w_struct)) & ((token [] (name)) & ((rule rules.generics) & ((rule rules.structure_body) & empty))))) ∷ ((when (at_word w_enum) then ((token [] (word w_enum)) & ((token [] (name)) & ((rule rules.generics) & ((rule rules.where_clause) & ((inside Brace (rule rules.variants)) & empty))))) else ((token [] (word w_union)) & ((token [] (name)) & ((rule rules.generics) & ((rule rules.where_clause) & ((rule rules.fields_named) & empty))))))) ∷ ((when at_block_like then (shaped (shapes.said) ((rule rules.block_like) & (rule rules.statement_end))) else (shaped (shapes.said) ((rule rules.whole_expression) & (mark false semicolon))))) ∷ ((shaped (shapes.said_macro) ((shaped (shapes.operand shapes.Macro) (rule rules.macro_invocation)) & (rule rules.statement_end)))) ∷ []) n ((when at_crate_macro then (rule rules.crate_macro) else (when at_brace_macro then (shaped (shapes.said_macro) ((shaped (shapes.operand shapes.Macro) (rule rules.macro_invocation)) & (rule rules.statement_end))) else (when (at_word w_let) then (shaped (shapes.a_local) (rule rules.local)) else (when at_block_like then (shaped (shapes.said) ((rule rules.block_like) & (rule rules.statement_end))) else (shaped (shapes.said) ((rule rules.whole_expression) & (mark false semicolon))))))))

abbrev pub part_at : Group → ℕ → Grammar
part_at Group-m.Types n = types_part n
part_at Group-m.Generics n = generics_part n
part_at Group-m.Fields n = fields_part n
part_at Group-m.Inputs n = inputs_part n
part_at Group-m.Patterns n = patterns_part n
part_at Group-m.Lists n = lists_part n
part_at Group-m.Blocks n = blocks_part n
part_at Group-m.Postfixes n = postfixes_part n
part_at Group-m.Operators n = operators_part n
part_at Group-m.Heads n = heads_part n
part_at Group-m.Statements n = statements_part n
part_at Group-m.Signatures n = signatures_part n
part_at Group-m.Items n = items_part n
part_at Group-m.KeptItems n = kept_items_part n
part_at Group-m.Traits n = traits_part n
part_at Group-m.Impls n = impls_part n
part_at Group-m.TraitMembers n = trait_members_part n
part_at Group-m.ImplMembers n = impl_members_part n
part_at Group-m.ForeignMembers n = foreign_members_part n
part_at Group-m.Planned1 n = planned_1_part n
part_at Group-m.Planned2 n = planned_2_part n
part_at Group-m.Planned3 n = planned_3_part n
part_at Group-m.Planned4 n = planned_4_part n
part_at Group-m.Planned5 n = planned_5_part n

unfoldable pub part_form : Part → Grammar
part_form p = part_at p.group p.place
