-- Written by tools/recognizers.py; edits are lost.
-- THE COURSES OF PLANS, and the forms that these plans read.
use Rattle.std.specs.Prelude.{ℕ, true, false, [], ◌∷◌, get_or}
use Rattle.syn_grammar.specs.Words.{colon, colons, equals, exclamation, semicolon, w_Self_type, w_as, w_async, w_auto, w_const, w_crate, w_default, w_enum, w_extern, w_fn, w_impl, w_let, w_macro, w_mod, w_mut, w_pub, w_safe, w_self, w_static, w_struct, w_trait, w_try, w_type, w_underscore, w_union, w_unsafe, w_use, w_where}
use Rattle.syn_grammar.specs.Tokens.{Paren, Brace, Str, Before_colons, Before_macro, Begins_item, Begins_in, Lone_word, at_word, at_literal, at_empty_group, ahead, at_generics, ◌or_else◌, ◌and_also◌, ◌but_not◌}
use Rattle.syn_grammar.specs.Table.{table, at_bang, at_block_like, at_brace, at_brace_macro, at_colon, at_colons, at_crate_macro, at_equals, at_exclamation, at_extern, at_for, at_item, at_less, at_macro_name, at_module_path, at_no_macro_item, at_no_trait_macro, at_paren, at_postfix_mark, at_semicolon, at_supertraits_end, at_visibility, at_where}
use Rattle.syn_grammar.specs.Rules as rules
use Rattle.syn_grammar.specs.Shape as shapes
use Rattle.syn_grammar.specs.Grammar.{name, word, name_or, literal_of, Grammar, empty, token, mark, ◌&◌, when◌then◌else◌, inside, raw, rule, one_of, shaped, vanishing, ordered}
use Rattle.syn_recognize.specs.Within.{first, second}
use Rattle.syn_recognize.specs.Ordered.{first_form, other_form}
use Rattle.syn_recognize.specs.Course.{Course, reads, turns, rooted, followed, rest, kept, lists, led, self_type}
use Rattle.syn_recognize.specs.declared.list.List.TheVariants as List-m
use Rattle.syn_recognize.specs.declared.plan.Stage.{Stage}
use Rattle.syn_recognize.specs.declared.plan.Series.{Series}
use Rattle.syn_recognize.specs.declared.plan.Series.TheVariants as Series-m
use Rattle.syn_recognize.specs.declared.plan.Planned.{Planned}
use Rattle.syn_recognize.specs.declared.plan.Planned.TheVariants as Planned-m

abbrev pub stage_1 : Course
stage_1 = rest ((token [] (word w_struct)) & ((token [] (name)) & ((rule rules.generics) & ((rule rules.structure_body) & empty))))

abbrev pub stage_2 : Course
stage_2 = rest ((token [] (word w_enum)) & ((token [] (name)) & ((rule rules.generics) & ((rule rules.where_clause) & ((inside Brace (rule rules.variants)) & empty)))))

abbrev pub stage_3 : Course
stage_3 = rest ((token [] (word w_union)) & ((token [] (name)) & ((rule rules.generics) & ((rule rules.where_clause) & ((rule rules.fields_named) & empty)))))

abbrev pub stage_4 : Course
stage_4 = kept ((mark false colon) & ((rule rules.type_bounds) & ((when at_where then (((token [] (word w_where)) & (rule rules.predicates)) & (when at_equals then ((mark false equals) & (rule rules.type)) else empty)) else (when at_equals then ((mark false equals) & ((rule rules.type) & (when at_where then ((token [] (word w_where)) & (rule rules.predicates)) else empty))) else empty)) & ((mark false semicolon) & empty))))

abbrev pub stage_5 : Course
stage_5 = rest (one_of ([]))

abbrev pub stage_6 : Course
stage_6 = rest ((mark false semicolon) & empty)

abbrev pub stage_7 : Course
stage_7 = reads (rule rules.type) (turns at_where (reads (rule rules.where_clause) stage_5) stage_6)

abbrev pub stage_8 : Course
stage_8 = reads (mark false equals) stage_7

abbrev pub stage_9 : Course
stage_9 = kept ((mark false semicolon) & empty)

abbrev pub stage_10 : Course
stage_10 = reads (mark false equals) (reads (rule rules.type) (reads (rule rules.where_clause) stage_6))

abbrev pub stage_11 : Course
stage_11 = turns at_where (reads (rule rules.where_clause) (turns at_equals stage_8 stage_9)) (turns at_equals stage_10 stage_9)

abbrev pub stage_12 : Course
stage_12 = reads (token [] (name)) (reads (rule rules.generics) (turns at_colon stage_4 stage_11))

abbrev pub stage_13 : Course
stage_13 = reads (token [] (word w_type)) stage_12

abbrev pub stage_14 : Course
stage_14 = rest ((mark false equals) & ((rule rules.whole_expression) & ((mark false semicolon) & empty)))

abbrev pub stage_15 : Course
stage_15 = reads (mark false colon) (reads (rule rules.type) (turns at_equals stage_14 stage_9))

abbrev pub stage_16 : Course
stage_16 = kept ((mark false equals) & ((rule rules.whole_expression) & ((mark false semicolon) & empty)))

abbrev pub stage_17 : Course
stage_17 = reads (when (at_word w_mut) then (token [] (word w_mut)) else empty) (reads (token [] (name)) (turns at_colon stage_15 stage_16))

abbrev pub stage_18 : Course
stage_18 = reads (token [] (word w_static)) stage_17

abbrev pub stage_19 : Course
stage_19 = rest ((when at_colons then (mark false colons) else empty) & ((rule rules.use_tree) & ((mark false semicolon) & empty)))

abbrev pub stage_20 : Course
stage_20 = reads (token [] (word w_use)) (turns at_brace (rooted stage_9 stage_6) stage_19)

abbrev pub stage_21 : Course
stage_21 = rest ((token [] (word w_mod)) & ((token [] (name_or (w_try ∷ []))) & (when at_semicolon then ((mark false semicolon) & empty) else ((inside Brace ((rule rules.inner_attributes) & (rule rules.items))) & empty))))

abbrev pub stage_22 : Course
stage_22 = rest ((token [] (word w_trait)) & ((token [] (name)) & ((rule rules.generics) & (when at_equals then ((mark false equals) & ((rule rules.alias_bounds) & ((rule rules.where_clause) & ((mark false semicolon) & empty)))) else ((vanishing false at_colon ((mark false colon) & (rule rules.supertraits))) & ((rule rules.where_clause) & ((inside Brace ((rule rules.inner_attributes) & (rule rules.trait_items))) & empty)))))))

abbrev pub stage_23 : Course
stage_23 = rest ((when (at_word w_auto) then (token [] (word w_auto)) else empty) & ((token [] (word w_trait)) & ((token [] (name)) & ((rule rules.generics) & ((vanishing false at_colon ((mark false colon) & (rule rules.supertraits))) & ((rule rules.where_clause) & ((inside Brace ((rule rules.inner_attributes) & (rule rules.trait_items))) & empty)))))))

abbrev pub stage_24 : Course
stage_24 = kept ((token [] (word w_macro)) & ((token [] (name)) & ((when at_paren then (raw Paren) else empty) & ((raw Brace) & empty))))

abbrev pub stage_25 : Course
stage_25 = turns at_semicolon stage_9 (rest ((rule rules.body) & empty))

abbrev pub stage_26 : Course
stage_26 = reads (rule rules.signature) stage_25

abbrev pub stage_27 : Course
stage_27 = rest ((token [] (word w_crate)) & ((token [] (name_or (w_self ∷ []))) & ((when (at_word w_as) then ((token [] (word w_as)) & (token [] (name_or (w_underscore ∷ [])))) else empty) & ((mark false semicolon) & empty))))

abbrev pub stage_28 : Course
stage_28 = reads (rule rules.signature_rest) stage_25

abbrev pub stage_29 : Course
stage_29 = reads (when (at_literal Str) then (token [] (literal_of (Str ∷ []))) else empty) stage_28

abbrev pub stage_30 : Course
stage_30 = reads (token [] (word w_extern)) (turns (at_word w_crate) stage_27 stage_29)

abbrev pub stage_31 : Course
stage_31 = turns ((at_word w_trait) or_else (at_word w_auto)) stage_23 (turns at_extern (reads (token [] (word w_extern)) stage_29) stage_28)

abbrev pub stage_32 : Course
stage_32 = reads (token [] (word w_unsafe)) (turns (at_word w_mod) stage_21 stage_31)

abbrev pub stage_33 : Course
stage_33 = kept ((token [] (word w_impl)) & ((when at_generics then (ordered (first_form List-m.Parameters) (other_form List-m.Parameters)) else empty) & (when at_exclamation then ((mark false exclamation) & (when at_brace then ((rule rules.impl_body) & empty) else ((rule rules.type) & ((rule rules.for_self_type) & ((rule rules.impl_body) & empty))))) else ((rule rules.type) & ((when at_for then (rule rules.for_self_type) else empty) & ((rule rules.impl_body) & empty))))))

abbrev pub stage_34 : Course
stage_34 = reads (when at_extern then (rule rules.abi) else empty) stage_28

abbrev pub stage_35 : Course
stage_35 = turns ((at_word w_trait) or_else (at_word w_auto)) stage_23 (turns (at_word w_impl) stage_33 stage_34)

abbrev pub stage_36 : Course
stage_36 = kept ((mark false equals) & ((rule rules.alias_bounds) & ((rule rules.where_clause) & ((mark false semicolon) & empty))))

abbrev pub stage_37 : Course
stage_37 = reads (rule rules.generics) (turns at_equals stage_36 (rest ((vanishing false at_colon ((mark false colon) & (rule rules.supertraits))) & ((rule rules.where_clause) & ((inside Brace ((rule rules.inner_attributes) & (rule rules.trait_items))) & empty)))))

abbrev pub stage_38 : Course
stage_38 = reads (token [] (word w_trait)) (reads (token [] (name)) stage_37)

abbrev pub stage_39 : Course
stage_39 = reads (when (at_word w_async) then (token [] (word w_async)) else empty) (reads (rule rules.unsafe_only) stage_34)

abbrev pub stage_40 : Course
stage_40 = kept ((ordered (first_form List-m.Parameters) (other_form List-m.Parameters)) & ((mark false colon) & ((rule rules.type) & ((when at_equals then ((mark false equals) & (rule rules.whole_expression)) else empty) & ((when at_where then ((token [] (word w_where)) & (rule rules.predicates)) else empty) & ((mark false semicolon) & empty))))))

abbrev pub stage_41 : Course
stage_41 = kept (((token [] (word w_where)) & (rule rules.predicates)) & ((mark false semicolon) & empty))

abbrev pub stage_42 : Course
stage_42 = turns at_semicolon stage_6 stage_41

abbrev pub stage_43 : Course
stage_43 = kept ((when at_where then ((token [] (word w_where)) & (rule rules.predicates)) else empty) & ((mark false semicolon) & empty))

abbrev pub stage_44 : Course
stage_44 = turns at_equals (reads (mark false equals) (reads (rule rules.whole_expression) stage_42)) stage_43

abbrev pub stage_45 : Course
stage_45 = turns at_less stage_40 (reads (mark false colon) (reads (rule rules.type) stage_44))

abbrev pub stage_46 : Course
stage_46 = reads (token [] (name_or (w_underscore ∷ []))) stage_45

abbrev pub stage_47 : Course
stage_47 = turns ((at_word w_async) or_else (at_extern or_else (at_word w_fn))) stage_39 stage_46

abbrev pub stage_48 : Course
stage_48 = turns (at_word w_trait) stage_38 (turns ((at_word w_auto) and_also (ahead Begins_item)) stage_23 (turns (at_word w_impl) stage_33 stage_47))

abbrev pub stage_49 : Course
stage_49 = reads (token [] (word w_const)) (turns (at_word w_unsafe) (reads (token [] (word w_unsafe)) stage_35) stage_48)

abbrev pub stage_50 : Course
stage_50 = kept (when (at_word w_impl) then ((token [] (word w_impl)) & (when (at_paren and_also (ahead Begins_in)) then ((inside Paren (rule rules.restriction)) & ((when (at_word w_const) then (token [] (word w_const)) else empty) & ((rule rules.bare_trait) & empty))) else (when (at_paren and_also (ahead Lone_word)) then ((rule rules.type) & ((when (at_word w_const) then (token [] (word w_const)) else empty) & ((rule rules.bare_trait) & empty))) else (one_of ([]))))) else (one_of ([])))

abbrev pub stage_51 : Course
stage_51 = turns at_extern stage_30 (turns (at_word w_unsafe) stage_32 (turns (at_word w_const) stage_49 stage_50))

abbrev pub stage_52 : Course
stage_52 = turns (at_word w_macro) stage_24 (turns ((at_word w_fn) or_else (at_word w_async)) stage_26 stage_51)

abbrev pub stage_53 : Course
stage_53 = turns (at_word w_mod) stage_21 (turns (at_word w_trait) stage_22 (turns ((at_word w_auto) and_also (ahead Begins_item)) stage_23 stage_52))

abbrev pub stage_54 : Course
stage_54 = turns (at_word w_type) stage_13 (turns (at_word w_static) stage_18 (turns (at_word w_use) stage_20 stage_53))

abbrev pub stage_55 : Course
stage_55 = turns (at_word w_struct) stage_1 (turns (at_word w_enum) stage_2 (turns ((at_word w_union) and_also (ahead Begins_item)) stage_3 stage_54))

abbrev pub stage_56 : Course
stage_56 = turns ((at_word w_trait) or_else (at_word w_auto)) stage_23 (turns (at_word w_impl) stage_5 stage_34)

abbrev pub stage_57 : Course
stage_57 = turns (at_word w_trait) stage_38 (turns ((at_word w_auto) and_also (ahead Begins_item)) stage_23 (turns (at_word w_impl) stage_5 stage_47))

abbrev pub stage_58 : Course
stage_58 = reads (token [] (word w_const)) (turns (at_word w_unsafe) (reads (token [] (word w_unsafe)) stage_56) stage_57)

abbrev pub stage_59 : Course
stage_59 = turns at_extern stage_30 (turns (at_word w_unsafe) stage_32 (turns (at_word w_const) stage_58 stage_50))

abbrev pub stage_60 : Course
stage_60 = turns (at_word w_macro) stage_24 (turns ((at_word w_fn) or_else (at_word w_async)) stage_26 stage_59)

abbrev pub stage_61 : Course
stage_61 = turns (at_word w_mod) stage_21 (turns (at_word w_trait) stage_22 (turns ((at_word w_auto) and_also (ahead Begins_item)) stage_23 stage_60))

abbrev pub stage_62 : Course
stage_62 = turns (at_word w_type) stage_13 (turns (at_word w_static) stage_18 (turns (at_word w_use) stage_20 stage_61))

abbrev pub stage_63 : Course
stage_63 = turns (at_word w_struct) stage_1 (turns (at_word w_enum) stage_2 (turns ((at_word w_union) and_also (ahead Begins_item)) stage_3 stage_62))

abbrev pub stage_64 : Course
stage_64 = rest ((inside Brace ((rule rules.inner_attributes) & (rule rules.foreign_items))) & empty)

abbrev pub stage_65 : Course
stage_65 = reads (when (at_literal Str) then (token [] (literal_of (Str ∷ []))) else empty) (turns at_brace stage_64 stage_28)

abbrev pub stage_66 : Course
stage_66 = rest ((rule rules.impl_body) & empty)

abbrev pub stage_67 : Course
stage_67 = self_type stage_66

abbrev pub stage_68 : Course
stage_68 = reads (rule rules.type_path) stage_67

abbrev pub stage_69 : Course
stage_69 = kept ((rule rules.type) & ((rule rules.for_self_type) & ((rule rules.impl_body) & empty)))

abbrev pub stage_70 : Course
stage_70 = turns at_brace stage_66 (turns at_module_path stage_68 stage_69)

abbrev pub stage_71 : Course
stage_71 = reads (rule rules.type_path) (turns at_for stage_67 stage_66)

abbrev pub stage_72 : Course
stage_72 = kept ((rule rules.for_self_type) & ((rule rules.impl_body) & empty))

abbrev pub stage_73 : Course
stage_73 = turns at_module_path stage_71 (reads (rule rules.type) (turns at_for stage_72 stage_66))

abbrev pub stage_74 : Course
stage_74 = lists (led (turns at_exclamation (reads (mark false exclamation) stage_70) stage_73))

abbrev pub stage_75 : Course
stage_75 = reads (token [] (word w_impl)) stage_74

abbrev pub stage_76 : Course
stage_76 = turns (at_word w_impl) stage_75 (turns at_extern (reads (token [] (word w_extern)) stage_65) stage_28)

abbrev pub stage_77 : Course
stage_77 = turns (at_word w_mod) stage_21 (turns ((at_word w_trait) or_else (at_word w_auto)) stage_23 stage_76)

abbrev pub stage_78 : Course
stage_78 = turns ((at_word w_trait) or_else (at_word w_auto)) stage_23 (turns (at_word w_impl) stage_75 stage_34)

abbrev pub stage_79 : Course
stage_79 = turns (at_word w_trait) stage_38 (turns ((at_word w_auto) and_also (ahead Begins_item)) stage_23 (turns (at_word w_impl) stage_75 stage_47))

abbrev pub stage_80 : Course
stage_80 = reads (token [] (word w_const)) (turns (at_word w_unsafe) (reads (token [] (word w_unsafe)) stage_78) stage_79)

abbrev pub stage_81 : Course
stage_81 = kept ((when (at_word w_const) then (token [] (word w_const)) else empty) & ((rule rules.bare_trait) & empty))

abbrev pub stage_82 : Course
stage_82 = turns at_for stage_72 (turns at_supertraits_end stage_66 stage_81)

abbrev pub stage_83 : Course
stage_83 = turns (at_paren and_also (ahead Begins_in)) (kept ((inside Paren (rule rules.restriction)) & ((when (at_word w_const) then (token [] (word w_const)) else empty) & ((rule rules.bare_trait) & empty)))) (turns (at_paren and_also (ahead Lone_word)) (reads (rule rules.type) stage_82) stage_74)

abbrev pub stage_84 : Course
stage_84 = rest (when at_no_macro_item then (one_of ([])) else ((rule rules.module_path) & ((when at_bang then (mark false exclamation) else (one_of ([]))) & ((when at_macro_name then (token [] (name_or (w_try ∷ []))) else empty) & ((rule rules.macro_end) & empty)))))

abbrev pub stage_85 : Course
stage_85 = reads (when (at_word w_const) then (token [] (word w_const)) else empty) (reads (when (at_word w_unsafe) then (token [] (word w_unsafe)) else empty) stage_75)

abbrev pub stage_86 : Course
stage_86 = turns (at_word w_default) (turns (ahead Before_macro) stage_84 (reads (token [] (word w_default)) stage_85)) stage_84

abbrev pub stage_87 : Course
stage_87 = turns (at_word w_const) stage_80 (turns (at_word w_impl) (reads (token [] (word w_impl)) stage_83) stage_86)

abbrev pub stage_88 : Course
stage_88 = turns at_extern (reads (token [] (word w_extern)) (turns (at_word w_crate) stage_27 stage_65)) (turns (at_word w_unsafe) (reads (token [] (word w_unsafe)) stage_77) stage_87)

abbrev pub stage_89 : Course
stage_89 = turns (at_word w_macro) stage_24 (turns ((at_word w_fn) or_else (at_word w_async)) stage_26 stage_88)

abbrev pub stage_90 : Course
stage_90 = turns (at_word w_mod) stage_21 (turns (at_word w_trait) stage_22 (turns ((at_word w_auto) and_also (ahead Begins_item)) stage_23 stage_89))

abbrev pub stage_91 : Course
stage_91 = turns (at_word w_type) stage_13 (turns (at_word w_static) stage_18 (turns (at_word w_use) stage_20 stage_90))

abbrev pub stage_92 : Course
stage_92 = turns (at_word w_struct) stage_1 (turns (at_word w_enum) stage_2 (turns ((at_word w_union) and_also (ahead Begins_item)) stage_3 stage_91))

abbrev pub stage_93 : Course
stage_93 = turns (at_word w_pub) (reads (rule rules.visibility) stage_55) (turns at_empty_group (reads (rule rules.visibility) stage_63) stage_92)

abbrev pub stage_94 : Course
stage_94 = kept ((rule rules.visibility) & ((when (at_word w_default) then (token [] (word w_default)) else empty) & (when (at_word w_type) then ((token [] (word w_type)) & ((token [] (name)) & ((rule rules.generics) & ((vanishing false at_colon ((mark false colon) & (rule rules.type_bounds))) & ((when at_equals then ((mark false equals) & (rule rules.type)) else empty) & ((rule rules.where_clause) & ((mark false semicolon) & empty))))))) else (when (at_word w_const) then ((token [] (word w_const)) & (when ((at_word w_async) or_else ((at_word w_unsafe) or_else (at_extern or_else (at_word w_fn)))) then ((when (at_word w_async) then (token [] (word w_async)) else empty) & ((rule rules.unsafe_only) & ((when at_extern then (rule rules.abi) else empty) & ((rule rules.signature_rest) & (when at_semicolon then ((mark false semicolon) & empty) else ((rule rules.body) & empty)))))) else ((token [] (name_or (w_underscore ∷ []))) & ((when at_less then (ordered (first_form List-m.Parameters) (other_form List-m.Parameters)) else empty) & ((mark false colon) & ((rule rules.type) & ((when at_equals then ((mark false equals) & (rule rules.whole_expression)) else empty) & ((when at_where then ((token [] (word w_where)) & (rule rules.predicates)) else empty) & ((mark false semicolon) & empty))))))))) else ((rule rules.signature) & (when at_semicolon then ((mark false semicolon) & empty) else ((rule rules.body) & empty)))))))

abbrev pub stage_95 : Course
stage_95 = kept ((rule rules.visibility) & (when (at_word w_default) then ((token [] (word w_default)) & (when (at_word w_type) then ((token [] (word w_type)) & ((token [] (name)) & ((rule rules.generics) & ((vanishing false at_colon ((mark false colon) & (rule rules.type_bounds))) & ((when at_equals then ((mark false equals) & (rule rules.type)) else empty) & ((rule rules.where_clause) & ((mark false semicolon) & empty))))))) else (when (at_word w_const) then ((token [] (word w_const)) & (when ((at_word w_async) or_else ((at_word w_unsafe) or_else (at_extern or_else (at_word w_fn)))) then ((when (at_word w_async) then (token [] (word w_async)) else empty) & ((rule rules.unsafe_only) & ((when at_extern then (rule rules.abi) else empty) & ((rule rules.signature_rest) & (when at_semicolon then ((mark false semicolon) & empty) else ((rule rules.body) & empty)))))) else ((token [] (name_or (w_underscore ∷ []))) & ((when at_less then (ordered (first_form List-m.Parameters) (other_form List-m.Parameters)) else empty) & ((mark false colon) & ((rule rules.type) & ((when at_equals then ((mark false equals) & (rule rules.whole_expression)) else empty) & ((when at_where then ((token [] (word w_where)) & (rule rules.predicates)) else empty) & ((mark false semicolon) & empty))))))))) else ((rule rules.signature) & (when at_semicolon then ((mark false semicolon) & empty) else ((rule rules.body) & empty)))))) else ((token [] (word w_const)) & ((token [] (name_or (w_underscore ∷ []))) & (when at_less then ((ordered (first_form List-m.Parameters) (other_form List-m.Parameters)) & ((mark false colon) & ((rule rules.type) & ((when at_equals then ((mark false equals) & (rule rules.whole_expression)) else empty) & ((when at_where then ((token [] (word w_where)) & (rule rules.predicates)) else empty) & ((mark false semicolon) & empty)))))) else ((mark false colon) & ((rule rules.type) & ((when at_equals then ((mark false equals) & (rule rules.whole_expression)) else empty) & (((token [] (word w_where)) & (rule rules.predicates)) & ((mark false semicolon) & empty))))))))))

abbrev pub stage_96 : Course
stage_96 = kept ((token [] (word w_default)) & (when (at_word w_type) then ((token [] (word w_type)) & ((token [] (name)) & ((rule rules.generics) & ((vanishing false at_colon ((mark false colon) & (rule rules.type_bounds))) & ((when at_equals then ((mark false equals) & (rule rules.type)) else empty) & ((rule rules.where_clause) & ((mark false semicolon) & empty))))))) else (when (at_word w_const) then ((token [] (word w_const)) & (when ((at_word w_async) or_else ((at_word w_unsafe) or_else (at_extern or_else (at_word w_fn)))) then ((when (at_word w_async) then (token [] (word w_async)) else empty) & ((rule rules.unsafe_only) & ((when at_extern then (rule rules.abi) else empty) & ((rule rules.signature_rest) & (when at_semicolon then ((mark false semicolon) & empty) else ((rule rules.body) & empty)))))) else ((token [] (name_or (w_underscore ∷ []))) & ((when at_less then (ordered (first_form List-m.Parameters) (other_form List-m.Parameters)) else empty) & ((mark false colon) & ((rule rules.type) & ((when at_equals then ((mark false equals) & (rule rules.whole_expression)) else empty) & ((when at_where then ((token [] (word w_where)) & (rule rules.predicates)) else empty) & ((mark false semicolon) & empty))))))))) else ((rule rules.signature) & (when at_semicolon then ((mark false semicolon) & empty) else ((rule rules.body) & empty))))))

abbrev pub stage_97 : Course
stage_97 = rest ((token [] (word w_type)) & ((token [] (name)) & ((rule rules.generics) & ((vanishing false at_colon ((mark false colon) & (rule rules.type_bounds))) & ((when at_equals then ((mark false equals) & (rule rules.type)) else empty) & ((rule rules.where_clause) & ((mark false semicolon) & empty)))))))

abbrev pub stage_98 : Course
stage_98 = reads (when at_equals then ((mark false equals) & (rule rules.whole_expression)) else empty) stage_42

abbrev pub stage_99 : Course
stage_99 = turns at_less stage_40 (reads (mark false colon) (reads (rule rules.type) stage_98))

abbrev pub stage_100 : Course
stage_100 = turns ((at_word w_async) or_else ((at_word w_unsafe) or_else (at_extern or_else (at_word w_fn)))) (rest ((when (at_word w_async) then (token [] (word w_async)) else empty) & ((rule rules.unsafe_only) & ((when at_extern then (rule rules.abi) else empty) & ((rule rules.signature_rest) & (when at_semicolon then ((mark false semicolon) & empty) else ((rule rules.body) & empty))))))) (reads (token [] (name_or (w_underscore ∷ []))) stage_99)

abbrev pub stage_101 : Course
stage_101 = rest (when ((at_word w_async) or_else ((at_word w_unsafe) or_else (at_extern or_else (at_word w_fn)))) then ((rule rules.signature) & (when at_semicolon then ((mark false semicolon) & empty) else ((rule rules.body) & empty))) else (when at_no_trait_macro then (one_of ([])) else ((rule rules.module_path) & ((when at_bang then (mark false exclamation) else (one_of ([]))) & ((rule rules.macro_end) & empty)))))

abbrev pub stage_102 : Course
stage_102 = turns (at_word w_type) stage_97 (turns (at_word w_const) (reads (token [] (word w_const)) stage_100) stage_101)

abbrev pub stage_103 : Course
stage_103 = turns (at_word w_pub) stage_94 (turns at_empty_group stage_95 (turns (at_word w_default) stage_96 stage_102))

abbrev pub stage_104 : Course
stage_104 = rest ((mark false equals) & ((rule rules.type) & ((rule rules.where_clause) & ((mark false semicolon) & empty))))

abbrev pub stage_105 : Course
stage_105 = turns at_equals stage_104 (kept (when at_colon then ((mark false colon) & ((rule rules.type_bounds) & ((when at_equals then ((mark false equals) & (rule rules.type)) else empty) & ((when at_where then ((token [] (word w_where)) & (rule rules.predicates)) else empty) & ((mark false semicolon) & empty))))) else ((when at_where then ((token [] (word w_where)) & (rule rules.predicates)) else empty) & ((mark false semicolon) & empty))))

abbrev pub stage_106 : Course
stage_106 = reads (token [] (word w_type)) (reads (token [] (name)) (reads (rule rules.generics) stage_105))

abbrev pub stage_107 : Course
stage_107 = turns ((at_word w_async) or_else ((at_word w_unsafe) or_else (at_extern or_else (at_word w_fn)))) stage_39 stage_46

abbrev pub stage_108 : Course
stage_108 = reads (token [] (word w_const)) stage_107

abbrev pub stage_109 : Course
stage_109 = turns (at_word w_type) stage_106 (turns (at_word w_const) stage_108 stage_26)

abbrev pub stage_110 : Course
stage_110 = reads (rule rules.visibility) (reads (when (at_word w_default) then (token [] (word w_default)) else empty) stage_109)

abbrev pub stage_111 : Course
stage_111 = rest (when at_no_macro_item then (one_of ([])) else ((rule rules.module_path) & ((when at_bang then (mark false exclamation) else (one_of ([]))) & ((rule rules.macro_end) & empty))))

abbrev pub stage_112 : Course
stage_112 = turns ((at_word w_async) or_else ((at_word w_unsafe) or_else (at_extern or_else (at_word w_fn)))) stage_26 stage_111

abbrev pub stage_113 : Course
stage_113 = turns (at_word w_default) (turns (ahead Before_macro) stage_111 (reads (token [] (word w_default)) stage_109)) (turns (at_word w_type) stage_106 (turns (at_word w_const) stage_108 stage_112))

abbrev pub stage_114 : Course
stage_114 = reads (mark false colon) (reads (rule rules.type) (turns at_semicolon stage_6 stage_16))

abbrev pub stage_115 : Course
stage_115 = reads (when (at_word w_mut) then (token [] (word w_mut)) else empty) (reads (token [] (name)) stage_114)

abbrev pub stage_116 : Course
stage_116 = reads (token [] (word w_static)) stage_115

abbrev pub stage_117 : Course
stage_117 = turns at_semicolon stage_6 (kept ((rule rules.body) & empty))

abbrev pub stage_118 : Course
stage_118 = reads (when at_extern then (rule rules.abi) else empty) (reads (rule rules.signature_rest) stage_117)

abbrev pub stage_119 : Course
stage_119 = reads (rule rules.safe_or_unsafe) (turns (at_word w_static) stage_116 stage_118)

abbrev pub stage_120 : Course
stage_120 = kept ((mark false equals) & ((rule rules.type) & ((mark false semicolon) & empty)))

abbrev pub stage_121 : Course
stage_121 = turns at_semicolon stage_6 (kept ((mark false equals) & ((rule rules.type) & ((when at_where then ((token [] (word w_where)) & (rule rules.predicates)) else empty) & ((mark false semicolon) & empty)))))

abbrev pub stage_122 : Course
stage_122 = turns at_where (reads (rule rules.where_clause) (turns at_semicolon stage_6 stage_120)) stage_121

abbrev pub stage_123 : Course
stage_123 = reads (token [] (name)) (reads (rule rules.generics) (turns at_colon stage_4 stage_122))

abbrev pub stage_124 : Course
stage_124 = reads (token [] (word w_type)) stage_123

abbrev pub stage_125 : Course
stage_125 = reads (rule rules.foreign_signature) stage_117

abbrev pub stage_126 : Course
stage_126 = turns ((at_word w_const) or_else ((at_word w_async) or_else (at_extern or_else (at_word w_fn)))) stage_125 stage_5

abbrev pub stage_127 : Course
stage_127 = turns (at_word w_type) stage_124 (turns (at_word w_static) stage_116 (turns (at_word w_unsafe) stage_119 stage_126))

abbrev pub stage_128 : Course
stage_128 = rest (when (at_word w_Self_type) then (one_of ([])) else ((rule rules.module_path) & ((when at_bang then (mark false exclamation) else (one_of ([]))) & ((rule rules.macro_end) & empty))))

abbrev pub stage_129 : Course
stage_129 = turns ((at_word w_const) or_else ((at_word w_async) or_else (at_extern or_else (at_word w_fn)))) stage_125 stage_128

abbrev pub stage_130 : Course
stage_130 = turns (at_word w_type) stage_124 (turns (at_word w_static) stage_116 (turns (at_word w_unsafe) stage_119 stage_129))

abbrev pub stage_131 : Course
stage_131 = turns (at_word w_safe) (turns (ahead Before_macro) stage_128 (turns (ahead Before_colons) stage_128 stage_119)) stage_130

abbrev pub stage_132 : Course
stage_132 = turns at_visibility (reads (rule rules.visibility) (turns (at_word w_safe) stage_119 stage_127)) stage_131

abbrev pub stage_133 : Course
stage_133 = turns at_item (followed stage_93 (rule rules.statements)) (rest ((rule rules.statement_rest) & empty))

abbrev pub stage_134 : Course
stage_134 = reads (token [] (word w_use)) (turns at_brace (rooted stage_5 stage_6) stage_19)

abbrev pub stage_135 : Course
stage_135 = reads (rule rules.generics) (turns at_where (reads (rule rules.where_clause) stage_8) stage_10)

abbrev pub stage_136 : Course
stage_136 = turns at_module_path stage_71 (rest ((rule rules.type) & ((rule rules.impl_body) & empty)))

abbrev pub stage_137 : Course
stage_137 = turns at_exclamation (reads (mark false exclamation) (turns at_brace stage_66 stage_68)) stage_136

abbrev pub stage_138 : Course
stage_138 = reads (when (at_word w_unsafe) then (token [] (word w_unsafe)) else empty) (reads (token [] (word w_impl)) (lists (led stage_137)))

abbrev pub series_1_course : ℕ → Course
series_1_course n = get_or (stage_1 ∷ stage_2 ∷ stage_3 ∷ stage_4 ∷ stage_5 ∷ stage_6 ∷ stage_7 ∷ stage_8 ∷ stage_9 ∷ stage_10 ∷ stage_11 ∷ stage_12 ∷ stage_13 ∷ stage_14 ∷ stage_15 ∷ stage_16 ∷ stage_17 ∷ stage_18 ∷ stage_19 ∷ stage_20 ∷ stage_21 ∷ stage_22 ∷ []) n stage_23

abbrev pub series_2_course : ℕ → Course
series_2_course n = get_or (stage_24 ∷ stage_25 ∷ stage_26 ∷ stage_27 ∷ stage_28 ∷ stage_29 ∷ stage_30 ∷ stage_31 ∷ stage_32 ∷ stage_33 ∷ stage_34 ∷ stage_35 ∷ stage_36 ∷ stage_37 ∷ stage_38 ∷ stage_39 ∷ stage_40 ∷ stage_41 ∷ stage_42 ∷ stage_43 ∷ stage_44 ∷ stage_45 ∷ []) n stage_46

abbrev pub series_3_course : ℕ → Course
series_3_course n = get_or (stage_47 ∷ stage_48 ∷ stage_49 ∷ stage_50 ∷ stage_51 ∷ stage_52 ∷ stage_53 ∷ stage_54 ∷ stage_55 ∷ stage_56 ∷ stage_57 ∷ stage_58 ∷ stage_59 ∷ stage_60 ∷ stage_61 ∷ stage_62 ∷ stage_63 ∷ stage_64 ∷ stage_65 ∷ stage_66 ∷ stage_67 ∷ stage_68 ∷ []) n stage_69

abbrev pub series_4_course : ℕ → Course
series_4_course n = get_or (stage_70 ∷ stage_71 ∷ stage_72 ∷ stage_73 ∷ stage_74 ∷ stage_75 ∷ stage_76 ∷ stage_77 ∷ stage_78 ∷ stage_79 ∷ stage_80 ∷ stage_81 ∷ stage_82 ∷ stage_83 ∷ stage_84 ∷ stage_85 ∷ stage_86 ∷ stage_87 ∷ stage_88 ∷ stage_89 ∷ stage_90 ∷ stage_91 ∷ []) n stage_92

abbrev pub series_5_course : ℕ → Course
series_5_course n = get_or (stage_93 ∷ stage_94 ∷ stage_95 ∷ stage_96 ∷ stage_97 ∷ stage_98 ∷ stage_99 ∷ stage_100 ∷ stage_101 ∷ stage_102 ∷ stage_103 ∷ stage_104 ∷ stage_105 ∷ stage_106 ∷ stage_107 ∷ stage_108 ∷ stage_109 ∷ stage_110 ∷ stage_111 ∷ stage_112 ∷ stage_113 ∷ stage_114 ∷ []) n stage_115

abbrev pub series_6_course : ℕ → Course
series_6_course n = get_or (stage_116 ∷ stage_117 ∷ stage_118 ∷ stage_119 ∷ stage_120 ∷ stage_121 ∷ stage_122 ∷ stage_123 ∷ stage_124 ∷ stage_125 ∷ stage_126 ∷ stage_127 ∷ stage_128 ∷ stage_129 ∷ stage_130 ∷ stage_131 ∷ stage_132 ∷ stage_133 ∷ stage_134 ∷ stage_135 ∷ stage_136 ∷ stage_137 ∷ []) n stage_138

abbrev pub course_at : Series → ℕ → Course
course_at Series-m.Series1 n = series_1_course n
course_at Series-m.Series2 n = series_2_course n
course_at Series-m.Series3 n = series_3_course n
course_at Series-m.Series4 n = series_4_course n
course_at Series-m.Series5 n = series_5_course n
course_at Series-m.Series6 n = series_6_course n

unfoldable pub stage_course : Stage → Course
stage_course s = course_at s.series s.place

abbrev pub planned_course : Planned → Course
planned_course Planned-m.Item = reads (rule rules.attributes) stage_93
planned_course Planned-m.TraitItem = reads (rule rules.attributes) stage_103
planned_course Planned-m.ImplItem = reads (rule rules.attributes) (turns at_visibility stage_110 stage_113)
planned_course Planned-m.ForeignItem = reads (rule rules.attributes) stage_132
planned_course Planned-m.CrateMacro = rest (when at_no_macro_item then ((rule rules.module_path) & ((when at_bang then (mark false exclamation) else (one_of ([]))) & (when at_brace then ((raw Brace) & (when at_postfix_mark then (one_of ([])) else ((rule rules.statement_end) & empty))) else (one_of ([]))))) else ((rule rules.module_path) & ((when at_bang then (mark false exclamation) else (one_of ([]))) & (when at_brace then ((raw Brace) & (when at_postfix_mark then empty else ((rule rules.statement_end) & empty))) else ((when at_macro_name then (token [] (name_or (w_try ∷ []))) else empty) & ((rule rules.macro_end) & (when at_postfix_mark then empty else (one_of ([])))))))))
planned_course Planned-m.DeriveInput = rest ((rule rules.attributes) & ((rule rules.visibility) & (when (at_word w_struct) then ((token [] (word w_struct)) & ((token [] (name)) & ((rule rules.generics) & ((rule rules.structure_body) & empty)))) else (when (at_word w_enum) then ((token [] (word w_enum)) & ((token [] (name)) & ((rule rules.generics) & ((rule rules.where_clause) & ((inside Brace (rule rules.variants)) & empty))))) else ((token [] (word w_union)) & ((token [] (name)) & ((rule rules.generics) & ((rule rules.where_clause) & ((rule rules.fields_named) & empty)))))))))
planned_course Planned-m.Statements = reads (rule rules.attributes) stage_133
planned_course Planned-m.Statement = reads (rule rules.attributes) (turns at_item stage_93 (rest ((when at_crate_macro then (rule rules.crate_macro) else (when at_brace_macro then (shaped (shapes.said_macro) ((shaped (shapes.operand shapes.Macro) (rule rules.macro_invocation)) & (rule rules.statement_end))) else (when (at_word w_let) then (shaped (shapes.a_local) (rule rules.local)) else (when at_block_like then (shaped (shapes.said) ((rule rules.block_like) & (rule rules.statement_end))) else (shaped (shapes.said) ((rule rules.whole_expression) & (mark false semicolon))))))) & empty)))
planned_course Planned-m.UseItemRest = reads (rule rules.visibility) stage_134
planned_course Planned-m.TypeItemRest = reads (rule rules.visibility) (reads (token [] (word w_type)) (reads (token [] (name)) stage_135))
planned_course Planned-m.ImplDefinitionRest = reads (when (at_word w_default) then (token [] (word w_default)) else empty) (reads (when (at_word w_const) then (token [] (word w_const)) else empty) stage_138)

-- the form that is read by a plan
abbrev pub planned_form : Planned → Grammar
planned_form Planned-m.Item = table rules.item
planned_form Planned-m.TraitItem = table rules.trait_item
planned_form Planned-m.ImplItem = table rules.impl_item
planned_form Planned-m.ForeignItem = table rules.foreign_item
planned_form Planned-m.CrateMacro = table rules.crate_macro
planned_form Planned-m.DeriveInput = table rules.derive_input
planned_form Planned-m.Statements = first (second (first (second (table rules.statements))))
planned_form Planned-m.Statement = table rules.statement
planned_form Planned-m.UseItemRest = table rules.use_item_rest
planned_form Planned-m.TypeItemRest = table rules.type_item_rest
planned_form Planned-m.ImplDefinitionRest = table rules.impl_definition_rest
