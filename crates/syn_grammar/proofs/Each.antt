-- Written by tools/grammar.py from specs/Table.antt; edits are lost.
-- What each rule reads is what its form reads.
use Rattle.std.specs.Prelude.{◌≡◌}
use Rattle.syn_grammar.specs.Tokens.{Stream}
use Rattle.syn_grammar.specs.Rules.{attributes, inner_attributes, meta, unsafe_path, unsafe_word, meta_value, module_path, module_words, visibility, restriction, type_path, type_words, more_type_words, type_arguments, return_type, generic_arguments, generic_argument, qualified_path, path_as_type, type, types, constant, generics, lifetime_parameter, lifetimes, parameter_bounds, bound, trait_bound, bound_lifetimes, lifetime_parameters, where_clause, predicates, predicate, predicate_bounds, fields_named, named_fields, named_field, nameless_fields, unnamed_field, unnamed_fields, fields_unnamed, variant, variants, structure, structure_rest, structure_body, enumeration, enumeration_rest, union_item, union_item_rest, derive_input, expression_path, expression_words, qualified_expression_path, path_as_expression, macro_invocation, pattern, patterns, expressions, array_content, block, body, plain_body, no_inner_attributes, primary, literal_fields, literal_field, block_like, if_expression, loop_expression, postfixes, member, unary, casts, cast, products, product, sums, sum, shifts, shift, bit_ands, bit_and, bit_xors, bit_xor, bit_ors, bit_or, compared, comparison, conjunctions, conjunction, disjunctions, disjunction, assigned, whole_expression, primary_head, unary_head, cast_head, products_head, product_head, sums_head, sum_head, shifts_head, shift_head, bit_ands_head, bit_and_head, bit_xors_head, bit_xor_head, bit_ors_head, bit_or_head, compared_head, comparison_head, conjunctions_head, conjunction_head, disjunctions_head, disjunction_head, assigned_head, whole_expression_head, operand_rest, statements, statement_rest, after_block, after_expression, statement, crate_macro, brace_macro, crate_macro_item, statement_end, local, no_attributes, receiver, receiver_rest, argument, inputs, later_inputs, input_rest, variadic, abi, unsafe_only, safe_or_unsafe, signature, signature_rest, function, function_rest, const_item, const_item_rest, static_mutability, static_item, static_item_rest, extern_crate, extern_crate_rest, use_tree, use_trees, root_mark, rooted_tree, rooted_trees, use_item, use_item_rest, rooted_use, module_item, module_item_rest, alias_bounds, type_bounds, alias, trait_alias, trait_alias_rest, type_item, type_item_rest, macro_end, macro_item, macro_item_rest, macro_as_item, macro_as_item_rest, bodiless_function, untyped_static, valueless_static, odd_const, macro_definition, odd_type, supertraits, bare_trait, trait_definition, trait_definition_rest, const_alias, restricted_trait, self_type, for_self_type, impl_body, impl_definition, impl_definition_rest, odd_impl, visible_const_impl, const_trait, const_impl, odd_const_impl, foreign_module, foreign_module_rest, member_macro, bare_trait_function, bare_trait_type, trait_const, trait_function, trait_type, trait_macro, trait_macro_as_item, any_const, marked_member, odd_trait_const, kept_trait_item, trait_item, trait_items, impl_const, impl_function, impl_type, impl_macro, impl_macro_as_item, bodiless_impl_function, odd_impl_const, odd_impl_type, kept_impl_item, impl_item, impl_items, foreign_signature, bare_foreign_static, foreign_function, foreign_static, foreign_type, foreign_macro, foreign_macro_as_item, foreign_body, foreign_value, odd_foreign_type, kept_foreign_item, foreign_item, foreign_items, kept_item_rest, kept_item, kept_in_block, item_rest, item, items, file}
use Rattle.syn_grammar.specs.Grammar.{Node}
use Rattle.syn_grammar.specs.Table.{table}
use Rattle.syn_grammar.specs.Run.{wrap, parse_rule, parse_form}
use Rattle.syn_grammar.proofs.Run.{parse_rule_is}

pub attributes_is : (ts : Stream) → parse_rule attributes ts ≡ wrap Node (parse_form (table attributes) ts)
attributes_is = parse_rule_is attributes

pub inner_attributes_is : (ts : Stream) → parse_rule inner_attributes ts ≡ wrap Node (parse_form (table inner_attributes) ts)
inner_attributes_is = parse_rule_is inner_attributes

pub meta_is : (ts : Stream) → parse_rule meta ts ≡ wrap Node (parse_form (table meta) ts)
meta_is = parse_rule_is meta

pub unsafe_path_is : (ts : Stream) → parse_rule unsafe_path ts ≡ wrap Node (parse_form (table unsafe_path) ts)
unsafe_path_is = parse_rule_is unsafe_path

pub unsafe_word_is : (ts : Stream) → parse_rule unsafe_word ts ≡ wrap Node (parse_form (table unsafe_word) ts)
unsafe_word_is = parse_rule_is unsafe_word

pub meta_value_is : (ts : Stream) → parse_rule meta_value ts ≡ wrap Node (parse_form (table meta_value) ts)
meta_value_is = parse_rule_is meta_value

pub module_path_is : (ts : Stream) → parse_rule module_path ts ≡ wrap Node (parse_form (table module_path) ts)
module_path_is = parse_rule_is module_path

pub module_words_is : (ts : Stream) → parse_rule module_words ts ≡ wrap Node (parse_form (table module_words) ts)
module_words_is = parse_rule_is module_words

pub visibility_is : (ts : Stream) → parse_rule visibility ts ≡ wrap Node (parse_form (table visibility) ts)
visibility_is = parse_rule_is visibility

pub restriction_is : (ts : Stream) → parse_rule restriction ts ≡ wrap Node (parse_form (table restriction) ts)
restriction_is = parse_rule_is restriction

pub type_path_is : (ts : Stream) → parse_rule type_path ts ≡ wrap Node (parse_form (table type_path) ts)
type_path_is = parse_rule_is type_path

pub type_words_is : (ts : Stream) → parse_rule type_words ts ≡ wrap Node (parse_form (table type_words) ts)
type_words_is = parse_rule_is type_words

pub more_type_words_is : (ts : Stream) → parse_rule more_type_words ts ≡ wrap Node (parse_form (table more_type_words) ts)
more_type_words_is = parse_rule_is more_type_words

pub type_arguments_is : (ts : Stream) → parse_rule type_arguments ts ≡ wrap Node (parse_form (table type_arguments) ts)
type_arguments_is = parse_rule_is type_arguments

pub return_type_is : (ts : Stream) → parse_rule return_type ts ≡ wrap Node (parse_form (table return_type) ts)
return_type_is = parse_rule_is return_type

pub generic_arguments_is : (ts : Stream) → parse_rule generic_arguments ts ≡ wrap Node (parse_form (table generic_arguments) ts)
generic_arguments_is = parse_rule_is generic_arguments

pub generic_argument_is : (ts : Stream) → parse_rule generic_argument ts ≡ wrap Node (parse_form (table generic_argument) ts)
generic_argument_is = parse_rule_is generic_argument

pub qualified_path_is : (ts : Stream) → parse_rule qualified_path ts ≡ wrap Node (parse_form (table qualified_path) ts)
qualified_path_is = parse_rule_is qualified_path

pub path_as_type_is : (ts : Stream) → parse_rule path_as_type ts ≡ wrap Node (parse_form (table path_as_type) ts)
path_as_type_is = parse_rule_is path_as_type

pub type_is : (ts : Stream) → parse_rule type ts ≡ wrap Node (parse_form (table type) ts)
type_is = parse_rule_is type

pub types_is : (ts : Stream) → parse_rule types ts ≡ wrap Node (parse_form (table types) ts)
types_is = parse_rule_is types

pub constant_is : (ts : Stream) → parse_rule constant ts ≡ wrap Node (parse_form (table constant) ts)
constant_is = parse_rule_is constant

pub generics_is : (ts : Stream) → parse_rule generics ts ≡ wrap Node (parse_form (table generics) ts)
generics_is = parse_rule_is generics

pub lifetime_parameter_is : (ts : Stream) → parse_rule lifetime_parameter ts ≡ wrap Node (parse_form (table lifetime_parameter) ts)
lifetime_parameter_is = parse_rule_is lifetime_parameter

pub lifetimes_is : (ts : Stream) → parse_rule lifetimes ts ≡ wrap Node (parse_form (table lifetimes) ts)
lifetimes_is = parse_rule_is lifetimes

pub parameter_bounds_is : (ts : Stream) → parse_rule parameter_bounds ts ≡ wrap Node (parse_form (table parameter_bounds) ts)
parameter_bounds_is = parse_rule_is parameter_bounds

pub bound_is : (ts : Stream) → parse_rule bound ts ≡ wrap Node (parse_form (table bound) ts)
bound_is = parse_rule_is bound

pub trait_bound_is : (ts : Stream) → parse_rule trait_bound ts ≡ wrap Node (parse_form (table trait_bound) ts)
trait_bound_is = parse_rule_is trait_bound

pub bound_lifetimes_is : (ts : Stream) → parse_rule bound_lifetimes ts ≡ wrap Node (parse_form (table bound_lifetimes) ts)
bound_lifetimes_is = parse_rule_is bound_lifetimes

pub lifetime_parameters_is : (ts : Stream) → parse_rule lifetime_parameters ts ≡ wrap Node (parse_form (table lifetime_parameters) ts)
lifetime_parameters_is = parse_rule_is lifetime_parameters

pub where_clause_is : (ts : Stream) → parse_rule where_clause ts ≡ wrap Node (parse_form (table where_clause) ts)
where_clause_is = parse_rule_is where_clause

pub predicates_is : (ts : Stream) → parse_rule predicates ts ≡ wrap Node (parse_form (table predicates) ts)
predicates_is = parse_rule_is predicates

pub predicate_is : (ts : Stream) → parse_rule predicate ts ≡ wrap Node (parse_form (table predicate) ts)
predicate_is = parse_rule_is predicate

pub predicate_bounds_is : (ts : Stream) → parse_rule predicate_bounds ts ≡ wrap Node (parse_form (table predicate_bounds) ts)
predicate_bounds_is = parse_rule_is predicate_bounds

pub fields_named_is : (ts : Stream) → parse_rule fields_named ts ≡ wrap Node (parse_form (table fields_named) ts)
fields_named_is = parse_rule_is fields_named

pub named_fields_is : (ts : Stream) → parse_rule named_fields ts ≡ wrap Node (parse_form (table named_fields) ts)
named_fields_is = parse_rule_is named_fields

pub named_field_is : (ts : Stream) → parse_rule named_field ts ≡ wrap Node (parse_form (table named_field) ts)
named_field_is = parse_rule_is named_field

pub nameless_fields_is : (ts : Stream) → parse_rule nameless_fields ts ≡ wrap Node (parse_form (table nameless_fields) ts)
nameless_fields_is = parse_rule_is nameless_fields

pub unnamed_field_is : (ts : Stream) → parse_rule unnamed_field ts ≡ wrap Node (parse_form (table unnamed_field) ts)
unnamed_field_is = parse_rule_is unnamed_field

pub unnamed_fields_is : (ts : Stream) → parse_rule unnamed_fields ts ≡ wrap Node (parse_form (table unnamed_fields) ts)
unnamed_fields_is = parse_rule_is unnamed_fields

pub fields_unnamed_is : (ts : Stream) → parse_rule fields_unnamed ts ≡ wrap Node (parse_form (table fields_unnamed) ts)
fields_unnamed_is = parse_rule_is fields_unnamed

pub variant_is : (ts : Stream) → parse_rule variant ts ≡ wrap Node (parse_form (table variant) ts)
variant_is = parse_rule_is variant

pub variants_is : (ts : Stream) → parse_rule variants ts ≡ wrap Node (parse_form (table variants) ts)
variants_is = parse_rule_is variants

pub structure_is : (ts : Stream) → parse_rule structure ts ≡ wrap Node (parse_form (table structure) ts)
structure_is = parse_rule_is structure

pub structure_rest_is : (ts : Stream) → parse_rule structure_rest ts ≡ wrap Node (parse_form (table structure_rest) ts)
structure_rest_is = parse_rule_is structure_rest

pub structure_body_is : (ts : Stream) → parse_rule structure_body ts ≡ wrap Node (parse_form (table structure_body) ts)
structure_body_is = parse_rule_is structure_body

pub enumeration_is : (ts : Stream) → parse_rule enumeration ts ≡ wrap Node (parse_form (table enumeration) ts)
enumeration_is = parse_rule_is enumeration

pub enumeration_rest_is : (ts : Stream) → parse_rule enumeration_rest ts ≡ wrap Node (parse_form (table enumeration_rest) ts)
enumeration_rest_is = parse_rule_is enumeration_rest

pub union_item_is : (ts : Stream) → parse_rule union_item ts ≡ wrap Node (parse_form (table union_item) ts)
union_item_is = parse_rule_is union_item

pub union_item_rest_is : (ts : Stream) → parse_rule union_item_rest ts ≡ wrap Node (parse_form (table union_item_rest) ts)
union_item_rest_is = parse_rule_is union_item_rest

pub derive_input_is : (ts : Stream) → parse_rule derive_input ts ≡ wrap Node (parse_form (table derive_input) ts)
derive_input_is = parse_rule_is derive_input

pub expression_path_is : (ts : Stream) → parse_rule expression_path ts ≡ wrap Node (parse_form (table expression_path) ts)
expression_path_is = parse_rule_is expression_path

pub expression_words_is : (ts : Stream) → parse_rule expression_words ts ≡ wrap Node (parse_form (table expression_words) ts)
expression_words_is = parse_rule_is expression_words

pub qualified_expression_path_is : (ts : Stream) → parse_rule qualified_expression_path ts ≡ wrap Node (parse_form (table qualified_expression_path) ts)
qualified_expression_path_is = parse_rule_is qualified_expression_path

pub path_as_expression_is : (ts : Stream) → parse_rule path_as_expression ts ≡ wrap Node (parse_form (table path_as_expression) ts)
path_as_expression_is = parse_rule_is path_as_expression

pub macro_invocation_is : (ts : Stream) → parse_rule macro_invocation ts ≡ wrap Node (parse_form (table macro_invocation) ts)
macro_invocation_is = parse_rule_is macro_invocation

pub pattern_is : (ts : Stream) → parse_rule pattern ts ≡ wrap Node (parse_form (table pattern) ts)
pattern_is = parse_rule_is pattern

pub patterns_is : (ts : Stream) → parse_rule patterns ts ≡ wrap Node (parse_form (table patterns) ts)
patterns_is = parse_rule_is patterns

pub expressions_is : (ts : Stream) → parse_rule expressions ts ≡ wrap Node (parse_form (table expressions) ts)
expressions_is = parse_rule_is expressions

pub array_content_is : (ts : Stream) → parse_rule array_content ts ≡ wrap Node (parse_form (table array_content) ts)
array_content_is = parse_rule_is array_content

pub block_is : (ts : Stream) → parse_rule block ts ≡ wrap Node (parse_form (table block) ts)
block_is = parse_rule_is block

pub body_is : (ts : Stream) → parse_rule body ts ≡ wrap Node (parse_form (table body) ts)
body_is = parse_rule_is body

pub plain_body_is : (ts : Stream) → parse_rule plain_body ts ≡ wrap Node (parse_form (table plain_body) ts)
plain_body_is = parse_rule_is plain_body

pub no_inner_attributes_is : (ts : Stream) → parse_rule no_inner_attributes ts ≡ wrap Node (parse_form (table no_inner_attributes) ts)
no_inner_attributes_is = parse_rule_is no_inner_attributes

pub primary_is : (ts : Stream) → parse_rule primary ts ≡ wrap Node (parse_form (table primary) ts)
primary_is = parse_rule_is primary

pub literal_fields_is : (ts : Stream) → parse_rule literal_fields ts ≡ wrap Node (parse_form (table literal_fields) ts)
literal_fields_is = parse_rule_is literal_fields

pub literal_field_is : (ts : Stream) → parse_rule literal_field ts ≡ wrap Node (parse_form (table literal_field) ts)
literal_field_is = parse_rule_is literal_field

pub block_like_is : (ts : Stream) → parse_rule block_like ts ≡ wrap Node (parse_form (table block_like) ts)
block_like_is = parse_rule_is block_like

pub if_expression_is : (ts : Stream) → parse_rule if_expression ts ≡ wrap Node (parse_form (table if_expression) ts)
if_expression_is = parse_rule_is if_expression

pub loop_expression_is : (ts : Stream) → parse_rule loop_expression ts ≡ wrap Node (parse_form (table loop_expression) ts)
loop_expression_is = parse_rule_is loop_expression

pub postfixes_is : (ts : Stream) → parse_rule postfixes ts ≡ wrap Node (parse_form (table postfixes) ts)
postfixes_is = parse_rule_is postfixes

pub member_is : (ts : Stream) → parse_rule member ts ≡ wrap Node (parse_form (table member) ts)
member_is = parse_rule_is member

pub unary_is : (ts : Stream) → parse_rule unary ts ≡ wrap Node (parse_form (table unary) ts)
unary_is = parse_rule_is unary

pub casts_is : (ts : Stream) → parse_rule casts ts ≡ wrap Node (parse_form (table casts) ts)
casts_is = parse_rule_is casts

pub cast_is : (ts : Stream) → parse_rule cast ts ≡ wrap Node (parse_form (table cast) ts)
cast_is = parse_rule_is cast

pub products_is : (ts : Stream) → parse_rule products ts ≡ wrap Node (parse_form (table products) ts)
products_is = parse_rule_is products

pub product_is : (ts : Stream) → parse_rule product ts ≡ wrap Node (parse_form (table product) ts)
product_is = parse_rule_is product

pub sums_is : (ts : Stream) → parse_rule sums ts ≡ wrap Node (parse_form (table sums) ts)
sums_is = parse_rule_is sums

pub sum_is : (ts : Stream) → parse_rule sum ts ≡ wrap Node (parse_form (table sum) ts)
sum_is = parse_rule_is sum

pub shifts_is : (ts : Stream) → parse_rule shifts ts ≡ wrap Node (parse_form (table shifts) ts)
shifts_is = parse_rule_is shifts

pub shift_is : (ts : Stream) → parse_rule shift ts ≡ wrap Node (parse_form (table shift) ts)
shift_is = parse_rule_is shift

pub bit_ands_is : (ts : Stream) → parse_rule bit_ands ts ≡ wrap Node (parse_form (table bit_ands) ts)
bit_ands_is = parse_rule_is bit_ands

pub bit_and_is : (ts : Stream) → parse_rule bit_and ts ≡ wrap Node (parse_form (table bit_and) ts)
bit_and_is = parse_rule_is bit_and

pub bit_xors_is : (ts : Stream) → parse_rule bit_xors ts ≡ wrap Node (parse_form (table bit_xors) ts)
bit_xors_is = parse_rule_is bit_xors

pub bit_xor_is : (ts : Stream) → parse_rule bit_xor ts ≡ wrap Node (parse_form (table bit_xor) ts)
bit_xor_is = parse_rule_is bit_xor

pub bit_ors_is : (ts : Stream) → parse_rule bit_ors ts ≡ wrap Node (parse_form (table bit_ors) ts)
bit_ors_is = parse_rule_is bit_ors

pub bit_or_is : (ts : Stream) → parse_rule bit_or ts ≡ wrap Node (parse_form (table bit_or) ts)
bit_or_is = parse_rule_is bit_or

pub compared_is : (ts : Stream) → parse_rule compared ts ≡ wrap Node (parse_form (table compared) ts)
compared_is = parse_rule_is compared

pub comparison_is : (ts : Stream) → parse_rule comparison ts ≡ wrap Node (parse_form (table comparison) ts)
comparison_is = parse_rule_is comparison

pub conjunctions_is : (ts : Stream) → parse_rule conjunctions ts ≡ wrap Node (parse_form (table conjunctions) ts)
conjunctions_is = parse_rule_is conjunctions

pub conjunction_is : (ts : Stream) → parse_rule conjunction ts ≡ wrap Node (parse_form (table conjunction) ts)
conjunction_is = parse_rule_is conjunction

pub disjunctions_is : (ts : Stream) → parse_rule disjunctions ts ≡ wrap Node (parse_form (table disjunctions) ts)
disjunctions_is = parse_rule_is disjunctions

pub disjunction_is : (ts : Stream) → parse_rule disjunction ts ≡ wrap Node (parse_form (table disjunction) ts)
disjunction_is = parse_rule_is disjunction

pub assigned_is : (ts : Stream) → parse_rule assigned ts ≡ wrap Node (parse_form (table assigned) ts)
assigned_is = parse_rule_is assigned

pub whole_expression_is : (ts : Stream) → parse_rule whole_expression ts ≡ wrap Node (parse_form (table whole_expression) ts)
whole_expression_is = parse_rule_is whole_expression

pub primary_head_is : (ts : Stream) → parse_rule primary_head ts ≡ wrap Node (parse_form (table primary_head) ts)
primary_head_is = parse_rule_is primary_head

pub unary_head_is : (ts : Stream) → parse_rule unary_head ts ≡ wrap Node (parse_form (table unary_head) ts)
unary_head_is = parse_rule_is unary_head

pub cast_head_is : (ts : Stream) → parse_rule cast_head ts ≡ wrap Node (parse_form (table cast_head) ts)
cast_head_is = parse_rule_is cast_head

pub products_head_is : (ts : Stream) → parse_rule products_head ts ≡ wrap Node (parse_form (table products_head) ts)
products_head_is = parse_rule_is products_head

pub product_head_is : (ts : Stream) → parse_rule product_head ts ≡ wrap Node (parse_form (table product_head) ts)
product_head_is = parse_rule_is product_head

pub sums_head_is : (ts : Stream) → parse_rule sums_head ts ≡ wrap Node (parse_form (table sums_head) ts)
sums_head_is = parse_rule_is sums_head

pub sum_head_is : (ts : Stream) → parse_rule sum_head ts ≡ wrap Node (parse_form (table sum_head) ts)
sum_head_is = parse_rule_is sum_head

pub shifts_head_is : (ts : Stream) → parse_rule shifts_head ts ≡ wrap Node (parse_form (table shifts_head) ts)
shifts_head_is = parse_rule_is shifts_head

pub shift_head_is : (ts : Stream) → parse_rule shift_head ts ≡ wrap Node (parse_form (table shift_head) ts)
shift_head_is = parse_rule_is shift_head

pub bit_ands_head_is : (ts : Stream) → parse_rule bit_ands_head ts ≡ wrap Node (parse_form (table bit_ands_head) ts)
bit_ands_head_is = parse_rule_is bit_ands_head

pub bit_and_head_is : (ts : Stream) → parse_rule bit_and_head ts ≡ wrap Node (parse_form (table bit_and_head) ts)
bit_and_head_is = parse_rule_is bit_and_head

pub bit_xors_head_is : (ts : Stream) → parse_rule bit_xors_head ts ≡ wrap Node (parse_form (table bit_xors_head) ts)
bit_xors_head_is = parse_rule_is bit_xors_head

pub bit_xor_head_is : (ts : Stream) → parse_rule bit_xor_head ts ≡ wrap Node (parse_form (table bit_xor_head) ts)
bit_xor_head_is = parse_rule_is bit_xor_head

pub bit_ors_head_is : (ts : Stream) → parse_rule bit_ors_head ts ≡ wrap Node (parse_form (table bit_ors_head) ts)
bit_ors_head_is = parse_rule_is bit_ors_head

pub bit_or_head_is : (ts : Stream) → parse_rule bit_or_head ts ≡ wrap Node (parse_form (table bit_or_head) ts)
bit_or_head_is = parse_rule_is bit_or_head

pub compared_head_is : (ts : Stream) → parse_rule compared_head ts ≡ wrap Node (parse_form (table compared_head) ts)
compared_head_is = parse_rule_is compared_head

pub comparison_head_is : (ts : Stream) → parse_rule comparison_head ts ≡ wrap Node (parse_form (table comparison_head) ts)
comparison_head_is = parse_rule_is comparison_head

pub conjunctions_head_is : (ts : Stream) → parse_rule conjunctions_head ts ≡ wrap Node (parse_form (table conjunctions_head) ts)
conjunctions_head_is = parse_rule_is conjunctions_head

pub conjunction_head_is : (ts : Stream) → parse_rule conjunction_head ts ≡ wrap Node (parse_form (table conjunction_head) ts)
conjunction_head_is = parse_rule_is conjunction_head

pub disjunctions_head_is : (ts : Stream) → parse_rule disjunctions_head ts ≡ wrap Node (parse_form (table disjunctions_head) ts)
disjunctions_head_is = parse_rule_is disjunctions_head

pub disjunction_head_is : (ts : Stream) → parse_rule disjunction_head ts ≡ wrap Node (parse_form (table disjunction_head) ts)
disjunction_head_is = parse_rule_is disjunction_head

pub assigned_head_is : (ts : Stream) → parse_rule assigned_head ts ≡ wrap Node (parse_form (table assigned_head) ts)
assigned_head_is = parse_rule_is assigned_head

pub whole_expression_head_is : (ts : Stream) → parse_rule whole_expression_head ts ≡ wrap Node (parse_form (table whole_expression_head) ts)
whole_expression_head_is = parse_rule_is whole_expression_head

pub operand_rest_is : (ts : Stream) → parse_rule operand_rest ts ≡ wrap Node (parse_form (table operand_rest) ts)
operand_rest_is = parse_rule_is operand_rest

pub statements_is : (ts : Stream) → parse_rule statements ts ≡ wrap Node (parse_form (table statements) ts)
statements_is = parse_rule_is statements

pub statement_rest_is : (ts : Stream) → parse_rule statement_rest ts ≡ wrap Node (parse_form (table statement_rest) ts)
statement_rest_is = parse_rule_is statement_rest

pub after_block_is : (ts : Stream) → parse_rule after_block ts ≡ wrap Node (parse_form (table after_block) ts)
after_block_is = parse_rule_is after_block

pub after_expression_is : (ts : Stream) → parse_rule after_expression ts ≡ wrap Node (parse_form (table after_expression) ts)
after_expression_is = parse_rule_is after_expression

pub statement_is : (ts : Stream) → parse_rule statement ts ≡ wrap Node (parse_form (table statement) ts)
statement_is = parse_rule_is statement

pub crate_macro_is : (ts : Stream) → parse_rule crate_macro ts ≡ wrap Node (parse_form (table crate_macro) ts)
crate_macro_is = parse_rule_is crate_macro

pub brace_macro_is : (ts : Stream) → parse_rule brace_macro ts ≡ wrap Node (parse_form (table brace_macro) ts)
brace_macro_is = parse_rule_is brace_macro

pub crate_macro_item_is : (ts : Stream) → parse_rule crate_macro_item ts ≡ wrap Node (parse_form (table crate_macro_item) ts)
crate_macro_item_is = parse_rule_is crate_macro_item

pub statement_end_is : (ts : Stream) → parse_rule statement_end ts ≡ wrap Node (parse_form (table statement_end) ts)
statement_end_is = parse_rule_is statement_end

pub local_is : (ts : Stream) → parse_rule local ts ≡ wrap Node (parse_form (table local) ts)
local_is = parse_rule_is local

pub no_attributes_is : (ts : Stream) → parse_rule no_attributes ts ≡ wrap Node (parse_form (table no_attributes) ts)
no_attributes_is = parse_rule_is no_attributes

pub receiver_is : (ts : Stream) → parse_rule receiver ts ≡ wrap Node (parse_form (table receiver) ts)
receiver_is = parse_rule_is receiver

pub receiver_rest_is : (ts : Stream) → parse_rule receiver_rest ts ≡ wrap Node (parse_form (table receiver_rest) ts)
receiver_rest_is = parse_rule_is receiver_rest

pub argument_is : (ts : Stream) → parse_rule argument ts ≡ wrap Node (parse_form (table argument) ts)
argument_is = parse_rule_is argument

pub inputs_is : (ts : Stream) → parse_rule inputs ts ≡ wrap Node (parse_form (table inputs) ts)
inputs_is = parse_rule_is inputs

pub later_inputs_is : (ts : Stream) → parse_rule later_inputs ts ≡ wrap Node (parse_form (table later_inputs) ts)
later_inputs_is = parse_rule_is later_inputs

pub input_rest_is : (ts : Stream) → parse_rule input_rest ts ≡ wrap Node (parse_form (table input_rest) ts)
input_rest_is = parse_rule_is input_rest

pub variadic_is : (ts : Stream) → parse_rule variadic ts ≡ wrap Node (parse_form (table variadic) ts)
variadic_is = parse_rule_is variadic

pub abi_is : (ts : Stream) → parse_rule abi ts ≡ wrap Node (parse_form (table abi) ts)
abi_is = parse_rule_is abi

pub unsafe_only_is : (ts : Stream) → parse_rule unsafe_only ts ≡ wrap Node (parse_form (table unsafe_only) ts)
unsafe_only_is = parse_rule_is unsafe_only

pub safe_or_unsafe_is : (ts : Stream) → parse_rule safe_or_unsafe ts ≡ wrap Node (parse_form (table safe_or_unsafe) ts)
safe_or_unsafe_is = parse_rule_is safe_or_unsafe

pub signature_is : (ts : Stream) → parse_rule signature ts ≡ wrap Node (parse_form (table signature) ts)
signature_is = parse_rule_is signature

pub signature_rest_is : (ts : Stream) → parse_rule signature_rest ts ≡ wrap Node (parse_form (table signature_rest) ts)
signature_rest_is = parse_rule_is signature_rest

pub function_is : (ts : Stream) → parse_rule function ts ≡ wrap Node (parse_form (table function) ts)
function_is = parse_rule_is function

pub function_rest_is : (ts : Stream) → parse_rule function_rest ts ≡ wrap Node (parse_form (table function_rest) ts)
function_rest_is = parse_rule_is function_rest

pub const_item_is : (ts : Stream) → parse_rule const_item ts ≡ wrap Node (parse_form (table const_item) ts)
const_item_is = parse_rule_is const_item

pub const_item_rest_is : (ts : Stream) → parse_rule const_item_rest ts ≡ wrap Node (parse_form (table const_item_rest) ts)
const_item_rest_is = parse_rule_is const_item_rest

pub static_mutability_is : (ts : Stream) → parse_rule static_mutability ts ≡ wrap Node (parse_form (table static_mutability) ts)
static_mutability_is = parse_rule_is static_mutability

pub static_item_is : (ts : Stream) → parse_rule static_item ts ≡ wrap Node (parse_form (table static_item) ts)
static_item_is = parse_rule_is static_item

pub static_item_rest_is : (ts : Stream) → parse_rule static_item_rest ts ≡ wrap Node (parse_form (table static_item_rest) ts)
static_item_rest_is = parse_rule_is static_item_rest

pub extern_crate_is : (ts : Stream) → parse_rule extern_crate ts ≡ wrap Node (parse_form (table extern_crate) ts)
extern_crate_is = parse_rule_is extern_crate

pub extern_crate_rest_is : (ts : Stream) → parse_rule extern_crate_rest ts ≡ wrap Node (parse_form (table extern_crate_rest) ts)
extern_crate_rest_is = parse_rule_is extern_crate_rest

pub use_tree_is : (ts : Stream) → parse_rule use_tree ts ≡ wrap Node (parse_form (table use_tree) ts)
use_tree_is = parse_rule_is use_tree

pub use_trees_is : (ts : Stream) → parse_rule use_trees ts ≡ wrap Node (parse_form (table use_trees) ts)
use_trees_is = parse_rule_is use_trees

pub root_mark_is : (ts : Stream) → parse_rule root_mark ts ≡ wrap Node (parse_form (table root_mark) ts)
root_mark_is = parse_rule_is root_mark

pub rooted_tree_is : (ts : Stream) → parse_rule rooted_tree ts ≡ wrap Node (parse_form (table rooted_tree) ts)
rooted_tree_is = parse_rule_is rooted_tree

pub rooted_trees_is : (ts : Stream) → parse_rule rooted_trees ts ≡ wrap Node (parse_form (table rooted_trees) ts)
rooted_trees_is = parse_rule_is rooted_trees

pub use_item_is : (ts : Stream) → parse_rule use_item ts ≡ wrap Node (parse_form (table use_item) ts)
use_item_is = parse_rule_is use_item

pub use_item_rest_is : (ts : Stream) → parse_rule use_item_rest ts ≡ wrap Node (parse_form (table use_item_rest) ts)
use_item_rest_is = parse_rule_is use_item_rest

pub rooted_use_is : (ts : Stream) → parse_rule rooted_use ts ≡ wrap Node (parse_form (table rooted_use) ts)
rooted_use_is = parse_rule_is rooted_use

pub module_item_is : (ts : Stream) → parse_rule module_item ts ≡ wrap Node (parse_form (table module_item) ts)
module_item_is = parse_rule_is module_item

pub module_item_rest_is : (ts : Stream) → parse_rule module_item_rest ts ≡ wrap Node (parse_form (table module_item_rest) ts)
module_item_rest_is = parse_rule_is module_item_rest

pub alias_bounds_is : (ts : Stream) → parse_rule alias_bounds ts ≡ wrap Node (parse_form (table alias_bounds) ts)
alias_bounds_is = parse_rule_is alias_bounds

pub type_bounds_is : (ts : Stream) → parse_rule type_bounds ts ≡ wrap Node (parse_form (table type_bounds) ts)
type_bounds_is = parse_rule_is type_bounds

pub alias_is : (ts : Stream) → parse_rule alias ts ≡ wrap Node (parse_form (table alias) ts)
alias_is = parse_rule_is alias

pub trait_alias_is : (ts : Stream) → parse_rule trait_alias ts ≡ wrap Node (parse_form (table trait_alias) ts)
trait_alias_is = parse_rule_is trait_alias

pub trait_alias_rest_is : (ts : Stream) → parse_rule trait_alias_rest ts ≡ wrap Node (parse_form (table trait_alias_rest) ts)
trait_alias_rest_is = parse_rule_is trait_alias_rest

pub type_item_is : (ts : Stream) → parse_rule type_item ts ≡ wrap Node (parse_form (table type_item) ts)
type_item_is = parse_rule_is type_item

pub type_item_rest_is : (ts : Stream) → parse_rule type_item_rest ts ≡ wrap Node (parse_form (table type_item_rest) ts)
type_item_rest_is = parse_rule_is type_item_rest

pub macro_end_is : (ts : Stream) → parse_rule macro_end ts ≡ wrap Node (parse_form (table macro_end) ts)
macro_end_is = parse_rule_is macro_end

pub macro_item_is : (ts : Stream) → parse_rule macro_item ts ≡ wrap Node (parse_form (table macro_item) ts)
macro_item_is = parse_rule_is macro_item

pub macro_item_rest_is : (ts : Stream) → parse_rule macro_item_rest ts ≡ wrap Node (parse_form (table macro_item_rest) ts)
macro_item_rest_is = parse_rule_is macro_item_rest

pub macro_as_item_is : (ts : Stream) → parse_rule macro_as_item ts ≡ wrap Node (parse_form (table macro_as_item) ts)
macro_as_item_is = parse_rule_is macro_as_item

pub macro_as_item_rest_is : (ts : Stream) → parse_rule macro_as_item_rest ts ≡ wrap Node (parse_form (table macro_as_item_rest) ts)
macro_as_item_rest_is = parse_rule_is macro_as_item_rest

pub bodiless_function_is : (ts : Stream) → parse_rule bodiless_function ts ≡ wrap Node (parse_form (table bodiless_function) ts)
bodiless_function_is = parse_rule_is bodiless_function

pub untyped_static_is : (ts : Stream) → parse_rule untyped_static ts ≡ wrap Node (parse_form (table untyped_static) ts)
untyped_static_is = parse_rule_is untyped_static

pub valueless_static_is : (ts : Stream) → parse_rule valueless_static ts ≡ wrap Node (parse_form (table valueless_static) ts)
valueless_static_is = parse_rule_is valueless_static

pub odd_const_is : (ts : Stream) → parse_rule odd_const ts ≡ wrap Node (parse_form (table odd_const) ts)
odd_const_is = parse_rule_is odd_const

pub macro_definition_is : (ts : Stream) → parse_rule macro_definition ts ≡ wrap Node (parse_form (table macro_definition) ts)
macro_definition_is = parse_rule_is macro_definition

pub odd_type_is : (ts : Stream) → parse_rule odd_type ts ≡ wrap Node (parse_form (table odd_type) ts)
odd_type_is = parse_rule_is odd_type

pub supertraits_is : (ts : Stream) → parse_rule supertraits ts ≡ wrap Node (parse_form (table supertraits) ts)
supertraits_is = parse_rule_is supertraits

pub bare_trait_is : (ts : Stream) → parse_rule bare_trait ts ≡ wrap Node (parse_form (table bare_trait) ts)
bare_trait_is = parse_rule_is bare_trait

pub trait_definition_is : (ts : Stream) → parse_rule trait_definition ts ≡ wrap Node (parse_form (table trait_definition) ts)
trait_definition_is = parse_rule_is trait_definition

pub trait_definition_rest_is : (ts : Stream) → parse_rule trait_definition_rest ts ≡ wrap Node (parse_form (table trait_definition_rest) ts)
trait_definition_rest_is = parse_rule_is trait_definition_rest

pub const_alias_is : (ts : Stream) → parse_rule const_alias ts ≡ wrap Node (parse_form (table const_alias) ts)
const_alias_is = parse_rule_is const_alias

pub restricted_trait_is : (ts : Stream) → parse_rule restricted_trait ts ≡ wrap Node (parse_form (table restricted_trait) ts)
restricted_trait_is = parse_rule_is restricted_trait

pub self_type_is : (ts : Stream) → parse_rule self_type ts ≡ wrap Node (parse_form (table self_type) ts)
self_type_is = parse_rule_is self_type

pub for_self_type_is : (ts : Stream) → parse_rule for_self_type ts ≡ wrap Node (parse_form (table for_self_type) ts)
for_self_type_is = parse_rule_is for_self_type

pub impl_body_is : (ts : Stream) → parse_rule impl_body ts ≡ wrap Node (parse_form (table impl_body) ts)
impl_body_is = parse_rule_is impl_body

pub impl_definition_is : (ts : Stream) → parse_rule impl_definition ts ≡ wrap Node (parse_form (table impl_definition) ts)
impl_definition_is = parse_rule_is impl_definition

pub impl_definition_rest_is : (ts : Stream) → parse_rule impl_definition_rest ts ≡ wrap Node (parse_form (table impl_definition_rest) ts)
impl_definition_rest_is = parse_rule_is impl_definition_rest

pub odd_impl_is : (ts : Stream) → parse_rule odd_impl ts ≡ wrap Node (parse_form (table odd_impl) ts)
odd_impl_is = parse_rule_is odd_impl

pub visible_const_impl_is : (ts : Stream) → parse_rule visible_const_impl ts ≡ wrap Node (parse_form (table visible_const_impl) ts)
visible_const_impl_is = parse_rule_is visible_const_impl

pub const_trait_is : (ts : Stream) → parse_rule const_trait ts ≡ wrap Node (parse_form (table const_trait) ts)
const_trait_is = parse_rule_is const_trait

pub const_impl_is : (ts : Stream) → parse_rule const_impl ts ≡ wrap Node (parse_form (table const_impl) ts)
const_impl_is = parse_rule_is const_impl

pub odd_const_impl_is : (ts : Stream) → parse_rule odd_const_impl ts ≡ wrap Node (parse_form (table odd_const_impl) ts)
odd_const_impl_is = parse_rule_is odd_const_impl

pub foreign_module_is : (ts : Stream) → parse_rule foreign_module ts ≡ wrap Node (parse_form (table foreign_module) ts)
foreign_module_is = parse_rule_is foreign_module

pub foreign_module_rest_is : (ts : Stream) → parse_rule foreign_module_rest ts ≡ wrap Node (parse_form (table foreign_module_rest) ts)
foreign_module_rest_is = parse_rule_is foreign_module_rest

pub member_macro_is : (ts : Stream) → parse_rule member_macro ts ≡ wrap Node (parse_form (table member_macro) ts)
member_macro_is = parse_rule_is member_macro

pub bare_trait_function_is : (ts : Stream) → parse_rule bare_trait_function ts ≡ wrap Node (parse_form (table bare_trait_function) ts)
bare_trait_function_is = parse_rule_is bare_trait_function

pub bare_trait_type_is : (ts : Stream) → parse_rule bare_trait_type ts ≡ wrap Node (parse_form (table bare_trait_type) ts)
bare_trait_type_is = parse_rule_is bare_trait_type

pub trait_const_is : (ts : Stream) → parse_rule trait_const ts ≡ wrap Node (parse_form (table trait_const) ts)
trait_const_is = parse_rule_is trait_const

pub trait_function_is : (ts : Stream) → parse_rule trait_function ts ≡ wrap Node (parse_form (table trait_function) ts)
trait_function_is = parse_rule_is trait_function

pub trait_type_is : (ts : Stream) → parse_rule trait_type ts ≡ wrap Node (parse_form (table trait_type) ts)
trait_type_is = parse_rule_is trait_type

pub trait_macro_is : (ts : Stream) → parse_rule trait_macro ts ≡ wrap Node (parse_form (table trait_macro) ts)
trait_macro_is = parse_rule_is trait_macro

pub trait_macro_as_item_is : (ts : Stream) → parse_rule trait_macro_as_item ts ≡ wrap Node (parse_form (table trait_macro_as_item) ts)
trait_macro_as_item_is = parse_rule_is trait_macro_as_item

pub any_const_is : (ts : Stream) → parse_rule any_const ts ≡ wrap Node (parse_form (table any_const) ts)
any_const_is = parse_rule_is any_const

pub marked_member_is : (ts : Stream) → parse_rule marked_member ts ≡ wrap Node (parse_form (table marked_member) ts)
marked_member_is = parse_rule_is marked_member

pub odd_trait_const_is : (ts : Stream) → parse_rule odd_trait_const ts ≡ wrap Node (parse_form (table odd_trait_const) ts)
odd_trait_const_is = parse_rule_is odd_trait_const

pub kept_trait_item_is : (ts : Stream) → parse_rule kept_trait_item ts ≡ wrap Node (parse_form (table kept_trait_item) ts)
kept_trait_item_is = parse_rule_is kept_trait_item

pub trait_item_is : (ts : Stream) → parse_rule trait_item ts ≡ wrap Node (parse_form (table trait_item) ts)
trait_item_is = parse_rule_is trait_item

pub trait_items_is : (ts : Stream) → parse_rule trait_items ts ≡ wrap Node (parse_form (table trait_items) ts)
trait_items_is = parse_rule_is trait_items

pub impl_const_is : (ts : Stream) → parse_rule impl_const ts ≡ wrap Node (parse_form (table impl_const) ts)
impl_const_is = parse_rule_is impl_const

pub impl_function_is : (ts : Stream) → parse_rule impl_function ts ≡ wrap Node (parse_form (table impl_function) ts)
impl_function_is = parse_rule_is impl_function

pub impl_type_is : (ts : Stream) → parse_rule impl_type ts ≡ wrap Node (parse_form (table impl_type) ts)
impl_type_is = parse_rule_is impl_type

pub impl_macro_is : (ts : Stream) → parse_rule impl_macro ts ≡ wrap Node (parse_form (table impl_macro) ts)
impl_macro_is = parse_rule_is impl_macro

pub impl_macro_as_item_is : (ts : Stream) → parse_rule impl_macro_as_item ts ≡ wrap Node (parse_form (table impl_macro_as_item) ts)
impl_macro_as_item_is = parse_rule_is impl_macro_as_item

pub bodiless_impl_function_is : (ts : Stream) → parse_rule bodiless_impl_function ts ≡ wrap Node (parse_form (table bodiless_impl_function) ts)
bodiless_impl_function_is = parse_rule_is bodiless_impl_function

pub odd_impl_const_is : (ts : Stream) → parse_rule odd_impl_const ts ≡ wrap Node (parse_form (table odd_impl_const) ts)
odd_impl_const_is = parse_rule_is odd_impl_const

pub odd_impl_type_is : (ts : Stream) → parse_rule odd_impl_type ts ≡ wrap Node (parse_form (table odd_impl_type) ts)
odd_impl_type_is = parse_rule_is odd_impl_type

pub kept_impl_item_is : (ts : Stream) → parse_rule kept_impl_item ts ≡ wrap Node (parse_form (table kept_impl_item) ts)
kept_impl_item_is = parse_rule_is kept_impl_item

pub impl_item_is : (ts : Stream) → parse_rule impl_item ts ≡ wrap Node (parse_form (table impl_item) ts)
impl_item_is = parse_rule_is impl_item

pub impl_items_is : (ts : Stream) → parse_rule impl_items ts ≡ wrap Node (parse_form (table impl_items) ts)
impl_items_is = parse_rule_is impl_items

pub foreign_signature_is : (ts : Stream) → parse_rule foreign_signature ts ≡ wrap Node (parse_form (table foreign_signature) ts)
foreign_signature_is = parse_rule_is foreign_signature

pub bare_foreign_static_is : (ts : Stream) → parse_rule bare_foreign_static ts ≡ wrap Node (parse_form (table bare_foreign_static) ts)
bare_foreign_static_is = parse_rule_is bare_foreign_static

pub foreign_function_is : (ts : Stream) → parse_rule foreign_function ts ≡ wrap Node (parse_form (table foreign_function) ts)
foreign_function_is = parse_rule_is foreign_function

pub foreign_static_is : (ts : Stream) → parse_rule foreign_static ts ≡ wrap Node (parse_form (table foreign_static) ts)
foreign_static_is = parse_rule_is foreign_static

pub foreign_type_is : (ts : Stream) → parse_rule foreign_type ts ≡ wrap Node (parse_form (table foreign_type) ts)
foreign_type_is = parse_rule_is foreign_type

pub foreign_macro_is : (ts : Stream) → parse_rule foreign_macro ts ≡ wrap Node (parse_form (table foreign_macro) ts)
foreign_macro_is = parse_rule_is foreign_macro

pub foreign_macro_as_item_is : (ts : Stream) → parse_rule foreign_macro_as_item ts ≡ wrap Node (parse_form (table foreign_macro_as_item) ts)
foreign_macro_as_item_is = parse_rule_is foreign_macro_as_item

pub foreign_body_is : (ts : Stream) → parse_rule foreign_body ts ≡ wrap Node (parse_form (table foreign_body) ts)
foreign_body_is = parse_rule_is foreign_body

pub foreign_value_is : (ts : Stream) → parse_rule foreign_value ts ≡ wrap Node (parse_form (table foreign_value) ts)
foreign_value_is = parse_rule_is foreign_value

pub odd_foreign_type_is : (ts : Stream) → parse_rule odd_foreign_type ts ≡ wrap Node (parse_form (table odd_foreign_type) ts)
odd_foreign_type_is = parse_rule_is odd_foreign_type

pub kept_foreign_item_is : (ts : Stream) → parse_rule kept_foreign_item ts ≡ wrap Node (parse_form (table kept_foreign_item) ts)
kept_foreign_item_is = parse_rule_is kept_foreign_item

pub foreign_item_is : (ts : Stream) → parse_rule foreign_item ts ≡ wrap Node (parse_form (table foreign_item) ts)
foreign_item_is = parse_rule_is foreign_item

pub foreign_items_is : (ts : Stream) → parse_rule foreign_items ts ≡ wrap Node (parse_form (table foreign_items) ts)
foreign_items_is = parse_rule_is foreign_items

pub kept_item_rest_is : (ts : Stream) → parse_rule kept_item_rest ts ≡ wrap Node (parse_form (table kept_item_rest) ts)
kept_item_rest_is = parse_rule_is kept_item_rest

pub kept_item_is : (ts : Stream) → parse_rule kept_item ts ≡ wrap Node (parse_form (table kept_item) ts)
kept_item_is = parse_rule_is kept_item

pub kept_in_block_is : (ts : Stream) → parse_rule kept_in_block ts ≡ wrap Node (parse_form (table kept_in_block) ts)
kept_in_block_is = parse_rule_is kept_in_block

pub item_rest_is : (ts : Stream) → parse_rule item_rest ts ≡ wrap Node (parse_form (table item_rest) ts)
item_rest_is = parse_rule_is item_rest

pub item_is : (ts : Stream) → parse_rule item ts ≡ wrap Node (parse_form (table item) ts)
item_is = parse_rule_is item

pub items_is : (ts : Stream) → parse_rule items ts ≡ wrap Node (parse_form (table items) ts)
items_is = parse_rule_is items

pub file_is : (ts : Stream) → parse_rule file ts ≡ wrap Node (parse_form (table file) ts)
file_is = parse_rule_is file
