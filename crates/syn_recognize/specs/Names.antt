-- Written by tools/recognizers.py; edits are lost.
-- WHAT WORDS, MARKS, LOOKAHEADS, SHAPES AND RULES AS DATA DENOTE.
use Rattle.std.specs.Prelude.{ℕ, [], ◌∷◌, get_or}
use Rattle.syn_grammar.specs.Words.{Text, w_as, w_async, w_auto, w_break, w_const, w_continue, w_crate, w_default, w_else, w_enum, w_extern, w_false, w_fn, w_for, w_if, w_impl, w_in, w_let, w_loop, w_macro, w_mod, w_mut, w_pub, w_ref, w_return, w_safe, w_Self_type, w_self, w_static, w_struct, w_trait, w_true, w_try, w_type, w_underscore, w_union, w_unsafe, w_use, w_where, w_while, ampersand, and_and, ampersand_equals, caret, caret_equals, colon, comma, dot, dots, ellipsis, equals, equal_equal, greater_equals, greater, less_equals, less, minus, minus_equals, not_equals, exclamation, bar, bar_equals, or_or, colons, percent, percent_equals, plus, plus_equals, pound, question, arrow, semicolon, less_less, less_less_equals, greater_greater, greater_greater_equals, slash, slash_equals, star, star_equals}
use Rattle.syn_grammar.specs.Words.{w_union, w_auto}
use Rattle.syn_grammar.specs.ItemPlan.{at_in_restriction, at_lone_word}
use Rattle.syn_grammar.specs.Tokens.{Int, Str, Before_colons, Before_macro, Begins_item, Look, ended, at_name, at_word, at_mark, at_group, at_literal, at_empty_group, ahead, ◌or_else◌, ◌and_also◌, ◌but_not◌, at_lifetime, at_path_word, at_generics}
use Rattle.syn_grammar.specs.Table.{at_any_literal, at_inner_attribute, at_arguments, at_association, at_turbofish, at_pattern_path, at_macro, at_brace_macro, at_lone_crate, at_crate_macro, at_bang, at_postfix_mark, at_block_like, at_whole_expression, at_unfinished, at_restriction, at_nameless_fields, at_parameter_end, at_predicate_end, at_item, at_receiver, at_no_macro_item}
use Rattle.syn_grammar.specs.Rules as rules
use Rattle.syn_grammar.specs.Rules.{Rule}
use Rattle.syn_grammar.specs.Shape as shapes
use Rattle.syn_grammar.specs.Shape.{Shape, Variant}
use Rattle.syn_tokens.specs.Delimiters.{delimiter_of}
use Rattle.syn_recognize.specs.declared.words.Word.{Word}
use Rattle.syn_recognize.specs.declared.words.Word.TheVariants as Word-m
use Rattle.syn_recognize.specs.declared.words.Mark.{Mark}
use Rattle.syn_recognize.specs.declared.words.Mark.TheVariants as Mark-m
use Rattle.syn_recognize.specs.declared.look.Look as look
use Rattle.syn_recognize.specs.declared.look.Look.TheVariants as Look-m
use Rattle.syn_recognize.specs.declared.shape.Shape as shape
use Rattle.syn_recognize.specs.declared.shape.Shape.TheVariants as Shape-m
use Rattle.syn_recognize.specs.declared.shape.Variant as variant
use Rattle.syn_recognize.specs.declared.shape.Variant.TheVariants as Variant-m
use Rattle.syn_recognize.specs.declared.rules.Rule as rule
use Rattle.syn_recognize.specs.declared.rules.Topic.{Topic}
use Rattle.syn_recognize.specs.declared.rules.Topic.TheVariants as Topic-m

abbrev pub word_text : Word → Text
word_text Word-m.As = w_as
word_text Word-m.Async = w_async
word_text Word-m.Auto = w_auto
word_text Word-m.Break = w_break
word_text Word-m.Const = w_const
word_text Word-m.Continue = w_continue
word_text Word-m.Crate = w_crate
word_text Word-m.Default = w_default
word_text Word-m.Else = w_else
word_text Word-m.Enum = w_enum
word_text Word-m.Extern = w_extern
word_text Word-m.False = w_false
word_text Word-m.Fn = w_fn
word_text Word-m.For = w_for
word_text Word-m.If = w_if
word_text Word-m.Impl = w_impl
word_text Word-m.In = w_in
word_text Word-m.Let = w_let
word_text Word-m.Loop = w_loop
word_text Word-m.Macro = w_macro
word_text Word-m.Mod = w_mod
word_text Word-m.Mut = w_mut
word_text Word-m.Pub = w_pub
word_text Word-m.Ref = w_ref
word_text Word-m.Return = w_return
word_text Word-m.Safe = w_safe
word_text Word-m.SelfType = w_Self_type
word_text Word-m.SelfValue = w_self
word_text Word-m.Static = w_static
word_text Word-m.Struct = w_struct
word_text Word-m.Trait = w_trait
word_text Word-m.True = w_true
word_text Word-m.Try = w_try
word_text Word-m.Type = w_type
word_text Word-m.Underscore = w_underscore
word_text Word-m.Union = w_union
word_text Word-m.Unsafe = w_unsafe
word_text Word-m.Use = w_use
word_text Word-m.Where = w_where
word_text Word-m.While = w_while

abbrev pub mark_text : Mark → Text
mark_text Mark-m.And = ampersand
mark_text Mark-m.AndAnd = and_and
mark_text Mark-m.AndEq = ampersand_equals
mark_text Mark-m.Caret = caret
mark_text Mark-m.CaretEq = caret_equals
mark_text Mark-m.Colon = colon
mark_text Mark-m.Comma = comma
mark_text Mark-m.Dot = dot
mark_text Mark-m.DotDot = dots
mark_text Mark-m.DotDotDot = ellipsis
mark_text Mark-m.Eq = equals
mark_text Mark-m.EqEq = equal_equal
mark_text Mark-m.Ge = greater_equals
mark_text Mark-m.Gt = greater
mark_text Mark-m.Le = less_equals
mark_text Mark-m.Lt = less
mark_text Mark-m.Minus = minus
mark_text Mark-m.MinusEq = minus_equals
mark_text Mark-m.Ne = not_equals
mark_text Mark-m.Not = exclamation
mark_text Mark-m.Or = bar
mark_text Mark-m.OrEq = bar_equals
mark_text Mark-m.OrOr = or_or
mark_text Mark-m.PathSep = colons
mark_text Mark-m.Percent = percent
mark_text Mark-m.PercentEq = percent_equals
mark_text Mark-m.Plus = plus
mark_text Mark-m.PlusEq = plus_equals
mark_text Mark-m.Pound = pound
mark_text Mark-m.Question = question
mark_text Mark-m.RArrow = arrow
mark_text Mark-m.Semi = semicolon
mark_text Mark-m.Shl = less_less
mark_text Mark-m.ShlEq = less_less_equals
mark_text Mark-m.Shr = greater_greater
mark_text Mark-m.ShrEq = greater_greater_equals
mark_text Mark-m.Slash = slash
mark_text Mark-m.SlashEq = slash_equals
mark_text Mark-m.Star = star
mark_text Mark-m.StarEq = star_equals

abbrev pub look_of : look.Look → Look
look_of Look-m.Ended = ended
look_of Look-m.Name = at_name
look_of (Look-m.Word w) = at_word (word_text w)
look_of (Look-m.Mark m) = at_mark (mark_text m)
look_of (Look-m.Group d) = at_group (delimiter_of d)
look_of (Look-m.Or' p c q d) = look_of c or_else look_of d
look_of (Look-m.But' p c q d) = look_of c but_not look_of d
look_of Look-m.Integer = at_literal Int
look_of Look-m.EmptyGroup = at_empty_group
look_of Look-m.AnyLiteral = at_any_literal
look_of Look-m.Lifetime = at_lifetime
look_of Look-m.InnerAttribute = at_inner_attribute
look_of Look-m.Arguments = at_arguments
look_of Look-m.Association = at_association
look_of Look-m.Turbofish = at_turbofish
look_of Look-m.PathWord = at_path_word
look_of Look-m.PatternPath = at_pattern_path
look_of Look-m.Macro = at_macro
look_of Look-m.BraceMacro = at_brace_macro
look_of Look-m.LoneCrate = at_lone_crate
look_of Look-m.CrateMacro = at_crate_macro
look_of Look-m.Bang = at_bang
look_of Look-m.PostfixMark = at_postfix_mark
look_of Look-m.BlockLike = at_block_like
look_of Look-m.WholeExpression = at_whole_expression
look_of Look-m.Unfinished = at_unfinished
look_of Look-m.Restriction = at_restriction
look_of Look-m.NamelessFields = at_nameless_fields
look_of Look-m.ParameterEnd = at_parameter_end
look_of Look-m.PredicateEnd = at_predicate_end
look_of Look-m.Item = at_item
look_of Look-m.Receiver = at_receiver
look_of Look-m.NoMacroItem = at_no_macro_item
look_of Look-m.Generics = at_generics
look_of Look-m.StrLiteral = at_literal Str
look_of Look-m.BeforeColons = ahead Before_colons
look_of Look-m.BeforeMacro = ahead Before_macro
look_of Look-m.MarkedUnion = at_word w_union and_also ahead Begins_item
look_of Look-m.MarkedAuto = at_word w_auto and_also ahead Begins_item
look_of Look-m.InRestriction = at_in_restriction
look_of Look-m.LoneWord = at_lone_word

abbrev pub variant_of : variant.Variant → Variant
variant_of Variant-m.Assign = shapes.Assign
variant_of Variant-m.Binary = shapes.Binary
variant_of Variant-m.Block = shapes.Block
variant_of Variant-m.Break = shapes.Break
variant_of Variant-m.Call = shapes.Call
variant_of Variant-m.Cast = shapes.Cast
variant_of Variant-m.Continue = shapes.Continue
variant_of Variant-m.ForLoop = shapes.ForLoop
variant_of Variant-m.Grouped = shapes.Grouped
variant_of Variant-m.If = shapes.If
variant_of Variant-m.Index = shapes.Index
variant_of Variant-m.Lit = shapes.Lit
variant_of Variant-m.Loop = shapes.Loop
variant_of Variant-m.Macro = shapes.Macro
variant_of Variant-m.Path = shapes.Path
variant_of Variant-m.Reference = shapes.Reference
variant_of Variant-m.Return = shapes.Return
variant_of Variant-m.Try = shapes.Try
variant_of Variant-m.Unary = shapes.Unary
variant_of Variant-m.Unsafe = shapes.Unsafe
variant_of Variant-m.While = shapes.While

abbrev pub shape_of : shape.Shape → Shape
shape_of Shape-m.ALocal = shapes.a_local
shape_of (Shape-m.AfterIt v) = shapes.after_it (variant_of v)
shape_of Shape-m.Based = shapes.based
shape_of Shape-m.Bracketed = shapes.bracketed
shape_of Shape-m.Chain = shapes.chain
shape_of Shape-m.Choice = shapes.choice
shape_of Shape-m.Dotted = shapes.dotted
shape_of Shape-m.Fields = shapes.fields
shape_of Shape-m.Labelled = shapes.labelled
shape_of Shape-m.Leading = shapes.leading
shape_of Shape-m.Listed = shapes.listed
shape_of Shape-m.Lone = shapes.lone
shape_of (Shape-m.Operand v) = shapes.operand (variant_of v)
shape_of (Shape-m.Operator v) = shapes.operator (variant_of v)
shape_of Shape-m.Parameters = shapes.parameters
shape_of Shape-m.Said = shapes.said
shape_of Shape-m.SaidMacro = shapes.said_macro
shape_of Shape-m.Untagged = shapes.untagged

abbrev pub attributes_rule : ℕ → Rule
attributes_rule n = get_or (rules.attributes ∷ rules.inner_attributes ∷ rules.meta ∷ rules.unsafe_path ∷ rules.unsafe_word ∷ rules.meta_value ∷ rules.module_path ∷ []) n rules.module_words

abbrev pub visibilities_rule : ℕ → Rule
visibilities_rule n = get_or (rules.visibility ∷ []) n rules.restriction

abbrev pub types_rule : ℕ → Rule
types_rule n = get_or (rules.type_path ∷ rules.type_words ∷ rules.more_type_words ∷ rules.type_arguments ∷ rules.return_type ∷ rules.generic_arguments ∷ rules.generic_argument ∷ rules.qualified_path ∷ rules.path_as_type ∷ rules.type ∷ rules.types ∷ []) n rules.constant

abbrev pub generics_rule : ℕ → Rule
generics_rule n = get_or (rules.generics ∷ rules.lifetime_parameter ∷ rules.lifetimes ∷ rules.parameter_bounds ∷ rules.bound ∷ rules.trait_bound ∷ rules.bound_lifetimes ∷ rules.lifetime_parameters ∷ rules.where_clause ∷ rules.predicates ∷ rules.predicate ∷ []) n rules.predicate_bounds

abbrev pub fields_rule : ℕ → Rule
fields_rule n = get_or (rules.fields_named ∷ rules.named_fields ∷ rules.named_field ∷ rules.nameless_fields ∷ rules.unnamed_field ∷ rules.unnamed_fields ∷ rules.fields_unnamed ∷ rules.variant ∷ []) n rules.variants

abbrev pub inputs_rule : ℕ → Rule
inputs_rule n = get_or (rules.structure ∷ rules.structure_rest ∷ rules.structure_body ∷ rules.enumeration ∷ rules.enumeration_rest ∷ rules.union_item ∷ rules.union_item_rest ∷ []) n rules.derive_input

abbrev pub patterns_rule : ℕ → Rule
patterns_rule n = get_or (rules.expression_path ∷ rules.expression_words ∷ rules.qualified_expression_path ∷ rules.path_as_expression ∷ rules.macro_invocation ∷ rules.pattern ∷ []) n rules.patterns

abbrev pub lists_rule : ℕ → Rule
lists_rule n = get_or (rules.expressions ∷ []) n rules.array_content

abbrev pub blocks_rule : ℕ → Rule
blocks_rule n = get_or (rules.block ∷ rules.body ∷ rules.plain_body ∷ rules.no_inner_attributes ∷ rules.primary ∷ rules.literal_fields ∷ rules.literal_field ∷ rules.block_like ∷ rules.if_expression ∷ []) n rules.loop_expression

abbrev pub postfixes_rule : ℕ → Rule
postfixes_rule n = get_or (rules.postfixes ∷ rules.member ∷ []) n rules.unary

abbrev pub operators_rule : ℕ → Rule
operators_rule n = get_or (rules.casts ∷ rules.cast ∷ rules.products ∷ rules.product ∷ rules.sums ∷ rules.sum ∷ rules.shifts ∷ rules.shift ∷ rules.bit_ands ∷ rules.bit_and ∷ rules.bit_xors ∷ rules.bit_xor ∷ rules.bit_ors ∷ rules.bit_or ∷ rules.compared ∷ rules.comparison ∷ rules.conjunctions ∷ rules.conjunction ∷ rules.disjunctions ∷ rules.disjunction ∷ rules.assigned ∷ []) n rules.whole_expression

abbrev pub heads_rule : ℕ → Rule
heads_rule n = get_or (rules.primary_head ∷ rules.unary_head ∷ rules.cast_head ∷ rules.products_head ∷ rules.product_head ∷ rules.sums_head ∷ rules.sum_head ∷ rules.shifts_head ∷ rules.shift_head ∷ rules.bit_ands_head ∷ rules.bit_and_head ∷ rules.bit_xors_head ∷ rules.bit_xor_head ∷ rules.bit_ors_head ∷ rules.bit_or_head ∷ rules.compared_head ∷ rules.comparison_head ∷ rules.conjunctions_head ∷ rules.conjunction_head ∷ rules.disjunctions_head ∷ rules.disjunction_head ∷ rules.assigned_head ∷ []) n rules.whole_expression_head

abbrev pub statements_rule : ℕ → Rule
statements_rule n = get_or (rules.operand_rest ∷ rules.statements ∷ rules.statement_rest ∷ rules.after_block ∷ rules.after_expression ∷ rules.statement ∷ rules.crate_macro ∷ rules.brace_macro ∷ rules.statement_end ∷ []) n rules.local

abbrev pub signatures_rule : ℕ → Rule
signatures_rule n = get_or (rules.no_attributes ∷ rules.receiver ∷ rules.receiver_rest ∷ rules.argument ∷ rules.inputs ∷ rules.later_inputs ∷ rules.input_rest ∷ rules.variadic ∷ rules.abi ∷ rules.unsafe_only ∷ rules.safe_or_unsafe ∷ rules.signature ∷ []) n rules.signature_rest

abbrev pub items_1_rule : ℕ → Rule
items_1_rule n = get_or (rules.function ∷ rules.function_rest ∷ rules.const_item ∷ rules.const_item_rest ∷ rules.static_mutability ∷ rules.static_item ∷ rules.static_item_rest ∷ rules.extern_crate ∷ rules.extern_crate_rest ∷ rules.use_tree ∷ rules.use_trees ∷ rules.root_mark ∷ rules.rooted_tree ∷ rules.rooted_trees ∷ []) n rules.use_item

abbrev pub items_2_rule : ℕ → Rule
items_2_rule n = get_or (rules.use_item_rest ∷ rules.module_item ∷ rules.module_item_rest ∷ rules.alias_bounds ∷ rules.type_bounds ∷ rules.alias ∷ rules.trait_alias ∷ rules.trait_alias_rest ∷ rules.type_item ∷ rules.type_item_rest ∷ rules.macro_end ∷ rules.macro_item ∷ rules.macro_item_rest ∷ rules.macro_as_item ∷ []) n rules.macro_as_item_rest

abbrev pub kept_items_rule : ℕ → Rule
kept_items_rule n = get_or (rules.bodiless_function ∷ rules.untyped_static ∷ rules.valueless_static ∷ rules.odd_const ∷ rules.macro_definition ∷ []) n rules.odd_type

abbrev pub traits_rule : ℕ → Rule
traits_rule n = get_or (rules.supertraits ∷ rules.bare_trait ∷ rules.trait_definition ∷ rules.trait_definition_rest ∷ rules.const_alias ∷ []) n rules.restricted_trait

abbrev pub impls_rule : ℕ → Rule
impls_rule n = get_or (rules.self_type ∷ rules.for_self_type ∷ rules.impl_body ∷ rules.impl_definition ∷ rules.impl_definition_rest ∷ rules.odd_impl ∷ []) n rules.visible_const_impl

abbrev pub foreign_rule : ℕ → Rule
foreign_rule n = get_or (rules.foreign_module ∷ rules.foreign_module_rest ∷ []) n rules.member_macro

abbrev pub trait_members_rule : ℕ → Rule
trait_members_rule n = get_or (rules.bare_trait_function ∷ rules.bare_trait_type ∷ rules.trait_const ∷ rules.trait_function ∷ rules.trait_type ∷ rules.trait_macro ∷ rules.trait_macro_as_item ∷ rules.any_const ∷ rules.odd_trait_const ∷ rules.trait_item ∷ []) n rules.trait_items

abbrev pub impl_members_rule : ℕ → Rule
impl_members_rule n = get_or (rules.impl_const ∷ rules.impl_function ∷ rules.impl_type ∷ rules.impl_macro ∷ rules.impl_macro_as_item ∷ rules.bodiless_impl_function ∷ rules.odd_impl_const ∷ rules.odd_impl_type ∷ rules.impl_item ∷ []) n rules.impl_items

abbrev pub foreign_members_rule : ℕ → Rule
foreign_members_rule n = get_or (rules.foreign_signature ∷ rules.bare_foreign_static ∷ rules.foreign_function ∷ rules.foreign_static ∷ rules.foreign_type ∷ rules.foreign_macro ∷ rules.foreign_macro_as_item ∷ rules.foreign_body ∷ rules.foreign_value ∷ rules.odd_foreign_type ∷ rules.foreign_item ∷ []) n rules.foreign_items

abbrev pub files_rule : ℕ → Rule
files_rule n = get_or (rules.item ∷ rules.items ∷ []) n rules.file

abbrev pub rule_at : Topic → ℕ → Rule
rule_at Topic-m.Attributes n = attributes_rule n
rule_at Topic-m.Visibilities n = visibilities_rule n
rule_at Topic-m.Types n = types_rule n
rule_at Topic-m.Generics n = generics_rule n
rule_at Topic-m.Fields n = fields_rule n
rule_at Topic-m.Inputs n = inputs_rule n
rule_at Topic-m.Patterns n = patterns_rule n
rule_at Topic-m.Lists n = lists_rule n
rule_at Topic-m.Blocks n = blocks_rule n
rule_at Topic-m.Postfixes n = postfixes_rule n
rule_at Topic-m.Operators n = operators_rule n
rule_at Topic-m.Heads n = heads_rule n
rule_at Topic-m.Statements n = statements_rule n
rule_at Topic-m.Signatures n = signatures_rule n
rule_at Topic-m.Items1 n = items_1_rule n
rule_at Topic-m.Items2 n = items_2_rule n
rule_at Topic-m.KeptItems n = kept_items_rule n
rule_at Topic-m.Traits n = traits_rule n
rule_at Topic-m.Impls n = impls_rule n
rule_at Topic-m.Foreign n = foreign_rule n
rule_at Topic-m.TraitMembers n = trait_members_rule n
rule_at Topic-m.ImplMembers n = impl_members_rule n
rule_at Topic-m.ForeignMembers n = foreign_members_rule n
rule_at Topic-m.Files n = files_rule n

unfoldable pub rule_of : rule.Rule → Rule
rule_of k = rule_at k.topic k.place
