-- THE WRITTEN GRAMMAR: each rule and its form.
--
-- This file is the source. It is written by hand; tools/grammar.py parses it, checks it, updates the `use` lines below
-- and writes the files that list the rules by name and what the proofs need to know of each. docs/GRAMMAR.md explains how to read it.
-- The comment directly above a look or a rule describes it in words.
use Rattle.std.specs.Prelude.{true, false, List, [], ◌∷◌}
use Rattle.syn_grammar.specs.Words.{Text, w_underscore, w_as, w_async, w_break, w_const, w_continue, w_crate, w_else, w_enum, w_extern, w_false, w_fn, w_for, w_if, w_impl, w_in, w_let, w_loop, w_macro, w_mod, w_mut, w_pub, w_ref, w_return, w_Self_type, w_self, w_static, w_struct, w_super, w_trait, w_true, w_try, w_type, w_unsafe, w_use, w_where, w_while, w_union, w_auto, w_default, w_safe, comma, semicolon, colon, equals, plus, star, less, greater, pound, ampersand, question, exclamation, minus, dot, colons, arrow, equal_equal, not_equals, less_less, less_equals, bar, slash, percent, and_and, or_or, greater_greater, greater_equals, plus_equals, minus_equals, star_equals, slash_equals, percent_equals, caret_equals, ampersand_equals, bar_equals, less_less_equals, greater_greater_equals, dots, ellipsis, caret}
use Rattle.syn_grammar.specs.Tokens.{Paren, Brace, Bracket, None, Str, ByteStr, CStr, Byte, Char, Int, Float, Fact, Before_equals, Before_end, Before_colons, Before_paren, Before_less, Before_bang, Before_type_rest, Before_own_self, Begins_item, Not_item, Bang_brace, Bang_name, Before_macro, Lone_word, Begins_in, Before_brace, Look, ended, at_name, at_word, at_mark, at_literal, at_group, at_empty_group, ahead, ◌or_else◌, ◌and_also◌, ◌but_not◌, at_lifetime, at_generics, at_path_word}
use Rattle.syn_grammar.specs.Rules.{Rule, attributes, inner_attributes, meta, unsafe_path, unsafe_word, meta_value, module_path, module_words, visibility, restriction, type_path, type_words, more_type_words, type_arguments, return_type, generic_arguments, generic_argument, qualified_path, path_as_type, type, types, constant, generics, lifetime_parameter, lifetimes, parameter_bounds, bound, trait_bound, bound_lifetimes, lifetime_parameters, where_clause, predicates, predicate, predicate_bounds, fields_named, named_fields, named_field, nameless_fields, unnamed_field, unnamed_fields, fields_unnamed, variant, variants, structure, structure_rest, structure_body, enumeration, enumeration_rest, union_item, union_item_rest, derive_input, expression_path, expression_words, qualified_expression_path, path_as_expression, macro_invocation, pattern, patterns, expressions, array_content, block, body, plain_body, no_inner_attributes, primary, literal_fields, literal_field, block_like, if_expression, loop_expression, postfixes, member, unary, casts, cast, products, product, sums, sum, shifts, shift, bit_ands, bit_and, bit_xors, bit_xor, bit_ors, bit_or, compared, comparison, conjunctions, conjunction, disjunctions, disjunction, assigned, whole_expression, primary_head, unary_head, cast_head, products_head, product_head, sums_head, sum_head, shifts_head, shift_head, bit_ands_head, bit_and_head, bit_xors_head, bit_xor_head, bit_ors_head, bit_or_head, compared_head, comparison_head, conjunctions_head, conjunction_head, disjunctions_head, disjunction_head, assigned_head, whole_expression_head, operand_rest, statements, statement_rest, after_block, after_expression, statement, crate_macro, brace_macro, crate_macro_item, statement_end, local, no_attributes, receiver, receiver_rest, argument, inputs, later_inputs, input_rest, variadic, abi, unsafe_only, safe_or_unsafe, signature, signature_rest, function, function_rest, const_item, const_item_rest, static_mutability, static_item, static_item_rest, extern_crate, extern_crate_rest, use_tree, use_trees, root_mark, rooted_tree, rooted_trees, use_item, use_item_rest, rooted_use, module_item, module_item_rest, alias_bounds, type_bounds, alias, trait_alias, trait_alias_rest, type_item, type_item_rest, macro_end, macro_item, macro_item_rest, macro_as_item, macro_as_item_rest, bodiless_function, untyped_static, valueless_static, odd_const, macro_definition, odd_type, supertraits, bare_trait, trait_definition, trait_definition_rest, const_alias, restricted_trait, self_type, for_self_type, impl_body, impl_definition, impl_definition_rest, odd_impl, visible_const_impl, const_trait, const_impl, odd_const_impl, foreign_module, foreign_module_rest, member_macro, bare_trait_function, bare_trait_type, trait_const, trait_function, trait_type, trait_macro, trait_macro_as_item, any_const, marked_member, odd_trait_const, kept_trait_item, trait_item, trait_items, impl_const, impl_function, impl_type, impl_macro, impl_macro_as_item, bodiless_impl_function, odd_impl_const, odd_impl_type, kept_impl_item, impl_item, impl_items, foreign_signature, bare_foreign_static, foreign_function, foreign_static, foreign_type, foreign_macro, foreign_macro_as_item, foreign_body, foreign_value, odd_foreign_type, kept_foreign_item, foreign_item, foreign_items, kept_item_rest, kept_item, kept_in_block, item_rest, item, items, file}
use Rattle.syn_grammar.specs.Shape.{Assign, Binary, Block, Break, Call, Cast, Continue, ForLoop, Grouped, If, Index, Lit, Loop, Macro, Path, Reference, Return, Try, Unary, Unsafe, While, operand, bracketed, after_it, operator, dotted, fields, choice, chain, leading, labelled, attributed, listed, lone, said, said_macro, a_local, an_item, single, untagged, parameters, based}
use Rattle.syn_grammar.specs.Grammar.{name, word, name_or, literal_of, index, any_literal, trailing_brace, no_trailing_brace, has, has_no, one_where, Grammar, empty, token, lifetime, ◌&◌, when◌then◌else◌, vanishing, inside, raw, rest_after, either, one_of, rule, such, shaped, captured, unshown, supplied, generics_before, ordered}
use Rattle.syn_grammar.specs.Forms.{plainly, telling, asking, punctuation, asking_punctuation, never, optional}

-- LOOKS: conditions on the next token

-- The mark `::` is next.
abbrev pub at_colons : Look
at_colons = at_mark colons

-- The character `:` is next, alone or as the first character of a longer mark.
abbrev pub at_colon : Look
at_colon = at_mark colon

-- The character `:` is next, but not `::`.
abbrev pub at_lone_colon : Look
at_lone_colon = at_mark colon but_not at_mark colons

-- The character `=` is next, alone or as the first character of a longer mark.
abbrev pub at_equals : Look
at_equals = at_mark equals

-- A comma is next.
abbrev pub at_comma : Look
at_comma = at_mark comma

-- A semicolon is next.
abbrev pub at_semicolon : Look
at_semicolon = at_mark semicolon

-- The character `#` is next.
abbrev pub at_pound : Look
at_pound = at_mark pound

-- The character `#` is next, followed by `!`.
abbrev pub at_inner_attribute : Look
at_inner_attribute = at_pound and_also ahead Before_bang

-- The character `+` is next, alone or as the first character of a longer mark.
abbrev pub at_plus : Look
at_plus = at_mark plus

-- The character `<` is next, alone or as the first character of a longer mark.
abbrev pub at_less : Look
at_less = at_mark less

-- The character `<` is next, but not `<=`.
abbrev pub at_less_only : Look
at_less_only = at_mark less but_not at_mark less_equals

-- The character `>` is next, alone or as the first character of a longer mark.
abbrev pub at_greater : Look
at_greater = at_mark greater

-- The character `&` is next, alone or as the first character of a longer mark.
abbrev pub at_ampersand : Look
at_ampersand = at_mark ampersand

-- The character `*` is next, alone or as the first character of a longer mark.
abbrev pub at_star : Look
at_star = at_mark star

-- The character `!` is next, alone or as the first character of a longer mark.
abbrev pub at_exclamation : Look
at_exclamation = at_mark exclamation

-- The character `?` is next.
abbrev pub at_question : Look
at_question = at_mark question

-- The mark `->` is next.
abbrev pub at_arrow : Look
at_arrow = at_mark arrow

-- A group in parentheses is next.
abbrev pub at_paren : Look
at_paren = at_group Paren

-- A group in braces is next.
abbrev pub at_brace : Look
at_brace = at_group Brace

-- A group in brackets is next.
abbrev pub at_bracket : Look
at_bracket = at_group Bracket

-- An invisible group is next: a group whose delimiters have no text.
abbrev pub at_invisible : Look
at_invisible = at_group None

-- `pub` is next, or an empty invisible group, which represents an omitted visibility.
abbrev pub at_visibility : Look
at_visibility = at_word w_pub or_else at_empty_group

-- A literal of any kind is next.
abbrev pub at_any_literal : Look
at_any_literal = at_literal Str or_else at_literal ByteStr or_else at_literal CStr or_else at_literal Byte or_else at_literal Char or_else at_literal Int or_else at_literal Float

-- `true`, `false` or a literal of any kind is next.
abbrev pub at_lit : Look
at_lit = at_word w_true or_else at_word w_false or_else at_any_literal

-- The first token of a constant is next: a group in braces, `true`, `false` or a literal.
abbrev pub at_constant : Look
at_constant = at_brace or_else at_lit

-- The arguments of a word in a type's path are next: `<` but not `<=`, a group in parentheses, or `::` followed by `<`.
abbrev pub at_arguments : Look
at_arguments = at_less_only or_else at_paren or_else (at_colons and_also ahead Before_less)

-- The next token tree is a group in parentheses whose content is `crate`, `self` or `super` alone, or begins with `in`.
abbrev pub at_restriction : Look
at_restriction = at_paren and_also (ahead Lone_word or_else ahead Begins_in)

-- An identifier that isn't a keyword, or `Self`, is next: a word of a path that may have arguments.
abbrev pub at_named_word : Look
at_named_word = at_name or_else at_word w_Self_type

-- A type that is stored verbatim is next: `struct`, or `union` followed by a group in braces.
abbrev pub at_nameless_fields : Look
at_nameless_fields = at_word w_struct or_else at_word w_union and_also ahead Before_brace

-- An identifier is next, followed by `=`.
abbrev pub at_association : Look
at_association = at_name and_also ahead Before_equals

-- A token that ends the bounds of a parameter is next: `,`, `>` or `=`.
abbrev pub at_parameter_end : Look
at_parameter_end = at_comma or_else at_greater or_else at_equals

-- A token that ends a where clause or the bounds of a predicate is next: a group in braces, `,`, `;`, `=` or a `:` that isn't `::`; or the stream ends.
abbrev pub at_predicate_end : Look
at_predicate_end = ended or_else at_brace or_else at_comma or_else at_semicolon or_else at_equals or_else at_lone_colon

-- LOOKS of patterns, expressions and statements

-- The mark `!` is next, but not `!=`.
abbrev pub at_bang : Look
at_bang = at_mark exclamation but_not at_mark not_equals

-- The mark `.` is next, but not `..`.
abbrev pub at_dot : Look
at_dot = at_mark dot but_not at_mark dots

-- The character `-` is next, alone or as the first character of a longer mark.
abbrev pub at_minus : Look
at_minus = at_mark minus

-- A postfix that continues a whole expression is next: `?`, or a `.` that isn't `..`.
abbrev pub at_postfix_mark : Look
at_postfix_mark = at_question or_else at_dot

-- The arguments of a word in an expression's path are next: `::` followed by `<`.
abbrev pub at_turbofish : Look
at_turbofish = at_colons and_also ahead Before_less

-- A path in module style is next, or its leading `::`.
abbrev pub at_module_path : Look
at_module_path = at_path_word or_else at_colons

-- A macro is next: a path in module style, followed by a `!` that isn't `!=`.
abbrev pub at_macro : Look
at_macro = at_module_path and_also ahead Before_macro

-- A macro with a group in braces is next.
abbrev pub at_brace_macro : Look
at_brace_macro = at_module_path and_also ahead Bang_brace

-- A token that any expression may begin with is next.
abbrev pub at_whole_expression : Look
at_whole_expression = at_any_literal or_else at_word w_true or_else at_word w_false or_else at_path_word or_else at_colons or_else at_less or_else at_word w_if or_else at_word w_loop or_else at_word w_while or_else at_word w_for or_else at_word w_unsafe or_else at_word w_return or_else at_word w_break or_else at_word w_continue or_else at_paren or_else at_bracket or_else at_brace or_else at_minus or_else at_exclamation or_else at_star or_else at_ampersand or_else at_pound or_else at_lifetime

-- A path is next, in a place for a pattern: `::`, `<`, `Self`, `super`, `crate`, `self` followed by `::`, or an identifier that isn't a
-- keyword, followed by `::` or a group in parentheses.
abbrev pub at_pattern_path : Look
at_pattern_path = at_colons or_else at_less or_else at_word w_Self_type or_else at_word w_super or_else at_word w_crate or_else (at_word w_self and_also ahead Before_colons) or_else (at_name and_also (ahead Before_colons or_else ahead Before_paren))

-- `ref` or `mut` is next.
abbrev pub at_binding_word : Look
at_binding_word = at_word w_ref or_else at_word w_mut

-- An expression that may be a statement without a semicolon is next: a block, a label, `if`, `while`, `for`, `loop` or `unsafe`.
abbrev pub at_block_like : Look
at_block_like = at_brace or_else at_lifetime or_else at_word w_if or_else at_word w_while or_else at_word w_for or_else at_word w_loop or_else at_word w_unsafe

-- A token that is refused after a whole expression is next: the start of a postfix, or a comparison operator.
abbrev pub at_unfinished : Look
at_unfinished = at_paren or_else at_bracket or_else at_question or_else at_dot or_else at_mark equal_equal or_else at_mark not_equals or_else at_less or_else at_greater

-- `crate` is next and `::` doesn't follow it: as a statement it begins an item, unless it is the path of a macro in braces.
abbrev pub at_lone_crate : Look
at_lone_crate = at_word w_crate but_not ahead Before_colons

-- `crate` is next, as the whole path of a macro with a group in braces.
abbrev pub at_crate_macro : Look
at_crate_macro = at_lone_crate and_also ahead Bang_brace

-- The operator `*` is next, but not `*=`.
abbrev pub at_star_operator : Look
at_star_operator = at_mark star but_not at_mark star_equals

-- The operator `/` is next, but not `/=`.
abbrev pub at_slash_operator : Look
at_slash_operator = at_mark slash but_not at_mark slash_equals

-- The operator `%` is next, but not `%=`.
abbrev pub at_percent_operator : Look
at_percent_operator = at_mark percent but_not at_mark percent_equals

-- The operator `+` is next, but not `+=`.
abbrev pub at_plus_operator : Look
at_plus_operator = at_mark plus but_not at_mark plus_equals

-- The operator `-` is next, but not `-=`.
abbrev pub at_minus_operator : Look
at_minus_operator = at_mark minus but_not at_mark minus_equals

-- The operator `<<` is next, but not `<<=`.
abbrev pub at_less_less_operator : Look
at_less_less_operator = at_mark less_less but_not at_mark less_less_equals

-- The operator `>>` is next, but not `>>=`.
abbrev pub at_greater_greater_operator : Look
at_greater_greater_operator = at_mark greater_greater but_not at_mark greater_greater_equals

-- The operator `&` is next, but neither `&&` nor `&=`.
abbrev pub at_ampersand_operator : Look
at_ampersand_operator = at_mark ampersand but_not (at_mark and_and or_else at_mark ampersand_equals)

-- The operator `^` is next, but not `^=`.
abbrev pub at_caret_operator : Look
at_caret_operator = at_mark caret but_not at_mark caret_equals

-- The operator `|` is next, but neither `||` nor `|=`.
abbrev pub at_bar_operator : Look
at_bar_operator = at_mark bar but_not (at_mark or_or or_else at_mark bar_equals)

-- The operator `<` is next, but neither `<=` nor `<<`.
abbrev pub at_less_operator : Look
at_less_operator = at_mark less but_not (at_mark less_equals or_else at_mark less_less)

-- The operator `>` is next, but neither `>=` nor `>>`.
abbrev pub at_greater_operator : Look
at_greater_operator = at_mark greater but_not (at_mark greater_equals or_else at_mark greater_greater)

-- The operator `=` is next, but not `==`.
abbrev pub at_equals_operator : Look
at_equals_operator = at_mark equals but_not at_mark equal_equal

-- The mark `..` is next, alone or as the first character of a longer mark.
abbrev pub at_dots : Look
at_dots = at_mark dots

-- LOOKS of items

-- The mark `...` is next.
abbrev pub at_ellipsis : Look
at_ellipsis = at_mark ellipsis

-- `extern` is next.
abbrev pub at_extern : Look
at_extern = at_word w_extern

-- `where` is next.
abbrev pub at_where : Look
at_where = at_word w_where

-- `for` is next.
abbrev pub at_for : Look
at_for = at_word w_for

-- `safe` or `unsafe` is next.
abbrev pub at_safety : Look
at_safety = at_word w_safe or_else at_word w_unsafe

-- `self` is next, and `::` doesn't follow it.
abbrev pub at_own_self : Look
at_own_self = at_word w_self but_not ahead Before_colons

-- A receiver is next: `&`, `mut` followed by `self`, or `self`, where no `::` follows the `self`.
abbrev pub at_receiver : Look
at_receiver = at_ampersand or_else (at_word w_mut and_also ahead Before_own_self) or_else at_own_self

-- A token that ends the bounds of a trait alias is next: `where` or `;`.
abbrev pub at_alias_bounds_end : Look
at_alias_bounds_end = at_where or_else at_semicolon

-- A token that ends the bounds of a type is next: `where`, `=` or `;`.
abbrev pub at_type_bounds_end : Look
at_type_bounds_end = at_where or_else at_equals or_else at_semicolon

-- A token that ends the bounds of a trait is next: `where` or a group in braces.
abbrev pub at_supertraits_end : Look
at_supertraits_end = at_where or_else at_brace

-- A name that a macro may define is next: an identifier that isn't a keyword, or `try`.
abbrev pub at_macro_name : Look
at_macro_name = at_name or_else at_word w_try

-- A path is next whose macro can't be an item: it begins with `Self`, or with `default` followed by `::`.
abbrev pub at_no_macro_item : Look
at_no_macro_item = at_word w_Self_type or_else (at_word w_default and_also ahead Before_colons)

-- A path is next whose macro can't be a member of a trait: it begins with `Self` or `default`.
abbrev pub at_no_trait_macro : Look
at_no_trait_macro = at_word w_Self_type or_else at_word w_default

-- An item of a block, after its attributes, is next: a word that always begins one; `crate` without `::` after it, unless it is the
-- path of a macro in braces; `const` or `unsafe`, unless the tokens after it decide otherwise; `static`, `async`, `union`, `auto` or `default`,
-- where the tokens after it decide so; or a macro with a name.
abbrev pub at_item : Look
at_item = at_word w_pub or_else at_extern or_else at_word w_use or_else at_word w_fn or_else at_word w_mod or_else at_word w_type or_else at_word w_struct or_else at_word w_enum or_else at_word w_trait or_else at_word w_impl or_else at_word w_macro or_else (at_lone_crate but_not ahead Bang_brace) or_else ((at_word w_const or_else at_word w_unsafe) but_not ahead Not_item) or_else ((at_word w_static or_else at_word w_async or_else at_word w_union or_else at_word w_auto or_else at_word w_default) and_also ahead Begins_item) or_else (at_module_path and_also ahead Bang_name)

-- FACTS of the lookahead that words provide

-- The facts that a word of a path provides about the macro that it may name: those that a `::` before the word tests.
abbrev pub path_facts : List Fact
path_facts = Bang_brace ∷ Bang_name ∷ Before_macro ∷ []

-- The facts that the first word of a path in a type provides: those that a generic argument, the fields of a field named `_`, a visibility and the
-- generics of an impl test.
abbrev pub first_type_facts : List Fact
first_type_facts = Before_equals ∷ Before_brace ∷ Before_end ∷ Before_type_rest ∷ path_facts

-- The facts that a word of a path in an expression or a pattern provides.
abbrev pub expression_facts : List Fact
expression_facts = Begins_item ∷ Before_colons ∷ Before_paren ∷ Before_less ∷ path_facts

-- FORMS that several rules share

-- The type of a field named `_`: `struct`, or `union` followed by braces, with fields in braces; or a type.
abbrev pub nameless_type : Grammar
nameless_type = shaped untagged (when at_nameless_fields then rule nameless_fields else rule type)

-- No arguments after a word of a path.
abbrev pub no_arguments : Grammar
no_arguments = shaped untagged empty

-- A parameter of generics that isn't a lifetime: attributes; then `const`, a name, a colon, a type and an optional `=` with a constant;
-- or a name, an optional colon with bounds, and an optional `=` with a type. Without bounds the colon isn't printed.
abbrev pub parameter : Grammar
parameter =
    rule attributes
    & (when at_word w_const then plainly (word w_const) & plainly name & punctuation colon & rule type & (when at_equals then punctuation equals & rule constant else empty)
    else plainly name & vanishing false at_colon (punctuation colon & rule parameter_bounds) & (when at_equals then punctuation equals & rule type else empty))

-- Nothing, in the place of `else` and a block.
abbrev pub no_else : Grammar
no_else = shaped untagged empty

-- A block as an expression, after `else` or as a constant: it has no label and no inner attributes.
abbrev pub else_block : Grammar
else_block = shaped (operand Block) ((when at_lifetime then never else empty) & rule plain_body)

-- A word that begins an item only with certain tokens after it: other forms may test every fact of its lookahead.
abbrev pub item_word : Text → Grammar
item_word x = asking (word x)

-- Such a word if it is next, or nothing.
abbrev pub optional_item_word : Text → Grammar
optional_item_word x = when at_word x then item_word x else empty

-- A name or `_`.
abbrev pub name_or_underscore : Grammar
name_or_underscore = plainly (name_or (w_underscore ∷ []))

-- The group of a macro.
abbrev pub macro_group : Grammar
macro_group = when at_paren then raw Paren else when at_bracket then raw Bracket else raw Brace

-- `=` and a value, or nothing.
abbrev pub optional_value : Grammar
optional_value = when at_equals then punctuation equals & rule whole_expression else empty

-- `=` and a type, or nothing.
abbrev pub optional_type : Grammar
optional_type = when at_equals then punctuation equals & rule type else empty

-- `where` and predicates; the clause is stored even if it has no predicates.
abbrev pub kept_where_clause : Grammar
kept_where_clause = plainly (word w_where) & rule predicates

-- The same if `where` is next, or nothing.
abbrev pub optional_where_clause : Grammar
optional_where_clause = when at_where then kept_where_clause else empty

-- Generics; they are stored even if they are empty.
abbrev pub kept_generics : Grammar
kept_generics = ordered (rule lifetime_parameter) parameter

-- The part after the name of a constant that is stored verbatim: generics, a type, a value, a where clause and `;`. It has generics or a where
-- clause, or it lacks a value.
abbrev pub odd_value : Grammar
odd_value =
    when at_less then kept_generics & punctuation colon & rule type & optional_value & optional_where_clause & punctuation semicolon
    else punctuation colon & rule type & (when at_equals then punctuation equals & rule whole_expression & kept_where_clause & punctuation semicolon else optional_where_clause & punctuation semicolon)

-- A type and a where clause after the bounds of a type that is stored verbatim: the clause is before the `=` or after the type, and both are
-- optional.
abbrev pub type_and_clause : Grammar
type_and_clause =
    when at_where then kept_where_clause & optional_type
    else when at_equals then punctuation equals & rule type & optional_where_clause
    else empty

-- RULES

abbrev pub table : Rule → Grammar
--
-- Outer attributes: while `#` is next, `#` and a group in brackets with the attribute's meta.
-- Inner attributes that a tree built by hand has at a node without a place for them are not printed.
table attributes =
    when at_pound then (asking_punctuation pound & inside Bracket (rule meta)) & rule attributes
    else unshown
--
-- Inner attributes: while `#` followed by `!` is next, both and a group in brackets with the attribute's meta.
-- Outer attributes that a tree built by hand has among them are not printed.
table inner_attributes =
    when at_inner_attribute then (asking_punctuation pound & punctuation exclamation & inside Bracket (rule meta)) & rule inner_attributes
    else unshown
--
-- The meta of an attribute: a path in module style or `unsafe`, and its value.
table meta =
    shaped untagged (when at_word w_unsafe then rule unsafe_path else rule module_path)
    & rule meta_value
--
-- The word `unsafe` as a path of one word. (A meta parses this only if `unsafe` is next.)
table unsafe_path =
    (when at_colons then never else empty)
    & rule unsafe_word
--
-- The word `unsafe`, not followed by `::`.
table unsafe_word =
    shaped untagged (plainly (word w_unsafe) & no_arguments)
    & (when at_colons then never else empty)
--
-- The value of an attribute: a group of any content; or `=` and all remaining tokens, at least one token tree; or nothing.
table meta_value =
    when at_paren then raw Paren
    else when at_brace then raw Brace
    else when at_bracket then raw Bracket
    else when at_equals then rest_after equals
    else empty
--
-- A path in module style: an optional `::`, then the words of the path.
table module_path =
    (when at_colons then asking_punctuation colons else empty)
    & rule module_words
--
-- The words of a path: an identifier that isn't a keyword, `self`, `Self`, `super` or `crate`;
-- then, if `::` is next, that mark and the remaining words.
table module_words =
    shaped untagged (asking (name_or (w_self ∷ w_Self_type ∷ w_super ∷ w_crate ∷ [])) & no_arguments)
    & (when at_colons then asking_punctuation colons & rule module_words else empty)
--
-- A visibility: `pub` with its restriction in parentheses, `pub` alone, or nothing. Parentheses belong to it
-- if they hold `crate`, `self` or `super` alone, or begin with `in`; then they must hold a restriction. Other parentheses are not consumed.
-- An empty invisible group represents an omitted visibility and is never printed.
table visibility =
    when at_word w_pub
    then plainly (word w_pub) & (when at_restriction then inside Paren (rule restriction) else empty)
    else vanishing true at_empty_group (inside None empty)
--
-- The content of a visibility's parentheses: an optional `in`, and a path in module style.
-- (A visibility parses this only before `in`, or if `crate`, `self` or `super` is alone in the parentheses.)
table restriction =
    optional w_in
    & rule module_path
--
-- A path in a type: an optional `::`, then its words with their arguments.
table type_path =
    (when at_colons then punctuation colons else empty)
    & rule type_words
--
-- The words of a path in a type: each an identifier that isn't a keyword, or `Self`, with its arguments if they are next;
-- or `self`, `super` or `crate`; then, if `::` is next, that mark and more words.
table type_words =
    shaped untagged (when at_named_word then token first_type_facts (name_or (w_Self_type ∷ [])) & shaped untagged (when at_arguments then rule type_arguments else empty)
    else token first_type_facts (name_or (w_self ∷ w_super ∷ w_crate ∷ [])) & no_arguments)
    & (when at_colons then asking_punctuation colons & rule more_type_words else empty)
--
-- The words of a path in a type after `::`; they have the form of the first ones.
table more_type_words =
    shaped untagged (when at_named_word then token path_facts (name_or (w_Self_type ∷ [])) & shaped untagged (when at_arguments then rule type_arguments else empty)
    else token path_facts (name_or (w_self ∷ w_super ∷ w_crate ∷ [])) & no_arguments)
    & (when at_colons then asking_punctuation colons & rule more_type_words else empty)
--
-- The arguments of a word in a type's path: types in parentheses and a return type; or generic arguments in `< >`, with an optional `::`
-- before them. (A path parses this only if arguments are next.)
table type_arguments =
    when at_paren then inside Paren (rule types) & rule return_type
    else (when at_colons then asking_punctuation colons else empty) & rule generic_arguments
--
-- A return type: `->` and a type, or nothing.
table return_type =
    when at_arrow then punctuation arrow & rule type else empty
--
-- Generic arguments in `< >`: lifetimes and others in any order, separated by commas; a trailing comma is allowed.
-- Lifetimes are printed first.
table generic_arguments =
    ordered lifetime (rule generic_argument)
--
-- A generic argument that isn't a lifetime: a name, `=` and a type, if `=` follows the name; a constant; or a type.
table generic_argument =
    when at_association then telling Before_equals name & punctuation equals & rule type
    else when at_constant then rule constant
    else rule type
--
-- A qualified path in a type: in `< >` a type and optionally `as` and a path; then `::` and words.
-- An `as` that a tree built by hand has without a path is not printed.
table qualified_path =
    asking_punctuation less
    & rule type
    & (when at_word w_as then plainly (word w_as) & rule type_path else unshown)
    & punctuation greater
    & punctuation colons
    & rule type_words
--
-- A path as a type: a qualified path if `<` is next, else a path.
table path_as_type =
    when at_less then rule qualified_path
    else rule type_path
--
-- A type: a reference, with an optional lifetime and optional `mut`; a pointer, `const` or `mut`; a tuple or a type in parentheses; a slice,
-- or an array with an expression as its length; the never type; an invisible group that holds a type; or a path, qualified or not.
table type =
    when at_ampersand then punctuation ampersand & (when at_lifetime then lifetime else empty) & optional w_mut & rule type
    else when at_star then punctuation star & (when at_word w_const then plainly (word w_const) else plainly (word w_mut)) & rule type
    else when at_paren then inside Paren (rule types)
    else when at_bracket then inside Bracket (rule type & (when at_semicolon then punctuation semicolon & rule whole_expression else empty))
    else when at_exclamation then punctuation exclamation
    else when at_invisible then inside None (rule type)
    else rule path_as_type
--
-- Types, separated by commas; a trailing comma is allowed.
table types =
    when ended then empty
    else rule type & (when at_comma then punctuation comma & rule types else empty)
--
-- A constant: a block, a literal, `true` or `false`. Its value is an expression, and no attributes are parsed before it.
table constant =
    shaped choice (when at_brace then else_block
    else when at_word w_true then shaped (operand Lit) (plainly (word w_true))
    else when at_word w_false then shaped (operand Lit) (plainly (word w_false))
    else shaped (operand Lit) (plainly any_literal))
--
-- Generics, if `<` is next: lifetime parameters and others in any order, separated by commas; a trailing comma is allowed.
-- Lifetimes are printed first; without parameters nothing is printed.
table generics =
    vanishing false at_less (ordered (rule lifetime_parameter) parameter)
--
-- A lifetime parameter: attributes, a lifetime, and an optional colon with lifetimes. Without lifetimes the colon isn't printed.
table lifetime_parameter =
    rule attributes
    & lifetime
    & vanishing false at_colon (punctuation colon & rule lifetimes)
--
-- Lifetimes, joined by `+`; the list may be empty, and may end with `+`.
table lifetimes =
    when at_lifetime then lifetime & (when at_plus then punctuation plus & rule lifetimes else empty)
    else empty
--
-- The bounds of a parameter, joined by `+`, up to a token that ends them at the start or after a `+`; the list may be empty, and may end with `+`.
table parameter_bounds =
    when at_parameter_end then empty
    else rule bound & (when at_plus then punctuation plus & rule parameter_bounds else empty)
--
-- A bound: a lifetime, or a trait, alone or in parentheses.
table bound =
    when at_lifetime then lifetime
    else when at_paren then inside Paren (rule trait_bound)
    else rule trait_bound
--
-- A trait as a bound: an optional `?`, an optional `for` with lifetimes, and a path.
table trait_bound =
    (when at_question then punctuation question else empty)
    & (when at_word w_for then plainly (word w_for) & rule bound_lifetimes else empty)
    & rule type_path
--
-- The lifetimes after `for`: lifetime parameters in `< >`.
table bound_lifetimes =
    punctuation less
    & rule lifetime_parameters
    & punctuation greater
--
-- Lifetime parameters up to `>`, separated by commas; a trailing comma is allowed.
table lifetime_parameters =
    when at_greater then empty
    else rule lifetime_parameter & (when at_comma then punctuation comma & rule lifetime_parameters else empty)
--
-- A where clause, if `where` is next. Without predicates nothing is printed.
table where_clause =
    vanishing false (at_word w_where) (plainly (word w_where) & rule predicates)
--
-- The predicates of a where clause, separated by commas, up to a token that ends them at the start or after a comma; a trailing comma
-- is allowed.
table predicates =
    when at_predicate_end then empty
    else rule predicate & (when at_comma then punctuation comma & rule predicates else empty)
--
-- A predicate: a lifetime, a colon and lifetimes; or an optional `for` with lifetimes, a type, a colon and bounds.
table predicate =
    when at_lifetime then lifetime & punctuation colon & rule lifetimes
    else (when at_word w_for then plainly (word w_for) & rule bound_lifetimes else empty) & rule type & punctuation colon & rule predicate_bounds
--
-- The bounds of a predicate, joined by `+`, up to a token that ends them at the start or after a `+`; the list may be empty, and may end with `+`.
table predicate_bounds =
    when at_predicate_end then empty
    else rule bound & (when at_plus then punctuation plus & rule predicate_bounds else empty)
--
-- Fields with names, in braces.
table fields_named =
    inside Brace (rule named_fields)
--
-- Fields with names, separated by commas; a trailing comma is allowed.
table named_fields =
    when ended then empty
    else rule named_field & (when at_comma then punctuation comma & rule named_fields else empty)
--
-- A field with a name: attributes, a visibility, a name or `_`, a colon and a type; and an optional `=` with a default value.
table named_field =
    rule attributes
    & rule visibility
    & shaped untagged (when at_word w_underscore then plainly (word w_underscore) & punctuation colon & nameless_type else plainly name & punctuation colon & shaped untagged (rule type))
    & (when at_equals then punctuation equals & rule whole_expression else empty)
--
-- The fields of a field named `_`: `struct` or `union` and fields in braces, stored verbatim.
-- (A field parses this only before `struct`, or before `union` followed by braces.)
table nameless_fields =
    captured ((when at_word w_struct then plainly (word w_struct) else plainly (word w_union)) & rule fields_named)
--
-- A field without a name: attributes, a visibility and a type. A `=` after it is refused.
-- A colon that a tree built by hand has is not printed.
table unnamed_field =
    rule attributes
    & rule visibility
    & unshown
    & rule type
    & (when at_equals then never else empty)
--
-- Fields without names: none, or one followed optionally by a comma and the others. A trailing comma is allowed.
table unnamed_fields =
    when ended then empty
    else rule unnamed_field & (when at_comma then punctuation comma & rule unnamed_fields else empty)
--
-- The fields of a tuple struct, in parentheses.
table fields_unnamed =
    inside Paren (rule unnamed_fields)
--
-- A variant of an enum: attributes, a visibility, which is never printed, a name, fields in braces, in parentheses or none;
-- and an optional `=` with a value.
table variant =
    rule attributes
    & vanishing true at_visibility (when at_word w_pub then rule visibility else inside None empty)
    & plainly name
    & (when at_brace then rule fields_named else when at_paren then rule fields_unnamed else empty)
    & (when at_equals then punctuation equals & rule whole_expression else empty)
--
-- Variants, separated by commas; a trailing comma is allowed.
table variants =
    when ended then empty
    else rule variant & (when at_comma then punctuation comma & rule variants else empty)
--
-- A struct with its attributes.
table structure =
    rule attributes
    & rule structure_rest
--
-- A struct after its attributes: a visibility, `struct`, a name, generics and a body.
table structure_rest =
    rule visibility
    & plainly (word w_struct)
    & plainly name
    & rule generics
    & rule structure_body
--
-- The part of a struct after its generics: fields in parentheses, a where clause and `;`; or a where clause, then fields in braces
-- or `;` alone. A semicolon that a tree built by hand has after braces is not printed.
table structure_body =
    when at_paren then rule fields_unnamed & rule where_clause & punctuation semicolon
    else rule where_clause & (when at_brace then unshown & rule fields_named else punctuation semicolon)
--
-- An enum with its attributes.
table enumeration =
    rule attributes
    & rule enumeration_rest
--
-- An enum after its attributes: a visibility, `enum`, a name, generics, a where clause, and its variants in braces.
table enumeration_rest =
    rule visibility
    & plainly (word w_enum)
    & plainly name
    & rule generics
    & rule where_clause
    & inside Brace (rule variants)
--
-- A union with its attributes.
table union_item =
    rule attributes
    & rule union_item_rest
--
-- A union after its attributes: a visibility, `union`, a name, generics, a where clause, and its fields in braces.
table union_item_rest =
    rule visibility
    & item_word w_union
    & plainly name
    & rule generics
    & rule where_clause
    & rule fields_named
--
-- The input of a derive: a struct, an enum or a union.
table derive_input =
    one_of (structure ∷ enumeration ∷ union_item ∷ [])
--
-- A path in an expression or a pattern: an optional `::`, then its words.
table expression_path =
    (when at_colons then asking_punctuation colons else empty)
    & rule expression_words
--
-- The words of a path in an expression or a pattern: each an identifier that isn't a keyword, or `Self`, with its arguments if `::` and
-- `<` are next; or `self`, `super` or `crate`; then, if `::` is next, that mark and more words.
table expression_words =
    shaped untagged (when at_named_word then token expression_facts (name_or (w_Self_type ∷ [])) & shaped untagged (when at_turbofish then rule type_arguments else empty)
    else token expression_facts (name_or (w_self ∷ w_super ∷ w_crate ∷ [])) & no_arguments)
    & (when at_colons then asking_punctuation colons & rule expression_words else empty)
--
-- A qualified path in an expression or a pattern: in `< >` a type and optionally `as` and a path; then `::` and words.
-- An `as` that a tree built by hand has without a path is not printed.
table qualified_expression_path =
    punctuation less
    & rule type
    & (when at_word w_as then plainly (word w_as) & rule type_path else unshown)
    & punctuation greater
    & punctuation colons
    & rule expression_words
--
-- A path as an expression: a qualified path if `<` is next, else a path.
table path_as_expression =
    when at_less then rule qualified_expression_path
    else rule expression_path
--
-- A macro: a path in module style, `!` that isn't `!=`, and a group of any content.
table macro_invocation =
    rule module_path
    & (when at_bang then asking_punctuation exclamation else never)
    & macro_group
--
-- A pattern: `_`; a tuple or a pattern in parentheses; a path, qualified or not, optionally with patterns in parentheses;
-- or a name that no `::` follows, optionally after `ref`, `mut` or both.
table pattern =
    when at_word w_underscore then plainly (word w_underscore)
    else when at_paren then inside Paren (rule patterns)
    else when at_pattern_path then rule path_as_expression & (when at_paren then inside Paren (rule patterns) else empty)
    else when at_binding_word then optional w_ref & (when at_word w_mut then telling Before_own_self (word w_mut) else empty) & plainly name
    else token expression_facts name & (when at_colons then never else empty)
--
-- Patterns, separated by commas; a trailing comma is allowed.
table patterns =
    when ended then empty
    else rule pattern & (when at_comma then punctuation comma & rule patterns else empty)
--
-- Expressions, separated by commas; a trailing comma is allowed.
table expressions =
    when ended then empty
    else rule whole_expression & (when at_comma then punctuation comma & rule expressions else empty)
--
-- The content of an array's brackets: nothing; an expression, `;` and the number of its copies; or expressions, separated by commas; a
-- trailing comma is allowed.
table array_content =
    when ended then empty
    else rule whole_expression & (when at_semicolon then punctuation semicolon & rule whole_expression else when at_comma then punctuation comma & rule expressions else empty)
--
-- A block without inner attributes: statements in braces.
table block =
    inside Brace (rule statements)
--
-- A block: inner attributes and statements, in braces.
table body =
    inside Brace (rule inner_attributes & rule statements)
--
-- A block where inner attributes aren't parsed; those that a tree built by hand has are printed.
table plain_body =
    inside Brace (rule no_inner_attributes & rule statements)
--
-- No inner attributes: `#` followed by `!` must not be next. Inner attributes that a tree built by hand has are printed.
table no_inner_attributes =
    when at_inner_attribute then never
    else unshown
--
-- An expression without attributes, prefix operators and postfixes: a literal, a macro, a group in parentheses or brackets, an
-- invisible group that holds an expression, a block or an expression that ends with one, `return` with an optional expression, `break` or
-- `continue` with an optional lifetime, or a path, optionally with the fields of a struct literal in braces. No token that an expression
-- may begin with may follow `break` and its lifetime.
table primary =
    shaped choice (when at_word w_true then shaped (operand Lit) (plainly (word w_true))
    else when at_word w_false then shaped (operand Lit) (plainly (word w_false))
    else when at_any_literal then shaped (operand Lit) (plainly any_literal)
    else when at_macro then shaped (operand Macro) (rule macro_invocation)
    else when at_paren then shaped bracketed (inside Paren (rule expressions))
    else when at_bracket then shaped bracketed (inside Bracket (rule array_content))
    else when at_invisible then shaped (operand Grouped) (inside None (rule whole_expression))
    else when at_block_like then rule block_like
    else when at_word w_return then shaped (operand Return) (plainly (word w_return) & (when at_whole_expression then rule whole_expression else empty))
    else when at_word w_break then shaped (operand Break) (plainly (word w_break) & (when at_lifetime then lifetime else empty) & (when at_whole_expression then never else empty))
    else when at_word w_continue then shaped (operand Continue) (plainly (word w_continue) & (when at_lifetime then lifetime else empty))
    else shaped chain (shaped (operand Path) (rule path_as_expression) & (when at_brace then shaped fields (inside Brace (rule literal_fields)) else empty)))
--
-- The fields of a struct literal, separated by commas; a trailing comma is allowed. The last part, or the only one, may be `..` and an
-- expression; then nothing may follow.
table literal_fields =
    shaped based (when ended then empty
    else when at_dots then punctuation dots & rule whole_expression
    else rule literal_field & (when at_comma then punctuation comma & rule literal_fields else empty))
--
-- A field of a struct literal: attributes; then a number, `:` and an expression, or a name, optionally with `:` and an expression.
-- An expression that a tree built by hand has at a name alone is not printed.
table literal_field =
    rule attributes
    & (when at_literal Int then plainly index & punctuation colon & rule whole_expression
    else plainly name & (when at_colon then punctuation colon & rule whole_expression else unshown))
--
-- A block, or an expression that ends with one: `if`, an `unsafe` block, or a block or a loop with an optional label.
table block_like =
    shaped choice (when at_word w_if then rule if_expression
    else when at_word w_unsafe then shaped (operand Unsafe) (item_word w_unsafe & rule body)
    else shaped labelled ((when at_lifetime then lifetime & punctuation colon else empty) & (when at_brace then shaped (operand Block) (rule body) else rule loop_expression)))
--
-- `if`: an expression, in which a path takes no braces, and a block; then, if `else` is next, `else` and a block or another `if`.
table if_expression =
    shaped (operand If) (plainly (word w_if) & rule whole_expression_head & rule block
    & (when at_word w_else then plainly (word w_else) & (when at_brace then else_block else rule if_expression) else empty))
--
-- A loop: `loop` and a block; `while`, an expression and a block; or `for`, a pattern, `in`, an expression and a block. In these expressions
-- a path takes no braces.
table loop_expression =
    shaped choice (when at_word w_loop then shaped (operand Loop) (plainly (word w_loop) & rule body)
    else when at_word w_while then shaped (operand While) (plainly (word w_while) & rule whole_expression_head & rule body)
    else shaped (operand ForLoop) (plainly (word w_for) & rule pattern & plainly (word w_in) & rule whole_expression_head & rule body))
--
-- Any number of postfixes: the arguments of a call, an index, `?`, or `.` and a member.
table postfixes =
    when at_paren then shaped (after_it Call) (inside Paren (rule expressions)) & rule postfixes
    else when at_bracket then shaped (after_it Index) (inside Bracket (rule whole_expression)) & rule postfixes
    else when at_question then shaped (after_it Try) (punctuation question) & rule postfixes
    else when at_dot then shaped dotted (punctuation dot & rule member) & rule postfixes
    else empty
--
-- A member: the number or the name of a field; or the name of a method, optionally `::` with generic arguments, and arguments in parentheses.
table member =
    when at_literal Int then plainly index
    else plainly name & (when at_colons then punctuation colons & rule generic_arguments & inside Paren (rule expressions) else when at_paren then inside Paren (rule expressions) else empty)
--
-- A unary level: attributes, which belong to all of it; then `-`, `!`, `*`, `&` or `&mut` and another unary level, or an expression with its
-- postfixes.
table unary =
    shaped leading (rule attributes
    & (when at_minus then shaped (operand Unary) (punctuation minus & rule unary)
    else when at_exclamation then shaped (operand Unary) (punctuation exclamation & rule unary)
    else when at_star then shaped (operand Unary) (punctuation star & rule unary)
    else when at_ampersand then shaped (operand Reference) (punctuation ampersand & optional w_mut & rule unary)
    else shaped chain (rule primary & rule postfixes)))
--
-- Casts, any number of them: `as` and a type.
table casts =
    when at_word w_as then shaped (operator Cast) (plainly (word w_as) & rule type) & rule casts
    else empty
--
-- A unary level and its casts.
table cast =
    shaped chain (rule unary & rule casts)
--
-- The operators `*`, `/` and `%` after an operand, each with its right operand, any number of times.
table products =
    when at_star_operator then shaped (operator Binary) (punctuation star & rule cast) & rule products
    else when at_slash_operator then shaped (operator Binary) (punctuation slash & rule cast) & rule products
    else when at_percent_operator then shaped (operator Binary) (punctuation percent & rule cast) & rule products
    else empty
--
-- A product: casts with `*`, `/` and `%` between them, grouped from the left.
table product =
    shaped chain (rule cast & rule products)
--
-- The operators `+` and `-` after an operand, each with its right operand, any number of times.
table sums =
    when at_plus_operator then shaped (operator Binary) (punctuation plus & rule product) & rule sums
    else when at_minus_operator then shaped (operator Binary) (punctuation minus & rule product) & rule sums
    else empty
--
-- A sum: products with `+` and `-` between them, grouped from the left.
table sum =
    shaped chain (rule product & rule sums)
--
-- The operators `<<` and `>>` after an operand, each with its right operand, any number of times.
table shifts =
    when at_less_less_operator then shaped (operator Binary) (punctuation less_less & rule sum) & rule shifts
    else when at_greater_greater_operator then shaped (operator Binary) (punctuation greater_greater & rule sum) & rule shifts
    else empty
--
-- A shift: sums with `<<` and `>>` between them, grouped from the left.
table shift =
    shaped chain (rule sum & rule shifts)
--
-- The operator `&` after an operand, with its right operand, any number of times.
table bit_ands =
    when at_ampersand_operator then shaped (operator Binary) (punctuation ampersand & rule shift) & rule bit_ands
    else empty
--
-- Shifts with `&` between them, grouped from the left.
table bit_and =
    shaped chain (rule shift & rule bit_ands)
--
-- The operator `^` after an operand, with its right operand, any number of times.
table bit_xors =
    when at_caret_operator then shaped (operator Binary) (punctuation caret & rule bit_and) & rule bit_xors
    else empty
--
-- Operands of the form `bit_and` with `^` between them, grouped from the left.
table bit_xor =
    shaped chain (rule bit_and & rule bit_xors)
--
-- The operator `|` after an operand, with its right operand, any number of times.
table bit_ors =
    when at_bar_operator then shaped (operator Binary) (punctuation bar & rule bit_xor) & rule bit_ors
    else empty
--
-- Operands of the form `bit_xor` with `|` between them, grouped from the left.
table bit_or =
    shaped chain (rule bit_xor & rule bit_ors)
--
-- A comparison operator after an operand, with its right operand, at most once.
table compared =
    when at_mark equal_equal then shaped (operator Binary) (punctuation equal_equal & rule bit_or)
    else when at_mark not_equals then shaped (operator Binary) (punctuation not_equals & rule bit_or)
    else when at_less_operator then shaped (operator Binary) (punctuation less & rule bit_or)
    else when at_greater_operator then shaped (operator Binary) (punctuation greater & rule bit_or)
    else when at_mark less_equals then shaped (operator Binary) (punctuation less_equals & rule bit_or)
    else when at_mark greater_equals then shaped (operator Binary) (punctuation greater_equals & rule bit_or)
    else empty
--
-- A comparison: one operand, or two with `==`, `!=`, `<`, `>`, `<=` or `>=` between them.
table comparison =
    shaped chain (rule bit_or & rule compared)
--
-- The operator `&&` after an operand, with its right operand, any number of times.
table conjunctions =
    when at_mark and_and then shaped (operator Binary) (punctuation and_and & rule comparison) & rule conjunctions
    else empty
--
-- Comparisons with `&&` between them, grouped from the left.
table conjunction =
    shaped chain (rule comparison & rule conjunctions)
--
-- The operator `||` after an operand, with its right operand, any number of times.
table disjunctions =
    when at_mark or_or then shaped (operator Binary) (punctuation or_or & rule conjunction) & rule disjunctions
    else empty
--
-- Operands of the form `conjunction` with `||` between them, grouped from the left.
table disjunction =
    shaped chain (rule conjunction & rule disjunctions)
--
-- An assignment after an operand, by `=` or a compound operator such as `+=`, with its right operand; it groups from the right.
table assigned =
    when at_equals_operator then shaped (operator Assign) (punctuation equals & rule whole_expression)
    else when at_mark plus_equals then shaped (operator Binary) (punctuation plus_equals & rule whole_expression)
    else when at_mark minus_equals then shaped (operator Binary) (punctuation minus_equals & rule whole_expression)
    else when at_mark star_equals then shaped (operator Binary) (punctuation star_equals & rule whole_expression)
    else when at_mark slash_equals then shaped (operator Binary) (punctuation slash_equals & rule whole_expression)
    else when at_mark percent_equals then shaped (operator Binary) (punctuation percent_equals & rule whole_expression)
    else when at_mark caret_equals then shaped (operator Binary) (punctuation caret_equals & rule whole_expression)
    else when at_mark ampersand_equals then shaped (operator Binary) (punctuation ampersand_equals & rule whole_expression)
    else when at_mark bar_equals then shaped (operator Binary) (punctuation bar_equals & rule whole_expression)
    else when at_mark less_less_equals then shaped (operator Binary) (punctuation less_less_equals & rule whole_expression)
    else when at_mark greater_greater_equals then shaped (operator Binary) (punctuation greater_greater_equals & rule whole_expression)
    else empty
--
-- Any expression. No postfix and no comparison operator may follow it: after a cast, or after a comparison, these are refused.
table whole_expression =
    shaped chain (rule disjunction & rule assigned & (when at_unfinished then never else empty))
--
-- The same as `primary`, in the head of an `if`, a `while` or a `for`: there a path takes no braces.
table primary_head =
    shaped choice (when at_word w_true then shaped (operand Lit) (plainly (word w_true))
    else when at_word w_false then shaped (operand Lit) (plainly (word w_false))
    else when at_any_literal then shaped (operand Lit) (plainly any_literal)
    else when at_macro then shaped (operand Macro) (rule macro_invocation)
    else when at_paren then shaped bracketed (inside Paren (rule expressions))
    else when at_bracket then shaped bracketed (inside Bracket (rule array_content))
    else when at_invisible then shaped (operand Grouped) (inside None (rule whole_expression))
    else when at_block_like then rule block_like
    else when at_word w_return then shaped (operand Return) (plainly (word w_return) & (when at_whole_expression then rule whole_expression_head else empty))
    else when at_word w_break then shaped (operand Break) (plainly (word w_break) & (when at_lifetime then lifetime else empty) & (when at_whole_expression then never else empty))
    else when at_word w_continue then shaped (operand Continue) (plainly (word w_continue) & (when at_lifetime then lifetime else empty))
    else shaped (operand Path) (rule path_as_expression))
--
-- The same as `unary`, in the head of an `if`, a `while` or a `for`: there a path takes no braces.
table unary_head =
    shaped leading (rule attributes
    & (when at_minus then shaped (operand Unary) (punctuation minus & rule unary_head)
    else when at_exclamation then shaped (operand Unary) (punctuation exclamation & rule unary_head)
    else when at_star then shaped (operand Unary) (punctuation star & rule unary_head)
    else when at_ampersand then shaped (operand Reference) (punctuation ampersand & optional w_mut & rule unary_head)
    else shaped chain (rule primary_head & rule postfixes)))
--
-- The same as `cast`, in the head of an `if`, a `while` or a `for`: there a path takes no braces.
table cast_head =
    shaped chain (rule unary_head & rule casts)
--
-- The same as `products`, in the head of an `if`, a `while` or a `for`: there a path takes no braces.
table products_head =
    when at_star_operator then shaped (operator Binary) (punctuation star & rule cast_head) & rule products_head
    else when at_slash_operator then shaped (operator Binary) (punctuation slash & rule cast_head) & rule products_head
    else when at_percent_operator then shaped (operator Binary) (punctuation percent & rule cast_head) & rule products_head
    else empty
--
-- The same as `product`, in the head of an `if`, a `while` or a `for`: there a path takes no braces.
table product_head =
    shaped chain (rule cast_head & rule products_head)
--
-- The same as `sums`, in the head of an `if`, a `while` or a `for`: there a path takes no braces.
table sums_head =
    when at_plus_operator then shaped (operator Binary) (punctuation plus & rule product_head) & rule sums_head
    else when at_minus_operator then shaped (operator Binary) (punctuation minus & rule product_head) & rule sums_head
    else empty
--
-- The same as `sum`, in the head of an `if`, a `while` or a `for`: there a path takes no braces.
table sum_head =
    shaped chain (rule product_head & rule sums_head)
--
-- The same as `shifts`, in the head of an `if`, a `while` or a `for`: there a path takes no braces.
table shifts_head =
    when at_less_less_operator then shaped (operator Binary) (punctuation less_less & rule sum_head) & rule shifts_head
    else when at_greater_greater_operator then shaped (operator Binary) (punctuation greater_greater & rule sum_head) & rule shifts_head
    else empty
--
-- The same as `shift`, in the head of an `if`, a `while` or a `for`: there a path takes no braces.
table shift_head =
    shaped chain (rule sum_head & rule shifts_head)
--
-- The same as `bit_ands`, in the head of an `if`, a `while` or a `for`: there a path takes no braces.
table bit_ands_head =
    when at_ampersand_operator then shaped (operator Binary) (punctuation ampersand & rule shift_head) & rule bit_ands_head
    else empty
--
-- The same as `bit_and`, in the head of an `if`, a `while` or a `for`: there a path takes no braces.
table bit_and_head =
    shaped chain (rule shift_head & rule bit_ands_head)
--
-- The same as `bit_xors`, in the head of an `if`, a `while` or a `for`: there a path takes no braces.
table bit_xors_head =
    when at_caret_operator then shaped (operator Binary) (punctuation caret & rule bit_and_head) & rule bit_xors_head
    else empty
--
-- The same as `bit_xor`, in the head of an `if`, a `while` or a `for`: there a path takes no braces.
table bit_xor_head =
    shaped chain (rule bit_and_head & rule bit_xors_head)
--
-- The same as `bit_ors`, in the head of an `if`, a `while` or a `for`: there a path takes no braces.
table bit_ors_head =
    when at_bar_operator then shaped (operator Binary) (punctuation bar & rule bit_xor_head) & rule bit_ors_head
    else empty
--
-- The same as `bit_or`, in the head of an `if`, a `while` or a `for`: there a path takes no braces.
table bit_or_head =
    shaped chain (rule bit_xor_head & rule bit_ors_head)
--
-- The same as `compared`, in the head of an `if`, a `while` or a `for`: there a path takes no braces.
table compared_head =
    when at_mark equal_equal then shaped (operator Binary) (punctuation equal_equal & rule bit_or_head)
    else when at_mark not_equals then shaped (operator Binary) (punctuation not_equals & rule bit_or_head)
    else when at_less_operator then shaped (operator Binary) (punctuation less & rule bit_or_head)
    else when at_greater_operator then shaped (operator Binary) (punctuation greater & rule bit_or_head)
    else when at_mark less_equals then shaped (operator Binary) (punctuation less_equals & rule bit_or_head)
    else when at_mark greater_equals then shaped (operator Binary) (punctuation greater_equals & rule bit_or_head)
    else empty
--
-- The same as `comparison`, in the head of an `if`, a `while` or a `for`: there a path takes no braces.
table comparison_head =
    shaped chain (rule bit_or_head & rule compared_head)
--
-- The same as `conjunctions`, in the head of an `if`, a `while` or a `for`: there a path takes no braces.
table conjunctions_head =
    when at_mark and_and then shaped (operator Binary) (punctuation and_and & rule comparison_head) & rule conjunctions_head
    else empty
--
-- The same as `conjunction`, in the head of an `if`, a `while` or a `for`: there a path takes no braces.
table conjunction_head =
    shaped chain (rule comparison_head & rule conjunctions_head)
--
-- The same as `disjunctions`, in the head of an `if`, a `while` or a `for`: there a path takes no braces.
table disjunctions_head =
    when at_mark or_or then shaped (operator Binary) (punctuation or_or & rule conjunction_head) & rule disjunctions_head
    else empty
--
-- The same as `disjunction`, in the head of an `if`, a `while` or a `for`: there a path takes no braces.
table disjunction_head =
    shaped chain (rule conjunction_head & rule disjunctions_head)
--
-- The same as `assigned`, in the head of an `if`, a `while` or a `for`: there a path takes no braces.
table assigned_head =
    when at_equals_operator then shaped (operator Assign) (punctuation equals & rule whole_expression_head)
    else when at_mark plus_equals then shaped (operator Binary) (punctuation plus_equals & rule whole_expression_head)
    else when at_mark minus_equals then shaped (operator Binary) (punctuation minus_equals & rule whole_expression_head)
    else when at_mark star_equals then shaped (operator Binary) (punctuation star_equals & rule whole_expression_head)
    else when at_mark slash_equals then shaped (operator Binary) (punctuation slash_equals & rule whole_expression_head)
    else when at_mark percent_equals then shaped (operator Binary) (punctuation percent_equals & rule whole_expression_head)
    else when at_mark caret_equals then shaped (operator Binary) (punctuation caret_equals & rule whole_expression_head)
    else when at_mark ampersand_equals then shaped (operator Binary) (punctuation ampersand_equals & rule whole_expression_head)
    else when at_mark bar_equals then shaped (operator Binary) (punctuation bar_equals & rule whole_expression_head)
    else when at_mark less_less_equals then shaped (operator Binary) (punctuation less_less_equals & rule whole_expression_head)
    else when at_mark greater_greater_equals then shaped (operator Binary) (punctuation greater_greater_equals & rule whole_expression_head)
    else empty
--
-- The same as `whole_expression`, in the head of an `if`, a `while` or a `for`: there a path takes no braces.
table whole_expression_head =
    shaped chain (rule disjunction_head & rule assigned_head & (when at_unfinished then never else empty))
--
-- The part after the first operand of a statement that begins with a block or a macro in braces: postfixes, casts and operators of each
-- level.
table operand_rest =
    rule postfixes
    & rule casts
    & rule products
    & rule sums
    & rule shifts
    & rule bit_ands
    & rule bit_xors
    & rule bit_ors
    & rule compared
    & rule conjunctions
    & rule disjunctions
    & rule assigned
--
-- Statements to the end: none; `;` alone and more; or one, its attributes first, and more. An item that is stored verbatim includes its
-- attributes.
table statements =
    when ended then empty
    else shaped choice (when at_semicolon then shaped lone (punctuation semicolon & rule statements)
    else shaped listed (either (shaped an_item (rule kept_in_block) & rule statements) (rule attributes & (when at_item then shaped an_item (rule item_rest & rule statements) else rule statement_rest))))
--
-- A statement other than an item, after its attributes, and the statements that follow: a macro in braces, a local, a block or an expression
-- that ends with one, or another expression.
table statement_rest =
    when at_crate_macro then shaped said_macro (shaped (operand Macro) (rule macro_invocation) & (when at_postfix_mark then never else rule after_block))
    else when at_brace_macro then shaped said_macro (shaped (operand Macro) (rule macro_invocation) & rule after_block)
    else when at_word w_let then shaped a_local (rule local & rule statements)
    else when at_block_like then shaped said (rule block_like & rule after_block)
    else shaped said (rule whole_expression & rule after_expression)
--
-- The part after a block or a macro in braces in a list of statements: `;` and more; postfixes and operators, then `after_expression`; or more.
table after_block =
    when at_semicolon then punctuation semicolon & rule statements
    else when at_postfix_mark then rule operand_rest & rule after_expression
    else rule statements
--
-- The part after an expression in a list of statements: `;` and more, or the end.
table after_expression =
    when at_semicolon then punctuation semicolon & rule statements
    else when ended then empty
    else never
--
-- A single statement: an item, with its attributes, verbatim or of a kind; or attributes, and one of these: a macro in braces, a block or an
-- expression that ends with one, with an optional `;`; one of these with postfixes or operators, or another expression, with `;`; or a local.
table statement =
    shaped single (either (shaped an_item (rule kept_in_block)) (shaped attributed (rule attributes
    & (when at_item then shaped an_item (rule item_rest)
    else when at_crate_macro then rule crate_macro
    else when at_brace_macro then shaped said_macro (shaped (operand Macro) (rule macro_invocation) & rule statement_end)
    else when at_word w_let then shaped a_local (rule local)
    else when at_block_like then shaped said (rule block_like & rule statement_end)
    else shaped said (rule whole_expression & punctuation semicolon)))))
--
-- A macro of `crate` with a group in braces, as a single statement: a macro, with an optional `;`. But if a token that continues an expression
-- follows, it is an item, and that token is not consumed.
table crate_macro =
    shaped choice (either (shaped an_item (rule crate_macro_item & (when at_postfix_mark then empty else never)))
    (shaped said_macro (shaped (operand Macro) (rule brace_macro) & (when at_postfix_mark then never else rule statement_end))))
--
-- A macro with a group in braces.
table brace_macro =
    rule module_path
    & (when at_bang then asking_punctuation exclamation else never)
    & (when at_paren then never else when at_bracket then never else raw Brace)
--
-- The same as an item. (A statement parses this only after its attributes, at `crate`.)
table crate_macro_item =
    one_of (macro_as_item_rest ∷ [])
--
-- The part after a block or a macro in braces in a single statement: `;`; postfixes and operators, and `;`; or nothing.
table statement_end =
    when at_semicolon then punctuation semicolon
    else when at_postfix_mark then rule operand_rest & punctuation semicolon
    else empty
--
-- A local: `let`, a pattern, an optional colon with a type, an optional `=` with an expression, and `;`. After an expression that
-- doesn't end with braces, `else` and a block may follow.
table local =
    plainly (word w_let)
    & (rule pattern & (when at_colon then punctuation colon & rule type else empty))
    & (when at_equals then punctuation equals & shaped untagged (either (such trailing_brace (rule whole_expression) & no_else) (such no_trailing_brace (rule whole_expression) & shaped untagged (when at_word w_else then plainly (word w_else) & else_block else empty))) else empty)
    & punctuation semicolon
--
-- No attributes: `#` must not be next. Attributes that a tree built by hand has are printed.
table no_attributes =
    when at_pound then never
    else unshown
--
-- A receiver alone; no attributes are parsed before it.
table receiver =
    rule no_attributes
    & rule receiver_rest
--
-- A receiver after its attributes: `&`, an optional lifetime, an optional `mut`, and `self`; or an optional `mut`, `self` and an optional colon
-- with a type. No `::` follows the `self`. A second `mut` that a tree built by hand has after `&` is not printed.
table receiver_rest =
    when at_ampersand then punctuation ampersand & (when at_lifetime then lifetime else empty) & optional w_mut & unshown & plainly (word w_self) & (when at_colons then never else empty)
    else (when at_word w_mut then telling Before_own_self (word w_mut) else empty)
    & telling Before_colons (word w_self)
    & (when at_colons then never else when at_colon then punctuation colon & rule type else empty)
--
-- A parameter of a function: attributes, then a receiver; or a pattern, a colon and a type. If a name is followed by `<`, the parameter is a
-- type alone, and the tree has `_ :` before it.
table argument =
    rule attributes
    & (when at_receiver then rule receiver_rest else supplied Before_less (rule pattern) (rule type))
--
-- The parameters of a function, separated by commas; a trailing comma is allowed. Only the first may be a receiver.
table inputs =
    shaped parameters (when ended then empty
    else rule attributes
    & (when at_receiver then rule receiver_rest & (when at_comma then punctuation comma & rule later_inputs else empty) else rule input_rest))
--
-- The parameters after the first; none of them is a receiver.
table later_inputs =
    shaped parameters (when ended then empty
    else rule attributes
    & (when at_receiver then never else rule input_rest))
--
-- A parameter other than a receiver, after its attributes, and those that follow: a variadic one, with an optional pattern and colon; or a
-- pattern, a colon and a type, and after a comma the other parameters. If a name is followed by `<`, the parameter is a type alone, and the
-- tree has `_ :` before it.
table input_rest =
    when at_ellipsis then rule variadic
    else supplied Before_less (rule pattern) (when at_ellipsis then rule variadic else rule type & (when at_comma then punctuation comma & rule later_inputs else empty))
--
-- `...` and an optional comma, with nothing after them.
table variadic =
    punctuation ellipsis
    & (when at_comma then punctuation comma else empty)
    & (when ended then empty else never)
--
-- An ABI: `extern` and an optional string.
table abi =
    plainly (word w_extern)
    & (when at_literal Str then plainly (literal_of (Str ∷ [])) else empty)
--
-- `unsafe` if it is next, or nothing.
table unsafe_only =
    when at_word w_unsafe then shaped untagged (item_word w_unsafe) else empty
--
-- `safe` or `unsafe` if one is next, or nothing.
table safe_or_unsafe =
    when at_safety then shaped untagged (when at_word w_safe then plainly (word w_safe) else plainly (word w_unsafe)) else empty
--
-- A signature: `const`, `async`, `unsafe` and an ABI, all optional, and the part that begins with `fn`.
table signature =
    optional_item_word w_const
    & optional_item_word w_async
    & rule unsafe_only
    & (when at_extern then rule abi else empty)
    & rule signature_rest
--
-- The part of a signature after its modifiers: `fn`, a name, generics, parameters in parentheses, a return type and a where clause.
table signature_rest =
    plainly (word w_fn)
    & plainly name
    & rule generics
    & inside Paren (rule inputs)
    & rule return_type
    & rule where_clause
--
-- A function with its attributes.
table function =
    rule attributes
    & rule function_rest
--
-- A function after its attributes: a visibility, a signature and a body. Modifiers that a tree built by hand has are not printed.
table function_rest =
    rule visibility
    & unshown
    & rule signature
    & rule body
--
-- A constant with its attributes.
table const_item =
    rule attributes
    & rule const_item_rest
--
-- A constant after its attributes: a visibility, `const`, a name or `_`, a type, a value and `;`. Modifiers and generics that a tree built by
-- hand has are not printed.
table const_item_rest =
    rule visibility
    & unshown
    & item_word w_const
    & name_or_underscore
    & unshown
    & punctuation colon
    & rule type
    & punctuation equals
    & rule whole_expression
    & punctuation semicolon
--
-- `mut` if it is next, or nothing: the mutability of a static, by itself. (Statics read it as a part of their own rules.)
table static_mutability =
    optional w_mut
--
-- A static with its attributes.
table static_item =
    rule attributes
    & rule static_item_rest
--
-- A static after its attributes: a visibility, `static`, an optional `mut`, a name, a type, a value and `;`.
table static_item_rest =
    rule visibility
    & item_word w_static
    & optional w_mut
    & plainly name
    & punctuation colon
    & rule type
    & punctuation equals
    & rule whole_expression
    & punctuation semicolon
--
-- An extern crate with its attributes.
table extern_crate =
    rule attributes
    & rule extern_crate_rest
--
-- An extern crate after its attributes: a visibility, `extern crate`, a name or `self`, an optional `as` with a name or `_`, and `;`.
table extern_crate_rest =
    rule visibility
    & plainly (word w_extern)
    & plainly (word w_crate)
    & plainly (name_or (w_self ∷ []))
    & (when at_word w_as then plainly (word w_as) & name_or_underscore else empty)
    & punctuation semicolon
--
-- A tree of a use: `*`; trees in braces; or a name, `self`, `super`, `crate` or `try`, alone, followed by `::` and a tree, or followed by `as`
-- and a name or `_`.
table use_tree =
    when at_star then punctuation star
    else when at_brace then inside Brace (rule use_trees)
    else plainly (name_or (w_self ∷ w_super ∷ w_crate ∷ w_try ∷ []))
    & (when at_colons then punctuation colons & rule use_tree else when at_word w_as then plainly (word w_as) & name_or_underscore else empty)
--
-- Trees of a use, separated by commas; a trailing comma is allowed.
table use_trees =
    when ended then empty
    else rule use_tree & (when at_comma then punctuation comma & rule use_trees else empty)
--
-- The mark `::` before a tree of a use in braces.
table root_mark =
    punctuation colons
--
-- A tree in the braces that directly follow `use`, or that are a tree in such braces: with an optional `::` before it.
table rooted_tree =
    when at_colons then one_of (root_mark ∷ []) & rule use_tree
    else when at_brace then inside Brace (rule rooted_trees)
    else rule use_tree
--
-- Such trees, separated by commas; a trailing comma is allowed.
table rooted_trees =
    when ended then empty
    else rule rooted_tree & (when at_comma then punctuation comma & rule rooted_trees else empty)
--
-- A use with its attributes.
table use_item =
    rule attributes
    & rule use_item_rest
--
-- A use after its attributes: a visibility, `use`, trees in braces, none of which has `::` before it, or a tree with an optional `::` before
-- it, and `;`.
table use_item_rest =
    rule visibility
    & plainly (word w_use)
    & (when at_brace then such (has_no root_mark) (inside Brace (rule rooted_trees)) else (when at_colons then punctuation colons else empty) & rule use_tree)
    & punctuation semicolon
--
-- A use that is stored verbatim, after its attributes: its trees are in braces, and one of them has `::` before it.
table rooted_use =
    rule visibility
    & plainly (word w_use)
    & (when at_brace then such (has root_mark) (inside Brace (rule rooted_trees)) else never)
    & punctuation semicolon
--
-- A module with its attributes.
table module_item =
    rule attributes
    & rule module_item_rest
--
-- A module after its attributes: a visibility, an optional `unsafe`, `mod`, a name or `try`, and `;` or inner attributes and items in braces.
-- A semicolon that a tree built by hand has with the braces is not printed.
table module_item_rest =
    rule visibility
    & optional_item_word w_unsafe
    & plainly (word w_mod)
    & plainly (name_or (w_try ∷ []))
    & (when at_semicolon then punctuation semicolon else unshown & inside Brace (rule inner_attributes & rule items))
--
-- The bounds of a trait alias, joined by `+`, up to a token that ends them at the start or after a `+`; the list may be empty, and may end with `+`.
table alias_bounds =
    when at_alias_bounds_end then empty
    else rule bound & (when at_plus then punctuation plus & rule alias_bounds else empty)
--
-- The bounds of a type, joined by `+`, up to a token that ends them at the start or after a `+`; the list may be empty, and may end with `+`.
table type_bounds =
    when at_type_bounds_end then empty
    else rule bound & (when at_plus then punctuation plus & rule type_bounds else empty)
--
-- A trait alias without attributes and visibility: `trait`, a name, generics, `=`, bounds, a where clause and `;`.
table alias =
    plainly (word w_trait)
    & plainly name
    & rule generics
    & punctuation equals
    & rule alias_bounds
    & rule where_clause
    & punctuation semicolon
--
-- A trait alias with its attributes.
table trait_alias =
    rule attributes
    & rule trait_alias_rest
--
-- A trait alias after its attributes: a visibility, and the alias.
table trait_alias_rest =
    rule visibility
    & rule alias
--
-- A type alias with its attributes.
table type_item =
    rule attributes
    & rule type_item_rest
--
-- A type alias after its attributes: a visibility, `type`, a name, generics, `=` and a type, with a where clause before the `=` or after the
-- type, and `;`. Modifiers, and the place of a clause without predicates, that a tree built by hand has are not printed.
table type_item_rest =
    rule visibility
    & unshown
    & plainly (word w_type)
    & plainly name
    & rule generics
    & unshown
    & such one_where (rule where_clause & punctuation equals & rule type & rule where_clause)
    & punctuation semicolon
--
-- The end of a macro that is an item: a group in braces, or one in parentheses or brackets and `;`.
table macro_end =
    when at_paren then raw Paren & punctuation semicolon
    else when at_bracket then raw Bracket & punctuation semicolon
    else raw Brace
--
-- A macro as an item, with its attributes; its path may be any.
table macro_item =
    rule attributes
    & rule macro_item_rest
--
-- A macro as an item, after its attributes: a path in module style, `!` that isn't `!=`, optionally a name or `try`, and a group of any content,
-- followed by `;` unless it is in braces.
table macro_item_rest =
    rule module_path
    & (when at_bang then asking_punctuation exclamation else never)
    & (when at_macro_name then plainly (name_or (w_try ∷ [])) else empty)
    & rule macro_end
--
-- A macro among items, with its attributes.
table macro_as_item =
    rule attributes
    & rule macro_as_item_rest
--
-- A macro among items, after its attributes: its path begins neither with `Self`, nor with `default` followed by `::`.
table macro_as_item_rest =
    when at_no_macro_item then never
    else rule macro_item_rest
--
-- A function without a body, which is stored verbatim, after its attributes: a visibility, a signature and `;`.
table bodiless_function =
    rule visibility
    & rule signature
    & punctuation semicolon
--
-- A static without a type, which is stored verbatim, after its attributes.
table untyped_static =
    rule visibility
    & item_word w_static
    & optional w_mut
    & plainly name
    & punctuation equals
    & rule whole_expression
    & punctuation semicolon
--
-- A static without a value, which is stored verbatim, after its attributes.
table valueless_static =
    rule visibility
    & item_word w_static
    & optional w_mut
    & plainly name
    & punctuation colon
    & rule type
    & punctuation semicolon
--
-- A constant with generics, with a where clause or without a value, which is stored verbatim, after its attributes.
table odd_const =
    rule visibility
    & item_word w_const
    & name_or_underscore
    & odd_value
--
-- A definition by `macro`, which is stored verbatim, after its attributes: a visibility, `macro`, a name, optional parentheses, and braces, both
-- of any content.
table macro_definition =
    rule visibility
    & plainly (word w_macro)
    & plainly name
    & (when at_paren then raw Paren else empty)
    & raw Brace
--
-- A type alias with bounds or without a type, which is stored verbatim, after its attributes.
table odd_type =
    rule visibility
    & plainly (word w_type)
    & plainly name
    & rule generics
    & (when at_colon then punctuation colon & rule type_bounds & type_and_clause else optional_where_clause)
    & punctuation semicolon
--
-- The bounds of a trait, joined by `+`, up to a token that ends them at the start or after a `+`; the list may be empty, and may end with `+`.
table supertraits =
    when at_supertraits_end then empty
    else rule bound & (when at_plus then punctuation plus & rule supertraits else empty)
--
-- A trait from `unsafe` on: `unsafe` and `auto`, both optional, `trait`, a name, generics, an optional colon with bounds, a where
-- clause, and inner attributes and members in braces. Without bounds the colon isn't printed.
table bare_trait =
    optional_item_word w_unsafe
    & optional_item_word w_auto
    & plainly (word w_trait)
    & plainly name
    & rule generics
    & vanishing false at_colon (punctuation colon & rule supertraits)
    & rule where_clause
    & inside Brace (rule inner_attributes & rule trait_items)
--
-- A trait with its attributes.
table trait_definition =
    rule attributes
    & rule trait_definition_rest
--
-- A trait after its attributes: a visibility, an optional `const`, and the trait.
table trait_definition_rest =
    rule visibility
    & optional_item_word w_const
    & rule bare_trait
--
-- A trait alias with `const`, which is stored verbatim, after its attributes: a visibility, `const`, and the alias.
table const_alias =
    rule visibility
    & item_word w_const
    & rule alias
--
-- A trait with a restriction, which is stored verbatim, after its attributes: a visibility, `impl`, the restriction in parentheses, an optional
-- `const`, and the trait.
table restricted_trait =
    rule visibility
    & plainly (word w_impl)
    & (when at_restriction then inside Paren (rule restriction) else never)
    & optional w_const
    & rule bare_trait
--
-- The self type of an impl after `for`. (If its print would be parsed as generics, the empty generics of the impl are printed.)
table self_type =
    rule type
--
-- `for` and the self type.
table for_self_type =
    plainly (word w_for)
    & one_of (self_type ∷ [])
--
-- The end of an impl: a where clause, and inner attributes and members in braces.
table impl_body =
    rule where_clause
    & inside Brace (rule inner_attributes & rule impl_items)
--
-- An impl with its attributes.
table impl_definition =
    rule attributes
    & rule impl_definition_rest
--
-- An impl after its attributes: `default`, `const` and `unsafe`, all optional, `impl` and generics; then the never type, `!` and a path
-- with `for` and a type, a path with an optional `for` and type, or a type that is no plain path; and its end.
table impl_definition_rest =
    optional_item_word w_default
    & optional_item_word w_const
    & optional_item_word w_unsafe
    & plainly (word w_impl)
    & generics_before (rule lifetime_parameter) parameter
    (when at_exclamation then punctuation exclamation & (when at_brace then rule impl_body else rule type_path & rule for_self_type & rule impl_body)
    else when at_module_path then rule type_path & (when at_for then rule for_self_type else empty) & rule impl_body
    else rule type & rule impl_body)
--
-- An impl for a type whose first type is no plain path, after its attributes. This rule itself stores it verbatim: printed anew, its first type
-- might be parsed as generics.
table odd_impl =
    captured (optional_item_word w_default
    & optional w_const
    & optional_item_word w_unsafe
    & plainly (word w_impl)
    & (when at_generics then kept_generics else empty)
    & (when at_exclamation then punctuation exclamation & (when at_brace then never else when at_module_path then never else rule type & rule for_self_type & rule impl_body)
    else when at_module_path then never
    else rule type & rule for_self_type & rule impl_body))
--
-- An impl with a visibility and `const`, after its attributes, with any first type. This rule itself stores it verbatim.
table visible_const_impl =
    captured (plainly (word w_pub)
    & (when at_restriction then inside Paren (rule restriction) else empty)
    & item_word w_const
    & optional w_unsafe
    & plainly (word w_impl)
    & (when at_generics then kept_generics else empty)
    & (when at_exclamation then punctuation exclamation & (when at_brace then rule impl_body else rule type & rule for_self_type & rule impl_body)
    else rule type & (when at_for then rule for_self_type else empty) & rule impl_body))
--
-- The name of a form that only the earlier grammar has (specs/Before.antt): a trait with `const`.
table const_trait =
    never
--
-- Another form of the earlier grammar: an impl with `const` and no visibility.
table const_impl =
    never
--
-- Another form of the earlier grammar: an impl with `const` and no visibility for a type whose first type is no plain path.
table odd_const_impl =
    never
--
-- A foreign module with its attributes.
table foreign_module =
    rule attributes
    & rule foreign_module_rest
--
-- A foreign module after its attributes: an optional `unsafe`, an ABI, and inner attributes and members in braces.
table foreign_module_rest =
    optional_item_word w_unsafe
    & rule abi
    & inside Brace (rule inner_attributes & rule foreign_items)
--
-- A macro as a member of a trait, an impl or a foreign module, after its attributes: a path in module style, `!` that isn't `!=`, and a group
-- of any content, followed by `;` unless it is in braces.
table member_macro =
    rule module_path
    & (when at_bang then asking_punctuation exclamation else never)
    & rule macro_end
--
-- A function of a trait after its attributes: a signature, and `;` or a body. Modifiers, and a semicolon with the body, that a tree built by
-- hand has are not printed.
table bare_trait_function =
    unshown
    & rule signature
    & (when at_semicolon then punctuation semicolon else unshown & rule body)
--
-- A type of a trait after its attributes: `type`, a name, generics, an optional colon with bounds, an optional `=` with a type, a where clause
-- and `;`. Without bounds the colon isn't printed. Modifiers that a tree built by hand has are not printed.
table bare_trait_type =
    unshown
    & plainly (word w_type)
    & plainly name
    & rule generics
    & vanishing false at_colon (punctuation colon & rule type_bounds)
    & optional_type
    & rule where_clause
    & punctuation semicolon
--
-- A constant of a trait: attributes, `const`, a name or `_`, a type, an optional value, and `;`. Modifiers and generics that a tree built by
-- hand has are not printed.
table trait_const =
    rule attributes
    & unshown
    & plainly (word w_const)
    & name_or_underscore
    & unshown
    & punctuation colon
    & rule type
    & optional_value
    & punctuation semicolon
--
-- A function of a trait, with its attributes.
table trait_function =
    rule attributes
    & rule bare_trait_function
--
-- A type of a trait, with its attributes.
table trait_type =
    rule attributes
    & rule bare_trait_type
--
-- A macro as a member of a trait, with any path: attributes and the macro.
table trait_macro =
    rule attributes
    & rule member_macro
--
-- A macro among the members of a trait: its path begins neither with `Self` nor with `default`.
table trait_macro_as_item =
    rule attributes
    & (when at_no_trait_macro then never else rule member_macro)
--
-- A constant with every optional part: `const`, a name or `_`, optional generics, a type, an optional value and where clause, and `;`.
table any_const =
    plainly (word w_const)
    & name_or_underscore
    & (when at_less then kept_generics else empty)
    & punctuation colon
    & rule type
    & optional_value
    & optional_where_clause
    & punctuation semicolon
--
-- A member of a trait with a visibility or `default` before it, which is stored verbatim, after its attributes: a function, a type or a
-- constant.
table marked_member =
    when at_word w_pub then rule visibility & optional w_default & one_of (bare_trait_function ∷ bare_trait_type ∷ any_const ∷ [])
    else rule visibility & plainly (word w_default) & one_of (bare_trait_function ∷ bare_trait_type ∷ any_const ∷ [])
--
-- A constant of a trait with generics or with a where clause, which is stored verbatim, after its attributes.
table odd_trait_const =
    (when at_word w_pub then never else rule visibility)
    & plainly (word w_const)
    & name_or_underscore
    & (when at_less then kept_generics & punctuation colon & rule type & optional_value & optional_where_clause & punctuation semicolon
    else punctuation colon & rule type & optional_value & kept_where_clause & punctuation semicolon)
--
-- A member of a trait that is stored verbatim: attributes, and one of the forms that have no kind of their own.
table kept_trait_item =
    captured (rule attributes & one_of (marked_member ∷ odd_trait_const ∷ []))
--
-- A member of a trait: one of its kinds, or one that is stored verbatim.
table trait_item =
    one_of (trait_const ∷ trait_function ∷ trait_type ∷ trait_macro_as_item ∷ kept_trait_item ∷ [])
--
-- Members of a trait, to the end.
table trait_items =
    when ended then empty
    else rule trait_item & rule trait_items
--
-- A constant of an impl: attributes, a visibility, an optional `default`, `const`, a name or `_`, a type, a value and `;`. Generics that a tree
-- built by hand has are not printed.
table impl_const =
    rule attributes
    & rule visibility
    & optional w_default
    & plainly (word w_const)
    & name_or_underscore
    & unshown
    & punctuation colon
    & rule type
    & punctuation equals
    & rule whole_expression
    & punctuation semicolon
--
-- A function of an impl: attributes, a visibility, an optional `default`, a signature and a body.
table impl_function =
    rule attributes
    & rule visibility
    & optional w_default
    & rule signature
    & rule body
--
-- A type of an impl: attributes, a visibility, an optional `default`, `type`, a name, generics, `=`, a type, a where clause and `;`.
table impl_type =
    rule attributes
    & rule visibility
    & optional w_default
    & plainly (word w_type)
    & plainly name
    & rule generics
    & punctuation equals
    & rule type
    & rule where_clause
    & punctuation semicolon
--
-- A macro as a member of an impl, with any path: attributes and the macro.
table impl_macro =
    rule attributes
    & rule member_macro
--
-- A macro among the members of an impl: its path begins neither with `Self`, nor with `default` followed by `::`.
table impl_macro_as_item =
    rule attributes
    & (when at_no_macro_item then never else rule member_macro)
--
-- A function of an impl without a body, which is stored verbatim, after its attributes.
table bodiless_impl_function =
    rule visibility
    & optional w_default
    & rule signature
    & punctuation semicolon
--
-- A constant of an impl with generics, with a where clause or without a value, which is stored verbatim, after its attributes.
table odd_impl_const =
    rule visibility
    & optional w_default
    & plainly (word w_const)
    & name_or_underscore
    & odd_value
--
-- A type of an impl with bounds or without a type, which is stored verbatim, after its attributes.
table odd_impl_type =
    rule visibility
    & optional w_default
    & plainly (word w_type)
    & plainly name
    & rule generics
    & (when at_colon then punctuation colon & rule type_bounds & optional_type & optional_where_clause & punctuation semicolon
    else optional_where_clause & punctuation semicolon)
--
-- A member of an impl that is stored verbatim: attributes, and one of the forms that have no kind of their own.
table kept_impl_item =
    captured (rule attributes & one_of (bodiless_impl_function ∷ odd_impl_const ∷ odd_impl_type ∷ []))
--
-- A member of an impl: one of its kinds, or one that is stored verbatim.
table impl_item =
    one_of (impl_const ∷ impl_function ∷ impl_type ∷ impl_macro_as_item ∷ kept_impl_item ∷ [])
--
-- Members of an impl, to the end.
table impl_items =
    when ended then empty
    else rule impl_item & rule impl_items
--
-- A foreign signature: `const`, `async`, `safe` or `unsafe`, and an ABI, all optional, and the part that begins with `fn`.
table foreign_signature =
    optional w_const
    & optional w_async
    & rule safe_or_unsafe
    & (when at_extern then rule abi else empty)
    & rule signature_rest
--
-- A foreign static without its value and `;`: an optional `safe` or `unsafe`, `static`, an optional `mut`, a name and a type.
table bare_foreign_static =
    rule safe_or_unsafe
    & plainly (word w_static)
    & optional w_mut
    & plainly name
    & punctuation colon
    & rule type
--
-- A foreign function: attributes, a visibility, a foreign signature and `;`. Modifiers that a tree built by hand has are not printed.
table foreign_function =
    rule attributes
    & rule visibility
    & unshown
    & rule foreign_signature
    & punctuation semicolon
--
-- A foreign static: attributes, a visibility, the static and `;`.
table foreign_static =
    rule attributes
    & rule visibility
    & rule bare_foreign_static
    & punctuation semicolon
--
-- A foreign type: attributes, a visibility, `type`, a name, generics, a where clause and `;`. Modifiers that a tree built by hand has are not
-- printed.
table foreign_type =
    rule attributes
    & rule visibility
    & unshown
    & plainly (word w_type)
    & plainly name
    & rule generics
    & rule where_clause
    & punctuation semicolon
--
-- A macro as a foreign member, with any path: attributes and the macro.
table foreign_macro =
    rule attributes
    & rule member_macro
--
-- A macro among foreign members: its path doesn't begin with `Self`.
table foreign_macro_as_item =
    rule attributes
    & (when at_word w_Self_type then never else rule member_macro)
--
-- A foreign function with a body, which is stored verbatim, after its attributes.
table foreign_body =
    rule visibility
    & rule foreign_signature
    & rule body
--
-- A foreign static with a value, which is stored verbatim, after its attributes.
table foreign_value =
    rule visibility
    & rule bare_foreign_static
    & punctuation equals
    & rule whole_expression
    & punctuation semicolon
--
-- A foreign type with bounds or with a type, which is stored verbatim, after its attributes.
table odd_foreign_type =
    rule visibility
    & plainly (word w_type)
    & plainly name
    & rule generics
    & (when at_colon then punctuation colon & rule type_bounds & type_and_clause & punctuation semicolon
    else when at_where then kept_where_clause & punctuation equals & rule type & punctuation semicolon
    else punctuation equals & rule type & optional_where_clause & punctuation semicolon)
--
-- A foreign member that is stored verbatim: attributes, and one of the forms that have no kind of their own.
table kept_foreign_item =
    captured (rule attributes & one_of (foreign_body ∷ foreign_value ∷ odd_foreign_type ∷ []))
--
-- A foreign member: one of its kinds, or one that is stored verbatim.
table foreign_item =
    one_of (foreign_function ∷ foreign_static ∷ foreign_type ∷ foreign_macro_as_item ∷ kept_foreign_item ∷ [])
--
-- Foreign members, to the end.
table foreign_items =
    when ended then empty
    else rule foreign_item & rule foreign_items
--
-- An item that is stored verbatim, after its attributes: one of the forms that have no kind of their own.
table kept_item_rest =
    one_of (bodiless_function ∷ rooted_use ∷ untyped_static ∷ valueless_static ∷ odd_const ∷ macro_definition ∷ odd_type ∷ const_alias ∷ restricted_trait ∷ odd_impl ∷ visible_const_impl ∷ [])
--
-- An item that is stored verbatim: attributes, and one of the forms that have no kind of their own.
table kept_item =
    captured (rule attributes & rule kept_item_rest)
--
-- An item in a block that is stored verbatim: attributes, a token that begins an item, and one of those forms.
table kept_in_block =
    captured (rule attributes & (when at_item then rule kept_item_rest else never))
--
-- An item in a block, after its attributes: one of its kinds.
table item_rest =
    one_of (structure_rest ∷ enumeration_rest ∷ union_item_rest ∷ function_rest ∷ const_item_rest ∷ static_item_rest ∷ extern_crate_rest ∷ use_item_rest ∷ module_item_rest ∷ trait_alias_rest ∷ type_item_rest ∷ macro_as_item_rest ∷ trait_definition_rest ∷ impl_definition_rest ∷ foreign_module_rest ∷ [])
--
-- An item: one of its kinds, or one that is stored verbatim.
table item =
    one_of (structure ∷ enumeration ∷ union_item ∷ function ∷ const_item ∷ static_item ∷ extern_crate ∷ use_item ∷ module_item ∷ trait_alias ∷ type_item ∷ macro_as_item ∷ trait_definition ∷ impl_definition ∷ foreign_module ∷ kept_item ∷ [])
--
-- Items, to the end.
table items =
    when ended then empty
    else rule item & rule items
--
-- A file: inner attributes and items. A first line and a frontmatter that a tree built by hand has are not printed.
table file =
    unshown
    & unshown
    & rule inner_attributes
    & rule items
