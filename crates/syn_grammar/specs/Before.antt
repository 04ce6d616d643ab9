-- THE EARLIER GRAMMAR, before traits and impls with `const` became kinds of items, and before struct literals.
-- It is the current table except for these forms. They are written so that a stream that both grammars read has one tree: where the table
-- reads a word or braces, a choice here takes a side that reads nothing. (The rules of heads are the current ones: the earlier grammar had none.)
use Rattle.std.specs.Prelude.{[], ◌∷◌}
use Rattle.syn_grammar.specs.Words.{w_break, w_const, w_continue, w_default, w_false, w_impl, w_return, w_true, w_unsafe, exclamation}
use Rattle.syn_grammar.specs.Tokens.{None, Paren, Bracket, at_word, at_lifetime, at_generics}
use Rattle.syn_grammar.specs.Rules.{Rule, visibility, type_path, type, lifetime_parameter, path_as_expression, macro_invocation, expressions, array_content, primary, block_like, whole_expression, rooted_use, bodiless_function, untyped_static, valueless_static, odd_const, macro_definition, odd_type, kept_item_rest, bare_trait, trait_definition_rest, const_alias, restricted_trait, for_self_type, impl_body, impl_definition_rest, odd_impl, visible_const_impl, const_trait, const_impl, odd_const_impl}
use Rattle.syn_grammar.specs.Shape.{Break, Continue, Grouped, Lit, Macro, Path, Return, operand, bracketed, choice, chain}
use Rattle.syn_grammar.specs.Grammar.{word, any_literal, Grammar, empty, lifetime, ◌&◌, when◌then◌else◌, inside, one_of, rule, shaped, captured, generics_before}
use Rattle.syn_grammar.specs.Forms.{plainly, punctuation, never}
use Rattle.syn_grammar.specs.Table.{at_exclamation, at_paren, at_brace, at_bracket, at_invisible, at_any_literal, at_module_path, at_macro, at_whole_expression, at_block_like, at_for, parameter, item_word, optional_item_word, kept_generics, table}

-- An impl after its generics.
abbrev pub impl_head : Grammar
impl_head =
    when at_exclamation then punctuation exclamation & (when at_brace then rule impl_body else rule type_path & rule for_self_type & rule impl_body)
    else when at_module_path then rule type_path & (when at_for then rule for_self_type else empty) & rule impl_body
    else rule type & rule impl_body

-- An impl after its generics whose first type is no plain path.
abbrev pub odd_impl_head : Grammar
odd_impl_head =
    when at_exclamation then punctuation exclamation & (when at_brace then never else when at_module_path then never else rule type & rule for_self_type & rule impl_body)
    else when at_module_path then never
    else rule type & rule for_self_type & rule impl_body

-- No `const`; and `const`: each on the side that it has in the table.
abbrev pub without_const : Grammar
without_const = when at_word w_const then never else empty

abbrev pub with_const : Grammar
with_const = when at_word w_const then item_word w_const else never

abbrev pub before : Rule → Grammar
-- A path without the braces after it; if braces are next, the choice takes that side, and reads nothing.
before primary =
    shaped choice (when at_word w_true then shaped (operand Lit) (plainly (word w_true))
    else when at_word w_false then shaped (operand Lit) (plainly (word w_false))
    else when at_any_literal then shaped (operand Lit) (plainly any_literal)
    else when at_macro then shaped (operand Macro) (rule macro_invocation)
    else when at_paren then shaped bracketed (inside Paren (rule expressions))
    else when at_bracket then shaped bracketed (inside Bracket (rule array_content))
    else when at_invisible then shaped (operand Grouped) (inside None (rule whole_expression))
    else when at_block_like then rule block_like
    else when at_word w_return then shaped (operand Return) (plainly (word w_return) & (when at_whole_expression then rule whole_expression else empty))
    else when at_word w_break then shaped (operand Break) (plainly (word w_break) & (when at_lifetime then lifetime else empty) & (when at_whole_expression then never else empty))
    else when at_word w_continue then shaped (operand Continue) (plainly (word w_continue) & (when at_lifetime then lifetime else empty))
    else shaped chain (shaped (operand Path) (rule path_as_expression) & (when at_brace then empty else empty)))
--
-- A trait without `const`.
before trait_definition_rest =
    rule visibility
    & without_const
    & rule bare_trait
--
-- An impl without `const`.
before impl_definition_rest =
    optional_item_word w_default
    & without_const
    & optional_item_word w_unsafe
    & plainly (word w_impl)
    & generics_before (rule lifetime_parameter) parameter impl_head
--
-- The same for a type whose first type is no plain path.
before odd_impl =
    captured (optional_item_word w_default
    & without_const
    & optional_item_word w_unsafe
    & plainly (word w_impl)
    & (when at_generics then kept_generics else empty)
    & odd_impl_head)
--
-- A trait with `const`, after its attributes.
before const_trait =
    rule visibility
    & with_const
    & rule bare_trait
--
-- An impl with `const` and no visibility, after its attributes.
before const_impl =
    optional_item_word w_default
    & with_const
    & optional_item_word w_unsafe
    & plainly (word w_impl)
    & generics_before (rule lifetime_parameter) parameter impl_head
--
-- The same for a type whose first type is no plain path.
before odd_const_impl =
    captured (optional_item_word w_default
    & (when at_word w_const then plainly (word w_const) else never)
    & optional_item_word w_unsafe
    & plainly (word w_impl)
    & (when at_generics then kept_generics else empty)
    & odd_impl_head)
--
-- The forms that are stored verbatim, including these three.
before kept_item_rest =
    one_of (bodiless_function ∷ rooted_use ∷ untyped_static ∷ valueless_static ∷ odd_const ∷ macro_definition ∷ odd_type ∷ const_alias ∷ restricted_trait ∷ odd_impl ∷ visible_const_impl ∷ const_trait ∷ const_impl ∷ odd_const_impl ∷ [])
--
before k = table k
