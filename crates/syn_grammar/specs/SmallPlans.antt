-- THE PLANS OF TWO SMALL UNIONS: the input of a derive, and the value of a local.
use Rattle.std.specs.Prelude.{◌≡◌}
use Rattle.syn_grammar.specs.Words.{w_else, w_enum, w_struct}
use Rattle.syn_grammar.specs.Tokens.{Stream, at_word}
use Rattle.syn_grammar.specs.Rules.{attributes, visibility, whole_expression, kept_item, derive_input}
use Rattle.syn_grammar.specs.Shape.{untagged}
use Rattle.syn_grammar.specs.Grammar.{word, trailing_brace, no_trailing_brace, Grammar, empty, ◌&◌, when◌then◌else◌, either, rule, such, shaped, Syntax, Nothing, Both, Left, Right, Such, Shaped}
use Rattle.syn_grammar.specs.Forms.{plainly}
use Rattle.syn_grammar.specs.Table.{no_else, else_block}
use Rattle.syn_grammar.specs.Values.{untag}
use Rattle.syn_grammar.specs.Run.{parse_rule, parse_form}
use Rattle.syn_grammar.specs.Plan.{Plan, reads, turns, tests, ends, run_plan}
use Rattle.syn_grammar.specs.ItemPlan.{struct_plan, enum_plan, union_plan}

-- THE INPUT OF A DERIVE: attributes and a visibility; then the next word decides.
unfoldable pub derive_input_plan : Plan
derive_input_plan =
    reads (rule attributes) λ a. reads (rule visibility) λ v. turns (at_word w_struct) (struct_plan a v)
    (turns (at_word w_enum) (enum_plan a v)
    (union_plan a v))

-- The part of a local after `=`: an expression that ends with braces, or another one, optionally with `else` and a block.
abbrev pub local_value : Grammar
local_value = shaped untagged (either (such trailing_brace (rule whole_expression) & no_else) (such no_trailing_brace (rule whole_expression) & shaped untagged (when at_word w_else then plainly (word w_else) & else_block else empty)))

abbrev pub value_and_else : Syntax → Syntax → Syntax
value_and_else e s = Shaped untagged (Both (Such e) (untag s))

-- The plan reads the expression once; then its last token decides.
unfoldable pub local_value_plan : Plan
local_value_plan =
    reads (rule whole_expression) λ e. tests trailing_brace e (ends (value_and_else e Nothing))
    (turns (at_word w_else) (reads (plainly (word w_else)) λ k. reads else_block λ b. ends (value_and_else e (Left (Both k b))))
    (ends (value_and_else e (Right Nothing))))

-- The plans read exactly what the forms read, with the same values. (They store nothing verbatim, so the rule given is arbitrary.) Hold for every stream.
abbrev pub DeriveInputPlan : Type 0
DeriveInputPlan = (ts : Stream) → parse_rule derive_input ts ≡ run_plan derive_input_plan kept_item ts ts

abbrev pub LocalValuePlan : Type 0
LocalValuePlan = (ts : Stream) → parse_form local_value ts ≡ run_plan local_value_plan kept_item ts ts
