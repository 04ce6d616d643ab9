-- STATEMENTS ONE AT A TIME, as they are read.
use Rattle.std.specs.Prelude.{Bool, true, false, Some, None}
use Rattle.syn_grammar.specs.Words.{equals, semicolon, w_else, w_let}
use Rattle.syn_grammar.specs.Tokens.{Stream, end, and, no, or, pick, ended, at_word}
use Rattle.syn_grammar.specs.Rules.{attributes, block_like, item, local, macro_invocation, operand_rest, whole_expression}
use Rattle.syn_grammar.specs.Shape.{Macro, Verbatim, expr, a_local, an_item, listed, said, untagged}
use Rattle.syn_grammar.specs.Grammar.{Syntax, Nothing, Both, Left, Right, Node, Such, Shaped, Captured, Grammar, empty, ◌&◌, when◌then◌else◌, either, rule, shaped, such, word, trailing_brace, no_trailing_brace, ends_brace}
use Rattle.syn_grammar.specs.Forms.{plainly, punctuation}
use Rattle.syn_grammar.specs.Table.{at_block_like, at_brace_macro, at_crate_macro, at_equals, at_item, at_postfix_mark, at_semicolon, else_block, no_else}
use Rattle.syn_grammar.specs.Take.{Out, Parser, only, sees, take_mark}
use Rattle.syn_grammar.specs.Values.{core, moved, new, onto, sentence}
use Rattle.syn_grammar.specs.Run.{wrap, parse_rule, parse_form}
pub use Rattle.syn_expr_parse.specs.Then.{then_by}

-- what ends an expression: `;`, or in a list (true) the end
abbrev pub no_semicolon : Bool → Parser
no_semicolon true ts = only (sees ended ts) (Some (Right Nothing, ts))
no_semicolon false ts = None

abbrev pub terminator : Bool → Parser
terminator in_list ts = pick (sees at_semicolon ts) (wrap Left (take_mark semicolon ts)) (no_semicolon in_list ts)

-- an expression with the attributes before it, by what ends it (true: a macro in braces)
abbrev pub ending : Bool → Bool → Syntax → Syntax → Parser
ending in_list b a e ts = wrap (λ m. sentence b (moved a e) m) (terminator in_list ts)

-- the same of a block or a macro in braces, which needs no `;`
abbrev pub following_block : Bool → Bool → Syntax → Syntax → Parser
following_block in_list b a e ts =
    pick (sees at_semicolon ts) (wrap (λ m. sentence b (moved a e) (Left m)) (take_mark semicolon ts))
    (pick (sees at_postfix_mark ts) (then_by (wrap (onto e) (parse_rule operand_rest ts)) (λ x. ending in_list b a x)) (Some (sentence b (moved a e) (Right Nothing), ts)))

-- a macro in braces; by `crate` alone it is an expression's beginning no more
abbrev pub macro_statement : Bool → Syntax → Parser
macro_statement in_list a ts = then_by (wrap (new Macro) (parse_rule macro_invocation ts)) (following_block in_list true a)

abbrev pub unless_postfix : Bool → Syntax → Syntax → Parser
unless_postfix in_list a e ts = pick (sees at_postfix_mark ts) None (following_block in_list true a e ts)

abbrev pub crate_macro_statement : Bool → Syntax → Parser
crate_macro_statement in_list a ts = then_by (wrap (new Macro) (parse_rule macro_invocation ts)) (unless_postfix in_list a)

-- an expression as a statement
abbrev pub expression_statement : Bool → Syntax → Parser
expression_statement in_list a ts =
    pick (sees at_block_like ts) (then_by (wrap core (parse_rule block_like ts)) (following_block in_list false a))
    (then_by (wrap core (parse_rule whole_expression ts)) (ending in_list false a))

-- a statement that is no item, after its attributes
abbrev pub after_attributes : Bool → Syntax → Parser
after_attributes in_list a ts =
    pick (sees at_crate_macro ts) (crate_macro_statement in_list a ts)
    (pick (sees at_brace_macro ts) (macro_statement in_list a ts)
    (pick (sees (at_word w_let) ts) (wrap (Shaped a_local) (wrap (Both a) (parse_rule local ts))) (expression_statement in_list a ts)))

-- what continues an expression follows what was read
abbrev pub proceeds : Out → Bool
proceeds (Some p) = sees at_postfix_mark p.1
proceeds None = false

-- alone, a macro of `crate` in braces followed by this is an item
abbrev pub crate_item : Bool → Stream → Bool
crate_item true ts = false
crate_item false ts = and (sees at_crate_macro ts) (proceeds (parse_rule macro_invocation ts))

abbrev pub item_next : Bool → Stream → Bool
item_next in_list ts = or (sees at_item ts) (crate_item in_list ts)

-- an item, with its attributes
abbrev pub item_statement : Parser
item_statement ts = wrap (Shaped an_item) (parse_rule item ts)

-- a statement that begins here, by what follows its attributes
abbrev pub by_item : Bool → Stream → Syntax → Parser
by_item in_list start a ts = pick (item_next in_list ts) (item_statement start) (after_attributes in_list a ts)

unfoldable pub statement_by : Bool → Parser
statement_by in_list ts = then_by (parse_rule attributes ts) (by_item in_list ts)

-- `;` alone
abbrev pub lone_semicolon : Syntax → Syntax
lone_semicolon m = Shaped said (Both (Shaped (expr Verbatim) (Captured Nothing end)) (Left m))

-- one statement of a list
unfoldable pub next_statement : Parser
next_statement ts = pick (sees at_semicolon ts) (wrap lone_semicolon (take_mark semicolon ts)) (statement_by true ts)

-- a statement, and those after it
abbrev pub before_others : Syntax → Syntax → Syntax
before_others s l = Node (Right (Shaped listed (Both s l)))

-- THE PARTS OF A LOCAL

abbrev pub diverging_form : Grammar
diverging_form = plainly (word w_else) & else_block

abbrev pub local_value_form : Grammar
local_value_form =
    shaped untagged (either (such trailing_brace (rule whole_expression) & no_else) (such no_trailing_brace (rule whole_expression) & shaped untagged (when at_word w_else then diverging_form else empty)))

abbrev pub local_init_form : Grammar
local_init_form = when at_equals then punctuation equals & local_value_form else empty

-- what follows the value, by whether that ends with braces
abbrev pub diverges : Bool → Parser
diverges b ts = pick (and (sees (at_word w_else) ts) (no b)) (wrap (Shaped untagged) (parse_form diverging_form ts)) (Some (Shaped untagged Nothing, ts))

-- a value, with the `=` before it
abbrev pub valued : Syntax → Syntax → Out → Out
valued sign e o = wrap (λ d. Both sign (Shaped untagged (Both (Such e) d))) o

unfoldable pub local_value : Syntax → Parser
local_value sign ts = then_by (parse_rule whole_expression ts) (λ e m. valued sign e (diverges (ends_brace e) m))
