-- A PRIMARY EXPRESSION, by the next token.
use Rattle.std.specs.Prelude.{Some}
use Rattle.syn_grammar.specs.Words.{w_break, w_continue, w_false, w_return, w_true}
use Rattle.syn_grammar.specs.Tokens.{Stream, Brace, Bracket, None, pick, at_lifetime, at_word}
use Rattle.syn_grammar.specs.Shape.{Break, Continue, Grouped, Lit, Macro, Path, Return, Struct, bracketed, fields}
use Rattle.syn_grammar.specs.Rules.{array_content, block_like, literal_fields, macro_invocation, path_as_expression, whole_expression}
use Rattle.syn_grammar.specs.Grammar.{Syntax, Both, Grammar, any_literal, empty, lifetime, word, ◌&◌, when◌then◌else◌, inside, rule, shaped}
use Rattle.syn_grammar.specs.Forms.{never, plainly}
use Rattle.syn_grammar.specs.Table.{at_any_literal, at_block_like, at_brace, at_bracket, at_invisible, at_lit, at_macro, at_paren, at_whole_expression, else_block}
use Rattle.syn_grammar.specs.Take.{Out, Parser, sees, take_token}
use Rattle.syn_grammar.specs.Values.{core, new, shape}
use Rattle.syn_grammar.specs.Run.{branch, parse_form, parse_rule, wrap}
use Rattle.syn_lower.specs.Literals.{lit_form}
use Rattle.syn_expr_parse.specs.Parts.{token_of}
use Rattle.syn_expr_parse.specs.Spots.{Spot, within}
use Rattle.syn_expr_parse.specs.Then.{then_by}
use Rattle.syn_expr_parse.specs.declared.parsing.nested.Spot.TheVariants as Spot-m
use Rattle.syn_expr_parse.specs.Postfixes.{arguments_form}

abbrev pub brackets_form : Grammar
brackets_form = inside Bracket (rule array_content)

abbrev pub group_form : Grammar
group_form = inside None (rule whole_expression)

abbrev pub return_form : Spot → Grammar
return_form p = plainly (word w_return) & (when at_whole_expression then rule (within p whole_expression) else empty)

abbrev pub break_form : Grammar
break_form = plainly (word w_break) & (when at_lifetime then lifetime else empty) & (when at_whole_expression then never else empty)

abbrev pub continue_form : Grammar
continue_form = plainly (word w_continue) & (when at_lifetime then lifetime else empty)

-- a group in parentheses or brackets
abbrev pub bracketed_of : Out → Out
bracketed_of o = wrap (shape bracketed) o

-- the braces of a struct literal, after its path, or nothing
abbrev pub literal_form : Grammar
literal_form = inside Brace (rule literal_fields)

abbrev pub braces_form : Grammar
braces_form = when at_brace then shaped fields literal_form else empty

-- a path, and its struct literal's braces
abbrev pub in_literal : Syntax → Syntax → Syntax
in_literal path braces = new Struct (Both path braces)

abbrev pub after_path : Syntax → Parser
after_path path ts = pick (sees at_brace ts) (wrap (in_literal path) (parse_form literal_form ts)) (Some (new Path path, ts))

-- a path, in a head without braces
abbrev pub path_out : Spot → Parser
path_out Spot-m.Anywhere ts = then_by (parse_rule path_as_expression ts) after_path
path_out Spot-m.Head ts = wrap (new Path) (parse_rule path_as_expression ts)

-- `return`, `break`, `continue` or a path
abbrev pub jump_or_path : Spot → Parser
jump_or_path p ts =
    pick (sees (at_word w_return) ts) (wrap (new Return) (parse_form (return_form p) ts))
    (pick (sees (at_word w_break) ts) (wrap (new Break) (parse_form break_form ts))
    (pick (sees (at_word w_continue) ts) (wrap (new Continue) (parse_form continue_form ts)) (path_out p ts)))

-- what is no literal
abbrev pub no_literal : Spot → Parser
no_literal p ts =
    pick (sees at_macro ts) (wrap (new Macro) (parse_rule macro_invocation ts))
    (pick (sees at_paren ts) (bracketed_of (parse_form arguments_form ts))
    (pick (sees at_bracket ts) (bracketed_of (parse_form brackets_form ts))
    (pick (sees at_invisible ts) (wrap (new Grouped) (parse_form group_form ts))
    (pick (sees at_block_like ts) (wrap core (parse_rule block_like ts)) (jump_or_path p ts)))))

abbrev pub primary_out : Spot → Parser
primary_out p ts = pick (sees at_lit ts) (wrap (new Lit) (wrap token_of (parse_form lit_form ts))) (no_literal p ts)

-- the form of the rule, of what it reads as a path
abbrev pub before_paths : Spot → Stream → Out → Out
before_paths p ts path =
    branch (sees (at_word w_true) ts) (wrap (new Lit) (take_token (word w_true) ts))
    (branch (sees (at_word w_false) ts) (wrap (new Lit) (take_token (word w_false) ts))
    (branch (sees at_any_literal ts) (wrap (new Lit) (take_token any_literal ts))
    (branch (sees at_macro ts) (wrap (new Macro) (parse_rule macro_invocation ts))
    (branch (sees at_paren ts) (bracketed_of (parse_form arguments_form ts))
    (branch (sees at_bracket ts) (bracketed_of (parse_form brackets_form ts))
    (branch (sees at_invisible ts) (wrap (new Grouped) (parse_form group_form ts))
    (branch (sees at_block_like ts) (parse_rule block_like ts)
    (branch (sees (at_word w_return) ts) (wrap (new Return) (parse_form (return_form p) ts))
    (branch (sees (at_word w_break) ts) (wrap (new Break) (parse_form break_form ts))
    (branch (sees (at_word w_continue) ts) (wrap (new Continue) (parse_form continue_form ts)) path))))))))))

-- a constant: a block, or a literal
abbrev pub constant_out : Parser
constant_out ts = pick (sees at_brace ts) (parse_form else_block ts) (wrap (new Lit) (wrap token_of (parse_form lit_form ts)))
