-- THE PLANS OF STATEMENTS: they read the attributes once; then the next token decides whether an item follows.
use Rattle.std.specs.Prelude.{◌≡◌, false, [], ◌∷◌}
use Rattle.syn_grammar.specs.Words.{w_let, w_try, semicolon, exclamation}
use Rattle.syn_grammar.specs.Tokens.{Stream, Brace, at_word, ended}
use Rattle.syn_grammar.specs.Rules.{attributes, module_path, macro_invocation, whole_expression, block_like, statement, statements, statement_rest, statement_end, crate_macro, local, macro_as_item_rest, macro_end, kept_item}
use Rattle.syn_grammar.specs.Shape.{Macro, operand, said, said_macro, a_local, an_item}
use Rattle.syn_grammar.specs.Grammar.{Grammar, empty, ◌&◌, when◌then◌else◌, raw, rule, shaped, Syntax, Nothing, Both, Left, Right, Node, Case, Shaped, name_or}
use Rattle.syn_grammar.specs.Forms.{plainly, asking_punctuation, punctuation, never}
use Rattle.syn_grammar.specs.Table.{at_semicolon, at_item, at_crate_macro, at_brace_macro, at_block_like, at_bang, at_brace, at_postfix_mark, at_no_macro_item, at_macro_name}
use Rattle.syn_grammar.specs.Values.{core, stated, in_list, new}
use Rattle.syn_grammar.specs.Take.{sees}
use Rattle.syn_grammar.specs.Run.{wrap, and_then, parse_rule, parse_form}
use Rattle.syn_grammar.specs.Plan.{Plan, reads, turns, ends, fails, follow, by_test, run_plan}
use Rattle.syn_grammar.specs.ItemPlan.{parts, item_after}
use Rattle.syn_grammar.specs.ItemStatements.{item_statement, item_listed}

-- A single statement that is no item, after its attributes.
abbrev pub other_statement : Grammar
other_statement =
    when at_crate_macro then rule crate_macro
    else when at_brace_macro then shaped said_macro (shaped (operand Macro) (rule macro_invocation) & rule statement_end)
    else when at_word w_let then shaped a_local (rule local)
    else when at_block_like then shaped said (rule block_like & rule statement_end)
    else shaped said (rule whole_expression & punctuation semicolon)

-- the value of such a statement, from the values of its attributes and of the rest
abbrev pub of_other : Syntax → Syntax → Syntax
of_other a s = Node (core (stated (Both a s)))

-- and of a list that begins with it, from the value that `statement_rest` reads
abbrev pub other_listed : Syntax → Syntax → Syntax
other_listed a s = Node (Right (core (in_list (Both a (Right s)))))

-- A statement is its attributes, and after them an item, read by its plan, if an item is next, else another statement. Holds of
-- every stream.
abbrev pub StatementPlan : Type 0
StatementPlan = (ts : Stream) → parse_rule statement ts ≡
    follow (λ a m. by_test (sees at_item m) (wrap item_statement (run_plan (item_after a) kept_item ts m)) (wrap (of_other a) (parse_form other_statement m))) (parse_rule attributes ts)

-- The same for a list of statements that is not at its end and has no `;` next. Holds for every stream.
abbrev pub StatementsPlan : Type 0
StatementsPlan = (ts : Stream) → sees ended ts ≡ false → sees at_semicolon ts ≡ false → parse_rule statements ts ≡
    follow (λ a m. by_test (sees at_item m) (wrap item_listed (and_then (run_plan (item_after a) kept_item ts m) (parse_rule statements))) (wrap (other_listed a) (parse_rule statement_rest m))) (parse_rule attributes ts)

-- the value of an item, from the parts of its macro
abbrev pub crate_item : Syntax → Syntax
crate_item s = Node (Shaped an_item (Both (Node (Case macro_as_item_rest (Right (Node s)))) (Left Nothing)))

-- and of a statement, with the value of the part after the macro
abbrev pub crate_statement : Syntax → Syntax → Syntax
crate_statement s z = Node (Shaped said_macro (Both (new Macro (Node s)) (Right z)))

-- A macro of `crate` in braces as a statement, by the token after it.
unfoldable pub crate_statement_end : Syntax → Syntax → Syntax → Plan
crate_statement_end p x b =
    turns at_postfix_mark fails
    (reads (rule statement_end) λ z. ends (crate_statement (parts (p ∷ x ∷ Right (Right b) ∷ [])) z))

-- A macro of `crate` as a single statement, or as an item: its path and `!` are read once; a postfix mark after the braces makes it an item.
unfoldable pub crate_macro_plan : Plan
crate_macro_plan =
    turns at_no_macro_item (reads (rule module_path) λ p. reads (when at_bang then asking_punctuation exclamation else never) λ x.
    turns at_brace (reads (raw Brace) λ b. crate_statement_end p x b)
    fails)
    (reads (rule module_path) λ p. reads (when at_bang then asking_punctuation exclamation else never) λ x.
    turns at_brace (reads (raw Brace) λ b.
    turns at_postfix_mark (ends (crate_item (parts (p ∷ x ∷ Right Nothing ∷ Node (Right (Right b)) ∷ []))))
    (reads (rule statement_end) λ z. ends (crate_statement (parts (p ∷ x ∷ Right (Right b) ∷ [])) z)))
    (reads (when at_macro_name then plainly (name_or (w_try ∷ [])) else empty) λ n. reads (rule macro_end) λ g.
    turns at_postfix_mark (ends (crate_item (parts (p ∷ x ∷ n ∷ g ∷ []))))
    fails))

-- The plan reads exactly what the rule reads, with the same value. (It stores nothing verbatim, so the rule given is arbitrary.) Holds for every stream.
abbrev pub CrateMacroPlan : Type 0
CrateMacroPlan = (ts : Stream) → parse_rule crate_macro ts ≡ run_plan crate_macro_plan kept_item ts ts
