-- THE SYNTAX OF BLOCKS AND STATEMENTS, one level at a time, every field.
use Rattle.std.specs.Prelude.{Bool, true, false, List, [], ◌∷◌}
use Rattle.syn_grammar.specs.Tokens.{Brace}
use Rattle.syn_grammar.specs.Shape.{Macro, expr, a_local, an_item, listed, said, said_macro, untagged}
use Rattle.syn_grammar.specs.Grammar.{Syntax, Nothing, Both, Left, Right, Node, Such, Shaped}
use Rattle.syn_grammar.specs.Promises.{itself}
use Rattle.syn_tokens.specs.Leaves.{maybe}
use Rattle.syn_tokens.specs.Kinds.{else_syntax, eq_syntax, let_syntax, semi_syntax}
use Rattle.syn_lower.specs.Attributes.{attributes_syntax}
use Rattle.syn_lower.specs.Parts.{group_syntax}
use Rattle.syn_expr_parse.specs.Parts.{statements_of}
pub use Rattle.syn_expr_parse.specs.Parts.{diverging}
use Rattle.syn_expr.specs.Expressions.{block_after_else, syntax_of_Expr, whole}
use Rattle.syn_pat.specs.Patterns.{local_pattern, syntax_of_Pat}
use Rattle.syn_expr.specs.declared.expr.Expr.TheVariants as Expr-m
use Rattle.syn_expr.specs.declared.stmt.Block.TheInside as Block-in
use Rattle.syn_expr.specs.declared.stmt.Local.TheInside as Local-in
use Rattle.syn_expr.specs.declared.stmt.LocalInit.TheInside as LocalInit-in
use Rattle.syn_expr.specs.declared.stmt.LocalModifiers.{LocalModifiers}
use Rattle.syn_expr.specs.declared.stmt.Stmt.TheVariants as Stmt-m
use Rattle.syn_expr.specs.declared.stmt.StmtMacro.TheInside as StmtMacro-in

abbrev pub statement_of : Stmt-m.the_data → Syntax
statement_of (Stmt-m.Local s) = Shaped a_local s
statement_of (Stmt-m.Item i) = Shaped an_item i
statement_of (Stmt-m.Expr e semi) = Shaped said (Both (syntax_of_Expr e) (maybe semi_syntax semi))
statement_of (Stmt-m.Macro s) = Shaped said_macro s

-- in the node of its rule
abbrev pub syntax_of_Stmt : Stmt-m.the_data → Syntax
syntax_of_Stmt s = Node (statement_of s)

-- statements in order
abbrev pub statements_syntax : List Stmt-m.the_data → Syntax
statements_syntax = statements_of statement_of

abbrev pub view_Block : Block-in.Inside → Syntax
view_Block a = Node (group_syntax Brace a.brace_token (statements_syntax a.stmts.items))

-- there are none
abbrev pub syntax_of_LocalModifiers : LocalModifiers → Syntax
syntax_of_LocalModifiers m = Nothing

abbrev pub view_Local : Local-in.Inside → Syntax
view_Local a =
    Both (attributes_syntax a.attrs.items) (Node (Both (let_syntax a.let_token) (Both (local_pattern (syntax_of_Pat a.pat)) (Both (maybe itself a.init) (semi_syntax a.semi_token)))))

abbrev pub view_LocalInit : LocalInit-in.Inside → Syntax
view_LocalInit a =
    Both (eq_syntax a.eq_token) (Shaped untagged (Both (Such (whole a.expr.value)) (diverging (maybe (λ p. Both (else_syntax p.0) (block_after_else (syntax_of_Expr p.1.value))) a.diverge))))

-- the expression that the value of a local is
abbrev pub value_of_local : Syntax → Syntax
value_of_local (Both m (Shaped untagged (Both (Such (Node e)) d))) = e
value_of_local s = s

-- whether an expression is a macro
abbrev pub is_macro : Syntax → Bool
is_macro (Shaped (expr Macro) s) = true
is_macro s = false

abbrev pub view_StmtMacro : StmtMacro-in.Inside → Syntax
view_StmtMacro a = Both (Both (attributes_syntax a.attrs.items) a.mac) (maybe semi_syntax a.semi_token)
