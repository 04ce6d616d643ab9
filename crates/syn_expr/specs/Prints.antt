-- WHAT IS PRINTED OF STATEMENTS in order.
use Rattle.std.specs.Prelude.{List, [], ◌∷◌}
use Rattle.syn_grammar.specs.Tokens.{Stream, end, ◌⧺◌}
use Rattle.syn_grammar.specs.Grammar.{print}
use Rattle.syn_expr.specs.Statements.{statement_of}
use Rattle.syn_expr.specs.declared.stmt.Stmt.TheVariants as Stmt-m

abbrev pub statements_row : List Stmt-m.the_data → Stream
statements_row [] = end
statements_row (s ∷ l) = print (statement_of s) ⧺ statements_row l
