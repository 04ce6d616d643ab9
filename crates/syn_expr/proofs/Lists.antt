-- Lists of expressions, and statements in order.
use Rattle.std.proofs.Common.{◌≡◌, ℕ, zero, suc, ◌+◌, ◌<◌, ◌≤◌, List, [], ◌∷◌, length, drop, get_or, map, Option, Some, None, refl, sym, ap, ap₂, ◌∙◌, arith}
use Rattle.std.proofs.lemmas.List.{at_drop_more, drop_all}
use Rattle.syn_grammar.specs.Tokens.{Stream, end, ◌⧺◌, and}
use Rattle.syn_grammar.specs.Grammar.{Syntax, Nothing, Both, Left, Right, Node, Shaped, print}
use Rattle.syn_grammar.specs.Shape.{listed}
use Rattle.syn_grammar.specs.Same.{same_syntax}
use Rattle.syn_tokens.specs.InOrder.{in_order}
use Rattle.syn_tokens.specs.Listing.{list_of}
use Rattle.syn_tokens.proofs.Copied.{copied_in_order}
use Rattle.syn_lower.specs.Sizes.{tree_size, values_size}
use Rattle.syn_expr.specs.Expressions.{array_elements, syntax_of_Expr, whole}
use Rattle.syn_expr.specs.Prints.{statements_row}
use Rattle.syn_expr.specs.Statements.{statements_syntax, statement_of, syntax_of_Stmt}
use Rattle.syn_expr.specs.declared.expr.Expr.TheVariants as Expr-m
use Rattle.syn_expr.specs.declared.stmt.Stmt.TheVariants as Stmt-m

-- LISTS, each value in the node of its rule

-- of a list, each value put in a node
in_nodes : Syntax → Syntax
in_nodes (Node (Right (Both s (Left (Both p l))))) = Node (Right (Both (Node s) (Left (Both p (in_nodes l)))))
in_nodes (Node (Right (Both s (Right Nothing)))) = Node (Right (Both (Node s) (Right Nothing)))
in_nodes s = s

module _ {P : Type 0} (w : P → Syntax) where
  nodes_of : (l : List (Expr-m.the_data × P)) (o : Option Expr-m.the_data) → in_nodes (list_of syntax_of_Expr w l o) ≡ list_of whole w l o
  unfolding in_nodes
  nodes_of [] None = refl
  nodes_of [] (Some t) = refl
  nodes_of (x ∷ l) o = ap (λ z. Node (Right (Both (whole x.0) (Left (Both (w x.1) z))))) (nodes_of l o)

  pub copied_whole : (l m : List (Expr-m.the_data × P)) (o q : Option Expr-m.the_data) →
      list_of syntax_of_Expr w l o ≡ list_of syntax_of_Expr w m q → list_of whole w l o ≡ list_of whole w m q
  copied_whole l m o q e = sym (nodes_of l o) ∙ ap in_nodes e ∙ nodes_of m q

  pub print_whole : (l : List (Expr-m.the_data × P)) (o : Option Expr-m.the_data) → print (list_of whole w l o) ≡ print (list_of syntax_of_Expr w l o)
  print_whole [] None = refl
  print_whole [] (Some t) = refl
  print_whole (x ∷ l) o = ap (λ z. print (syntax_of_Expr x.0) ⧺ (print (w x.1) ⧺ z)) (print_whole l o)

  pub same_whole : (l m : List (Expr-m.the_data × P)) (o q : Option Expr-m.the_data) →
      same_syntax (list_of whole w l o) (list_of whole w m q) ≡ same_syntax (list_of syntax_of_Expr w l o) (list_of syntax_of_Expr w m q)
  same_whole [] [] None None = refl
  same_whole [] [] None (Some u) = refl
  same_whole [] [] (Some t) None = refl
  same_whole [] [] (Some t) (Some u) = refl
  same_whole [] (y ∷ m) None q = refl
  same_whole [] (y ∷ m) (Some t) q = refl
  same_whole (x ∷ l) [] o None = refl
  same_whole (x ∷ l) [] o (Some u) = refl
  same_whole (x ∷ l) (y ∷ m) o q = ap (λ z. and (same_syntax (syntax_of_Expr x.0) (syntax_of_Expr y.0)) (and (same_syntax (w x.1) (w y.1)) z)) (same_whole l m o q)

pub whole_larger : {P : Type 0} (l : List (Expr-m.the_data × P)) (o : Option Expr-m.the_data) → values_size syntax_of_Expr l o ≤ values_size whole l o
whole_larger [] None = omega arith
whole_larger [] (Some t) = omega arith
whole_larger (x ∷ l) o = omega (arith, whole_larger l o)

-- THE CONTENT OF AN ARRAY'S BRACKETS

module _ {T P : Type 0} (v : T → Syntax) (w : P → Syntax) where
  pub in_array : (l : List (T × P)) (o : Option T) → values_size v l o ≤ tree_size (array_elements (list_of v w l o))
  in_array [] None = omega arith
  in_array [] (Some t) = omega arith
  in_array (x ∷ l) o = omega (arith, go l o)
    where
      go : (l : List (T × P)) (o : Option T) → values_size v l o ≤ tree_size (list_of v w l o)
      go [] None = omega arith
      go [] (Some t) = omega arith
      go (x ∷ l) o = omega (arith, go l o)

  pub print_array : (l : List (T × P)) (o : Option T) → print (array_elements (list_of v w l o)) ≡ print (list_of v w l o)
  print_array [] None = refl
  print_array [] (Some t) = refl
  print_array (x ∷ l) o = refl

  pub same_array : (l m : List (T × P)) (o q : Option T) → same_syntax (array_elements (list_of v w l o)) (array_elements (list_of v w m q)) ≡ same_syntax (list_of v w l o) (list_of v w m q)
  same_array [] [] None None = refl
  same_array [] [] None (Some u) = refl
  same_array [] [] (Some t) None = refl
  same_array [] [] (Some t) (Some u) = refl
  same_array [] (y ∷ m) None q = refl
  same_array [] (y ∷ m) (Some t) q = refl
  same_array (x ∷ l) [] o None = refl
  same_array (x ∷ l) [] o (Some u) = refl
  same_array (x ∷ l) (y ∷ m) o q = refl

-- STATEMENTS

-- of what is in order, each listed
listed_of : Syntax → Syntax
listed_of (Both (Node s) l) = Node (Right (Shaped listed (Both s (listed_of l))))
listed_of s = Node (Left Nothing)

all_listed : (l : List Stmt-m.the_data) → listed_of (in_order syntax_of_Stmt l) ≡ statements_syntax l
unfolding listed_of
all_listed [] = refl
all_listed (s ∷ l) = ap (λ z. Node (Right (Shaped listed (Both (statement_of s) z)))) (all_listed l)

pub copied_statements : (l m : List Stmt-m.the_data) → map syntax_of_Stmt l ≡ map syntax_of_Stmt m → statements_syntax l ≡ statements_syntax m
copied_statements l m e = sym (all_listed l) ∙ ap listed_of (copied_in_order syntax_of_Stmt l m e) ∙ all_listed m

pub same_in_turn : (l m : List Stmt-m.the_data) → same_syntax (statements_syntax l) (statements_syntax m) ≡ same_syntax (in_order statement_of l) (in_order statement_of m)
same_in_turn [] [] = refl
same_in_turn [] (t ∷ m) = refl
same_in_turn (s ∷ l) [] = refl
same_in_turn (s ∷ l) (t ∷ m) = ap (and (same_syntax (statement_of s) (statement_of t))) (same_in_turn l m)

pub print_statements : (l : List Stmt-m.the_data) → print (statements_syntax l) ≡ statements_row l
print_statements [] = refl
print_statements (s ∷ l) = ap (λ z. print (statement_of s) ⧺ z) (print_statements l)

-- what is left of statements, one step on
pub statement_step : (l : List Stmt-m.the_data) (i : ℕ) (d : Stmt-m.the_data) → i < length l → statements_row (drop i l) ≡ print (statement_of (get_or l i d)) ⧺ statements_row (drop (i + 1) l)
statement_step l i d h = at_drop_more statements_row l i d h

pub statements_done : (l : List Stmt-m.the_data) (i : ℕ) → length l ≤ i → statements_row (drop i l) ≡ end
statements_done l i h = ap statements_row (drop_all i l h)

pub statement_smaller : (l : List Stmt-m.the_data) (i : ℕ) (d : Stmt-m.the_data) → i < length l → tree_size (syntax_of_Stmt (get_or l i d)) ≤ tree_size (statements_syntax l)
statement_smaller [] i d h = absurd (omega arith)
statement_smaller (s ∷ l) zero d h = omega arith
statement_smaller (s ∷ l) (suc i) d h = omega (arith, statement_smaller l i d (omega (arith, h)))

pub statements_larger : (l : List Stmt-m.the_data) → tree_size (in_order syntax_of_Stmt l) ≤ tree_size (statements_syntax l)
statements_larger [] = omega arith
statements_larger (s ∷ l) = omega (arith, statements_larger l)
