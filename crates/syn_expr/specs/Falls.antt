-- A TREE IS SMALLER THAN THE ONE THAT HOLDS IT, in the families of types that lead back to themselves.
use Rattle.std.specs.Prelude.{ℕ, ◌+◌, ◌≤◌, max, List, [], ◌∷◌, Option, Some, None}
use Rattle.std.proofs.Common.{arith}
use denote.Param.Weighed.{most}
use Rattle.syn_grammar.specs.Grammar.{Syntax, Nothing, Both, Left, Right, Node, Group, Shaped, Unshown}
use Rattle.syn_grammar.specs.Tokens.{Paren}
use Rattle.syn_grammar.specs.Shape.{Block, If, expr}
use Rattle.syn_grammar.specs.Promises.{itself}
use Rattle.syn_tokens.specs.Kinds.{Colon, colon_syntax, comma_syntax, else_syntax, semi_syntax}
use Rattle.syn_tokens.specs.Leaves.{maybe, syntax_of_ident}
use Rattle.syn_tokens.specs.Listing.{list_of}
use Rattle.syn_lower.specs.Sizes.{tree_size, above, above_falls, split, weight, split_last, weight_last, maybe_falls, list_falls}
use Rattle.syn_lower.specs.Attributes.{attributes_syntax}
use Rattle.syn_lower.specs.Members.{syntax_of_Member}
use Rattle.syn_lower.specs.Parts.{group_syntax}
use Rattle.syn_lower.specs.declared.member.Member.TheVariants as Member-m
use Rattle.syn_lower.specs.Types.{syntax_of_Type, tuple_elements}
use Rattle.syn_expr_parse.specs.StructLiterals.{field_of, hidden}
use Rattle.syn_lower.specs.Bodies.{attributes_in_body, body, with_inner}
use Rattle.syn_expr.specs.Expressions.{array_elements, after_else, block_after_else, method_arguments, syntax_of_Expr, whole, view_ExprArray, view_ExprAssign, view_ExprBinary, view_ExprBlock, view_ExprCall, view_ExprCast, view_ExprField, view_ExprForLoop, view_ExprGroup, view_ExprIf, view_ExprIndex, view_ExprLoop, view_ExprMethodCall, view_ExprParen, view_ExprReference, view_ExprRepeat, view_ExprReturn, view_ExprStruct, view_FieldValue, view_ExprTry, view_ExprTuple, view_ExprUnary, view_ExprUnsafe, view_ExprWhile}
use Rattle.syn_expr.specs.Statements.{diverging, statements_syntax, statement_of, view_Block, view_Local, view_LocalInit}
use Rattle.syn_expr.specs.declared.expr.blocks.ExprBlock.TheDeep.{deep-Expr, deep-ExprStruct, deep-FieldValue, deep-ExprArray, deep-ExprAssign, deep-ExprBinary, deep-ExprBlock, deep-ExprCall, deep-ExprCast, deep-ExprField, deep-ExprForLoop, deep-ExprGroup, deep-ExprIf, deep-ExprIndex, deep-ExprLoop, deep-ExprMethodCall, deep-ExprParen, deep-ExprReference, deep-ExprRepeat, deep-ExprReturn, deep-ExprTry, deep-ExprTuple, deep-ExprUnary, deep-ExprUnsafe, deep-ExprWhile, deep-Block, deep-Stmt, deep-Local, deep-LocalInit}
use Rattle.syn_expr.specs.declared.expr.Expr.TheVariants as Expr-m
use Rattle.syn_expr.specs.declared.expr.blocks.ExprBlock.TheInside as ExprBlock-in
use Rattle.syn_expr.specs.declared.expr.blocks.ExprForLoop.TheInside as ExprForLoop-in
use Rattle.syn_expr.specs.declared.expr.blocks.ExprIf.TheInside as ExprIf-in
use Rattle.syn_expr.specs.declared.expr.blocks.ExprLoop.TheInside as ExprLoop-in
use Rattle.syn_expr.specs.declared.expr.blocks.ExprUnsafe.TheInside as ExprUnsafe-in
use Rattle.syn_expr.specs.declared.expr.blocks.ExprWhile.TheInside as ExprWhile-in
use Rattle.syn_expr.specs.declared.expr.groups.ExprArray.TheInside as ExprArray-in
use Rattle.syn_expr.specs.declared.expr.groups.ExprGroup.TheInside as ExprGroup-in
use Rattle.syn_expr.specs.declared.expr.groups.ExprParen.TheInside as ExprParen-in
use Rattle.syn_expr.specs.declared.expr.groups.ExprRepeat.TheInside as ExprRepeat-in
use Rattle.syn_expr.specs.declared.expr.groups.ExprTuple.TheInside as ExprTuple-in
use Rattle.syn_expr.specs.declared.expr.operators.ExprAssign.TheInside as ExprAssign-in
use Rattle.syn_expr.specs.declared.expr.operators.ExprBinary.TheInside as ExprBinary-in
use Rattle.syn_expr.specs.declared.expr.operators.ExprCast.TheInside as ExprCast-in
use Rattle.syn_expr.specs.declared.expr.operators.ExprReference.TheInside as ExprReference-in
use Rattle.syn_expr.specs.declared.expr.operators.ExprUnary.TheInside as ExprUnary-in
use Rattle.syn_expr.specs.declared.expr.postfix.ExprCall.TheInside as ExprCall-in
use Rattle.syn_expr.specs.declared.expr.postfix.ExprField.TheInside as ExprField-in
use Rattle.syn_expr.specs.declared.expr.postfix.ExprIndex.TheInside as ExprIndex-in
use Rattle.syn_expr.specs.declared.expr.postfix.ExprMethodCall.TheInside as ExprMethodCall-in
use Rattle.syn_expr.specs.declared.expr.postfix.ExprTry.TheInside as ExprTry-in
use Rattle.syn_expr.specs.declared.expr.primary.ExprReturn.TheInside as ExprReturn-in
use Rattle.syn_expr.specs.declared.expr.structs.ExprStruct.TheInside as ExprStruct-in
use Rattle.syn_expr.specs.declared.expr.structs.FieldValue.TheInside as FieldValue-in
use Rattle.syn_expr.specs.declared.stmt.Block.TheInside as Block-in
use Rattle.syn_expr.specs.declared.stmt.Local.TheInside as Local-in
use Rattle.syn_expr.specs.declared.stmt.LocalInit.TheInside as LocalInit-in
use Rattle.syn_expr.specs.declared.stmt.Stmt.TheVariants as Stmt-m

-- LISTS

module _ {T : Type 0} (v : T → Syntax) (d : T → ℕ) (falls : (t : T) → d t ≤ tree_size (v t) + 1) {P : Type 0} (w : P → Syntax) where
  abbrev list_deep : List (T × P) → Option T → ℕ
  list_deep l o = max (most (λ e. max (d e.0) 0) l) (weight_last d (split_last o))

  tuple_falls : (l : List (T × P)) (o : Option T) → list_deep l o ≤ tree_size (tuple_elements (list_of v w l o))
  tuple_falls [] None = omega arith
  tuple_falls [] (Some t) = omega (arith, falls t)
  tuple_falls (x ∷ l) o = list_falls v d falls w (x ∷ l) o

  array_falls : (l : List (T × P)) (o : Option T) → list_deep l o ≤ tree_size (array_elements (list_of v w l o))
  array_falls [] None = omega arith
  array_falls [] (Some t) = omega (arith, falls t)
  array_falls (x ∷ l) o = omega (arith, list_falls v d falls w (x ∷ l) o)

-- EXPRESSIONS

pub falls_Expr : (x : Expr-m.the_data) → deep-Expr x ≤ tree_size (syntax_of_Expr x) + 1
falls_Expr (Expr-m.Array e) = omega arith
falls_Expr (Expr-m.Assign e) = omega arith
falls_Expr (Expr-m.Binary e) = omega arith
falls_Expr (Expr-m.Block e) = omega arith
falls_Expr (Expr-m.Break e) = omega arith
falls_Expr (Expr-m.Call e) = omega arith
falls_Expr (Expr-m.Cast e) = omega arith
falls_Expr (Expr-m.Continue e) = omega arith
falls_Expr (Expr-m.Field e) = omega arith
falls_Expr (Expr-m.ForLoop e) = omega arith
falls_Expr (Expr-m.Group e) = omega arith
falls_Expr (Expr-m.If e) = omega arith
falls_Expr (Expr-m.Index e) = omega arith
falls_Expr (Expr-m.Lit e) = omega arith
falls_Expr (Expr-m.Loop e) = omega arith
falls_Expr (Expr-m.Macro e) = omega arith
falls_Expr (Expr-m.MethodCall e) = omega arith
falls_Expr (Expr-m.Paren e) = omega arith
falls_Expr (Expr-m.Path e) = omega arith
falls_Expr (Expr-m.Reference e) = omega arith
falls_Expr (Expr-m.Repeat e) = omega arith
falls_Expr (Expr-m.Return e) = omega arith
falls_Expr (Expr-m.Struct e) = omega arith
falls_Expr (Expr-m.Try e) = omega arith
falls_Expr (Expr-m.Tuple e) = omega arith
falls_Expr (Expr-m.Unary e) = omega arith
falls_Expr (Expr-m.Unsafe e) = omega arith
falls_Expr (Expr-m.Verbatim e) = omega arith
falls_Expr (Expr-m.While e) = omega arith

whole_falls : (x : Expr-m.the_data) → deep-Expr x ≤ tree_size (whole x) + 1
whole_falls x = omega (arith, falls_Expr x)

pub falls_ExprAssign : (a : ExprAssign-in.Inside) → deep-ExprAssign a ≤ tree_size (view_ExprAssign a)
falls_ExprAssign a = omega (arith, falls_Expr a.left.value, falls_Expr a.right.value)

pub falls_ExprBinary : (a : ExprBinary-in.Inside) → deep-ExprBinary a ≤ tree_size (view_ExprBinary a)
falls_ExprBinary a = omega (arith, falls_Expr a.left.value, falls_Expr a.right.value)

pub falls_ExprCast : (a : ExprCast-in.Inside) → deep-ExprCast a ≤ tree_size (view_ExprCast a)
falls_ExprCast a = omega (arith, falls_Expr a.expr.value)

pub falls_ExprReference : (a : ExprReference-in.Inside) → deep-ExprReference a ≤ tree_size (view_ExprReference a)
falls_ExprReference a = omega (arith, falls_Expr a.expr.value)

pub falls_ExprUnary : (a : ExprUnary-in.Inside) → deep-ExprUnary a ≤ tree_size (view_ExprUnary a)
falls_ExprUnary a = omega (arith, falls_Expr a.expr.value)

pub falls_ExprCall : (a : ExprCall-in.Inside) → deep-ExprCall a ≤ tree_size (view_ExprCall a)
falls_ExprCall a = omega (arith, falls_Expr a.func.value, list_falls whole deep-Expr whole_falls comma_syntax a.args.pairs a.args.last)

pub falls_ExprField : (a : ExprField-in.Inside) → deep-ExprField a ≤ tree_size (view_ExprField a)
falls_ExprField a = omega (arith, falls_Expr a.base.value)

pub falls_ExprIndex : (a : ExprIndex-in.Inside) → deep-ExprIndex a ≤ tree_size (view_ExprIndex a)
falls_ExprIndex a = omega (arith, falls_Expr a.expr.value, falls_Expr a.index.value)

-- a method's arguments
arguments_size : (generic : Option Syntax) (arguments : Syntax) → weight above (split generic) + tree_size arguments ≤ tree_size (method_arguments generic arguments) + 1
arguments_size None arguments = omega arith
arguments_size (Some (Both (Left colons) generic)) arguments = omega arith
arguments_size (Some generic) arguments = omega arith

pub falls_ExprMethodCall : (a : ExprMethodCall-in.Inside) → deep-ExprMethodCall a ≤ tree_size (view_ExprMethodCall a)
falls_ExprMethodCall a = omega (arith, falls_Expr a.receiver.value, list_falls whole deep-Expr whole_falls comma_syntax a.args.pairs a.args.last, arguments_size a.turbofish (group_syntax Paren a.paren_token (list_of whole comma_syntax a.args.pairs a.args.last)))

pub falls_ExprTry : (a : ExprTry-in.Inside) → deep-ExprTry a ≤ tree_size (view_ExprTry a)
falls_ExprTry a = omega (arith, falls_Expr a.expr.value)

pub falls_ExprArray : (a : ExprArray-in.Inside) → deep-ExprArray a ≤ tree_size (view_ExprArray a)
falls_ExprArray a = omega (arith, array_falls whole deep-Expr whole_falls comma_syntax a.elems.pairs a.elems.last)

pub falls_ExprGroup : (a : ExprGroup-in.Inside) → deep-ExprGroup a ≤ tree_size (view_ExprGroup a)
falls_ExprGroup a = omega (arith, falls_Expr a.expr.value)

pub falls_ExprParen : (a : ExprParen-in.Inside) → deep-ExprParen a ≤ tree_size (view_ExprParen a)
falls_ExprParen a = omega (arith, falls_Expr a.expr.value)

pub falls_ExprRepeat : (a : ExprRepeat-in.Inside) → deep-ExprRepeat a ≤ tree_size (view_ExprRepeat a)
falls_ExprRepeat a = omega (arith, falls_Expr a.expr.value, falls_Expr a.len.value)

pub falls_ExprTuple : (a : ExprTuple-in.Inside) → deep-ExprTuple a ≤ tree_size (view_ExprTuple a)
falls_ExprTuple a = omega (arith, tuple_falls whole deep-Expr whole_falls comma_syntax a.elems.pairs a.elems.last)

pub falls_ExprReturn : (a : ExprReturn-in.Inside) → deep-ExprReturn a ≤ tree_size (view_ExprReturn a)
falls_ExprReturn a = omega (arith, maybe_falls (λ e. whole e.value) (λ e. deep-Expr e.value) (λ e. whole_falls e.value) a.expr)

-- STRUCT LITERALS: a value that isn't shown is a path, which holds no expression

hidden_falls : (n : Syntax) (e : Expr-m.the_data) → deep-Expr e ≤ tree_size (hidden n (syntax_of_Expr e)) + 1
hidden_falls n (Expr-m.Array e) = omega (arith, falls_Expr (Expr-m.Array e))
hidden_falls n (Expr-m.Assign e) = omega (arith, falls_Expr (Expr-m.Assign e))
hidden_falls n (Expr-m.Binary e) = omega (arith, falls_Expr (Expr-m.Binary e))
hidden_falls n (Expr-m.Block e) = omega (arith, falls_Expr (Expr-m.Block e))
hidden_falls n (Expr-m.Break e) = omega (arith, falls_Expr (Expr-m.Break e))
hidden_falls n (Expr-m.Call e) = omega (arith, falls_Expr (Expr-m.Call e))
hidden_falls n (Expr-m.Cast e) = omega (arith, falls_Expr (Expr-m.Cast e))
hidden_falls n (Expr-m.Continue e) = omega (arith, falls_Expr (Expr-m.Continue e))
hidden_falls n (Expr-m.Field e) = omega (arith, falls_Expr (Expr-m.Field e))
hidden_falls n (Expr-m.ForLoop e) = omega (arith, falls_Expr (Expr-m.ForLoop e))
hidden_falls n (Expr-m.Group e) = omega (arith, falls_Expr (Expr-m.Group e))
hidden_falls n (Expr-m.If e) = omega (arith, falls_Expr (Expr-m.If e))
hidden_falls n (Expr-m.Index e) = omega (arith, falls_Expr (Expr-m.Index e))
hidden_falls n (Expr-m.Lit e) = omega (arith, falls_Expr (Expr-m.Lit e))
hidden_falls n (Expr-m.Loop e) = omega (arith, falls_Expr (Expr-m.Loop e))
hidden_falls n (Expr-m.Macro e) = omega (arith, falls_Expr (Expr-m.Macro e))
hidden_falls n (Expr-m.MethodCall e) = omega (arith, falls_Expr (Expr-m.MethodCall e))
hidden_falls n (Expr-m.Paren e) = omega (arith, falls_Expr (Expr-m.Paren e))
hidden_falls n (Expr-m.Path e) = omega arith
hidden_falls n (Expr-m.Reference e) = omega (arith, falls_Expr (Expr-m.Reference e))
hidden_falls n (Expr-m.Repeat e) = omega (arith, falls_Expr (Expr-m.Repeat e))
hidden_falls n (Expr-m.Return e) = omega (arith, falls_Expr (Expr-m.Return e))
hidden_falls n (Expr-m.Struct e) = omega (arith, falls_Expr (Expr-m.Struct e))
hidden_falls n (Expr-m.Try e) = omega (arith, falls_Expr (Expr-m.Try e))
hidden_falls n (Expr-m.Tuple e) = omega (arith, falls_Expr (Expr-m.Tuple e))
hidden_falls n (Expr-m.Unary e) = omega (arith, falls_Expr (Expr-m.Unary e))
hidden_falls n (Expr-m.Unsafe e) = omega (arith, falls_Expr (Expr-m.Unsafe e))
hidden_falls n (Expr-m.Verbatim e) = omega (arith, falls_Expr (Expr-m.Verbatim e))
hidden_falls n (Expr-m.While e) = omega (arith, falls_Expr (Expr-m.While e))

pub falls_FieldValue : (a : FieldValue-in.Inside) → deep-FieldValue a ≤ tree_size (view_FieldValue a)
falls_FieldValue a = go a.member a.colon_token
  where
    go : (m : Member-m.the_data) (c : Option Colon) → deep-FieldValue a ≤ tree_size (field_of (attributes_syntax a.attrs.items) (syntax_of_Member m) (maybe colon_syntax c) (syntax_of_Expr a.expr))
    go (Member-m.Named i) (Some c) = omega (arith, falls_Expr a.expr)
    go (Member-m.Named i) None = omega (arith, hidden_falls (syntax_of_ident i) a.expr)
    go (Member-m.Unnamed i) (Some c) = omega (arith, falls_Expr a.expr)
    go (Member-m.Unnamed i) None = omega (arith, falls_Expr a.expr)

pub falls_ExprStruct : (a : ExprStruct-in.Inside) → deep-ExprStruct a ≤ tree_size (view_ExprStruct a)
falls_ExprStruct a =
    omega (arith, list_falls itself above above_falls comma_syntax a.fields.pairs a.fields.last, maybe_falls (λ e. whole e.value) (λ e. deep-Expr e.value) (λ e. whole_falls e.value) a.rest)

-- BODIES

pub inner_size : (inner block : Syntax) → tree_size block ≤ tree_size (with_inner inner block)
inner_size inner (Node (Group d o c s)) = omega arith
inner_size inner s = omega arith

pub falls_ExprBlock : (a : ExprBlock-in.Inside) → deep-ExprBlock a ≤ tree_size (view_ExprBlock a)
falls_ExprBlock a = omega (arith, inner_size (attributes_in_body a.attrs.items) a.block)

pub falls_ExprUnsafe : (a : ExprUnsafe-in.Inside) → deep-ExprUnsafe a ≤ tree_size (view_ExprUnsafe a)
falls_ExprUnsafe a = omega (arith, inner_size (attributes_in_body a.attrs.items) a.block)

pub falls_ExprLoop : (a : ExprLoop-in.Inside) → deep-ExprLoop a ≤ tree_size (view_ExprLoop a)
falls_ExprLoop a = omega (arith, inner_size (attributes_in_body a.attrs.items) a.body)

pub falls_ExprWhile : (a : ExprWhile-in.Inside) → deep-ExprWhile a ≤ tree_size (view_ExprWhile a)
falls_ExprWhile a = omega (arith, falls_Expr a.cond.value, inner_size (attributes_in_body a.attrs.items) a.body)

pub falls_ExprForLoop : (a : ExprForLoop-in.Inside) → deep-ExprForLoop a ≤ tree_size (view_ExprForLoop a)
falls_ExprForLoop a = omega (arith, falls_Expr a.expr.value, inner_size (attributes_in_body a.attrs.items) a.body)

pub block_size : (s : Syntax) → tree_size s ≤ tree_size (block_after_else s)
block_size (Shaped (expr Block) s) = omega arith
block_size s = omega arith

pub else_size : (s : Syntax) → tree_size s ≤ tree_size (after_else s)
else_size (Shaped (expr If) s) = omega arith
else_size s = omega (arith, block_size s)

pub falls_ExprIf : (a : ExprIf-in.Inside) → deep-ExprIf a ≤ tree_size (view_ExprIf a)
falls_ExprIf a =
    omega (
      arith,
      falls_Expr a.cond.value,
      maybe_falls (λ p. Both (else_syntax p.0) (after_else (syntax_of_Expr p.1.value))) (λ p. max 0 (max (deep-Expr p.1.value) 0)) (λ p. omega (arith, falls_Expr p.1.value, else_size (syntax_of_Expr p.1.value))) a.else_branch,
    )

-- STATEMENTS

pub falls_Stmt : (x : Stmt-m.the_data) → deep-Stmt x ≤ tree_size (statement_of x) + 1
falls_Stmt (Stmt-m.Local s) = omega arith
falls_Stmt (Stmt-m.Item i) = omega arith
falls_Stmt (Stmt-m.Expr e semi) = omega (arith, falls_Expr e)
falls_Stmt (Stmt-m.Macro s) = omega arith

statements_fall : (l : List Stmt-m.the_data) → most deep-Stmt l ≤ tree_size (statements_syntax l)
statements_fall [] = omega arith
statements_fall (s ∷ l) = omega (arith, falls_Stmt s, statements_fall l)

pub falls_Block : (a : Block-in.Inside) → deep-Block a ≤ tree_size (view_Block a)
falls_Block a = omega (arith, statements_fall a.stmts.items)

diverging_size : (s : Syntax) → tree_size s ≤ tree_size (diverging s)
diverging_size (Left s) = omega arith
diverging_size (Right s) = omega arith
diverging_size s = omega arith

pub falls_LocalInit : (a : LocalInit-in.Inside) → deep-LocalInit a ≤ tree_size (view_LocalInit a)
falls_LocalInit a =
    omega (
      arith,
      falls_Expr a.expr.value,
      maybe_falls (λ p. Both (else_syntax p.0) (block_after_else (syntax_of_Expr p.1.value))) (λ p. max 0 (max (deep-Expr p.1.value) 0)) (λ p. omega (arith, falls_Expr p.1.value, block_size (syntax_of_Expr p.1.value))) a.diverge,
      diverging_size (maybe (λ p. Both (else_syntax p.0) (block_after_else (syntax_of_Expr p.1.value))) a.diverge),
    )

pub falls_Local : (a : Local-in.Inside) → deep-Local a ≤ tree_size (view_Local a)
falls_Local a = omega (arith, maybe_falls itself above above_falls a.init)
