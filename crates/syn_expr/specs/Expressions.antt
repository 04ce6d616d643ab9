-- THE SYNTAX OF EXPRESSIONS, one level at a time, every field.
-- An expression is its variant, its attributes and its fields (`Shaped (expr variant) (Both attributes fields)`). An operand after a sign, an
-- operator or a word is in its rule's node; one before it isn't.
use Rattle.std.specs.Prelude.{Bool, true, false, List, [], Option, Some, None}
use Rattle.syn_grammar.specs.Tokens.{Paren, Brace, Bracket, call_site}
use Rattle.syn_grammar.specs.Tokens as grammar
use Rattle.syn_grammar.specs.Shape.{Variant, Array, Assign, Binary, Block, Break, Call, Cast, Continue, Field, ForLoop, Grouped, If, Index, Lit, Loop, Macro, MethodCall, Parens, Path, Reference, Repeat, Return, Struct, Try, Tuple, Unary, Unsafe, Verbatim, While, expr, said, choice}
use Rattle.syn_grammar.specs.Grammar.{Syntax, Nothing, Both, Left, Right, Node, Group, Shaped, Captured, Unshown}
use Rattle.syn_grammar.specs.Promises.{itself}
use Rattle.syn_tokens.specs.Leaves.{maybe, syntax_of_ident}
use Rattle.syn_tokens.specs.Kinds.{and_syntax, as_syntax, break_syntax, colon_syntax, comma_syntax, continue_syntax, dot_syntax, dot_dot_syntax, else_syntax, eq_syntax, for_syntax, if_syntax, in_syntax, loop_syntax, mut_syntax, question_syntax, return_syntax, semi_syntax, unsafe_syntax, while_syntax}
use Rattle.syn_tokens.specs.Listing.{list_of}
use Rattle.syn_lower.specs.Attributes.{attributes_syntax, none_listed}
use Rattle.syn_lower.specs.Literals.{syntax_of_Lit}
use Rattle.syn_lower.specs.Members.{syntax_of_Member}
use Rattle.syn_lower.specs.Parts.{first, group_syntax, second}
use Rattle.syn_lower.specs.Types.{syntax_of_lifetime, syntax_of_Type, tuple_elements}
use Rattle.syn_lower.specs.Bodies.{attributes_before_body, body}
use Rattle.syn_expr_parse.specs.Operators.{syntax_of_BinOp, syntax_of_UnOp}
pub use Rattle.syn_expr_parse.specs.Parts.{array_elements, after_else, block_after_else, field_member, in_braces, method_arguments, token_of}
use Rattle.syn_expr_parse.specs.StructLiterals.{field_of, literal_of_parts}
use Rattle.syn_pat.specs.Patterns.{path_of, syntax_of_Pat}
use Rattle.syn_expr.specs.declared.expr.Expr.TheVariants as Expr-m
use Rattle.syn_expr.specs.declared.expr.blocks.ExprBlock.TheInside as ExprBlock-in
use Rattle.syn_expr.specs.declared.expr.blocks.ExprForLoop.TheInside as ExprForLoop-in
use Rattle.syn_expr.specs.declared.expr.blocks.ExprIf.TheInside as ExprIf-in
use Rattle.syn_expr.specs.declared.expr.blocks.ExprLoop.TheInside as ExprLoop-in
use Rattle.syn_expr.specs.declared.expr.blocks.ExprUnsafe.TheInside as ExprUnsafe-in
use Rattle.syn_expr.specs.declared.expr.blocks.ExprWhile.TheInside as ExprWhile-in
use Rattle.syn_expr.specs.declared.expr.blocks.Label.TheInside as Label-in
use Rattle.syn_expr.specs.declared.expr.groups.ExprArray.TheInside as ExprArray-in
use Rattle.syn_expr.specs.declared.expr.groups.ExprGroup.TheInside as ExprGroup-in
use Rattle.syn_expr.specs.declared.expr.groups.ExprParen.TheInside as ExprParen-in
use Rattle.syn_expr.specs.declared.expr.groups.ExprRepeat.TheInside as ExprRepeat-in
use Rattle.syn_expr.specs.declared.expr.groups.ExprTuple.TheInside as ExprTuple-in
use Rattle.syn_expr.specs.declared.expr.operators.ExprAssign.TheInside as ExprAssign-in
use Rattle.syn_expr.specs.declared.expr.operators.ExprBinary.TheInside as ExprBinary-in
use Rattle.syn_expr.specs.declared.expr.operators.ExprCast.TheInside as ExprCast-in
use Rattle.syn_expr.specs.declared.expr.operators.ExprReference.TheInside as ExprReference-in
use Rattle.syn_expr.specs.declared.expr.operators.ExprUnary.TheInside as ExprUnary-in
use Rattle.syn_expr.specs.declared.expr.postfix.ExprCall.TheInside as ExprCall-in
use Rattle.syn_expr.specs.declared.expr.postfix.ExprField.TheInside as ExprField-in
use Rattle.syn_expr.specs.declared.expr.postfix.ExprIndex.TheInside as ExprIndex-in
use Rattle.syn_expr.specs.declared.expr.postfix.ExprMethodCall.TheInside as ExprMethodCall-in
use Rattle.syn_expr.specs.declared.expr.postfix.ExprTry.TheInside as ExprTry-in
use Rattle.syn_expr.specs.declared.expr.primary.ExprBreak.TheInside as ExprBreak-in
use Rattle.syn_expr.specs.declared.expr.primary.ExprContinue.TheInside as ExprContinue-in
use Rattle.syn_expr.specs.declared.expr.primary.ExprLit.TheInside as ExprLit-in
use Rattle.syn_expr.specs.declared.expr.primary.ExprMacro.TheInside as ExprMacro-in
use Rattle.syn_expr.specs.declared.expr.primary.ExprPath.TheInside as ExprPath-in
use Rattle.syn_expr.specs.declared.expr.primary.ExprReturn.TheInside as ExprReturn-in
use Rattle.syn_expr.specs.declared.expr.structs.ExprStruct.TheInside as ExprStruct-in
use Rattle.syn_expr.specs.declared.expr.structs.FieldValue.TheInside as FieldValue-in

abbrev pub syntax_of_Expr : Expr-m.the_data → Syntax
syntax_of_Expr (Expr-m.Array e) = Shaped (expr Array) e
syntax_of_Expr (Expr-m.Assign e) = Shaped (expr Assign) e
syntax_of_Expr (Expr-m.Binary e) = Shaped (expr Binary) e
syntax_of_Expr (Expr-m.Block e) = Shaped (expr Block) e
syntax_of_Expr (Expr-m.Break e) = Shaped (expr Break) e
syntax_of_Expr (Expr-m.Call e) = Shaped (expr Call) e
syntax_of_Expr (Expr-m.Cast e) = Shaped (expr Cast) e
syntax_of_Expr (Expr-m.Continue e) = Shaped (expr Continue) e
syntax_of_Expr (Expr-m.Field e) = Shaped (expr Field) e
syntax_of_Expr (Expr-m.ForLoop e) = Shaped (expr ForLoop) e
syntax_of_Expr (Expr-m.Group e) = Shaped (expr Grouped) e
syntax_of_Expr (Expr-m.If e) = Shaped (expr If) e
syntax_of_Expr (Expr-m.Index e) = Shaped (expr Index) e
syntax_of_Expr (Expr-m.Lit e) = Shaped (expr Lit) e
syntax_of_Expr (Expr-m.Loop e) = Shaped (expr Loop) e
syntax_of_Expr (Expr-m.Macro e) = Shaped (expr Macro) e
syntax_of_Expr (Expr-m.MethodCall e) = Shaped (expr MethodCall) e
syntax_of_Expr (Expr-m.Paren e) = Shaped (expr Parens) e
syntax_of_Expr (Expr-m.Path e) = Shaped (expr Path) e
syntax_of_Expr (Expr-m.Reference e) = Shaped (expr Reference) e
syntax_of_Expr (Expr-m.Repeat e) = Shaped (expr Repeat) e
syntax_of_Expr (Expr-m.Return e) = Shaped (expr Return) e
syntax_of_Expr (Expr-m.Struct e) = Shaped (expr Struct) e
syntax_of_Expr (Expr-m.Try e) = Shaped (expr Try) e
syntax_of_Expr (Expr-m.Tuple e) = Shaped (expr Tuple) e
syntax_of_Expr (Expr-m.Unary e) = Shaped (expr Unary) e
syntax_of_Expr (Expr-m.Unsafe e) = Shaped (expr Unsafe) e
syntax_of_Expr (Expr-m.Verbatim tokens) = Shaped (expr Verbatim) (Captured Nothing tokens)
syntax_of_Expr (Expr-m.While e) = Shaped (expr While) e

-- in the node of its rule
abbrev pub whole : Expr-m.the_data → Syntax
whole e = Node (syntax_of_Expr e)

-- OPERATORS

abbrev pub view_ExprAssign : ExprAssign-in.Inside → Syntax
view_ExprAssign a = Both (attributes_syntax a.attrs.items) (Both (syntax_of_Expr a.left.value) (Both (eq_syntax a.eq_token) (whole a.right.value)))

abbrev pub view_ExprBinary : ExprBinary-in.Inside → Syntax
view_ExprBinary a = Both (attributes_syntax a.attrs.items) (Both (syntax_of_Expr a.left.value) (Both (syntax_of_BinOp a.op) (whole a.right.value)))

abbrev pub view_ExprCast : ExprCast-in.Inside → Syntax
view_ExprCast a = Both (attributes_syntax a.attrs.items) (Both (syntax_of_Expr a.expr.value) (Both (as_syntax a.as_token) (syntax_of_Type a.ty.value)))

abbrev pub view_ExprReference : ExprReference-in.Inside → Syntax
view_ExprReference a = Both (attributes_syntax a.attrs.items) (Both (and_syntax a.and_token) (Both (maybe mut_syntax a.mutability) (whole a.expr.value)))

abbrev pub view_ExprUnary : ExprUnary-in.Inside → Syntax
view_ExprUnary a = Both (attributes_syntax a.attrs.items) (Both (syntax_of_UnOp a.op) (whole a.expr.value))

-- AFTER AN EXPRESSION: postfixes and operators

abbrev pub view_ExprCall : ExprCall-in.Inside → Syntax
view_ExprCall a = Both (attributes_syntax a.attrs.items) (Both (syntax_of_Expr a.func.value) (group_syntax Paren a.paren_token (list_of whole comma_syntax a.args.pairs a.args.last)))

abbrev pub view_ExprField : ExprField-in.Inside → Syntax
view_ExprField a = Both (attributes_syntax a.attrs.items) (Both (syntax_of_Expr a.base.value) (Both (dot_syntax a.dot_token) (field_member (syntax_of_Member a.member))))

abbrev pub view_ExprIndex : ExprIndex-in.Inside → Syntax
view_ExprIndex a = Both (attributes_syntax a.attrs.items) (Both (syntax_of_Expr a.expr.value) (group_syntax Bracket a.bracket_token (whole a.index.value)))

abbrev pub view_ExprMethodCall : ExprMethodCall-in.Inside → Syntax
view_ExprMethodCall a =
    Both (attributes_syntax a.attrs.items) (Both (syntax_of_Expr a.receiver.value) (Both (dot_syntax a.dot_token) (Node (Right
    (Both (syntax_of_ident a.method) (method_arguments a.turbofish (group_syntax Paren a.paren_token (list_of whole comma_syntax a.args.pairs a.args.last))))))))

abbrev pub view_ExprTry : ExprTry-in.Inside → Syntax
view_ExprTry a = Both (attributes_syntax a.attrs.items) (Both (syntax_of_Expr a.expr.value) (question_syntax a.question_token))

-- GROUPS

abbrev pub view_ExprArray : ExprArray-in.Inside → Syntax
view_ExprArray a = Both (attributes_syntax a.attrs.items) (group_syntax Bracket a.bracket_token (array_elements (list_of whole comma_syntax a.elems.pairs a.elems.last)))

abbrev pub view_ExprGroup : ExprGroup-in.Inside → Syntax
view_ExprGroup a = Both (attributes_syntax a.attrs.items) (group_syntax grammar.None a.group_token (whole a.expr.value))

abbrev pub view_ExprParen : ExprParen-in.Inside → Syntax
view_ExprParen a = Both (attributes_syntax a.attrs.items) (group_syntax Paren a.paren_token (Node (Right (Both (whole a.expr.value) (Right Nothing)))))

abbrev pub view_ExprRepeat : ExprRepeat-in.Inside → Syntax
view_ExprRepeat a =
    Both (attributes_syntax a.attrs.items)
    (group_syntax Bracket a.bracket_token (Node (Right (Both (whole a.expr.value) (Left (Both (semi_syntax a.semi_token) (whole a.len.value)))))))

abbrev pub view_ExprTuple : ExprTuple-in.Inside → Syntax
view_ExprTuple a = Both (attributes_syntax a.attrs.items) (group_syntax Paren a.paren_token (tuple_elements (list_of whole comma_syntax a.elems.pairs a.elems.last)))

-- WITHOUT OPERANDS

abbrev pub view_ExprBreak : ExprBreak-in.Inside → Syntax
view_ExprBreak a = Both (attributes_syntax a.attrs.items) (Both (break_syntax a.break_token) (Both (maybe syntax_of_lifetime a.label) (Right Nothing)))

abbrev pub view_ExprContinue : ExprContinue-in.Inside → Syntax
view_ExprContinue a = Both (attributes_syntax a.attrs.items) (Both (continue_syntax a.continue_token) (maybe syntax_of_lifetime a.label))

abbrev pub view_ExprLit : ExprLit-in.Inside → Syntax
view_ExprLit a = Both (attributes_syntax a.attrs.items) (token_of (syntax_of_Lit a.lit))

abbrev pub view_ExprMacro : ExprMacro-in.Inside → Syntax
view_ExprMacro a = Both (attributes_syntax a.attrs.items) a.mac

abbrev pub view_ExprPath : ExprPath-in.Inside → Syntax
view_ExprPath a = Both (attributes_syntax a.attrs.items) (path_of a.qself a.path)

abbrev pub view_ExprReturn : ExprReturn-in.Inside → Syntax
view_ExprReturn a = Both (attributes_syntax a.attrs.items) (Both (return_syntax a.return_token) (maybe (λ e. whole e.value) a.expr))

-- STRUCT LITERALS

abbrev pub view_FieldValue : FieldValue-in.Inside → Syntax
view_FieldValue a = field_of (attributes_syntax a.attrs.items) (syntax_of_Member a.member) (maybe colon_syntax a.colon_token) (syntax_of_Expr a.expr)

abbrev pub view_ExprStruct : ExprStruct-in.Inside → Syntax
view_ExprStruct a =
    Both (attributes_syntax a.attrs.items)
    (Both (path_of a.qself a.path)
    (group_syntax Brace a.brace_token (literal_of_parts (list_of itself comma_syntax a.fields.pairs a.fields.last) (maybe dot_dot_syntax a.dot2_token) (maybe (λ e. whole e.value) a.rest))))

-- BODIES

abbrev pub view_Label : Label-in.Inside → Syntax
view_Label a = Both (syntax_of_lifetime a.name) (colon_syntax a.colon_token)

abbrev pub view_ExprBlock : ExprBlock-in.Inside → Syntax
view_ExprBlock a = Both (attributes_before_body a.attrs.items) (Both (maybe itself a.label) (body a.attrs.items a.block))

abbrev pub view_ExprUnsafe : ExprUnsafe-in.Inside → Syntax
view_ExprUnsafe a = Both (attributes_before_body a.attrs.items) (Both (unsafe_syntax a.unsafe_token) (body a.attrs.items a.block))

abbrev pub view_ExprLoop : ExprLoop-in.Inside → Syntax
view_ExprLoop a = Both (attributes_before_body a.attrs.items) (Both (maybe itself a.label) (Both (loop_syntax a.loop_token) (body a.attrs.items a.body)))

abbrev pub view_ExprWhile : ExprWhile-in.Inside → Syntax
view_ExprWhile a =
    Both (attributes_before_body a.attrs.items) (Both (maybe itself a.label) (Both (while_syntax a.while_token) (Both (whole a.cond.value) (body a.attrs.items a.body))))

abbrev pub view_ExprForLoop : ExprForLoop-in.Inside → Syntax
view_ExprForLoop a =
    Both (attributes_before_body a.attrs.items) (Both (maybe itself a.label) (Both (for_syntax a.for_token)
    (Both (syntax_of_Pat a.pat.value) (Both (in_syntax a.in_token) (Both (whole a.expr.value) (body a.attrs.items a.body))))))

abbrev pub view_ExprIf : ExprIf-in.Inside → Syntax
view_ExprIf a =
    Both (attributes_syntax a.attrs.items) (Both (if_syntax a.if_token) (Both (whole a.cond.value) (Both a.then_branch
    (maybe (λ p. Both (else_syntax p.0) (after_else (syntax_of_Expr p.1.value))) a.else_branch))))

-- which of the two an expression is
abbrev pub is_block : Syntax → Bool
is_block (Shaped (expr Block) s) = true
is_block s = false

abbrev pub is_if : Syntax → Bool
is_if (Shaped (expr If) s) = true
is_if s = false
