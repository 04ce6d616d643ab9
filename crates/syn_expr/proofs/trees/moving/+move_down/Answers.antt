use Rattle.std.proofs.Common.{◌≡◌, true, sym, ap, ◌∙◌, arith}
use Rattle.syn_grammar.specs.Shape.{Assign, Binary, Cast, expr}
use Rattle.syn_grammar.specs.Grammar.{Syntax, Shaped}
use Rattle.syn_lower.specs.Attributes.{attributes_syntax}
use Rattle.syn_lower.specs.Parsing.{IsSyntax}
use Rattle.syn_expr.specs.Expressions.{syntax_of_Expr, view_ExprAssign, view_ExprBinary, view_ExprCast}
use Rattle.syn_expr_parse.specs.Spines.{is_bare}
use Rattle.syn_expr.proofs.Moving.{left_of, moved_below, not_down, shown_below, smaller_below, unless_memory}
use Rattle.syn_expr.proofs.trees.moving.+move_down.Goals as goal

pub put_before-requires-clause-shown : goal.put_before-requires-clause-shown
put_before-requires-clause-shown t c =
    sym (not_down (syntax_of_Expr c.args.expr.now) (sym c.is_bare_operation.ensures ∙ c.if-not-is_bare_operation.true)) ∙ c.requires.shown

pub move_down-requires : goal.move_down-requires
move_down-requires t c =
    let s = syntax_of_Expr c.args.expr.now in
    let fields : Syntax = Shaped (expr Assign) (view_ExprAssign c.e.inside) in
    let l = syntax_of_Expr c.deref_mut.result.now in
    let is : s ≡ fields = ap syntax_of_Expr c.in-Assign.is ∙ ap (Shaped (expr Assign)) (sym c.e.view_is) in
    let bare : is_bare s ≡ true = sym c.is_bare_operation.ensures ∙ c.if-not-is_bare_operation.false in
    let below : left_of fields ≡ l = ap syntax_of_Expr (sym c.deref_mut.ensures.value) in
    let less = smaller_below s fields l is bare below in
    (omega (arith, less, c.decreases), (c.requires.outer, shown_below s fields l is bare below c.requires.shown))

pub returns-in-Assign : goal.returns-in-Assign
returns-in-Assign t c =
    let s = syntax_of_Expr c.args.expr.now in
    let fields : Syntax = Shaped (expr Assign) (view_ExprAssign c.e.inside) in
    let l = syntax_of_Expr c.deref_mut.result.now in
    let is : s ≡ fields = ap syntax_of_Expr c.in-Assign.is ∙ ap (Shaped (expr Assign)) (sym c.e.view_is) in
    let bare : is_bare s ≡ true = sym c.is_bare_operation.ensures ∙ c.if-not-is_bare_operation.false in
    let below : left_of fields ≡ l = ap syntax_of_Expr (sym c.deref_mut.ensures.value) in
    unless_memory IsSyntax c.move_down.result _ _ (moved_below s fields l is bare below (attributes_syntax c.args.attrs.items) (syntax_of_Expr c.move_down.new.expr)) c.move_down.ensures

pub move_down-requires-in-Binary : goal.move_down-requires-in-Binary
move_down-requires-in-Binary t c =
    let s = syntax_of_Expr c.args.expr.now in
    let fields : Syntax = Shaped (expr Binary) (view_ExprBinary c.e-in-Binary.inside) in
    let l = syntax_of_Expr c.deref_mut-in-Binary.result.now in
    let is : s ≡ fields = ap syntax_of_Expr c.in-Binary.is ∙ ap (Shaped (expr Binary)) (sym c.e-in-Binary.view_is) in
    let bare : is_bare s ≡ true = sym c.is_bare_operation.ensures ∙ c.if-not-is_bare_operation.false in
    let below : left_of fields ≡ l = ap syntax_of_Expr (sym c.deref_mut-in-Binary.ensures.value) in
    let less = smaller_below s fields l is bare below in
    (omega (arith, less, c.decreases), (c.requires.outer, shown_below s fields l is bare below c.requires.shown))

pub returns-in-Binary : goal.returns-in-Binary
returns-in-Binary t c =
    let s = syntax_of_Expr c.args.expr.now in
    let fields : Syntax = Shaped (expr Binary) (view_ExprBinary c.e-in-Binary.inside) in
    let l = syntax_of_Expr c.deref_mut-in-Binary.result.now in
    let is : s ≡ fields = ap syntax_of_Expr c.in-Binary.is ∙ ap (Shaped (expr Binary)) (sym c.e-in-Binary.view_is) in
    let bare : is_bare s ≡ true = sym c.is_bare_operation.ensures ∙ c.if-not-is_bare_operation.false in
    let below : left_of fields ≡ l = ap syntax_of_Expr (sym c.deref_mut-in-Binary.ensures.value) in
    unless_memory IsSyntax c.move_down-in-Binary.result _ _ (moved_below s fields l is bare below (attributes_syntax c.args.attrs.items) (syntax_of_Expr c.move_down-in-Binary.new.expr)) c.move_down-in-Binary.ensures

pub move_down-requires-in-Cast : goal.move_down-requires-in-Cast
move_down-requires-in-Cast t c =
    let s = syntax_of_Expr c.args.expr.now in
    let fields : Syntax = Shaped (expr Cast) (view_ExprCast c.e-in-Cast.inside) in
    let l = syntax_of_Expr c.deref_mut-in-Cast.result.now in
    let is : s ≡ fields = ap syntax_of_Expr c.in-Cast.is ∙ ap (Shaped (expr Cast)) (sym c.e-in-Cast.view_is) in
    let bare : is_bare s ≡ true = sym c.is_bare_operation.ensures ∙ c.if-not-is_bare_operation.false in
    let below : left_of fields ≡ l = ap syntax_of_Expr (sym c.deref_mut-in-Cast.ensures.value) in
    let less = smaller_below s fields l is bare below in
    (omega (arith, less, c.decreases), (c.requires.outer, shown_below s fields l is bare below c.requires.shown))

pub returns-in-Cast : goal.returns-in-Cast
returns-in-Cast t c =
    let s = syntax_of_Expr c.args.expr.now in
    let fields : Syntax = Shaped (expr Cast) (view_ExprCast c.e-in-Cast.inside) in
    let l = syntax_of_Expr c.deref_mut-in-Cast.result.now in
    let is : s ≡ fields = ap syntax_of_Expr c.in-Cast.is ∙ ap (Shaped (expr Cast)) (sym c.e-in-Cast.view_is) in
    let bare : is_bare s ≡ true = sym c.is_bare_operation.ensures ∙ c.if-not-is_bare_operation.false in
    let below : left_of fields ≡ l = ap syntax_of_Expr (sym c.deref_mut-in-Cast.ensures.value) in
    unless_memory IsSyntax c.move_down-in-Cast.result _ _ (moved_below s fields l is bare below (attributes_syntax c.args.attrs.items) (syntax_of_Expr c.move_down-in-Cast.new.expr)) c.move_down-in-Cast.ensures
