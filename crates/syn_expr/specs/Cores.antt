-- What an expression represents is a value of its own. (The proof is here, since the trees of the parsers cite it.)
use Rattle.std.proofs.Common.{◌≡◌, refl}
use Rattle.syn_grammar.specs.Values.{core}
use Rattle.syn_expr.specs.Expressions.{syntax_of_Expr}
use Rattle.syn_expr.specs.declared.expr.Expr.TheVariants as Expr-m

pub core_view : (e : Expr-m.the_data) → core (syntax_of_Expr e) ≡ syntax_of_Expr e
core_view (Expr-m.Array e) = refl
core_view (Expr-m.Assign e) = refl
core_view (Expr-m.Binary e) = refl
core_view (Expr-m.Block e) = refl
core_view (Expr-m.Break e) = refl
core_view (Expr-m.Call e) = refl
core_view (Expr-m.Cast e) = refl
core_view (Expr-m.Continue e) = refl
core_view (Expr-m.Field e) = refl
core_view (Expr-m.ForLoop e) = refl
core_view (Expr-m.Group e) = refl
core_view (Expr-m.If e) = refl
core_view (Expr-m.Index e) = refl
core_view (Expr-m.Lit e) = refl
core_view (Expr-m.Loop e) = refl
core_view (Expr-m.Macro e) = refl
core_view (Expr-m.MethodCall e) = refl
core_view (Expr-m.Paren e) = refl
core_view (Expr-m.Path e) = refl
core_view (Expr-m.Reference e) = refl
core_view (Expr-m.Repeat e) = refl
core_view (Expr-m.Return e) = refl
core_view (Expr-m.Struct e) = refl
core_view (Expr-m.Try e) = refl
core_view (Expr-m.Tuple e) = refl
core_view (Expr-m.Unary e) = refl
core_view (Expr-m.Unsafe e) = refl
core_view (Expr-m.Verbatim e) = refl
core_view (Expr-m.While e) = refl
