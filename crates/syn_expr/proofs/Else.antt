-- What follows `else`.
use Rattle.std.proofs.Common.{◌≡◌, ◌≤◌, ◌+◌, ℕ, Bool, true, false, refl, sym, ap, ◌∙◌, true≢false, arith}
use Rattle.std.specs.Prelude.{Option, Some, None}
use Rattle.syn_grammar.specs.Shape.{Block, If, expr, choice}
use Rattle.syn_grammar.specs.Tokens.{and}
use Rattle.syn_grammar.specs.Grammar.{Syntax, Nothing, Both, Left, Right, Node, Group, Shaped, plain_syntax, print}
use Rattle.syn_grammar.specs.Same.{same_syntax}
use Rattle.std.specs.Global.{Global}
use Rattle.std.proofs.Common.{Box}
use Rattle.syn_tokens.specs.Kinds.{Else, else_syntax}
use Rattle.syn_tokens.specs.Leaves.{maybe}
use Rattle.syn_lower.proofs.Compared.{reported}
use Rattle.syn_lower.specs.Sizes.{tree_size}
use Rattle.syn_expr.specs.Expressions.{after_else, block_after_else, in_braces, is_block, is_if, syntax_of_Expr}
use Rattle.syn_expr.specs.Statements.{diverging}
use Rattle.syn_expr.specs.declared.expr.Expr.TheVariants as Expr-m

no_yes : false ≡ true → ⊥
no_yes e = true≢false (sym e)

-- PRINTS

pub print_block : (s : Syntax) → is_block s ≡ true → print (block_after_else s) ≡ print s
print_block (Shaped (expr Block) s) h = refl
print_block s h = absurd (no_yes h)

pub print_braces : (s : Syntax) → is_block s ≡ false → print (block_after_else s) ≡ print (in_braces s)
print_braces (Shaped (expr Block) s) h = absurd (true≢false h)
print_braces s h = refl

pub print_if : (s : Syntax) → is_if s ≡ true → print (after_else s) ≡ print s
print_if (Shaped (expr If) s) h = refl
print_if s h = absurd (no_yes h)

pub print_no_if : (s : Syntax) → is_if s ≡ false → print (after_else s) ≡ print (block_after_else s)
print_no_if (Shaped (expr If) s) h = absurd (true≢false h)
print_no_if s h = refl

pub print_diverging : (s : Syntax) → print (diverging s) ≡ print s
print_diverging (Left s) = refl
print_diverging (Right s) = refl
print_diverging s = refl

-- SIZES

pub block_smaller : (s : Syntax) → tree_size s ≤ tree_size (block_after_else s)
block_smaller (Shaped (expr Block) s) = omega arith
block_smaller s = omega arith

pub else_smaller : (s : Syntax) → tree_size s ≤ tree_size (after_else s)
else_smaller (Shaped (expr If) s) = omega arith
else_smaller s = omega (arith, block_smaller s)

pub diverging_smaller : (s : Syntax) → tree_size s ≤ tree_size (diverging s)
diverging_smaller (Left s) = omega arith
diverging_smaller (Right s) = omega arith
diverging_smaller s = omega arith

-- the expression itself, among what follows it
abbrev Branch : Type 0
Branch = Else × Box Expr-m.the_data Global

pub branch_smaller : (o : Option Branch) → tree_size (maybe (λ p. syntax_of_Expr p.1.value) o) ≤ tree_size (maybe (λ p. Both (else_syntax p.0) (after_else (syntax_of_Expr p.1.value))) o)
branch_smaller None = omega arith
branch_smaller (Some p) = omega (arith, else_smaller (syntax_of_Expr p.1.value))

pub diverge_smaller : (o : Option Branch) → tree_size (maybe (λ p. syntax_of_Expr p.1.value) o) ≤ tree_size (diverging (maybe (λ p. Both (else_syntax p.0) (block_after_else (syntax_of_Expr p.1.value))) o))
diverge_smaller None = omega arith
diverge_smaller (Some p) = omega (arith, block_smaller (syntax_of_Expr p.1.value))

-- COMPARISONS

plain_block : (e : Expr-m.the_data) → plain_syntax (block_after_else (syntax_of_Expr e)) ≡ block_after_else (plain_syntax (syntax_of_Expr e))
plain_block (Expr-m.Array e) = refl
plain_block (Expr-m.Assign e) = refl
plain_block (Expr-m.Binary e) = refl
plain_block (Expr-m.Block e) = refl
plain_block (Expr-m.Break e) = refl
plain_block (Expr-m.Call e) = refl
plain_block (Expr-m.Cast e) = refl
plain_block (Expr-m.Continue e) = refl
plain_block (Expr-m.Field e) = refl
plain_block (Expr-m.ForLoop e) = refl
plain_block (Expr-m.Group e) = refl
plain_block (Expr-m.If e) = refl
plain_block (Expr-m.Index e) = refl
plain_block (Expr-m.Lit e) = refl
plain_block (Expr-m.Loop e) = refl
plain_block (Expr-m.Macro e) = refl
plain_block (Expr-m.MethodCall e) = refl
plain_block (Expr-m.Paren e) = refl
plain_block (Expr-m.Path e) = refl
plain_block (Expr-m.Reference e) = refl
plain_block (Expr-m.Repeat e) = refl
plain_block (Expr-m.Return e) = refl
plain_block (Expr-m.Struct e) = refl
plain_block (Expr-m.Try e) = refl
plain_block (Expr-m.Tuple e) = refl
plain_block (Expr-m.Unary e) = refl
plain_block (Expr-m.Unsafe e) = refl
plain_block (Expr-m.Verbatim e) = refl
plain_block (Expr-m.While e) = refl

-- what follows `else`, by its form there
out_of_block : Syntax → Syntax
out_of_block (Group d o c (Shaped choice s)) = s
out_of_block s = s

block_known : (e : Expr-m.the_data) → out_of_block (block_after_else (plain_syntax (syntax_of_Expr e))) ≡ plain_syntax (syntax_of_Expr e)
unfolding out_of_block
block_known (Expr-m.Array e) = refl
block_known (Expr-m.Assign e) = refl
block_known (Expr-m.Binary e) = refl
block_known (Expr-m.Block e) = refl
block_known (Expr-m.Break e) = refl
block_known (Expr-m.Call e) = refl
block_known (Expr-m.Cast e) = refl
block_known (Expr-m.Continue e) = refl
block_known (Expr-m.Field e) = refl
block_known (Expr-m.ForLoop e) = refl
block_known (Expr-m.Group e) = refl
block_known (Expr-m.If e) = refl
block_known (Expr-m.Index e) = refl
block_known (Expr-m.Lit e) = refl
block_known (Expr-m.Loop e) = refl
block_known (Expr-m.Macro e) = refl
block_known (Expr-m.MethodCall e) = refl
block_known (Expr-m.Paren e) = refl
block_known (Expr-m.Path e) = refl
block_known (Expr-m.Reference e) = refl
block_known (Expr-m.Repeat e) = refl
block_known (Expr-m.Return e) = refl
block_known (Expr-m.Struct e) = refl
block_known (Expr-m.Try e) = refl
block_known (Expr-m.Tuple e) = refl
block_known (Expr-m.Unary e) = refl
block_known (Expr-m.Unsafe e) = refl
block_known (Expr-m.Verbatim e) = refl
block_known (Expr-m.While e) = refl

same_block_after : (e f : Expr-m.the_data) → same_syntax (block_after_else (syntax_of_Expr e)) (block_after_else (syntax_of_Expr f)) ≡ same_syntax (syntax_of_Expr e) (syntax_of_Expr f)
same_block_after e f =
    reported block_after_else out_of_block _ _ (syntax_of_Expr e) (syntax_of_Expr f) (plain_block e) (plain_block f)
    (ap out_of_block (plain_block e) ∙ block_known e) (ap out_of_block (plain_block f) ∙ block_known f)

plain_after : (e : Expr-m.the_data) → plain_syntax (after_else (syntax_of_Expr e)) ≡ after_else (plain_syntax (syntax_of_Expr e))
plain_after (Expr-m.Array e) = refl
plain_after (Expr-m.Assign e) = refl
plain_after (Expr-m.Binary e) = refl
plain_after (Expr-m.Block e) = refl
plain_after (Expr-m.Break e) = refl
plain_after (Expr-m.Call e) = refl
plain_after (Expr-m.Cast e) = refl
plain_after (Expr-m.Continue e) = refl
plain_after (Expr-m.Field e) = refl
plain_after (Expr-m.ForLoop e) = refl
plain_after (Expr-m.Group e) = refl
plain_after (Expr-m.If e) = refl
plain_after (Expr-m.Index e) = refl
plain_after (Expr-m.Lit e) = refl
plain_after (Expr-m.Loop e) = refl
plain_after (Expr-m.Macro e) = refl
plain_after (Expr-m.MethodCall e) = refl
plain_after (Expr-m.Paren e) = refl
plain_after (Expr-m.Path e) = refl
plain_after (Expr-m.Reference e) = refl
plain_after (Expr-m.Repeat e) = refl
plain_after (Expr-m.Return e) = refl
plain_after (Expr-m.Struct e) = refl
plain_after (Expr-m.Try e) = refl
plain_after (Expr-m.Tuple e) = refl
plain_after (Expr-m.Unary e) = refl
plain_after (Expr-m.Unsafe e) = refl
plain_after (Expr-m.Verbatim e) = refl
plain_after (Expr-m.While e) = refl

out_of_else : Syntax → Syntax
out_of_else (Right (Node s)) = s
out_of_else (Left s) = out_of_block s
out_of_else s = s

after_known : (e : Expr-m.the_data) → out_of_else (after_else (plain_syntax (syntax_of_Expr e))) ≡ plain_syntax (syntax_of_Expr e)
unfolding out_of_else out_of_block
after_known (Expr-m.Array e) = refl
after_known (Expr-m.Assign e) = refl
after_known (Expr-m.Binary e) = refl
after_known (Expr-m.Block e) = refl
after_known (Expr-m.Break e) = refl
after_known (Expr-m.Call e) = refl
after_known (Expr-m.Cast e) = refl
after_known (Expr-m.Continue e) = refl
after_known (Expr-m.Field e) = refl
after_known (Expr-m.ForLoop e) = refl
after_known (Expr-m.Group e) = refl
after_known (Expr-m.If e) = refl
after_known (Expr-m.Index e) = refl
after_known (Expr-m.Lit e) = refl
after_known (Expr-m.Loop e) = refl
after_known (Expr-m.Macro e) = refl
after_known (Expr-m.MethodCall e) = refl
after_known (Expr-m.Paren e) = refl
after_known (Expr-m.Path e) = refl
after_known (Expr-m.Reference e) = refl
after_known (Expr-m.Repeat e) = refl
after_known (Expr-m.Return e) = refl
after_known (Expr-m.Struct e) = refl
after_known (Expr-m.Try e) = refl
after_known (Expr-m.Tuple e) = refl
after_known (Expr-m.Unary e) = refl
after_known (Expr-m.Unsafe e) = refl
after_known (Expr-m.Verbatim e) = refl
after_known (Expr-m.While e) = refl

same_after : (e f : Expr-m.the_data) → same_syntax (after_else (syntax_of_Expr e)) (after_else (syntax_of_Expr f)) ≡ same_syntax (syntax_of_Expr e) (syntax_of_Expr f)
same_after e f =
    reported after_else out_of_else _ _ (syntax_of_Expr e) (syntax_of_Expr f) (plain_after e) (plain_after f)
    (ap out_of_else (plain_after e) ∙ after_known e) (ap out_of_else (plain_after f) ∙ after_known f)

-- two branches are the same where the expressions after `else` are, however these are printed
abbrev else_and : Branch → Syntax
else_and p = Both (else_syntax p.0) (syntax_of_Expr p.1.value)

pub same_branches : (o q : Option Branch) →
    same_syntax (maybe (λ p. Both (else_syntax p.0) (after_else (syntax_of_Expr p.1.value))) o) (maybe (λ p. Both (else_syntax p.0) (after_else (syntax_of_Expr p.1.value))) q)
    ≡ same_syntax (maybe else_and o) (maybe else_and q)
same_branches None None = refl
same_branches None (Some q) = refl
same_branches (Some p) None = refl
same_branches (Some p) (Some q) = ap (and (same_syntax (else_syntax p.0) (else_syntax q.0))) (same_after p.1.value q.1.value)

pub same_diverging : (o q : Option Branch) →
    same_syntax (diverging (maybe (λ p. Both (else_syntax p.0) (block_after_else (syntax_of_Expr p.1.value))) o)) (diverging (maybe (λ p. Both (else_syntax p.0) (block_after_else (syntax_of_Expr p.1.value))) q))
    ≡ same_syntax (maybe else_and o) (maybe else_and q)
same_diverging None None = refl
same_diverging None (Some q) = refl
same_diverging (Some p) None = refl
same_diverging (Some p) (Some q) = ap (and (same_syntax (else_syntax p.0) (else_syntax q.0))) (same_block_after p.1.value q.1.value)
