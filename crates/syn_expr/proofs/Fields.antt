-- The fields of struct literals, printed, compared and copied.
use Rattle.std.proofs.Common.{◌≡◌, ◌≤◌, ℕ, Bool, true, false, Option, Some, None, refl, sym, ap, ap₂, ◌∙◌, arith, true≢false}
use Rattle.syn_grammar.specs.Tokens.{◌⧺◌, and, pick}
use Rattle.syn_grammar.specs.Shape.{Path, expr}
use Rattle.syn_grammar.specs.Grammar.{Syntax, Nothing, Both, Left, Right, Node, Unshown, Shaped, plain_syntax, print}
use Rattle.syn_grammar.specs.Same.{same_syntax}
use Rattle.syn_grammar.proofs.Plain.{syntax_plain_plain}
use Rattle.syn_grammar.proofs.Same.{same_syntax_plain, same_syntax_refl}
use Rattle.syn_tokens.specs.Kinds.{Colon, colon_syntax}
use Rattle.syn_tokens.specs.Leaves.{maybe, syntax_of_ident}
use Rattle.syn_lower.specs.Members.{syntax_of_Member}
use Rattle.syn_lower.specs.Sizes.{tree_size}
use Rattle.syn_lower.specs.declared.member.Member.TheVariants as Member-m
use Rattle.syn_lower.proofs.Compared.{reported}
use Rattle.syn_expr_parse.specs.StructLiterals.{hidden, member_and_value, named_path}
use Rattle.syn_expr.specs.Expressions.{syntax_of_Expr}
use Rattle.syn_expr.specs.Fields.{following_member, is_path, size_unless_path}
use Rattle.syn_expr.specs.declared.expr.Expr.TheVariants as Expr-m

abbrev sign : Option Colon → Syntax
sign c = maybe colon_syntax c

-- PRINTS
pub print_field : (m : Member-m.the_data) (c : Option Colon) (e : Syntax) → print (member_and_value (syntax_of_Member m) (sign c) e) ≡ print (syntax_of_Member m) ⧺ print (following_member (sign c) e)
print_field (Member-m.Named i) (Some c) e = refl
print_field (Member-m.Named i) None e = refl
print_field (Member-m.Unnamed i) (Some c) e = refl
print_field (Member-m.Unnamed i) None e = refl

pub shown_smaller : (m : Member-m.the_data) (c : Option Colon) (e : Syntax) → tree_size (following_member (sign c) e) ≤ tree_size (member_and_value (syntax_of_Member m) (sign c) e)
shown_smaller (Member-m.Named i) (Some c) e = omega arith
shown_smaller (Member-m.Named i) None e = omega arith
shown_smaller (Member-m.Unnamed i) (Some c) e = omega arith
shown_smaller (Member-m.Unnamed i) None e = omega arith

-- SIZES: a value that isn't shown is a path

hidden_size : (n : Syntax) (e : Expr-m.the_data) → size_unless_path (syntax_of_Expr e) ≤ tree_size (hidden n (syntax_of_Expr e))
hidden_size n (Expr-m.Array e) = omega arith
hidden_size n (Expr-m.Assign e) = omega arith
hidden_size n (Expr-m.Binary e) = omega arith
hidden_size n (Expr-m.Block e) = omega arith
hidden_size n (Expr-m.Break e) = omega arith
hidden_size n (Expr-m.Call e) = omega arith
hidden_size n (Expr-m.Cast e) = omega arith
hidden_size n (Expr-m.Continue e) = omega arith
hidden_size n (Expr-m.Field e) = omega arith
hidden_size n (Expr-m.ForLoop e) = omega arith
hidden_size n (Expr-m.Group e) = omega arith
hidden_size n (Expr-m.If e) = omega arith
hidden_size n (Expr-m.Index e) = omega arith
hidden_size n (Expr-m.Lit e) = omega arith
hidden_size n (Expr-m.Loop e) = omega arith
hidden_size n (Expr-m.Macro e) = omega arith
hidden_size n (Expr-m.MethodCall e) = omega arith
hidden_size n (Expr-m.Paren e) = omega arith
hidden_size n (Expr-m.Path e) = omega arith
hidden_size n (Expr-m.Reference e) = omega arith
hidden_size n (Expr-m.Repeat e) = omega arith
hidden_size n (Expr-m.Return e) = omega arith
hidden_size n (Expr-m.Struct e) = omega arith
hidden_size n (Expr-m.Try e) = omega arith
hidden_size n (Expr-m.Tuple e) = omega arith
hidden_size n (Expr-m.Unary e) = omega arith
hidden_size n (Expr-m.Unsafe e) = omega arith
hidden_size n (Expr-m.Verbatim e) = omega arith
hidden_size n (Expr-m.While e) = omega arith

unless_larger : (s : Syntax) → size_unless_path s ≤ tree_size s
unless_larger (Shaped (expr Path) s) = omega arith
unless_larger s = omega arith

pub value_smaller : (m : Member-m.the_data) (c : Option Colon) (e : Expr-m.the_data) → size_unless_path (syntax_of_Expr e) ≤ tree_size (member_and_value (syntax_of_Member m) (sign c) (syntax_of_Expr e))
value_smaller (Member-m.Named i) (Some c) e = omega (arith, unless_larger (syntax_of_Expr e))
value_smaller (Member-m.Named i) None e = omega (arith, hidden_size (syntax_of_ident i) e)
value_smaller (Member-m.Unnamed i) (Some c) e = omega (arith, unless_larger (syntax_of_Expr e))
value_smaller (Member-m.Unnamed i) None e = omega (arith, unless_larger (syntax_of_Expr e))

pub no_path_size : (s : Syntax) → is_path s ≡ false → tree_size s ≤ size_unless_path s
no_path_size (Shaped (expr Path) s) h = absurd (true≢false h)
no_path_size s h = omega arith

-- COMPARISONS
pub unlike_path : (p s : Syntax) → is_path s ≡ false → same_syntax (Shaped (expr Path) p) s ≡ false
unlike_path p (Shaped (expr Path) s) h = absurd (true≢false h)
unlike_path p s h = refl

-- a name alone represents its variable
pub named_hidden : (n : Syntax) → hidden n (named_path n) ≡ Nothing
named_hidden n = ap (λ b. pick b Nothing (Node (named_path n))) (same_syntax_refl (named_path n))

alike : (a b : Bool) → (a ≡ true → b ≡ true) → (b ≡ true → a ≡ true) → a ≡ b
alike true true to from = refl
alike true false to from = sym (to refl)
alike false true to from = from refl
alike false false to from = refl

-- spans don't count
plain_same : (s t : Syntax) → same_syntax (plain_syntax s) (plain_syntax t) ≡ same_syntax s t
plain_same s t =
    alike (same_syntax (plain_syntax s) (plain_syntax t)) (same_syntax s t)
    (λ h. (same_syntax_plain s t).1 (sym (syntax_plain_plain s) ∙ (same_syntax_plain (plain_syntax s) (plain_syntax t)).0 h ∙ syntax_plain_plain t))
    (λ h. (same_syntax_plain (plain_syntax s) (plain_syntax t)).1 (syntax_plain_plain s ∙ (same_syntax_plain s t).0 h ∙ sym (syntax_plain_plain t)))

plain_hidden : (n e : Syntax) → plain_syntax (hidden n e) ≡ hidden (plain_syntax n) (plain_syntax e)
plain_hidden n e = go (same_syntax (named_path n) e) ∙ ap (λ b. pick b Nothing (Node (plain_syntax e))) (sym (plain_same (named_path n) e))
  where
    go : (b : Bool) → plain_syntax (pick b Nothing (Node e)) ≡ pick b Nothing (Node (plain_syntax e))
    go true = refl
    go false = refl

-- as a function of its parts, and back
field_form : Syntax → Syntax
field_form (Both member (Both colon value)) = member_and_value member colon value
field_form s = s

field_parts : Syntax → Syntax
field_parts (Left (Both number (Both colon (Node value)))) = Both (Left number) (Both (Left colon) value)
field_parts (Left (Both number (Unshown (Node value)))) = Both (Left number) (Both (Right Nothing) value)
field_parts (Right (Both word (Left (Both colon (Node value))))) = Both (Right word) (Both (Left colon) value)
field_parts (Right (Both word (Right (Unshown Nothing)))) = Both (Right word) (Both (Right Nothing) (named_path word))
field_parts (Right (Both word (Right (Unshown (Node value))))) = Both (Right word) (Both (Right Nothing) value)
field_parts s = s

plain_field : (m : Member-m.the_data) (c : Option Colon) (e : Syntax) → plain_syntax (member_and_value (syntax_of_Member m) (sign c) e) ≡ field_form (plain_syntax (Both (syntax_of_Member m) (Both (sign c) e)))
unfolding field_form
plain_field (Member-m.Named i) (Some c) e = refl
plain_field (Member-m.Named i) None e = let n : Syntax = syntax_of_ident i in ap (λ s. Right (Both (plain_syntax n) (Right (Unshown s)))) (plain_hidden n e)
plain_field (Member-m.Unnamed i) (Some c) e = refl
plain_field (Member-m.Unnamed i) None e = refl

lone_known : (n e : Syntax) → field_parts (Right (Both (plain_syntax n) (Right (Unshown (plain_syntax (hidden n e)))))) ≡ Both (Right (plain_syntax n)) (Both (Right Nothing) (plain_syntax e))
unfolding field_parts
lone_known n e = go (same_syntax (named_path n) e) refl
  where
    go : (b : Bool) → same_syntax (named_path n) e ≡ b → field_parts (Right (Both (plain_syntax n) (Right (Unshown (plain_syntax (pick b Nothing (Node e))))))) ≡ Both (Right (plain_syntax n)) (Both (Right Nothing) (plain_syntax e))
    go true h = ap (λ s. Both (Right (plain_syntax n)) (Both (Right Nothing) s)) ((same_syntax_plain (named_path n) e).0 h)
    go false h = refl

field_known : (m : Member-m.the_data) (c : Option Colon) (e : Syntax) → field_parts (plain_syntax (member_and_value (syntax_of_Member m) (sign c) e)) ≡ plain_syntax (Both (syntax_of_Member m) (Both (sign c) e))
unfolding field_parts
field_known (Member-m.Named i) (Some c) e = refl
field_known (Member-m.Named i) None e = lone_known (syntax_of_ident i) e
field_known (Member-m.Unnamed i) (Some c) e = refl
field_known (Member-m.Unnamed i) None e = refl

pub same_field : (m n : Member-m.the_data) (c d : Option Colon) (e f : Syntax) → same_syntax (member_and_value (syntax_of_Member m) (sign c) e) (member_and_value (syntax_of_Member n) (sign d) f)
    ≡ and (same_syntax (syntax_of_Member m) (syntax_of_Member n)) (and (same_syntax (sign c) (sign d)) (same_syntax e f))
same_field m n c d e f =
    reported field_form field_parts _ _ (Both (syntax_of_Member m) (Both (sign c) e)) (Both (syntax_of_Member n) (Both (sign d) f)) (plain_field m c e) (plain_field n d f) (field_known m c e) (field_known n d f)
