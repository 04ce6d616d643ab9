-- The odd ones among expressions.
use Rattle.std.proofs.Common.{◌≡◌, ◌≤◌, ◌+◌, ℕ, Bool, true, false, Option, Some, None, refl, sym, ap, ap₂, ◌∙◌, arith}
use Rattle.syn_grammar.specs.Tokens.{◌⧺◌, and}
use Rattle.syn_grammar.specs.Grammar.{Syntax, Nothing, Both, Left, Right, Node, Shaped, plain_syntax, print}
use Rattle.syn_grammar.specs.Same.{same_syntax}
use Rattle.syn_grammar.proofs.Same.{and_true}
use Rattle.syn_grammar.proofs.Streams.{append_append, append_end}
use Rattle.syn_grammar.specs.Promises.{itself}
use Rattle.syn_tokens.specs.Leaves.{maybe, syntax_of_literal}
use Rattle.syn_tokens.specs.Literals.{LiteralValue}
use Rattle.syn_lower.specs.Literals.{lit_of_token, syntax_of_Lit, syntax_of_LitBool}
use Rattle.syn_lower.specs.Members.{syntax_of_Member}
use Rattle.syn_lower.specs.Sizes.{tree_size}
use Rattle.syn_lower.specs.declared.lit.Lit.TheVariants as Lit-m
use Rattle.syn_lower.specs.declared.lit.LitBool.{LitBool}
use Rattle.syn_lower.specs.declared.member.Member.TheVariants as Member-m
use Rattle.syn_lower.proofs.Compared.{reported}
use Rattle.syn_expr.specs.Expressions.{field_member, method_arguments, token_of}

-- THE MEMBER OF A STRUCT

pub print_member : (m : Member-m.the_data) → print (field_member (syntax_of_Member m)) ≡ print (syntax_of_Member m)
print_member (Member-m.Named i) = append_end (print (syntax_of_Member (Member-m.Named i)))
print_member (Member-m.Unnamed i) = refl

pub same_member : (m n : Member-m.the_data) → same_syntax (field_member (syntax_of_Member m)) (field_member (syntax_of_Member n)) ≡ same_syntax (syntax_of_Member m) (syntax_of_Member n)
same_member (Member-m.Named i) (Member-m.Named j) = and_true (same_syntax (syntax_of_Member (Member-m.Named i)) (syntax_of_Member (Member-m.Named j)))
same_member (Member-m.Named i) (Member-m.Unnamed j) = refl
same_member (Member-m.Unnamed i) (Member-m.Named j) = refl
same_member (Member-m.Unnamed i) (Member-m.Unnamed j) = refl

-- LITERALS

pub print_literal : (l : Lit-m.the_data) → print (token_of (syntax_of_Lit l)) ≡ print (syntax_of_Lit l)
print_literal (Lit-m.Str l) = refl
print_literal (Lit-m.ByteStr l) = refl
print_literal (Lit-m.CStr l) = refl
print_literal (Lit-m.Byte l) = refl
print_literal (Lit-m.Char l) = refl
print_literal (Lit-m.Int l) = refl
print_literal (Lit-m.Float l) = refl
print_literal (Lit-m.Bool b) = go b.value
  where
    go : (c : Bool) → print (token_of (syntax_of_Lit (Lit-m.Bool (record b { value = c })))) ≡ print (syntax_of_Lit (Lit-m.Bool (record b { value = c })))
    go true = refl
    go false = refl

-- `true` and `false` are no literals of the tokens
token_no_bool : (l : LiteralValue) (b : LitBool) → same_syntax (syntax_of_literal l) (token_of (syntax_of_Lit (Lit-m.Bool b))) ≡ same_syntax (lit_of_token l) (syntax_of_Lit (Lit-m.Bool b))
token_no_bool l b = go b.value
  where
    go : (c : Bool) → same_syntax (syntax_of_literal l) (token_of (syntax_of_Lit (Lit-m.Bool (record b { value = c })))) ≡ same_syntax (lit_of_token l) (syntax_of_Lit (Lit-m.Bool (record b { value = c })))
    go true = refl
    go false = refl

bool_no_token : (b : LitBool) (l : LiteralValue) → same_syntax (token_of (syntax_of_Lit (Lit-m.Bool b))) (syntax_of_literal l) ≡ same_syntax (syntax_of_Lit (Lit-m.Bool b)) (lit_of_token l)
bool_no_token b l = go b.value
  where
    go : (c : Bool) → same_syntax (token_of (syntax_of_Lit (Lit-m.Bool (record b { value = c })))) (syntax_of_literal l) ≡ same_syntax (syntax_of_Lit (Lit-m.Bool (record b { value = c }))) (lit_of_token l)
    go true = refl
    go false = refl

same_bools : (a b : LitBool) → same_syntax (token_of (syntax_of_LitBool a)) (token_of (syntax_of_LitBool b)) ≡ same_syntax (syntax_of_LitBool a) (syntax_of_LitBool b)
same_bools a b = go a.value b.value
  where
    go : (c d : Bool) → same_syntax (token_of (syntax_of_LitBool (record a { value = c }))) (token_of (syntax_of_LitBool (record b { value = d }))) ≡ same_syntax (syntax_of_LitBool (record a { value = c })) (syntax_of_LitBool (record b { value = d }))
    go true true = refl
    go true false = refl
    go false true = refl
    go false false = refl

pub same_literal : (l m : Lit-m.the_data) → same_syntax (token_of (syntax_of_Lit l)) (token_of (syntax_of_Lit m)) ≡ same_syntax (syntax_of_Lit l) (syntax_of_Lit m)
same_literal (Lit-m.Str l) (Lit-m.Str m) = refl
same_literal (Lit-m.Str l) (Lit-m.ByteStr m) = refl
same_literal (Lit-m.Str l) (Lit-m.CStr m) = refl
same_literal (Lit-m.Str l) (Lit-m.Byte m) = refl
same_literal (Lit-m.Str l) (Lit-m.Char m) = refl
same_literal (Lit-m.Str l) (Lit-m.Int m) = refl
same_literal (Lit-m.Str l) (Lit-m.Float m) = refl
same_literal (Lit-m.Str l) (Lit-m.Bool b) = token_no_bool l b
same_literal (Lit-m.ByteStr l) (Lit-m.Str m) = refl
same_literal (Lit-m.ByteStr l) (Lit-m.ByteStr m) = refl
same_literal (Lit-m.ByteStr l) (Lit-m.CStr m) = refl
same_literal (Lit-m.ByteStr l) (Lit-m.Byte m) = refl
same_literal (Lit-m.ByteStr l) (Lit-m.Char m) = refl
same_literal (Lit-m.ByteStr l) (Lit-m.Int m) = refl
same_literal (Lit-m.ByteStr l) (Lit-m.Float m) = refl
same_literal (Lit-m.ByteStr l) (Lit-m.Bool b) = token_no_bool l b
same_literal (Lit-m.CStr l) (Lit-m.Str m) = refl
same_literal (Lit-m.CStr l) (Lit-m.ByteStr m) = refl
same_literal (Lit-m.CStr l) (Lit-m.CStr m) = refl
same_literal (Lit-m.CStr l) (Lit-m.Byte m) = refl
same_literal (Lit-m.CStr l) (Lit-m.Char m) = refl
same_literal (Lit-m.CStr l) (Lit-m.Int m) = refl
same_literal (Lit-m.CStr l) (Lit-m.Float m) = refl
same_literal (Lit-m.CStr l) (Lit-m.Bool b) = token_no_bool l b
same_literal (Lit-m.Byte l) (Lit-m.Str m) = refl
same_literal (Lit-m.Byte l) (Lit-m.ByteStr m) = refl
same_literal (Lit-m.Byte l) (Lit-m.CStr m) = refl
same_literal (Lit-m.Byte l) (Lit-m.Byte m) = refl
same_literal (Lit-m.Byte l) (Lit-m.Char m) = refl
same_literal (Lit-m.Byte l) (Lit-m.Int m) = refl
same_literal (Lit-m.Byte l) (Lit-m.Float m) = refl
same_literal (Lit-m.Byte l) (Lit-m.Bool b) = token_no_bool l b
same_literal (Lit-m.Char l) (Lit-m.Str m) = refl
same_literal (Lit-m.Char l) (Lit-m.ByteStr m) = refl
same_literal (Lit-m.Char l) (Lit-m.CStr m) = refl
same_literal (Lit-m.Char l) (Lit-m.Byte m) = refl
same_literal (Lit-m.Char l) (Lit-m.Char m) = refl
same_literal (Lit-m.Char l) (Lit-m.Int m) = refl
same_literal (Lit-m.Char l) (Lit-m.Float m) = refl
same_literal (Lit-m.Char l) (Lit-m.Bool b) = token_no_bool l b
same_literal (Lit-m.Int l) (Lit-m.Str m) = refl
same_literal (Lit-m.Int l) (Lit-m.ByteStr m) = refl
same_literal (Lit-m.Int l) (Lit-m.CStr m) = refl
same_literal (Lit-m.Int l) (Lit-m.Byte m) = refl
same_literal (Lit-m.Int l) (Lit-m.Char m) = refl
same_literal (Lit-m.Int l) (Lit-m.Int m) = refl
same_literal (Lit-m.Int l) (Lit-m.Float m) = refl
same_literal (Lit-m.Int l) (Lit-m.Bool b) = token_no_bool l b
same_literal (Lit-m.Float l) (Lit-m.Str m) = refl
same_literal (Lit-m.Float l) (Lit-m.ByteStr m) = refl
same_literal (Lit-m.Float l) (Lit-m.CStr m) = refl
same_literal (Lit-m.Float l) (Lit-m.Byte m) = refl
same_literal (Lit-m.Float l) (Lit-m.Char m) = refl
same_literal (Lit-m.Float l) (Lit-m.Int m) = refl
same_literal (Lit-m.Float l) (Lit-m.Float m) = refl
same_literal (Lit-m.Float l) (Lit-m.Bool b) = token_no_bool l b
same_literal (Lit-m.Bool a) (Lit-m.Str m) = bool_no_token a m
same_literal (Lit-m.Bool a) (Lit-m.ByteStr m) = bool_no_token a m
same_literal (Lit-m.Bool a) (Lit-m.CStr m) = bool_no_token a m
same_literal (Lit-m.Bool a) (Lit-m.Byte m) = bool_no_token a m
same_literal (Lit-m.Bool a) (Lit-m.Char m) = bool_no_token a m
same_literal (Lit-m.Bool a) (Lit-m.Int m) = bool_no_token a m
same_literal (Lit-m.Bool a) (Lit-m.Float m) = bool_no_token a m
same_literal (Lit-m.Bool a) (Lit-m.Bool b) = same_bools a b

-- THE ARGUMENTS OF A METHOD

pub print_arguments : (generic : Option Syntax) (arguments : Syntax) → print (method_arguments generic arguments) ≡ print (maybe itself generic) ⧺ print arguments
print_arguments None arguments = refl
print_arguments (Some (Both (Left colons) generic)) arguments = sym (append_append (print colons) (print generic) (print arguments))
print_arguments (Some generic) arguments = refl

pub generic_smaller : (generic : Option Syntax) (arguments : Syntax) → tree_size (maybe itself generic) ≤ tree_size (method_arguments generic arguments) + 1
generic_smaller None arguments = omega arith
generic_smaller (Some (Both (Left colons) generic)) arguments = omega arith
generic_smaller (Some generic) arguments = omega arith

pub arguments_smaller : (generic : Option Syntax) (arguments : Syntax) → tree_size arguments ≤ tree_size (method_arguments generic arguments)
arguments_smaller None arguments = omega arith
arguments_smaller (Some (Both (Left colons) generic)) arguments = omega arith
arguments_smaller (Some generic) arguments = omega arith

-- as a function of its parts, and back
arguments_form : Syntax → Syntax
arguments_form (Both (Right Nothing) arguments) = method_arguments None arguments
arguments_form (Both (Left generic) arguments) = method_arguments (Some generic) arguments
arguments_form s = s

arguments_parts : Syntax → Syntax
arguments_parts (Right (Left arguments)) = Both (Right Nothing) arguments
arguments_parts (Left (Both colons (Both generic arguments))) = Both (Left (Both (Left colons) generic)) arguments
arguments_parts (Both generic arguments) = Both (Left generic) arguments
arguments_parts s = s

formed : (g : Option Syntax) (s : Syntax) → arguments_form (Both (maybe itself g) s) ≡ method_arguments g s
unfolding arguments_form
formed None s = refl
formed (Some (Both (Left colons) generic)) s = refl
formed (Some generic) s = refl

pub copied_arguments : (g h : Option Syntax) (s t : Syntax) → maybe itself g ≡ maybe itself h → s ≡ t → method_arguments g s ≡ method_arguments h t
copied_arguments g h s t e f = sym (formed g s) ∙ ap₂ (λ x y. arguments_form (Both x y)) e f ∙ formed h t

plain_arguments : (g : Option Syntax) (s : Syntax) → plain_syntax (method_arguments g s) ≡ arguments_form (plain_syntax (Both (maybe itself g) s))
unfolding arguments_form
plain_arguments None s = refl
plain_arguments (Some (Both (Left colons) generic)) s = refl
plain_arguments (Some generic) s = refl

arguments_known : (g : Option Syntax) (s : Syntax) → arguments_parts (plain_syntax (method_arguments g s)) ≡ plain_syntax (Both (maybe itself g) s)
unfolding arguments_parts
arguments_known None s = refl
arguments_known (Some (Both (Left colons) generic)) s = refl
arguments_known (Some generic) s = refl

pub same_arguments : (g h : Option Syntax) (s t : Syntax) → same_syntax (method_arguments g s) (method_arguments h t) ≡ and (same_syntax (maybe itself g) (maybe itself h)) (same_syntax s t)
same_arguments g h s t = reported arguments_form arguments_parts _ _ (Both (maybe itself g) s) (Both (maybe itself h) t) (plain_arguments g s) (plain_arguments h t) (arguments_known g s) (arguments_known h t)
