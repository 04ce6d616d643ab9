-- Worked values: what a Rust value holds of what was read, where it is built in another way than it stands. The checker computes each.
use Rattle.std.proofs.Common.{◌≡◌, ℕ, ◌+◌, true, false, [], ◌∷◌, Some, refl}
use Rattle.syn_grammar.specs.Words.{w_crate, w_fn, w_loop, w_self, w_struct}
use Rattle.syn_grammar.specs.Tokens.{Paren, Brace, Bracket, Int, ident, literal, Stream, end, leaf, punct, group}
use Rattle.syn_grammar.specs.Rules.{Rule, product, block_like, primary, literal_fields, unary, whole_expression, statement, statements, argument, inputs, item, kept_item, structure}
use Rattle.syn_grammar.specs.Shape.{Variant, Array, Assign, Binary, Block, Field, Lit, Loop, MethodCall, Parens, Path, Repeat, Struct, Tuple, Unary, expr, said, said_macro, an_item, untagged, parameters, based}
use Rattle.syn_grammar.specs.Grammar.{Syntax, Nothing, Token, Mark, Both, Left, Right, Node, Case, Captured, Shaped}
use Rattle.syn_grammar.specs.Values.{no_attributes, new, no_statements, listing}
use Rattle.syn_grammar.specs.Take.{left, is_end, lookahead_at, sees, take_token, take_lifetime, take_mark, take_group, before, first_span}
use Rattle.syn_grammar.specs.Run.{rows_for, rows, run, parse_rule}
use Rattle.syn_grammar.proofs.Shown.{at}

-- a name of one letter, before a stream
abbrev letter : ℕ → ℕ → Stream → Stream
letter c n r = leaf (ident (c ∷ [])) (at n (n + 1)) r

-- a mark of one character, before a stream
abbrev char : ℕ → ℕ → Stream → Stream
char c n r = punct c false (at n (n + 1)) r

-- the same as it is kept
abbrev kept : ℕ → ℕ → Syntax
kept c n = Mark ((c, at n (n + 1)) ∷ [])

-- an expression of one name, without attributes
abbrev path_of : ℕ → ℕ → Syntax
path_of c n = new Path (Node (Right (Node (Both (Right Nothing) (Node (Both (Shaped untagged (Both (Token (ident (c ∷ [])) (at n (n + 1))) (Shaped untagged Nothing))) (Right Nothing)))))))

-- an operator and its right operand
abbrev following : ℕ → ℕ → Syntax → Syntax
following c n s = Both (kept c n) (Node s)

-- the rule reads an expression of this variant without attributes
abbrev IsOf : Rule → Variant → Stream → Type 0
IsOf k v ts = (s : Syntax) × (parse_rule k ts ≡ Some (Node (new v s), end))

-- `a*b*c` is a product of a product and `c`
left_nested : parse_rule product (letter 97 0 (char 42 1 (letter 98 2 (char 42 3 (letter 99 4 end)))))
    ≡ Some (Node (new Binary (Both (new Binary (Both (path_of 97 0) (following 42 1 (path_of 98 2)))) (following 42 3 (path_of 99 4)))), end)
unfolding left is_end lookahead_at sees take_token take_lifetime take_mark take_group before rows_for rows run parse_rule
left_nested = refl

-- `a+b*c` is a sum of `a` and a product
tighter_first : parse_rule whole_expression (letter 97 0 (char 43 1 (letter 98 2 (char 42 3 (letter 99 4 end)))))
    ≡ Some (Node (new Binary (Both (path_of 97 0) (following 43 1 (new Binary (Both (path_of 98 2) (following 42 3 (path_of 99 4))))))), end)
unfolding left is_end lookahead_at sees take_token take_lifetime take_mark take_group before rows_for rows run parse_rule
tighter_first = refl

-- `a=b=c` assigns an assignment
from_the_right : parse_rule whole_expression (letter 97 0 (char 61 1 (letter 98 2 (char 61 3 (letter 99 4 end)))))
    ≡ Some (Node (new Assign (Both (path_of 97 0) (following 61 1 (new Assign (Both (path_of 98 2) (following 61 3 (path_of 99 4))))))), end)
unfolding left is_end lookahead_at sees take_token take_lifetime take_mark take_group before rows_for rows run parse_rule
from_the_right = refl

-- `(a)` is an expression in parentheses, `(a,)` a tuple
in_parentheses : IsOf primary Parens (group Paren (at 0 1) (at 2 3) (letter 97 1 end) end)
unfolding left is_end lookahead_at sees take_token take_lifetime take_mark take_group before rows_for rows run parse_rule
in_parentheses = (_, refl)

tuple_of_one : IsOf primary Tuple (group Paren (at 0 1) (at 3 4) (letter 97 1 (char 44 2 end)) end)
unfolding left is_end lookahead_at sees take_token take_lifetime take_mark take_group before rows_for rows run parse_rule
tuple_of_one = (_, refl)

-- `[a]` is an array, `[a;b]` repeats `a`
array_of_one : IsOf primary Array (group Bracket (at 0 1) (at 2 3) (letter 97 1 end) end)
unfolding left is_end lookahead_at sees take_token take_lifetime take_mark take_group before rows_for rows run parse_rule
array_of_one = (_, refl)

repeated : IsOf primary Repeat (group Bracket (at 0 1) (at 4 5) (letter 97 1 (char 59 2 (letter 98 3 end))) end)
unfolding left is_end lookahead_at sees take_token take_lifetime take_mark take_group before rows_for rows run parse_rule
repeated = (_, refl)

-- `a.b` is a field, `a.b()` a call of a method
field_of : IsOf unary Field (letter 97 0 (char 46 1 (letter 98 2 end)))
unfolding left is_end lookahead_at sees take_token take_lifetime take_mark take_group before rows_for rows run parse_rule
field_of = (_, refl)

method_of : IsOf unary MethodCall (letter 97 0 (char 46 1 (letter 98 2 (group Paren (at 3 4) (at 4 5) end end))))
unfolding left is_end lookahead_at sees take_token take_lifetime take_mark take_group before rows_for rows run parse_rule
method_of = (_, refl)

-- `-a()` is minus a call
call_first : IsOf unary Unary (char 45 0 (letter 97 1 (group Paren (at 2 3) (at 3 4) end end)))
unfolding left is_end lookahead_at sees take_token take_lifetime take_mark take_group before rows_for rows run parse_rule
call_first = (_, refl)

-- `'a:loop{}` is a loop that holds its label
with_its_label : IsOf block_like Loop (punct 39 true (at 0 1) (letter 97 1 (char 58 2 (leaf (ident w_loop) (at 3 7) (group Brace (at 7 8) (at 8 9) end end)))))
unfolding left is_end lookahead_at sees take_token take_lifetime take_mark take_group before rows_for rows run parse_rule
with_its_label = (_, refl)

-- `#[a]b=c;`: the attribute belongs to `b`
attribute_moves : (a : Syntax) × (l : Syntax) × (r : Syntax)
    × (parse_rule statement (char 35 0 (group Bracket (at 1 2) (at 3 4) (letter 97 2 end) (letter 98 4 (char 61 5 (letter 99 6 (char 59 7 end))))))
    ≡ Some (Node (Shaped said (Both (new Assign (Both (Shaped (expr Path) (Both (Node (Left (Both a no_attributes))) l)) r)) (Left (kept 59 7)))), end))
unfolding left is_end lookahead_at sees take_token take_lifetime take_mark take_group before rows_for rows run parse_rule
attribute_moves = (_, _, _, refl)

-- an expression of this variant is a statement alone and in a list, with this behind it
abbrev Said : Variant → Syntax → Stream → Type 0
Said v t ts =
    (e : Syntax) × (parse_rule statement ts ≡ Some (Node (Shaped said (Both (new v e) t)), end))
    × (parse_rule statements ts ≡ Some (Node (Right (listing (Shaped said (Both (new v e) t)) no_statements)), end))

-- `{}.0;`: what goes on a block belongs to it
block_continues : Said Field (Left (kept 59 4)) (group Brace (at 0 1) (at 1 2) end (char 46 2 (leaf (literal Int (48 ∷ [])) (at 3 4) (char 59 4 end))))
unfolding left is_end lookahead_at sees take_token take_lifetime take_mark take_group before rows_for rows run parse_rule
block_continues = (_, refl, refl)

-- `{}`
block_alone : Said Block (Right Nothing) (group Brace (at 0 1) (at 1 2) end end)
unfolding left is_end lookahead_at sees take_token take_lifetime take_mark take_group before rows_for rows run parse_rule
block_alone = (_, refl, refl)

-- `0`, at the end of a list
last_expression : (e : Syntax) × (parse_rule statements (leaf (literal Int (48 ∷ [])) (at 0 1) end) ≡ Some (Node (Right (listing (Shaped said (Both (new Lit e) (Right Nothing))) no_statements)), end))
unfolding left is_end lookahead_at sees take_token take_lifetime take_mark take_group before rows_for rows run parse_rule
last_expression = (_, refl)

-- `crate!{}` is a macro alone, and so in a list, where `{}` may follow
abbrev crate_macro : Stream → Stream
crate_macro r = leaf (ident w_crate) (at 0 5) (char 33 5 (group Brace (at 6 7) (at 7 8) end r))

crate_macro_alone : (s : Syntax) × (parse_rule statement (crate_macro end) ≡ Some (Node (Shaped said_macro (Both s (Right Nothing))), end))
    × (e : Syntax)
    × (parse_rule statements (crate_macro (group Brace (at 8 9) (at 9 10) end end))
    ≡ Some (Node (Right (listing (Shaped said_macro (Both s (Right Nothing))) (Node (Right (listing (Shaped said (Both (new Block e) (Right Nothing))) no_statements))))), end))
unfolding left is_end lookahead_at sees take_token take_lifetime take_mark take_group before rows_for rows run parse_rule
crate_macro_alone = (_, refl, _, refl)

-- ITEMS IN STATEMENTS are the items that the rule `item` reads of these tokens
abbrev attributed : Stream → Stream
attributed r = char 35 0 (group Bracket (at 1 2) (at 3 4) (letter 97 2 end) r)

-- `#[a]struct b;`
abbrev unit_struct : Stream
unit_struct = attributed (leaf (ident w_struct) (at 4 10) (letter 98 11 (char 59 12 end)))

struct_alone : (s : Syntax) × (parse_rule item unit_struct ≡ Some (Node (Case structure s), end)) × (parse_rule statement unit_struct ≡ Some (Node (Shaped an_item (Node (Case structure s))), end))
unfolding left is_end lookahead_at sees take_token take_lifetime take_mark take_group before rows_for rows run parse_rule
struct_alone = (_, refl, refl)

struct_listed : (s : Syntax) × (parse_rule item unit_struct ≡ Some (s, end)) × (parse_rule statements unit_struct ≡ Some (Node (Right (listing (Shaped an_item s) no_statements)), end))
unfolding left is_end lookahead_at sees take_token take_lifetime take_mark take_group before rows_for rows run parse_rule
struct_listed = (_, refl, refl)

-- `#[a]fn b();`, which is kept as tokens
abbrev bodiless : Stream
bodiless = attributed (leaf (ident w_fn) (at 4 6) (letter 98 7 (group Paren (at 8 9) (at 9 10) end (char 59 10 end))))

kept_alone : (parse_rule item bodiless ≡ Some (Node (Case kept_item (Captured Nothing bodiless)), end)) × (parse_rule statement bodiless ≡ Some (Node (Shaped an_item (Node (Case kept_item (Captured Nothing bodiless)))), end))
unfolding left is_end lookahead_at sees take_token take_lifetime take_mark take_group before first_span rows_for rows run parse_rule
kept_alone = (refl, refl)

kept_listed : parse_rule statements bodiless ≡ Some (Node (Right (listing (Shaped an_item (Node (Case kept_item (Captured Nothing bodiless)))) no_statements)), end)
unfolding left is_end lookahead_at sees take_token take_lifetime take_mark take_group before first_span rows_for rows run parse_rule
kept_listed = refl

-- `crate!{}` before `.0`, which is left, is an item
crate_macro_item : (s : Syntax) × (r : Stream) × (parse_rule item (crate_macro (char 46 8 (leaf (literal Int (48 ∷ [])) (at 9 10) end))) ≡ Some (s, r))
    × (parse_rule statement (crate_macro (char 46 8 (leaf (literal Int (48 ∷ [])) (at 9 10) end))) ≡ Some (Node (Shaped an_item s), r))
unfolding left is_end lookahead_at sees take_token take_lifetime take_mark take_group before first_span rows_for rows run parse_rule
crate_macro_item = (_, _, refl, refl)

-- PARAMETERS are a list of what `argument` reads, and the variadic one or none

abbrev own_self : Stream → Stream
own_self r = leaf (ident w_self) (at 0 4) r

-- `self,a:b` are two
two_parameters : (x : Syntax) × (y : Syntax) × (parse_rule argument (own_self end) ≡ Some (x, end)) × (parse_rule argument (letter 97 5 (char 58 6 (letter 98 7 end))) ≡ Some (y, end))
    × (parse_rule inputs (own_self (char 44 4 (letter 97 5 (char 58 6 (letter 98 7 end)))))
    ≡ Some (Node (Shaped parameters (Both (Node (Right (Both x (Left (Both (kept 44 4) (Node (Right (Both y (Right Nothing))))))))) (Right Nothing))), end))
unfolding left is_end lookahead_at sees take_token take_lifetime take_mark take_group before first_span rows_for rows run parse_rule
two_parameters = (_, _, refl, refl, refl)

-- `self,a:...,` are one and a variadic one
variadic_after : (x : Syntax) × (a : Syntax) × (p : Syntax) × (v : Syntax) × (parse_rule argument (own_self end) ≡ Some (x, end))
    × (parse_rule inputs (own_self (char 44 4 (letter 97 5 (char 58 6 (punct 46 true (at 7 8) (punct 46 true (at 8 9) (char 46 9 (char 44 10 end))))))))
    ≡ Some (Node (Shaped parameters (Both (Node (Right (Both x (Left (Both (kept 44 4) (Node (Left Nothing))))))) (Left (Both a (Both (Left (Both p (kept 58 6))) v))))), end))
unfolding left is_end lookahead_at sees take_token take_lifetime take_mark take_group before first_span rows_for rows run parse_rule
variadic_after = (_, _, _, _, refl, refl)

-- `a<b>` alone is a parameter with `_ :` before it
nameless : (x : Syntax) × (parse_rule argument (letter 97 0 (char 60 1 (letter 98 2 (char 62 3 end)))) ≡ Some (x, end))
    × (parse_rule inputs (letter 97 0 (char 60 1 (letter 98 2 (char 62 3 end)))) ≡ Some (Node (Shaped parameters (Both (Node (Right (Both x (Right Nothing)))) (Right Nothing))), end))
unfolding left is_end lookahead_at sees take_token take_lifetime take_mark take_group before first_span rows_for rows run parse_rule
nameless = (_, refl, refl)

-- STRUCT LITERALS

-- `a{}` is one; its fields are a list, and `..` with an expression or neither
a_literal : IsOf primary Struct (letter 97 0 (group Brace (at 1 2) (at 2 3) end end))
unfolding left is_end lookahead_at sees take_token take_lifetime take_mark take_group before rows_for rows run parse_rule
a_literal = (_, refl)

with_base : (x : Syntax)
    × (parse_rule literal_fields (letter 97 0 (char 44 1 (punct 46 true (at 2 3) (char 46 3 (letter 98 4 end)))))
    ≡ Some (Node (Shaped based (Both (Node (Right (Both x (Left (Both (kept 44 1) (Node (Left Nothing))))))) (Both (Left (Mark ((46, at 2 3) ∷ (46, at 3 4) ∷ []))) (Left (Node (path_of 98 4)))))), end))
unfolding left is_end lookahead_at sees take_token take_lifetime take_mark take_group before rows_for rows run parse_rule
with_base = (_, refl)
