-- THE SYNTAX OF OPERATORS.
use Rattle.std.specs.Prelude.{◌≡◌, ℕ, length}
use Rattle.syn_grammar.specs.Grammar.{Syntax}
use Rattle.syn_tokens.specs.Kinds.{and_syntax, and_and_syntax, and_eq_syntax, caret_syntax, caret_eq_syntax, eq_eq_syntax, ge_syntax, gt_syntax, le_syntax, lt_syntax, minus_syntax, minus_eq_syntax, ne_syntax, not_syntax, or_syntax, or_eq_syntax, or_or_syntax, percent_syntax, percent_eq_syntax, plus_syntax, plus_eq_syntax, shl_syntax, shl_eq_syntax, shr_syntax, shr_eq_syntax, slash_syntax, slash_eq_syntax, star_syntax, star_eq_syntax}
use Rattle.syn_expr_parse.specs.declared.op.BinOp.TheVariants as BinOp-m
use Rattle.syn_expr_parse.specs.declared.op.UnOp.TheVariants as UnOp-m

abbrev pub syntax_of_BinOp : BinOp-m.the_data → Syntax
syntax_of_BinOp (BinOp-m.Add o) = plus_syntax o
syntax_of_BinOp (BinOp-m.Sub o) = minus_syntax o
syntax_of_BinOp (BinOp-m.Mul o) = star_syntax o
syntax_of_BinOp (BinOp-m.Div o) = slash_syntax o
syntax_of_BinOp (BinOp-m.Rem o) = percent_syntax o
syntax_of_BinOp (BinOp-m.And o) = and_and_syntax o
syntax_of_BinOp (BinOp-m.Or o) = or_or_syntax o
syntax_of_BinOp (BinOp-m.BitXor o) = caret_syntax o
syntax_of_BinOp (BinOp-m.BitAnd o) = and_syntax o
syntax_of_BinOp (BinOp-m.BitOr o) = or_syntax o
syntax_of_BinOp (BinOp-m.Shl o) = shl_syntax o
syntax_of_BinOp (BinOp-m.Shr o) = shr_syntax o
syntax_of_BinOp (BinOp-m.Eq o) = eq_eq_syntax o
syntax_of_BinOp (BinOp-m.Lt o) = lt_syntax o
syntax_of_BinOp (BinOp-m.Le o) = le_syntax o
syntax_of_BinOp (BinOp-m.Ne o) = ne_syntax o
syntax_of_BinOp (BinOp-m.Ge o) = ge_syntax o
syntax_of_BinOp (BinOp-m.Gt o) = gt_syntax o
syntax_of_BinOp (BinOp-m.AddAssign o) = plus_eq_syntax o
syntax_of_BinOp (BinOp-m.SubAssign o) = minus_eq_syntax o
syntax_of_BinOp (BinOp-m.MulAssign o) = star_eq_syntax o
syntax_of_BinOp (BinOp-m.DivAssign o) = slash_eq_syntax o
syntax_of_BinOp (BinOp-m.RemAssign o) = percent_eq_syntax o
syntax_of_BinOp (BinOp-m.BitXorAssign o) = caret_eq_syntax o
syntax_of_BinOp (BinOp-m.BitAndAssign o) = and_eq_syntax o
syntax_of_BinOp (BinOp-m.BitOrAssign o) = or_eq_syntax o
syntax_of_BinOp (BinOp-m.ShlAssign o) = shl_eq_syntax o
syntax_of_BinOp (BinOp-m.ShrAssign o) = shr_eq_syntax o

abbrev pub syntax_of_UnOp : UnOp-m.the_data → Syntax
syntax_of_UnOp (UnOp-m.Deref o) = star_syntax o
syntax_of_UnOp (UnOp-m.Not o) = not_syntax o
syntax_of_UnOp (UnOp-m.Neg o) = minus_syntax o

-- which operator it is
abbrev pub number_of_BinOp : BinOp-m.the_data → ℕ
number_of_BinOp (BinOp-m.Add o) = 0
number_of_BinOp (BinOp-m.Sub o) = 1
number_of_BinOp (BinOp-m.Mul o) = 2
number_of_BinOp (BinOp-m.Div o) = 3
number_of_BinOp (BinOp-m.Rem o) = 4
number_of_BinOp (BinOp-m.And o) = 5
number_of_BinOp (BinOp-m.Or o) = 6
number_of_BinOp (BinOp-m.BitXor o) = 7
number_of_BinOp (BinOp-m.BitAnd o) = 8
number_of_BinOp (BinOp-m.BitOr o) = 9
number_of_BinOp (BinOp-m.Shl o) = 10
number_of_BinOp (BinOp-m.Shr o) = 11
number_of_BinOp (BinOp-m.Eq o) = 12
number_of_BinOp (BinOp-m.Lt o) = 13
number_of_BinOp (BinOp-m.Le o) = 14
number_of_BinOp (BinOp-m.Ne o) = 15
number_of_BinOp (BinOp-m.Ge o) = 16
number_of_BinOp (BinOp-m.Gt o) = 17
number_of_BinOp (BinOp-m.AddAssign o) = 18
number_of_BinOp (BinOp-m.SubAssign o) = 19
number_of_BinOp (BinOp-m.MulAssign o) = 20
number_of_BinOp (BinOp-m.DivAssign o) = 21
number_of_BinOp (BinOp-m.RemAssign o) = 22
number_of_BinOp (BinOp-m.BitXorAssign o) = 23
number_of_BinOp (BinOp-m.BitAndAssign o) = 24
number_of_BinOp (BinOp-m.BitOrAssign o) = 25
number_of_BinOp (BinOp-m.ShlAssign o) = 26
number_of_BinOp (BinOp-m.ShrAssign o) = 27

-- each of its characters has a place
abbrev pub placed_BinOp : BinOp-m.the_data → Type 0
placed_BinOp (BinOp-m.Add o) = length o.spans ≡ 1
placed_BinOp (BinOp-m.Sub o) = length o.spans ≡ 1
placed_BinOp (BinOp-m.Mul o) = length o.spans ≡ 1
placed_BinOp (BinOp-m.Div o) = length o.spans ≡ 1
placed_BinOp (BinOp-m.Rem o) = length o.spans ≡ 1
placed_BinOp (BinOp-m.And o) = length o.spans ≡ 2
placed_BinOp (BinOp-m.Or o) = length o.spans ≡ 2
placed_BinOp (BinOp-m.BitXor o) = length o.spans ≡ 1
placed_BinOp (BinOp-m.BitAnd o) = length o.spans ≡ 1
placed_BinOp (BinOp-m.BitOr o) = length o.spans ≡ 1
placed_BinOp (BinOp-m.Shl o) = length o.spans ≡ 2
placed_BinOp (BinOp-m.Shr o) = length o.spans ≡ 2
placed_BinOp (BinOp-m.Eq o) = length o.spans ≡ 2
placed_BinOp (BinOp-m.Lt o) = length o.spans ≡ 1
placed_BinOp (BinOp-m.Le o) = length o.spans ≡ 2
placed_BinOp (BinOp-m.Ne o) = length o.spans ≡ 2
placed_BinOp (BinOp-m.Ge o) = length o.spans ≡ 2
placed_BinOp (BinOp-m.Gt o) = length o.spans ≡ 1
placed_BinOp (BinOp-m.AddAssign o) = length o.spans ≡ 2
placed_BinOp (BinOp-m.SubAssign o) = length o.spans ≡ 2
placed_BinOp (BinOp-m.MulAssign o) = length o.spans ≡ 2
placed_BinOp (BinOp-m.DivAssign o) = length o.spans ≡ 2
placed_BinOp (BinOp-m.RemAssign o) = length o.spans ≡ 2
placed_BinOp (BinOp-m.BitXorAssign o) = length o.spans ≡ 2
placed_BinOp (BinOp-m.BitAndAssign o) = length o.spans ≡ 2
placed_BinOp (BinOp-m.BitOrAssign o) = length o.spans ≡ 2
placed_BinOp (BinOp-m.ShlAssign o) = length o.spans ≡ 3
placed_BinOp (BinOp-m.ShrAssign o) = length o.spans ≡ 3

-- which sign it is
abbrev pub number_of_UnOp : UnOp-m.the_data → ℕ
number_of_UnOp (UnOp-m.Deref o) = 0
number_of_UnOp (UnOp-m.Not o) = 1
number_of_UnOp (UnOp-m.Neg o) = 2

-- each of its characters has a place
abbrev pub placed_UnOp : UnOp-m.the_data → Type 0
placed_UnOp (UnOp-m.Deref o) = length o.spans ≡ 1
placed_UnOp (UnOp-m.Not o) = length o.spans ≡ 1
placed_UnOp (UnOp-m.Neg o) = length o.spans ≡ 1
