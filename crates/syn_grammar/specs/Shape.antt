-- HOW THE VALUE OF A FORM IS BUILT: the names of the shapes (specs/Values.antt defines them).
use Rattle.std.specs.Prelude.{◌≡◌, ℕ, zero, suc, ◌==◌, Bool, List, [], ◌∷◌, nat_eq, cond, refl}
use Rattle.std.proofs.Common.{ap}
use Rattle.syn_grammar.specs.Tokens.{and}

-- the variants of expressions
pub data Variant : Type 0 where
  Array Assign Binary Block Break Call Cast Continue Field ForLoop Grouped If Index Lit Loop Macro MethodCall Parens Path Reference Repeat Return Struct Try Tuple Unary Unsafe Verbatim While : Variant

pub data Shape : Type 0 where
  -- of values: an expression of this variant, its attributes first
  expr : Variant → Shape
  -- of forms that read an expression, or a part of one
  operand : Variant → Shape  -- an expression without attributes
  bracketed : Shape  -- the same of parentheses or brackets: their content decides the variant
  after_it : Variant → Shape  -- a part after an expression that forms this variant with it: a call's arguments, `?` and the like
  operator : Variant → Shape  -- the same: an operator with its right operand, `as` with its type
  dotted : Shape  -- the same: `.` and a field or a method's call
  fields : Shape  -- the braces of a struct literal, after its path
  choice : Shape  -- one of several
  chain : Shape  -- an expression with postfixes or operators
  leading : Shape  -- attributes, and the expression that they belong to
  labelled : Shape  -- an optional label, and the expression that it belongs to
  -- statements
  attributed : Shape  -- attributes, and the statement that they belong to
  listed : Shape  -- the same and the statements after it; of values: a statement, and those after it
  lone : Shape  -- `;` alone, and the statements after it
  said : Shape  -- an expression and the part after it; of values: an expression, and an optional `;`
  said_macro : Shape  -- the same of a macro with braces; of values: a macro's attributes, the macro, and an optional `;`
  a_local an_item : Shape
  single : Shape  -- a single statement
  untagged : Shape  -- the tree of one of two forms, without the choice
  -- lists with a part after them
  parameters : Shape  -- of a function: its parameters, and an optional variadic one
  based : Shape  -- of a struct literal: its fields, and an optional `..` with an expression

abbrev pub variants : List Variant
variants = Array ∷ Assign ∷ Binary ∷ Block ∷ Break ∷ Call ∷ Cast ∷ Continue ∷ Field ∷ ForLoop ∷ Grouped ∷ If ∷ Index ∷ Lit ∷ Loop ∷ Macro ∷ MethodCall ∷ Parens ∷ Path ∷ Reference ∷ Repeat ∷ Return ∷ Struct ∷ Try ∷ Tuple ∷ Unary ∷ Unsafe ∷ Verbatim ∷ While ∷ []

abbrev pub variant_number : Variant → ℕ
variant_number Array = 0
variant_number Assign = 1
variant_number Binary = 2
variant_number Block = 3
variant_number Break = 4
variant_number Call = 5
variant_number Cast = 6
variant_number Continue = 7
variant_number Field = 8
variant_number ForLoop = 9
variant_number Grouped = 10
variant_number If = 11
variant_number Index = 12
variant_number Lit = 13
variant_number Loop = 14
variant_number Macro = 15
variant_number MethodCall = 16
variant_number Parens = 17
variant_number Path = 18
variant_number Reference = 19
variant_number Repeat = 20
variant_number Return = 21
variant_number Struct = 22
variant_number Try = 23
variant_number Tuple = 24
variant_number Unary = 25
variant_number Unsafe = 26
variant_number Verbatim = 27
variant_number While = 28

abbrev pub at : List Variant → ℕ → Variant
at [] n = Array
at (v ∷ l) zero = v
at (v ∷ l) (suc n) = at l n

pub variant_back : (v : Variant) → at variants (variant_number v) ≡ v
variant_back Array = refl
variant_back Assign = refl
variant_back Binary = refl
variant_back Block = refl
variant_back Break = refl
variant_back Call = refl
variant_back Cast = refl
variant_back Continue = refl
variant_back Field = refl
variant_back ForLoop = refl
variant_back Grouped = refl
variant_back If = refl
variant_back Index = refl
variant_back Lit = refl
variant_back Loop = refl
variant_back Macro = refl
variant_back MethodCall = refl
variant_back Parens = refl
variant_back Path = refl
variant_back Reference = refl
variant_back Repeat = refl
variant_back Return = refl
variant_back Struct = refl
variant_back Try = refl
variant_back Tuple = refl
variant_back Unary = refl
variant_back Unsafe = refl
variant_back Verbatim = refl
variant_back While = refl

abbrev pub shape_number : Shape → ℕ × ℕ
shape_number (expr v) = (0, variant_number v)
shape_number (operand v) = (1, variant_number v)
shape_number (after_it v) = (2, variant_number v)
shape_number (operator v) = (3, variant_number v)
shape_number bracketed = (4, 0)
shape_number dotted = (5, 0)
shape_number fields = (6, 0)
shape_number choice = (7, 0)
shape_number chain = (8, 0)
shape_number leading = (9, 0)
shape_number labelled = (10, 0)
shape_number attributed = (11, 0)
shape_number listed = (12, 0)
shape_number lone = (13, 0)
shape_number said = (14, 0)
shape_number said_macro = (15, 0)
shape_number a_local = (16, 0)
shape_number an_item = (17, 0)
shape_number untagged = (18, 0)
shape_number parameters = (19, 0)
shape_number based = (20, 0)
shape_number single = (21, 0)

abbrev pub shape_at : ℕ × ℕ → Shape
shape_at p = (cond (p.0 == 0) (expr (at variants p.1)) (cond (p.0 == 1) (operand (at variants p.1)) (cond (p.0 == 2) (after_it (at variants p.1)) (cond (p.0 == 3) (operator (at variants p.1)) (cond (p.0 == 4) bracketed (cond (p.0 == 5) dotted (cond (p.0 == 6) fields (cond (p.0 == 7) choice (cond (p.0 == 8) chain (cond (p.0 == 9) leading (cond (p.0 == 10) labelled (cond (p.0 == 11) attributed (cond (p.0 == 12) listed (cond (p.0 == 13) lone (cond (p.0 == 14) said (cond (p.0 == 15) said_macro (cond (p.0 == 16) a_local (cond (p.0 == 17) an_item (cond (p.0 == 18) untagged (cond (p.0 == 19) parameters (cond (p.0 == 20) based single)))))))))))))))))))))

pub shape_back : (j : Shape) → shape_at (shape_number j) ≡ j
shape_back (expr v) = ap expr (variant_back v)
shape_back (operand v) = ap operand (variant_back v)
shape_back (after_it v) = ap after_it (variant_back v)
shape_back (operator v) = ap operator (variant_back v)
shape_back bracketed = refl
shape_back dotted = refl
shape_back fields = refl
shape_back choice = refl
shape_back chain = refl
shape_back leading = refl
shape_back labelled = refl
shape_back attributed = refl
shape_back listed = refl
shape_back lone = refl
shape_back said = refl
shape_back said_macro = refl
shape_back a_local = refl
shape_back an_item = refl
shape_back untagged = refl
shape_back parameters = refl
shape_back based = refl
shape_back single = refl

abbrev pub same_shape : Shape → Shape → Bool
same_shape a b = and (nat_eq (shape_number a).0 (shape_number b).0) (nat_eq (shape_number a).1 (shape_number b).1)
