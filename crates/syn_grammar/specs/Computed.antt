-- THE LAWS OF THE COMPUTED READING: the functions `parse_rule` and `parse_form` compute exactly what the grammar derives.
use Rattle.std.specs.Prelude.{◌≡◌, ◌≤◌, ◌↔◌, true, Some, None}
use Rattle.syn_grammar.specs.Tokens.{Stream, ◌⧺◌, plain, visible}
use Rattle.syn_grammar.specs.Rules.{Rule}
use Rattle.syn_grammar.specs.Grammar.{Syntax, Nothing, Captured, Grammar, Node, DerivesPrefix, rule, captured, print, normal}
use Rattle.syn_grammar.specs.Table.{table}
use Rattle.syn_grammar.specs.Take.{left}
use Rattle.syn_grammar.specs.Run.{wrap, union, row_step, rows, parse_form, parse_rule, value_of}
use Rattle.syn_grammar.specs.Promises.{DerivesValue, NotDerived, DerivesWholeValue}

-- On a visible stream the computed reading of a rule yields a value and a rest if and only if the grammar reads a tree with this value
-- and leaves this rest; and it yields none if and only if the grammar reads nothing.
abbrev pub ParseMeans : Type 0
ParseMeans = (k : Rule) (ts : Stream) → visible ts ≡ true →
    ((s : Syntax) (r : Stream) → (parse_rule k ts ≡ Some (s, r)) ↔ DerivesValue (rule k) s ts r) × ((parse_rule k ts ≡ None) ↔ NotDerived (rule k) ts)

-- The computed reading of a rule is that of its form. Holds for every stream.
abbrev pub ParseForms : Type 0
ParseForms = (k : Rule) (ts : Stream) → parse_rule k ts ≡ wrap Node (parse_form (table k) ts)

-- The computed reading of a comma list is one step, then a list. Holds for every stream.
abbrev pub ParseRows : Type 0
ParseRows = (g h : Grammar) (ts : Stream) → rows (union (parse_form g) (parse_form h)) ts ≡ row_step (union (parse_form g) (parse_form h)) (rows (union (parse_form g) (parse_form h))) ts

-- The computed reading doesn't leave more tokens, counted at every depth, than it got. Holds for every stream.
abbrev pub ParseOnward : Type 0
ParseOnward = (k : Rule) (ts : Stream) (s : Syntax) (r : Stream) → parse_rule k ts ≡ Some (s, r) → left r ≤ left ts

-- The value of a tree prints as the tree does. Holds for every tree.
abbrev pub ValuePrints : Type 0
ValuePrints = (s : Syntax) → print (value_of s) ≡ print s

-- What a rule derives is printed, and the rule derives the print again, as a value with the same normal form.
abbrev pub ValuePrintIsRead : Type 0
ValuePrintIsRead = (k : Rule) (ts : Stream) (x : Syntax) → DerivesWholeValue (rule k) x ts → (u : Syntax) × DerivesWholeValue (rule k) u (print x) × (normal u ≡ normal x)

-- Of two values that one rule derives, the normal forms are equal if and only if the prints are equal up to spans.
abbrev pub ValuesSameForm : Type 0
ValuesSameForm = (k : Rule) (a b : Stream) (x y : Syntax) → DerivesWholeValue (rule k) x a → DerivesWholeValue (rule k) y b → (normal x ≡ normal y) ↔ (plain (print x) ≡ plain (print y))

-- From one stream a rule reads trees of at most one value, with one rest. Holds for every stream.
abbrev pub OneValue : Type 0
OneValue = (k : Rule) (ts : Stream) (s t : Syntax) (r q : Stream) → DerivesValue (rule k) s ts r → DerivesValue (rule k) t ts q → (s ≡ t) × (r ≡ q)

-- The value of a captured part is any tokens before this rest of which the form has some derivation. Holds for every stream and form.
abbrev pub CapturedIsSome : Type 0
CapturedIsSome = (g : Grammar) (i ts r : Stream) → DerivesValue (captured g) (Captured Nothing i) ts r ↔ ((ts ≡ i ⧺ r) × ((s : Syntax) × DerivesPrefix table g s ts r))
