-- LEVELS OF OPERATORS: what may follow an operand, the levels that bind most tightly first. An expression is an operand and all of them in
-- turn; an operand of some level is one and the levels that bind more tightly.
use Rattle.std.specs.Prelude.{◌≡◌, ◌-◌, ℕ, zero, suc, Bool, true, false, List, [], ◌∷◌, nat_eq}
use Rattle.syn_grammar.specs.Tokens.{Stream, or}
use Rattle.syn_grammar.specs.Rules.{Rule, casts, products, sums, shifts, bit_ands, bit_xors, bit_ors, compared, conjunctions, disjunctions, assigned, products_head, sums_head, shifts_head, bit_ands_head, bit_xors_head, bit_ors_head, compared_head, conjunctions_head, disjunctions_head, assigned_head}
use Rattle.syn_grammar.specs.Grammar.{Grammar, empty, unshown, vanishing, when◌then◌else◌, one_of, rule}
use Rattle.syn_grammar.specs.Table.{table, at_unfinished}
use Rattle.syn_parse.specs.Firsts.{Begins}
use Rattle.syn_parse.specs.declared.buffer.first.First.{First}
use Rattle.syn_parse.specs.declared.buffer.first.First.TheVariants as F
use Rattle.syn_tokens.specs.declared.delimiter.Delimiter.TheVariants as D
use Rattle.syn_recognize.specs.May.{may}
use Rattle.syn_recognize.specs.Written.{Written}
use Rattle.syn_recognize.specs.Copies.{Copy, Reached, next, copy_form}

-- nothing that continues an expression follows all its operators
abbrev pub finished : Grammar
finished = when at_unfinished then (one_of []) else empty

-- a rule, or the end of all levels
pub data Rail : Type 0 where
  by : Rule → Rail
  done : Rail

-- after an operand, and then after one in the head of an `if`, a `while` or a `for`
abbrev pub ladder : List Rail
ladder =
    by casts ∷ by products ∷ by sums ∷ by shifts ∷ by bit_ands ∷ by bit_xors ∷ by bit_ors ∷ by compared ∷ by conjunctions ∷ by disjunctions ∷ by assigned ∷ done
    ∷ by casts ∷ by products_head ∷ by sums_head ∷ by shifts_head ∷ by bit_ands_head ∷ by bit_xors_head ∷ by bit_ors_head ∷ by compared_head ∷ by conjunctions_head ∷ by disjunctions_head ∷ by assigned_head ∷ done ∷ []

abbrev pub on_rail : (Rule → Grammar) → Rail → Grammar
on_rail h (by k) = h k
on_rail h done = finished

abbrev pub at_level : (Rule → Grammar) → List Rail → ℕ → Grammar
at_level h [] n = finished
at_level h (k ∷ ks) zero = on_rail h k
at_level h (k ∷ ks) (suc n) = at_level h ks n

-- the level of this number: its rule, and that rule's form
unfoldable pub level : ℕ → Grammar
level n = at_level rule ladder n

unfoldable pub level_form : ℕ → Grammar
level_form n = at_level table ladder n

-- so many levels, from this one on
abbrev pub climb : ℕ → ℕ → Written → Stream → Copy
climb zero n w ts = Reached w ts
climb (suc k) n w ts = next (copy_form (level n) w ts) (climb k (suc n))

-- the form may read something before this next token; otherwise it reads nothing there
abbrev pub loud : Grammar → First → Bool
loud empty f = false
loud unshown f = false
loud (vanishing true c g) f = may c f
loud (when c then g else h) f = or (may c f) (loud h f)
loud g f = true

-- the second rule reads the first, and then so many levels from this one on
unfoldable pub Rung : Rule → ℕ → Rule → ℕ → Type 0
Rung u b k j = (w : Written) (ts : Stream) → copy_form (rule k) w ts ≡ next (copy_form (rule u) w ts) (climb j b)

-- the levels from the first number up to the third read nothing before this next token
unfoldable pub Passes : ℕ → ℕ → ℕ → First → Type 0
Passes n k m f = (w : Written) (ts : Stream) → Begins f ts → climb (k - n) n w ts ≡ climb (k - m) m w ts

-- no level reads this next token: a comma, a semicolon, braces, or anything but a mark, a keyword or another group
abbrev pub ends : First → Bool
ends F.Ended = true
ends F.Name = true
ends F.Literal = true
ends F.Keyword = false
ends (F.Mark c) = or (nat_eq c 44) (nat_eq c 59)
ends (F.Group D.Brace) = true
ends (F.Group d) = false
