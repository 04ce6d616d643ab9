-- A test that a table's rules don't come back to where they begin.
use Rattle.std.specs.Prelude.{ℕ, Bool, true, List, [], ◌∷◌, nat_lt}
use Rattle.syn_grammar.specs.Tokens.{and, pick}
use Rattle.syn_grammar.specs.Rules.{Rule}
use Rattle.syn_grammar.specs.Grammar.{Grammar, ◌&◌, when◌then◌else◌, vanishing, inside, either, one_of, rule, such, captured, supplied, row, ordered, shaped, generics_before}
use Rattle.syn_grammar.proofs.FirstSets.{Start, nullable}

module _ (said : Rule → Start) (rank : Rule → ℕ) where
  -- each of these rules has a rank below this
  abbrev pub all_low : ℕ → List Rule → Bool
  all_low top [] = true
  all_low top (k ∷ ks) = and (nat_lt (rank k) top) (all_low top ks)

  -- so has each rule that the form calls before it has read anything
  abbrev pub low : ℕ → Grammar → Bool
  low top (g & h) = and (low top g) (low (pick (nullable said g) top 256) h)
  low top (when c then g else h) = and (low top g) (low top h)
  low top (vanishing b c g) = low top g
  low top (inside d g) = low 256 g
  low top (either g h) = and (low top g) (low top h)
  low top (one_of ks) = all_low top ks
  low top (rule k) = nat_lt (rank k) top
  low top (such q g) = low top g
  low top (shaped j g) = low top g
  low top (generics_before x y h) = and (and (low 256 x) (low 256 y)) (low top h)
  low top (captured g) = low top g
  low top (supplied n p t) = and (low top p) (and (low top t) (low 256 t))
  low top (row g h) = and (and (low top g) (low top h)) (and (low 256 g) (low 256 h))
  low top (ordered g h) = and (low 256 g) (low 256 h)
  low top _ = true
