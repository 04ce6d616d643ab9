-- The table of keywords.
use Rattle.std.specs.Prelude.{ℕ, zero, suc, ◌-◌, List, [], ◌∷◌, map, if◌then◌else◌}
use Rattle.std.specs.Int.{is_in_range}
use Rattle.std.specs.Borrow.{Bor}
use Rattle.syn_grammar.specs.Words.{Text}
use Rattle.syn_tokens.specs.declared.ident.keyword.TheConstants.{BY_LETTER, OTHERS}

abbrev pub texts : List (Bor Text) → List Text
texts = map (λ w. w.now)

abbrev pub by_letter : List (List Text)
by_letter = map (λ row. map (λ w. w.now) row.now) BY_LETTER

abbrev pub at_place : ℕ → List (List Text) → List Text
at_place n [] = []
at_place zero (row ∷ rows) = row
at_place (suc n) (row ∷ rows) = at_place n rows

-- the row of the keywords that start with this byte
unfoldable pub keywords_from : ℕ → List Text
keywords_from c = if is_in_range 97 122 c then at_place (c - 97) by_letter else map (λ w. w.now) OTHERS
