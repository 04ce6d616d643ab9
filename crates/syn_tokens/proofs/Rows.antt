-- Lists print as rows.
use Rattle.std.proofs.Common.{◌≡◌, ℕ, ◌+◌, ◌<◌, ◌≤◌, List, [], ◌∷◌, length, drop, get_or, Option, Some, None, refl, ap}
use Rattle.std.proofs.lemmas.List.{at_drop_more, drop_all}
use Rattle.syn_grammar.specs.Tokens.{◌⧺◌}
use Rattle.syn_grammar.specs.Grammar.{Syntax, print}
use Rattle.syn_grammar.proofs.Streams.{append_end}
use Rattle.syn_tokens.specs.Listing.{list_of, joined_of}
use Rattle.syn_tokens.specs.Rows.{row}

module _ {T P : Type 0} (v : T → Syntax) (w : P → Syntax) where
  pub list_row : (l : List (T × P)) (o : Option T) → print (list_of v w l o) ≡ row v w l o
  list_row [] None = refl
  list_row [] (Some t) = append_end (print (v t))
  list_row (x ∷ l) o = ap (λ z. print (v x.0) ⧺ (print (w x.1) ⧺ z)) (list_row l o)

  pub joined_row : (l : List (T × P)) (o : Option T) → print (joined_of v w l o) ≡ row v w l o
  joined_row [] None = refl
  joined_row [] (Some t) = append_end (print (v t))
  joined_row (x ∷ l) o = ap (λ z. print (v x.0) ⧺ (print (w x.1) ⧺ z)) (joined_row l o)

  -- the rest of a list, one step on
  pub row_step : (l : List (T × P)) (o : Option T) (i : ℕ) (d : T × P) → i < length l →
      row v w (drop i l) o ≡ print (v (get_or l i d).0) ⧺ (print (w (get_or l i d).1) ⧺ row v w (drop (i + 1) l) o)
  row_step l o i d h = at_drop_more (λ m. row v w m o) l i d h

  -- no pairs remain
  pub row_done : (l : List (T × P)) (o : Option T) (i : ℕ) → length l ≤ i → row v w (drop i l) o ≡ row v w [] o
  row_done l o i h = ap (λ m. row v w m o) (drop_all i l h)
