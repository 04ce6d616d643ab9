-- One row of the table is changed.
use Rattle.std.proofs.Common.{◌≡◌, ℕ, zero, suc, List, [], ◌∷◌, map, set, get_or, refl, ap}
use Rattle.token_stats.specs.Counts.{Row, nothing, row_of}
use Rattle.token_stats.specs.declared.stats.Row.{Row as T_Row}

pub at_row : (rows : List T_Row) (i : ℕ) (d new : T_Row) (f : Row → Row) → row_of new ≡ f (row_of (get_or rows i d)) → map row_of (set rows i new) ≡ set (map row_of rows) i (f (get_or (map row_of rows) i nothing))
at_row [] i d new f e = refl
at_row (r ∷ rows) zero d new f e = ap (λ x. x ∷ map row_of rows) e
at_row (r ∷ rows) (suc i) d new f e = ap (λ l. row_of r ∷ l) (at_row rows i d new f e)
