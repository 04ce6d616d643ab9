-- WHAT IS PRINTED OF A LIST IN `< >`: the members that are printed first, each with its comma; then the others.
use Rattle.std.specs.Prelude.{Bool, true, false, not, List, [], ◌∷◌, Option, Some, None}
use Rattle.std.specs.List.{list_any}
use Rattle.syn_grammar.specs.Tokens.{Span, call_site, Stream, end, punct, ◌⧺◌, pick, and}
use Rattle.syn_grammar.specs.Grammar.{Syntax, print, show, renew, sort}
use Rattle.syn_grammar.specs.Same.{same_bool}
use Rattle.syn_lower.specs.Ordered.{place_of}

abbrev pub sorted_print : Syntax → Stream
sorted_print l = show (sort (renew l))

abbrev pub comma_at : Span → Stream
comma_at sp = punct 44 false sp end

-- a member alone, if it is needed
unfoldable pub last_part : {T : Type 0} → (Syntax → Bool) → (T → Syntax) → Bool → Option T → Stream
last_part is_first view b None = end
last_part is_first view b (Some t) = pick (same_bool b (is_first (view t))) (print (view t)) end

module _ {T P : Type 0} (is_first : Syntax → Bool) (view : T → Syntax) (comma_view : P → Syntax) where
  -- a member with its comma, if it is needed
  unfoldable pub pair_part : Bool → T × P → Stream
  pair_part b x = pick (same_bool b (is_first (view x.0))) (print (view x.0) ⧺ comma_at (place_of (comma_view x.1))) end

  -- the members that are printed first (true), or the others
  abbrev pub part_row : Bool → List (T × P) → Option T → Stream
  part_row b [] o = last_part is_first view b o
  part_row b (x ∷ l) o = pair_part b x ⧺ part_row b l o

  -- the comma after a member that is no longer the last
  abbrev pub comma_between : List (T × P) → Option T → Stream
  comma_between l None = end
  comma_between l (Some t) = pick (and (is_first (view t)) (list_any (λ x. not (is_first (view x.0))) l)) (comma_at call_site) end

  abbrev pub ordered_row : List (T × P) → Option T → Stream
  ordered_row l o = part_row true l o ⧺ (comma_between l o ⧺ part_row false l o)
