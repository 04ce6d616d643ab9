-- WHAT IS BEING WRITTEN: a token stream, of trees as they are shown or as they are printed; or nothing at all.
use Rattle.std.specs.Prelude.{Bool, true, false, Option, Some, None, List, [], ◌∷◌, refl}
use Rattle.std.specs.Coded.{Coded, code_by, coded×, coded_bool, coded_option}
use Rattle.syn_grammar.specs.Tokens.{Span, Delimiter, Stream, end}
use Rattle.syn_tokens.specs.Building.{Building, OpenGroup, coded_building, added, into_group, out_of_group}

pub record Written : Type 0 where
  pub printing : Bool  -- trees are written as they are printed, else as they are shown
  pub out : Option Building  -- none where what is written is dropped

abbrev pub coded_written : Coded Written
coded_written = code_by (Bool × Option Building) (coded× coded_bool (coded_option coded_building)) (λ w. (w.printing, w.out)) (λ p. record { printing = p.0; out = p.1 }) (λ _. refl)

-- nothing was written yet
abbrev pub blank : Bool → Written
blank a = record { printing = a; out = Some (record { before = end; open_groups = []; stream = end }) }

-- nothing is written
abbrev pub unwritten : Written
unwritten = record { printing = false; out = None }

abbrev pub changed : (Building → Building) → Option Building → Option Building
changed f None = None
changed f (Some b) = Some (f b)

-- nothing was written yet in the same way
abbrev pub beside : Written → Written
beside w = record { printing = w.printing; out = changed (λ b. record { before = end; open_groups = []; stream = end }) w.out }

abbrev pub drops_in : Option Building → Bool
drops_in None = true
drops_in (Some b) = false

-- what is written is dropped
abbrev pub drops : Written → Bool
drops w = drops_in w.out

abbrev pub none_open : List OpenGroup → Bool
none_open [] = true
none_open (g ∷ gs) = false

abbrev pub closed_in : Option Building → Bool
closed_in None = true
closed_in (Some b) = none_open b.open_groups

-- no group is open
abbrev pub closed : Written → Bool
closed w = closed_in w.out

abbrev pub stream_in : Option Building → Stream
stream_in None = end
stream_in (Some b) = b.stream

-- what was written so far in the innermost open group
abbrev pub stream_of : Written → Stream
stream_of w = stream_in w.out

-- these trees were added
unfoldable pub adds : Written → Stream → Written
adds w i = record w { out = changed (λ b. added b i) w.out }

-- inside of a new group
unfoldable pub enters : Delimiter → Span → Written → Written
enters d o w = record w { out = changed (into_group d o) w.out }

-- outside of the innermost open group, which ends here
unfoldable pub leaves : Span → Written → Written
leaves c w = record w { out = changed (out_of_group c) w.out }
