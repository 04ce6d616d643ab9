-- The logic stores a stream as the list of steps that build it, its parts before it.
use Rattle.std.specs.Prelude.{◌≡◌, ℕ, List, [], ◌∷◌, Bool, true, false, cond, ◌==◌, refl}
use Rattle.std.specs.Coded.{Coded, code_by, coded×, coded_ℕ, coded_list}
use Rattle.syn_grammar.specs.Tokens.{Span, Delimiter, Paren, Brace, Bracket, None, LitKind, Str, ByteStr, CStr, Byte, Char, Int, Float, Leaf, ident, literal, Stream, end, leaf, punct, group, delimiter_number, kind_number}

pub data Step : Type 0 where
  add_end : Step
  add_leaf : Leaf → Span → Step
  add_punct : ℕ → Bool → Span → Step
  add_group : Delimiter → Span → Span → Step

abbrev pub bit : Bool → ℕ
bit true = 1
bit false = 0

abbrev pub to_delimiter : ℕ → Delimiter
to_delimiter n = cond (n == 0) Paren (cond (n == 1) Brace (cond (n == 2) Bracket None))

abbrev pub to_kind : ℕ → LitKind
to_kind n = cond (n == 0) Str (cond (n == 1) ByteStr (cond (n == 2) CStr (cond (n == 3) Byte (cond (n == 4) Char (cond (n == 5) Int Float)))))

abbrev pub first : List ℕ → ℕ
first [] = 0
first (x ∷ l) = x

abbrev pub others : List ℕ → List ℕ
others [] = []
others (x ∷ l) = l

abbrev step_to_pair : Step → ℕ × List ℕ
step_to_pair add_end = (0, [])
step_to_pair (add_leaf (ident x) sp) = (1, sp.start ∷ sp.stop ∷ x)
step_to_pair (add_leaf (literal k x) sp) = (2, sp.start ∷ sp.stop ∷ kind_number k ∷ x)
step_to_pair (add_punct c j sp) = (3, sp.start ∷ sp.stop ∷ c ∷ bit j ∷ [])
step_to_pair (add_group d o c) = (4, o.start ∷ o.stop ∷ c.start ∷ c.stop ∷ delimiter_number d ∷ [])

abbrev pub first_span : List ℕ → Span
first_span l = record { start = first l; stop = first (others l) }

abbrev step_from_pair : ℕ × List ℕ → Step
step_from_pair p =
    let l = others (others p.1) in
    cond (p.0 == 0) add_end (cond (p.0 == 1) (add_leaf (ident l) (first_span p.1)) (cond (p.0 == 2) (add_leaf (literal (to_kind (first l)) (others l)) (first_span p.1))
    (cond (p.0 == 3) (add_punct (first l) (first (others l) == 1) (first_span p.1)) (add_group (to_delimiter (first (others (others l)))) (first_span p.1) (first_span l)))))

pub step_from_pair_step_to_pair : (s : Step) → step_from_pair (step_to_pair s) ≡ s
step_from_pair_step_to_pair add_end = refl
step_from_pair_step_to_pair (add_leaf (ident x) sp) = refl
step_from_pair_step_to_pair (add_leaf (literal Str x) sp) = refl
step_from_pair_step_to_pair (add_leaf (literal ByteStr x) sp) = refl
step_from_pair_step_to_pair (add_leaf (literal CStr x) sp) = refl
step_from_pair_step_to_pair (add_leaf (literal Byte x) sp) = refl
step_from_pair_step_to_pair (add_leaf (literal Char x) sp) = refl
step_from_pair_step_to_pair (add_leaf (literal Int x) sp) = refl
step_from_pair_step_to_pair (add_leaf (literal Float x) sp) = refl
step_from_pair_step_to_pair (add_punct c true sp) = refl
step_from_pair_step_to_pair (add_punct c false sp) = refl
step_from_pair_step_to_pair (add_group Paren o c) = refl
step_from_pair_step_to_pair (add_group Brace o c) = refl
step_from_pair_step_to_pair (add_group Bracket o c) = refl
step_from_pair_step_to_pair (add_group None o c) = refl

-- the steps of a stream, followed by more steps
abbrev steps : Stream → List Step → List Step
steps end l = add_end ∷ l
steps (leaf x sp m) l = steps m (add_leaf x sp ∷ l)
steps (punct c j sp m) l = steps m (add_punct c j sp ∷ l)
steps (group d o c i m) l = steps i (steps m (add_group d o c ∷ l))

-- the streams that the steps build, on a stack
abbrev run : List Step → List Stream → List Stream
run [] st = st
run (add_end ∷ l) st = run l (end ∷ st)
run (add_leaf x sp ∷ l) (m ∷ st) = run l (leaf x sp m ∷ st)
run (add_punct c j sp ∷ l) (m ∷ st) = run l (punct c j sp m ∷ st)
run (add_group d o c ∷ l) (m ∷ i ∷ st) = run l (group d o c i m ∷ st)
run (_ ∷ l) st = run l st

run_steps : (s : Stream) (l : List Step) (st : List Stream) → run (steps s l) st ≡ run l (s ∷ st)
run_steps end l st = refl
run_steps (leaf x sp m) l st = run_steps m (add_leaf x sp ∷ l) st
run_steps (punct c j sp m) l st = run_steps m (add_punct c j sp ∷ l) st
run_steps (group d o c i m) l st = rw (run_steps i (steps m (add_group d o c ∷ l)) st) (run_steps m (add_group d o c ∷ l) (i ∷ st))

abbrev to_steps : Stream → List Step
to_steps s = steps s []

abbrev top : List Stream → Stream
top [] = end
top (s ∷ l) = s

abbrev from_steps : List Step → Stream
from_steps l = top (run l [])

pub from_to : (s : Stream) → from_steps (to_steps s) ≡ s
from_to s = rw (run_steps s [] []) refl

abbrev pub stream_code : Coded Stream
stream_code = code_by (List Step) (coded_list (code_by (ℕ × List ℕ) (coded× coded_ℕ (coded_list coded_ℕ)) step_to_pair step_from_pair step_from_pair_step_to_pair)) to_steps from_steps from_to
