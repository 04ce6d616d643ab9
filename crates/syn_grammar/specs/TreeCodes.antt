-- The logic stores a tree as the list of steps that build it, its parts before it.
use Rattle.std.specs.Prelude.{◌≡◌, ℕ, List, [], ◌∷◌, Bool, true, false, cond, ◌==◌, refl}
use Rattle.std.specs.Coded.{Coded, code_by, coded×, coded_ℕ, coded_list}
use Rattle.syn_grammar.specs.Words.{Text}
use Rattle.syn_grammar.specs.Tokens.{Span, Delimiter, Paren, Brace, Bracket, None, Str, ByteStr, CStr, Byte, Char, Int, Float, Leaf, ident, literal, Stream, end, delimiter_number, kind_number}
use Rattle.syn_grammar.specs.Rules.{Rule}
use Rattle.syn_grammar.specs.RuleNumbers.{place, rules, at_place, back}
use Rattle.syn_grammar.specs.Shape.{Shape, shape_number, shape_at, shape_back}
use Rattle.syn_grammar.specs.Grammar.{Syntax, Nothing, Token, Mark, Lifetime, Both, Left, Right, Node, Vanishing, Group, Raw, Rest, Case, Such, Captured, Unshown, Impl, Added, Done, Last, More, Order, Shaped}
use Rattle.syn_grammar.specs.Codes.{bit, to_delimiter, to_kind, first, others, first_span, stream_code}

pub data TreeStep : Type 0 where
  nothing both left right node such unshown impl done : TreeStep
  token : Leaf → Span → TreeStep
  mark : List (ℕ × Span) → TreeStep
  lifetime : Span → Text → Span → TreeStep
  vanishing last : Bool → TreeStep
  shaped : Shape → TreeStep
  group : Delimiter → Span → Span → TreeStep
  raw : Delimiter → Span → Span → Stream → TreeStep
  rest : List (ℕ × Span) → Stream → TreeStep
  case : Rule → TreeStep
  captured : Stream → TreeStep
  added : Text → TreeStep
  more : Bool → Span → TreeStep
  order : List (ℕ × Span) → List (ℕ × Span) → TreeStep

-- a step's number, its numbers, marks and tokens
abbrev Packed : Type 0
Packed = ℕ × (List ℕ × (List (ℕ × Span) × (List (ℕ × Span) × Stream)))

abbrev pack : ℕ → List ℕ → Packed
pack n l = (n, (l, ([], ([], end))))

abbrev to_packed : TreeStep → Packed
to_packed nothing = pack 0 []
to_packed both = pack 1 []
to_packed left = pack 2 []
to_packed right = pack 3 []
to_packed node = pack 4 []
to_packed such = pack 5 []
to_packed done = pack 6 []
to_packed (token (ident x) sp) = pack 7 (sp.start ∷ sp.stop ∷ x)
to_packed (token (literal k x) sp) = pack 8 (sp.start ∷ sp.stop ∷ kind_number k ∷ x)
to_packed (mark xs) = (9, ([], (xs, ([], end))))
to_packed (lifetime sp x sq) = pack 10 (sp.start ∷ sp.stop ∷ sq.start ∷ sq.stop ∷ x)
to_packed (vanishing b) = pack 11 (bit b ∷ [])
to_packed (last b) = pack 12 (bit b ∷ [])
to_packed (group d o c) = pack 13 (o.start ∷ o.stop ∷ c.start ∷ c.stop ∷ delimiter_number d ∷ [])
to_packed (raw d o c i) = (14, (o.start ∷ o.stop ∷ c.start ∷ c.stop ∷ delimiter_number d ∷ [], ([], ([], i))))
to_packed (rest xs i) = (15, ([], (xs, ([], i))))
to_packed (case k) = pack 16 (place k ∷ [])
to_packed (captured i) = (17, ([], ([], ([], i))))
to_packed (added cs) = pack 18 cs
to_packed (more b sp) = pack 19 (sp.start ∷ sp.stop ∷ bit b ∷ [])
to_packed unshown = pack 20 []
to_packed impl = pack 21 []
to_packed (shaped j) = pack 23 ((shape_number j).0 ∷ (shape_number j).1 ∷ [])
to_packed (order xs ys) = (22, ([], (xs, (ys, end))))

abbrev from_packed : Packed → TreeStep
from_packed p =
    let l = p.1.0 in
    let m = others (others l) in
    let d = to_delimiter (first (others (others m))) in
    let xs = p.1.1.0 in
    let ys = p.1.1.1.0 in
    let i = p.1.1.1.1 in
    cond (p.0 == 0) nothing (cond (p.0 == 1) both (cond (p.0 == 2) left (cond (p.0 == 3) right (cond (p.0 == 4) node (cond (p.0 == 5) such (cond (p.0 == 6) done
    (cond (p.0 == 7) (token (ident m) (first_span l)) (cond (p.0 == 8) (token (literal (to_kind (first m)) (others m)) (first_span l)) (cond (p.0 == 9) (mark xs)
    (cond (p.0 == 10) (lifetime (first_span l) (others (others m)) (first_span m)) (cond (p.0 == 11) (vanishing (first l == 1)) (cond (p.0 == 12) (last (first l == 1))
    (cond (p.0 == 13) (group d (first_span l) (first_span m)) (cond (p.0 == 14) (raw d (first_span l) (first_span m) i) (cond (p.0 == 15) (rest xs i)
    (cond (p.0 == 16) (case (at_place rules (first l))) (cond (p.0 == 17) (captured i) (cond (p.0 == 18) (added l) (cond (p.0 == 19) (more (first m == 1) (first_span l)) (cond (p.0 == 20) unshown (cond (p.0 == 21) impl (cond (p.0 == 23) (shaped (shape_at (first l, first (others l)))) (order xs ys)))))))))))))))))))))))

pub from_to_packed : (s : TreeStep) → from_packed (to_packed s) ≡ s
from_to_packed nothing = refl
from_to_packed both = refl
from_to_packed left = refl
from_to_packed right = refl
from_to_packed node = refl
from_to_packed such = refl
from_to_packed unshown = refl
from_to_packed impl = refl
from_to_packed done = refl
from_to_packed (token (ident x) sp) = refl
from_to_packed (token (literal Str x) sp) = refl
from_to_packed (token (literal ByteStr x) sp) = refl
from_to_packed (token (literal CStr x) sp) = refl
from_to_packed (token (literal Byte x) sp) = refl
from_to_packed (token (literal Char x) sp) = refl
from_to_packed (token (literal Int x) sp) = refl
from_to_packed (token (literal Float x) sp) = refl
from_to_packed (mark xs) = refl
from_to_packed (lifetime sp x sq) = refl
from_to_packed (vanishing true) = refl
from_to_packed (vanishing false) = refl
from_to_packed (last true) = refl
from_to_packed (last false) = refl
from_to_packed (group Paren o c) = refl
from_to_packed (group Brace o c) = refl
from_to_packed (group Bracket o c) = refl
from_to_packed (group None o c) = refl
from_to_packed (raw Paren o c i) = refl
from_to_packed (raw Brace o c i) = refl
from_to_packed (raw Bracket o c i) = refl
from_to_packed (raw None o c i) = refl
from_to_packed (rest xs i) = refl
from_to_packed (captured i) = refl
from_to_packed (added cs) = refl
from_to_packed (more true sp) = refl
from_to_packed (more false sp) = refl
from_to_packed (order xs ys) = refl
from_to_packed (shaped j) = rw (shape_back j) refl
from_to_packed (case k) = rw (back k) refl

abbrev steps : Syntax → List TreeStep → List TreeStep
steps Nothing l = nothing ∷ l
steps (Token x sp) l = token x sp ∷ l
steps (Mark xs) l = mark xs ∷ l
steps (Lifetime sp x sq) l = lifetime sp x sq ∷ l
steps (Both s t) l = steps s (steps t (both ∷ l))
steps (Left s) l = steps s (left ∷ l)
steps (Right s) l = steps s (right ∷ l)
steps (Node s) l = steps s (node ∷ l)
steps (Vanishing b s) l = steps s (vanishing b ∷ l)
steps (Group d o c s) l = steps s (group d o c ∷ l)
steps (Raw d o c i) l = raw d o c i ∷ l
steps (Rest xs i) l = rest xs i ∷ l
steps (Case k s) l = steps s (case k ∷ l)
steps (Such s) l = steps s (such ∷ l)
steps (Shaped j s) l = steps s (shaped j ∷ l)
steps (Captured s i) l = steps s (captured i ∷ l)
steps (Unshown s) l = steps s (unshown ∷ l)
steps (Impl s t) l = steps s (steps t (impl ∷ l))
steps (Added cs) l = added cs ∷ l
steps Done l = done ∷ l
steps (Last k s) l = steps s (last k ∷ l)
steps (More k s sp t) l = steps s (steps t (more k sp ∷ l))
steps (Order xs s ys) l = steps s (order xs ys ∷ l)

abbrev run : List TreeStep → List Syntax → List Syntax
run [] st = st
run (nothing ∷ l) st = run l (Nothing ∷ st)
run (token x sp ∷ l) st = run l (Token x sp ∷ st)
run (mark xs ∷ l) st = run l (Mark xs ∷ st)
run (lifetime sp x sq ∷ l) st = run l (Lifetime sp x sq ∷ st)
run (raw d o c i ∷ l) st = run l (Raw d o c i ∷ st)
run (rest xs i ∷ l) st = run l (Rest xs i ∷ st)
run (added cs ∷ l) st = run l (Added cs ∷ st)
run (done ∷ l) st = run l (Done ∷ st)
run (both ∷ l) (t ∷ s ∷ st) = run l (Both s t ∷ st)
run (impl ∷ l) (t ∷ s ∷ st) = run l (Impl s t ∷ st)
run (left ∷ l) (s ∷ st) = run l (Left s ∷ st)
run (right ∷ l) (s ∷ st) = run l (Right s ∷ st)
run (node ∷ l) (s ∷ st) = run l (Node s ∷ st)
run (vanishing b ∷ l) (s ∷ st) = run l (Vanishing b s ∷ st)
run (group d o c ∷ l) (s ∷ st) = run l (Group d o c s ∷ st)
run (case k ∷ l) (s ∷ st) = run l (Case k s ∷ st)
run (such ∷ l) (s ∷ st) = run l (Such s ∷ st)
run (shaped j ∷ l) (s ∷ st) = run l (Shaped j s ∷ st)
run (unshown ∷ l) (s ∷ st) = run l (Unshown s ∷ st)
run (captured i ∷ l) (s ∷ st) = run l (Captured s i ∷ st)
run (last k ∷ l) (s ∷ st) = run l (Last k s ∷ st)
run (more k sp ∷ l) (t ∷ s ∷ st) = run l (More k s sp t ∷ st)
run (order xs ys ∷ l) (s ∷ st) = run l (Order xs s ys ∷ st)
run (_ ∷ l) st = run l st

run_steps : (s : Syntax) (l : List TreeStep) (st : List Syntax) → run (steps s l) st ≡ run l (s ∷ st)
run_steps Nothing l st = refl
run_steps (Token x sp) l st = refl
run_steps (Mark xs) l st = refl
run_steps (Lifetime sp x sq) l st = refl
run_steps (Raw d o c i) l st = refl
run_steps (Rest xs i) l st = refl
run_steps (Added cs) l st = refl
run_steps Done l st = refl
run_steps (Left s) l st = run_steps s (left ∷ l) st
run_steps (Right s) l st = run_steps s (right ∷ l) st
run_steps (Node s) l st = run_steps s (node ∷ l) st
run_steps (Vanishing b s) l st = run_steps s (vanishing b ∷ l) st
run_steps (Group d o c s) l st = run_steps s (group d o c ∷ l) st
run_steps (Case k s) l st = run_steps s (case k ∷ l) st
run_steps (Such s) l st = run_steps s (such ∷ l) st
run_steps (Shaped j s) l st = run_steps s (shaped j ∷ l) st
run_steps (Unshown s) l st = run_steps s (unshown ∷ l) st
run_steps (Captured s i) l st = run_steps s (captured i ∷ l) st
run_steps (Last k s) l st = run_steps s (last k ∷ l) st
run_steps (Order xs s ys) l st = run_steps s (order xs ys ∷ l) st
run_steps (Both s t) l st = rw (run_steps s (steps t (both ∷ l)) st) (run_steps t (both ∷ l) (s ∷ st))
run_steps (Impl s t) l st = rw (run_steps s (steps t (impl ∷ l)) st) (run_steps t (impl ∷ l) (s ∷ st))
run_steps (More k s sp t) l st = rw (run_steps s (steps t (more k sp ∷ l)) st) (run_steps t (more k sp ∷ l) (s ∷ st))

abbrev to_steps : Syntax → List TreeStep
to_steps s = steps s []

abbrev top : List Syntax → Syntax
top [] = Nothing
top (s ∷ l) = s

abbrev from_steps : List TreeStep → Syntax
from_steps l = top (run l [])

pub from_to : (s : Syntax) → from_steps (to_steps s) ≡ s
from_to s = rw (run_steps s [] []) refl

abbrev pub span_code : Coded Span
span_code = code_by (ℕ × ℕ) (coded× coded_ℕ coded_ℕ) (λ s. (s.start, s.stop)) (λ p. record { start = p.0; stop = p.1 }) (λ _. refl)

abbrev pub marks_code : Coded (List (ℕ × Span))
marks_code = coded_list (coded× coded_ℕ span_code)

abbrev pub syntax_code : Coded Syntax
syntax_code =
    code_by (List TreeStep) (coded_list (code_by Packed (coded× coded_ℕ (coded× (coded_list coded_ℕ) (coded× marks_code (coded× marks_code stream_code)))) to_packed from_packed from_to_packed)) to_steps from_steps from_to
