-- Faults collected at one position.
use Rattle.std.proofs.Common.{◌≡◌, ℕ, ◌+◌, ◌<◌, ◌≤◌, List, [], ◌∷◌, ◌++◌, length, get_or, map, take, arith, length-append, refl, sym, ap, ◌∙◌}
use Rattle.std.specs.Borrow.{Bor}
use Rattle.std.proofs.lemmas.List.{length-map, length-take-le, map_more, take_all}
use Rattle.syn_grammar.specs.Tokens.{Stream}
use Rattle.syn_tokens.specs.Faults.{FaultValue, ErrorValue, syntax_error, faults_of, combined}
use Rattle.syn_parse.specs.Looked.{HasFaultsNext, texts, reported}
use Rattle.syn_parse.specs.Nexts.{IsNext}
use Rattle.syn_tokens.specs.declared.span.Span.{Span}

-- a text, as it is borrowed
abbrev pub Name : Type 0
Name = Bor (List ℕ)

-- the fault that a name becomes there
abbrev pub fault_at : Span → Name → FaultValue
fault_at here name = (here, name.now)

-- a fault after fewer than four
pub one_known : (here : Span) (names : List Name) (i : ℕ) (d : Name) (f : FaultValue) (text : List ℕ) (start error new : ErrorValue) →
    error ≡ syntax_error (faults_of start ++ map (fault_at here) (take i names)) → start ≡ syntax_error (f ∷ []) → new ≡ syntax_error ((here, text) ∷ []) → text ≡ (get_or names i d).now → i < length names → length names < 4 →
    combined error new ≡ syntax_error (faults_of start ++ map (fault_at here) (take (i + 1) names))
one_known here names i d f text start error new x s n t l few =
    ap (λ z. combined z new) (x ∙ ap (λ z. syntax_error (faults_of z ++ map (fault_at here) (take i names))) s)
    ∙ ap (combined (syntax_error (f ∷ map (fault_at here) (take i names)))) (n ∙ ap (λ z. syntax_error ((here, z) ∷ [])) t)
    ∙ ap syntax_error (take_all 4 (f ∷ (map (fault_at here) (take i names) ++ fault_at here (get_or names i d) ∷ [])) (omega (arith, length-append (map (fault_at here) (take i names)) (fault_at here (get_or names i d) ∷ []), length-map (take i names) (fault_at here), length-take-le i names (omega (arith, l)), l, few))
    ∙ ap (λ z. f ∷ z) (sym (map_more (fault_at here) names i d l)))
    ∙ ap (λ z. syntax_error (faults_of z ++ map (fault_at here) (take (i + 1) names))) (sym s)

-- before the second name
pub first_known : (start : ErrorValue) (f : FaultValue) → start ≡ syntax_error (f ∷ []) → start ≡ syntax_error (faults_of start ++ [])
first_known start f s = s ∙ sym (ap (λ z. syntax_error (faults_of z ++ [])) s)

by_texts : (here : Span) (names : List Name) → map (fault_at here) names ≡ map (λ text. (here, text)) (texts names)
by_texts here [] = refl
by_texts here (n ∷ names) = ap (λ l. fault_at here n ∷ l) (by_texts here names)

-- the faults of all names
pub all_known : (ts : Stream) (here : Span) (first : Name) (others names : List Name) (missed : List (List ℕ)) (i : ℕ) (text : List ℕ) (start error : ErrorValue) →
    IsNext ts here → names ≡ first ∷ others → texts names ≡ missed → error ≡ syntax_error (faults_of start ++ map (fault_at here) (take i others)) → start ≡ syntax_error ((here, text) ∷ []) → text ≡ first.now → length others ≤ i →
    HasFaultsNext ts (reported ts missed) error
all_known ts here first others names missed i text start error h a m x s t l = (
  here,
  x ∙ ap (λ z. syntax_error (faults_of z ++ map (fault_at here) (take i others))) s
      ∙ ap syntax_error (ap (λ z. (here, z) ∷ map (fault_at here) (take i others)) t
      ∙ ap (λ z. fault_at here first ∷ map (fault_at here) z) (take_all i others l)
      ∙ ap (λ z. fault_at here first ∷ z) (by_texts here others)
      ∙ ap (λ z. map (λ text. (here, text)) (reported ts z)) (ap texts (sym a) ∙ m)),
  h,
)
