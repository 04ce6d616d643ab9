-- Lookahead at one position.
use Rattle.std.specs.Prelude.{◌≡◌, ℕ, Bool, true, false, List, [], ◌∷◌, ◌++◌, codes, map, take, refl}
use Rattle.std.specs.Borrow.{Bor}
use Rattle.std.specs.Coded.{Coded, code_by, coded×, coded_list, coded_ℕ}
use Rattle.syn_grammar.specs.Tokens.{Stream, ended, pick}
use Rattle.syn_grammar.specs.Take.{sees}
use Rattle.syn_grammar.specs.Codes.{stream_code}
use Rattle.syn_tokens.specs.Faults.{FaultValue, ErrorValue, syntax_error}
use Rattle.syn_parse.specs.Nexts.{IsNext}
use Rattle.syn_tokens.specs.declared.span.Span.{Span}

-- the texts of names
abbrev pub texts : List (Bor (List ℕ)) → List (List ℕ)
texts = map (λ text. text.now)

-- the stream at that position, and the error messages of the names that were tried without success, the first four
pub record LookaheadValue : Type 0 where
  pub stream : Stream
  pub missed : List (List ℕ)

abbrev pub coded_lookahead : Coded LookaheadValue
coded_lookahead = code_by (Stream × List (List ℕ)) (coded× stream_code (coded_list (coded_list coded_ℕ))) (λ l. (l.stream, l.missed)) (λ p. record { stream = p.0; missed = p.1 }) (λ _. refl)

abbrev pub nothing_missed : Stream → LookaheadValue
nothing_missed ts = record { stream = ts; missed = [] }

-- after a lookahead that succeeded the names are the same; after one that failed, its own name too, if there were fewer than
-- four
abbrev pub MissedBy : Bool → List ℕ → List (List ℕ) → List (List ℕ) → Type 0
MissedBy true text old new = new ≡ old
MissedBy false text old new = new ≡ take 4 (old ++ text ∷ [])

-- the message if nothing was tried
abbrev pub unexpected : Stream → List ℕ
unexpected ts = pick (sees ended ts) (codes "unexpected end of input") (codes "unexpected token")

-- one message for each name, or a single one if there is none
abbrev pub reported : Stream → List (List ℕ) → List (List ℕ)
reported ts [] = unexpected ts ∷ []
reported ts (x ∷ l) = x ∷ l

-- there is a fault for each of these messages, in order, all at the next token
abbrev pub HasFaultsNext : Stream → List (List ℕ) → ErrorValue → Type 0
HasFaultsNext ts texts error = (span : Span) × (error ≡ syntax_error (map (λ text. (span, text)) texts)) × IsNext ts span
