-- The contents of errors.
use Rattle.std.specs.Prelude.{◌≡◌, ◌⊎◌, ◌<◌, ℕ, List, [], ◌∷◌, ◌++◌, Option, None, Some, map, take, codes, refl}
use mathlib.Core.Logic.{inl, inr}
use Rattle.std.specs.Coded.{Coded, code_by, coded×, coded⊎, coded_list, coded_ℕ}
use Rattle.syn_tokens.specs.declared.span.Span.{Span}
use Rattle.syn_tokens.specs.contracts.span.Span as span
use Rattle.syn_tokens.specs.declared.error.Fault.{Fault}
use Rattle.syn_tokens.specs.declared.error.Refused.{Refused}
use Rattle.syn_tokens.specs.declared.error.Refused.TheVariants.{Memory, TooDeep}

-- the span and the text
abbrev pub FaultValue : Type 0
FaultValue = Span × List ℕ

abbrev pub coded_fault : Coded FaultValue
coded_fault = coded× span.the_row.coded (coded_list coded_ℕ)

abbrev pub fault_of : Fault → FaultValue
fault_of f = (f.span, f.text.now)

-- what an error reports
pub data ErrorValue : Type 0 where
  syntax_error : List FaultValue → ErrorValue  -- the tokens don't match
  too_deep : Span → ErrorValue  -- this token is nested too deep for the stack
  out_of_memory : ErrorValue  -- memory was refused

abbrev split_error : ErrorValue → List FaultValue ⊎ List Span
split_error (syntax_error fs) = inl fs
split_error (too_deep s) = inr (s ∷ [])
split_error out_of_memory = inr []

abbrev join_error : List FaultValue ⊎ List Span → ErrorValue
join_error (inl fs) = syntax_error fs
join_error (inr []) = out_of_memory
join_error (inr (s ∷ l)) = too_deep s

pub join_split_error : (e : ErrorValue) → join_error (split_error e) ≡ e
join_split_error (syntax_error fs) = refl
join_split_error (too_deep s) = refl
join_split_error out_of_memory = refl

abbrev pub coded_error : Coded ErrorValue
coded_error = code_by (List FaultValue ⊎ List Span) (coded⊎ (coded_list coded_fault) (coded_list span.the_row.coded)) split_error join_error join_split_error

-- what an error with these faults reports, or what was refused in their place
abbrev pub error_of : Option Refused → List FaultValue → ErrorValue
error_of None fs = syntax_error fs
error_of (Some (TooDeep s)) fs = too_deep s
error_of (Some (Memory e)) fs = out_of_memory

-- a syntax error has a fault
abbrev pub HasReason : Option Refused → ℕ → Type 0
HasReason None n = 0 < n
HasReason (Some r) n = Unit {0}

-- a syntax error: neither refused memory nor a lack of stack
abbrev pub IsSyntaxError : ErrorValue → Type 0
IsSyntaxError (syntax_error fs) = Unit {0}
IsSyntaxError (too_deep s) = ⊥
IsSyntaxError out_of_memory = ⊥

-- refused memory
abbrev pub IsMemoryError : ErrorValue → Type 0
IsMemoryError (syntax_error fs) = ⊥
IsMemoryError (too_deep s) = ⊥
IsMemoryError out_of_memory = Unit {0}

-- nesting that is too deep for the stack
abbrev pub IsTooDeepError : ErrorValue → Type 0
IsTooDeepError (syntax_error fs) = ⊥
IsTooDeepError (too_deep s) = Unit {0}
IsTooDeepError out_of_memory = ⊥

-- the faults: none if memory was refused, or the nesting is too deep
abbrev pub faults_of : ErrorValue → List FaultValue
faults_of (syntax_error fs) = fs
faults_of (too_deep s) = []
faults_of out_of_memory = []

-- the span of the first of these faults
abbrev pub start_of : List FaultValue → Span
start_of [] = record { start = 0; end = 0 }
start_of (f ∷ fs) = f.0

-- the text of the first of these faults
abbrev pub text_of : List FaultValue → List ℕ
text_of [] = []
text_of (f ∷ fs) = f.1

-- the position: of the first fault, or of the token that is too deep; 0 to 0 if memory was refused
abbrev pub first_span : ErrorValue → Span
first_span (syntax_error fs) = start_of fs
first_span (too_deep s) = s
first_span out_of_memory = record { start = 0; end = 0 }

-- the message
abbrev pub first_text : ErrorValue → Option (List ℕ)
first_text (syntax_error fs) = Some (text_of fs)
first_text (too_deep s) = Some (codes "nested too deeply")
first_text out_of_memory = Some (codes "out of memory")

-- the first four faults of two errors; refused memory takes precedence, and then the first nesting that is too deep
abbrev pub combined : ErrorValue → ErrorValue → ErrorValue
combined (syntax_error fs) (syntax_error gs) = syntax_error (take 4 (fs ++ gs))
combined (syntax_error fs) (too_deep s) = too_deep s
combined (syntax_error fs) out_of_memory = out_of_memory
combined (too_deep s) (syntax_error gs) = too_deep s
combined (too_deep s) (too_deep t) = too_deep s
combined (too_deep s) out_of_memory = out_of_memory
combined out_of_memory e = out_of_memory

-- a word or a mark was expected, which is in backquotes
abbrev pub expected : List ℕ → List ℕ
expected x = codes "expected `" ++ x ++ codes "`"
