-- Refusals of internal parsers, and the errors that they become.
use Rattle.std.specs.Prelude.{◌≡◌, [], ◌∷◌}
use Rattle.syn_tokens.specs.Faults.{ErrorValue, syntax_error, too_deep, out_of_memory}
use Rattle.syn_parse.specs.declared.read.refusal.Refusal.{Refusal}
use Rattle.syn_parse.specs.declared.read.refusal.Refusal.TheVariants.{Memory, TooDeep, Syntax}

-- a syntax error: neither refused memory nor a lack of stack
abbrev pub IsSyntax : Refusal → Type 0
IsSyntax (Memory e) = ⊥
IsSyntax (TooDeep span) = ⊥
IsSyntax (Syntax span text) = Unit {0}

-- nesting that is too deep for the stack
abbrev pub IsTooDeep : Refusal → Type 0
IsTooDeep (Memory e) = ⊥
IsTooDeep (TooDeep span) = Unit {0}
IsTooDeep (Syntax span text) = ⊥

-- a syntax error or nesting that is too deep: memory was not refused
abbrev pub NotMemory : Refusal → Type 0
NotMemory (Memory e) = ⊥
NotMemory (TooDeep span) = Unit {0}
NotMemory (Syntax span text) = Unit {0}

-- the error that a refusal becomes; of a syntax error one fault at its span, with its message
abbrev pub IsRefusedAs : Refusal → ErrorValue → Type 0
IsRefusedAs (Memory e) error = error ≡ out_of_memory
IsRefusedAs (TooDeep span) error = error ≡ too_deep span
IsRefusedAs (Syntax span text) error = error ≡ syntax_error ((span, text.now) ∷ [])
