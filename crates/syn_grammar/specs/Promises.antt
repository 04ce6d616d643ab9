-- THE CONTRACTS OF PARSERS.
-- Their errors may have any type; the errors that report wrong input (not a lack of memory) are the refusals.
use Rattle.std.specs.Prelude.{◌≡◌, ◌+◌, ◌<◌, ◌≤◌, ◌↔◌, ℕ, true, Some, None, Result, Ok, Err}
use Rattle.syn_grammar.specs.Tokens.{Stream, end, visible}
use Rattle.syn_grammar.specs.Rules.{Rule}
use Rattle.syn_grammar.specs.Grammar.{Syntax, Grammar, DerivesPrefix}
use Rattle.syn_grammar.specs.Table.{table}
use Rattle.syn_grammar.specs.Laws.{Derives}
use Rattle.syn_grammar.specs.Take.{Out, Parser, left, is_end, only}
use Rattle.syn_grammar.specs.Run.{row_step, rows, value_of, parse_rule, parse_form}

-- BETWEEN PARSERS, on every stream

-- a success returns the computed result: this value's tree and this rest; on a refusal there is no computed result
abbrev pub Computes : {X E : Type 0} → (E → Type 0) → (X → Syntax) → Out → Result X E → Stream → Type 0
Computes refusal view out (Ok x) new = out ≡ Some (view x, new)
Computes refusal view out (Err e) new = refusal e → out ≡ None

-- after a success at least n fewer tokens are left; after an error nothing is stated about the buffer
abbrev pub Takes : {X E : Type 0} → ℕ → Stream → Result X E → Stream → Type 0
Takes n old (Ok x) new = left new + n ≤ left old
Takes n old (Err e) new = Unit {0}

-- after a success fewer tokens are left
abbrev pub Moved : {X E : Type 0} → Stream → Result X E → Stream → Type 0
Moved old (Ok x) new = left new < left old
Moved old (Err e) new = Unit {0}

-- after a success no more tokens are left
abbrev pub Kept : {X E : Type 0} → Stream → Result X E → Stream → Type 0
Kept old (Ok x) new = left new ≤ left old
Kept old (Err e) new = Unit {0}

-- the contract of a parser in one predicate: of a rule that reads some token; and of one that may read none
abbrev pub Parses : {X E : Type 0} → (E → Type 0) → (X → Syntax) → Rule → Stream → Result X E → Stream → Type 0
Parses refusal view k old result new = Computes refusal view (parse_rule k old) result new × Moved old result new

abbrev pub MayParse : {X E : Type 0} → (E → Type 0) → (X → Syntax) → Rule → Stream → Result X E → Stream → Type 0
MayParse refusal view k old result new = Computes refusal view (parse_rule k old) result new × Kept old result new

-- the nested parser may be called wherever fewer tokens are left; or no more
abbrev pub MayBelow : {N : Type 0} → (N → Stream → Type 0) → N → Stream → Type 0
MayBelow may n old = (ts : Stream) → left ts < left old → may n ts

abbrev pub MayHere : {N : Type 0} → (N → Stream → Type 0) → N → Stream → Type 0
MayHere may n old = (ts : Stream) → left ts ≤ left old → may n ts

-- the view of a value that is its own tree
abbrev pub itself : Syntax → Syntax
itself s = s

-- at the end of a group or stream: no tokens are left; or some are, so a form that must end there reads nothing
abbrev pub Finished : {X E : Type 0} → (E → Type 0) → Stream → Result X E → Type 0
Finished refusal ts (Ok x) = ts ≡ end
Finished refusal ts (Err e) = refusal e × ((p : Out) → only (is_end ts) p ≡ None)

-- the returned value has this property, or the call failed for another reason than a refusal: memory was short, or the nesting too deep
abbrev pub OrMemory : {X E : Type 0} → (E → Type 0) → Result X E → (X → Type 0) → Type 0
OrMemory refusal (Ok x) P = P x
OrMemory refusal (Err e) P = refusal e → ⊥

-- never an error of this kind
abbrev pub Never : {X E : Type 0} → (E → Type 0) → Result X E → Type 0
Never kind (Ok x) = Unit {0}
Never kind (Err e) = kind e → ⊥

-- FOR CALLERS, in the terms of the grammar

-- the form reads a tree whose value is this
abbrev pub DerivesValue : Grammar → Syntax → Stream → Stream → Type 0
DerivesValue g s old new = (t : Syntax) × DerivesPrefix table g t old new × (value_of t ≡ s)

-- the form reads no tree here
abbrev pub NotDerived : Grammar → Stream → Type 0
NotDerived g ts = (s : Syntax) (r : Stream) → DerivesPrefix table g s ts r → ⊥

-- on visible streams the computed result of the form is exactly what it reads
abbrev pub Meaning : Grammar → Type 0
Meaning g = (ts : Stream) → visible ts ≡ true →
    ((s : Syntax) (r : Stream) → (parse_form g ts ≡ Some (s, r)) ↔ DerivesValue g s ts r) × ((parse_form g ts ≡ None) ↔ NotDerived g ts)

-- on visible streams a success is a reading, and after a refusal there is no reading; after an error the stream is unchanged
abbrev pub Outcome : {X E : Type 0} → (E → Type 0) → (X → Syntax) → Grammar → Stream → Result X E → Stream → Type 0
Outcome refusal view g old (Ok x) new = visible old ≡ true → DerivesValue g (view x) old new
Outcome refusal view g old (Err e) new = (new ≡ old) × (visible old ≡ true → refusal e → NotDerived g old)

-- the rule doesn't derive the whole stream
abbrev pub Refused : Rule → Stream → Type 0
Refused k ts = (s : Syntax) → Derives k ts s → ⊥

-- the form reads the whole stream as a tree whose value is this
abbrev pub DerivesWholeValue : Grammar → Syntax → Stream → Type 0
DerivesWholeValue g s ts = DerivesValue g s ts end

abbrev pub NotDerivedWhole : Grammar → Stream → Type 0
NotDerivedWhole g ts = (s : Syntax) → DerivesPrefix table g s ts end → ⊥

-- the same for a whole stream
abbrev pub WholeOutcome : {X E : Type 0} → (E → Type 0) → (X → Syntax) → Grammar → Stream → Result X E → Type 0
WholeOutcome refusal view g ts (Ok x) = visible ts ≡ true → DerivesWholeValue g (view x) ts
WholeOutcome refusal view g ts (Err e) = visible ts ≡ true → refusal e → NotDerivedWhole g ts

-- FOR A LOOP: a row of members equals one step, then a row
pub record IsRow (p : Parser) : Type 0 where
  pub is : (ts : Stream) → rows p ts ≡ row_step p (rows p) ts
