-- WHAT FOLLOWS A PLAN PROMISES: a member or an item of a kind of its own, or that the plan has come to where it is known that all is kept as
-- tokens.
use Rattle.std.specs.Prelude.{◌≡◌, Bool, true, false, Option, Some, None, Result, Ok, Err}
use Rattle.syn_grammar.specs.Tokens.{Stream}
use Rattle.syn_grammar.specs.Rules.{Rule}
use Rattle.syn_grammar.specs.Grammar.{Syntax}
use Rattle.syn_grammar.specs.Take.{Out, before}
use Rattle.syn_grammar.specs.Plan.{kept_as}

-- what is read, if anything, is kept verbatim, of this rule and from this stream on
abbrev pub OnlyKept : Rule → Stream → Out → Type 0
OnlyKept k ts (Some p) = p.0 ≡ kept_as k ts p.1
OnlyKept k ts None = Unit {0}

-- Where a plan continues from a place, with what it reads from there: this value's tree and this rest; or nothing is known but that all is kept
-- as tokens; or it reads nothing.
abbrev pub Follows : {X E : Type 0} → (E → Type 0) → (X → Syntax) → Rule → Stream → Out → Result (Option X) E → Stream → Type 0
Follows refusal view k ts out (Ok (Some x)) new = out ≡ Some (view x, new)
Follows refusal view k ts out (Ok None) new = OnlyKept k ts out
Follows refusal view k ts out (Err e) new = refusal e → out ≡ None

-- The tokens from one stream to another, where the rule reads from the one to the other.
abbrev pub CopiesBy : {E : Type 0} → (E → Type 0) → Out → Stream → Result Stream E → Stream → Type 0
CopiesBy refusal out ts (Ok tokens) new = (s : Syntax) × (out ≡ Some (s, new)) × (tokens ≡ before ts new)
CopiesBy refusal out ts (Err e) new = refusal e → out ≡ None

-- something is read, or nothing
abbrev pub IsRead : Bool → Out → Type 0
IsRead true out = (p : Syntax × Stream) × (out ≡ Some p)
IsRead false out = out ≡ None
