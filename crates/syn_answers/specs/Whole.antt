-- WHAT IS READ AND PRINTED OF A WHOLE STREAM.
use Rattle.std.specs.Prelude.{◌≡◌, Some, None, Result, Ok, Err}
use Rattle.syn_grammar.specs.Tokens.{Stream, end}
use Rattle.syn_grammar.specs.Rules.{Rule}
use Rattle.syn_grammar.specs.Grammar.{Syntax, print}
use Rattle.syn_grammar.specs.Run.{parse_rule}
use Rattle.syn_recognize.specs.DeferredTokens.{whole_only}

-- the rule reads the whole stream, and p is the print of its tree
abbrev pub IsWholePrint : Rule → Stream → Stream → Type 0
IsWholePrint k ts p = (s : Syntax) × (parse_rule k ts ≡ Some (s, end)) × (p ≡ print s)

abbrev pub WholePrint : {E : Type 0} → (E → Type 0) → Rule → Stream → Result Stream E → Type 0
WholePrint refusal k ts (Ok p) = IsWholePrint k ts p
WholePrint refusal k ts (Err e) = refusal e → whole_only (parse_rule k ts) ≡ None

-- the rule reads the whole stream
abbrev pub IsWhole : Rule → Stream → Type 0
IsWhole k ts = (s : Syntax) × (parse_rule k ts ≡ Some (s, end))

abbrev pub WholeRead : {E : Type 0} → (E → Type 0) → Rule → Stream → Result (Unit {0}) E → Type 0
WholeRead refusal k ts (Ok x) = IsWhole k ts
WholeRead refusal k ts (Err e) = refusal e → whole_only (parse_rule k ts) ≡ None
