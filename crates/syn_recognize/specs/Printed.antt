-- WHAT CALLERS ARE PROMISED: the shown and the printed tokens, the printed ones alone, or neither.
use Rattle.std.specs.Prelude.{◌≡◌, Some, None, Result, Ok, Err}
use Rattle.syn_grammar.specs.Tokens.{Stream}
use Rattle.syn_grammar.specs.Rules.{Rule}
use Rattle.syn_grammar.specs.Grammar.{Syntax, show, print}
use Rattle.syn_grammar.specs.Run.{parse_rule}
use Rattle.syn_recognize.specs.declared.reading.ShownAndPrinted.{ShownAndPrinted}

-- the result of a rule: the tokens left, the shown ones, and the printed ones
abbrev pub ShowsAndPrints : {E : Type 0} → (E → Type 0) → Rule → Stream → Result ShownAndPrinted E → Stream → Type 0
ShowsAndPrints refusal k ts (Ok tokens) r = (s : Syntax) × (parse_rule k ts ≡ Some (s, r)) × (tokens.shown ≡ show s) × (tokens.printed ≡ print s)
ShowsAndPrints refusal k ts (Err e) r = refusal e → parse_rule k ts ≡ None

-- the result of a rule: the tokens left, and the shown ones
abbrev pub Shows : {E : Type 0} → (E → Type 0) → Rule → Stream → Result Stream E → Stream → Type 0
Shows refusal k ts (Ok tokens) r = (s : Syntax) × (parse_rule k ts ≡ Some (s, r)) × (tokens ≡ show s)
Shows refusal k ts (Err e) r = refusal e → parse_rule k ts ≡ None

-- the result of a rule: the tokens left, and the printed ones
abbrev pub Prints : {E : Type 0} → (E → Type 0) → Rule → Stream → Result Stream E → Stream → Type 0
Prints refusal k ts (Ok tokens) r = (s : Syntax) × (parse_rule k ts ≡ Some (s, r)) × (tokens ≡ print s)
Prints refusal k ts (Err e) r = refusal e → parse_rule k ts ≡ None

-- whether a rule reads something, and the tokens left
abbrev pub ReadsBy : {E : Type 0} → (E → Type 0) → Rule → Stream → Result (Unit {0}) E → Stream → Type 0
ReadsBy refusal k ts (Ok x) r = (s : Syntax) × (parse_rule k ts ≡ Some (s, r))
ReadsBy refusal k ts (Err e) r = refusal e → parse_rule k ts ≡ None
