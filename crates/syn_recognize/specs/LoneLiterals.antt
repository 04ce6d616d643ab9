-- TREES THAT ARE A SINGLE LITERAL.
use Rattle.std.specs.Prelude.{◌≡◌, ℕ, zero, suc, Bool, true, false, Some, None, Result, Ok, Err}
use Rattle.syn_grammar.specs.Words.{comma, semicolon}
use Rattle.syn_grammar.specs.Tokens.{Stream, ended, at_mark, and, or}
use Rattle.syn_grammar.specs.Grammar.{Syntax, any_literal, show}
use Rattle.syn_grammar.specs.Take.{sees, take_token}
use Rattle.syn_parse.specs.FirstTokens.{at_any_literal}
use Rattle.syn_parse.specs.Peeks.{past}
use Rattle.syn_recognize.specs.declared.reading.ShownAndPrinted.{ShownAndPrinted}

-- the tree ends after the literal: any constant does, and an expression at the end, or before a comma or semicolon
abbrev pub is_over : ℕ → Stream → Bool
is_over zero ts = or (sees ended (past ts)) (or (sees (at_mark comma) (past ts)) (sees (at_mark semicolon) (past ts)))
is_over (suc zero) ts = true
is_over (suc (suc n)) ts = false

-- a literal is next, and is the whole tree
unfoldable pub is_lone_literal : ℕ → Stream → Bool
is_lone_literal n ts = and (sees at_any_literal ts) (is_over n ts)

-- a literal, its shown tokens, and its printed ones
abbrev pub ShowsLiteral : {E : Type 0} → (E → Type 0) → Stream → Result ShownAndPrinted E → Stream → Type 0
ShowsLiteral refusal ts (Ok tokens) r = (s : Syntax) × (take_token any_literal ts ≡ Some (s, r)) × (tokens.shown ≡ show s) × (tokens.printed ≡ show s)
ShowsLiteral refusal ts (Err e) r = refusal e → take_token any_literal ts ≡ None
