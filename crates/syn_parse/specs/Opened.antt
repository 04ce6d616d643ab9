-- A group's delimiters and its content.
use Rattle.std.specs.Prelude.{◌≡◌, Option, Some, None, Result, Ok, Err}
use Rattle.syn_grammar.specs.Tokens.{Stream}
use Rattle.syn_grammar.specs.Take.{Opened}
use Rattle.syn_tokens.specs.Spans.{at}
use Rattle.syn_tokens.specs.declared.token.delimiters.Delimiters.{Delimiters}

-- the group that is next, with its delimiters and its content; or there is none
abbrev pub ComputesOpened : {K E : Type 0} → (E → Type 0) → Option Opened → Result (Delimiters K × Stream) E → Stream → Type 0
ComputesOpened refusal out (Ok p) new = out ≡ Some (record { opening = at p.0.opening; closing = at p.0.closing; content = p.1; rest = new })
ComputesOpened refusal out (Err e) new = refusal e → out ≡ None

abbrev pub content_of : Option Opened → Option Stream
content_of (Some g) = Some g.content
content_of None = None
