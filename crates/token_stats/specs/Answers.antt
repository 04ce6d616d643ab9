-- WHAT THE PROGRAM COUNTS.
use Rattle.std.specs.Prelude.{◌≡◌, ℕ, List, Option, IfSome}
use Rattle.syn_grammar.specs.Tokens.{Stream}
use Rattle.syn_reader.specs.Spelling.{Spells}

-- the text is all that the reader had to give, where it is known what that is
abbrev pub IsRead : Option (List ℕ) → List ℕ → Type 0
IsRead known text = IfSome known (λ bytes. text ≡ bytes)

-- the text spells some stream
abbrev pub HasTokens : List ℕ → Type 0
HasTokens text = (stream : Stream) × Spells text stream

-- a text was read that spells some stream
abbrev pub IsCounted : Option (List ℕ) → Type 0
IsCounted known = (text : List ℕ) × IsRead known text × HasTokens text
