-- Token trees that are being built.
use Rattle.std.specs.Prelude.{◌≡◌, ◌<◌, ◌≤◌, ℕ, List, [], ◌∷◌, ◌++◌, length}
use Rattle.syn_tokens.specs.Spans.{at}
use Rattle.syn_tokens.specs.Delimiters.{delimiter_of}
use Rattle.syn_grammar.specs.Tokens.{Span}
use Rattle.syn_tokens.specs.Faults.{ErrorValue}
use Rattle.syn_tokens.specs.Building.{OpenGroup, unbalanced}
use Rattle.syn_reader.specs.declared.reader.trees.TreeBuilder.{TreeBuilder}
use Rattle.syn_reader.specs.Flat.{Token, opened, flat}
use Rattle.syn_reader.specs.Spelling.{Piece, IsCut, all_tokens}

-- the tokens before the open groups, from the outermost to the innermost, each with the opening delimiter after them
abbrev pub tokens_around : List OpenGroup → List Token
tokens_around [] = []
tokens_around (o ∷ os) = flat o.outer ++ (opened (delimiter_of o.delimiter) (at o.opening) ∷ tokens_around os)

-- all tokens that were added
abbrev pub tokens_so_far : TreeBuilder → List Token
tokens_so_far b = tokens_around b.inner.open_groups ++ flat b.inner.stream

-- the opening delimiters are in a text of so many bytes
abbrev pub AllWithin : ℕ → List OpenGroup → Type 0
AllWithin n [] = Unit {0}
AllWithin n (o ∷ os) = (o.opening.start < o.opening.end) × (o.opening.end ≤ n) × AllWithin n os

-- the text up to byte j is split into pieces whose tokens were added
abbrev pub Builds : List ℕ → TreeBuilder → ℕ → Type 0
Builds text b j = (pieces : List (Piece × Span)) × IsCut text 0 pieces j × (tokens_so_far b ≡ all_tokens pieces) × AllWithin (length text) b.inner.open_groups

-- a group is open, and the fault is at the delimiter of the outermost one
abbrev pub IsOutermost : TreeBuilder → ErrorValue → Type 0
IsOutermost b e = (g : OpenGroup) × (gs : List OpenGroup) × (b.inner.open_groups ≡ g ∷ gs) × (e ≡ unbalanced g.opening)
