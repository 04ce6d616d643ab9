-- The positions of the open groups of a builder.
use Rattle.std.specs.Prelude.{◌≡◌, ℕ, ◌+◌, ◌≤◌, List, [], ◌∷◌, length, take}
use Rattle.syn_grammar.specs.Take as grammar
use Rattle.syn_grammar.specs.Tokens.{Stream}
use Rattle.syn_tokens.specs.Entries.{encode, IsFlat}
use Rattle.syn_tokens.specs.Building.{OpenGroup, laid, groups_in, stream_in}
use Rattle.syn_tokens.specs.declared.stream.entry.Token.{Token as Entry}
use Rattle.syn_tokens.specs.declared.stream.builder.Pending.{Pending}

-- an open group that follows so many entries
abbrev pub pending : ℕ → OpenGroup → Pending
pending n g = record { delimiter = g.delimiter; opening = g.opening; at = n; trees = grammar.length g.outer }

-- the open groups of entries that begin at this position
abbrev pub places : ℕ → List OpenGroup → List Pending
places n [] = []
places n (g ∷ gs) = pending (n + length (encode g.outer)) g ∷ places (n + length (encode g.outer) + 1) gs

-- the state of a builder: these entries, these open groups, and so many trees in the innermost of them
pub record IsBuilt (es : List Entry) (ps : List Pending) (trees : ℕ) : Type 0 where
  pub encoded : es ≡ laid (groups_in es) (stream_in es)
  pub placed : ps ≡ places 0 (groups_in es)
  pub counted : trees ≡ grammar.length (stream_in es)

-- the entries that are in no open group
abbrev pub front : List OpenGroup → Stream → Stream
front [] s = s
front (g ∷ gs) s = g.outer

-- the first `n` of these entries are those of a stream of so many trees, and are in no open group
pub record IsBegun (n trees : ℕ) (es : List Entry) : Type 0 where
  pub flat : IsFlat (take n es) trees
  pub within : n ≤ length (encode (front (groups_in es) (stream_in es)))
