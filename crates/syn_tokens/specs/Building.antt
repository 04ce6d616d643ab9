-- Token streams that are being built.
use Rattle.std.specs.Prelude.{◌≡◌, ℕ, Bool, true, false, List, [], ◌∷◌, ◌++◌, take, codes, refl}
use Rattle.std.specs.Coded.{Coded, code_by, coded×, coded_list}
use Rattle.syn_grammar.specs.Tokens as grammar
use Rattle.syn_grammar.specs.Tokens.{Stream, end, group, ◌⧺◌}
use Rattle.syn_grammar.specs.Codes.{stream_code}
use Rattle.syn_tokens.specs.Spans.{at}
use Rattle.syn_tokens.specs.Delimiters.{delimiter_of}
use Rattle.syn_tokens.specs.Faults.{ErrorValue, syntax_error, too_deep, out_of_memory}
use Rattle.syn_tokens.specs.Entries.{encode, decode, states, from, delimiter_from}
use Rattle.syn_tokens.specs.declared.span.Span.{Span}
use Rattle.syn_tokens.specs.contracts.span.Span as span
use Rattle.syn_tokens.specs.declared.delimiter.Delimiter.{Delimiter}
use Rattle.syn_tokens.specs.contracts.delimiter.Delimiter as delimiter
use Rattle.syn_tokens.specs.declared.stream.entry.Open.{Open}
use Rattle.syn_tokens.specs.declared.stream.entry.Token.{Token as Entry}
use Rattle.syn_tokens.specs.declared.stream.entry.Token.TheVariants as E

-- a group that is not closed yet
pub record OpenGroup : Type 0 where
  pub delimiter : Delimiter
  pub opening : Span
  pub outer : Stream  -- the trees before it in the enclosing group, or in the whole stream

-- what it began with, and what is there now
pub record Building : Type 0 where
  pub before : Stream
  pub open_groups : List OpenGroup  -- from the outermost to the innermost
  pub stream : Stream  -- the trees so far in the innermost open group, or in the whole stream

abbrev pub coded_group : Coded OpenGroup
coded_group = code_by (Delimiter × (Span × Stream)) (coded× delimiter.the_row.coded (coded× span.the_row.coded stream_code)) (λ g. (g.delimiter, (g.opening, g.outer))) (λ p. record { delimiter = p.0; opening = p.1.0; outer = p.1.1 }) (λ _. refl)

abbrev pub coded_building : Coded Building
coded_building = code_by (Stream × (List OpenGroup × Stream)) (coded× stream_code (coded× (coded_list coded_group) stream_code)) (λ b. (b.before, (b.open_groups, b.stream))) (λ p. record { before = p.0; open_groups = p.1.0; stream = p.1.1 }) (λ _. refl)

-- THE ENTRIES SO FAR

-- the opening delimiter of a group that is still open: the position of its closing delimiter isn't known yet
abbrev pub open_delimiter : OpenGroup → Entry
open_delimiter g = E.Open (record { delimiter = g.delimiter; span = g.opening; skip = 0 })

abbrev pub laid : List OpenGroup → Stream → List Entry
laid [] s = encode s
laid (g ∷ gs) s = encode g.outer ++ open_delimiter g ∷ laid gs s

-- the open groups, from the trees before the first of them and from the content of each
abbrev pub groups : Stream → List (Open × Stream) → List OpenGroup
groups s [] = []
groups s (p ∷ ps) = record { delimiter = p.0.delimiter; opening = p.0.span; outer = s } ∷ groups p.1 ps

-- the content of the innermost
abbrev pub content : Stream → List (Open × Stream) → Stream
content s [] = s
content s (p ∷ ps) = content p.1 ps

abbrev pub groups_in : List Entry → List OpenGroup
groups_in es = groups (states es).trees (states es).opened

abbrev pub stream_in : List Entry → Stream
stream_in es = content (states es).trees (states es).opened

-- the state of a builder that began with the first `n` of these entries
abbrev pub building : ℕ → List Entry → Building
building n es = record { before = decode (take n es); open_groups = groups_in es; stream = stream_in es }

-- WHAT CALLS DO

-- the innermost open group is closed, and becomes a tree of the enclosing group
pub record Closes (delimiter : Delimiter) (closing : Span) (old new : Building) : Type 0 where
  pub around : List OpenGroup
  pub innermost : OpenGroup
  pub was : old.open_groups ≡ around ++ innermost ∷ []
  pub delimits : innermost.delimiter ≡ delimiter
  pub is : new ≡ record old { open_groups = around; stream = innermost.outer ⧺ group (delimiter_of delimiter) (at innermost.opening) (at closing) old.stream end }

-- the innermost open group has another delimiter, or no group is open
abbrev pub NotOpen : Delimiter → Building → Type 0
NotOpen d b = (around : List OpenGroup) (g : OpenGroup) → b.open_groups ≡ around ++ g ∷ [] → g.delimiter ≡ d → ⊥

abbrev pub unbalanced : Span → ErrorValue
unbalanced s = syntax_error ((s, codes "unbalanced group") ∷ [])

-- memory was refused, or a delimiter there closes no group, for this reason
abbrev pub IsUnbalanced : Span → Type 0 → ErrorValue → Type 0
IsUnbalanced s reason out_of_memory = Unit {0}
IsUnbalanced s reason (too_deep t) = ⊥
IsUnbalanced s reason (syntax_error fs) = (syntax_error fs ≡ unbalanced s) × reason

-- WHAT PRINTS DO, in definitions that a proof unfolds where it needs to

-- these trees were added
unfoldable pub added : Building → Stream → Building
added b s = record b { stream = b.stream ⧺ s }

-- inside of a new group
unfoldable pub into_group : grammar.Delimiter → grammar.Span → Building → Building
into_group d o b = record b { open_groups = b.open_groups ++ record { delimiter = delimiter_from d; opening = from o; outer = b.stream } ∷ []; stream = end }

-- the last of these groups, and those around it
abbrev pub innermost : OpenGroup → List OpenGroup → OpenGroup
innermost g [] = g
innermost g (h ∷ hs) = innermost h hs

abbrev pub around : OpenGroup → List OpenGroup → List OpenGroup
around g [] = []
around g (h ∷ hs) = g ∷ around h hs

-- a group is open
abbrev pub is_open_in : List OpenGroup → Bool
is_open_in [] = false
is_open_in (g ∷ gs) = true

unfoldable pub is_open : Building → Bool
is_open b = is_open_in b.open_groups

-- outside of the innermost open group, which ends here and becomes a tree of the enclosing group
abbrev pub closed_in : Stream → List OpenGroup → grammar.Span → Stream → Building
closed_in before [] c s = record { before = before; open_groups = []; stream = s }
closed_in before (g ∷ gs) c s =
    let i = innermost g gs in
    record { before = before; open_groups = around g gs; stream = i.outer ⧺ group (delimiter_of i.delimiter) (at i.opening) c s end }

unfoldable pub out_of_group : grammar.Span → Building → Building
out_of_group c b = closed_in b.before b.open_groups c b.stream
