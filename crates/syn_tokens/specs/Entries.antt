-- The entries of a token stream: its tokens and the delimiters of its groups, in order and at every depth.
use Rattle.std.specs.Prelude.{◌≡◌, ℕ, Bool, true, false, List, [], ◌∷◌, ◌++◌, length}
use Rattle.syn_grammar.specs.Tokens as grammar
use Rattle.syn_grammar.specs.Tokens.{Leaf, ident, literal, Stream, end, leaf, punct, group}
use Rattle.syn_grammar.specs.Take as take
use Rattle.syn_tokens.specs.Spans.{at}
use Rattle.syn_tokens.specs.Delimiters.{delimiter_of}
use Rattle.syn_tokens.specs.Punct.{is_joint}
use Rattle.syn_tokens.specs.Literals.{kind_of}
use Rattle.syn_tokens.specs.declared.span.Span.{Span}
use Rattle.syn_tokens.specs.declared.delimiter.Delimiter.{Delimiter}
use Rattle.syn_tokens.specs.declared.delimiter.Delimiter.TheVariants.{Paren, Brace, Bracket, None}
use Rattle.syn_tokens.specs.declared.literal.LitKind.{LitKind}
use Rattle.syn_tokens.specs.declared.literal.LitKind.TheVariants.{Str, ByteStr, CStr, Byte, Char, Int, Float}
use Rattle.syn_tokens.specs.declared.punct.Spacing.{Spacing}
use Rattle.syn_tokens.specs.declared.punct.Spacing.TheVariants.{Joint, Alone}
use Rattle.syn_tokens.specs.declared.stream.entry.Open.{Open}
use Rattle.syn_tokens.specs.declared.stream.entry.Token.{Token as Entry}
use Rattle.syn_tokens.specs.declared.stream.entry.Token.TheVariants as E

-- TERMS OF THE GRAMMAR, as the types of this crate represent them

abbrev pub from : grammar.Span → Span
from s = record { start = s.start; end = s.stop }

abbrev pub spacing_from : Bool → Spacing
spacing_from true = Joint
spacing_from false = Alone

abbrev pub delimiter_from : grammar.Delimiter → Delimiter
delimiter_from grammar.Paren = Paren
delimiter_from grammar.Brace = Brace
delimiter_from grammar.Bracket = Bracket
delimiter_from grammar.None = None

abbrev pub kind_from : grammar.LitKind → LitKind
kind_from grammar.Str = Str
kind_from grammar.ByteStr = ByteStr
kind_from grammar.CStr = CStr
kind_from grammar.Byte = Byte
kind_from grammar.Char = Char
kind_from grammar.Int = Int
kind_from grammar.Float = Float

abbrev pub leaf_entry : Leaf → grammar.Span → Entry
leaf_entry (ident x) sp = E.Ident (record { text = x; span = from sp })
leaf_entry (literal k x) sp = E.Literal (record { kind = kind_from k; text = x; span = from sp })

abbrev pub punct_entry : ℕ → Bool → grammar.Span → Entry
punct_entry c j sp = E.Punct (record { character = c; spacing = spacing_from j; span = from sp })

-- an opening delimiter, with the number of entries before its closing delimiter
abbrev pub open_entry : grammar.Delimiter → grammar.Span → ℕ → Entry
open_entry d o skip = E.Open (record { delimiter = delimiter_from d; span = from o; skip = skip })

-- a closing delimiter, with the number of trees after its opening delimiter
abbrev pub close_entry : grammar.Delimiter → grammar.Span → ℕ → Entry
close_entry d c trees = E.Close (record { delimiter = delimiter_from d; span = from c; trees = trees })

-- the span of an entry
abbrev pub entry_span : Entry → Span
entry_span (E.Ident i) = i.span
entry_span (E.Literal l) = l.span
entry_span (E.Punct p) = p.span
entry_span (E.Open o) = o.span
entry_span (E.Close c) = c.span

-- THE ENTRIES OF A STREAM
abbrev pub encode : Stream → List Entry
encode end = []
encode (leaf x sp m) = leaf_entry x sp ∷ encode m
encode (punct c j sp m) = punct_entry c j sp ∷ encode m
encode (group d o c i m) = open_entry d o (length (encode i)) ∷ (encode i ++ close_entry d c (take.length i) ∷ encode m)

-- THE STREAM OF ENTRIES, from the last to the first

-- the trees before the next unmatched delimiter; for each closing delimiter of this kind its span and the trees after it; for
-- each opening delimiter of this kind the delimiter and the trees after it
pub record State : Type 0 where
  pub trees : Stream
  pub outer : List (grammar.Span × Stream)
  pub opened : List (Open × Stream)

abbrev pub step : Entry → State → State
step (E.Ident i) s = record s { trees = leaf (ident i.text) (at i.span) s.trees }
step (E.Literal l) s = record s { trees = leaf (literal (kind_of l.kind) l.text) (at l.span) s.trees }
step (E.Punct p) s = record s { trees = punct p.character (is_joint p.spacing) (at p.span) s.trees }
step (E.Close c) s = record s { trees = end; outer = (at c.span, s.trees) ∷ s.outer }
step (E.Open o) s = elim s.outer [
  | [] ↦ record s { trees = end; opened = (o, s.trees) ∷ s.opened }
  | p ∷ ps ↦ record s { trees = group (delimiter_of o.delimiter) (at o.span) p.0 s.trees p.1; outer = ps }
]

abbrev pub states : List Entry → State
states [] = record { trees = end; outer = []; opened = [] }
states (e ∷ es) = step e (states es)

abbrev pub decode : List Entry → Stream
decode es = (states es).trees

-- these are the entries of a stream of so many trees: each opening delimiter says where its closing delimiter is
pub record IsFlat (es : List Entry) (trees : ℕ) : Type 0 where
  pub encoded : es ≡ encode (decode es)
  pub counted : trees ≡ take.length (decode es)

-- a token, not a delimiter of a group
abbrev pub IsToken : Entry → Type 0
IsToken (E.Open o) = ⊥
IsToken (E.Close c) = ⊥
IsToken _ = Unit {0}
