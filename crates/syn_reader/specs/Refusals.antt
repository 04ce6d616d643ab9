-- Which texts are refused, with which message and at which position.
use Rattle.std.specs.Prelude.{◌≡◌, ◌≢◌, ◌<◌, ◌≤◌, ℕ, false, true, List, [], ◌∷◌, ◌++◌, drop, length, codes, None}
use Rattle.std.specs.Char.{encode_utf8, is_not_whitespace}
use Rattle.syn_grammar.specs.Tokens.{Span, Delimiter}
use Rattle.syn_tokens.specs.Spans.{at}
use Rattle.syn_tokens.specs.Idents.{may_start}
use Rattle.syn_tokens.specs.Faults.{FaultValue, ErrorValue, syntax_error, too_deep, out_of_memory}
use Rattle.syn_reader.specs.Scanning.{following, literal_from, literal_at, Absent, Unclosed, begins_comment, after_comment}
use Rattle.syn_reader.specs.Flat.{Token, one, punctuation, opened, closed}
use Rattle.syn_reader.specs.Spelling.{Present, IsBlank, Piece, closing, opening_delimiter, closing_delimiter, begins_mark, IsPieceAt, IsCut, all_tokens}

-- THE OPEN GROUPS

-- an opening delimiter, with its span
abbrev pub Opening : Type 0
Opening = Delimiter × Span

-- If the groups `around` are open before these tokens, the innermost first, then each closing delimiter of the tokens matches
-- the innermost open group; and after the tokens the groups `after` are open.
abbrev pub Leaves : List Token → List Opening → List Opening → Type 0
Leaves [] around after = after ≡ around
Leaves (one x s ∷ ts) around after = Leaves ts around after
Leaves (punctuation c j s ∷ ts) around after = Leaves ts around after
Leaves (opened d s ∷ ts) around after = Leaves ts ((d, s) ∷ around) after
Leaves (closed d s ∷ ts) [] after = ⊥
Leaves (closed d s ∷ ts) ((e, o) ∷ around) after = (e ≡ d) × Leaves ts around after

-- The text is read up to byte i: it is split into pieces, whose delimiters match and leave these groups open.
abbrev pub IsReadTo : List ℕ → ℕ → List Opening → Type 0
IsReadTo text i around = (pieces : List (Piece × Span)) × IsCut text 0 pieces i × Leaves (all_tokens pieces) [] around

-- ERRORS

pub data Flaw : Type 0 where
  unexpected : Flaw  -- a character that no piece starts with
  open_literal : Flaw  -- a literal that isn't closed
  open_comment : Flaw  -- a comment that isn't closed
  stray_closing : Flaw  -- a closing delimiter that doesn't match the innermost open group
  open_group : Flaw  -- a group that isn't closed

abbrev pub words_of : Flaw → List ℕ
words_of unexpected = codes "unexpected character"
words_of open_literal = codes "unterminated literal"
words_of open_comment = codes "unterminated comment"
words_of stray_closing = codes "unbalanced group"
words_of open_group = codes "unbalanced group"

-- this character is not the delimiter of a group
abbrev pub NoDelimiter : ℕ → Type 0
NoDelimiter c = (d : Delimiter) → (opening_delimiter d ≢ c ∷ []) × (closing_delimiter d ≢ c ∷ [])

-- this character is not white space, and no identifier, literal, mark or delimiter of a group starts with it, before these; nor
-- a comment, which starts as marks do
abbrev pub BeginsNone : ℕ → List ℕ → Type 0
BeginsNone c cs = (is_not_whitespace c ≡ true) × (may_start c ≡ false) × (literal_from c cs ≡ Absent) × (begins_mark c cs ≡ false) × NoDelimiter c

-- from byte i to byte j is one character, with which no piece starts
abbrev pub IsUnexpected : List ℕ → ℕ → ℕ → Type 0
IsUnexpected text i j = (c : ℕ) × Present text (encode_utf8 c) i j × (cs : List ℕ) × (following text i ≡ c ∷ cs) × BeginsNone c cs

-- a closing delimiter that doesn't match the innermost of these groups, or there is none
abbrev pub NotInnermost : Delimiter → List Opening → Type 0
NotInnermost d [] = Unit {0}
NotInnermost d ((e, o) ∷ around) = e ≢ d

-- No piece starts at byte i, but an unclosed one, or a character that no piece starts with.
abbrev pub IsLexicalFlaw : List ℕ → Flaw → ℕ → ℕ → Type 0
IsLexicalFlaw text unexpected i j = IsUnexpected text i j
IsLexicalFlaw text open_literal i j = literal_at (following text i) ≡ Unclosed
IsLexicalFlaw text open_comment i j = (begins_comment (following text i) ≡ true) × (after_comment (drop 1 (following text i)) ≡ None)
IsLexicalFlaw text stray_closing i j = ⊥
IsLexicalFlaw text open_group i j = ⊥

-- The error is at this span, and all before it is read; a group is unclosed if the whole text is read and it is the outermost
-- open one.
abbrev pub IsFlaw : List ℕ → Flaw → Span → Type 0
IsFlaw text stray_closing s = (d : Delimiter) × (around : List Opening) × IsReadTo text s.start around × IsPieceAt text (closing d) s.start s.stop × NotInnermost d around
IsFlaw text open_group s = (d : Delimiter) × (inner : List Opening) × IsReadTo text (length text) (inner ++ (d, s) ∷ [])
IsFlaw text flaw s = (around : List Opening) × IsReadTo text s.start around × IsLexicalFlaw text flaw s.start s.stop

-- REFUSALS

-- one error at byte i, where a piece should start
abbrev pub IsLexicalFault : List ℕ → ℕ → List FaultValue → Type 0
IsLexicalFault text i (f ∷ []) = ((at f.0).start ≡ i) × (i < (at f.0).stop) × ((at f.0).stop ≤ length text)
    × ((flaw : Flaw) × (f.1 ≡ words_of flaw) × IsLexicalFlaw text flaw i (at f.0).stop)
IsLexicalFault text i _ = ⊥

-- there may be white space before it
abbrev pub FollowsAsFault : List ℕ → ℕ → List FaultValue → Type 0
FollowsAsFault text i (f ∷ fs) = IsBlank text i (at f.0).start × IsLexicalFault text (at f.0).start (f ∷ fs)
FollowsAsFault text i [] = ⊥

-- there is one error in the text, with its message and at its span
abbrev pub IsOneFlaw : List ℕ → List FaultValue → Type 0
IsOneFlaw text [] = ⊥
IsOneFlaw text (f ∷ []) = (flaw : Flaw) × (f.1 ≡ words_of flaw) × IsFlaw text flaw (at f.0)
IsOneFlaw text (f ∷ g ∷ fs) = ⊥

-- memory was refused, or there is such an error
abbrev pub IsRefusal : List ℕ → ErrorValue → Type 0
IsRefusal text out_of_memory = Unit {0}
IsRefusal text (too_deep s) = ⊥
IsRefusal text (syntax_error fs) = IsOneFlaw text fs
