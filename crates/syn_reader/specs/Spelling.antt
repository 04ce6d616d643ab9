-- The token stream of a text.
use Rattle.std.specs.Prelude.{◌≡◌, ◌<◌, ◌≤◌, ℕ, ◌+◌, Bool, true, false, not, ◌&&◌, ◌==◌, List, [], ◌∷◌, ◌++◌, drop, length, codes, if◌then◌else◌, Some}
use Rattle.std.specs.Str.{NoCharPasses, chars}
use Rattle.std.specs.Char.{encode_utf8, is_not_whitespace}
use Rattle.syn_grammar.specs.Tokens.{Span, Delimiter, Paren, Brace, Bracket, None, ident, literal, Str, Stream, is_visible}
use Rattle.syn_tokens.specs.Spans.{at}
use Rattle.syn_tokens.specs.Idents.{may_start, is_identifier}
use Rattle.syn_tokens.specs.Punct.{is_punct_character}
use Rattle.syn_tokens.specs.Literals.{kind_of}
use Rattle.syn_tokens.specs.Faults.{FaultValue, ErrorValue, syntax_error, too_deep, out_of_memory}
use Rattle.syn_tokens.specs.declared.literal.LitKind.{LitKind}
use Rattle.syn_reader.specs.Scanning.{following, first_passes, Absent, Scanned, literal_at, after_word, begins_comment, after_comment}
use Rattle.syn_reader.specs.Docs.{IsDoc, IsNoDoc, quoted}
use Rattle.syn_reader.specs.Flat.{Token, one, punctuation, opened, closed, flat}

-- the first character of the bytes passes the test; false if there is none
abbrev pub begins_by : (ℕ → Bool) → List ℕ → Bool
begins_by test bytes = first_passes test (chars bytes)

-- these bytes are the text from byte i to byte j
pub record Present (text bytes : List ℕ) (i j : ℕ) : Type 0 where
  pub split : drop i text ≡ bytes ++ drop j text
  pub ends : j ≡ i + length bytes

-- the text from byte i to byte j is white space or empty
abbrev pub IsBlank : List ℕ → ℕ → ℕ → Type 0
IsBlank text i j = (space : List ℕ) × NoCharPasses is_not_whitespace space × Present text space i j

abbrev pub opening_delimiter : Delimiter → List ℕ
opening_delimiter Paren = codes "("
opening_delimiter Brace = codes "{"
opening_delimiter Bracket = codes "["
opening_delimiter None = []

abbrev pub closing_delimiter : Delimiter → List ℕ
closing_delimiter Paren = codes ")"
closing_delimiter Brace = codes "}"
closing_delimiter Bracket = codes "]"
closing_delimiter None = []

-- A piece of a text.
pub data Piece : Type 0 where
  word : List ℕ → Piece  -- an identifier
  constant : LitKind → List ℕ → Piece  -- a literal
  mark : ℕ → Bool → Piece  -- a character of a mark, joint (true) or alone (false)
  opening : Delimiter → Piece
  closing : Delimiter → Piece
  comment : List ℕ → Piece  -- a comment that is not a doc comment
  doc : List ℕ → Bool → List ℕ → Piece  -- a doc comment, whether it is inside the item that it documents, and its content

-- its bytes
abbrev pub bytes_of : Piece → List ℕ
bytes_of (word x) = x
bytes_of (constant k x) = x
bytes_of (mark c joint) = encode_utf8 c
bytes_of (opening d) = opening_delimiter d
bytes_of (closing d) = closing_delimiter d
bytes_of (comment x) = x
bytes_of (doc x inner said) = x

-- a mark's character is joint if another follows directly, unless that starts a comment; the `'` of a lifetime always is
abbrev pub joint_before : ℕ → List ℕ → Bool
joint_before c rest = if c == 39 then first_passes may_start rest else first_passes is_punct_character rest && not (begins_comment rest)

-- a mark starts with this character, before these: any character of marks, but `'` only before an identifier (a lifetime)
abbrev pub begins_mark : ℕ → List ℕ → Bool
begins_mark c rest = if c == 39 then first_passes may_start rest else is_punct_character c

-- a comment from byte i to byte j
abbrev pub IsComment : List ℕ → ℕ → ℕ → Type 0
IsComment text i j = (begins_comment (following text i) ≡ true) × (after_comment (drop 1 (following text i)) ≡ Some (following text j))

-- the conditions on a piece from byte i to byte j, apart from its bytes: it is neither too short nor too long
abbrev pub IsWhole : List ℕ → Piece → ℕ → ℕ → Type 0
IsWhole text (word x) i j = (is_identifier x ≡ true) × (literal_at (following text i) ≡ Absent)
    × ((c : ℕ) × (rest : List ℕ) × (following text i ≡ c ∷ rest) × (following text j ≡ after_word c rest))
IsWhole text (constant k x) i j = literal_at (following text i) ≡ Scanned k (following text j)
IsWhole text (mark c joint) i j = (begins_mark c (following text j) ≡ true) × (begins_comment (following text i) ≡ false) × (literal_at (following text i) ≡ Absent)
    × (joint ≡ joint_before c (following text j))
IsWhole text (opening d) i j = is_visible d ≡ true
IsWhole text (closing d) i j = is_visible d ≡ true
IsWhole text (comment x) i j = IsComment text i j × IsNoDoc x
IsWhole text (doc x inner said) i j = IsComment text i j × IsDoc x inner said

-- the piece is there, and is not empty
abbrev pub IsPieceAt : List ℕ → Piece → ℕ → ℕ → Type 0
IsPieceAt text p i j = Present text (bytes_of p) i j × (i < j) × IsWhole text p i j

-- the tokens of `#[doc = ".."]`, or of `#![doc = ".."]`, all with the span of the comment
abbrev pub doc_tokens : Bool → List ℕ → Span → List Token
doc_tokens inner said s =
    (punctuation 35 false s ∷ (if inner then punctuation 33 false s ∷ [] else []))
    ++ (opened Bracket s ∷ one (ident (codes "doc")) s ∷ punctuation 61 false s ∷ one (literal Str (quoted (chars said))) s ∷ closed Bracket s ∷ [])

-- the tokens that it represents
abbrev pub tokens_of : Piece → Span → List Token
tokens_of (word x) s = one (ident x) s ∷ []
tokens_of (constant k x) s = one (literal (kind_of k) x) s ∷ []
tokens_of (mark c joint) s = punctuation c joint s ∷ []
tokens_of (opening d) s = opened d s ∷ []
tokens_of (closing d) s = closed d s ∷ []
tokens_of (comment x) s = []
tokens_of (doc x inner said) s = doc_tokens inner said s

-- The text from byte i to byte j is split into pieces with white space between them, each with its span.
abbrev pub IsCut : List ℕ → ℕ → List (Piece × Span) → ℕ → Type 0
IsCut text i [] j = IsBlank text i j
IsCut text i ((p, s) ∷ ps) j = IsBlank text i s.start × IsPieceAt text p s.start s.stop × IsCut text s.stop ps j

abbrev pub all_tokens : List (Piece × Span) → List Token
all_tokens [] = []
all_tokens ((p, s) ∷ ps) = tokens_of p s ++ all_tokens ps

-- the whole text is split into pieces, whose tokens are those of the stream
abbrev pub Spells : List ℕ → Stream → Type 0
Spells text stream = (pieces : List (Piece × Span)) × IsCut text 0 pieces (length text) × (flat stream ≡ all_tokens pieces)

-- there is one fault, whose span is not empty and in a text of so many bytes
abbrev pub IsOneWithin : ℕ → List FaultValue → Type 0
IsOneWithin n [] = ⊥
IsOneWithin n (f ∷ []) = ((at f.0).start < (at f.0).stop) × ((at f.0).stop ≤ n)
IsOneWithin n (f ∷ g ∷ fs) = ⊥

-- memory was refused, or there is such a fault
abbrev pub IsFaultWithin : ℕ → ErrorValue → Type 0
IsFaultWithin n out_of_memory = Unit {0}
IsFaultWithin n (too_deep s) = ⊥
IsFaultWithin n (syntax_error fs) = IsOneWithin n fs
