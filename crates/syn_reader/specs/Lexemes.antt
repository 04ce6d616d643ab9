-- The pieces of a text, as the lexer returns them.
use Rattle.std.specs.Prelude.{◌≡◌, ◌<◌, ℕ, List, [], ◌∷◌, true, length, Option, Result, IsTrue, MatchOption, MatchResult}
use Rattle.syn_grammar.specs.Tokens.{Span, is_visible}
use Rattle.syn_tokens.specs.declared.span.Span.{Span as LexemeSpan}
use Rattle.syn_tokens.specs.Spans.{at}
use Rattle.syn_tokens.specs.Delimiters.{delimiter_of}
use Rattle.syn_tokens.specs.Punct.{is_joint}
use Rattle.syn_tokens.specs.Idents.{is_identifier}
use Rattle.syn_tokens.specs.Faults.{FaultValue}
use Rattle.syn_reader.specs.declared.reader.lexer.Lexeme.{Lexeme}
use Rattle.syn_reader.specs.declared.reader.lexer.Lexeme.TheVariants.{Open, Close, Ident, Literal, Punct, Comment}
use Rattle.syn_reader.specs.declared.reader.lexer.Lexer.{Lexer}
use Rattle.syn_reader.specs.Spelling.{Present, IsBlank, word, constant, mark, opening, closing, opening_delimiter, closing_delimiter, IsPieceAt, IsComment}
use Rattle.syn_reader.specs.Refusals.{FollowsAsFault}

abbrev pub span_of : Lexeme → Span
span_of (Open d s) = at s
span_of (Close d s) = at s
span_of (Ident x s) = at s
span_of (Literal k x s) = at s
span_of (Punct p) = at p.span
span_of (Comment x s) = at s

-- it is the piece of the text from byte i to byte j
abbrev pub IsCutOut : List ℕ → Lexeme → ℕ → ℕ → Type 0
IsCutOut text (Open d s) i j = IsPieceAt text (opening (delimiter_of d)) i j
IsCutOut text (Close d s) i j = IsPieceAt text (closing (delimiter_of d)) i j
IsCutOut text (Ident x s) i j = IsPieceAt text (word x.now) i j
IsCutOut text (Literal k x s) i j = IsPieceAt text (constant k x.now) i j
IsCutOut text (Punct p) i j = IsPieceAt text (mark p.character (is_joint p.spacing)) i j
IsCutOut text (Comment x s) i j = Present text x.now i j × (i < j) × IsComment text i j

-- and its span says so
abbrev pub IsLexemeFrom : List ℕ → ℕ → Lexeme → ℕ → Type 0
IsLexemeFrom text i l j = IsCutOut text l i j × ((span_of l).start ≡ i) × ((span_of l).stop ≡ j)

-- it is the delimiter of a group that this character denotes, with this span
abbrev pub IsDelimiter : ℕ → LexemeSpan → Lexeme → Type 0
IsDelimiter c s (Open d t) = (opening_delimiter (delimiter_of d) ≡ c ∷ []) × (is_visible (delimiter_of d) ≡ true) × (t ≡ s)
IsDelimiter c s (Close d t) = (closing_delimiter (delimiter_of d) ≡ c ∷ []) × (is_visible (delimiter_of d) ≡ true) × (t ≡ s)
IsDelimiter c s _ = ⊥

-- the text of an identifier is one
abbrev pub IsNamed : Lexeme → Type 0
IsNamed (Ident x s) = IsTrue (is_identifier x.now)
IsNamed _ = Unit {0}

-- there may be white space before it
abbrev pub FollowsAsLexeme : List ℕ → ℕ → Lexeme → ℕ → Type 0
FollowsAsLexeme text i l j = IsBlank text i (span_of l).start × IsLexemeFrom text (span_of l).start l j

-- the result of one step of the lexer: the next lexeme, or the fault there, or none if only white space remains
abbrev pub StepsOver : Lexer → Option (Result Lexeme (List FaultValue)) → Lexer → Type 0
StepsOver old step new = (new.cursor.text ≡ old.cursor.text) × MatchOption step
    (IsBlank old.cursor.text.now old.cursor.offset (length old.cursor.text.now))
    (λ found. MatchResult found (λ l. FollowsAsLexeme old.cursor.text.now old.cursor.offset l new.cursor.offset) (FollowsAsFault old.cursor.text.now old.cursor.offset))
