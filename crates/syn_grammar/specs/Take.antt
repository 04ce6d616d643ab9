-- READING FROM THE FRONT OF A STREAM, a token or a group at a time. The computed reading accesses streams only by these functions.
use Rattle.std.specs.Prelude.{ℕ, zero, suc, ◌-◌, Bool, true, false, List, [], ◌∷◌, nat_eq, nat_lt, Option, Some, None}
use Rattle.syn_grammar.specs.Words.{Text}
use Rattle.syn_grammar.specs.Tokens.{Span, Delimiter, delimiter_number, ident, Stream, end, leaf, punct, group, weight, Lookahead, Look, answers, lookahead}
use Rattle.syn_grammar.specs.Grammar.{Kind, fits, Syntax, Token, Mark, Lifetime}

-- the value that was read, and the rest
abbrev pub Out : Type 0
Out = Option (Syntax × Stream)

-- a parser, as a function: from a stream to a value and a rest, or none
abbrev pub Parser : Type 0
Parser = Stream → Out

-- this result, if a condition holds
abbrev pub only : {A : Type 0} → Bool → Option A → Option A
only true p = p
only false p = None

-- how many tokens are left, at every depth; a group's two delimiters count as one
unfoldable pub left : Stream → ℕ
left ts = weight ts

-- no tokens are left
unfoldable pub is_end : Stream → Bool
is_end end = true
is_end _ = false

-- the lookahead of the stream
unfoldable pub lookahead_at : Stream → Lookahead
lookahead_at ts = lookahead ts

-- the look holds of the next token
unfoldable pub sees : Look → Stream → Bool
sees c ts = answers c (lookahead_at ts)

-- one token of this kind
unfoldable pub take_token : Kind → Parser
take_token k (leaf x sp r) = only (fits k x) (Some (Token x sp, r))
take_token k _ = None

-- a lifetime
unfoldable pub take_lifetime : Parser
take_lifetime (punct c true sp (leaf (ident x) sq r)) = only (nat_eq c 39) (Some (Lifetime sp x sq, r))
take_lifetime _ = None

-- the characters of a mark, and the rest
abbrev pub Chars : Type 0
Chars = Option (List (ℕ × Span) × Stream)

-- one character that is joined to the next one
abbrev pub add_char : ℕ → Span → Chars → Chars
add_char c sp (Some p) = Some ((c, sp) ∷ p.0, p.1)
add_char c sp None = None

-- these characters, all but the last Joint
abbrev pub take_chars : Text → Stream → Chars
take_chars [] ts = None
take_chars (c ∷ []) (punct d j sp r) = only (nat_eq d c) (Some ((d, sp) ∷ [], r))
take_chars (c ∷ []) _ = None
take_chars (c ∷ e ∷ l) (punct d true sp r) = only (nat_eq d c) (add_char d sp (take_chars (e ∷ l) r))
take_chars (c ∷ e ∷ l) _ = None

-- a mark of these characters
abbrev pub marked : Chars → Out
marked (Some p) = Some (Mark p.0, p.1)
marked None = None

-- a mark: its characters, all but the last Joint; the spacing of the last doesn't matter
unfoldable pub take_mark : Text → Parser
take_mark cs ts = marked (take_chars cs ts)

-- a group that was opened: the spans of its delimiters, its content, and the rest after it
pub record Opened : Type 0 where
  pub opening : Span
  pub closing : Span
  pub content : Stream
  pub rest : Stream

abbrev pub same_delimiter : Delimiter → Delimiter → Bool
same_delimiter a b = nat_eq (delimiter_number a) (delimiter_number b)

-- a group with this delimiter
unfoldable pub take_group : Delimiter → Stream → Option Opened
take_group d (group d' o c i r) = only (same_delimiter d d') (Some (record { opening = o; closing = c; content = i; rest = r }))
take_group d _ = None

-- the number of token trees
abbrev pub length : Stream → ℕ
length end = 0
length (leaf x sp m) = suc (length m)
length (punct c j sp m) = suc (length m)
length (group d o c i m) = suc (length m)

-- the first n token trees
abbrev pub first : ℕ → Stream → Stream
first zero ts = end
first (suc n) end = end
first (suc n) (leaf x sp m) = leaf x sp (first n m)
first (suc n) (punct c j sp m) = punct c j sp (first n m)
first (suc n) (group d o c i m) = group d o c i (first n m)

-- the tokens of a stream before its rest
unfoldable pub before : Stream → Stream → Stream
before ts r = first (length ts - length r) ts

-- the span of an identifier or a literal at the front
abbrev pub leaf_span : Stream → Option Span
leaf_span (leaf x sp m) = Some sp
leaf_span _ = None

-- the span of the token at the front, provided that it is before the rest r
unfoldable pub first_span : Stream → Stream → Option Span
first_span ts r = only (nat_lt (left r) (left ts)) (leaf_span ts)

-- at least one token was read
abbrev pub taken : {A : Type 0} → Option A → Bool
taken (Some p) = true
taken None = false
