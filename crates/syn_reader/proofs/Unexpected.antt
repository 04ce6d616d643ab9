-- Characters with which no piece starts, and the delimiters of groups.
use Rattle.std.proofs.Common.{◌≡◌, ◌≢◌, ◌<◌, ◌==◌, ℕ, true, false, List, [], ◌∷◌, codes, refl, sym, ap, ◌∙◌, subst, true≢false, lit<}
use Rattle.std.proofs.lemmas.Bool.{eq-eqb}
use Rattle.std.specs.Prelude.{Result, Ok, Err, IfOk, IfErr, MatchResult}
use Rattle.std.specs.Char.{encode_utf8, is_ascii_digit, is_not_whitespace}
use Rattle.unicode_ident.proofs.IdentLemmas.{is_xid_start-ascii}
use Rattle.syn_grammar.specs.Tokens as grammar
use Rattle.syn_tokens.specs.Idents.{may_start}
use Rattle.syn_tokens.specs.Punct.{is_punct_character}
use Rattle.syn_tokens.specs.Faults.{FaultValue}
use Rattle.syn_tokens.specs.declared.delimiter.Delimiter.TheVariants as D
use Rattle.syn_tokens.specs.declared.literal.LitKind.TheVariants.{Char}
use Rattle.syn_tokens.specs.declared.span.Span.{Span}
use Rattle.syn_reader.specs.declared.reader.cursor.Cursor.{Cursor}
use Rattle.syn_reader.specs.declared.reader.lexer.Lexeme.{Lexeme}
use Rattle.syn_reader.specs.declared.reader.lexer.Lexeme.TheVariants.{Open, Close, Ident, Literal, Punct, Comment}
use Rattle.syn_reader.specs.Places.{left, IsPast}
use Rattle.syn_reader.specs.Scanning.{first_passes, literal_from, lettered, Absent, begins_character}
use Rattle.syn_reader.specs.Spelling.{Present, begins_mark}
use Rattle.syn_reader.specs.Lexemes.{IsDelimiter, IsLexemeFrom}
use Rattle.syn_reader.specs.Refusals.{NoDelimiter, BeginsNone, unexpected, IsLexicalFault}
use Rattle.syn_reader.proofs.Beginnings.{differs, letter_starts}
use Rattle.syn_reader.proofs.Scans.{quote_literal, no_character}
use Rattle.syn_reader.proofs.Spelling.{present_within}

-- the fault at a character with which no piece starts
fault_there : (start next : Cursor) (c : ℕ) (s : Span) (e : List FaultValue) → IsPast c start next → Present start.text.now (encode_utf8 c) start.offset next.offset
    → s ≡ record { start = start.offset; end = next.offset } → e ≡ (s, codes "unexpected character") ∷ [] → BeginsNone c (left next)
    → IsLexicalFault start.text.now start.offset e
fault_there start next c s e past present there is none =
    subst (IsLexicalFault start.text.now start.offset) (sym is)
    (subst (λ (x : Span). IsLexicalFault start.text.now start.offset ((x, codes "unexpected character") ∷ [])) (sym there)
    (refl, past.1, present_within present past.1, (unexpected, refl, (c, present, left next, past.2, none))))

-- QUOTES

other_sign : (a b : ℕ) → (a == b) ≡ false → a ∷ [] ≢ b ∷ []
other_sign a b h e = let same : a ≡ b = cc in true≢false (sym (eq-eqb a b same) ∙ h)

no_text : (a : ℕ) → [] ≢ a ∷ []
no_text a e = cc

quote_no_sign : NoDelimiter 39
quote_no_sign grammar.Paren = (other_sign 40 39 refl, other_sign 41 39 refl)
quote_no_sign grammar.Brace = (other_sign 123 39 refl, other_sign 125 39 refl)
quote_no_sign grammar.Bracket = (other_sign 91 39 refl, other_sign 93 39 refl)
quote_no_sign grammar.None = (no_text 39, no_text 39)

-- a `'` that starts neither a character nor a lifetime
pub quote_alone : (start next : Cursor) (s : Span) (e : List FaultValue) → IsPast 39 start next → Present start.text.now (encode_utf8 39) start.offset next.offset
    → begins_character (left next) ≡ false → first_passes may_start (left next) ≡ false → s ≡ record { start = start.offset; end = next.offset }
    → e ≡ (s, codes "unexpected character") ∷ [] → IsLexicalFault start.text.now start.offset e
quote_alone start next s e past present b n there is =
    fault_there start next 39 s e past present there is
    (refl, is_xid_start-ascii 39 (lit< tt), quote_literal _ _ refl ∙ no_character Char _ b, n, quote_no_sign)

-- ANY OTHER CHARACTER

no_letter : (c d : ℕ) → may_start c ≡ false → may_start d ≡ true → (c == d) ≡ false
no_letter c d h g = differs c d (λ e. true≢false (sym g ∙ (ap may_start (sym e) ∙ h)))

none_from : (c : ℕ) (cs : List ℕ) → may_start c ≡ false → (c == 34) ≡ false → (c == 39) ≡ false → is_ascii_digit c ≡ false → literal_from c cs ≡ Absent
unfolding literal_from lettered
none_from c cs h q a d =
    rw (q, a, d, no_letter c 114 h (letter_starts 114 (lit< tt) refl), no_letter c 98 h (letter_starts 98 (lit< tt) refl), no_letter c 99 h (letter_starts 99 (lit< tt) refl)) refl

no_mark : (c : ℕ) (cs : List ℕ) → (c == 39) ≡ false → is_punct_character c ≡ false → begins_mark c cs ≡ false
no_mark c cs a p = rw a p

-- the one character of a sign
present_sign : (text : List ℕ) (i j n c : ℕ) → n ∷ [] ≡ c ∷ [] → encode_utf8 n ≡ n ∷ [] → Present text (encode_utf8 c) i j → Present text (n ∷ []) i j
present_sign text i j n c e f present =
    let same : c ≡ n = cc in
    subst (λ (x : List ℕ). Present text x i j) (ap encode_utf8 same ∙ f) present

sign_there : (start next : Cursor) (c : ℕ) (s : Span) (l : Lexeme) → start.offset < next.offset → Present start.text.now (encode_utf8 c) start.offset next.offset
    → s ≡ record { start = start.offset; end = next.offset } → IsDelimiter c s l → IsLexemeFrom start.text.now start.offset l next.offset
unfolding encode_utf8
sign_there start next c s (Open D.Paren t) past present there (e, v, at) = ((present_sign _ _ _ 40 c e refl present, past, v), ap (λ (x : Span). x.start) (at ∙ there), ap (λ (x : Span). x.end) (at ∙ there))
sign_there start next c s (Open D.Brace t) past present there (e, v, at) = ((present_sign _ _ _ 123 c e refl present, past, v), ap (λ (x : Span). x.start) (at ∙ there), ap (λ (x : Span). x.end) (at ∙ there))
sign_there start next c s (Open D.Bracket t) past present there (e, v, at) = ((present_sign _ _ _ 91 c e refl present, past, v), ap (λ (x : Span). x.start) (at ∙ there), ap (λ (x : Span). x.end) (at ∙ there))
sign_there start next c s (Open D.None t) past present there (e, v, at) = absurd (true≢false (sym v))
sign_there start next c s (Close D.Paren t) past present there (e, v, at) = ((present_sign _ _ _ 41 c e refl present, past, v), ap (λ (x : Span). x.start) (at ∙ there), ap (λ (x : Span). x.end) (at ∙ there))
sign_there start next c s (Close D.Brace t) past present there (e, v, at) = ((present_sign _ _ _ 125 c e refl present, past, v), ap (λ (x : Span). x.start) (at ∙ there), ap (λ (x : Span). x.end) (at ∙ there))
sign_there start next c s (Close D.Bracket t) past present there (e, v, at) = ((present_sign _ _ _ 93 c e refl present, past, v), ap (λ (x : Span). x.start) (at ∙ there), ap (λ (x : Span). x.end) (at ∙ there))
sign_there start next c s (Close D.None t) past present there (e, v, at) = absurd (true≢false (sym v))
sign_there start next c s (Ident x t) past present there h = absurd h
sign_there start next c s (Literal k x t) past present there h = absurd h
sign_there start next c s (Punct p) past present there h = absurd h
sign_there start next c s (Comment x t) past present there h = absurd h

-- a delimiter of a group, or a character with which no piece starts
pub sign_or_fault : (r : Result Lexeme (List FaultValue)) (start next : Cursor) (c : ℕ) (s : Span) → IsPast c start next
    → Present start.text.now (encode_utf8 c) start.offset next.offset → s ≡ record { start = start.offset; end = next.offset }
    → is_not_whitespace c ≡ true → may_start c ≡ false → (c ≡ 34 → ⊥) → (c ≡ 39 → ⊥) → is_ascii_digit c ≡ false → is_punct_character c ≡ false
    → IfOk r (IsDelimiter c s) → IfErr r (λ e. NoDelimiter c) → IfErr r (λ e. e ≡ (s, codes "unexpected character") ∷ [])
    → MatchResult r (λ l. IsLexemeFrom start.text.now start.offset l next.offset) (IsLexicalFault start.text.now start.offset)
sign_or_fault (Ok l) start next c s past present there w m q a d p ok none is = sign_there start next c s l past.1 present there ok
sign_or_fault (Err e) start next c s past present there w m q a d p ok none is =
    fault_there start next c s e past present there is
    (w, m, none_from c (left next) m (differs c 34 q) (differs c 39 a) d, no_mark c (left next) (differs c 39 a) p, none)
