-- Which identifiers are names and words, decided by their texts.
use Rattle.std.proofs.Common.{◌≡◌, Bool, true, false, List, [], ◌∷◌, ◌++◌, map, Some, None, refl, sym, ap, ◌∙◌, true≢false}
use Rattle.syn_grammar.specs.Words.{Text, keywords, contextual}
use Rattle.syn_grammar.specs.Tokens.{Span, LitKind, Str, ByteStr, CStr, Byte, Char, Int, Float, ident, literal, Stream, end, leaf, punct, group, and, or, no, pick, same_text, one_of_texts, Name, Word, mem}
use Rattle.syn_grammar.specs.Grammar.{name, identifier, word, name_or, any_literal, fits, Syntax, Token}
use Rattle.syn_grammar.specs.Take.{Out, only, take_token}
use Rattle.syn_grammar.proofs.Sets.{same_text_eq}
use Rattle.syn_tokens.specs.Idents.{is_keyword}
use Rattle.syn_tokens.specs.Leaves.{is_known_word}
use Rattle.syn_parse.specs.Form.{take_keyword}
use Rattle.syn_parse.specs.FirstTokens.{NoIdent}

or_assoc : (a b c : Bool) → or (or a b) c ≡ or a (or b c)
or_assoc true b c = refl
or_assoc false b c = refl

or_false : (b : Bool) → or b false ≡ b
or_false true = refl
or_false false = refl

one_of_append : (x : Text) (l m : List Text) → one_of_texts x (l ++ m) ≡ or (one_of_texts x l) (one_of_texts x m)
one_of_append x [] m = refl
one_of_append x (y ∷ l) m = ap (or (same_text x y)) (one_of_append x l m) ∙ sym (or_assoc (same_text x y) (one_of_texts x l) (one_of_texts x m))

word_mem : (x : Text) (l : List Text) → mem (Word x) (map Word l) ≡ one_of_texts x l
word_mem x [] = refl
word_mem x (y ∷ l) = ap (or (same_text x y)) (word_mem x l)

-- no text of the first list is in the second
abbrev apart : List Text → List Text → Bool
apart [] m = true
apart (y ∷ l) m = and (no (one_of_texts y m)) (apart l m)

apart_none : (x : Text) (l m : List Text) → apart l m ≡ true → one_of_texts x l ≡ true → one_of_texts x m ≡ false
apart_none x [] m a e = absurd (true≢false (sym e))
apart_none x (y ∷ l) m a e = go (apart_none x l m) (same_text x y) refl e (one_of_texts y m) refl a
  where
    go : (apart l m ≡ true → one_of_texts x l ≡ true → one_of_texts x m ≡ false) → (b : Bool) → same_text x y ≡ b → or b (one_of_texts x l) ≡ true → (d : Bool) → one_of_texts y m ≡ d → and (no d) (apart l m) ≡ true → one_of_texts x m ≡ false
    go ih b f h true i a = absurd (true≢false (sym a))
    go ih true f h false i a = ap (λ z. one_of_texts z m) (same_text_eq x y f) ∙ i
    go ih false f h false i a = ih a h

-- an identifier is a name if its text is not a keyword
pub fits_name : (x : Text) → fits name (ident x) ≡ no (is_keyword x)
unfolding is_keyword
fits_name x = go (one_of_texts x (keywords ++ contextual)) (one_of_append x keywords contextual) (one_of_texts x keywords) refl
  where
    go : (b : Bool) → b ≡ or (one_of_texts x keywords) (one_of_texts x contextual) → (d : Bool) → one_of_texts x keywords ≡ d →
        and true (mem (pick b (Word x) Name) (Name ∷ map Word contextual)) ≡ no d
    go true e true f = word_mem x contextual ∙ apart_none x keywords contextual refl f
    go true e false f = word_mem x contextual ∙ sym (e ∙ ap (λ z. or z (one_of_texts x contextual)) f)
    go false e true f = absurd (true≢false (sym (e ∙ ap (λ z. or z (one_of_texts x contextual)) f)))
    go false e false f = refl

-- it is a name or one of these words
pub fits_name_or : (l : List Text) (x : Text) → fits (name_or l) (ident x) ≡ or (no (is_keyword x)) (one_of_texts x l)
unfolding is_keyword
fits_name_or l x = go (one_of_texts x (keywords ++ contextual)) (one_of_append x keywords contextual) (one_of_texts x keywords) refl
  where
    words : mem (Word x) (map Word (contextual ++ l)) ≡ or (one_of_texts x contextual) (one_of_texts x l)
    words = word_mem x (contextual ++ l) ∙ one_of_append x contextual l

    go : (b : Bool) → b ≡ or (one_of_texts x keywords) (one_of_texts x contextual) → (d : Bool) → one_of_texts x keywords ≡ d →
        and true (mem (pick b (Word x) Name) (Name ∷ map Word (contextual ++ l))) ≡ or (no d) (one_of_texts x l)
    go true e true f = words ∙ ap (λ z. or z (one_of_texts x l)) (apart_none x keywords contextual refl f)
    go true e false f = words ∙ ap (λ z. or z (one_of_texts x l)) (sym (e ∙ ap (λ z. or z (one_of_texts x contextual)) f))
    go false e true f = absurd (true≢false (sym (e ∙ ap (λ z. or z (one_of_texts x contextual)) f)))
    go false e false f = refl

-- it is a word that the grammar knows, if it has its text
pub fits_word : (w x : Text) → is_known_word w ≡ true → fits (word w) (ident x) ≡ same_text x w
unfolding is_known_word
fits_word w x k = go (one_of_texts x (keywords ++ contextual)) refl (same_text x w) refl
  where
    go : (b : Bool) → one_of_texts x (keywords ++ contextual) ≡ b → (d : Bool) → same_text x w ≡ d → mem (pick b (Word x) Name) (Word w ∷ []) ≡ d
    go true e d f = or_false (same_text x w) ∙ f
    go false e true f = absurd (true≢false (sym k ∙ ap (λ z. one_of_texts z (keywords ++ contextual)) (sym (same_text_eq x w f)) ∙ e))
    go false e false f = refl

fits_identifier : (x : Text) → fits identifier (ident x) ≡ true
fits_identifier x = go (one_of_texts x (keywords ++ contextual)) refl
  where
    go : (b : Bool) → one_of_texts x (keywords ++ contextual) ≡ b → and true (mem (pick b (Word x) Name) (Name ∷ map Word (keywords ++ contextual))) ≡ true
    go true e = word_mem x (keywords ++ contextual) ∙ e
    go false e = refl

abbrev taken_if : Bool → Syntax → Stream → Out
taken_if b s r = only b (Some (s, r))

pub take_identifier : (x : Text) (sp : Span) (r : Stream) → take_token identifier (leaf (ident x) sp r) ≡ Some (Token (ident x) sp, r)
unfolding take_token
take_identifier x sp r = ap (λ b. taken_if b (Token (ident x) sp) r) (fits_identifier x)

pub take_name : (x : Text) (sp : Span) (r : Stream) → is_keyword x ≡ false → take_token name (leaf (ident x) sp r) ≡ Some (Token (ident x) sp, r)
unfolding take_token
take_name x sp r e = ap (λ b. taken_if b (Token (ident x) sp) r) (fits_name x ∙ ap no e)

pub take_no_name : (x : Text) (sp : Span) (r : Stream) → is_keyword x ≡ true → take_token name (leaf (ident x) sp r) ≡ None
unfolding take_token
take_no_name x sp r e = ap (λ b. taken_if b (Token (ident x) sp) r) (fits_name x ∙ ap no e)

pub take_name_or : (l : List Text) (x : Text) (sp : Span) (r : Stream) → or (no (is_keyword x)) (one_of_texts x l) ≡ true → take_token (name_or l) (leaf (ident x) sp r) ≡ Some (Token (ident x) sp, r)
unfolding take_token
take_name_or l x sp r e = ap (λ b. taken_if b (Token (ident x) sp) r) (fits_name_or l x ∙ e)

pub take_no_name_or : (l : List Text) (x : Text) (sp : Span) (r : Stream) → or (no (is_keyword x)) (one_of_texts x l) ≡ false → take_token (name_or l) (leaf (ident x) sp r) ≡ None
unfolding take_token
take_no_name_or l x sp r e = ap (λ b. taken_if b (Token (ident x) sp) r) (fits_name_or l x ∙ e)

pub take_word : (w x : Text) (sp : Span) (r : Stream) → is_known_word w ≡ true → same_text x w ≡ true → take_token (word w) (leaf (ident x) sp r) ≡ Some (Token (ident w) sp, r)
unfolding take_token
take_word w x sp r k e = ap (λ b. taken_if b (Token (ident x) sp) r) (fits_word w x k ∙ e) ∙ ap (λ z. Some (Token (ident z) sp, r)) (same_text_eq x w e)

pub take_no_word : (w x : Text) (sp : Span) (r : Stream) → is_known_word w ≡ true → same_text x w ≡ false → take_token (word w) (leaf (ident x) sp r) ≡ None
unfolding take_token
take_no_word w x sp r k e = ap (λ b. taken_if b (Token (ident x) sp) r) (fits_word w x k ∙ e)

fits_literal : (k : LitKind) (x : Text) → fits any_literal (literal k x) ≡ true
fits_literal Str x = refl
fits_literal ByteStr x = refl
fits_literal CStr x = refl
fits_literal Byte x = refl
fits_literal Char x = refl
fits_literal Int x = refl
fits_literal Float x = refl

pub take_literal : (k : LitKind) (x : Text) (sp : Span) (r : Stream) → take_token any_literal (leaf (literal k x) sp r) ≡ Some (Token (literal k x) sp, r)
unfolding take_token
take_literal k x sp r = ap (λ b. taken_if b (Token (literal k x) sp) r) (fits_literal k x)

-- CUSTOM KEYWORDS
pub take_the_keyword : (w x : Text) (sp : Span) (r : Stream) → same_text x w ≡ true → take_keyword w (leaf (ident x) sp r) ≡ Some (Token (ident w) sp, r)
unfolding take_keyword
take_the_keyword w x sp r e = ap (λ b. taken_if b (Token (ident x) sp) r) e ∙ ap (λ z. Some (Token (ident z) sp, r)) (same_text_eq x w e)

pub take_no_keyword : (w x : Text) (sp : Span) (r : Stream) → same_text x w ≡ false → take_keyword w (leaf (ident x) sp r) ≡ None
unfolding take_keyword
take_no_keyword w x sp r e = ap (λ b. taken_if b (Token (ident x) sp) r) e

pub no_keyword : (w : Text) (ts : Stream) → NoIdent ts → take_keyword w ts ≡ None
unfolding take_keyword
no_keyword w end n = refl
no_keyword w (leaf (ident x) sp r) n = absurd (cc (sym (take_identifier x sp r) ∙ n identifier refl))
no_keyword w (leaf (literal k x) sp r) n = refl
no_keyword w (punct c j sp m) n = refl
no_keyword w (group d o c i m) n = refl
