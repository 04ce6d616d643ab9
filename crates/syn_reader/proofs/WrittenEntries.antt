-- The text of a stream's entries is the text of the stream.
use Rattle.std.proofs.Common.{◌≡◌, ℕ, ◌+◌, ◌<◌, ◌≤◌, Bool, true, false, List, [], ◌∷◌, ◌++◌, length, drop, get_or, refl, sym, ap, ◌∙◌, append_assoc, append-nil}
use Rattle.std.proofs.lemmas.List.{at_drop_more, drop_all}
use Rattle.std.specs.Char.{encode_utf8}
use Rattle.syn_grammar.specs.Tokens.{ident, literal, Paren, Brace, Bracket, None, Stream, end, leaf, punct, group}
use Rattle.syn_grammar.specs.Take as count
use Rattle.syn_tokens.specs.Entries.{close_entry, encode}
use Rattle.syn_tokens.specs.declared.stream.entry.Token.{Token as Entry}
use Rattle.syn_tokens.proofs.Entries.{joint_back}
use Rattle.syn_reader.specs.Spelling.{opening_delimiter, closing_delimiter}
use Rattle.syn_reader.specs.Texts.{gap, follows_directly, text_after, text_of}
use Rattle.syn_reader.specs.EntryTexts.{entry_text, direct_after, entries_text}

-- a word, what follows it, and the rest
word_first : (a b c r : List ℕ) → (a ++ b) ++ (c ++ r) ≡ (a ++ (b ++ c)) ++ r
word_first a b c r = append_assoc a b (c ++ r) ∙ ap (λ t. a ++ t) (sym (append_assoc b c r)) ∙ sym (append_assoc a (b ++ c) r)

-- the text of a stream comes before that of all other entries
abbrev WritesFirst : Bool → Stream → Type 0
WritesFirst direct s = (rest : List Entry) → entries_text direct (encode s ++ rest) ≡ text_after direct s ++ entries_text (follows_directly direct s) rest

-- the content of a visible group and what follows the group, if its delimiters are these
in_delimiters : (space opening closing : List ℕ) (close : Entry) → ((b : Bool) → entry_text b close ≡ gap b ++ closing) → ((b : Bool) → direct_after b close ≡ false)
    → (i m : Stream) → WritesFirst false i → WritesFirst false m → (rest : List Entry)
    → (space ++ opening) ++ entries_text false ((encode i ++ close ∷ encode m) ++ rest)
    ≡ (space ++ (opening ++ (text_after false i ++ (gap (follows_directly false i) ++ (closing ++ text_after false m))))) ++ entries_text (follows_directly false m) rest
in_delimiters space opening closing close writes ends i m inner more rest =
    let direct = follows_directly false i in
    let left = entries_text (follows_directly false m) rest in
    let tail = gap direct ++ (closing ++ text_after false m) in
    ap (λ es. (space ++ opening) ++ entries_text false es) (append_assoc (encode i) (close ∷ encode m) rest)
    ∙ ap (λ t. (space ++ opening) ++ t) (inner (close ∷ (encode m ++ rest)))
    ∙ ap (λ t. (space ++ opening) ++ (text_after false i ++ (t ++ entries_text (direct_after direct close) (encode m ++ rest)))) (writes direct)
    ∙ ap (λ b. (space ++ opening) ++ (text_after false i ++ ((gap direct ++ closing) ++ entries_text b (encode m ++ rest)))) (ends direct)
    ∙ ap (λ t. (space ++ opening) ++ (text_after false i ++ ((gap direct ++ closing) ++ t))) (more rest)
    ∙ ap (λ t. (space ++ opening) ++ (text_after false i ++ t)) (word_first (gap direct) closing (text_after false m) left)
    ∙ ap (λ t. (space ++ opening) ++ t) (sym (append_assoc (text_after false i) tail left))
    ∙ word_first space opening (text_after false i ++ tail) left

-- the entries of a stream with others after them
after_stream : (direct : Bool) (s : Stream) → WritesFirst direct s
after_stream direct end rest = refl
after_stream direct (leaf (ident x) sp m) rest =
    ap (λ t. (gap direct ++ x) ++ t) (after_stream false m rest)
    ∙ word_first (gap direct) x (text_after false m) (entries_text (follows_directly false m) rest)
after_stream direct (leaf (literal k x) sp m) rest =
    ap (λ t. (gap direct ++ x) ++ t) (after_stream false m rest)
    ∙ word_first (gap direct) x (text_after false m) (entries_text (follows_directly false m) rest)
after_stream direct (punct c j sp m) rest =
    ap (λ b. (gap direct ++ encode_utf8 c) ++ entries_text b (encode m ++ rest)) (joint_back j)
    ∙ ap (λ t. (gap direct ++ encode_utf8 c) ++ t) (after_stream j m rest)
    ∙ word_first (gap direct) (encode_utf8 c) (text_after j m) (entries_text (follows_directly j m) rest)
after_stream direct (group None o c i m) rest =
    ap (entries_text direct) (append_assoc (encode i) (close_entry None c (count.length i) ∷ encode m) rest)
    ∙ after_stream direct i (close_entry None c (count.length i) ∷ (encode m ++ rest))
    ∙ ap (λ t. text_after direct i ++ t) (after_stream (follows_directly direct i) m rest)
    ∙ sym (append_assoc (text_after direct i) (text_after (follows_directly direct i) m) (entries_text (follows_directly (follows_directly direct i) m) rest))
after_stream direct (group Paren o c i m) rest =
    in_delimiters (gap direct) (opening_delimiter Paren) (closing_delimiter Paren) (close_entry Paren c (count.length i)) (λ b. refl) (λ b. refl) i m (after_stream false i) (after_stream false m) rest
after_stream direct (group Brace o c i m) rest =
    in_delimiters (gap direct) (opening_delimiter Brace) (closing_delimiter Brace) (close_entry Brace c (count.length i)) (λ b. refl) (λ b. refl) i m (after_stream false i) (after_stream false m) rest
after_stream direct (group Bracket o c i m) rest =
    in_delimiters (gap direct) (opening_delimiter Bracket) (closing_delimiter Bracket) (close_entry Bracket c (count.length i)) (λ b. refl) (λ b. refl) i m (after_stream false i) (after_stream false m) rest

-- the entries of a stream alone
pub whole_text : (s : Stream) → entries_text true (encode s) ≡ text_of s
whole_text s = ap (entries_text true) (sym (append-nil (encode s))) ∙ after_stream true s [] ∙ append-nil (text_of s)

-- the entries that are still to be printed, one entry on
pub next_entry : (direct : Bool) (es : List Entry) (i : ℕ) (d : Entry) → i < length es →
    entries_text direct (drop i es) ≡ entry_text direct (get_or es i d) ++ entries_text (direct_after direct (get_or es i d)) (drop (i + 1) es)
next_entry direct es i d h = at_drop_more (entries_text direct) es i d h

-- nothing remains
pub no_entry : (direct : Bool) (es : List Entry) (i : ℕ) → length es ≤ i → entries_text direct (drop i es) ≡ []
no_entry direct es i h = ap (entries_text direct) (drop_all i es h)
