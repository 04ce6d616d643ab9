-- A look holds of the next token exactly where that token can be taken.
use Rattle.std.proofs.Common.{◌≡◌, ℕ, Bool, true, false, List, [], ◌∷◌, ◌++◌, map, nat_eq, Option, Some, None, ◌⊎◌, inl, inr, refl, sym, ap, ap₂, ◌∙◌, subst, true≢false}
use Rattle.std.proofs.lemmas.Bool.{eqb-true, eq-eqb}
use Rattle.syn_grammar.specs.Words.{Text, keywords, contextual, long_marks, lifetime_mark}
use Rattle.syn_grammar.specs.Tokens.{Span, Delimiter, Paren, Brace, Bracket, None as Invisible, LitKind, kind_number, Leaf, ident, literal, Stream, end, leaf, punct, group, and, or, no, pick, same_text, one_of_texts, begins_text, Terminal, Name, Word, Punctuation, Literal, mem, is_ended, is_group, is_empty_group, is_name, is_word, is_literal, starts_mark, leaf_terminal, before_identifier, join, char_terminal, longest, Look, ended, at_name, at_word, at_mark, at_literal, at_group, at_empty_group, at_lifetime, ◌or_else◌, ◌and_also◌, ◌but_not◌, lookahead}
use Rattle.syn_grammar.specs.Grammar.{name, word, literal_of, terminals, Token, Lifetime}
use Rattle.syn_grammar.specs.Take.{only, is_end, lookahead_at, sees, take_token, Chars, add_char, take_chars, marked, take_mark, take_lifetime, Opened, take_group, same_delimiter, taken}
use Rattle.syn_grammar.proofs.Sets.{and_left, and_right, no_true, or_split, same_text_eq}
use Rattle.syn_grammar.proofs.Streams.{lookahead_end}
use Rattle.syn_grammar.proofs.Takes.{TreeAndRest}

-- ---- conditions are made of conditions
pub sees_or : (a b : Look) (ts : Stream) → sees (a or_else b) ts ≡ or (sees a ts) (sees b ts)
unfolding sees
sees_or a b ts = refl

pub sees_and : (a b : Look) (ts : Stream) → sees (a and_also b) ts ≡ and (sees a ts) (sees b ts)
unfolding sees
sees_and a b ts = refl

pub sees_but : (a b : Look) (ts : Stream) → sees (a but_not b) ts ≡ and (sees a ts) (no (sees b ts))
unfolding sees
sees_but a b ts = refl

-- ---- of one token tree
same_eq : (a b : ℕ) → nat_eq a b ≡ nat_eq b a
same_eq a b = go (nat_eq a b) refl (nat_eq b a) refl
  where
    go : (u : Bool) → nat_eq a b ≡ u → (v : Bool) → nat_eq b a ≡ v → u ≡ v
    go true e true f = refl
    go false e false f = refl
    go true e false f = absurd (true≢false (sym (eq-eqb b a (sym (eqb-true a b e))) ∙ f))
    go false e true f = absurd (true≢false (sym (eq-eqb a b (sym (eqb-true b a f))) ∙ e))

same_texts : (x y : Text) → same_text x y ≡ same_text y x
same_texts [] [] = refl
same_texts [] (y ∷ m) = refl
same_texts (x ∷ l) [] = refl
same_texts (x ∷ l) (y ∷ m) = ap₂ and (same_eq x y) (same_texts l m)

or_false : (b : Bool) → or b false ≡ b
or_false true = refl
or_false false = refl

taken_only : {A : Type 0} (b : Bool) (o : Option A) → taken (only b o) ≡ and b (taken o)
taken_only true o = refl
taken_only false o = refl

and_true : (b : Bool) → and b true ≡ b
and_true true = refl
and_true false = refl

pub sees_ended : (ts : Stream) → sees ended ts ≡ is_end ts
unfolding sees lookahead_at is_end
sees_ended end = refl
sees_ended (leaf x sp m) = go (is_ended (lookahead (leaf x sp m)).terminal) refl
  where
    go : (b : Bool) → is_ended (lookahead (leaf x sp m)).terminal ≡ b → b ≡ false
    go true e = absurd (cc (lookahead_end (leaf x sp m) e))
    go false e = refl
sees_ended (punct c j sp m) = go (is_ended (lookahead (punct c j sp m)).terminal) refl
  where
    go : (b : Bool) → is_ended (lookahead (punct c j sp m)).terminal ≡ b → b ≡ false
    go true e = absurd (cc (lookahead_end (punct c j sp m) e))
    go false e = refl
sees_ended (group d o c i m) = refl

-- a mark isn't a name, a word, a literal or a group
not_punctuation : (p : Terminal → Bool) → ((x : Text) → p (Punctuation x) ≡ false) → (c : ℕ) (j : Bool) (f : Terminal) → p (char_terminal c j f) ≡ false
not_punctuation p u c false f = u _
not_punctuation p u c true (Punctuation l) = u _
not_punctuation p u c true _ = u _

pub sees_name : (ts : Stream) → sees at_name ts ≡ taken (take_token name ts)
unfolding sees lookahead_at take_token
sees_name end = refl
sees_name (leaf (ident x) sp m) = go (one_of_texts x (keywords ++ contextual))
  where
    go : (b : Bool) → is_name (pick b (Word x) Name) ≡ taken {A = TreeAndRest} (only (mem (pick b (Word x) Name) (terminals name)) (Some (Token (ident x) sp, m)))
    go true = sym (taken_only {A = TreeAndRest} (mem (Word x) (terminals name)) (Some (Token (ident x) sp, m)) ∙ and_true (mem (Word x) (terminals name)) ∙ of_words x contextual)
      where
        of_words : (x : Text) (l : List Text) → mem (Word x) (map Word l) ≡ one_of_texts x l
        of_words x [] = refl
        of_words x (y ∷ l) = ap (or (same_text x y)) (of_words x l)
    go false = refl
sees_name (leaf (literal k x) sp m) = sym (taken_only {A = TreeAndRest} (mem (Literal k) (terminals name)) (Some (Token (literal k x) sp, m)) ∙ and_true (mem (Literal k) (terminals name)) ∙ of_words contextual)
  where
    of_words : (l : List Text) → mem (Literal k) (map Word l) ≡ false
    of_words [] = refl
    of_words (y ∷ l) = of_words l
sees_name (punct c j sp m) = not_punctuation is_name (λ x. refl) c j (lookahead m).terminal
sees_name (group d o c i m) = refl

pub sees_word : (w : Text) (ts : Stream) → sees (at_word w) ts ≡ taken (take_token (word w) ts)
unfolding sees lookahead_at take_token
sees_word w end = refl
sees_word w (leaf (ident x) sp m) = go (one_of_texts x (keywords ++ contextual))
  where
    go : (b : Bool) → is_word w (pick b (Word x) Name) ≡ taken {A = TreeAndRest} (only (mem (pick b (Word x) Name) (terminals (word w))) (Some (Token (ident x) sp, m)))
    go true = same_texts w x ∙ sym (taken_only {A = TreeAndRest} (or (same_text x w) false) (Some (Token (ident x) sp, m)) ∙ and_true (or (same_text x w) false) ∙ or_false (same_text x w))
    go false = refl
sees_word w (leaf (literal k x) sp m) = refl
sees_word w (punct c j sp m) = not_punctuation (is_word w) (λ x. refl) c j (lookahead m).terminal
sees_word w (group d o c i m) = refl

pub sees_literal : (k : LitKind) (ts : Stream) → sees (at_literal k) ts ≡ taken (take_token (literal_of (k ∷ [])) ts)
unfolding sees lookahead_at take_token
sees_literal k end = refl
sees_literal k (leaf (ident x) sp m) = go (one_of_texts x (keywords ++ contextual))
  where
    go : (b : Bool) → is_literal k (pick b (Word x) Name) ≡ taken {A = TreeAndRest} (only (mem (pick b (Word x) Name) (terminals (literal_of (k ∷ [])))) (Some (Token (ident x) sp, m)))
    go true = refl
    go false = refl
sees_literal k (leaf (literal l x) sp m) =
    same_eq (kind_number k) (kind_number l)
    ∙ sym (taken_only {A = TreeAndRest} (or (nat_eq (kind_number l) (kind_number k)) false) (Some (Token (literal l x) sp, m)) ∙ and_true (or (nat_eq (kind_number l) (kind_number k)) false) ∙ or_false (nat_eq (kind_number l) (kind_number k)))
sees_literal k (punct c j sp m) = not_punctuation (is_literal k) (λ x. refl) c j (lookahead m).terminal
sees_literal k (group d o c i m) = refl

pub sees_group : (d : Delimiter) (ts : Stream) → sees (at_group d) ts ≡ taken (take_group d ts)
unfolding sees lookahead_at take_group
sees_group d end = refl
sees_group d (leaf (ident x) sp m) = go (one_of_texts x (keywords ++ contextual))
  where
    go : (b : Bool) → is_group d (pick b (Word x) Name) ≡ false
    go true = refl
    go false = refl
sees_group d (leaf (literal k x) sp m) = refl
sees_group d (punct c j sp m) = not_punctuation (is_group d) (λ x. refl) c j (lookahead m).terminal
sees_group d (group d' o c i m) = sym (taken_only (same_delimiter d d') _ ∙ and_true (same_delimiter d d'))

-- of an invisible group that was opened: it holds nothing
abbrev pub holds_nothing_of : Option Opened → Bool
holds_nothing_of (Some g) = sees ended g.content
holds_nothing_of None = false

pub sees_empty_group : (ts : Stream) → sees at_empty_group ts ≡ holds_nothing_of (take_group Invisible ts)
unfolding sees lookahead_at take_group
sees_empty_group end = refl
sees_empty_group (leaf (ident x) sp m) = go (one_of_texts x (keywords ++ contextual))
  where
    go : (b : Bool) → is_empty_group (pick b (Word x) Name) ≡ false
    go true = refl
    go false = refl
sees_empty_group (leaf (literal k x) sp m) = refl
sees_empty_group (punct c j sp m) = not_punctuation is_empty_group (λ x. refl) c j (lookahead m).terminal
sees_empty_group (group Paren o c i m) = refl
sees_empty_group (group Brace o c i m) = refl
sees_empty_group (group Bracket o c i m) = refl
sees_empty_group (group Invisible o c i m) = refl

-- ---- of a mark
abbrev pub no_longer : Text → Text → Bool
no_longer [] x = true
no_longer (a ∷ m) [] = false
no_longer (a ∷ m) (b ∷ x) = no_longer m x

abbrev full_marks : List Text → Bool
full_marks [] = true
full_marks ([] ∷ l) = false
full_marks ((x ∷ m) ∷ l) = full_marks l

-- no mark before this one in the list is shorter
abbrev pub reaches : Text → List Text → Bool
reaches m [] = false
reaches m (x ∷ l) = or (same_text m x) (and (no_longer m x) (reaches m l))

-- each of its endings is a mark, or one character
abbrev pub known_mark : Text → Bool
known_mark [] = false
known_mark (c ∷ []) = true
known_mark (c ∷ e ∷ l) = and (reaches (c ∷ e ∷ l) long_marks) (known_mark (e ∷ l))

begins_refl : (m x : Text) → same_text m x ≡ true → begins_text m x ≡ true
begins_refl [] x e = refl
begins_refl (a ∷ l) [] e = absurd (true≢false (sym e))
begins_refl (a ∷ l) (b ∷ n) e = ap₂ and (and_left (nat_eq a b) _ e) (begins_refl l n (and_right (nat_eq a b) _ e))

-- what begins what begins a text, begins it
begins_trans : (m x t : Text) → begins_text m x ≡ true → begins_text x t ≡ true → begins_text m t ≡ true
begins_trans [] x t e f = refl
begins_trans (a ∷ l) [] t e f = absurd (true≢false (sym e))
begins_trans (a ∷ l) (b ∷ n) [] e f = absurd (true≢false (sym f))
begins_trans (a ∷ l) (b ∷ n) (c ∷ t) e f =
    ap₂ and (ap (nat_eq a) (sym (eqb-true b c (and_left (nat_eq b c) _ f))) ∙ and_left (nat_eq a b) _ e) (begins_trans l n t (and_right (nat_eq a b) _ e) (and_right (nat_eq b c) _ f))

-- of two beginnings of a text the one that isn't longer begins the other
begins_both : (m x t : Text) → no_longer m x ≡ true → begins_text m t ≡ true → begins_text x t ≡ true → begins_text m x ≡ true
begins_both [] x t n e f = refl
begins_both (a ∷ l) [] t n e f = absurd (true≢false (sym n))
begins_both (a ∷ l) (b ∷ q) [] n e f = absurd (true≢false (sym e))
begins_both (a ∷ l) (b ∷ q) (c ∷ t) n e f =
    ap₂ and (ap (nat_eq a) (eqb-true b c (and_left (nat_eq b c) _ f)) ∙ and_left (nat_eq a c) _ e) (begins_both l q t n (and_right (nat_eq a c) _ e) (and_right (nat_eq b c) _ f))

-- the longest mark of a text begins with this one where the text does
longest_begins : (m : Text) (ms : List Text) (t one : Text) → reaches m ms ≡ true → begins_text m t ≡ true → begins_text m (longest ms t one) ≡ true
longest_begins m [] t one w e = absurd (true≢false (sym w))
longest_begins m (x ∷ ms) t one w e = go (λ s. longest_begins m ms t one s e) (begins_text x t) refl (or_split (same_text m x) _ w)
  where
    go : (reaches m ms ≡ true → begins_text m (longest ms t one) ≡ true) → (b : Bool) → begins_text x t ≡ b → (same_text m x ≡ true) ⊎ (and (no_longer m x) (reaches m ms) ≡ true) → begins_text m (pick b x (longest ms t one)) ≡ true
    go ih true f (inl s) = begins_refl m x s
    go ih true f (inr s) = begins_both m x t (and_left (no_longer m x) _ s) e f
    go ih false f (inl s) = absurd (true≢false (sym (subst (λ v. begins_text v t ≡ true) (same_text_eq m x s) e) ∙ f))
    go ih false f (inr s) = ih (and_right (no_longer m x) _ s)

-- and it begins the text, or is one character
longest_is : (m : Text) (ms : List Text) (t one : Text) → begins_text m one ≡ false → begins_text m (longest ms t one) ≡ true → begins_text m t ≡ true
longest_is m [] t one n e = absurd (true≢false (sym e ∙ n))
longest_is m (x ∷ ms) t one n e = go (longest_is m ms t one n) (begins_text x t) refl e
  where
    go : (begins_text m (longest ms t one) ≡ true → begins_text m t ≡ true) → (b : Bool) → begins_text x t ≡ b → begins_text m (pick b x (longest ms t one)) ≡ true → begins_text m t ≡ true
    go ih true f h = begins_trans m x t h f
    go ih false f h = ih h

same_truth : (a b : Bool) → (a ≡ true → b ≡ true) → (b ≡ true → a ≡ true) → a ≡ b
same_truth true true u v = refl
same_truth true false u v = absurd (true≢false (sym (u refl)))
same_truth false true u v = absurd (true≢false (sym (v refl)))
same_truth false false u v = refl

-- of one character
first_of_longest : (c d : ℕ) (ms : List Text) (y : Text) → full_marks ms ≡ true → begins_text (c ∷ []) (longest ms (d ∷ y) (d ∷ [])) ≡ nat_eq c d
first_of_longest c d [] y w = and_true (nat_eq c d)
first_of_longest c d ([] ∷ ms) y w = absurd (true≢false (sym w))
first_of_longest c d ((x ∷ m) ∷ ms) y w = go (first_of_longest c d ms y w) (and (nat_eq x d) (begins_text m y)) refl
  where
    go : begins_text (c ∷ []) (longest ms (d ∷ y) (d ∷ [])) ≡ nat_eq c d → (b : Bool) → and (nat_eq x d) (begins_text m y) ≡ b → begins_text (c ∷ []) (pick b (x ∷ m) (longest ms (d ∷ y) (d ∷ []))) ≡ nat_eq c d
    go ih true e = and_true (nat_eq c x) ∙ ap (nat_eq c) (eqb-true x d (and_left (nat_eq x d) _ e))
    go ih false e = ih

one_before : (c d : ℕ) → starts_mark (c ∷ []) (before_identifier d) ≡ nat_eq c d
one_before c d = go (nat_eq d 39) refl
  where
    go : (v : Bool) → nat_eq d 39 ≡ v → begins_text (c ∷ []) (pick v lifetime_mark (d ∷ [])) ≡ nat_eq c d
    go true e = and_true (nat_eq c 39) ∙ ap (nat_eq c) (sym (eqb-true d 39 e))
    go false e = and_true (nat_eq c d)

one_char : (c d : ℕ) (j : Bool) (f : Terminal) → starts_mark (c ∷ []) (char_terminal d j f) ≡ nat_eq c d
one_char c d false f = and_true (nat_eq c d)
one_char c d true (Punctuation l) = first_of_longest c d long_marks l refl
one_char c d true Name = one_before c d
one_char c d true (Word x) = one_before c d
one_char c d true _ = and_true (nat_eq c d)

and_off : (b : Bool) → and b false ≡ false
and_off true = refl
and_off false = refl

-- a mark of the list isn't how a lifetime is seen
unlike_lifetime : (c e : ℕ) (l : Text) → reaches (c ∷ e ∷ l) long_marks ≡ true → begins_text (c ∷ e ∷ l) lifetime_mark ≡ false
unlike_lifetime c e l w = go (begins_text (c ∷ e ∷ l) lifetime_mark) refl
  where
    begun : (l : Text) → begins_text l [] ≡ true → l ≡ []
    begun [] h = refl
    begun (x ∷ l) h = absurd (true≢false (sym h))

    go : (v : Bool) → begins_text (c ∷ e ∷ l) lifetime_mark ≡ v → v ≡ false
    go false h = refl
    go true h =
        let t = and_right (nat_eq c 39) _ h in
        let m : c ∷ e ∷ l ≡ lifetime_mark = ap₂ ◌∷◌ (eqb-true c 39 (and_left (nat_eq c 39) _ h)) (ap₂ ◌∷◌ (eqb-true e 97 (and_left (nat_eq e 97) _ t)) (begun l (and_right (nat_eq e 97) _ t))) in
        absurd (true≢false (sym w ∙ ap (λ x. reaches x long_marks) m))

more_before : (c e d : ℕ) (l : Text) → reaches (c ∷ e ∷ l) long_marks ≡ true → starts_mark (c ∷ e ∷ l) (before_identifier d) ≡ and (nat_eq c d) false
more_before c e d l w = go (nat_eq d 39)
  where
    go : (v : Bool) → begins_text (c ∷ e ∷ l) (pick v lifetime_mark (d ∷ [])) ≡ and (nat_eq c d) false
    go true = unlike_lifetime c e l w ∙ sym (and_off (nat_eq c d))
    go false = refl

-- of more: the first character is joined to the rest of the mark
more_chars : (c e d : ℕ) (l : Text) (j : Bool) (f : Terminal) → reaches (c ∷ e ∷ l) long_marks ≡ true → starts_mark (c ∷ e ∷ l) (char_terminal d j f) ≡ and j (and (nat_eq c d) (starts_mark (e ∷ l) f))
more_chars c e d l false f w = and_off (nat_eq c d)
more_chars c e d l true (Punctuation y) w =
    same_truth (begins_text (c ∷ e ∷ l) (longest long_marks (d ∷ y) (d ∷ []))) (and (nat_eq c d) (begins_text (e ∷ l) y))
    (longest_is (c ∷ e ∷ l) long_marks (d ∷ y) (d ∷ []) (and_off (nat_eq c d))) (longest_begins (c ∷ e ∷ l) long_marks (d ∷ y) (d ∷ []) w)
more_chars c e d l true Name w = more_before c e d l w
more_chars c e d l true (Word x) w = more_before c e d l w
more_chars c e d l true _ w = refl

taken_more : (d : ℕ) (sp : Span) (o : Chars) → taken (add_char d sp o) ≡ taken o
taken_more d sp None = refl
taken_more d sp (Some p) = refl

leaf_mark : (cs : Text) (x : Leaf) → starts_mark cs (leaf_terminal x) ≡ false
leaf_mark cs (ident x) = go (one_of_texts x (keywords ++ contextual))
  where
    go : (b : Bool) → starts_mark cs (pick b (Word x) Name) ≡ false
    go true = refl
    go false = refl
leaf_mark cs (literal k x) = refl

sees_chars : (cs : Text) → known_mark cs ≡ true → (ts : Stream) → starts_mark cs (lookahead ts).terminal ≡ taken (take_chars cs ts)
sees_chars [] w ts = absurd (true≢false (sym w))
sees_chars (c ∷ []) w (punct d j sp r) = one_char c d j (lookahead r).terminal ∙ same_eq c d ∙ sym (taken_only (nat_eq d c) (Some ((d, sp) ∷ [], r)) ∙ and_true (nat_eq d c))
sees_chars (c ∷ e ∷ l) w (punct d true sp r) =
    more_chars c e d l true (lookahead r).terminal (and_left (reaches (c ∷ e ∷ l) long_marks) _ w)
    ∙ ap₂ and (same_eq c d) (sees_chars (e ∷ l) (and_right (reaches (c ∷ e ∷ l) long_marks) _ w) r)
    ∙ sym (taken_only (nat_eq d c) (add_char d sp (take_chars (e ∷ l) r)) ∙ ap (and (nat_eq d c)) (taken_more d sp (take_chars (e ∷ l) r)))
sees_chars (c ∷ e ∷ l) w (punct d false sp r) = more_chars c e d l false (lookahead r).terminal (and_left (reaches (c ∷ e ∷ l) long_marks) _ w)
sees_chars (c ∷ []) w end = refl
sees_chars (c ∷ e ∷ l) w end = refl
sees_chars (c ∷ []) w (leaf x sp m) = leaf_mark (c ∷ []) x
sees_chars (c ∷ e ∷ l) w (leaf x sp m) = leaf_mark (c ∷ e ∷ l) x
sees_chars (c ∷ []) w (group d o q i m) = refl
sees_chars (c ∷ e ∷ l) w (group d o q i m) = refl

-- a mark is next where it can be taken, whatever the spacing of its last character
pub sees_mark : (cs : Text) → known_mark cs ≡ true → (ts : Stream) → sees (at_mark cs) ts ≡ taken (take_mark cs ts)
unfolding sees lookahead_at take_mark
sees_mark cs w ts = sees_chars cs w ts ∙ of_marked (take_chars cs ts)
  where
    of_marked : (o : Chars) → taken o ≡ taken (marked o)
    of_marked None = refl
    of_marked (Some p) = refl

pub sees_one : (c : ℕ) (ts : Stream) → sees (at_mark (c ∷ [])) ts ≡ taken (take_mark (c ∷ []) ts)
sees_one c ts = sees_mark (c ∷ []) refl ts

-- ---- of a lifetime
abbrev none_begins : Text → List Text → Bool
none_begins m [] = true
none_begins m (x ∷ ms) = and (no (begins_text m x)) (none_begins m ms)

longest_off : (m : Text) (ms : List Text) (t one : Text) → none_begins m ms ≡ true → begins_text m one ≡ false → begins_text m (longest ms t one) ≡ false
longest_off m [] t one w e = e
longest_off m (x ∷ ms) t one w e = go (begins_text x t) (longest_off m ms t one (and_right (no (begins_text m x)) _ w) e)
  where
    go : (b : Bool) → begins_text m (longest ms t one) ≡ false → begins_text m (pick b x (longest ms t one)) ≡ false
    go true ih = no_true (begins_text m x) (and_left (no (begins_text m x)) _ w)
    go false ih = ih

-- a lifetime is next where it can be taken: its `'` is joined to an identifier
pub sees_lifetime : (ts : Stream) → sees at_lifetime ts ≡ taken (take_lifetime ts)
unfolding sees lookahead_at take_lifetime
sees_lifetime end = refl
sees_lifetime (leaf x sp m) = leaf_mark lifetime_mark x
sees_lifetime (group d o q i m) = refl
sees_lifetime (punct c false sp m) = and_off (nat_eq 39 c)
sees_lifetime (punct c true sp end) = and_off (nat_eq 39 c)
sees_lifetime (punct c true sp (group d o q i m)) = and_off (nat_eq 39 c)
sees_lifetime (punct c true sp (leaf (literal k x) sq m)) = and_off (nat_eq 39 c)
sees_lifetime (punct c true sp (punct d j sq m)) =
    not_punctuation (λ f. starts_mark lifetime_mark (join c f)) (λ l. longest_off lifetime_mark long_marks (c ∷ l) (c ∷ []) refl (and_off (nat_eq 39 c))) d j (lookahead m).terminal
sees_lifetime (punct c true sp (leaf (ident x) sq m)) = go (one_of_texts x (keywords ++ contextual))
  where
    joined : (v : Bool) → nat_eq c 39 ≡ v → begins_text lifetime_mark (pick v lifetime_mark (c ∷ [])) ≡ taken {A = TreeAndRest} (only v (Some (Lifetime sp x sq, m)))
    joined true e = refl
    joined false e = and_off (nat_eq 39 c)

    go : (b : Bool) → starts_mark lifetime_mark (join c (pick b (Word x) Name)) ≡ taken {A = TreeAndRest} (only (nat_eq c 39) (Some (Lifetime sp x sq, m)))
    go true = joined (nat_eq c 39) refl
    go false = joined (nat_eq c 39) refl
