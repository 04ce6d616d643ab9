-- What the grammar states of paths and of the `:` before one, by peeks.
use Rattle.std.proofs.Common.{◌≡◌, ℕ, Bool, true, false, List, [], ◌∷◌, ◌++◌, nat_eq, Some, None, refl, sym, ap, ◌∙◌, subst, true≢false}
use Rattle.std.proofs.lemmas.Bool.{eqb-true}
use Rattle.syn_grammar.specs.Words.{Text, keywords, contextual, colon, exclamation, less, pound, w_async, w_auto, w_const, w_crate, w_default, w_mut, w_self, w_Self_type, w_static, w_super, w_union, w_unsafe}
use Rattle.syn_grammar.specs.Tokens.{Span, Delimiter, Paren, Brace, Bracket, None as Invisible, LitKind, Stream, end, leaf, punct, group, ident, literal, or, and, pick, same_text, one_of_texts, has_fact, same_fact, Fact, Before_colons, Before_macro, Before_own_self, Begins_item, Not_item, Asked, asked, asked_by_mark, asked_by_word, asked_inside, facts_for, Lookahead, lookahead, lookahead_with, punctuation_facts, punctuation_lookahead, lone_facts, char_terminal, answers, Terminal, Ended, Name, Word, Punctuation, Literal, Delimited, at_path_word, ahead, ◌and_also◌}
use Rattle.syn_grammar.specs.Grammar.{Syntax}
use Rattle.syn_grammar.specs.Take.{Out, sees, lookahead_at, take_mark, only, marked}
use Rattle.syn_grammar.specs.Table.{at_colon, at_colons, at_lone_colon, at_macro}
use Rattle.syn_grammar.proofs.Looks.{sees_one}
use Rattle.syn_grammar.proofs.Sets.{same_text_eq}
use Rattle.syn_parse.specs.Peeks.{past}
use Rattle.syn_recognize.proofs.Facts.{asks, not_known, reported_first}
use Rattle.syn_recognize.specs.ItemLooks.{macro_from}
use Rattle.syn_recognize.proofs.PathLooks.{face, is_path_word, others, passed, word_settles}
use Rattle.syn_recognize.proofs.Passed.{mark_passed}

or_none : (b : Bool) → or b false ≡ b
or_none true = refl
or_none false = refl

-- WHAT DOESN'T STATE THIS FACT
abbrev silent : Fact → Lookahead → Asked → Type 0
silent n f l = has_fact n (facts_for l f) ≡ false

-- one of two conditions, of which the first doesn't test this fact
either_way : (n : Fact) (f : Lookahead) (b : Bool) (u v : Asked) → (b ≡ true → asks n u ≡ false) → silent n f v → silent n f (pick b u v)
either_way n f true u v h k = not_known n u f (h refl)
either_way n f false u v h k = k

-- a word of no path
module _ (n : Fact) (own : same_fact n Before_own_self ≡ false) (item : same_fact n Begins_item ≡ false) (other : same_fact n Not_item ≡ false) (f : Lookahead) where
  alone : (k : Fact) → same_fact n k ≡ false → or (same_fact n k) false ≡ false
  alone k e = ap (λ b. or b false) e

  module _ (x : Text) (e : is_path_word (Word x) ≡ false) where
    none : {X : Type 0} (w : Text) → is_path_word (Word w) ≡ true → same_text x w ≡ true → X
    none w t h = absurd (true≢false (sym t ∙ ap (λ z. is_path_word (Word z)) (sym (same_text_eq x w h)) ∙ e))

    no_start : {X : Type 0} → one_of_texts x (w_crate ∷ w_self ∷ w_super ∷ []) ≡ true → X
    no_start {X} h = go (same_text x w_crate) (same_text x w_self) (same_text x w_super) refl refl refl h
      where
        go : (a b c : Bool) → same_text x w_crate ≡ a → same_text x w_self ≡ b → same_text x w_super ≡ c → or a (or b (or c false)) ≡ true → X
        go true b c p q r h = none w_crate refl p
        go false true c p q r h = none w_self refl q
        go false false true p q r h = none w_super refl r
        go false false false p q r h = absurd (true≢false (sym h))

    no_contextual : {X : Type 0} → one_of_texts x contextual ≡ true → X
    no_contextual h = absurd (true≢false (sym (ap (λ b. or b (or (same_text w_self x) (or (same_text w_Self_type x) (or (same_text w_super x) (same_text w_crate x))))) h) ∙ e))

    word_silent : silent n f (asked_by_word x)
    word_silent =
        either_way n f (one_of_texts x (w_crate ∷ w_self ∷ w_super ∷ [])) _ _ (λ h. no_start h)
        (either_way n f (same_text x w_Self_type) _ _ (λ h. none w_Self_type refl h)
        (either_way n f (same_text x w_mut) _ _ (λ h. alone Before_own_self own)
        (either_way n f (same_text x w_static) _ _ (λ h. alone Begins_item item)
        (either_way n f (same_text x w_async) _ _ (λ h. alone Begins_item item)
        (either_way n f (same_text x w_const) _ _ (λ h. alone Not_item other)
        (either_way n f (same_text x w_unsafe) _ _ (λ h. alone Not_item other)
        (either_way n f (same_text x w_union) _ _ (λ h. none w_union refl h)
        (either_way n f (same_text x w_auto) _ _ (λ h. none w_auto refl h)
        (either_way n f (same_text x w_default) _ _ (λ h. none w_default refl h)
        (either_way n f (one_of_texts x contextual) _ _ (λ h. no_contextual h) refl))))))))))

  pub other_silent : (x : Text) → is_path_word (face x) ≡ false → silent n f (asked (face x))
  other_silent x e = go (one_of_texts x (keywords ++ contextual)) e
    where
      go : (b : Bool) → is_path_word (pick b (Word x) Name) ≡ false → silent n f (asked (pick b (Word x) Name))
      go true e = word_silent x e
      go false e = absurd (true≢false e)

-- a group
inside_silent : (n : Fact) (d : Delimiter) (f : Lookahead) → asks n (asked_inside Paren) ≡ false → silent n f (asked_inside d)
inside_silent n Paren f e = not_known n (asked_inside Paren) f e
inside_silent n Brace f e = refl
inside_silent n Bracket f e = refl
inside_silent n Invisible f e = refl

-- a mark
one_mark : (c : ℕ) (f : Lookahead) → silent Before_colons f (asked_by_mark (c ∷ []))
one_mark c f =
    either_way Before_colons f (same_text (c ∷ []) exclamation) _ _ (λ h. refl)
    (either_way Before_colons f (same_text (c ∷ []) colon) _ _ (λ h. refl)
    (either_way Before_colons f (same_text (c ∷ []) pound) _ _ (λ h. refl)
    (either_way Before_colons f (same_text (c ∷ []) less) _ _ (λ h. refl) refl)))

-- the second character of `::`
second_silent : (m : Stream) → has_fact Before_colons (lone_facts (lookahead m).terminal (lookahead m).facts) ≡ false
second_silent end = refl
second_silent (leaf (ident x) sp m) = go (one_of_texts x (keywords ++ contextual))
  where
    go : (b : Bool) → has_fact Before_colons (lone_facts (pick b (Word x) Name) (facts_for (asked (pick b (Word x) Name)) (lookahead m))) ≡ false
    go true = refl
    go false = refl
second_silent (leaf (literal k x) sp m) = refl
second_silent (group d o c i m) = refl
second_silent (punct c j sp m) = go (char_terminal c j (lookahead m).terminal)
  where
    go : (t : Terminal) → has_fact Before_colons (lone_facts t (punctuation_facts c t (lookahead m))) ≡ false
    go (Punctuation (x ∷ [])) = one_mark c (lookahead m)
    go (Punctuation []) = refl
    go (Punctuation (x ∷ y ∷ l)) = refl
    go Ended = refl
    go Name = refl
    go (Word x) = refl
    go (Literal k) = refl
    go (Delimited d v) = refl

mark_silent : (c : ℕ) (j : Bool) (sp : Span) (m : Stream) → sees (ahead Before_colons) (punct c j sp m) ≡ false
unfolding sees lookahead_at
mark_silent c j sp m = go (char_terminal c j (lookahead m).terminal)
  where
    by : (b : Bool) → has_fact Before_colons (pick b (lone_facts (lookahead m).terminal (lookahead m).facts) []) ≡ false
    by true = second_silent m
    by false = refl

    go : (t : Terminal) → has_fact Before_colons (punctuation_facts c t (lookahead m)) ≡ false
    go (Punctuation (x ∷ [])) = one_mark c (lookahead m)
    go (Punctuation []) = refl
    go (Punctuation (x ∷ y ∷ [])) = by (nat_eq c 58)
    go (Punctuation (x ∷ y ∷ z ∷ l)) = refl
    go Ended = refl
    go Name = refl
    go (Word x) = refl
    go (Literal k) = refl
    go (Delimited d v) = refl

-- `::` AFTER A WORD OF A PATH
by_word : (b : Bool) (a c : Bool) → (b ≡ true → a ≡ c) → (b ≡ false → a ≡ false) → a ≡ and b c
by_word true a c h k = h refl
by_word false a c h k = k refl

silent_at : (n : Fact) → same_fact n Before_own_self ≡ false → same_fact n Begins_item ≡ false → same_fact n Not_item ≡ false → (x : Text) (sp : Span) (m : Stream) → sees at_path_word (leaf (ident x) sp m) ≡ false → sees (ahead n) (leaf (ident x) sp m) ≡ false
unfolding sees lookahead_at
silent_at n own item other x sp m e = other_silent n own item other (lookahead m) x e

silent_group : (n : Fact) → asks n (asked_inside Paren) ≡ false → (d : Delimiter) (o c : Span) (i m : Stream) → sees (ahead n) (group d o c i m) ≡ false
unfolding sees lookahead_at
silent_group n e d o c i m = inside_silent n d (lookahead i) e

silent_literal : (n : Fact) (k : LitKind) (x : Text) (sp : Span) (m : Stream) → sees (ahead n) (leaf (literal k x) sp m) ≡ false
unfolding sees lookahead_at
silent_literal n k x sp m = refl

silent_end : (n : Fact) → sees (ahead n) end ≡ false
unfolding sees lookahead_at
silent_end n = refl

pub before_colons_seen : (ts : Stream) → sees (ahead Before_colons) ts ≡ and (sees at_path_word ts) (sees at_colons (past ts))
before_colons_seen ts = by_word (sees at_path_word ts) (sees (ahead Before_colons) ts) (sees at_colons (past ts)) (λ h. (word_settles ts h).2) (others ts)
  where
    others : (ts : Stream) → sees at_path_word ts ≡ false → sees (ahead Before_colons) ts ≡ false
    others end e = silent_end Before_colons
    others (leaf (ident x) sp m) e = silent_at Before_colons refl refl refl x sp m e
    others (leaf (literal k x) sp m) e = silent_literal Before_colons k x sp m
    others (punct c j sp m) e = mark_silent c j sp m
    others (group d o c i m) e = silent_group Before_colons refl d o c i m

-- THE PATH OF A MACRO, or its rest after a `:`
mark_of_none : (c : ℕ) (f : Lookahead) → nat_eq c 58 ≡ false → silent Before_macro f (asked_by_mark (c ∷ []))
mark_of_none c f e =
    either_way Before_macro f (same_text (c ∷ []) exclamation) _ _ (λ h. refl)
    (either_way Before_macro f (same_text (c ∷ []) colon) _ _ (λ h. absurd (true≢false (sym h ∙ ap (λ b. and b true) e)))
    (either_way Before_macro f (same_text (c ∷ []) pound) _ _ (λ h. refl)
    (either_way Before_macro f (same_text (c ∷ []) less) _ _ (λ h. refl) refl)))

no_colon_settles : (c : ℕ) (j : Bool) (sp : Span) (m : Stream) → nat_eq c 58 ≡ false → sees (ahead Before_macro) (punct c j sp m) ≡ false
unfolding sees lookahead_at
no_colon_settles c j sp m e = go (char_terminal c j (lookahead m).terminal)
  where
    go : (t : Terminal) → has_fact Before_macro (punctuation_facts c t (lookahead m)) ≡ false
    go (Punctuation (x ∷ [])) = mark_of_none c (lookahead m) e
    go (Punctuation []) = refl
    go (Punctuation (x ∷ y ∷ [])) = ap (λ b. has_fact Before_macro (pick b (lone_facts (lookahead m).terminal (lookahead m).facts) [])) e
    go (Punctuation (x ∷ y ∷ z ∷ l)) = refl
    go Ended = refl
    go Name = refl
    go (Word x) = refl
    go (Literal k) = refl
    go (Delimited d v) = refl

colon_known : (f : Lookahead) → has_fact Before_macro (facts_for (asked (Punctuation (58 ∷ []))) f) ≡ answers (at_path_word and_also ahead Before_macro) f
colon_known f = passed Before_macro (asked (Punctuation (58 ∷ []))) f refl ∙ reported_first Before_macro (at_path_word and_also ahead Before_macro) (others (others (asked (Punctuation (58 ∷ []))))) f refl refl

-- a `:` that is joined to the token after it
abbrev colon_of : Lookahead → Lookahead
colon_of f = punctuation_lookahead 58 true f

abbrev Single : Lookahead → Type 0
Single f = answers at_lone_colon (colon_of f) ≡ true → has_fact Before_macro (colon_of f).facts ≡ answers (at_path_word and_also ahead Before_macro) f

single : (t : Terminal) (l : List Fact) → Single (lookahead_with t l)
single Ended l h = colon_known (lookahead_with Ended l)
single Name l h = colon_known (lookahead_with Name l)
single (Word x) l h = colon_known (lookahead_with (Word x) l)
single (Literal k) l h = colon_known (lookahead_with (Literal k) l)
single (Delimited d v) l h = colon_known (lookahead_with (Delimited d v) l)
single (Punctuation []) l h = colon_known (lookahead_with (Punctuation []) l)
single (Punctuation (d ∷ m)) l h = go (nat_eq 58 d) refl h
  where
    go : (b : Bool) → nat_eq 58 d ≡ b → Single (lookahead_with (Punctuation (d ∷ m)) l)
    go true e = subst (λ z. Single (lookahead_with (Punctuation (z ∷ m)) l)) (eqb-true 58 d e) (λ h. absurd (true≢false (sym h)))
    go false e = rw e (λ h. colon_known (lookahead_with (Punctuation (d ∷ m)) l))

abbrev Double : Lookahead → Type 0
Double f = answers at_lone_colon (colon_of f) ≡ false → has_fact Before_macro (colon_of f).facts ≡ answers at_macro (colon_of f)

double : (t : Terminal) (l : List Fact) → Double (lookahead_with t l)
double Ended l h = absurd (true≢false h)
double Name l h = absurd (true≢false h)
double (Word x) l h = absurd (true≢false h)
double (Literal k) l h = absurd (true≢false h)
double (Delimited d v) l h = absurd (true≢false h)
double (Punctuation []) l h = absurd (true≢false h)
double (Punctuation (d ∷ m)) l h = go (nat_eq 58 d) refl h
  where
    go : (b : Bool) → nat_eq 58 d ≡ b → Double (lookahead_with (Punctuation (d ∷ m)) l)
    go true e = subst (λ z. Double (lookahead_with (Punctuation (z ∷ m)) l)) (eqb-true 58 d e) (λ h. refl)
    go false e = rw e (λ h. absurd (true≢false h))

at_single : (j : Bool) (sp : Span) (m : Stream) → sees at_lone_colon (punct 58 j sp m) ≡ true → sees (ahead Before_macro) (punct 58 j sp m) ≡ macro_from m
unfolding sees lookahead_at
at_single false sp m h = colon_known (lookahead m)
at_single true sp m h = single (lookahead m).terminal (lookahead m).facts h

at_double : (j : Bool) (sp : Span) (m : Stream) → sees at_lone_colon (punct 58 j sp m) ≡ false → sees (ahead Before_macro) (punct 58 j sp m) ≡ sees at_macro (punct 58 j sp m)
unfolding sees lookahead_at
at_double false sp m h = absurd (true≢false h)
at_double true sp m h = double (lookahead m).terminal (lookahead m).facts h

-- the fact doesn't hold where no word of a path is next
if_word : (p c a : Bool) → (p ≡ false → a ≡ false) → a ≡ and (or p c) a
if_word true c a h = refl
if_word false true a h = refl
if_word false false a h = h refl

no_one : (b a : Bool) → a ≡ false → a ≡ and b a
no_one true a h = refl
no_one false a h = h

abbrev AsMacro : Stream → Type 0
AsMacro ts = sees (ahead Before_macro) ts ≡ sees at_macro ts

-- no single `:` is next
pub no_single_colon : (ts : Stream) → sees at_lone_colon ts ≡ false → AsMacro ts
unfolding sees
no_single_colon end e = no_one _ _ (silent_end Before_macro)
no_single_colon (leaf (ident x) sp m) e = if_word (sees at_path_word (leaf (ident x) sp m)) (sees at_colons (leaf (ident x) sp m)) (sees (ahead Before_macro) (leaf (ident x) sp m)) (λ h. silent_at Before_macro refl refl refl x sp m h)
no_single_colon (leaf (literal k x) sp m) e = no_one _ _ (silent_literal Before_macro k x sp m)
no_single_colon (punct c j sp m) e = go (nat_eq c 58) refl e
  where
    go : (b : Bool) → nat_eq c 58 ≡ b → sees at_lone_colon (punct c j sp m) ≡ false → AsMacro (punct c j sp m)
    go true p = subst (λ z. sees at_lone_colon (punct z j sp m) ≡ false → AsMacro (punct z j sp m)) (sym (eqb-true c 58 p)) (at_double j sp m)
    go false p = λ h. no_one _ _ (no_colon_settles c j sp m p)
no_single_colon (group d o c i m) e = no_one _ _ (silent_group Before_macro refl d o c i m)

-- one is
left_of : Out → Stream
left_of (Some p) = p.1
left_of None = end

single_colon : (ts : Stream) (s : Syntax) (m : Stream) → sees at_lone_colon ts ≡ true → take_mark colon ts ≡ Some (s, m) → sees (ahead Before_macro) ts ≡ macro_from m
unfolding take_mark left_of
single_colon end s m h e = absurd (cc e)
single_colon (leaf x sp r) s m h e = absurd (cc e)
single_colon (group d o c i r) s m h e = absurd (cc e)
single_colon (punct c j sp r) s m h e = go (nat_eq c 58) refl h e
  where
    go : (b : Bool) → nat_eq c 58 ≡ b → sees at_lone_colon (punct c j sp r) ≡ true → marked (only b (Some ((c, sp) ∷ [], r))) ≡ Some (s, m) → sees (ahead Before_macro) (punct c j sp r) ≡ macro_from m
    go true p h e = subst (λ z. sees at_lone_colon (punct z j sp r) ≡ true → sees (ahead Before_macro) (punct z j sp r) ≡ macro_from r) (sym (eqb-true c 58 p)) (at_single j sp r) h ∙ ap macro_from (ap left_of e)
    go false p h e = absurd (cc e)

pub colon_passed : (ts : Stream) → sees at_lone_colon ts ≡ true → sees (ahead Before_macro) ts ≡ macro_from (past ts)
unfolding sees
colon_passed ts h = let p = mark_passed 58 refl ts (sym (sees_one 58 ts) ∙ left_true (sees at_colon ts) _ h) in single_colon ts p.0 (past ts) h p.1
  where
    left_true : (a b : Bool) → and a b ≡ true → a ≡ true
    left_true true b h = refl
    left_true false b h = absurd (true≢false (sym h))

-- after it
pub from_word : (ts : Stream) → sees at_path_word ts ≡ true → macro_from ts ≡ sees at_macro ts
unfolding sees
from_word ts h = ap (λ b. and b (sees (ahead Before_macro) ts)) h ∙ sym (ap (λ b. and (or b (sees at_colons ts)) (sees (ahead Before_macro) ts)) h)

pub from_no_word : (ts : Stream) → sees at_path_word ts ≡ false → macro_from ts ≡ false
from_no_word ts h = ap (λ b. and b (sees (ahead Before_macro) ts)) h
