-- Whether generics lead an impl is seen in its tokens as in its print.
use Rattle.std.proofs.Common.{◌≡◌, ℕ, Bool, true, false, List, [], ◌∷◌, ◌++◌, Some, None, refl, sym, ap, ap₂, ◌∙◌, subst, true≢false, ◌⊎◌, inl, inr}
use Rattle.std.specs.Prelude.{nat_eq}
use Rattle.syn_grammar.specs.Words.{Text, keywords, contextual, w_as, w_const, w_for, w_self, w_super, w_crate, w_Self_type, long_marks, less, less_equals, greater, pound, lifetime_mark, colon, colons, exclamation}
use Rattle.syn_grammar.specs.Tokens.{Span, Delimiter, Paren, starts_mark, is_word, is_name, is_group, one_of_texts, Leaf, ident, literal, Stream, end, leaf, punct, group, ◌⧺◌, or, and, no, pick, Terminal, Ended, Name, Word, Punctuation, Literal, Delimited, Lookahead, lookahead_with, Fact, has_fact, same_fact, Before_parameter, Before_type_rest, Before_less, Asked, asked, facts_for, leaf_terminal, char_terminal, punctuation_facts, longest, lookahead, present, answers, Look, at_name, at_word, at_mark, at_group, ahead, ◌or_else◌, ◌and_also◌, ◌but_not◌, at_lifetime, at_parameter, at_generics}
use Rattle.syn_grammar.specs.Rules.{Rule, type, type_path, type_words, more_type_words, type_arguments, generic_arguments, path_as_type, qualified_path, self_type, for_self_type, impl_body}
use Rattle.syn_grammar.specs.RuleNumbers.{same_rule}
use Rattle.syn_grammar.specs.SelfTypes.{self_types}
use Rattle.syn_grammar.specs.Grammar.{Kind, underscore, rest_after, Rest, suits, sort, terminals, word, name_or, fits, among, chars, spell, Spelled, show, print, renew, led_part, DerivesPrefix, Grammar, empty, token, mark, lifetime, ◌&◌, when◌then◌else◌, vanishing, inside, raw, either, one_of, rule, such, captured, unshown, supplied, row, ordered, shaped, generics_before, Syntax, Nothing, Token, Mark, Lifetime, Both, Left, Right, Node, Vanishing, Group, Raw, Case, Such, Shaped, Captured, Unshown, Impl, Done, Last, More, Order}
use Rattle.syn_grammar.specs.Table.{table, at_colons, at_less_only, at_paren, at_arguments, at_named_word, first_type_facts, no_arguments, at_for}
use Rattle.syn_grammar.specs.Forms.{plainly, asking_punctuation, punctuation}
use Rattle.syn_grammar.specs.Shape.{untagged}
use Rattle.syn_grammar.specs.Take.{Out, sees, only, marked, add_char, take_chars, take_token, take_lifetime, take_mark, taken}
use Rattle.syn_grammar.specs.Alone.{all_of}
use Rattle.syn_grammar.specs.Leads.{generics_after, leads_on, Reads, TypeLeads, NeverLed, NotLed, PathLed, TypeLed, ImplLed}
use Rattle.syn_grammar.proofs.Sets.{or_split, or_left, or_right, and_left, and_right, no_true, every, every_at, same_look, same_look_eq}
use Rattle.syn_grammar.proofs.RuleLemmas.{same_rule_eq}
use Rattle.syn_grammar.proofs.Streams.{append_append, append_end, append_spell}
use Rattle.syn_grammar.proofs.Takes.{sees_present, token_known, token_found, mark_found}
use Rattle.syn_grammar.proofs.Looks.{sees_mark, sees_one, sees_lifetime}
use Rattle.syn_grammar.proofs.Known.{asked_for, asked_for_is}
use Rattle.syn_grammar.proofs.Marks.{heard_or_none, spell_spelled}
use Rattle.syn_grammar.proofs.PrintedValues.{print_value, led_part_value}
use Rattle.syn_grammar.proofs.Means.{reported, parse_rule_known}
use Rattle.syn_grammar.proofs.Alone.{of_every_rule, one_said}
use Rattle.syn_grammar.proofs.DecidedByTokens.{word_leaf}

-- ---- A CHARACTER IS FIRST: the only marks there are those that begin with it

-- a type continues from the name before this
abbrev type_continues : Look
type_continues = at_mark colons or_else at_mark less but_not at_mark less_equals or_else at_group Paren or_else at_word w_as

-- generics go on from the `<` before this
abbrev lists_on : Look
lists_on = at_mark greater or_else at_parameter

one_mark : (d c : ℕ) (j : Bool) (sp : Span) (m : Stream) → nat_eq c d ≡ false → present (at_mark (d ∷ [])) (punct c j sp m) ≡ false
unfolding take_mark
one_mark d c j sp m e = sym (sees_present (at_mark (d ∷ [])) (punct c j sp m)) ∙ sees_one d (punct c j sp m) ∙ ap (λ v. taken (marked (only v (Some ((c, sp) ∷ [], m))))) e

no_colons : (c : ℕ) (j : Bool) (sp : Span) (m : Stream) → nat_eq c 58 ≡ false → present (at_mark colons) (punct c j sp m) ≡ false
unfolding take_mark
no_colons c false sp m e = sym (sees_present (at_mark colons) (punct c false sp m)) ∙ sees_mark colons refl (punct c false sp m)
no_colons c true sp m e = sym (sees_present (at_mark colons) (punct c true sp m)) ∙ sees_mark colons refl (punct c true sp m) ∙ ap (λ v. taken (marked (only v (add_char c sp (take_chars colon m))))) e

no_lifetime : (c : ℕ) (j : Bool) (sp : Span) (m : Stream) → nat_eq c 39 ≡ false → present at_lifetime (punct c j sp m) ≡ false
unfolding take_lifetime
no_lifetime c false sp m e = sym (sees_present at_lifetime (punct c false sp m)) ∙ sees_lifetime (punct c false sp m)
no_lifetime c true sp (leaf (ident x) sq m) e = sym (sees_present at_lifetime (punct c true sp (leaf (ident x) sq m))) ∙ sees_lifetime (punct c true sp (leaf (ident x) sq m)) ∙ ap (λ v. taken {A = Syntax × Stream} (only v (Some (Lifetime sp x sq, m)))) e
no_lifetime c true sp (leaf (literal k x) sq m) e = sym (sees_present at_lifetime (punct c true sp (leaf (literal k x) sq m))) ∙ sees_lifetime (punct c true sp (leaf (literal k x) sq m))
no_lifetime c true sp end e = sym (sees_present at_lifetime (punct c true sp end)) ∙ sees_lifetime (punct c true sp end)
no_lifetime c true sp (punct d k sq m) e = sym (sees_present at_lifetime (punct c true sp (punct d k sq m))) ∙ sees_lifetime (punct c true sp (punct d k sq m))
no_lifetime c true sp (group d o k i m) e = sym (sees_present at_lifetime (punct c true sp (group d o k i m))) ∙ sees_lifetime (punct c true sp (group d o k i m))

a_mark : (c : ℕ) (j : Bool) (t : Terminal) → (l : Text) × (char_terminal c j t ≡ Punctuation l)
a_mark c false t = (_, refl)
a_mark c true (Punctuation l) = (_, refl)
a_mark c true Name = (_, refl)
a_mark c true (Word x) = (_, refl)
a_mark c true Ended = (_, refl)
a_mark c true (Literal k) = (_, refl)
a_mark c true (Delimited d v) = (_, refl)

no_word : (w : Text) (c : ℕ) (j : Bool) (sp : Span) (m : Stream) → present (at_word w) (punct c j sp m) ≡ false
no_word w c j sp m = ap (is_word w) (a_mark c j (lookahead m).terminal).1

no_name : (c : ℕ) (j : Bool) (sp : Span) (m : Stream) → present at_name (punct c j sp m) ≡ false
no_name c j sp m = ap is_name (a_mark c j (lookahead m).terminal).1

no_group : (d : Delimiter) (c : ℕ) (j : Bool) (sp : Span) (m : Stream) → present (at_group d) (punct c j sp m) ≡ false
no_group d c j sp m = ap (is_group d) (a_mark c j (lookahead m).terminal).1

-- first characters that continue no list, and that begin no generics
abbrev off_list : ℕ → Bool
off_list c = and (no (nat_eq c 62)) (and (no (nat_eq c 35)) (no (nat_eq c 39)))

abbrev off_less : ℕ → Bool
off_less c = no (nat_eq c 60)

-- a stream that begins with such a character, or with a group
abbrev clear : (ℕ → Bool) → Stream → Bool
clear t (punct c j sp m) = t c
clear t (group d o c i m) = true
clear t _ = false

list_off : (ts : Stream) → clear off_list ts ≡ true → present lists_on ts ≡ false
list_off (punct c j sp m) e =
    let e' = and_right (no (nat_eq c 62)) _ e in
    ap₂ or (one_mark 62 c j sp m (no_true (nat_eq c 62) (and_left (no (nat_eq c 62)) _ e)))
    (ap₂ or (one_mark 35 c j sp m (no_true (nat_eq c 35) (and_left (no (nat_eq c 35)) _ e')))
    (ap₂ or (no_lifetime c j sp m (no_true (nat_eq c 39) (and_right (no (nat_eq c 35)) _ e')))
    (ap₂ or (no_word w_const c j sp m) (ap (λ z. and z (no (present (ahead Before_type_rest) (punct c j sp m)))) (no_name c j sp m)))))
list_off (group d o c i m) e = refl
list_off end e = absurd (true≢false (sym e))
list_off (leaf x sp m) e = absurd (true≢false (sym e))

less_off : (ts : Stream) → clear off_less ts ≡ true → present at_generics ts ≡ false
less_off (punct c j sp m) e = ap (λ z. and z (present (ahead Before_parameter) (punct c j sp m))) (one_mark 60 c j sp m (no_true (nat_eq c 60) e))
less_off (group d o c i m) e = refl
less_off end e = absurd (true≢false (sym e))
less_off (leaf x sp m) e = absurd (true≢false (sym e))

-- no such character continues a type
type_off : (c : ℕ) (j : Bool) (sp : Span) (m : Stream) → nat_eq c 58 ≡ false → nat_eq c 60 ≡ false → present type_continues (punct c j sp m) ≡ false
type_off c j sp m e f =
    ap₂ or (no_colons c j sp m e) (ap₂ or (ap (λ z. and z (no (present (at_mark less_equals) (punct c j sp m)))) (one_mark 60 c j sp m f)) (ap₂ or (no_group Paren c j sp m) (no_word w_as c j sp m)))

-- ---- WHAT IS PRINTED BEGINS SO, too
heads_spelled : (t : ℕ → Bool) (c : ℕ) (cs : Text) (xs : List (ℕ × Span)) (ts r : Stream) → t c ≡ true → chars xs ≡ c ∷ cs → Spelled xs ts r → (clear t ts ≡ true) × ((us : Stream) → clear t (spell xs end ⧺ us) ≡ true)
heads_spelled t c cs [] ts r w e h = elim h [ ]
heads_spelled t c cs (x ∷ []) ts r w e h =
    let n : x.0 ≡ c = cc e in
    (ap (clear t) h.1 ∙ ap t n ∙ w, λ us. ap t n ∙ w)
heads_spelled t c cs (x ∷ y ∷ l) ts r w e h =
    let n : x.0 ≡ c = cc e in
    (ap (clear t) h.1 ∙ ap t n ∙ w, λ us. ap t n ∙ w)

-- a form that begins so
abbrev dull : (ℕ → Bool) → Grammar → Bool
dull t (mark b (c ∷ cs)) = t c
dull t (g & h) = dull t g
dull t (when c then g else h) = and (dull t g) (dull t h)
dull t (inside d g) = true
dull t _ = false

false_true : false ≡ true → ⊥
false_true e = true≢false (sym e)

dull_read : (t : ℕ → Bool) (g : Grammar) (s : Syntax) (ts r : Stream) → dull t g ≡ true → DerivesPrefix table g s ts r → (clear t ts ≡ true) × ((us : Stream) → clear t (print s ⧺ us) ≡ true)
dull_read t (mark b (c ∷ cs)) (Mark xs) ts r w h = heads_spelled t c cs xs ts r w h.0 h.1
dull_read t (g & h) (Both s u) ts r w (m, a, b) =
    let (e, k) = dull_read t g s ts m w a in
    (e, λ us. ap (clear t) (append_append (print s) (print u) us) ∙ k (print u ⧺ us))
dull_read t (when c then g else h) (Left s) ts r w (v, a) = dull_read t g s ts r (and_left (dull t g) _ w) a
dull_read t (when c then g else h) (Right s) ts r w (v, a) = dull_read t h s ts r (and_right (dull t g) _ w) a
dull_read t (inside d g) (Group d' o c s) ts r w (p, i, f, a) = (ap (clear t) f, λ us. refl)
dull_read t _ _ ts r w h = search false_true

-- this look gives the same result for what was read and for its print
abbrev Alike : Look → Syntax → Stream → Stream → Type 0
Alike c s ts us = present c (print s ⧺ us) ≡ present c ts

abbrev typed : (ℕ → Bool) → Grammar → Bool
typed t (when c then g else h) = and (typed t g) (typed t h)
typed t (rule k) = same_rule k path_as_type
typed t g = dull t g

module _ (t : ℕ → Bool) (c : Look) (off : (ts : Stream) → clear t ts ≡ true → present c ts ≡ false) where
  dull_alike : (g : Grammar) (s : Syntax) (ts r us : Stream) → dull t g ≡ true → DerivesPrefix table g s ts r → Alike c s ts us
  dull_alike g s ts r us w x =
      let (e, k) = dull_read t g s ts r w x in
      off (print s ⧺ us) (k us) ∙ sym (off ts e)

  by_path : (r us : Stream) → ((s : Syntax) (ts : Stream) → DerivesPrefix table (table path_as_type) s ts r → Alike c s ts us) → (g : Grammar) (s : Syntax) (ts : Stream) → typed t g ≡ true → DerivesPrefix table g s ts r → Alike c s ts us
  by_path r us base (when d then g else h) (Left s) ts w (v, x) = by_path r us base g s ts (and_left (typed t g) _ w) x
  by_path r us base (when d then g else h) (Right s) ts w (v, x) = by_path r us base h s ts (and_right (typed t g) _ w) x
  by_path r us base (when d then g else h) _ ts w x = elim x [ ]
  by_path r us base (rule k) (Node s) ts w x = base s ts (subst (λ z. DerivesPrefix table (table z) s ts r) (same_rule_eq k path_as_type w) x)
  by_path r us base (rule k) _ ts w x = elim x [ ]
  by_path r us base g s ts w x = dull_alike g s ts r us w x

-- ---- AFTER THE FIRST WORD of a path: whether a type continues there
abbrev Onward : Stream → Stream → Type 0
Onward ts us = present type_continues us ≡ present type_continues ts

on_colons : (xs : List (ℕ × Span)) (ts r : Stream) → chars xs ≡ colons → Spelled xs ts r → present type_continues ts ≡ true
on_colons xs ts r e h = or_left (present (at_mark colons) ts) _ (sym (sees_present (at_mark colons) ts) ∙ sees_mark colons refl ts ∙ ap taken (mark_found xs colons ts r e h))

colons_printed : (xs : List (ℕ × Span)) (ts r us : Stream) → chars xs ≡ colons → Spelled xs ts r → present type_continues (spell xs end ⧺ us) ≡ true
colons_printed xs ts r us e h = ap (present type_continues) (append_spell xs end us) ∙ on_colons xs (spell xs us) us e (spell_spelled xs ts r us h)

more_words : (s : Syntax) (ts r us : Stream) → DerivesPrefix table (when at_colons then asking_punctuation colons & rule more_type_words else empty) s ts r → Onward r us → Onward ts (print s ⧺ us)
more_words (Left (Both (Mark xs) u)) ts r us (v, (m, x, y)) w =
    ap (present type_continues) (append_append (spell xs end) (print u) us) ∙ colons_printed xs ts m (print u ⧺ us) x.0 x.1 ∙ sym (on_colons xs ts m x.0 x.1)
more_words (Left (Both _ u)) ts r us (v, (m, x, y)) w = elim x [ ]
more_words (Left _) ts r us (v, x) w = elim x [ ]
more_words (Right Nothing) ts r us (v, x) w = w ∙ ap (present type_continues) (sym x)
more_words (Right _) ts r us (v, x) w = elim x [ ]
more_words _ ts r us x w = elim x [ ]

less_printed : (xs : List (ℕ × Span)) (ts r us : Stream) → chars xs ≡ less → Spelled xs ts r → present type_continues (spell xs us) ≡ true
less_printed [] ts r us e h = elim h [ ]
less_printed (x ∷ []) ts r us e h = let n : x.0 ≡ 60 = cc e in ap (λ z. present type_continues (punct z false x.1 us)) n
less_printed (x ∷ y ∷ l) ts r us e h = absurd (cc e)

list_printed : (s : Syntax) (ts r us : Stream) → DerivesPrefix table (table generic_arguments) s ts r → present type_continues (print s ⧺ us) ≡ true
list_printed (Order xs l ys) ts r us (m, e, d, m', a, e', d') =
    ap (present type_continues) (append_spell xs (show (sort (renew l)) ⧺ spell ys end) us) ∙ less_printed xs ts m ((show (sort (renew l)) ⧺ spell ys end) ⧺ us) e d
list_printed _ ts r us x = elim x [ ]

arguments_printed : (s : Syntax) (ts r us : Stream) → DerivesPrefix table (table type_arguments) s ts r → present type_continues (print s ⧺ us) ≡ true
arguments_printed (Left (Both (Group d o c i) u)) ts r us (v, (m, (p, k, f, x), y)) = ap (λ z. present type_continues ((group z o c (print i) end ⧺ print u) ⧺ us)) (sym p)
arguments_printed (Left (Both _ u)) ts r us (v, (m, x, y)) = elim x [ ]
arguments_printed (Left _) ts r us (v, x) = elim x [ ]
arguments_printed (Right (Both (Left (Mark xs)) u)) ts r us (v, (m, (w, x), y)) = ap (present type_continues) (append_append (spell xs end) (print u) us) ∙ colons_printed xs ts m (print u ⧺ us) x.0 x.1
arguments_printed (Right (Both (Left _) u)) ts r us (v, (m, (w, x), y)) = elim x [ ]
arguments_printed (Right (Both (Right Nothing) (Node l))) ts r us (v, (m, (w, x), y)) = list_printed l m r us y
arguments_printed (Right (Both (Right Nothing) _)) ts r us (v, (m, (w, x), y)) = elim y [ ]
arguments_printed (Right (Both (Right _) u)) ts r us (v, (m, (w, x), y)) = elim x [ ]
arguments_printed (Right (Both _ u)) ts r us (v, (m, x, y)) = elim x [ ]
arguments_printed (Right _) ts r us (v, x) = elim x [ ]
arguments_printed _ ts r us x = elim x [ ]

arguments_on : (f : Lookahead) → answers at_arguments f ≡ true → answers type_continues f ≡ true
arguments_on f e = go (or_split (answers at_less_only f) _ e)
  where
    colons_on : (answers at_paren f ≡ true) ⊎ (answers (at_colons and_also ahead Before_less) f ≡ true) → answers type_continues f ≡ true
    colons_on (inl q) = or_right (answers at_colons f) _ (or_right (answers at_less_only f) _ (or_left (answers at_paren f) _ q))
    colons_on (inr q) = or_left (answers at_colons f) _ (and_left (answers at_colons f) _ q)

    go : (answers at_less_only f ≡ true) ⊎ (answers (at_paren or_else (at_colons and_also ahead Before_less)) f ≡ true) → answers type_continues f ≡ true
    go (inl q) = or_right (answers at_colons f) _ (or_left (answers at_less_only f) _ q)
    go (inr q) = colons_on (or_split (answers at_paren f) _ q)

arguments : (s : Syntax) (ts r us : Stream) → DerivesPrefix table (when at_arguments then rule type_arguments else empty) s ts r → Onward r us → Onward ts (print s ⧺ us)
arguments (Left (Node a)) ts r us (v, x) w = arguments_printed a ts r us x ∙ sym (arguments_on (lookahead ts) v)
arguments (Left _) ts r us (v, x) w = elim x [ ]
arguments (Right Nothing) ts r us (v, x) w = w ∙ ap (present type_continues) (sym x)
arguments (Right _) ts r us (v, x) w = elim x [ ]
arguments _ ts r us x w = elim x [ ]

-- ---- THE FIRST WORD itself

-- of the conditions of a token, this fact reports this look alone
abbrev settles_only : Fact → Look → Asked → Bool
settles_only n c [] = true
settles_only n c (p ∷ l) = and (or (no (same_fact n p.1)) (same_look p.0 c)) (settles_only n c l)

known_alike : (n : Fact) (c : Look) (l : Asked) (f g : Lookahead) → settles_only n c l ≡ true → answers c f ≡ answers c g → has_fact n (facts_for l f) ≡ has_fact n (facts_for l g)
known_alike n c [] f g e h = refl
known_alike n c (p ∷ l) f g e h = sym (asked_for_is n (p ∷ l) f) ∙ go (same_fact n p.1) refl (asked_for_is n l f ∙ known_alike n c l f g (and_right (or (no (same_fact n p.1)) (same_look p.0 c)) _ e) h ∙ sym (asked_for_is n l g)) ∙ asked_for_is n (p ∷ l) g
  where
    both_off : (v : Bool) → same_fact n p.1 ≡ v → or (no v) (same_look p.0 c) ≡ true → v ≡ true → answers p.0 f ≡ answers p.0 g
    both_off true q w i = let k = same_look_eq p.0 c w in ap (λ z. answers z f) k ∙ h ∙ ap (λ z. answers z g) (sym k)
    both_off false q w i = absurd (true≢false (sym i))

    go : (v : Bool) → same_fact n p.1 ≡ v → answers (asked_for n l) f ≡ answers (asked_for n l) g → answers (pick (same_fact n p.1) (p.0 or_else asked_for n l) (asked_for n l)) f ≡ answers (pick (same_fact n p.1) (p.0 or_else asked_for n l) (asked_for n l)) g
    go true q ih =
        ap (λ z. answers (pick z (p.0 or_else asked_for n l) (asked_for n l)) f) q
        ∙ ap₂ or (both_off true q (ap (λ z. or (no z) (same_look p.0 c)) (sym q) ∙ and_left (or (no (same_fact n p.1)) (same_look p.0 c)) _ e) refl) ih
        ∙ ap (λ z. answers (pick z (p.0 or_else asked_for n l) (asked_for n l)) g) (sym q)
    go false q ih = ap (λ z. answers (pick z (p.0 or_else asked_for n l) (asked_for n l)) f) q ∙ ih ∙ ap (λ z. answers (pick z (p.0 or_else asked_for n l) (asked_for n l)) g) (sym q)

abbrev plain_word : Terminal → Bool
plain_word t = settles_only Before_type_rest type_continues (asked t)

word_alike : (k : Kind) (x : Leaf) (sp : Span) (m us : Stream) → every plain_word (terminals k) ≡ true → fits k x ≡ true → Onward m us → present lists_on (leaf x sp us) ≡ present lists_on (leaf x sp m)
word_alike k x sp m us w e h =
    let t = leaf_terminal x in
    let q = known_alike Before_type_rest type_continues (asked t) (lookahead us) (lookahead m) (every_at plain_word t (terminals k) w (and_right (suits k x) _ e)) h in
    ap (λ z. or (starts_mark greater t) (or (starts_mark pound t) (or (starts_mark lifetime_mark t) (or (is_word w_const t) (and (is_name t) (no z)))))) q

-- no word is a mark
no_less : (x : Leaf) (sp : Span) (m : Stream) → present at_generics (leaf x sp m) ≡ false
no_less (literal k x) sp m = refl
no_less (ident x) sp m = go (one_of_texts x (keywords ++ contextual)) (present (ahead Before_parameter) (leaf (ident x) sp m))
  where
    go : (b v : Bool) → and (starts_mark less (pick b (Word x) Name)) v ≡ false
    go true v = refl
    go false v = refl

-- a word and what follows it
abbrev first_word : Grammar
first_word = when at_named_word then token first_type_facts (name_or (w_Self_type ∷ [])) & shaped untagged (when at_arguments then rule type_arguments else empty) else token first_type_facts (name_or (w_self ∷ w_super ∷ w_crate ∷ [])) & no_arguments

first_alike : (s : Syntax) (ts r us : Stream) → DerivesPrefix table first_word s ts r → Onward r us → Alike lists_on s ts us
first_alike (Left (Both (Token x sp) (Shaped j a))) ts r us (v, (m, (e, f), (i, y))) w = word_alike (name_or (w_Self_type ∷ [])) x sp m (print a ⧺ us) refl e (arguments a m r us y w) ∙ ap (present lists_on) (sym f)
first_alike (Left (Both (Token x sp) _)) ts r us (v, (m, f, y)) w = elim y [ ]
first_alike (Left (Both _ a)) ts r us (v, (m, f, y)) w = elim f [ ]
first_alike (Left _) ts r us (v, x) w = elim x [ ]
first_alike (Right (Both (Token x sp) (Shaped j Nothing))) ts r us (v, (m, (e, f), (i, y))) w = word_alike (name_or (w_self ∷ w_super ∷ w_crate ∷ [])) x sp m us refl e (w ∙ ap (present type_continues) (sym y)) ∙ ap (present lists_on) (sym f)
first_alike (Right (Both (Token x sp) (Shaped j _))) ts r us (v, (m, f, (i, y))) w = elim y [ ]
first_alike (Right (Both (Token x sp) _)) ts r us (v, (m, f, y)) w = elim y [ ]
first_alike (Right (Both _ a)) ts r us (v, (m, f, y)) w = elim f [ ]
first_alike (Right _) ts r us (v, x) w = elim x [ ]
first_alike _ ts r us x w = elim x [ ]

words_alike : (s : Syntax) (ts r us : Stream) → DerivesPrefix table (table type_words) s ts r → Onward r us → Alike lists_on s ts us
words_alike (Both (Shaped j s) u) ts r us (m, (i, x), y) w = ap (present lists_on) (append_append (print s) (print u) us) ∙ first_alike s ts m (print u ⧺ us) x (more_words u m r us y w)
words_alike (Both _ u) ts r us (m, x, y) w = elim x [ ]
words_alike _ ts r us x w = elim x [ ]

path_alike : (s : Syntax) (ts r us : Stream) → DerivesPrefix table (table type_path) s ts r → Onward r us → Alike lists_on s ts us
path_alike (Both (Left (Mark xs)) u) ts r us (m, (v, (e, h)), y) w =
    let a = heads_spelled off_list 58 colon xs ts m refl e h in
    ap (present lists_on) (append_append (spell xs end) (print u) us) ∙ list_off (spell xs end ⧺ (print u ⧺ us)) (a.1 (print u ⧺ us)) ∙ sym (list_off ts a.0)
path_alike (Both (Left _) u) ts r us (m, (v, x), y) w = elim x [ ]
path_alike (Both (Right Nothing) (Node s)) ts r us (m, (v, x), y) w = words_alike s m r us y w ∙ ap (present lists_on) (sym x)
path_alike (Both (Right Nothing) _) ts r us (m, x, y) w = elim y [ ]
path_alike (Both (Right _) u) ts r us (m, (v, x), y) w = elim x [ ]
path_alike (Both _ u) ts r us (m, x, y) w = elim x [ ]
path_alike _ ts r us x w = elim x [ ]

-- ---- A TYPE, as what may begin a parameter
path_on : (r us : Stream) → Onward r us → (s : Syntax) (ts : Stream) → DerivesPrefix table (table path_as_type) s ts r → Alike lists_on s ts us
path_on r us w (Left (Node s)) ts (v, x) = dull_alike off_list lists_on list_off (table qualified_path) s ts r us refl x
path_on r us w (Left _) ts (v, x) = elim x [ ]
path_on r us w (Right (Node s)) ts (v, x) = path_alike s ts r us x w
path_on r us w (Right _) ts (v, x) = elim x [ ]
path_on r us w _ ts x = elim x [ ]

type_on : (s : Syntax) (ts r us : Stream) → DerivesPrefix table (table type) s ts r → Onward r us → Alike lists_on s ts us
type_on s ts r us x w = by_path off_list lists_on list_off r us (path_on r us w) (table type) s ts refl x

-- ---- BEHIND `<`: a parameter, or `>`
abbrev of_less : Asked
of_less = asked (Punctuation (60 ∷ []))

none_known : (l : Text) (f : Lookahead) → facts_for of_less f ≡ [] → punctuation_facts 60 (Punctuation l) f ≡ []
none_known [] f e = refl
none_known (x ∷ []) f e = e
none_known (x ∷ y ∷ []) f e = refl
none_known (x ∷ y ∷ z ∷ l) f e = refl

less_facts : (j : Bool) (t : Terminal) (l : List Fact) → has_fact Before_parameter (punctuation_facts 60 (char_terminal 60 j t) (lookahead_with t l)) ≡ has_fact Before_parameter (facts_for of_less (lookahead_with t l))
less_facts false t l = refl
less_facts true Ended l = refl
less_facts true Name l = refl
less_facts true (Word x) l = refl
less_facts true (Literal k) l = refl
less_facts true (Delimited d v) l = refl
less_facts true (Punctuation x) l = go (heard_or_none 60 of_less x l refl)
  where
    go : (facts_for of_less (lookahead_with (Punctuation x) l) ≡ []) ⊎ (longest long_marks (60 ∷ x) (60 ∷ []) ≡ 60 ∷ []) →
        has_fact Before_parameter (punctuation_facts 60 (char_terminal 60 true (Punctuation x)) (lookahead_with (Punctuation x) l)) ≡ has_fact Before_parameter (facts_for of_less (lookahead_with (Punctuation x) l))
    go (inl e) = ap (has_fact Before_parameter) (none_known (longest long_marks (60 ∷ x) (60 ∷ [])) (lookahead_with (Punctuation x) l) e) ∙ ap (has_fact Before_parameter) (sym e)
    go (inr e) = ap (λ z. has_fact Before_parameter (punctuation_facts 60 (Punctuation z) (lookahead_with (Punctuation x) l))) e

or_none : (b : Bool) → or b false ≡ b
or_none true = refl
or_none false = refl

known_or_not : (v : Bool) → has_fact Before_parameter (pick v (Before_parameter ∷ []) []) ≡ v
known_or_not true = refl
known_or_not false = refl

after_less : (j : Bool) (sp : Span) (m : Stream) → present at_generics (punct 60 j sp m) ≡ present lists_on m
unfolding take_mark
after_less j sp m =
    ap (λ z. and z (present (ahead Before_parameter) (punct 60 j sp m))) (sym (sees_present (at_mark less) (punct 60 j sp m)) ∙ sees_one 60 (punct 60 j sp m))
    ∙ less_facts j (lookahead m).terminal (lookahead m).facts ∙ known_or_not (present lists_on m)

-- ---- A QUALIFIED PATH, after its first type
abbrev first_end : Grammar
first_end = when at_word w_as then plainly (word w_as) & rule type_path else unshown

end_alike : (s u : Syntax) (ts m r us : Stream) (xs : List (ℕ × Span)) → DerivesPrefix table first_end s ts m → chars xs ≡ greater → Spelled xs m r → Onward ts (print s ⧺ (spell xs end ⧺ us))
end_alike (Left (Both (Token x sp) a)) u ts m r us xs (v, (n, (e, f), y)) g h =
    ap (λ z. present type_continues (leaf z sp (print a ⧺ (spell xs end ⧺ us)))) (word_leaf w_as x e) ∙ sym (ap (present type_continues) (f ∙ ap (λ z. leaf z sp n) (word_leaf w_as x e)))
end_alike (Left (Both _ a)) u ts m r us xs (v, (n, x, y)) g h = elim x [ ]
end_alike (Left _) u ts m r us xs (v, x) g h = elim x [ ]
end_alike (Right (Unshown s)) u ts m r us xs (v, (i, e)) g h = printed xs g h ∙ sym (ap (present type_continues) e ∙ read xs g h)
  where
    read : (xs : List (ℕ × Span)) → chars xs ≡ greater → Spelled xs m r → present type_continues m ≡ false
    read [] g h = elim h [ ]
    read (x ∷ []) g h = let n : x.0 ≡ 62 = cc g in ap (present type_continues) (h.1 ∙ ap (λ z. punct z h.0 x.1 r) n) ∙ type_off 62 h.0 x.1 r refl refl
    read (x ∷ y ∷ l) g h = absurd (cc g)

    printed : (xs : List (ℕ × Span)) → chars xs ≡ greater → Spelled xs m r → present type_continues (spell xs end ⧺ us) ≡ false
    printed [] g h = elim h [ ]
    printed (x ∷ []) g h = let n : x.0 ≡ 62 = cc g in ap (λ z. present type_continues (punct z false x.1 us)) n
    printed (x ∷ y ∷ l) g h = absurd (cc g)
end_alike (Right _) u ts m r us xs (v, x) g h = elim x [ ]
end_alike _ u ts m r us xs x g h = elim x [ ]

less_alike : (xs : List (ℕ × Span)) (ts m us : Stream) → chars xs ≡ less → Spelled xs ts m → present lists_on us ≡ present lists_on m → present at_generics (spell xs us) ≡ present at_generics ts
less_alike [] ts m us e h w = elim h [ ]
less_alike (x ∷ []) ts m us e h w =
    let n : x.0 ≡ 60 = cc e in
    ap (λ z. present at_generics (punct z false x.1 us)) n ∙ after_less false x.1 us ∙ w ∙ sym (ap (present at_generics) (h.1 ∙ ap (λ z. punct z h.0 x.1 m) n) ∙ after_less h.0 x.1 m)
less_alike (x ∷ y ∷ l) ts m us e h w = absurd (cc e)

-- what follows its first type
abbrev qualified_rest : Grammar
qualified_rest = first_end & punctuation greater & punctuation colons & rule type_words

rest_alike : (s : Syntax) (ts r us : Stream) → DerivesPrefix table qualified_rest s ts r → Onward ts (print s ⧺ us)
rest_alike (Both s (Both (Mark xs) u)) ts r us (m, x, (n, (g, h), y)) =
    ap (present type_continues) (append_append (print s) (spell xs end ⧺ print u) us ∙ ap (λ z. print s ⧺ z) (append_append (spell xs end) (print u) us)) ∙ end_alike s u ts m n (print u ⧺ us) xs x g h
rest_alike (Both s (Both _ u)) ts r us (m, x, (n, y, z)) = elim y [ ]
rest_alike (Both s _) ts r us (m, x, y) = elim y [ ]
rest_alike _ ts r us x = elim x [ ]

qualified_alike : (s : Syntax) (ts r us : Stream) → DerivesPrefix table (table qualified_path) s ts r → Alike at_generics s ts us
qualified_alike (Both (Mark xs) (Both (Node t) u)) ts r us (m, (e, h), (n, x, y)) =
    ap (present at_generics) (append_append (spell xs end) (print t ⧺ print u) us ∙ append_spell xs end ((print t ⧺ print u) ⧺ us))
    ∙ less_alike xs ts m ((print t ⧺ print u) ⧺ us) e h (ap (present lists_on) (append_append (print t) (print u) us) ∙ type_on t m n (print u ⧺ us) x (rest_alike u n r us y))
qualified_alike (Both (Mark xs) (Both _ u)) ts r us (m, x, (n, y, z)) = elim y [ ]
qualified_alike (Both (Mark xs) _) ts r us (m, x, y) = elim y [ ]
qualified_alike (Both _ u) ts r us (m, x, y) = elim x [ ]
qualified_alike _ ts r us x = elim x [ ]

-- ---- A PATH AND A TYPE, printed before anything
-- whether some path continues before this or before that: its first word doesn't matter here
words_off : (s : Syntax) (ts r us : Stream) → DerivesPrefix table (table type_words) s ts r → (present at_generics ts ≡ false) × (present at_generics (print s ⧺ us) ≡ false)
words_off (Both (Shaped j (Left (Both (Token x sp) a))) u) ts r us (m, (i, (v, (n, (e, f), y))), z) = (ap (present at_generics) f ∙ no_less x sp n, no_less x sp ((print a ⧺ print u) ⧺ us))
words_off (Both (Shaped j (Left (Both _ a))) u) ts r us (m, (i, (v, (n, x, y))), z) = elim x [ ]
words_off (Both (Shaped j (Left _)) u) ts r us (m, (i, (v, x)), z) = elim x [ ]
words_off (Both (Shaped j (Right (Both (Token x sp) a))) u) ts r us (m, (i, (v, (n, (e, f), y))), z) = (ap (present at_generics) f ∙ no_less x sp n, no_less x sp ((print a ⧺ print u) ⧺ us))
words_off (Both (Shaped j (Right (Both _ a))) u) ts r us (m, (i, (v, (n, x, y))), z) = elim x [ ]
words_off (Both (Shaped j (Right _)) u) ts r us (m, (i, (v, x)), z) = elim x [ ]
words_off (Both (Shaped j _) u) ts r us (m, (i, x), z) = elim x [ ]
words_off (Both _ u) ts r us (m, x, z) = elim x [ ]
words_off _ ts r us x = elim x [ ]

path_off : (s : Syntax) (ts r us : Stream) → DerivesPrefix table (table type_path) s ts r → (present at_generics ts ≡ false) × (present at_generics (print s ⧺ us) ≡ false)
path_off (Both (Left (Mark xs)) u) ts r us (m, (v, (e, h)), y) =
    let b = heads_spelled off_less 58 colon xs ts m refl e h in
    (less_off ts b.0, ap (present at_generics) (append_append (spell xs end) (print u) us) ∙ less_off (spell xs end ⧺ (print u ⧺ us)) (b.1 (print u ⧺ us)))
path_off (Both (Left _) u) ts r us (m, (v, x), y) = elim x [ ]
path_off (Both (Right Nothing) (Node s)) ts r us (m, (v, x), y) =
    let (b, c) = words_off s m r us y in
    (ap (present at_generics) x ∙ b, c)
path_off (Both (Right Nothing) _) ts r us (m, x, y) = elim y [ ]
path_off (Both (Right _) u) ts r us (m, (v, x), y) = elim x [ ]
path_off (Both _ u) ts r us (m, x, y) = elim x [ ]
path_off _ ts r us x = elim x [ ]

path_leads : (r us : Stream) (s : Syntax) (ts : Stream) → DerivesPrefix table (table path_as_type) s ts r → Alike at_generics s ts us
path_leads r us (Left (Node s)) ts (v, x) = qualified_alike s ts r us x
path_leads r us (Left _) ts (v, x) = elim x [ ]
path_leads r us (Right (Node s)) ts (v, x) = let (a, b) = path_off s ts r us x in b ∙ sym a
path_leads r us (Right _) ts (v, x) = elim x [ ]
path_leads r us _ ts x = elim x [ ]

type_alike : (s : Syntax) (ts r us : Stream) → DerivesPrefix table (table type) s ts r → Alike at_generics s ts us
type_alike s ts r us x = by_path off_less at_generics less_off r us (path_leads r us) (table type) s ts refl x

node_alike : (s : Syntax) (ts r us : Stream) → DerivesPrefix table (rule type) s ts r → Alike at_generics s ts us
node_alike (Node s) ts r us x = type_alike s ts r us x
node_alike _ ts r us x = elim x [ ]

pub type_leads : TypeLeads
type_leads m r q t e =
    let (s, d, v) = parse_rule_known type m (t, r) e in
    ap (λ z. present at_generics (z ⧺ q)) (sym (ap print v) ∙ print_value s) ∙ node_alike s m r q d ∙ sym (sees_present at_generics m)

-- ---- NO SELF TYPE of an impl is a part of these, groups and lists aside
abbrev pub selfless : Grammar → Bool
selfless (g & h) = and (selfless g) (selfless h)
selfless (when c then g else h) = and (selfless g) (selfless h)
selfless (either g h) = and (selfless g) (selfless h)
selfless (one_of ks) = all_of (λ k. and (no (among k self_types)) (no (same_rule k for_self_type))) ks
selfless (rule k) = no (same_rule k for_self_type)
selfless (such q g) = selfless g
selfless (supplied n p t) = and (selfless p) (selfless t)
selfless g = true

rules_selfless : (k : Rule) → no (same_rule k for_self_type) ≡ true → selfless (table k) ≡ true
rules_selfless k e = go (same_rule k for_self_type) refl (of_every_rule (λ k. or (same_rule k for_self_type) (selfless (table k))) refl refl k)
  where
    go : (v : Bool) → same_rule k for_self_type ≡ v → or (same_rule k for_self_type) (selfless (table k)) ≡ true → selfless (table k) ≡ true
    go true q h = absurd (true≢false (sym q ∙ no_true (same_rule k for_self_type) e))
    go false q h = ap (λ z. or z (selfless (table k))) (sym q) ∙ h

no_part : (g : Grammar) (s : Syntax) (ts r : Stream) → selfless g ≡ true → DerivesPrefix table g s ts r → led_part (renew s) ≡ false
no_part empty Nothing ts r e x = refl
no_part (token b k) (Token y sp) ts r e x = refl
no_part (mark b cs) (Mark xs) ts r e x = refl
no_part lifetime (Lifetime sp y sq) ts r e x = refl
no_part (g & h) (Both s t) ts r e (m, a, b) = ap₂ or (no_part g s ts m (and_left (selfless g) _ e) a) (no_part h t m r (and_right (selfless g) _ e) b)
no_part (when c then g else h) (Left s) ts r e (v, a) = no_part g s ts r (and_left (selfless g) _ e) a
no_part (when c then g else h) (Right s) ts r e (v, a) = no_part h s ts r (and_right (selfless g) _ e) a
no_part (vanishing b c g) (Vanishing b' s) ts r e x = refl
no_part (inside d g) (Group d' o c s) ts r e x = refl
no_part (raw d) (Raw d' o c i) ts r e x = refl
no_part (rest_after cs) (Rest xs i) ts r e x = refl
no_part (either g h) (Left s) ts r e a = no_part g s ts r (and_left (selfless g) _ e) a
no_part (either g h) (Right s) ts r e a = no_part h s ts r (and_right (selfless g) _ e) a
no_part (one_of ks) (Case k s) ts r e (v, a) =
    let w = one_said (λ k. and (no (among k self_types)) (no (same_rule k for_self_type))) k ks v e in
    ap₂ or (ap (λ z. and z (present at_generics (show (renew s)))) (no_true (among k self_types) (and_left (no (among k self_types)) _ w)))
    (no_part (table k) s ts r (rules_selfless k (and_right (no (among k self_types)) _ w)) a)
no_part (rule k) (Node s) ts r e a = no_part (table k) s ts r (rules_selfless k e) a
no_part (such q g) (Such s) ts r e (v, a) = no_part g s ts r e a
no_part (shaped j g) (Shaped i s) ts r e x = refl
no_part (captured g) (Captured s i) ts r e x = refl
no_part unshown (Unshown s) ts r e x = refl
no_part (supplied z p t) (Both n (Both (Mark xs) s)) ts r e (inl (w, y, sp, c, f, pa, i, q)) = ap₂ or (no_part p n (underscore sp) end (and_left (selfless p) _ e) pa) (no_part t s ts r (and_right (selfless p) _ e) q)
no_part (supplied z p t) (Both n (Both (Mark xs) s)) ts r e (inr (w, m, pa, f, m', d, q)) = ap₂ or (no_part p n ts m (and_left (selfless p) _ e) pa) (no_part t s m' r (and_right (selfless p) _ e) q)
no_part (generics_before g h f) (Impl l s) ts r e x = refl
no_part (row g h) Done ts r e x = refl
no_part (row g h) (Last b s) ts r e x = refl
no_part (row g h) (More b s sp t) ts r e x = refl
no_part (ordered g h) (Order xs l ys) ts r e x = refl
no_part _ _ ts r e x = search false_true

pub no_part_of : (g : Grammar) (m r : Stream) (s : Syntax) → selfless g ≡ true → Reads g m s r → led_part (renew s) ≡ false
no_part_of g m r s e h =
    let (t, d, v) = reported g m (s, r) h in
    ap (λ z. led_part (renew z)) (sym v) ∙ led_part_value t ∙ no_part g t m r e d

-- ---- `for` AND THE SELF TYPE
for_read : (y : Leaf) (sp : Span) (ts m : Stream) → fits (word w_for) y ≡ true → ts ≡ leaf y sp m → leads_on ts ≡ present at_generics m
for_read y sp ts m e f = ap generics_after (token_found (word w_for) y sp ts m e f) ∙ sees_present at_generics m

of_type : (s : Syntax) (ts r : Stream) → DerivesPrefix table (rule type) s ts r → (present at_generics (print s) ≡ present at_generics ts) × (led_part (renew s) ≡ false)
of_type s ts r x = (ap (present at_generics) (sym (append_end (print s))) ∙ node_alike s ts r end x, no_part (rule type) s ts r refl x)

for_tree : (s : Syntax) (ts r : Stream) → DerivesPrefix table (table for_self_type) s ts r → led_part (renew s) ≡ leads_on ts
for_tree (Both (Token y sp) (Case k s)) ts r (m, (e, f), (v, x)) =
    let q = same_rule_eq k self_type (sym (or_none (same_rule k self_type)) ∙ v) in
    let (a, b) = of_type s m r (subst (λ z. DerivesPrefix table (table z) s m r) q x) in
    ap (λ z. or (and (among z self_types) (present at_generics (print s))) (led_part (renew s))) q ∙ ap₂ or a b ∙ or_none (present at_generics m) ∙ sym (for_read y sp ts m e f)
for_tree (Both (Token y sp) _) ts r (m, f, x) = elim x [ ]
for_tree (Both _ s) ts r (m, f, x) = elim f [ ]
for_tree _ ts r x = elim x [ ]

for_node : (s : Syntax) (ts r : Stream) → DerivesPrefix table (rule for_self_type) s ts r → led_part (renew s) ≡ leads_on ts
for_node (Node s) ts r x = for_tree s ts r x
for_node _ ts r x = elim x [ ]

for_led : (m r : Stream) (s : Syntax) → Reads (rule for_self_type) m s r → led_part (renew s) ≡ leads_on m
for_led m r s h =
    let (t, d, v) = reported (rule for_self_type) m (s, r) h in
    ap (λ z. led_part (renew z)) (sym v) ∙ led_part_value t ∙ for_node t m r d

maybe_node : (s : Syntax) (ts r : Stream) → DerivesPrefix table (when at_for then rule for_self_type else empty) s ts r → led_part (renew s) ≡ leads_on ts
maybe_node (Left s) ts r (v, x) = for_node s ts r x
maybe_node (Right Nothing) ts r (v, x) = go (take_token (word w_for) ts) refl
  where
    go : (o : Out) → take_token (word w_for) ts ≡ o → false ≡ leads_on ts
    go None e = sym (ap generics_after e)
    go (Some p) e =
        let (y, sp, a, b, c) = token_known (word w_for) ts p e in
        absurd (true≢false (sym (ap (present at_for) (c ∙ ap (λ z. leaf z sp p.1) (word_leaf w_for y b))) ∙ v))
maybe_node (Right _) ts r (v, x) = elim x [ ]
maybe_node _ ts r x = elim x [ ]

maybe_led : (m r : Stream) (s : Syntax) → Reads (when at_for then rule for_self_type else empty) m s r → led_part (renew s) ≡ leads_on m
maybe_led m r s h =
    let (t, d, v) = reported (when at_for then rule for_self_type else empty) m (s, r) h in
    ap (λ z. led_part (renew z)) (sym v) ∙ led_part_value t ∙ maybe_node t m r d

-- ---- AN IMPL
printed_first : (g : Grammar) (m n : Stream) (s : Syntax) (us : Stream) → ((t : Syntax) → DerivesPrefix table g t m n → (present at_generics m ≡ false) × (present at_generics (print t ⧺ us) ≡ false)) → Reads g m s n →
    present at_generics (print s ⧺ us) ≡ sees at_generics m
printed_first g m n s us f h =
    let (t, d, v) = reported g m (s, n) h in
    let (a, b) = f t d in
    ap (λ z. present at_generics (z ⧺ us)) (sym (ap print v) ∙ print_value t) ∙ b ∙ sym a ∙ sym (sees_present at_generics m)

bang_first : (m n : Stream) (x : Syntax) (us : Stream) → Reads (punctuation exclamation) m x n → present at_generics (print x ⧺ us) ≡ sees at_generics m
bang_first m n x us = printed_first (punctuation exclamation) m n x us (λ t d. let (e, k) = dull_read off_less (punctuation exclamation) t m n refl d in (less_off m e, less_off (print t ⧺ us) (k us)))

path_first : (m n : Stream) (s : Syntax) (us : Stream) → Reads (rule type_path) m s n → present at_generics (print s ⧺ us) ≡ sees at_generics m
path_first m n s us = printed_first (rule type_path) m n s us of_node
  where
    of_node : (t : Syntax) → DerivesPrefix table (rule type_path) t m n → (present at_generics m ≡ false) × (present at_generics (print t ⧺ us) ≡ false)
    of_node (Node t) d = path_off t m n us d
    of_node _ d = elim d [ ]

never_led : NeverLed
never_led m n r x b h i = ap₂ or (bang_first m n x (print b) h) (ap₂ or (no_part_of (punctuation exclamation) m n x refl h) (no_part_of (rule impl_body) n r b refl i)) ∙ or_none (sees at_generics m)

not_led : NotLed
not_led m n p q r x t f b h i j k =
    ap₂ or (bang_first m n x (print t ⧺ (print f ⧺ print b)) h)
    (ap₂ or (no_part_of (punctuation exclamation) m n x refl h) (ap₂ or (no_part_of (rule type_path) n p t refl i) (ap₂ or (for_led p q f j) (no_part_of (rule impl_body) q r b refl k) ∙ or_none (leads_on p))))

path_led : PathLed
path_led m p q r t f b h i j =
    ap₂ or (path_first m p t (print f ⧺ print b) h) (ap₂ or (no_part_of (rule type_path) m p t refl h) (ap₂ or (maybe_led p q f i) (no_part_of (rule impl_body) q r b refl j) ∙ or_none (leads_on p)))

type_led : TypeLed
type_led m p r t b h i =
    ap₂ or (type_leads m p (print b) t h) (ap₂ or (no_part_of (rule type) m p t refl h) (no_part_of (rule impl_body) p r b refl i)) ∙ or_none (sees at_generics m)

pub impl_led : ImplLed
impl_led = (never_led, (not_led, (path_led, type_led)))
