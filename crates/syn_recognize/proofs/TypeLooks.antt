-- The lookaheads of the grammar in a type, by peeks.
use Rattle.std.proofs.Common.{◌≡◌, ℕ, Bool, true, false, List, [], ◌∷◌, ◌++◌, nat_eq, refl, sym, ap, ◌∙◌, subst, true≢false}
use Rattle.std.proofs.lemmas.Bool.{eqb-true}
use Rattle.syn_grammar.specs.Words.{Text, keywords, contextual, colons, equals, less, w_union, w_auto, w_default, w_safe, w_trait, w_unsafe, w_impl}
use Rattle.syn_grammar.specs.Tokens.{Span, Stream, end, leaf, punct, group, ident, literal, or, and, pick, same_text, one_of_texts, has_fact, same_fact, Fact, Before_equals, Before_less, Begins_item, Before_brace, Before_macro, Asked, asked, asked_by_name, asked_of_path, facts_for, Lookahead, lookahead, lookahead_with, punctuation_lookahead, answers, is_name, leaf_terminal, Terminal, Ended, Name, Word, Punctuation, Literal, Delimited, Look, at_mark, at_name, at_word, at_group, at_path_word, ahead, ◌or_else◌, ◌and_also◌, Brace}
use Rattle.syn_grammar.specs.Take.{sees, lookahead_at, take_mark, take_token, taken}
use Rattle.syn_grammar.specs.Table.{at_arguments, at_association, at_colons, at_less_only, at_paren}
use Rattle.syn_grammar.proofs.Sets.{same_text_eq}
use Rattle.syn_grammar.proofs.Looks.{sees_and, sees_or, sees_mark, sees_name}
use Rattle.syn_parse.specs.Peeks.{past}
use Rattle.syn_recognize.proofs.Facts.{and_same, reported_first}

-- what is tested after the first
abbrev others : Asked → Asked
others [] = []
others (p ∷ l) = l

-- WHAT FOLLOWS `::`

abbrev known_less : Stream → Stream → Type 0
known_less ts n = has_fact Before_less (lookahead ts).facts ≡ answers (at_mark less) (lookahead n)

after_lone : (f : Lookahead) → has_fact Before_less (facts_for (asked (Punctuation (58 ∷ []))) f) ≡ answers (at_mark less) f
after_lone f = reported_first Before_less (at_mark less) ((at_path_word and_also ahead Before_macro, Before_macro) ∷ asked_of_path at_path_word) f refl refl

abbrev known_of : Lookahead → Type 0
known_of f = has_fact Before_less (punctuation_lookahead 58 true (punctuation_lookahead 58 true f)).facts ≡ answers (at_mark less) f

after_joint : (t : Terminal) (l : List Fact) → known_of (lookahead_with t l)
after_joint Ended l = after_lone (lookahead_with Ended l)
after_joint Name l = after_lone (lookahead_with Name l)
after_joint (Word x) l = after_lone (lookahead_with (Word x) l)
after_joint (Literal k) l = after_lone (lookahead_with (Literal k) l)
after_joint (Delimited d v) l = after_lone (lookahead_with (Delimited d v) l)
after_joint (Punctuation []) l = after_lone (lookahead_with (Punctuation []) l)
after_joint (Punctuation (c ∷ m)) l = go (nat_eq 58 c) refl
  where
    go : (b : Bool) → nat_eq 58 c ≡ b → known_of (lookahead_with (Punctuation (c ∷ m)) l)
    go true h = subst (λ d. known_of (lookahead_with (Punctuation (d ∷ m)) l)) (eqb-true 58 c h) refl
    go false h = rw h (after_lone (lookahead_with (Punctuation (c ∷ m)) l))

after_colons : (j : Bool) (sp sq : Span) (n : Stream) → known_less (punct 58 true sp (punct 58 j sq n)) n
after_colons false sp sq n = after_lone (lookahead n)
after_colons true sp sq n = after_joint (lookahead n).terminal (lookahead n).facts

-- `::` is next
abbrev begins : Stream → Bool
begins ts = sees at_colons ts

abbrev seen_less : ℕ → Span → Stream → Type 0
seen_less c sp n = sees (ahead Before_less) (punct c true sp n) ≡ sees (at_mark less) (past (past (punct c true sp n)))

abbrev colons_at : Stream → Type 0
colons_at ts = taken (take_mark colons ts) ≡ true

second : (sp : Span) (b : Bool) (d : ℕ) (j : Bool) (sq : Span) (n : Stream) → nat_eq d 58 ≡ b → colons_at (punct 58 true sp (punct d j sq n)) → seen_less 58 sp (punct d j sq n)
unfolding sees lookahead_at take_mark
second sp true d true sq n e t = subst (λ z. seen_less 58 sp (punct z true sq n)) (sym (eqb-true d 58 e)) (after_colons true sp sq n)
second sp true d false sq n e t = subst (λ z. seen_less 58 sp (punct z false sq n)) (sym (eqb-true d 58 e)) (after_colons false sp sq n)
second sp false d j sq n e t = absurd (true≢false (sym t ∙ rw e refl))

at_second : (sp : Span) (n : Stream) → colons_at (punct 58 true sp n) → seen_less 58 sp n
unfolding take_mark
at_second sp end t = absurd (true≢false (sym t))
at_second sp (leaf x sq n) t = absurd (true≢false (sym t))
at_second sp (group d o k i n) t = absurd (true≢false (sym t))
at_second sp (punct d j sq n) t = second sp (nat_eq d 58) d j sq n refl t

at_first : (c : ℕ) (sp : Span) (b : Bool) → nat_eq c 58 ≡ b → (n : Stream) → colons_at (punct c true sp n) → seen_less c sp n
unfolding take_mark
at_first c sp true e n t = subst (λ z. colons_at (punct z true sp n) → seen_less z sp n) (sym (eqb-true c 58 e)) (at_second sp n) t
at_first c sp false e n t = absurd (true≢false (sym t ∙ rw e refl))

following : (ts : Stream) → begins ts ≡ true → sees (ahead Before_less) ts ≡ sees (at_mark less) (past (past ts))
unfolding take_mark
following end h = absurd (true≢false (sym h ∙ sees_mark colons refl end))
following (leaf x sp m) h = absurd (true≢false (sym h ∙ sees_mark colons refl (leaf x sp m)))
following (group d o c i m) h = absurd (true≢false (sym h ∙ sees_mark colons refl (group d o c i m)))
following (punct c false sp m) h = absurd (true≢false (sym h ∙ sees_mark colons refl (punct c false sp m)))
following (punct c true sp m) h = at_first c sp (nat_eq c 58) refl m (sym (sees_mark colons refl (punct c true sp m)) ∙ h)

pub arguments_seen : (ts : Stream) → sees at_arguments ts ≡ or (sees at_less_only ts) (or (sees at_paren ts) (and (sees at_colons ts) (sees (at_mark less) (past (past ts)))))
arguments_seen ts =
    sees_or at_less_only _ ts
    ∙ ap (or (sees at_less_only ts)) (sees_or at_paren _ ts
    ∙ ap (or (sees at_paren ts)) (sees_and at_colons (ahead Before_less) ts ∙ and_same (begins ts) _ _ (following ts)))

-- WHAT FOLLOWS AN IDENTIFIER

abbrev known_equals : Text → Stream → Type 0
known_equals x m = has_fact Before_equals (facts_for (asked (leaf_terminal (ident x))) (lookahead m)) ≡ answers (at_mark equals) (lookahead m)

-- a fact that is stated of another token is skipped
passed : (n k : Fact) (c : Look) (l : Asked) (f : Lookahead) → same_fact n k ≡ false → has_fact n (facts_for ((c, k) ∷ l) f) ≡ has_fact n (facts_for l f)
passed n k c l f e = go (answers c f)
  where
    go : (a : Bool) → has_fact n (pick a (k ∷ facts_for l f) (facts_for l f)) ≡ has_fact n (facts_for l f)
    go true = ap (λ z. or z (has_fact n (facts_for l f))) e
    go false = refl

by_name : (f : Lookahead) → has_fact Before_equals (facts_for asked_by_name f) ≡ answers (at_mark equals) f
by_name f = reported_first Before_equals (at_mark equals) (others asked_by_name) f refl refl

reported : (x : Text) (m : Stream) → is_name (leaf_terminal (ident x)) ≡ true → known_equals x m
reported x m e = go (one_of_texts x (keywords ++ contextual)) refl
  where
    at : (w : Text) → x ≡ w → known_equals w m → known_equals x m
    at w p h = subst (λ z. known_equals z m) (sym p) h

    named : (a b c d : Bool) → same_text x w_union ≡ a → same_text x w_auto ≡ b → same_text x w_default ≡ c → same_text x w_safe ≡ d → or a (or b (or c (or d false))) ≡ true → known_equals x m
    named true b c d p q r s h = at w_union (same_text_eq x w_union p) (passed Before_equals Begins_item at_name ((at_group Brace, Before_brace) ∷ asked_by_name) (lookahead m) refl ∙ passed Before_equals Before_brace (at_group Brace) asked_by_name (lookahead m) refl ∙ by_name (lookahead m))
    named false true c d p q r s h = at w_auto (same_text_eq x w_auto q) (passed Before_equals Begins_item (at_word w_trait) asked_by_name (lookahead m) refl ∙ by_name (lookahead m))
    named false false true d p q r s h = at w_default (same_text_eq x w_default r) (passed Before_equals Begins_item (at_word w_unsafe or_else at_word w_impl) asked_by_name (lookahead m) refl ∙ by_name (lookahead m))
    named false false false true p q r s h = at w_safe (same_text_eq x w_safe s) (by_name (lookahead m))
    named false false false false p q r s h = absurd (true≢false (sym h))

    go : (b : Bool) → one_of_texts x (keywords ++ contextual) ≡ b → known_equals x m
    go true i = named (same_text x w_union) (same_text x w_auto) (same_text x w_default) (same_text x w_safe) refl refl refl refl (sym (ap (λ b. is_name (pick b (Word x) Name)) i) ∙ e)
    go false i = ap (λ b. has_fact Before_equals (facts_for (asked (pick b (Word x) Name)) (lookahead m))) i ∙ by_name (lookahead m)

no_name : (c : ℕ) (j : Bool) (sp : Span) (m : Stream) → sees at_name (punct c j sp m) ≡ false
unfolding take_token
no_name c j sp m = sees_name (punct c j sp m)

pub association_seen : (ts : Stream) → sees at_association ts ≡ and (sees at_name ts) (sees (at_mark equals) (past ts))
unfolding sees lookahead_at
association_seen end = refl
association_seen (leaf (ident x) sp m) = and_same (is_name (leaf_terminal (ident x))) _ _ (reported x m)
association_seen (leaf (literal k x) sp m) = refl
association_seen (punct c j sp m) = and_same (sees at_name (punct c j sp m)) _ _ (λ h. absurd (true≢false (sym h ∙ no_name c j sp m)))
association_seen (group d o c i m) = refl
