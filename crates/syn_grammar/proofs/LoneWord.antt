-- Parentheses with one word after `impl`: a restriction and a type read the same tokens, as different values.
use Rattle.std.proofs.Common.{◌≡◌, ℕ, Bool, true, false, ◌++◌, Some, refl, sym, ap, ◌∙◌, subst, true≢false, ◌⊎◌, inl, inr}
use Rattle.syn_grammar.specs.Words.{Text, keywords, contextual, w_crate, w_self, w_super}
use Rattle.syn_grammar.specs.Tokens.{Span, Paren, ident, literal, Stream, end, leaf, punct, group, and, or, no, pick, one_of_texts, Before_end, Lone_word, has_fact, Terminal, Name, Word, Punctuation, is_ended, is_word, is_group, ended, at_word, ahead, ◌or_else◌, ◌and_also◌, ◌but_not◌, answers, asked, asked_inside, facts_for, leaf_terminal, char_terminal, lookahead}
use Rattle.syn_grammar.specs.Rules.{restriction, type, types}
use Rattle.syn_grammar.specs.Grammar.{inside, rule, Syntax, Left, Right, Node}
use Rattle.syn_grammar.specs.Take.{lookahead_at, sees, left, is_end, take_token, take_lifetime, take_mark, take_group, before}
use Rattle.syn_grammar.specs.Run.{wrap, close, rows_for, rows, run, parse_rule, parse_form}
use Rattle.syn_grammar.specs.ItemPlan.{at_lone_word}
use Rattle.syn_grammar.proofs.Sets.{or_split, and_left, and_right}
use Rattle.syn_grammar.proofs.Streams.{lookahead_end}
use Rattle.syn_grammar.proofs.Run.{parse_rule_is}
use Rattle.syn_grammar.proofs.Known.{asked_for, asked_for_is, never_both, word_within}
use Rattle.syn_grammar.proofs.Threads.{rest}

leaf_word : (t w : Text) → leaf_terminal (ident t) ≡ Word w → t ≡ w
leaf_word t w e = go (one_of_texts t (keywords ++ contextual)) e
  where
    go : (b : Bool) → pick b (Word t) Name ≡ Word w → t ≡ w
    go true q = cc q
    go false q = absurd (cc q)

alone_true : (b : Bool) → or b (and b (no b)) ≡ true → b ≡ true
alone_true true e = refl
alone_true false e = e

-- both read this content
abbrev Alike : Stream → Type 0
Alike i = ((v : Syntax) × (parse_rule restriction i ≡ Some (v, end))) × ((v : Syntax) × (parse_rule types i ≡ Some (v, end)))

crate_alike : (sp : Span) → Alike (leaf (ident w_crate) sp end)
unfolding left is_end lookahead_at sees take_token take_lifetime take_mark take_group before rows_for rows run parse_rule
crate_alike sp = ((_, refl), (_, refl))

self_alike : (sp : Span) → Alike (leaf (ident w_self) sp end)
unfolding left is_end lookahead_at sees take_token take_lifetime take_mark take_group before rows_for rows run parse_rule
self_alike sp = ((_, refl), (_, refl))

super_alike : (sp : Span) → Alike (leaf (ident w_super) sp end)
unfolding left is_end lookahead_at sees take_token take_lifetime take_mark take_group before rows_for rows run parse_rule
super_alike sp = ((_, refl), (_, refl))

-- the content is this word
word_content : (w : Text) (i : Stream) → is_word w (lookahead i).terminal ≡ true → ((m : Stream) (sp : Span) → i ≡ leaf (ident w) sp m → is_ended (lookahead m).terminal ≡ true) → (sp : Span) × (i ≡ leaf (ident w) sp end)
word_content w end e f = absurd (true≢false (sym e))
word_content w (leaf (ident t) sp m) e f =
    let q = ap (λ z. leaf (ident z) sp m) (leaf_word t w (word_within w (leaf_terminal (ident t)) e)) in
    (sp, q ∙ ap (leaf (ident w) sp) (lookahead_end m (f m sp q)))
word_content w (leaf (literal k t) sp m) e f = absurd (true≢false (sym e))
word_content w (punct c j sp m) e f = absurd (true≢false (sym e ∙ go c j (lookahead m).terminal))
  where
    go : (c : ℕ) (j : Bool) (f : Terminal) → is_word w (char_terminal c j f) ≡ false
    go c false f = refl
    go c true (Punctuation l) = refl
    go c true _ = refl
word_content w (group d o c i m) e f = absurd (true≢false (sym e))

known_end : (w : Text) (i m : Stream) (sp : Span) → asked_for Before_end (asked (Word w)) ≡ (ended or_else (ended but_not ended)) → leaf_terminal (ident w) ≡ Word w → has_fact Before_end (lookahead i).facts ≡ true → i ≡ leaf (ident w) sp m → is_ended (lookahead m).terminal ≡ true
known_end w i m sp a b e q =
    alone_true (is_ended (lookahead m).terminal)
    (ap (λ c. answers c (lookahead m)) (sym a) ∙ asked_for_is Before_end (asked (Word w)) (lookahead m) ∙ ap (λ t. has_fact Before_end (facts_for (asked t) (lookahead m))) (sym b) ∙ ap (λ z. has_fact Before_end (lookahead z).facts) (sym q) ∙ e)

content_alike : (i : Stream) → answers ((at_word w_crate or_else at_word w_self or_else at_word w_super) and_also ahead Before_end) (lookahead i) ≡ true → Alike i
content_alike i e =
    let h = and_right (answers (at_word w_crate or_else at_word w_self or_else at_word w_super) (lookahead i)) (has_fact Before_end (lookahead i).facts) e in
    go h (or_split (is_word w_crate (lookahead i).terminal) _ (and_left (answers (at_word w_crate or_else at_word w_self or_else at_word w_super) (lookahead i)) _ e))
  where
    two : has_fact Before_end (lookahead i).facts ≡ true → (is_word w_self (lookahead i).terminal ≡ true) ⊎ (is_word w_super (lookahead i).terminal ≡ true) → Alike i
    two h (inl q) = let (sp, p) = word_content w_self i q (λ m sp. known_end w_self i m sp refl refl h) in subst Alike (sym p) (self_alike sp)
    two h (inr q) = let (sp, p) = word_content w_super i q (λ m sp. known_end w_super i m sp refl refl h) in subst Alike (sym p) (super_alike sp)

    go : has_fact Before_end (lookahead i).facts ≡ true → (is_word w_crate (lookahead i).terminal ≡ true) ⊎ (or (is_word w_self (lookahead i).terminal) (is_word w_super (lookahead i).terminal) ≡ true) → Alike i
    go h (inl q) = let (sp, p) = word_content w_crate i q (λ m sp. known_end w_crate i m sp refl refl h) in subst Alike (sym p) (crate_alike sp)
    go h (inr q) = two h (or_split (is_word w_self (lookahead i).terminal) _ q)

type_group : (o c : Span) (i r : Stream) (v : Syntax) → parse_rule types i ≡ Some (v, end) → rest (parse_rule type (group Paren o c i r)) ≡ Some r
unfolding sees lookahead_at take_group is_end
type_group o c i r v e = ap rest (parse_rule_is type (group Paren o c i r)) ∙ ap (λ z. rest (wrap Node (wrap Right (wrap Right (wrap Left (close Paren (record { opening = o; closing = c; content = i; rest = r }) z)))))) e

restriction_group : (o c : Span) (i r : Stream) (v : Syntax) → parse_rule restriction i ≡ Some (v, end) → rest (parse_form (inside Paren (rule restriction)) (group Paren o c i r)) ≡ Some r
unfolding take_group is_end
restriction_group o c i r v e = ap (λ z. rest (close Paren (record { opening = o; closing = c; content = i; rest = r }) z)) e

no_leaf_group : (t : Text) → is_group Paren (leaf_terminal (ident t)) ≡ false
no_leaf_group t = go (one_of_texts t (keywords ++ contextual))
  where
    go : (b : Bool) → is_group Paren (pick b (Word t) Name) ≡ false
    go true = refl
    go false = refl

no_char_group : (c : ℕ) (j : Bool) (f : Terminal) → is_group Paren (char_terminal c j f) ≡ false
no_char_group c false f = refl
no_char_group c true (Punctuation l) = refl
no_char_group c true _ = refl

lone_content : (i : Stream) → has_fact Lone_word (facts_for (asked_inside Paren) (lookahead i)) ≡ true → answers ((at_word w_crate or_else at_word w_self or_else at_word w_super) and_also ahead Before_end) (lookahead i) ≡ true
lone_content i e = go (or_split (answers ((at_word w_crate or_else at_word w_self or_else at_word w_super) and_also ahead Before_end) (lookahead i)) (and (is_ended (lookahead i).terminal) (no (is_ended (lookahead i).terminal))) (asked_for_is Lone_word (asked_inside Paren) (lookahead i) ∙ e))
  where
    go : (answers ((at_word w_crate or_else at_word w_self or_else at_word w_super) and_also ahead Before_end) (lookahead i) ≡ true) ⊎ (and (is_ended (lookahead i).terminal) (no (is_ended (lookahead i).terminal)) ≡ true) →
        answers ((at_word w_crate or_else at_word w_self or_else at_word w_super) and_also ahead Before_end) (lookahead i) ≡ true
    go (inl q) = q
    go (inr q) = absurd (true≢false (sym q ∙ never_both (is_ended (lookahead i).terminal)))

pub group_alike : (m : Stream) → sees at_lone_word m ≡ true → rest (parse_form (inside Paren (rule restriction)) m) ≡ rest (parse_rule type m)
unfolding sees lookahead_at
group_alike end e = absurd (true≢false (sym e))
group_alike (leaf (ident t) sp m) e = absurd (true≢false (sym (and_left (is_group Paren (leaf_terminal (ident t))) _ e) ∙ no_leaf_group t))
group_alike (leaf (literal k t) sp m) e = absurd (true≢false (sym e))
group_alike (punct c j sp m) e = absurd (true≢false (sym (and_left (is_group Paren (char_terminal c j (lookahead m).terminal)) _ e) ∙ no_char_group c j (lookahead m).terminal))
group_alike (group Paren o c i r) e = let (a, b) = content_alike i (lone_content i e) in restriction_group o c i r a.0 a.1 ∙ sym (type_group o c i r b.0 b.1)
group_alike (group _ o c i r) e = absurd (true≢false (sym e))
