-- The conditions of the grammar on a visibility, by looking into groups: what follows `pub`, and what represents none.
use Rattle.std.proofs.Common.{◌≡◌, ℕ, Bool, true, false, [], ◌∷◌, ◌++◌, Option, Some, None, refl, sym, ap, ap₂, ◌∙◌, subst, true≢false}
use Rattle.syn_grammar.specs.Words.{Text, keywords, contextual, w_in, w_crate, w_self, w_super}
use Rattle.syn_grammar.specs.Tokens.{Stream, end, leaf, punct, group, ident, literal, Paren, Brace, Bracket, None as Invisible, or, and, pick, has_fact, Fact, same_fact, Asked, asked_by_path_word, Lone_word, Begins_in, Before_end, Lookahead, facts_for, asked, leaf_terminal, lookahead, answers, is_word, is_ended, one_of_texts, Terminal, Word, Name, Span, Look, ended, at_word, at_empty_group, ◌or_else◌, ◌and_also◌, ahead}
use Rattle.syn_grammar.specs.Take.{sees, lookahead_at, take_token, Opened, take_group}
use Rattle.syn_grammar.specs.Table.{at_restriction}
use Rattle.syn_grammar.proofs.Sets.{same_text_eq}
use Rattle.syn_grammar.proofs.Looks.{holds_nothing_of, sees_empty_group, sees_group, sees_word}
use Rattle.syn_parse.specs.Peeks.{past}
use Rattle.syn_parse.specs.Opened.{content_of}
use Rattle.syn_recognize.proofs.Facts.{and_same, reported_first, word_face}
use Rattle.syn_lower.specs.Looks.{holds_nothing, lone_word, restricts}

-- a word that begins a restriction by itself
abbrev lone : Look
lone = (at_word w_crate or_else at_word w_self or_else at_word w_super) and_also ahead Before_end

abbrev one_of_three : Terminal → Bool
one_of_three f = or (is_word w_crate f) (or (is_word w_self f) (is_word w_super f))

-- the grammar's lookahead at such a word: whether nothing follows
noted_end : (x : Text) (m : Stream) → one_of_three (leaf_terminal (ident x)) ≡ true → has_fact Before_end (facts_for (asked (leaf_terminal (ident x))) (lookahead m)) ≡ is_ended (lookahead m).terminal
noted_end x m e = go (is_word w_crate (leaf_terminal (ident x))) (is_word w_self (leaf_terminal (ident x))) (is_word w_super (leaf_terminal (ident x))) refl refl refl e
  where
    at : (w : Text) → x ≡ w → has_fact Before_end (facts_for (asked (leaf_terminal (ident w))) (lookahead m)) ≡ is_ended (lookahead m).terminal
        → has_fact Before_end (facts_for (asked (leaf_terminal (ident x))) (lookahead m)) ≡ is_ended (lookahead m).terminal
    at w p h = subst (λ z. has_fact Before_end (facts_for (asked (leaf_terminal (ident z))) (lookahead m)) ≡ is_ended (lookahead m).terminal) (sym p) h

    go : (a b c : Bool) → is_word w_crate (leaf_terminal (ident x)) ≡ a → is_word w_self (leaf_terminal (ident x)) ≡ b → is_word w_super (leaf_terminal (ident x)) ≡ c → or a (or b c) ≡ true →
        has_fact Before_end (facts_for (asked (leaf_terminal (ident x))) (lookahead m)) ≡ is_ended (lookahead m).terminal
    go true b c p q r h = at w_crate (word_face w_crate x p) (reported_first Before_end ended asked_by_path_word (lookahead m) refl refl)
    go false true c p q r h = at w_self (word_face w_self x q) (reported_first Before_end ended asked_by_path_word (lookahead m) refl refl)
    go false false true p q r h = at w_super (word_face w_super x r) (reported_first Before_end ended asked_by_path_word (lookahead m) refl refl)
    go false false false p q r h = absurd (true≢false (sym h))

pub no_word : (w : Text) (c : ℕ) (j : Bool) (sp : Span) (m : Stream) → is_word w (lookahead (punct c j sp m)).terminal ≡ false
unfolding sees lookahead_at take_token
no_word w c j sp m = sees_word w (punct c j sp m)

-- one of the three words, followed by nothing
lone_seen : (i : Stream) → answers lone (lookahead i) ≡ lone_word i
unfolding sees lookahead_at
lone_seen end = refl
lone_seen (leaf (ident x) sp m) = and_same (one_of_three (leaf_terminal (ident x))) _ _ (noted_end x m)
lone_seen (leaf (literal k x) sp m) = refl
lone_seen (punct c j sp m) =
    let none : one_of_three (lookahead (punct c j sp m)).terminal ≡ false = ap₂ or (no_word w_crate c j sp m) (ap₂ or (no_word w_self c j sp m) (no_word w_super c j sp m)) in
    ap (λ b. and b (has_fact Before_end (lookahead (punct c j sp m)).facts)) none ∙ ap (λ b. and b (is_ended (lookahead (past (punct c j sp m))).terminal)) (sym none)
lone_seen (group d o c i m) = refl

-- the lookahead into a group in parentheses
notes_inside : (a b : Bool) → or (has_fact Lone_word (pick a (Lone_word ∷ pick b (Begins_in ∷ []) []) (pick b (Begins_in ∷ []) []))) (has_fact Begins_in (pick a (Lone_word ∷ pick b (Begins_in ∷ []) []) (pick b (Begins_in ∷ []) []))) ≡ or b a
notes_inside true true = refl
notes_inside true false = refl
notes_inside false true = refl
notes_inside false false = refl

-- the condition of the grammar, by looking into the group
pub restriction_seen : (ts : Stream) → sees at_restriction ts ≡ restricts (content_of (take_group Paren ts))
unfolding sees lookahead_at take_group
restriction_seen end = refl
restriction_seen (leaf x sp m) = ap (λ b. and b (or (sees (ahead Lone_word) (leaf x sp m)) (sees (ahead Begins_in) (leaf x sp m)))) (sees_group Paren (leaf x sp m))
restriction_seen (punct c j sp m) = ap (λ b. and b (or (sees (ahead Lone_word) (punct c j sp m)) (sees (ahead Begins_in) (punct c j sp m)))) (sees_group Paren (punct c j sp m))
restriction_seen (group Paren o c i m) = notes_inside (answers lone (lookahead i)) (answers (at_word w_in) (lookahead i)) ∙ ap (or (answers (at_word w_in) (lookahead i))) (lone_seen i)
restriction_seen (group Brace o c i m) = refl
restriction_seen (group Bracket o c i m) = refl
restriction_seen (group Invisible o c i m) = refl

-- an invisible group without content
pub empty_group_seen : (ts : Stream) → sees at_empty_group ts ≡ holds_nothing (content_of (take_group Invisible ts))
empty_group_seen ts = sees_empty_group ts ∙ go (take_group Invisible ts)
  where
    go : (o : Option Opened) → holds_nothing_of o ≡ holds_nothing (content_of o)
    go (Some g) = refl
    go None = refl
