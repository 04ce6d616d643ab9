-- The condition of the grammar on the fields of a field that is named `_`, by peeks.
use Rattle.std.proofs.Common.{◌≡◌, Bool, true, false, ◌∷◌, refl, sym, ap, ◌∙◌, subst}
use Rattle.syn_grammar.specs.Words.{Text, w_struct, w_union}
use Rattle.syn_grammar.specs.Tokens.{Stream, end, leaf, punct, group, ident, literal, Brace, or, and, pick, has_fact, Fact, same_fact, Asked, asked_by_name, Begins_item, Before_brace, Lookahead, facts_for, asked, leaf_terminal, lookahead, answers, is_word, Look, at_name, at_word, at_group}
use Rattle.syn_grammar.specs.Take.{sees, lookahead_at, take_token}
use Rattle.syn_grammar.specs.Table.{at_nameless_fields}
use Rattle.syn_parse.specs.Peeks.{past}
use Rattle.syn_recognize.proofs.Facts.{reported_first, word_face, and_same}
use Rattle.syn_lower.proofs.Restricted.{no_word}

-- another fact that is tested first
known_later : (n o : Fact) (c : Look) (l : Asked) (f : Lookahead) → same_fact n o ≡ false → has_fact n (facts_for ((c, o) ∷ l) f) ≡ has_fact n (facts_for l f)
known_later n o c l f e = go (answers c f)
  where
    go : (a : Bool) → has_fact n (pick a (o ∷ facts_for l f) (facts_for l f)) ≡ has_fact n (facts_for l f)
    go true = ap (λ b. or b (has_fact n (facts_for l f))) e
    go false = refl

-- the grammar's lookahead at `union`: whether braces follow it
noted_brace : (x : Text) (m : Stream) → is_word w_union (leaf_terminal (ident x)) ≡ true → has_fact Before_brace (facts_for (asked (leaf_terminal (ident x))) (lookahead m)) ≡ answers (at_group Brace) (lookahead m)
noted_brace x m e = subst (λ z. has_fact Before_brace (facts_for (asked (leaf_terminal (ident z))) (lookahead m)) ≡ answers (at_group Brace) (lookahead m)) (sym (word_face w_union x e))
    (known_later Before_brace Begins_item at_name ((at_group Brace, Before_brace) ∷ asked_by_name) (lookahead m) refl ∙ reported_first Before_brace (at_group Brace) asked_by_name (lookahead m) refl refl)

pub nameless_seen : (ts : Stream) → sees at_nameless_fields ts ≡ or (sees (at_word w_struct) ts) (and (sees (at_word w_union) ts) (sees (at_group Brace) (past ts)))
unfolding sees lookahead_at take_token
nameless_seen end = refl
nameless_seen (leaf (ident x) sp m) = ap (or (is_word w_struct (leaf_terminal (ident x)))) (and_same (is_word w_union (leaf_terminal (ident x))) _ _ (noted_brace x m))
nameless_seen (leaf (literal k x) sp m) = refl
nameless_seen (punct c j sp m) =
    let none : is_word w_union (lookahead (punct c j sp m)).terminal ≡ false = no_word w_union c j sp m in
    ap (or (is_word w_struct (lookahead (punct c j sp m)).terminal))
    (ap (λ b. and b (has_fact Before_brace (lookahead (punct c j sp m)).facts)) none ∙ ap (λ b. and b (answers (at_group Brace) (lookahead (past (punct c j sp m))))) (sym none))
nameless_seen (group d o c i m) = refl
