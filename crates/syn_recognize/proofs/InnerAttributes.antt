-- The condition of the grammar on inner attributes, by two peeks.
use Rattle.std.proofs.Common.{◌≡◌, ℕ, Bool, true, false, [], ◌∷◌, nat_eq, refl, sym, ◌∙◌, subst, true≢false}
use Rattle.std.proofs.lemmas.Bool.{eqb-true}
use Rattle.std.specs.Prelude.{Some}
use Rattle.syn_grammar.specs.Words.{exclamation, pound}
use Rattle.syn_grammar.specs.Tokens.{Span, Stream, end, leaf, punct, group, and, pick, at_mark, answers, lookahead, has_fact, begins_text, Before_bang, Terminal, Ended, Name, Word, Punctuation, Literal, Delimited}
use Rattle.syn_grammar.specs.Take.{sees, lookahead_at, take_mark, taken, only, marked}
use Rattle.syn_grammar.specs.Table.{at_inner_attribute}
use Rattle.syn_grammar.proofs.Looks.{sees_one}
use Rattle.syn_parse.specs.Peeks.{past}

and_same : (b c d : Bool) → (b ≡ true → c ≡ d) → and b c ≡ and b d
and_same true c d h = h refl
and_same false c d h = refl

known_bang : (b : Bool) → has_fact Before_bang (pick b (Before_bang ∷ []) []) ≡ b
known_bang true = refl
known_bang false = refl

-- after `#`
after_pound : (j : Bool) (sp : Span) (m : Stream) → has_fact Before_bang (lookahead (punct 35 j sp m)).facts ≡ answers (at_mark exclamation) (lookahead (past (punct 35 j sp m)))
after_pound false sp m = known_bang (answers (at_mark exclamation) (lookahead m))
after_pound true sp m = go (lookahead m).terminal refl
  where
    go : (f : Terminal) → (lookahead m).terminal ≡ f → has_fact Before_bang (lookahead (punct 35 true sp m)).facts ≡ answers (at_mark exclamation) (lookahead m)
    go Ended e = rw e refl
    go Name e = rw e refl
    go (Word x) e = rw e refl
    go (Punctuation x) e = rw e (known_bang (begins_text exclamation x))
    go (Literal k) e = rw e refl
    go (Delimited d v) e = rw e refl

is_pound : (c : ℕ) (j : Bool) (sp : Span) (m : Stream) → sees (at_mark pound) (punct c j sp m) ≡ true → c ≡ 35
unfolding take_mark
is_pound c j sp m h = eqb-true c 35 (sym (go (nat_eq c 35)) ∙ sym (sees_one 35 (punct c j sp m)) ∙ h)
  where
    go : (b : Bool) → taken (marked (only b (Some ((c, sp) ∷ [], m)))) ≡ b
    go true = refl
    go false = refl

pub inner_attribute_seen : (ts : Stream) → sees at_inner_attribute ts ≡ and (sees (at_mark pound) ts) (sees (at_mark exclamation) (past ts))
unfolding sees lookahead_at take_mark
inner_attribute_seen end = refl
inner_attribute_seen (leaf x sp m) = and_same (sees (at_mark pound) (leaf x sp m)) (has_fact Before_bang (lookahead (leaf x sp m)).facts) (sees (at_mark exclamation) m) (λ h. absurd (true≢false (sym h ∙ sees_one 35 (leaf x sp m))))
inner_attribute_seen (group d o c i m) = and_same (sees (at_mark pound) (group d o c i m)) (has_fact Before_bang (lookahead (group d o c i m)).facts) (sees (at_mark exclamation) m) (λ h. absurd (true≢false (sym h ∙ sees_one 35 (group d o c i m))))
inner_attribute_seen (punct c j sp m) =
    and_same (sees (at_mark pound) (punct c j sp m)) (has_fact Before_bang (lookahead (punct c j sp m)).facts) (answers (at_mark exclamation) (lookahead (past (punct c j sp m)))) (λ h. subst (λ n. has_fact Before_bang (lookahead (punct n j sp m)).facts ≡ answers (at_mark exclamation) (lookahead (past (punct n j sp m)))) (sym (is_pound c j sp m h)) (after_pound j sp m))
