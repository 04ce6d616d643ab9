-- The conditions of the grammar on generics and their parameters, by peeks.
use Rattle.std.proofs.Common.{◌≡◌, ℕ, Bool, true, false, List, [], ◌∷◌, nat_eq, Some, refl, sym, ap, ◌∙◌, subst, true≢false}
use Rattle.std.proofs.lemmas.Bool.{eqb-true}
use Rattle.syn_grammar.specs.Words.{less, pound, w_const}
use Rattle.syn_grammar.specs.Tokens.{Span, Stream, end, leaf, punct, group, ident, literal, or, and, no, begins_text, has_fact, Fact, Before_parameter, Before_type_rest, Lookahead, asked_by_name, asked_by_path_word, facts_for, lookahead, lookahead_with, punctuation_lookahead, answers, Terminal, Ended, Name, Word, Punctuation, Literal, Delimited, at_generics, at_lifetime, at_mark, at_name, at_parameter, at_word, ahead}
use Rattle.syn_grammar.specs.Take.{sees, lookahead_at, take_mark, taken, only, marked}
use Rattle.syn_grammar.proofs.Looks.{sees_one}
use Rattle.syn_parse.specs.Peeks.{past}
use Rattle.syn_recognize.specs.ItemLooks.{at_first_parameter, at_type_rest}
use Rattle.syn_recognize.proofs.Facts.{and_same, reported_first}
use Rattle.syn_recognize.proofs.PathLooks.{no_name, others, passed, known_of_name}

-- WHAT A NAME STATES of the type that continues from it
rest_known : (f : Lookahead) → has_fact Before_type_rest (facts_for asked_by_name f) ≡ answers at_type_rest f
rest_known f = passed Before_type_rest asked_by_name f refl ∙ passed Before_type_rest (others asked_by_name) f refl ∙ passed Before_type_rest (others (others asked_by_name)) f refl
    ∙ reported_first Before_type_rest at_type_rest asked_by_path_word f refl refl

rest_settles : (ts : Stream) → sees at_name ts ≡ true → sees (ahead Before_type_rest) ts ≡ sees at_type_rest (past ts)
unfolding sees lookahead_at
rest_settles end e = absurd (true≢false (sym e))
rest_settles (leaf (ident x) sp m) e = known_of_name Before_type_rest refl refl (lookahead m) x e ∙ rest_known (lookahead m)
rest_settles (leaf (literal k x) sp m) e = absurd (true≢false (sym e))
rest_settles (punct c j sp m) e = absurd (true≢false (sym e ∙ no_name c j sp m))
rest_settles (group d o c i m) e = absurd (true≢false (sym e))

pub parameter_seen : (ts : Stream) → sees at_parameter ts ≡ or (sees (at_mark pound) ts) (or (sees at_lifetime ts) (or (sees (at_word w_const) ts) (and (sees at_name ts) (no (sees at_type_rest (past ts))))))
unfolding sees
parameter_seen ts = ap (λ b. or (sees (at_mark pound) ts) (or (sees at_lifetime ts) (or (sees (at_word w_const) ts) b))) (and_same (sees at_name ts) _ _ (λ h. ap no (rest_settles ts h)))

-- WHAT `<` STATES of the tokens after it; `<=` and `<<` state nothing, and no parameter begins there
lone : (f : Lookahead) → has_fact Before_parameter (facts_for ((at_first_parameter, Before_parameter) ∷ []) f) ≡ answers at_first_parameter f
lone f = reported_first Before_parameter at_first_parameter [] f refl refl

abbrev known_of : Lookahead → Type 0
known_of f = has_fact Before_parameter (punctuation_lookahead 60 true f).facts ≡ answers at_first_parameter f

joint : (t : Terminal) (l : List Fact) → known_of (lookahead_with t l)
joint Ended l = lone (lookahead_with Ended l)
joint Name l = lone (lookahead_with Name l)
joint (Word x) l = lone (lookahead_with (Word x) l)
joint (Literal k) l = lone (lookahead_with (Literal k) l)
joint (Delimited d v) l = lone (lookahead_with (Delimited d v) l)
joint (Punctuation []) l = lone (lookahead_with (Punctuation []) l)
joint (Punctuation (d ∷ m)) l = go (nat_eq 60 d) (nat_eq 61 d) refl refl
  where
    shifted : (b : Bool) → begins_text (61 ∷ []) m ≡ b → known_of (lookahead_with (Punctuation (60 ∷ m)) l)
    shifted true e = rw e refl
    shifted false e = rw e refl

    go : (a b : Bool) → nat_eq 60 d ≡ a → nat_eq 61 d ≡ b → known_of (lookahead_with (Punctuation (d ∷ m)) l)
    go true b p q = subst (λ z. known_of (lookahead_with (Punctuation (z ∷ m)) l)) (eqb-true 60 d p) (shifted (begins_text (61 ∷ []) m) refl)
    go false true p q = subst (λ z. known_of (lookahead_with (Punctuation (z ∷ m)) l)) (eqb-true 61 d q) refl
    go false false p q = rw p (rw q (lone (lookahead_with (Punctuation (d ∷ m)) l)))

less_known : (j : Bool) (sp : Span) (m : Stream) → sees (ahead Before_parameter) (punct 60 j sp m) ≡ sees at_first_parameter m
unfolding sees lookahead_at
less_known false sp m = lone (lookahead m)
less_known true sp m = joint (lookahead m).terminal (lookahead m).facts

-- `<` is no apostrophe
past_less : (j : Bool) (sp : Span) (m : Stream) → past (punct 60 j sp m) ≡ m
past_less false sp m = refl
past_less true sp m = refl

is_less : (c : ℕ) (j : Bool) (sp : Span) (m : Stream) → sees (at_mark less) (punct c j sp m) ≡ true → c ≡ 60
unfolding take_mark
is_less c j sp m h = eqb-true c 60 (sym (go (nat_eq c 60)) ∙ sym (sees_one 60 (punct c j sp m)) ∙ h)
  where
    go : (b : Bool) → taken (marked (only b (Some ((c, sp) ∷ [], m)))) ≡ b
    go true = refl
    go false = refl

less_settles : (ts : Stream) → sees (at_mark less) ts ≡ true → sees (ahead Before_parameter) ts ≡ sees at_first_parameter (past ts)
unfolding take_mark
less_settles end h = absurd (true≢false (sym h ∙ sees_one 60 end))
less_settles (leaf x sp m) h = absurd (true≢false (sym h ∙ sees_one 60 (leaf x sp m)))
less_settles (group d o c i m) h = absurd (true≢false (sym h ∙ sees_one 60 (group d o c i m)))
less_settles (punct c j sp m) h =
    subst (λ z. sees (ahead Before_parameter) (punct z j sp m) ≡ sees at_first_parameter (past (punct z j sp m))) (sym (is_less c j sp m h)) (less_known j sp m ∙ ap (sees at_first_parameter) (sym (past_less j sp m)))

pub generics_seen : (ts : Stream) → sees at_generics ts ≡ and (sees (at_mark less) ts) (sees at_first_parameter (past ts))
unfolding sees
generics_seen ts = and_same (sees (at_mark less) ts) _ _ (less_settles ts)
