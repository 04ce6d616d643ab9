-- The conditions of the grammar on paths and macros, by peeks.
use Rattle.std.proofs.Common.{◌≡◌, ℕ, Bool, true, false, List, [], ◌∷◌, ◌++◌, nat_eq, Some, None, refl, sym, ap, ap₂, ◌∙◌, subst, true≢false}
use Rattle.std.proofs.lemmas.Bool.{eqb-true}
use Rattle.syn_grammar.specs.Words.{Text, keywords, contextual, colons, exclamation, not_equals, less, w_crate, w_self, w_Self_type, w_super, w_union, w_auto, w_default, w_safe}
use Rattle.syn_grammar.specs.Tokens.{Span, Delimiter, LitKind, Stream, end, leaf, punct, group, ident, literal, Paren, or, and, no, pick, same_text, one_of_texts, has_fact, same_fact, Fact, Before_end, Before_colons, Before_equals, Before_paren, Before_less, Before_type_rest, Before_macro, Before_brace, Begins_item, Bang_brace, Bang_name, Asked, asked, asked_by_name, asked_by_path_word, asked_of_path, at_path_rest, at_path_word, facts_for, Lookahead, lookahead, lookahead_with, punctuation_lookahead, answers, is_name, is_word, leaf_terminal, Terminal, Ended, Name, Word, Punctuation, Literal, Delimited, Look, at_mark, at_name, at_word, at_group, ahead, ◌or_else◌, ◌and_also◌, ◌but_not◌}
use Rattle.syn_grammar.specs.Grammar.{Kind, name, word, name_or, Syntax, Token, fits}
use Rattle.syn_grammar.specs.Take.{Out, sees, lookahead_at, take_mark, take_token, taken, only}
use Rattle.syn_grammar.specs.Table.{at_bang, at_brace, at_brace_macro, at_colons, at_crate_macro, at_less, at_lone_crate, at_macro, at_macro_name, at_paren, at_pattern_path, at_turbofish}
use Rattle.syn_grammar.proofs.Sets.{same_text_eq}
use Rattle.syn_grammar.proofs.Looks.{sees_mark, sees_name, sees_word}
use Rattle.syn_tokens.specs.Idents.{is_keyword}
use Rattle.syn_tokens.specs.Leaves.{is_known_word}
use Rattle.syn_parse.specs.FirstTokens.{path_words}
use Rattle.syn_parse.specs.Peeks.{past}
use Rattle.syn_parse.proofs.Words.{fits_name, fits_name_or, fits_word}
use Rattle.syn_recognize.specs.ItemLooks.{at_named_macro, brace_macro_from, macro_from, named_macro_from}
use Rattle.syn_recognize.proofs.Facts.{and_same, reported_first, word_face}

-- WHAT A WORD OF A PATH STATES

-- a fact that is stated of another token is skipped
abbrev first_fact : Asked → Fact
first_fact [] = Before_end
first_fact (p ∷ l) = p.1

abbrev pub others : Asked → Asked
others [] = []
others (p ∷ l) = l

pub passed : (n : Fact) (l : Asked) (f : Lookahead) → same_fact n (first_fact l) ≡ false → has_fact n (facts_for l f) ≡ has_fact n (facts_for (others l) f)
passed n [] f e = refl
passed n (p ∷ l) f e = go (answers p.0 f)
  where
    go : (a : Bool) → has_fact n (pick a (p.1 ∷ facts_for l f) (facts_for l f)) ≡ has_fact n (facts_for l f)
    go true = ap (λ z. or z (has_fact n (facts_for l f))) e
    go false = refl

abbrev pub face : Text → Terminal
face x = leaf_terminal (ident x)

abbrev pub is_path_word : Terminal → Bool
is_path_word t = or (is_name t) (or (is_word w_self t) (or (is_word w_Self_type t) (or (is_word w_super t) (is_word w_crate t))))

-- a fact that no contextual keyword states by itself
module _ (n : Fact) (item : same_fact n Begins_item ≡ false) (brace : same_fact n Before_brace ≡ false) (f : Lookahead) where
  abbrev known_as_name : Text → Type 0
  known_as_name x = has_fact n (facts_for (asked (face x)) f) ≡ has_fact n (facts_for asked_by_name f)

  pub known_of_name : (x : Text) → is_name (face x) ≡ true → known_as_name x
  known_of_name x e = go (one_of_texts x (keywords ++ contextual)) refl
    where
      at : (w : Text) → x ≡ w → known_as_name w → known_as_name x
      at w p h = subst (λ z. known_as_name z) (sym p) h

      named : (a b c d : Bool) → same_text x w_union ≡ a → same_text x w_auto ≡ b → same_text x w_default ≡ c → same_text x w_safe ≡ d → or a (or b (or c (or d false))) ≡ true → known_as_name x
      named true b c d p q r s h = at w_union (same_text_eq x w_union p) (passed n (asked (Word w_union)) f item ∙ passed n (others (asked (Word w_union))) f brace)
      named false true c d p q r s h = at w_auto (same_text_eq x w_auto q) (passed n (asked (Word w_auto)) f item)
      named false false true d p q r s h = at w_default (same_text_eq x w_default r) (passed n (asked (Word w_default)) f item)
      named false false false true p q r s h = at w_safe (same_text_eq x w_safe s) refl
      named false false false false p q r s h = absurd (true≢false (sym h))

      go : (b : Bool) → one_of_texts x (keywords ++ contextual) ≡ b → known_as_name x
      go true i = named (same_text x w_union) (same_text x w_auto) (same_text x w_default) (same_text x w_safe) refl refl refl refl (sym (ap (λ b. is_name (pick b (Word x) Name)) i) ∙ e)
      go false i = ap (λ b. has_fact n (facts_for (asked (pick b (Word x) Name)) f)) i

-- a fact that each word of a path states
module _ (n : Fact) (item : same_fact n Begins_item ≡ false) (brace : same_fact n Before_brace ≡ false)
    (last : same_fact n Before_end ≡ false) (equal : same_fact n Before_equals ≡ false) (paren : same_fact n Before_paren ≡ false) (lt : same_fact n Before_less ≡ false) (rest : same_fact n Before_type_rest ≡ false)
    (f : Lookahead) where
  abbrev known_as_word : Text → Type 0
  known_as_word x = has_fact n (facts_for (asked (face x)) f) ≡ has_fact n (facts_for asked_by_path_word f)

  as_name : has_fact n (facts_for asked_by_name f) ≡ has_fact n (facts_for asked_by_path_word f)
  as_name = passed n asked_by_name f equal ∙ passed n (others asked_by_name) f paren ∙ passed n (others (others asked_by_name)) f lt ∙ passed n (others (others (others asked_by_name))) f rest

  pub known_of_word : (x : Text) → is_path_word (face x) ≡ true → known_as_word x
  known_of_word x e = go (is_name (face x)) (is_word w_self (face x)) (is_word w_Self_type (face x)) (is_word w_super (face x)) (is_word w_crate (face x)) refl refl refl refl refl e
    where
      at : (w : Text) → x ≡ w → known_as_word w → known_as_word x
      at w p h = subst (λ z. known_as_word z) (sym p) h

      go : (a b c d g : Bool) → is_name (face x) ≡ a → is_word w_self (face x) ≡ b → is_word w_Self_type (face x) ≡ c → is_word w_super (face x) ≡ d → is_word w_crate (face x) ≡ g →
          or a (or b (or c (or d g))) ≡ true → known_as_word x
      go true b c d g p q r s t h = known_of_name n item brace f x p ∙ as_name
      go false true c d g p q r s t h = at w_self (word_face w_self x q) (passed n (asked (Word w_self)) f last)
      go false false true d g p q r s t h = at w_Self_type (word_face w_Self_type x r) refl
      go false false false true g p q r s t h = at w_super (word_face w_super x s) (passed n (asked (Word w_super)) f last)
      go false false false false true p q r s t h = at w_crate (word_face w_crate x t) (passed n (asked (Word w_crate)) f last)
      go false false false false false p q r s t h = absurd (true≢false (sym h))

-- the conditions on what follows it
abbrev macro_after : Look
macro_after = at_mark exclamation but_not at_mark not_equals or_else at_mark colons and_also ahead Before_macro

macro_known : (f : Lookahead) → has_fact Before_macro (facts_for asked_by_path_word f) ≡ answers macro_after f
macro_known f = passed Before_macro asked_by_path_word f refl ∙ reported_first Before_macro macro_after (asked_of_path at_path_rest) f refl refl

brace_known : (f : Lookahead) → has_fact Bang_brace (facts_for asked_by_path_word f) ≡ answers (at_path_rest and_also ahead Bang_brace) f
brace_known f = passed Bang_brace asked_by_path_word f refl ∙ passed Bang_brace (others asked_by_path_word) f refl ∙ reported_first Bang_brace (at_path_rest and_also ahead Bang_brace) (others (others (others asked_by_path_word))) f refl refl

name_known : (f : Lookahead) → has_fact Bang_name (facts_for asked_by_path_word f) ≡ answers (at_path_rest and_also ahead Bang_name) f
name_known f = passed Bang_name asked_by_path_word f refl ∙ passed Bang_name (others asked_by_path_word) f refl ∙ passed Bang_name (others (others asked_by_path_word)) f refl ∙ reported_first Bang_name (at_path_rest and_also ahead Bang_name) [] f refl refl

colons_known : (f : Lookahead) → has_fact Before_colons (facts_for asked_by_path_word f) ≡ answers (at_mark colons) f
colons_known f = reported_first Before_colons (at_mark colons) (others asked_by_path_word) f refl refl

paren_known : (f : Lookahead) → has_fact Before_paren (facts_for asked_by_name f) ≡ answers (at_group Paren) f
paren_known f = passed Before_paren asked_by_name f refl ∙ reported_first Before_paren (at_group Paren) (others (others asked_by_name)) f refl refl

-- ON STREAMS

pub no_name : (c : ℕ) (j : Bool) (sp : Span) (m : Stream) → sees at_name (punct c j sp m) ≡ false
unfolding take_token
no_name c j sp m = sees_name (punct c j sp m)

no_word : (w : Text) (c : ℕ) (j : Bool) (sp : Span) (m : Stream) → sees (at_word w) (punct c j sp m) ≡ false
unfolding take_token
no_word w c j sp m = sees_word w (punct c j sp m)

abbrev path_word_at : Stream → Bool
path_word_at ts = sees at_path_word ts

pub no_path_word : (c : ℕ) (j : Bool) (sp : Span) (m : Stream) → sees at_path_word (punct c j sp m) ≡ false
unfolding sees
no_path_word c j sp m = ap₂ or (no_name c j sp m) (ap₂ or (no_word w_self c j sp m) (ap₂ or (no_word w_Self_type c j sp m) (ap₂ or (no_word w_super c j sp m) (no_word w_crate c j sp m))))

-- after a word of a path
abbrev pub WordSettles : Stream → Stream → Type 0
WordSettles ts m = (sees (ahead Before_macro) ts ≡ or (sees at_bang m) (and (sees at_colons m) (sees (ahead Before_macro) m)))
    × (sees (ahead Bang_brace) ts ≡ and (or (sees at_colons m) (sees at_bang m)) (sees (ahead Bang_brace) m))
    × (sees (ahead Before_colons) ts ≡ sees at_colons m)
    × (sees (ahead Bang_name) ts ≡ and (or (sees at_colons m) (sees at_bang m)) (sees (ahead Bang_name) m))

pub word_settles : (ts : Stream) → sees at_path_word ts ≡ true → WordSettles ts (past ts)
unfolding sees lookahead_at
word_settles end e = absurd (true≢false (sym e))
word_settles (leaf (ident x) sp m) e = (
  known_of_word Before_macro refl refl refl refl refl refl refl (lookahead m) x e ∙ macro_known (lookahead m),
  known_of_word Bang_brace refl refl refl refl refl refl refl (lookahead m) x e ∙ brace_known (lookahead m),
  known_of_word Before_colons refl refl refl refl refl refl refl (lookahead m) x e ∙ colons_known (lookahead m),
  known_of_word Bang_name refl refl refl refl refl refl refl (lookahead m) x e ∙ name_known (lookahead m),
)
word_settles (leaf (literal k x) sp m) e = absurd (true≢false (sym e))
word_settles (punct c j sp m) e = absurd (true≢false (sym e ∙ no_path_word c j sp m))
word_settles (group d o c i m) e = absurd (true≢false (sym e))

paren_settles : (ts : Stream) → sees at_name ts ≡ true → sees (ahead Before_paren) ts ≡ sees at_paren (past ts)
unfolding sees lookahead_at
paren_settles end e = absurd (true≢false (sym e))
paren_settles (leaf (ident x) sp m) e = known_of_name Before_paren refl refl (lookahead m) x e ∙ paren_known (lookahead m)
paren_settles (leaf (literal k x) sp m) e = absurd (true≢false (sym e))
paren_settles (punct c j sp m) e = absurd (true≢false (sym e ∙ no_name c j sp m))
paren_settles (group d o c i m) e = absurd (true≢false (sym e))

-- WHAT `::` STATES

-- a fact that `:` states by itself of the tokens after it, and that a third `:` never states
module _ (n : Fact) (c : Look) (lone : (f : Lookahead) → has_fact n (facts_for (asked (Punctuation (58 ∷ []))) f) ≡ answers c f)
    (nothing : (m : Text) (l : List Fact) → answers c (lookahead_with (Punctuation (58 ∷ m)) l) ≡ false) where
  abbrev known_of : Lookahead → Type 0
  known_of f = has_fact n (punctuation_lookahead 58 true (punctuation_lookahead 58 true f)).facts ≡ answers c f

  after_joint : (t : Terminal) (l : List Fact) → known_of (lookahead_with t l)
  after_joint Ended l = lone (lookahead_with Ended l)
  after_joint Name l = lone (lookahead_with Name l)
  after_joint (Word x) l = lone (lookahead_with (Word x) l)
  after_joint (Literal k) l = lone (lookahead_with (Literal k) l)
  after_joint (Delimited d v) l = lone (lookahead_with (Delimited d v) l)
  after_joint (Punctuation []) l = lone (lookahead_with (Punctuation []) l)
  after_joint (Punctuation (d ∷ m)) l = go (nat_eq 58 d) refl
    where
      go : (b : Bool) → nat_eq 58 d ≡ b → known_of (lookahead_with (Punctuation (d ∷ m)) l)
      go true h = subst (λ z. known_of (lookahead_with (Punctuation (z ∷ m)) l)) (eqb-true 58 d h) (sym (nothing m l))
      go false h = rw h (lone (lookahead_with (Punctuation (d ∷ m)) l))

  known_after : (j : Bool) (sp sq : Span) (m : Stream) → sees (ahead n) (punct 58 true sp (punct 58 j sq m)) ≡ sees c m
  unfolding sees lookahead_at
  known_after false sp sq m = lone (lookahead m)
  known_after true sp sq m = after_joint (lookahead m).terminal (lookahead m).facts

-- `::` is next
abbrev pub Colons : Stream → Stream → Type 0
Colons ts m = (sp : Span) × (j : Bool) × (sq : Span) × (ts ≡ punct 58 true sp (punct 58 j sq m))

second_colon : (sp : Span) (n : Stream) → taken (take_mark colons (punct 58 true sp n)) ≡ true → Colons (punct 58 true sp n) (past n)
unfolding take_mark
second_colon sp end t = absurd (true≢false (sym t))
second_colon sp (leaf x sq m) t = absurd (true≢false (sym t))
second_colon sp (group d o k i m) t = absurd (true≢false (sym t))
second_colon sp (punct d j sq m) t = go j (nat_eq d 58) refl t
  where
    go : (j b : Bool) → nat_eq d 58 ≡ b → taken (take_mark colons (punct 58 true sp (punct d j sq m))) ≡ true → Colons (punct 58 true sp (punct d j sq m)) (past (punct d j sq m))
    go j false e t = absurd (true≢false (sym t ∙ rw e refl))
    go true true e t = subst (λ z. Colons (punct 58 true sp (punct z true sq m)) (past (punct z true sq m))) (sym (eqb-true d 58 e)) (sp, true, sq, refl)
    go false true e t = subst (λ z. Colons (punct 58 true sp (punct z false sq m)) (past (punct z false sq m))) (sym (eqb-true d 58 e)) (sp, false, sq, refl)

colons_at : (ts : Stream) → sees at_colons ts ≡ true → Colons ts (past (past ts))
unfolding take_mark
colons_at end h = absurd (true≢false (sym h ∙ sees_mark colons refl end))
colons_at (leaf x sp m) h = absurd (true≢false (sym h ∙ sees_mark colons refl (leaf x sp m)))
colons_at (group d o c i m) h = absurd (true≢false (sym h ∙ sees_mark colons refl (group d o c i m)))
colons_at (punct c false sp m) h = absurd (true≢false (sym h ∙ sees_mark colons refl (punct c false sp m)))
colons_at (punct c true sp m) h = go (nat_eq c 58) refl (sym (sees_mark colons refl (punct c true sp m)) ∙ h)
  where
    go : (b : Bool) → nat_eq c 58 ≡ b → taken (take_mark colons (punct c true sp m)) ≡ true → Colons (punct c true sp m) (past (past (punct c true sp m)))
    go true e t = subst (λ z. taken (take_mark colons (punct z true sp m)) ≡ true → Colons (punct z true sp m) (past (past (punct z true sp m)))) (sym (eqb-true c 58 e)) (second_colon sp m) t
    go false e t = absurd (true≢false (sym t ∙ rw e refl))

-- the tokens after it
abbrev rest : Out → Stream
rest (Some p) = p.1
rest None = end

pub colons_left : (ts : Stream) (s : Syntax) (m : Stream) → take_mark colons ts ≡ Some (s, m) → Colons ts m
unfolding take_mark
colons_left ts s m e = go (colons_at ts (sees_mark colons refl ts ∙ ap taken e))
  where
    go : Colons ts (past (past ts)) → Colons ts m
    go (sp, j, sq, h) = (sp, j, sq, h ∙ ap (λ z. punct 58 true sp (punct 58 j sq z)) (ap rest (subst (λ z. take_mark colons z ≡ Some (s, m)) h e)))

less_lone : (f : Lookahead) → has_fact Before_less (facts_for (asked (Punctuation (58 ∷ []))) f) ≡ answers (at_mark less) f
less_lone f = reported_first Before_less (at_mark less) (others (asked (Punctuation (58 ∷ [])))) f refl refl

pub turbofish_seen : (ts : Stream) → sees at_turbofish ts ≡ and (sees at_colons ts) (sees (at_mark less) (past (past ts)))
unfolding sees
turbofish_seen ts = and_same (sees at_colons ts) _ _ (λ h. of_colons (colons_at ts h))
  where
    of_colons : Colons ts (past (past ts)) → sees (ahead Before_less) ts ≡ sees (at_mark less) (past (past ts))
    of_colons (sp, j, sq, e) = ap (sees (ahead Before_less)) e ∙ known_after Before_less (at_mark less) less_lone (λ m l. refl) j sp sq (past (past ts))

-- words of a path
or_fifth : (a b c d e : Bool) → e ≡ true → or a (or b (or c (or d e))) ≡ true
or_fifth true b c d e h = refl
or_fifth false true c d e h = refl
or_fifth false false true d e h = refl
or_fifth false false false true e h = refl
or_fifth false false false false e h = h

or_second : (a b c : Bool) → b ≡ true → or a (or b c) ≡ true
or_second true b c h = refl
or_second false true c h = refl
or_second false false c h = absurd (true≢false (sym h))

or_first : (a b : Bool) → a ≡ true → or a b ≡ true
or_first true b h = refl
or_first false b h = absurd (true≢false (sym h))

crate_is_word : (ts : Stream) → sees (at_word w_crate) ts ≡ true → sees at_path_word ts ≡ true
unfolding sees
crate_is_word ts h = or_fifth (sees at_name ts) (sees (at_word w_self) ts) (sees (at_word w_Self_type) ts) (sees (at_word w_super) ts) (sees (at_word w_crate) ts) h

pub self_is_word : (ts : Stream) → sees (at_word w_self) ts ≡ true → sees at_path_word ts ≡ true
unfolding sees
self_is_word ts h = or_second (sees at_name ts) (sees (at_word w_self) ts) _ h

name_is_word : (ts : Stream) → sees at_name ts ≡ true → sees at_path_word ts ≡ true
unfolding sees
name_is_word ts h = or_first (sees at_name ts) _ h

pub lone_crate_seen : (ts : Stream) → sees at_lone_crate ts ≡ and (sees (at_word w_crate) ts) (no (sees at_colons (past ts)))
unfolding sees
lone_crate_seen ts = and_same (sees (at_word w_crate) ts) _ _ (λ h. ap no (word_settles ts (crate_is_word ts h)).2)

pub pattern_path_seen : (ts : Stream) → sees at_pattern_path ts ≡ or (sees at_colons ts) (or (sees at_less ts) (or (sees (at_word w_Self_type) ts) (or (sees (at_word w_super) ts) (or (sees (at_word w_crate) ts)
    (or (and (sees (at_word w_self) ts) (sees at_colons (past ts))) (and (sees at_name ts) (or (sees at_colons (past ts)) (sees at_paren (past ts)))))))))
unfolding sees
pattern_path_seen ts =
    ap₂ (λ x y. or (sees at_colons ts) (or (sees at_less ts) (or (sees (at_word w_Self_type) ts) (or (sees (at_word w_super) ts) (or (sees (at_word w_crate) ts) (or x y))))))
    (and_same (sees (at_word w_self) ts) _ _ (λ h. (word_settles ts (self_is_word ts h)).2))
    (and_same (sees at_name ts) _ _ (λ h. ap₂ or (word_settles ts (name_is_word ts h)).2 (paren_settles ts h)))

-- WHAT `!` STATES

bang_mark : (ts : Stream) → sees at_bang ts ≡ true → taken (take_mark exclamation ts) ≡ true
unfolding sees
bang_mark ts h = sym (sees_mark exclamation refl ts) ∙ left_true (sees (at_mark exclamation) ts) _ h
  where
    left_true : (a b : Bool) → and a b ≡ true → a ≡ true
    left_true true b h = refl
    left_true false b h = absurd (true≢false (sym h))

-- `!` is no apostrophe
past_bang : (j : Bool) (sp : Span) (m : Stream) → past (punct 33 j sp m) ≡ m
past_bang false sp m = refl
past_bang true sp m = refl

-- a fact that `!` states of the tokens after it
module _ (n : Fact) (c : Look) (lone : (f : Lookahead) → has_fact n (facts_for (asked (Punctuation (33 ∷ []))) f) ≡ answers c f) where
  abbrev bang_of : Lookahead → Type 0
  bang_of f = answers at_bang (punctuation_lookahead 33 true f) ≡ true → has_fact n (punctuation_lookahead 33 true f).facts ≡ answers c f

  bang_joint : (t : Terminal) (l : List Fact) → bang_of (lookahead_with t l)
  bang_joint Ended l h = lone (lookahead_with Ended l)
  bang_joint Name l h = lone (lookahead_with Name l)
  bang_joint (Word x) l h = lone (lookahead_with (Word x) l)
  bang_joint (Literal k) l h = lone (lookahead_with (Literal k) l)
  bang_joint (Delimited d v) l h = lone (lookahead_with (Delimited d v) l)
  bang_joint (Punctuation []) l h = lone (lookahead_with (Punctuation []) l)
  bang_joint (Punctuation (d ∷ m)) l h = go (nat_eq 61 d) refl h
    where
      go : (b : Bool) → nat_eq 61 d ≡ b → bang_of (lookahead_with (Punctuation (d ∷ m)) l)
      go true e = subst (λ z. bang_of (lookahead_with (Punctuation (z ∷ m)) l)) (eqb-true 61 d e) (λ h. absurd (true≢false (sym h)))
      go false e = rw e (λ h. lone (lookahead_with (Punctuation (d ∷ m)) l))

  bang_first : (j : Bool) (sp : Span) (m : Stream) → sees at_bang (punct 33 j sp m) ≡ true → sees (ahead n) (punct 33 j sp m) ≡ sees c m
  unfolding sees lookahead_at
  bang_first false sp m h = lone (lookahead m)
  bang_first true sp m h = bang_joint (lookahead m).terminal (lookahead m).facts h

  abbrev BangSettles : Bool → Span → Stream → ℕ → Type 0
  BangSettles j sp m z = sees at_bang (punct z j sp m) ≡ true → taken (take_mark exclamation (punct z j sp m)) ≡ true → sees (ahead n) (punct z j sp m) ≡ sees c (past (punct z j sp m))

  known_by_bang : (ts : Stream) → sees at_bang ts ≡ true → sees (ahead n) ts ≡ sees c (past ts)
  unfolding take_mark
  known_by_bang end h = absurd (true≢false (sym (bang_mark end h)))
  known_by_bang (leaf x sp m) h = absurd (true≢false (sym (bang_mark (leaf x sp m) h)))
  known_by_bang (group d o i k m) h = absurd (true≢false (sym (bang_mark (group d o i k m) h)))
  known_by_bang (punct d j sp m) h = go (nat_eq d 33) refl h (bang_mark (punct d j sp m) h)
    where
      go : (b : Bool) → nat_eq d 33 ≡ b → BangSettles j sp m d
      go true e = subst (BangSettles j sp m) (sym (eqb-true d 33 e)) (λ h t. bang_first j sp m h ∙ ap (sees c) (sym (past_bang j sp m)))
      go false e = λ h t. absurd (true≢false (sym t ∙ rw e refl))

brace_lone : (f : Lookahead) → has_fact Bang_brace (facts_for (asked (Punctuation (33 ∷ []))) f) ≡ answers at_brace f
brace_lone f = reported_first Bang_brace at_brace (others (asked (Punctuation (33 ∷ [])))) f refl refl

name_lone : (f : Lookahead) → has_fact Bang_name (facts_for (asked (Punctuation (33 ∷ []))) f) ≡ answers at_macro_name f
name_lone f = passed Bang_name (asked (Punctuation (33 ∷ []))) f refl ∙ reported_first Bang_name at_macro_name [] f refl refl

pub bang_settles : (ts : Stream) → sees at_bang ts ≡ true → sees (ahead Bang_brace) ts ≡ sees at_brace (past ts)
bang_settles = known_by_bang Bang_brace at_brace brace_lone

bang_settles_name : (ts : Stream) → sees at_bang ts ≡ true → sees (ahead Bang_name) ts ≡ sees at_macro_name (past ts)
bang_settles_name = known_by_bang Bang_name at_macro_name name_lone

-- `crate`, `!` and braces
pub crate_macro_seen : (ts : Stream) → sees at_crate_macro ts ≡ and (sees at_lone_crate ts) (and (sees at_bang (past ts)) (sees at_brace (past (past ts))))
unfolding sees
crate_macro_seen ts = and_same (sees at_lone_crate ts) _ _ (λ h. of_lone (sees (at_word w_crate) ts) (sees at_colons (past ts)) refl refl (sym (lone_crate_seen ts) ∙ h))
  where
    of_lone : (a b : Bool) → sees (at_word w_crate) ts ≡ a → sees at_colons (past ts) ≡ b → and a (no b) ≡ true → sees (ahead Bang_brace) ts ≡ and (sees at_bang (past ts)) (sees at_brace (past (past ts)))
    of_lone false b p q h = absurd (true≢false (sym h))
    of_lone true true p q h = absurd (true≢false (sym h))
    of_lone true false p q h = (word_settles ts (crate_is_word ts p)).1 ∙ ap (λ z. and (or z (sees at_bang (past ts))) (sees (ahead Bang_brace) (past ts))) q ∙ and_same (sees at_bang (past ts)) _ _ (bang_settles (past ts))

-- ALONG A PATH, UP TO ITS `!`

abbrev Goes : Stream → Stream → Type 0
Goes ts m = (sees (ahead Before_macro) ts ≡ macro_from m) × (sees (ahead Bang_brace) ts ≡ brace_macro_from m) × (sees (ahead Bang_name) ts ≡ named_macro_from m)

-- after `::`
after_colons : (ts : Stream) (s : Syntax) (m : Stream) → take_mark colons ts ≡ Some (s, m) → Goes ts m
unfolding sees
after_colons ts s m e = go (colons_left ts s m e)
  where
    macro_in : (f : Lookahead) → has_fact Before_macro (facts_for (asked (Punctuation (58 ∷ []))) f) ≡ answers (at_path_word and_also ahead Before_macro) f
    macro_in f = passed Before_macro (asked (Punctuation (58 ∷ []))) f refl ∙ reported_first Before_macro (at_path_word and_also ahead Before_macro) (others (others (asked (Punctuation (58 ∷ []))))) f refl refl

    brace_in : (f : Lookahead) → has_fact Bang_brace (facts_for (asked (Punctuation (58 ∷ []))) f) ≡ answers (at_path_word and_also ahead Bang_brace) f
    brace_in f = passed Bang_brace (asked (Punctuation (58 ∷ []))) f refl ∙ passed Bang_brace (others (asked (Punctuation (58 ∷ [])))) f refl
        ∙ reported_first Bang_brace (at_path_word and_also ahead Bang_brace) (others (others (others (asked (Punctuation (58 ∷ [])))))) f refl refl

    name_in : (f : Lookahead) → has_fact Bang_name (facts_for (asked (Punctuation (58 ∷ []))) f) ≡ answers (at_path_word and_also ahead Bang_name) f
    name_in f = passed Bang_name (asked (Punctuation (58 ∷ []))) f refl ∙ passed Bang_name (others (asked (Punctuation (58 ∷ [])))) f refl ∙ passed Bang_name (others (others (asked (Punctuation (58 ∷ []))))) f refl
        ∙ reported_first Bang_name (at_path_word and_also ahead Bang_name) [] f refl refl

    go : Colons ts m → Goes ts m
    go (sp, j, sq, h) = (
      ap (sees (ahead Before_macro)) h ∙ known_after Before_macro (at_path_word and_also ahead Before_macro) macro_in (λ x l. refl) j sp sq m,
      ap (sees (ahead Bang_brace)) h ∙ known_after Bang_brace (at_path_word and_also ahead Bang_brace) brace_in (λ x l. refl) j sp sq m,
      ap (sees (ahead Bang_name)) h ∙ known_after Bang_name (at_path_word and_also ahead Bang_name) name_in (λ x l. refl) j sp sq m,
    )

-- a word that was taken
pub word_left : (k : Kind) (ts : Stream) (s : Syntax) (m : Stream) → take_token k ts ≡ Some (s, m) → past ts ≡ m
unfolding take_token
word_left k end s m e = absurd (cc e)
word_left k (leaf x sp r) s m e = go (fits k x) e
  where
    go : (b : Bool) → only {A = Syntax × Stream} b (Some (Token x sp, r)) ≡ Some (s, m) → r ≡ m
    go true e = ap rest e
    go false e = absurd (cc e)
word_left k (punct c j sp r) s m e = absurd (cc e)
word_left k (group d o c i r) s m e = absurd (cc e)

module _ (k : Kind) (ts : Stream) (s : Syntax) (m : Stream) (word : sees at_path_word ts ≡ true) (e : take_token k ts ≡ Some (s, m)) where
  settles : WordSettles ts m
  settles = subst (λ z. WordSettles ts z) (word_left k ts s m e) (word_settles ts word)

  macro_is : macro_from ts ≡ or (sees at_bang m) (and (sees at_colons m) (sees (ahead Before_macro) m))
  macro_is = ap (λ b. and b (sees (ahead Before_macro) ts)) word ∙ settles.0

  brace_is : brace_macro_from ts ≡ and (or (sees at_colons m) (sees at_bang m)) (sees (ahead Bang_brace) m)
  brace_is = ap (λ b. and b (sees (ahead Bang_brace) ts)) word ∙ settles.1

  name_is : named_macro_from ts ≡ and (or (sees at_colons m) (sees at_bang m)) (sees (ahead Bang_name) m)
  name_is = ap (λ b. and b (sees (ahead Bang_name) ts)) word ∙ settles.3

  -- `!` follows it
  pub bang_found : sees at_bang m ≡ true → (macro_from ts ≡ true) × (brace_macro_from ts ≡ sees at_brace (past m)) × (named_macro_from ts ≡ sees at_macro_name (past m))
  bang_found h = (
    macro_is ∙ ap (λ b. or b (and (sees at_colons m) (sees (ahead Before_macro) m))) h,
    brace_is ∙ ap (λ b. and (or (sees at_colons m) b) (sees (ahead Bang_brace) m)) h ∙ or_true (sees at_colons m) (sees (ahead Bang_brace) m) ∙ bang_settles m h,
    name_is ∙ ap (λ b. and (or (sees at_colons m) b) (sees (ahead Bang_name) m)) h ∙ or_true (sees at_colons m) (sees (ahead Bang_name) m) ∙ bang_settles_name m h,
  )
    where
      or_true : (b d : Bool) → and (or b true) d ≡ d
      or_true true d = refl
      or_true false d = refl

  -- neither `!` nor `::` does
  pub path_ends : sees at_bang m ≡ false → sees at_colons m ≡ false → (macro_from ts ≡ false) × (brace_macro_from ts ≡ false) × (named_macro_from ts ≡ false)
  path_ends h n = (
    macro_is ∙ ap₂ (λ a b. or a (and b (sees (ahead Before_macro) m))) h n,
    brace_is ∙ ap₂ (λ a b. and (or b a) (sees (ahead Bang_brace) m)) h n,
    name_is ∙ ap₂ (λ a b. and (or b a) (sees (ahead Bang_name) m)) h n,
  )

  -- `::` does, and a path continues after it
  pub path_continues : sees at_bang m ≡ false → sees at_colons m ≡ true → (t : Syntax) (r : Stream) → take_mark colons m ≡ Some (t, r) →
      (macro_from ts ≡ macro_from r) × (brace_macro_from ts ≡ brace_macro_from r) × (named_macro_from ts ≡ named_macro_from r)
  path_continues h c t r d = (
    macro_is ∙ ap₂ (λ a b. or a (and b (sees (ahead Before_macro) m))) h c ∙ (after_colons m t r d).0,
    brace_is ∙ ap₂ (λ a b. and (or b a) (sees (ahead Bang_brace) m)) h c ∙ (after_colons m t r d).1,
    name_is ∙ ap₂ (λ a b. and (or b a) (sees (ahead Bang_name) m)) h c ∙ (after_colons m t r d).2,
  )

-- where it begins
abbrev pub Begins : Stream → Stream → Type 0
Begins ts m = (sees at_macro ts ≡ macro_from m) × (sees at_brace_macro ts ≡ brace_macro_from m) × (sees at_named_macro ts ≡ named_macro_from m)

-- with `::`
pub begins_after : (ts : Stream) (s : Syntax) (m : Stream) → sees at_colons ts ≡ true → take_mark colons ts ≡ Some (s, m) → Begins ts m
unfolding sees
begins_after ts s m h at = (
  ap (λ b. and (or (sees at_path_word ts) b) (sees (ahead Before_macro) ts)) h ∙ or_true (sees at_path_word ts) _ ∙ (after_colons ts s m at).0,
  ap (λ b. and (or (sees at_path_word ts) b) (sees (ahead Bang_brace) ts)) h ∙ or_true (sees at_path_word ts) _ ∙ (after_colons ts s m at).1,
  ap (λ b. and (or (sees at_path_word ts) b) (sees (ahead Bang_name) ts)) h ∙ or_true (sees at_path_word ts) _ ∙ (after_colons ts s m at).2,
)
  where
    or_true : (a c : Bool) → and (or a true) c ≡ c
    or_true true c = refl
    or_true false c = refl

-- without it
pub begins_here : (ts : Stream) → sees at_colons ts ≡ false → Begins ts ts
unfolding sees
begins_here ts h = (
  ap (λ b. and (or (sees at_path_word ts) b) (sees (ahead Before_macro) ts)) h ∙ or_false (sees at_path_word ts) _,
  ap (λ b. and (or (sees at_path_word ts) b) (sees (ahead Bang_brace) ts)) h ∙ or_false (sees at_path_word ts) _,
  ap (λ b. and (or (sees at_path_word ts) b) (sees (ahead Bang_name) ts)) h ∙ or_false (sees at_path_word ts) _,
)
  where
    or_false : (a c : Bool) → and (or a false) c ≡ and a c
    or_false true c = refl
    or_false false c = refl

-- WHAT IS READ WHERE IT IS NEXT

known : (is_known_word w_self ≡ true) × (is_known_word w_Self_type ≡ true) × (is_known_word w_super ≡ true) × (is_known_word w_crate ≡ true)
unfolding is_known_word
known = (refl, refl, refl, refl)

no_end : sees at_path_word end ≡ false
unfolding sees lookahead_at
no_end = refl

no_literal : (k : LitKind) (x : Text) (sp : Span) (m : Stream) → sees at_path_word (leaf (literal k x) sp m) ≡ false
unfolding sees lookahead_at
no_literal k x sp m = refl

no_group : (d : Delimiter) (o c : Span) (i m : Stream) → sees at_path_word (group d o c i m) ≡ false
unfolding sees lookahead_at
no_group d o c i m = refl

abbrev fits_path : Text → Bool
fits_path x = or (no (is_keyword x)) (or (same_text x w_self) (or (same_text x w_Self_type) (or (same_text x w_super) (same_text x w_crate))))

path_word_fits : (x : Text) (sp : Span) (r : Stream) → sees at_path_word (leaf (ident x) sp r) ≡ fits_path x
unfolding sees take_token
path_word_fits x sp r =
    ap₂ or (sees_name (leaf (ident x) sp r) ∙ only_taken (fits name (ident x)) ∙ fits_name x)
    (ap₂ or (of_word w_self known.0) (ap₂ or (of_word w_Self_type known.1) (ap₂ or (of_word w_super known.2) (of_word w_crate known.3))))
  where
    only_taken : (b : Bool) → taken {A = Syntax × Stream} (only b (Some (Token (ident x) sp, r))) ≡ b
    only_taken true = refl
    only_taken false = refl

    of_word : (w : Text) → is_known_word w ≡ true → sees (at_word w) (leaf (ident x) sp r) ≡ same_text x w
    of_word w k = sees_word w (leaf (ident x) sp r) ∙ only_taken (fits (word w) (ident x)) ∙ fits_word w x k

fits_some : (x : Text) → fits (name_or path_words) (ident x) ≡ fits_path x
fits_some x = fits_name_or path_words x ∙ ap (λ b. or (no (is_keyword x)) (or (same_text x w_self) (or (same_text x w_Self_type) (or (same_text x w_super) b)))) (or_none (same_text x w_crate))
  where
    or_none : (b : Bool) → or b false ≡ b
    or_none true = refl
    or_none false = refl

pub word_read : (ts : Stream) → sees at_path_word ts ≡ true → take_token (name_or path_words) ts ≡ None → ⊥
unfolding take_token
word_read end h e = true≢false (sym h ∙ no_end)
word_read (leaf (ident x) sp m) h e = go (fits (name_or path_words) (ident x)) (fits_some x ∙ sym (path_word_fits x sp m) ∙ h) e
  where
    go : (b : Bool) → b ≡ true → only {A = Syntax × Stream} b (Some (Token (ident x) sp, m)) ≡ None → ⊥
    go true f e = cc e
    go false f e = true≢false (sym f)
word_read (leaf (literal k x) sp m) h e = true≢false (sym h ∙ no_literal k x sp m)
word_read (punct c j sp m) h e = true≢false (sym h ∙ no_path_word c j sp m)
word_read (group d o c i m) h e = true≢false (sym h ∙ no_group d o c i m)
