-- What is known of the next token: which looks imply others, and what holds after a word or in a group.
use Rattle.std.proofs.Common.{◌≡◌, Bool, true, false, List, [], ◌∷◌, ◌++◌, map, Option, Some, None, refl, sym, ap, ap₂, ◌∙◌, true≢false, ◌⊎◌, inl, inr}
use Rattle.std.proofs.lemmas.Bool.{eqb-true, eq-eqb}
use Rattle.std.proofs.Common.{nat_eq}
use Rattle.syn_grammar.specs.Words.{Text, contextual}
use Rattle.syn_grammar.specs.Tokens.{Delimiter, Span, Leaf, Stream, leaf, and, or, no, pick, Fact, has_fact, same_fact, same_text, Terminal, Ended, Name, Word, Delimited, mem, same_terminal, is_name, is_word, is_ended, is_group, starts_mark, Punctuation, begins_text, one_of_texts, Lookahead, lookahead, Look, ended, at_name, at_word, at_mark, at_literal, at_group, at_empty_group, ahead, ◌or_else◌, ◌and_also◌, ◌but_not◌, answers, Asked, asked, asked_inside, facts_for, leaf_terminal}
use Rattle.syn_grammar.specs.Grammar.{Kind, name, identifier, word, name_or, literal_of, index, fits}
use Rattle.syn_grammar.proofs.Sets.{or_left, or_right, or_split, and_left, and_right, no_true, no_false, same_text_eq, same_text_refl, same_delimiter_eq, every, every_at, same_terminal_of, same_terminal_eq, mem_here, mem_left, mem_right, may, must, may_of, on_of, same_look, same_look_eq}

-- ---- WHAT ONE LOOK SAYS OF ANOTHER

-- all terminals that a look may hold of, where these are few
abbrev pub joined : Option (List Terminal) → Option (List Terminal) → Option (List Terminal)
joined (Some l) (Some m) = Some (l ++ m)
joined _ _ = None

abbrev pub either_of : Option (List Terminal) → Option (List Terminal) → Option (List Terminal)
either_of (Some l) o = Some l
either_of None o = o

abbrev pub exact : Look → Option (List Terminal)
exact ended = Some (Ended ∷ [])
exact at_name = Some (Name ∷ map Word contextual)
exact (at_word x) = Some (Word x ∷ [])
exact (a or_else b) = joined (exact a) (exact b)
exact (a and_also b) = either_of (exact a) (exact b)
exact (a but_not b) = exact a
exact (at_group d) = Some (Delimited d true ∷ Delimited d false ∷ [])
exact _ = None

abbrev pub Within : Terminal → Option (List Terminal) → Type 0
Within t o = (l : List Terminal) → o ≡ Some l → mem t l ≡ true

pub some_is : {A : Type 0} (a b : A) → Some a ≡ Some b → a ≡ b
some_is a b e = cc e

pub held_within : (t : Terminal) (l : List Terminal) → mem t l ≡ true → Within t (Some l)
held_within t l h m e = ap (mem t) (sym (some_is l m e)) ∙ h

pub joined_within : (t : Terminal) (o p : Option (List Terminal)) → Within t o ⊎ Within t p → Within t (joined o p)
joined_within t (Some l) (Some m) (inl w) = held_within t (l ++ m) (mem_left t l m (w l refl))
joined_within t (Some l) (Some m) (inr w) = held_within t (l ++ m) (mem_right t l m (w m refl))
joined_within t (Some l) None w = λ m e. absurd (cc e)
joined_within t None p w = λ m e. absurd (cc e)

pub either_within : (t : Terminal) (o p : Option (List Terminal)) → Within t o → Within t p → Within t (either_of o p)
either_within t (Some l) p u v = u
either_within t None p u v = v

pub name_within : (t : Terminal) → is_name t ≡ true → mem t (Name ∷ map Word contextual) ≡ true
name_within Name e = refl
name_within (Word x) e = among_words contextual e
  where
    among_words : (l : List Text) → one_of_texts x l ≡ true → mem (Word x) (map Word l) ≡ true
    among_words [] e = absurd (true≢false (sym e))
    among_words (y ∷ l) e = go (or_split (same_text x y) (one_of_texts x l) e) (among_words l)
      where
        go : (same_text x y ≡ true) ⊎ (one_of_texts x l ≡ true) → (one_of_texts x l ≡ true → mem (Word x) (map Word l) ≡ true) → mem (Word x) (map Word (y ∷ l)) ≡ true
        go (inl q) ih = or_left (same_text x y) _ q
        go (inr q) ih = or_right (same_text x y) _ (ih q)
name_within _ e = absurd (true≢false (sym e))

pub word_within : (x : Text) (t : Terminal) → is_word x t ≡ true → t ≡ Word x
word_within x (Word y) e = ap Word (sym (same_text_eq x y e))
word_within x _ e = absurd (true≢false (sym e))

pub ended_within : (t : Terminal) → is_ended t ≡ true → t ≡ Ended
ended_within Ended e = refl
ended_within _ e = absurd (true≢false (sym e))

pub group_within : (d : Delimiter) (t : Terminal) → is_group d t ≡ true → mem t (Delimited d true ∷ Delimited d false ∷ []) ≡ true
group_within d (Delimited e true) q = ap (λ z. mem (Delimited z true) (Delimited d true ∷ Delimited d false ∷ [])) (sym (same_delimiter_eq d e q)) ∙ mem_here (Delimited d true) (Delimited d false ∷ [])
group_within d (Delimited e false) q = ap (λ z. mem (Delimited z false) (Delimited d true ∷ Delimited d false ∷ [])) (sym (same_delimiter_eq d e q)) ∙ mem_right (Delimited d false) (Delimited d true ∷ []) (Delimited d false ∷ []) (mem_here (Delimited d false) [])
group_within d _ q = absurd (true≢false (sym q))

pub exact_is : (c : Look) (f : Lookahead) → answers c f ≡ true → Within f.terminal (exact c)
exact_is ended f e = held_within f.terminal _ (same_terminal_one f.terminal Ended (ended_within f.terminal e))
  where
    same_terminal_one : (t u : Terminal) → t ≡ u → mem t (u ∷ []) ≡ true
    same_terminal_one t u e = or_left (same_terminal t u) false (same_terminal_of t u e)
exact_is at_name f e = held_within f.terminal _ (name_within f.terminal e)
exact_is (at_word x) f e = held_within f.terminal _ (or_left (same_terminal f.terminal (Word x)) false (same_terminal_of f.terminal (Word x) (word_within x f.terminal e)))
exact_is (a or_else b) f e = joined_within f.terminal (exact a) (exact b) (go (or_split (answers a f) (answers b f) e) (exact_is a f) (exact_is b f))
  where
    go : (answers a f ≡ true) ⊎ (answers b f ≡ true) → (answers a f ≡ true → Within f.terminal (exact a)) → (answers b f ≡ true → Within f.terminal (exact b)) → Within f.terminal (exact a) ⊎ Within f.terminal (exact b)
    go (inl q) u v = inl (u q)
    go (inr q) u v = inr (v q)
exact_is (a and_also b) f e = either_within f.terminal (exact a) (exact b) (exact_is a f (and_left (answers a f) (answers b f) e)) (exact_is b f (and_right (answers a f) (answers b f) e))
exact_is (a but_not b) f e = exact_is a f (and_left (answers a f) _ e)
exact_is (at_group d) f e = held_within f.terminal _ (group_within d f.terminal e)
exact_is _ f e = λ m q. absurd (cc q)

abbrev pub by_terms : (Terminal → Bool) → Option (List Terminal) → Bool
by_terms h (Some l) = every h l
by_terms h None = false

pub by_terms_at : (h : Terminal → Bool) (t : Terminal) (o : Option (List Terminal)) → by_terms h o ≡ true → Within t o → h t ≡ true
by_terms_at h t (Some l) e w = every_at h t l e (w l refl)
by_terms_at h t None e w = absurd (true≢false (sym e))

-- no mark begins with both
abbrev pub marks_apart : Look → Look → Bool
marks_apart (at_mark x) (at_mark y) = no (or (begins_text x y) (begins_text y x))
marks_apart _ _ = false

pub prefixes : (x y l : Text) → begins_text x l ≡ true → begins_text y l ≡ true → or (begins_text x y) (begins_text y x) ≡ true
prefixes [] y l a b = refl
prefixes (c ∷ x) [] l a b = or_right (begins_text (c ∷ x) []) true refl
prefixes (c ∷ x) (d ∷ y) [] a b = absurd (true≢false (sym a))
prefixes (c ∷ x) (d ∷ y) (e ∷ l) a b =
    let p = eqb-true c e (and_left (nat_eq c e) _ a) in
    let q = eqb-true d e (and_left (nat_eq d e) _ b) in
    let r = eq-eqb c d (p ∙ sym q) in
    let s = eq-eqb d c (q ∙ sym p) in
    ap₂ (λ u v. or (and u (begins_text x y)) (and v (begins_text y x))) r s ∙ prefixes x y l (and_right (nat_eq c e) _ a) (and_right (nat_eq d e) _ b)

pub marks_apart_is : (c d : Look) (f : Lookahead) → marks_apart c d ≡ true → answers c f ≡ true → answers d f ≡ true → ⊥
marks_apart_is (at_mark x) (at_mark y) f e a b = go f.terminal a b
  where
    go : (t : Terminal) → starts_mark x t ≡ true → starts_mark y t ≡ true → ⊥
    go (Punctuation l) a b = true≢false (sym (prefixes x y l a b) ∙ no_true _ e)
    go _ a b = true≢false (sym a)
marks_apart_is _ _ f e a b = true≢false (sym e)

-- where the first holds, the second does
abbrev pub surely : Look → Look → Bool
surely c d = or (same_look c d) (by_terms (λ t. or (no (may c t)) (must d t)) (exact c))

pub surely_is : (c d : Look) (f : Lookahead) → surely c d ≡ true → answers c f ≡ true → answers d f ≡ true
surely_is c d f e a = go (or_split (same_look c d) _ e)
  where
    go : (same_look c d ≡ true) ⊎ (by_terms (λ t. or (no (may c t)) (must d t)) (exact c) ≡ true) → answers d f ≡ true
    go (inl q) = ap (λ z. answers z f) (sym (same_look_eq c d q)) ∙ a
    go (inr q) = on_of d f (ap (λ v. or (no v) (must d f.terminal)) (sym (may_of c f a)) ∙ by_terms_at (λ t. or (no (may c t)) (must d t)) f.terminal (exact c) q (exact_is c f a))

abbrev pub implies : Look → Look → Bool
implies c (a or_else b) = or (surely c (a or_else b)) (or (implies c a) (implies c b))
implies c (a and_also b) = or (surely c (a and_also b)) (and (implies c a) (implies c b))
implies c d = surely c d

pub implies_is : (c d : Look) (f : Lookahead) → implies c d ≡ true → answers c f ≡ true → answers d f ≡ true
implies_is c (a or_else b) f e h = go (or_split (surely c (a or_else b)) _ e) (implies_is c a f) (implies_is c b f)
  where
    go : (surely c (a or_else b) ≡ true) ⊎ (or (implies c a) (implies c b) ≡ true) → (implies c a ≡ true → answers c f ≡ true → answers a f ≡ true) → (implies c b ≡ true → answers c f ≡ true → answers b f ≡ true) → or (answers a f) (answers b f) ≡ true
    go (inl q) u v = surely_is c (a or_else b) f q h
    go (inr q) u v = which (or_split (implies c a) (implies c b) q)
      where
        which : (implies c a ≡ true) ⊎ (implies c b ≡ true) → or (answers a f) (answers b f) ≡ true
        which (inl p) = or_left (answers a f) (answers b f) (u p h)
        which (inr p) = or_right (answers a f) (answers b f) (v p h)
implies_is c (a and_also b) f e h = go (or_split (surely c (a and_also b)) _ e) (implies_is c a f) (implies_is c b f)
  where
    go : (surely c (a and_also b) ≡ true) ⊎ (and (implies c a) (implies c b) ≡ true) → (implies c a ≡ true → answers c f ≡ true → answers a f ≡ true) → (implies c b ≡ true → answers c f ≡ true → answers b f ≡ true) → and (answers a f) (answers b f) ≡ true
    go (inl q) u v = surely_is c (a and_also b) f q h
    go (inr q) u v = ap₂ and (u (and_left (implies c a) (implies c b) q) h) (v (and_right (implies c a) (implies c b) q) h)
implies_is c ended f e h = surely_is c ended f e h
implies_is c at_name f e h = surely_is c at_name f e h
implies_is c (at_word x) f e h = surely_is c (at_word x) f e h
implies_is c (at_mark x) f e h = surely_is c (at_mark x) f e h
implies_is c (at_literal x) f e h = surely_is c (at_literal x) f e h
implies_is c (at_group x) f e h = surely_is c (at_group x) f e h
implies_is c at_empty_group f e h = surely_is c at_empty_group f e h
implies_is c (ahead x) f e h = surely_is c (ahead x) f e h
implies_is c (a but_not b) f e h = surely_is c (a but_not b) f e h

-- where the first holds, the second doesn't
abbrev pub never_with : Look → Look → Bool
never_with c d = or (marks_apart c d) (by_terms (λ t. or (no (may c t)) (no (may d t))) (exact c))

pub never_with_is : (c d : Look) (f : Lookahead) → never_with c d ≡ true → answers c f ≡ true → answers d f ≡ true → ⊥
never_with_is c d f e a b = go (or_split (marks_apart c d) _ e)
  where
    go : (marks_apart c d ≡ true) ⊎ (by_terms (λ t. or (no (may c t)) (no (may d t))) (exact c) ≡ true) → ⊥
    go (inl q) = marks_apart_is c d f q a b
    go (inr q) = true≢false (sym (ap₂ (λ v w. or (no v) (no w)) (sym (may_of c f a)) (sym (may_of d f b)) ∙ by_terms_at (λ t. or (no (may c t)) (no (may d t))) f.terminal (exact c) q (exact_is c f a)))

abbrev pub excludes : Look → Look → Bool
excludes c (a or_else b) = or (never_with c (a or_else b)) (and (excludes c a) (excludes c b))
excludes c (a and_also b) = or (never_with c (a and_also b)) (or (excludes c a) (excludes c b))
excludes c (a but_not b) = or (never_with c (a but_not b)) (excludes c a)
excludes c d = never_with c d

pub excludes_is : (c d : Look) (f : Lookahead) → excludes c d ≡ true → answers c f ≡ true → answers d f ≡ true → ⊥
excludes_is c (a or_else b) f e h i = go (or_split (never_with c (a or_else b)) _ e) (or_split (answers a f) (answers b f) i) (λ q w. excludes_is c a f q h w) (λ q w. excludes_is c b f q h w)
  where
    go : (never_with c (a or_else b) ≡ true) ⊎ (and (excludes c a) (excludes c b) ≡ true) → (answers a f ≡ true) ⊎ (answers b f ≡ true) → (excludes c a ≡ true → answers a f ≡ true → ⊥) → (excludes c b ≡ true → answers b f ≡ true → ⊥) → ⊥
    go (inl q) w u v = never_with_is c (a or_else b) f q h i
    go (inr q) (inl w) u v = u (and_left (excludes c a) (excludes c b) q) w
    go (inr q) (inr w) u v = v (and_right (excludes c a) (excludes c b) q) w
excludes_is c (a and_also b) f e h i =
    go (or_split (never_with c (a and_also b)) _ e) (λ q. excludes_is c a f q h (and_left (answers a f) (answers b f) i)) (λ q. excludes_is c b f q h (and_right (answers a f) (answers b f) i))
  where
    go : (never_with c (a and_also b) ≡ true) ⊎ (or (excludes c a) (excludes c b) ≡ true) → (excludes c a ≡ true → ⊥) → (excludes c b ≡ true → ⊥) → ⊥
    go (inl q) u v = never_with_is c (a and_also b) f q h i
    go (inr q) u v = which (or_split (excludes c a) (excludes c b) q)
      where
        which : (excludes c a ≡ true) ⊎ (excludes c b ≡ true) → ⊥
        which (inl p) = u p
        which (inr p) = v p
excludes_is c (a but_not b) f e h i = go (or_split (never_with c (a but_not b)) _ e) (λ q. excludes_is c a f q h (and_left (answers a f) _ i))
  where
    go : (never_with c (a but_not b) ≡ true) ⊎ (excludes c a ≡ true) → (excludes c a ≡ true → ⊥) → ⊥
    go (inl q) u = never_with_is c (a but_not b) f q h i
    go (inr q) u = u q
excludes_is c ended f e h i = never_with_is c ended f e h i
excludes_is c at_name f e h i = never_with_is c at_name f e h i
excludes_is c (at_word x) f e h i = never_with_is c (at_word x) f e h i
excludes_is c (at_mark x) f e h i = never_with_is c (at_mark x) f e h i
excludes_is c (at_literal x) f e h i = never_with_is c (at_literal x) f e h i
excludes_is c (at_group x) f e h i = never_with_is c (at_group x) f e h i
excludes_is c at_empty_group f e h i = never_with_is c at_empty_group f e h i
excludes_is c (ahead x) f e h i = never_with_is c (ahead x) f e h i

-- ---- WHAT IS KNOWN OF WHAT STANDS NEXT

abbrev pub Known : Type 0
Known = List (Look × Bool)

abbrev pub Holds : Known → Lookahead → Type 0
Holds [] f = Unit {0}
Holds (p ∷ l) f = (answers p.0 f ≡ p.1) × Holds l f

-- not both
abbrev pub against : Look → Bool → Look → Bool → Bool
against c true d true = or (excludes c d) (excludes d c)
against c true d false = implies c d
against c false d true = implies d c
against c false d false = false

pub against_is : (c : Look) (v : Bool) (d : Look) (w : Bool) (f : Lookahead) → against c v d w ≡ true → answers c f ≡ v → answers d f ≡ w → ⊥
against_is c true d true f e a b = go (or_split (excludes c d) (excludes d c) e)
  where
    go : (excludes c d ≡ true) ⊎ (excludes d c ≡ true) → ⊥
    go (inl q) = excludes_is c d f q a b
    go (inr q) = excludes_is d c f q b a
against_is c true d false f e a b = true≢false (sym (implies_is c d f e a) ∙ b)
against_is c false d true f e a b = true≢false (sym (implies_is d c f e b) ∙ a)
against_is c false d false f e a b = true≢false (sym e)

abbrev pub clash : Look → Bool → Known → Bool
clash c v [] = false
clash c v (p ∷ l) = or (against c v p.0 p.1) (clash c v l)

pub clash_is : (c : Look) (v : Bool) (l : Known) (f : Lookahead) → clash c v l ≡ true → Holds l f → answers c f ≡ v → ⊥
clash_is c v [] f e h a = true≢false (sym e)
clash_is c v (p ∷ l) f e h a = go (or_split (against c v p.0 p.1) (clash c v l) e) (λ q. clash_is c v l f q h.1 a)
  where
    go : (against c v p.0 p.1 ≡ true) ⊎ (clash c v l ≡ true) → (clash c v l ≡ true → ⊥) → ⊥
    go (inl q) u = against_is c v p.0 p.1 f q a h.0
    go (inr q) u = u q

-- what is known where this look holds, or doesn't
abbrev pub noted : Look → Bool → Known → Known
noted (a and_also b) true l = (a and_also b, true) ∷ noted a true (noted b true l)
noted (a but_not b) true l = (a but_not b, true) ∷ noted a true (noted b false l)
noted (a or_else b) false l = (a or_else b, false) ∷ noted a false (noted b false l)
noted (a and_also b) false l = (a and_also b, false) ∷ pick (clash a false l) (noted b false l) l
noted (a but_not b) false l = (a but_not b, false) ∷ pick (clash a false l) (noted b true l) l
noted (a or_else b) true l = (a or_else b, true) ∷ pick (clash a true l) (noted b true l) l
noted c v l = (c, v) ∷ l

pub not_false : (b : Bool) → (b ≡ false → ⊥) → b ≡ true
not_false true h = refl
not_false false h = absurd (h refl)

pub not_true : (b : Bool) → (b ≡ true → ⊥) → b ≡ false
not_true false h = refl
not_true true h = absurd (h refl)

pub or_off : (a b : Bool) → or a b ≡ false → (a ≡ false) × (b ≡ false)
or_off false b e = (refl, e)
or_off true b e = absurd (true≢false e)

pub either_way : (w : Bool) (l m : Known) (f : Lookahead) → (w ≡ true → Holds l f) → Holds m f → Holds (pick w l m) f
either_way true l m f u h = u refl
either_way false l m f u h = h

pub noted_is : (c : Look) (v : Bool) (l : Known) (f : Lookahead) → Holds l f → answers c f ≡ v → Holds (noted c v l) f
noted_is (a and_also b) true l f h e = (e, noted_is a true (noted b true l) f (noted_is b true l f h (and_right (answers a f) (answers b f) e)) (and_left (answers a f) (answers b f) e))
noted_is (a but_not b) true l f h e = (e, noted_is a true (noted b false l) f (noted_is b false l f h (no_true (answers b f) (and_right (answers a f) _ e))) (and_left (answers a f) _ e))
noted_is (a or_else b) false l f h e =
    let p = or_off (answers a f) (answers b f) e in
    (e, noted_is a false (noted b false l) f (noted_is b false l f h p.1) p.0)
noted_is (a and_also b) false l f h e = (e, either_way (clash a false l) (noted b false l) l f (λ q. noted_is b false l f h (ap (λ v. and v (answers b f)) (sym (not_false (answers a f) (clash_is a false l f q h))) ∙ e)) h)
noted_is (a but_not b) false l f h e = (e, either_way (clash a false l) (noted b true l) l f (λ q. noted_is b true l f h (no_false (answers b f) (ap (λ v. and v (no (answers b f))) (sym (not_false (answers a f) (clash_is a false l f q h))) ∙ e))) h)
noted_is (a or_else b) true l f h e = (e, either_way (clash a true l) (noted b true l) l f (λ q. noted_is b true l f h (ap (λ v. or v (answers b f)) (sym (not_true (answers a f) (clash_is a true l f q h))) ∙ e)) h)
noted_is ended v l f h e = (e, h)
noted_is at_name v l f h e = (e, h)
noted_is (at_word x) v l f h e = (e, h)
noted_is (at_mark x) v l f h e = (e, h)
noted_is (at_literal x) v l f h e = (e, h)
noted_is (at_group x) v l f h e = (e, h)
noted_is at_empty_group v l f h e = (e, h)
noted_is (ahead x) v l f h e = (e, h)

-- ---- WHAT A WORD TELLS OF WHAT STANDS BEHIND IT

-- where a word has this fact, this look holds of what follows it
abbrev pub asked_for : Fact → Asked → Look
asked_for n [] = ended but_not ended
asked_for n (p ∷ l) = pick (same_fact n p.1) (p.0 or_else asked_for n l) (asked_for n l)

pub never_both : (b : Bool) → and b (no b) ≡ false
never_both true = refl
never_both false = refl

pub asked_for_is : (n : Fact) (l : Asked) (f : Lookahead) → answers (asked_for n l) f ≡ has_fact n (facts_for l f)
asked_for_is n [] f = never_both (is_ended f.terminal)
asked_for_is n (p ∷ l) f = go (same_fact n p.1) (answers p.0 f) refl refl (asked_for_is n l f)
  where
    go : (v w : Bool) → same_fact n p.1 ≡ v → answers p.0 f ≡ w → answers (asked_for n l) f ≡ has_fact n (facts_for l f) →
        answers (pick v (p.0 or_else asked_for n l) (asked_for n l)) f ≡ has_fact n (pick w (p.1 ∷ facts_for l f) (facts_for l f))
    go true true a b ih = ap (λ z. or z (answers (asked_for n l) f)) b ∙ ap (λ z. or z (has_fact n (facts_for l f))) (sym a)
    go true false a b ih = ap (λ z. or z (answers (asked_for n l) f)) b ∙ ih
    go false true a b ih = ih ∙ ap (λ z. or z (has_fact n (facts_for l f))) (sym a)
    go false false a b ih = ih

-- what is known after this word
abbrev pub following_word : Text → Known → Known
following_word x [] = []
following_word x ((ahead n, v) ∷ l) = noted (asked_for n (asked (Word x))) v (following_word x l)
following_word x ((c, v) ∷ l) = following_word x l

pub following_word_is : (x : Text) (l : Known) (f g : Lookahead) → f.terminal ≡ Word x → f.facts ≡ facts_for (asked f.terminal) g → Holds l f → Holds (following_word x l) g
following_word_is x [] f g e q h = tt
following_word_is x ((ahead n, v) ∷ l) f g e q h =
    noted_is (asked_for n (asked (Word x))) v (following_word x l) g (following_word_is x l f g e q h.1) (asked_for_is n (asked (Word x)) g ∙ ap (λ t. has_fact n (facts_for (asked t) g)) (sym e) ∙ ap (has_fact n) (sym q) ∙ h.0)
following_word_is x ((ended, v) ∷ l) f g e q h = following_word_is x l f g e q h.1
following_word_is x ((at_name, v) ∷ l) f g e q h = following_word_is x l f g e q h.1
following_word_is x ((at_word y, v) ∷ l) f g e q h = following_word_is x l f g e q h.1
following_word_is x ((at_mark y, v) ∷ l) f g e q h = following_word_is x l f g e q h.1
following_word_is x ((at_literal y, v) ∷ l) f g e q h = following_word_is x l f g e q h.1
following_word_is x ((at_group y, v) ∷ l) f g e q h = following_word_is x l f g e q h.1
following_word_is x ((at_empty_group, v) ∷ l) f g e q h = following_word_is x l f g e q h.1
following_word_is x ((a or_else b, v) ∷ l) f g e q h = following_word_is x l f g e q h.1
following_word_is x ((a and_also b, v) ∷ l) f g e q h = following_word_is x l f g e q h.1
following_word_is x ((a but_not b, v) ∷ l) f g e q h = following_word_is x l f g e q h.1

-- all that is known, noted once more
abbrev pub again : Known → Known → Known
again base [] = base
again base (p ∷ l) = noted p.0 p.1 (again base l)

pub again_is : (base l : Known) (f : Lookahead) → Holds base f → Holds l f → Holds (again base l) f
again_is base [] f h i = h
again_is base (p ∷ l) f h i = noted_is p.0 p.1 (again base l) f (again_is base l f h i.1) i.0

-- the word that is known to be next
abbrev pub known_word : Known → Option Text
known_word [] = None
known_word ((at_word x, true) ∷ l) = Some x
known_word (p ∷ l) = known_word l

abbrev pub Stood : Option Text → Lookahead → Type 0
Stood o f = (x : Text) → o ≡ Some x → f.terminal ≡ Word x

pub known_word_is : (l : Known) (f : Lookahead) → Holds l f → Stood (known_word l) f
known_word_is [] f h x e = absurd (cc e)
known_word_is ((at_word y, true) ∷ l) f h x e = word_within y f.terminal h.0 ∙ ap Word (some_is y x e)
known_word_is ((at_word y, false) ∷ l) f h x e = known_word_is l f h.1 x e
known_word_is ((ended, v) ∷ l) f h x e = known_word_is l f h.1 x e
known_word_is ((at_name, v) ∷ l) f h x e = known_word_is l f h.1 x e
known_word_is ((at_mark y, v) ∷ l) f h x e = known_word_is l f h.1 x e
known_word_is ((at_literal y, v) ∷ l) f h x e = known_word_is l f h.1 x e
known_word_is ((at_group y, v) ∷ l) f h x e = known_word_is l f h.1 x e
known_word_is ((at_empty_group, v) ∷ l) f h x e = known_word_is l f h.1 x e
known_word_is ((ahead n, v) ∷ l) f h x e = known_word_is l f h.1 x e
known_word_is ((a or_else b, v) ∷ l) f h x e = known_word_is l f h.1 x e
known_word_is ((a and_also b, v) ∷ l) f h x e = known_word_is l f h.1 x e
known_word_is ((a but_not b, v) ∷ l) f h x e = known_word_is l f h.1 x e

abbrev pub after_word : Option Text → Known → Known
after_word (Some x) l = following_word x (again ((at_word x, true) ∷ []) l)
after_word None l = []

-- what is known after a token of this kind
abbrev pub after_token : Kind → Known → Known
after_token (word x) l = after_word (Some x) l
after_token k l = after_word (known_word l) l

pub after_word_is : (o : Option Text) (l : Known) (y : Leaf) (sp : Span) (r : Stream) → Holds l (lookahead (leaf y sp r)) → Stood o (lookahead (leaf y sp r)) → Holds (after_word o l) (lookahead r)
after_word_is (Some x) l y sp r h w =
    following_word_is x (again ((at_word x, true) ∷ []) l) (lookahead (leaf y sp r)) (lookahead r) (w x refl) refl (again_is ((at_word x, true) ∷ []) l (lookahead (leaf y sp r)) (ap (is_word x) (w x refl) ∙ same_text_refl x, tt) h)
after_word_is None l y sp r h w = tt

pub only_word : (x : Text) (t : Terminal) → or (same_terminal t (Word x)) false ≡ true → t ≡ Word x
only_word x t e = same_terminal_eq t (Word x) (go (same_terminal t (Word x)) e)
  where
    go : (b : Bool) → or b false ≡ true → b ≡ true
    go true e = refl
    go false e = e

pub after_token_is : (k : Kind) (l : Known) (y : Leaf) (sp : Span) (r : Stream) → fits k y ≡ true → Holds l (lookahead (leaf y sp r)) → Holds (after_token k l) (lookahead r)
after_token_is (word x) l y sp r e h = after_word_is (Some x) l y sp r h (λ z q. only_word x (leaf_terminal y) e ∙ ap Word (some_is x z q))
after_token_is name l y sp r e h = after_word_is (known_word l) l y sp r h (known_word_is l (lookahead (leaf y sp r)) h)
after_token_is identifier l y sp r e h = after_word_is (known_word l) l y sp r h (known_word_is l (lookahead (leaf y sp r)) h)
after_token_is (name_or xs) l y sp r e h = after_word_is (known_word l) l y sp r h (known_word_is l (lookahead (leaf y sp r)) h)
after_token_is (literal_of ks) l y sp r e h = after_word_is (known_word l) l y sp r h (known_word_is l (lookahead (leaf y sp r)) h)
after_token_is index l y sp r e h = after_word_is (known_word l) l y sp r h (known_word_is l (lookahead (leaf y sp r)) h)

-- what is known about the content of a group with this delimiter
abbrev pub inside_group : Delimiter → Known → Known
inside_group d [] = []
inside_group d ((ahead n, v) ∷ l) = noted (asked_for n (asked_inside d)) v (inside_group d l)
inside_group d ((c, v) ∷ l) = inside_group d l

pub inside_group_is : (d : Delimiter) (l : Known) (f g : Lookahead) → f.facts ≡ facts_for (asked_inside d) g → Holds l f → Holds (inside_group d l) g
inside_group_is d [] f g q h = tt
inside_group_is d ((ahead n, v) ∷ l) f g q h = noted_is (asked_for n (asked_inside d)) v (inside_group d l) g (inside_group_is d l f g q h.1) (asked_for_is n (asked_inside d) g ∙ ap (has_fact n) (sym q) ∙ h.0)
inside_group_is d ((ended, v) ∷ l) f g q h = inside_group_is d l f g q h.1
inside_group_is d ((at_name, v) ∷ l) f g q h = inside_group_is d l f g q h.1
inside_group_is d ((at_word y, v) ∷ l) f g q h = inside_group_is d l f g q h.1
inside_group_is d ((at_mark y, v) ∷ l) f g q h = inside_group_is d l f g q h.1
inside_group_is d ((at_literal y, v) ∷ l) f g q h = inside_group_is d l f g q h.1
inside_group_is d ((at_group y, v) ∷ l) f g q h = inside_group_is d l f g q h.1
inside_group_is d ((at_empty_group, v) ∷ l) f g q h = inside_group_is d l f g q h.1
inside_group_is d ((a or_else b, v) ∷ l) f g q h = inside_group_is d l f g q h.1
inside_group_is d ((a and_also b, v) ∷ l) f g q h = inside_group_is d l f g q h.1
inside_group_is d ((a but_not b, v) ∷ l) f g q h = inside_group_is d l f g q h.1
