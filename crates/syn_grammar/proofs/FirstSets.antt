-- What a form may begin with.
use Rattle.std.proofs.Common.{◌≡◌, ℕ, Bool, true, false, List, [], ◌∷◌, ◌++◌, nat_eq, refl, sym, ap, ◌∙◌, ap₂, subst, true≢false, ◌⊎◌, inl, inr, map}
use Rattle.std.proofs.lemmas.Bool.{eqb-true, eq-eqb}
use Rattle.syn_grammar.specs.Words.{Text, long_marks, lifetime_mark, keywords, contextual, colon, comma, less}
use Rattle.syn_grammar.specs.Tokens.{Span, Delimiter, Stream, leaf, punct, ident, lookahead_with, punctuation_lookahead, facts_for, asked, Name, Word, one_of_texts, same_text, is_name, or, and, no, pick, begins_text, Terminal, Punctuation, Delimited, same_terminal, mem, Look, Lookahead, answers, lookahead, longest, before_identifier, join, char_terminal, holds_nothing}
use Rattle.syn_grammar.specs.Rules.{Rule}
use Rattle.syn_grammar.specs.RuleNumbers.{same_rule}
use Rattle.syn_grammar.specs.Grammar.{Syntax, Nothing, Token, Mark, Lifetime, Both, Left, Right, Node, Vanishing, Group, Raw, Rest, Case, Captured, Unshown, Impl, Done, Last, More, Order, Such, chars, Spelled, DerivesPrefix, name, terminals, Grammar, empty, token, mark, lifetime, ◌&◌, when◌then◌else◌, vanishing, inside, raw, rest_after, either, one_of, rule, such, captured, unshown, supplied, generics_before, row, ordered, choose, among, suits, Shaped, shaped}
use Rattle.syn_grammar.proofs.RuleLemmas.{same_rule_eq}
use Rattle.syn_grammar.proofs.Sets.{or_left, or_right, or_split, or_mono, and_left, mem_here, mem_left, mem_right, those, mem_those, subset, mem_subset, same_terminal_eq, same_terminal_of, may, must, may_of, must_not_of, and_right, group_terminals, group_terminal}

-- what a mark's last character may be seen as
abbrev pub beginning : ℕ → List Text → List Terminal
beginning c [] = []
beginning c (m ∷ l) = pick (begins_text (c ∷ []) m) (Punctuation m ∷ beginning c l) (beginning c l)

-- the marks of more than one character that a sign may be seen as, and a lifetime
abbrev pub long_signs : List Text
long_signs = lifetime_mark ∷ long_marks

abbrev pub starts : ℕ → List Terminal
starts c = Punctuation (c ∷ []) ∷ beginning c long_signs

abbrev pub mark_first_set : Text → List Terminal
mark_first_set [] = []
mark_first_set (c ∷ []) = starts c
mark_first_set (c ∷ d ∷ l) = map (join c) (mark_first_set (d ∷ l))

-- each of these marks has a character
abbrev full_marks : List Text → Bool
full_marks [] = true
full_marks ([] ∷ l) = false
full_marks ((x ∷ m) ∷ l) = full_marks l

-- it is among more of them, too
skip : (c : ℕ) (m : Text) (ms : List Text) (v : Bool) (f : Terminal) → mem f (Punctuation (c ∷ []) ∷ beginning c ms) ≡ true → mem f (Punctuation (c ∷ []) ∷ pick v (Punctuation m ∷ beginning c ms) (beginning c ms)) ≡ true
skip c m ms false f e = e
skip c m ms true f e = place (or_split (same_terminal f (Punctuation (c ∷ []))) (mem f (beginning c ms)) e)
  where
    place : (same_terminal f (Punctuation (c ∷ [])) ≡ true) ⊎ (mem f (beginning c ms) ≡ true) → mem f (Punctuation (c ∷ []) ∷ Punctuation m ∷ beginning c ms) ≡ true
    place (inl q) = or_left (same_terminal f (Punctuation (c ∷ []))) _ q
    place (inr q) = or_right (same_terminal f (Punctuation (c ∷ []))) _ (or_right (same_terminal f (Punctuation m)) _ q)

longest_mem : (c : ℕ) (ms : List Text) (l : Text) → full_marks ms ≡ true → mem (Punctuation (longest ms (c ∷ l) (c ∷ []))) (Punctuation (c ∷ []) ∷ beginning c ms) ≡ true
longest_mem c [] l w = mem_here (Punctuation (c ∷ [])) []
longest_mem c ([] ∷ ms) l w = absurd (true≢false (sym w))
longest_mem c ((x ∷ m) ∷ ms) l w = go (and (nat_eq x c) (begins_text m l)) refl (longest_mem c ms l w)
  where
    go : (v : Bool) → and (nat_eq x c) (begins_text m l) ≡ v → mem (Punctuation (longest ms (c ∷ l) (c ∷ []))) (Punctuation (c ∷ []) ∷ beginning c ms) ≡ true →
        mem (Punctuation (pick v (x ∷ m) (longest ms (c ∷ l) (c ∷ [])))) (Punctuation (c ∷ []) ∷ beginning c ((x ∷ m) ∷ ms)) ≡ true
    go true e ih =
        let q : c ≡ x = sym (eqb-true x c (and_left (nat_eq x c) _ e)) in
        or_right (same_terminal (Punctuation (x ∷ m)) (Punctuation (c ∷ []))) _ (subst (λ v. mem (Punctuation (x ∷ m)) (pick (and v true) (Punctuation (x ∷ m) ∷ beginning c ms) (beginning c ms)) ≡ true) (sym (eq-eqb c x q)) (mem_here (Punctuation (x ∷ m)) (beginning c ms)))
    go false e ih = skip c (x ∷ m) ms (begins_text (c ∷ []) (x ∷ m)) (Punctuation (longest ms (c ∷ l) (c ∷ []))) ih

identifier_start : (c : ℕ) → mem (before_identifier c) (starts c) ≡ true
identifier_start c = go (nat_eq c 39)
  where
    go : (v : Bool) → mem (Punctuation (pick v lifetime_mark (c ∷ []))) (Punctuation (c ∷ []) ∷ pick (and v true) (Punctuation lifetime_mark ∷ beginning c long_marks) (beginning c long_marks)) ≡ true
    go true = or_right (same_terminal (Punctuation lifetime_mark) (Punctuation (c ∷ []))) _ (mem_here (Punctuation lifetime_mark) (beginning c long_marks))
    go false = mem_here (Punctuation (c ∷ [])) (beginning c long_marks)

pub char_start : (c : ℕ) (j : Bool) (f : Terminal) → mem (char_terminal c j f) (starts c) ≡ true
char_start c false f = mem_here (Punctuation (c ∷ [])) (beginning c long_signs)
char_start c true (Punctuation l) = skip c lifetime_mark long_marks (begins_text (c ∷ []) lifetime_mark) (Punctuation (longest long_marks (c ∷ l) (c ∷ []))) (longest_mem c long_marks l refl)
char_start c true Name = identifier_start c
char_start c true (Word x) = identifier_start c
char_start c true _ = mem_here (Punctuation (c ∷ [])) (beginning c long_signs)

pub mem_map : (f : Terminal → Terminal) (a : Terminal) (l : List Terminal) → mem a l ≡ true → mem (f a) (map f l) ≡ true
mem_map f a [] e = absurd (true≢false (sym e))
mem_map f a (x ∷ l) e = go (or_split (same_terminal a x) (mem a l) e) (mem_map f a l)
  where
    go : (same_terminal a x ≡ true) ⊎ (mem a l ≡ true) → (mem a l ≡ true → mem (f a) (map f l) ≡ true) → or (same_terminal (f a) (f x)) (mem (f a) (map f l)) ≡ true
    go (inl q) ih = or_left (same_terminal (f a) (f x)) (mem (f a) (map f l)) (same_terminal_of (f a) (f x) (ap f (same_terminal_eq a x q)))
    go (inr q) ih = or_right (same_terminal (f a) (f x)) (mem (f a) (map f l)) (ih q)

pub mark_head : (xs : List (ℕ × Span)) (ts r : Stream) → Spelled xs ts r → mem (lookahead ts).terminal (mark_first_set (chars xs)) ≡ true
mark_head [] ts r h = elim h [ ]
mark_head (x ∷ []) ts r h = ap (λ t. mem (lookahead t).terminal (starts x.0)) h.1 ∙ char_start x.0 h.0 (lookahead r).terminal
mark_head (x ∷ y ∷ l) ts r h =
    ap (λ t. mem (lookahead t).terminal (mark_first_set (chars (x ∷ y ∷ l)))) h.1
    ∙ mem_map (join x.0) (lookahead h.0).terminal (mark_first_set (chars (y ∷ l))) (mark_head (y ∷ l) h.0 r h.2)

-- what each rule is said to begin with, whether it may read nothing, and conditions that what follows it never meets
pub record Start : Type 0 where
  pub first_set : List Terminal
  pub nullable : Bool
  pub never_follow : List Look

abbrev pub keep : Look → List Terminal → List Terminal
keep c l = those (may c) l

abbrev pub leave : Look → List Terminal → List Terminal
leave c l = those (λ f. no (must c f)) l

pub mem_keep : (f : Lookahead) (c : Look) (l : List Terminal) → answers c f ≡ true → mem f.terminal l ≡ true → mem f.terminal (keep c l) ≡ true
mem_keep f c l h e = mem_those f.terminal (may c) l (may_of c f h) e

pub mem_leave : (f : Lookahead) (c : Look) (l : List Terminal) → answers c f ≡ false → mem f.terminal l ≡ true → mem f.terminal (leave c l) ≡ true
mem_leave f c l h e = mem_those f.terminal (λ f. no (must c f)) l (must_not_of c f h) e

-- a lifetime's lookahead is the same, whatever its identifier and what follows
pub lifetime_lookahead : (sp : Span) (x : Text) (sq : Span) (r : Stream) → lookahead (punct 39 true sp (leaf (ident x) sq r)) ≡ lookahead_with (Punctuation lifetime_mark) []
lifetime_lookahead sp x sq r = go (one_of_texts x (keywords ++ contextual))
  where
    go : (b : Bool) → punctuation_lookahead 39 true (lookahead_with (pick b (Word x) Name) (facts_for (asked (pick b (Word x) Name)) (lookahead r))) ≡ lookahead_with (Punctuation lifetime_mark) []
    go true = refl
    go false = refl

words_mem : (l : List Text) (x : Text) → one_of_texts x l ≡ true → mem (Word x) (map Word l) ≡ true
words_mem [] x e = absurd (true≢false (sym e))
words_mem (y ∷ l) x e = or_mono (same_text x y) (one_of_texts x l) (mem (Word x) (map Word l)) (words_mem l x) e

pub name_terminal : (f : Terminal) → is_name f ≡ true → mem f (terminals name) ≡ true
name_terminal Name e = refl
name_terminal (Word x) e = words_mem contextual x e
name_terminal _ e = absurd (true≢false (sym e))

module _ (said : Rule → Start) where
  abbrev pub some_nullable : List Rule → Bool
  some_nullable [] = false
  some_nullable (k ∷ ks) = or (said k).nullable (some_nullable ks)

  abbrev pub all_first_set : List Rule → List Terminal
  all_first_set [] = []
  all_first_set (k ∷ ks) = (said k).first_set ++ all_first_set ks

  abbrev pub nullable : Grammar → Bool
  nullable empty = true
  nullable (token b k) = false
  nullable (mark b cs) = false
  nullable lifetime = false
  nullable (g & h) = and (nullable g) (nullable h)
  nullable (when c then g else h) = or (nullable g) (nullable h)
  nullable (vanishing b c g) = true
  nullable (inside d g) = false
  nullable (raw d) = false
  nullable (rest_after cs) = false
  nullable (either g h) = or (nullable g) (nullable h)
  nullable (one_of ks) = some_nullable ks
  nullable (rule k) = (said k).nullable
  nullable (such q g) = nullable g
  nullable (shaped j g) = nullable g
  nullable (captured g) = nullable g
  nullable unshown = true
  nullable (supplied n p t) = false
  nullable (generics_before x y h) = nullable h
  nullable (row g h) = true
  nullable (ordered g h) = false

  abbrev pub first_set : Grammar → List Terminal
  first_set empty = []
  first_set (token b k) = terminals k
  first_set (mark b cs) = mark_first_set cs
  first_set lifetime = Punctuation lifetime_mark ∷ []
  first_set (g & h) = first_set g ++ pick (nullable g) (first_set h) []
  first_set (when c then g else h) = keep c (first_set g) ++ leave c (first_set h)
  first_set (vanishing b c g) = keep c (first_set g) ++ []
  first_set (inside d g) = group_terminals d
  first_set (raw d) = group_terminals d
  first_set (rest_after cs) = mark_first_set cs
  first_set (either g h) = first_set g ++ first_set h
  first_set (one_of ks) = all_first_set ks
  first_set (rule k) = (said k).first_set
  first_set (such q g) = first_set g
  first_set (shaped j g) = first_set g
  first_set (captured g) = first_set g
  first_set unshown = []
  first_set (supplied n p t) = terminals name ++ (first_set p ++ mark_first_set colon)
  first_set (generics_before x y h) = mark_first_set less ++ first_set h
  first_set (row g h) = mark_first_set comma ++ (first_set g ++ first_set h)
  first_set (ordered g h) = mark_first_set less

  -- it begins with one of these, or reads nothing
  abbrev pub Begins : Grammar → Stream → Stream → Type 0
  Begins g ts r = (mem (lookahead ts).terminal (first_set g) ≡ true) ⊎ ((nullable g ≡ true) × (ts ≡ r))

  -- what holds of the rules holds of their forms
  abbrev pub IsSaid : (Rule → Grammar) → Type 0
  IsSaid table = (k : Rule) → (subset (first_set (table k)) (said k).first_set ≡ true) × (nullable (table k) ≡ true → (said k).nullable ≡ true)

  of_choice : (b : Bool) (g h : Grammar) (a : Terminal) → mem a (first_set (choose b g h)) ≡ true → mem a (first_set g ++ first_set h) ≡ true
  of_choice true g h a e = mem_left a (first_set g) (first_set h) e
  of_choice false g h a e = mem_right a (first_set g) (first_set h) e

  group_head : (d d' : Delimiter) (ts r i : Stream) (o c : Span) → d ≡ d' → ts ≡ Stream.group d' o c i r → mem (lookahead ts).terminal (group_terminals d) ≡ true
  group_head d d' ts r i o c e f =
      ap (λ t. mem (lookahead t).terminal (group_terminals d)) f ∙ ap (λ v. mem (Delimited v (holds_nothing v (lookahead i).terminal)) (group_terminals d)) (sym e) ∙ group_terminal d (lookahead i).terminal

  pub one_first_set : (k : Rule) (ks : List Rule) (a : Terminal) → among k ks ≡ true → mem a (said k).first_set ≡ true → mem a (all_first_set ks) ≡ true
  one_first_set k [] a e h = absurd (true≢false (sym e))
  one_first_set k (l ∷ ks) a e h = go (or_split (same_rule k l) (among k ks) e) (one_first_set k ks a)
    where
      go : (same_rule k l ≡ true) ⊎ (among k ks ≡ true) → (among k ks ≡ true → mem a (said k).first_set ≡ true → mem a (all_first_set ks) ≡ true) → mem a ((said l).first_set ++ all_first_set ks) ≡ true
      go (inl q) ih = mem_left a (said l).first_set _ (ap (λ z. mem a (said z).first_set) (sym (same_rule_eq k l q)) ∙ h)
      go (inr q) ih = mem_right a (said l).first_set _ (ih q h)

  pub one_nullable : (k : Rule) (ks : List Rule) → among k ks ≡ true → (said k).nullable ≡ true → some_nullable ks ≡ true
  one_nullable k [] e h = absurd (true≢false (sym e))
  one_nullable k (l ∷ ks) e h = go (or_split (same_rule k l) (among k ks) e) (one_nullable k ks)
    where
      go : (same_rule k l ≡ true) ⊎ (among k ks ≡ true) → (among k ks ≡ true → (said k).nullable ≡ true → some_nullable ks ≡ true) → or (said l).nullable (some_nullable ks) ≡ true
      go (inl q) ih = or_left (said l).nullable _ (ap (λ z. (said z).nullable) (sym (same_rule_eq k l q)) ∙ h)
      go (inr q) ih = or_right (said l).nullable _ (ih q h)

  module _ (table : Rule → Grammar) (law : IsSaid table) where
    pub begins : (g : Grammar) (s : Syntax) (ts r : Stream) → DerivesPrefix table g s ts r → Begins g ts r
    begins empty Nothing ts r h = inr (refl, h)
    begins (token b k) (Token x sp) ts r h = inl (ap (λ t. mem (lookahead t).terminal (terminals k)) h.1 ∙ and_right (suits k x) _ h.0)
    begins (mark b cs) (Mark xs) ts r h = inl (ap (λ l. mem (lookahead ts).terminal (mark_first_set l)) (sym h.0) ∙ mark_head xs ts r h.1)
    begins lifetime (Lifetime sp x sq) ts r h = inl (ap (λ t. mem (lookahead t).terminal (Punctuation lifetime_mark ∷ [])) h ∙ ap (λ z. mem z.terminal (Punctuation lifetime_mark ∷ [])) (lifetime_lookahead sp x sq r))
    begins (g & h) (Both s t) ts r (m, a, b) = go (begins g s ts m a) (begins h t m r b)
      where
        go : Begins g ts m → Begins h m r → Begins (g & h) ts r
        go (inl e) q = inl (mem_left (lookahead ts).terminal (first_set g) _ e)
        go (inr (p, e)) (inl q) = inl (mem_right (lookahead ts).terminal (first_set g) _ (subst (λ v. mem (lookahead ts).terminal (pick v (first_set h) []) ≡ true) (sym p) (ap (λ z. mem (lookahead z).terminal (first_set h)) e ∙ q)))
        go (inr (p, e)) (inr (p', e')) = inr (ap₂ and p p', e ∙ e')
    begins (when c then g else h) (Left s) ts r (e, a) = go (begins g s ts r a)
      where
        go : Begins g ts r → Begins (when c then g else h) ts r
        go (inl q) = inl (mem_left (lookahead ts).terminal (keep c (first_set g)) _ (mem_keep (lookahead ts) c (first_set g) e q))
        go (inr (p, q)) = inr (or_left (nullable g) (nullable h) p, q)
    begins (when c then g else h) (Right s) ts r (e, a) = go (begins h s ts r a)
      where
        go : Begins h ts r → Begins (when c then g else h) ts r
        go (inl q) = inl (mem_right (lookahead ts).terminal (keep c (first_set g)) _ (mem_leave (lookahead ts) c (first_set h) e q))
        go (inr (p, q)) = inr (or_right (nullable g) (nullable h) p, q)
    begins (vanishing b c g) (Vanishing b' s) ts r (f, a) = go (begins (when c then g else empty) s ts r a)
      where
        go : Begins (when c then g else empty) ts r → Begins (vanishing b c g) ts r
        go (inl q) = inl q
        go (inr (p, q)) = inr (refl, q)
    begins (inside d g) (Group d' o c s) ts r (e, i, f, a) = inl (group_head d d' ts r i o c e f)
    begins (raw d) (Raw d' o c i) ts r (e, f) = inl (group_head d d' ts r i o c e f)
    begins (rest_after cs) (Rest xs i) ts r (e, d, f, g) = inl (ap (λ l. mem (lookahead ts).terminal (mark_first_set l)) (sym e) ∙ mark_head xs ts i d)
    begins (either g h) (Left s) ts r a = go (begins g s ts r a)
      where
        go : Begins g ts r → Begins (either g h) ts r
        go (inl q) = inl (mem_left (lookahead ts).terminal (first_set g) _ q)
        go (inr (p, q)) = inr (or_left (nullable g) (nullable h) p, q)
    begins (either g h) (Right s) ts r a = go (begins h s ts r a)
      where
        go : Begins h ts r → Begins (either g h) ts r
        go (inl q) = inl (mem_right (lookahead ts).terminal (first_set g) _ q)
        go (inr (p, q)) = inr (or_right (nullable g) (nullable h) p, q)
    begins (one_of ks) (Case k s) ts r (e, a) = go (begins (table k) s ts r a)
      where
        go : Begins (table k) ts r → Begins (one_of ks) ts r
        go (inl q) = inl (one_first_set k ks (lookahead ts).terminal e (mem_subset (lookahead ts).terminal (first_set (table k)) _ (law k).0 q))
        go (inr (p, q)) = inr (one_nullable k ks e ((law k).1 p), q)
    begins (rule k) (Node s) ts r a = go (begins (table k) s ts r a)
      where
        go : Begins (table k) ts r → Begins (rule k) ts r
        go (inl q) = inl (mem_subset (lookahead ts).terminal (first_set (table k)) _ (law k).0 q)
        go (inr (p, q)) = inr ((law k).1 p, q)
    begins (such t g) (Such s) ts r (e, a) = go (begins g s ts r a)
      where
        go : Begins g ts r → Begins (such t g) ts r
        go (inl q) = inl q
        go (inr (p, q)) = inr (p, q)
    begins (shaped j g) (Shaped i s) ts r (e, a) = go (begins g s ts r a)
      where
        go : Begins g ts r → Begins (shaped j g) ts r
        go (inl q) = inl q
        go (inr (p, q)) = inr (p, q)
    begins (captured g) (Captured s i) ts r (e, a) = go (begins g s ts r a)
      where
        go : Begins g ts r → Begins (captured g) ts r
        go (inl q) = inl q
        go (inr (p, q)) = inr (p, q)
    begins unshown (Unshown s) ts r h = inr (refl, h.1)
    begins (supplied n p t) (Both a (Both (Mark xs) s)) ts r (inl (v, _, _, _, _, _, _, _)) = inl (mem_left (lookahead ts).terminal (terminals name) _ (name_terminal (lookahead ts).terminal (and_left (is_name (lookahead ts).terminal) _ v)))
    begins (supplied n p t) (Both a (Both (Mark xs) s)) ts r (inr (v, m, pa, f, m', d, q)) = go (begins p a ts m pa)
      where
        go : Begins p ts m → Begins (supplied n p t) ts r
        go (inl z) = inl (mem_right (lookahead ts).terminal (terminals name) _ (mem_left (lookahead ts).terminal (first_set p) _ z))
        go (inr (z, e)) = inl (mem_right (lookahead ts).terminal (terminals name) _ (mem_right (lookahead ts).terminal (first_set p) _ (ap (λ z. mem (lookahead z).terminal (mark_first_set colon)) e ∙ ap (λ l. mem (lookahead m).terminal (mark_first_set l)) (sym f) ∙ mark_head xs m m' d)))
    begins (generics_before x y h) (Impl (Left (Order xs l ys)) s) ts r (m, (v, (i, e, d, i', a, e', d')), b) = inl (mem_left (lookahead ts).terminal (mark_first_set less) _ (ap (λ l. mem (lookahead ts).terminal (mark_first_set l)) (sym e) ∙ mark_head xs ts i d))
    begins (generics_before x y h) (Impl (Right Nothing) s) ts r (m, (v, a), b) = go (begins h s m r b)
      where
        go : Begins h m r → Begins (generics_before x y h) ts r
        go (inl q) = inl (mem_right (lookahead ts).terminal (mark_first_set less) _ (ap (λ z. mem (lookahead z).terminal (first_set h)) a ∙ q))
        go (inr (p, q)) = inr (p, a ∙ q)
    begins (row g h) Done ts r (e, f) = inr (refl, f)
    begins (row g h) (Last b s) ts r (e, a, n) = go (begins (choose b g h) s ts r a)
      where
        go : Begins (choose b g h) ts r → Begins (row g h) ts r
        go (inl q) = inl (mem_right (lookahead ts).terminal (mark_first_set comma) _ (of_choice b g h (lookahead ts).terminal q))
        go (inr (p, q)) = inr (refl, q)
    begins (row g h) (More b s sp t) ts r (e, m, a, m', d, rs) = go (begins (choose b g h) s ts m a)
      where
        go : Begins (choose b g h) ts m → Begins (row g h) ts r
        go (inl q) = inl (mem_right (lookahead ts).terminal (mark_first_set comma) _ (of_choice b g h (lookahead ts).terminal q))
        go (inr (p, q)) = inl (mem_left (lookahead ts).terminal (mark_first_set comma) _ (ap (λ z. mem (lookahead z).terminal (mark_first_set comma)) q ∙ mark_head ((44, sp) ∷ []) m m' d))
    begins (ordered g h) (Order xs l ys) ts r (m, e, d, m', a, e', d') = inl (ap (λ l. mem (lookahead ts).terminal (mark_first_set l)) (sym e) ∙ mark_head xs ts m d)
    begins (generics_before x y h) (Impl (Left _) s) ts r (m, (v, a), b) = elim a [ ]
    begins (generics_before x y h) (Impl (Right _) s) ts r (m, (v, a), b) = elim a [ ]
    begins (generics_before x y h) (Impl _ s) ts r (m, a, b) = elim a [ ]
    begins _ _ ts r a = elim a [ ]
