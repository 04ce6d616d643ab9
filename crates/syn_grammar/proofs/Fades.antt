-- Where the rest after a stream is cut off, each token keeps its terminal, and most facts that were false stay false.
use Rattle.std.proofs.Common.{◌≡◌, ℕ, ◌≤◌, Bool, true, false, List, [], ◌∷◌, nat_eq, refl, sym, ap, ap₂, ◌∙◌, true≢false, ◌⊎◌, inl, inr, arith}
use Rattle.syn_grammar.specs.Words.{w_crate, w_self, w_super, w_Self_type, w_mut, w_static, w_async, w_const, w_unsafe, w_union, w_auto, w_default, exclamation, colon, pound, less, contextual}
use Rattle.syn_grammar.specs.Tokens.{Span, Stream, end, leaf, punct, group, ◌⧺◌, or, and, no, pick, one_of_texts, same_text, Terminal, Ended, Name, Word, Punctuation, Literal, Delimited, Lookahead, Fact, Before_equals, Before_end, Before_colons, Before_paren, Before_less, Before_bang, Before_own_self, Before_parameter, Not_item, same_fact, has_fact, Look, ended, at_name, at_word, at_mark, at_literal, at_group, at_empty_group, ahead, ◌or_else◌, ◌and_also◌, ◌but_not◌, answers, is_ended, is_name, is_word, starts_mark, is_literal, is_group, is_empty_group, Asked, facts_for, asked, leaf_terminal, join, char_terminal, lone_facts, punctuation_facts, lookahead}
use Rattle.syn_grammar.specs.Grammar.{spell, some_tree}
use Rattle.syn_grammar.specs.Alone.{asks_fact}
use Rattle.syn_grammar.proofs.Sets.{or_split, or_off_left, or_off_right, or_mono, and_left, and_right, no_true, true_or_false, same_fact_eq}
use Rattle.syn_grammar.proofs.Streams.{size}
use Rattle.syn_grammar.proofs.Marks.{and_off_left, and_off_right}
use Rattle.syn_grammar.proofs.Alone.{by_terminal}

-- ---- streams whose last token is no mark that is joined to what follows
abbrev pub unjoined : Stream → Bool
unjoined end = true
unjoined (leaf x sp m) = unjoined m
unjoined (punct c j sp m) = and (or (no j) (some_tree m)) (unjoined m)
unjoined (group d o c i m) = unjoined m

pub some_before : (a b : Stream) → some_tree a ≡ true → some_tree (a ⧺ b) ≡ true
some_before end b e = absurd (true≢false (sym e))
some_before (leaf x sp m) b e = refl
some_before (punct c j sp m) b e = refl
some_before (group d o c i m) b e = refl

pub some_after : (a b : Stream) → some_tree b ≡ true → some_tree (a ⧺ b) ≡ true
some_after end b e = e
some_after (leaf x sp m) b e = refl
some_after (punct c j sp m) b e = refl
some_after (group d o c i m) b e = refl

pub unjoined_after : (a b : Stream) → unjoined (a ⧺ b) ≡ true → unjoined b ≡ true
unjoined_after end b e = e
unjoined_after (leaf x sp m) b e = unjoined_after m b e
unjoined_after (punct c j sp m) b e = unjoined_after m b (and_right (or (no j) (some_tree (m ⧺ b))) _ e)
unjoined_after (group d o c i m) b e = unjoined_after m b e

pub unjoined_append : (a b : Stream) → unjoined a ≡ true → unjoined b ≡ true → unjoined (a ⧺ b) ≡ true
unjoined_append end b e f = f
unjoined_append (leaf x sp m) b e f = unjoined_append m b e f
unjoined_append (punct c j sp m) b e f = ap₂ and (or_mono (no j) (some_tree m) (some_tree (m ⧺ b)) (some_before m b) (and_left (or (no j) (some_tree m)) _ e)) (unjoined_append m b (and_right (or (no j) (some_tree m)) _ e) f)
unjoined_append (group d o c i m) b e f = unjoined_append m b e f

some_spell : (x : ℕ × Span) (l : List (ℕ × Span)) (a : Stream) → some_tree (spell (x ∷ l) a) ≡ true
some_spell x [] a = refl
some_spell x (y ∷ l) a = refl

pub unjoined_spell : (xs : List (ℕ × Span)) (a : Stream) → unjoined a ≡ true → unjoined (spell xs a) ≡ true
unjoined_spell [] a e = e
unjoined_spell (x ∷ []) a e = e
unjoined_spell (x ∷ y ∷ l) a e = ap₂ and (some_spell y l a) (unjoined_spell (y ∷ l) a e)

pub no_tree : (a : Stream) → some_tree a ≡ false → a ≡ end
no_tree end e = refl
no_tree (leaf x sp m) e = absurd (true≢false e)
no_tree (punct c j sp m) e = absurd (true≢false e)
no_tree (group d o c i m) e = absurd (true≢false e)

pub some_size : (a : Stream) → 1 ≤ size a → some_tree a ≡ true
some_size end h = absurd (omega (arith, h))
some_size (leaf x sp m) h = refl
some_size (punct c j sp m) h = refl
some_size (group d o c i m) h = refl

-- ---- the terminal of such a stream, before a rest and alone
pub terminal_stays : (x r : Stream) → unjoined x ≡ true → some_tree x ≡ true → (lookahead (x ⧺ r)).terminal ≡ (lookahead x).terminal
terminal_stays end r u e = absurd (true≢false (sym e))
terminal_stays (leaf l sp m) r u e = refl
terminal_stays (group d o c i m) r u e = refl
terminal_stays (punct c false sp m) r u e = refl
terminal_stays (punct c true sp m) r u e = ap (join c) (terminal_stays m r (and_right (some_tree m) _ u) (and_left (some_tree m) _ u))

-- ---- facts that stay false, and looks that do
abbrev pub fades : Fact → Bool
fades Before_end = false
fades Before_own_self = false
fades Before_parameter = false
fades Not_item = false
fades _ = true

-- where it is false it stays false, and at the end it is false
abbrev pub fades_look : Look → Bool
fades_look ended = false
fades_look (ahead n) = fades n
fades_look (a or_else b) = and (fades_look a) (fades_look b)
fades_look (a and_also b) = and (fades_look a) (fades_look b)
fades_look (a but_not b) = and (fades_look a) (no (asks_fact b))
fades_look c = true

-- the rest after the first lookahead is cut off in the second
abbrev pub Faded : Lookahead → Lookahead → Type 0
Faded a b = (b ≡ lookahead end) ⊎ ((a.terminal ≡ b.terminal) × ((n : Fact) → fades n ≡ true → has_fact n a.facts ≡ false → has_fact n b.facts ≡ false))

off_at_end : (c : Look) → fades_look c ≡ true → answers c (lookahead end) ≡ false
off_at_end ended w = absurd (true≢false (sym w))
off_at_end at_name w = refl
off_at_end (at_word x) w = refl
off_at_end (at_mark x) w = refl
off_at_end (at_literal k) w = refl
off_at_end (at_group d) w = refl
off_at_end at_empty_group w = refl
off_at_end (ahead n) w = refl
off_at_end (a or_else b) w = ap₂ or (off_at_end a (and_left (fades_look a) _ w)) (off_at_end b (and_right (fades_look a) _ w))
off_at_end (a and_also b) w = and_off_left (answers a (lookahead end)) _ (off_at_end a (and_left (fades_look a) _ w))
off_at_end (a but_not b) w = and_off_left (answers a (lookahead end)) _ (off_at_end a (and_left (fades_look a) _ w))

module _ (a b : Lookahead) (e : a.terminal ≡ b.terminal) (k : (n : Fact) → fades n ≡ true → has_fact n a.facts ≡ false → has_fact n b.facts ≡ false) where
  stays_false : (c : Look) → fades_look c ≡ true → answers c a ≡ false → answers c b ≡ false
  stays_false ended w h = absurd (true≢false (sym w))
  stays_false at_name w h = ap is_name (sym e) ∙ h
  stays_false (at_word x) w h = ap (is_word x) (sym e) ∙ h
  stays_false (at_mark x) w h = ap (starts_mark x) (sym e) ∙ h
  stays_false (at_literal l) w h = ap (is_literal l) (sym e) ∙ h
  stays_false (at_group d) w h = ap (is_group d) (sym e) ∙ h
  stays_false at_empty_group w h = ap is_empty_group (sym e) ∙ h
  stays_false (ahead n) w h = k n w h
  stays_false (c or_else d) w h = ap₂ or (stays_false c (and_left (fades_look c) _ w) (or_off_left (answers c a) _ h)) (stays_false d (and_right (fades_look c) _ w) (or_off_right (answers c a) _ h))
  stays_false (c and_also d) w h = go (true_or_false (answers c a)) (stays_false c (and_left (fades_look c) _ w)) (stays_false d (and_right (fades_look c) _ w))
    where
      go : (answers c a ≡ true) ⊎ (answers c a ≡ false) → (answers c a ≡ false → answers c b ≡ false) → (answers d a ≡ false → answers d b ≡ false) → and (answers c b) (answers d b) ≡ false
      go (inl q) f g = and_off_right (answers c b) _ (g (ap (λ v. and v (answers d a)) (sym q) ∙ h))
      go (inr q) f g = and_off_left (answers c b) _ (f q)
  stays_false (c but_not d) w h = go (true_or_false (answers c a)) (stays_false c (and_left (fades_look c) _ w))
    where
      go : (answers c a ≡ true) ⊎ (answers c a ≡ false) → (answers c a ≡ false → answers c b ≡ false) → and (answers c b) (no (answers d b)) ≡ false
      go (inl q) f = and_off_right (answers c b) _ (ap no (sym (by_terminal d a b (no_true (asks_fact d) (and_right (fades_look c) _ w)) e)) ∙ ap (λ v. and v (no (answers d a))) (sym q) ∙ h)
      go (inr q) f = and_off_left (answers c b) _ (f q)

pub look_fades : (c : Look) (a b : Lookahead) → fades_look c ≡ true → Faded a b → answers c a ≡ false → answers c b ≡ false
look_fades c a b w (inl e) h = ap (answers c) e ∙ off_at_end c w
look_fades c a b w (inr (e, k)) h = stays_false a b e k c w h

-- the conditions on such facts
abbrev fade_all : Asked → Bool
fade_all [] = true
fade_all (p ∷ l) = and (or (no (fades p.1)) (fades_look p.0)) (fade_all l)

facts_fade : (l : Asked) (a b : Lookahead) (n : Fact) → fade_all l ≡ true → Faded a b → fades n ≡ true → has_fact n (facts_for l a) ≡ false → has_fact n (facts_for l b) ≡ false
facts_fade [] a b n w f v h = refl
facts_fade (p ∷ l) a b n w f v h = go (answers p.0 a) (answers p.0 b) (true_or_false (same_fact n p.1)) falls h (facts_fade l a b n (and_right (or (no (fades p.1)) (fades_look p.0)) _ w) f v)
  where
    falls : same_fact n p.1 ≡ true → answers p.0 a ≡ false → answers p.0 b ≡ false
    falls q = look_fades p.0 a b (reported (or_split (no (fades p.1)) _ (and_left (or (no (fades p.1)) (fades_look p.0)) _ w))) f
      where
        reported : (no (fades p.1) ≡ true) ⊎ (fades_look p.0 ≡ true) → fades_look p.0 ≡ true
        reported (inl z) = absurd (true≢false (sym v ∙ ap fades (same_fact_eq n p.1 q) ∙ no_true (fades p.1) z))
        reported (inr z) = z

    go : (s t : Bool) → (same_fact n p.1 ≡ true) ⊎ (same_fact n p.1 ≡ false) → (same_fact n p.1 ≡ true → s ≡ false → t ≡ false) → has_fact n (pick s (p.1 ∷ facts_for l a) (facts_for l a)) ≡ false →
        (has_fact n (facts_for l a) ≡ false → has_fact n (facts_for l b) ≡ false) → has_fact n (pick t (p.1 ∷ facts_for l b) (facts_for l b)) ≡ false
    go true false q g h ih = ih (or_off_right (same_fact n p.1) _ h)
    go false false q g h ih = ih h
    go true true q g h ih = ap₂ or (or_off_left (same_fact n p.1) _ h) (ih (or_off_right (same_fact n p.1) _ h))
    go false true (inl q) g h ih = absurd (true≢false (g q refl))
    go false true (inr q) g h ih = ap₂ or q (ih h)

-- one of two lists
pick_holds : (P : Asked → Bool) (v : Bool) (l m : Asked) → P l ≡ true → P m ≡ true → P (pick v l m) ≡ true
pick_holds P true l m e f = e
pick_holds P false l m e f = f

asked_fades : (f : Terminal) → fade_all (asked f) ≡ true
asked_fades Ended = refl
asked_fades Name = refl
asked_fades (Literal k) = refl
asked_fades (Delimited d v) = refl
asked_fades (Word x) =
    pick_holds fade_all (one_of_texts x (w_crate ∷ w_self ∷ w_super ∷ [])) _ _ refl
    (pick_holds fade_all (same_text x w_Self_type) _ _ refl
    (pick_holds fade_all (same_text x w_mut) _ _ refl
    (pick_holds fade_all (same_text x w_static) _ _ refl
    (pick_holds fade_all (same_text x w_async) _ _ refl
    (pick_holds fade_all (same_text x w_const) _ _ refl
    (pick_holds fade_all (same_text x w_unsafe) _ _ refl
    (pick_holds fade_all (same_text x w_union) _ _ refl
    (pick_holds fade_all (same_text x w_auto) _ _ refl
    (pick_holds fade_all (same_text x w_default) _ _ refl
    (pick_holds fade_all (one_of_texts x contextual) _ _ refl refl))))))))))
asked_fades (Punctuation x) =
    pick_holds fade_all (same_text x exclamation) _ _ refl
    (pick_holds fade_all (same_text x colon) _ _ refl
    (pick_holds fade_all (same_text x pound) _ _ refl
    (pick_holds fade_all (same_text x less) _ _ refl refl)))

lone_fade : (f : Terminal) (l m : List Fact) (n : Fact) → (has_fact n l ≡ false → has_fact n m ≡ false) → has_fact n (lone_facts f l) ≡ false → has_fact n (lone_facts f m) ≡ false
lone_fade (Punctuation (x ∷ [])) l m n k h = k h
lone_fade _ l m n k h = refl

after_fades : (a b : Lookahead) (n : Fact) → Faded a b → fades n ≡ true → has_fact n (lone_facts a.terminal a.facts) ≡ false → has_fact n (lone_facts b.terminal b.facts) ≡ false
after_fades a b n (inl e) v h = ap (λ z. has_fact n (lone_facts z.terminal z.facts)) e
after_fades a b n (inr (e, k)) v h = lone_fade b.terminal a.facts b.facts n (k n v) (ap (λ z. has_fact n (lone_facts z a.facts)) (sym e) ∙ h)

mark_fades : (c : ℕ) (f : Terminal) (a b : Lookahead) (n : Fact) → Faded a b → fades n ≡ true → has_fact n (punctuation_facts c f a) ≡ false → has_fact n (punctuation_facts c f b) ≡ false
mark_fades c (Punctuation (x ∷ [])) a b n q v h = facts_fade (asked (Punctuation (c ∷ []))) a b n (asked_fades (Punctuation (c ∷ []))) q v h
mark_fades c (Punctuation (x ∷ y ∷ [])) a b n q v h = go (nat_eq c 58) h
  where
    go : (u : Bool) → has_fact n (pick u (lone_facts a.terminal a.facts) []) ≡ false → has_fact n (pick u (lone_facts b.terminal b.facts) []) ≡ false
    go true h = after_fades a b n q v h
    go false h = refl
mark_fades c _ a b n q v h = refl

pub faded : (x r : Stream) → unjoined x ≡ true → Faded (lookahead (x ⧺ r)) (lookahead x)
faded end r u = inl refl
faded (leaf l sp m) r u = inr (refl, λ n v h. facts_fade (asked (leaf_terminal l)) (lookahead (m ⧺ r)) (lookahead m) n (asked_fades (leaf_terminal l)) (faded m r u) v h)
faded (group d o c i m) r u = inr (refl, λ n v h. h)
faded (punct c j sp m) r u =
    let e = terminal_stays (punct c j sp m) r u refl in
    inr (e, λ n v h. mark_fades c (char_terminal c j (lookahead m).terminal) (lookahead (m ⧺ r)) (lookahead m) n (faded m r (and_right (or (no j) (some_tree m)) _ u)) v (ap (λ z. has_fact n (punctuation_facts c z (lookahead (m ⧺ r)))) (sym e) ∙ h))

-- ---- near facts: they rest on the terminal of what follows alone
abbrev pub near : Fact → Bool
near Before_equals = true
near Before_colons = true
near Before_paren = true
near Before_less = true
near Before_bang = true
near _ = false

abbrev pub near_look : Look → Bool
near_look (ahead n) = near n
near_look (a or_else b) = and (near_look a) (near_look b)
near_look (a and_also b) = and (near_look a) (near_look b)
near_look (a but_not b) = and (near_look a) (near_look b)
near_look c = true

module _ (a b : Lookahead) (e : a.terminal ≡ b.terminal) (k : (n : Fact) → near n ≡ true → has_fact n a.facts ≡ has_fact n b.facts) where
  near_same : (c : Look) → near_look c ≡ true → answers c a ≡ answers c b
  near_same ended w = ap is_ended e
  near_same at_name w = ap is_name e
  near_same (at_word x) w = ap (is_word x) e
  near_same (at_mark x) w = ap (starts_mark x) e
  near_same (at_literal l) w = ap (is_literal l) e
  near_same (at_group d) w = ap (is_group d) e
  near_same at_empty_group w = ap is_empty_group e
  near_same (ahead n) w = k n w
  near_same (c or_else d) w = ap₂ or (near_same c (and_left (near_look c) _ w)) (near_same d (and_right (near_look c) _ w))
  near_same (c and_also d) w = ap₂ and (near_same c (and_left (near_look c) _ w)) (near_same d (and_right (near_look c) _ w))
  near_same (c but_not d) w = ap₂ (λ x y. and x (no y)) (near_same c (and_left (near_look c) _ w)) (near_same d (and_right (near_look c) _ w))

abbrev near_all : Asked → Bool
near_all [] = true
near_all (p ∷ l) = and (or (no (near p.1)) (no (asks_fact p.0))) (near_all l)

near_facts : (l : Asked) (a b : Lookahead) (n : Fact) → near_all l ≡ true → a.terminal ≡ b.terminal → near n ≡ true → has_fact n (facts_for l a) ≡ has_fact n (facts_for l b)
near_facts [] a b n w e v = refl
near_facts (p ∷ l) a b n w e v = go (answers p.0 a) (answers p.0 b) (true_or_false (same_fact n p.1)) same (near_facts l a b n (and_right (or (no (near p.1)) (no (asks_fact p.0))) _ w) e v)
  where
    same : same_fact n p.1 ≡ true → answers p.0 a ≡ answers p.0 b
    same q = by_terminal p.0 a b (reported (or_split (no (near p.1)) _ (and_left (or (no (near p.1)) (no (asks_fact p.0))) _ w))) e
      where
        reported : (no (near p.1) ≡ true) ⊎ (no (asks_fact p.0) ≡ true) → asks_fact p.0 ≡ false
        reported (inl z) = absurd (true≢false (sym v ∙ ap near (same_fact_eq n p.1 q) ∙ no_true (near p.1) z))
        reported (inr z) = no_true (asks_fact p.0) z

    dropped : (s : Bool) (x : List Fact) → same_fact n p.1 ≡ false → has_fact n (pick s (p.1 ∷ x) x) ≡ has_fact n x
    dropped true x q = ap (λ z. or z (has_fact n x)) q
    dropped false x q = refl

    kept : (s : Bool) (x y : List Fact) → has_fact n x ≡ has_fact n y → has_fact n (pick s (p.1 ∷ x) x) ≡ has_fact n (pick s (p.1 ∷ y) y)
    kept true x y q = ap (or (same_fact n p.1)) q
    kept false x y q = q

    go : (s t : Bool) → (same_fact n p.1 ≡ true) ⊎ (same_fact n p.1 ≡ false) → (same_fact n p.1 ≡ true → s ≡ t) → has_fact n (facts_for l a) ≡ has_fact n (facts_for l b) →
        has_fact n (pick s (p.1 ∷ facts_for l a) (facts_for l a)) ≡ has_fact n (pick t (p.1 ∷ facts_for l b) (facts_for l b))
    go s t (inl q) g ih = ap (λ z. has_fact n (pick z (p.1 ∷ facts_for l a) (facts_for l a))) (g q) ∙ kept t (facts_for l a) (facts_for l b) ih
    go s t (inr q) g ih = dropped s (facts_for l a) q ∙ ih ∙ sym (dropped t (facts_for l b) q)

asked_near : (f : Terminal) → near_all (asked f) ≡ true
asked_near Ended = refl
asked_near Name = refl
asked_near (Literal k) = refl
asked_near (Delimited d v) = refl
asked_near (Word x) =
    pick_holds near_all (one_of_texts x (w_crate ∷ w_self ∷ w_super ∷ [])) _ _ refl
    (pick_holds near_all (same_text x w_Self_type) _ _ refl
    (pick_holds near_all (same_text x w_mut) _ _ refl
    (pick_holds near_all (same_text x w_static) _ _ refl
    (pick_holds near_all (same_text x w_async) _ _ refl
    (pick_holds near_all (same_text x w_const) _ _ refl
    (pick_holds near_all (same_text x w_unsafe) _ _ refl
    (pick_holds near_all (same_text x w_union) _ _ refl
    (pick_holds near_all (same_text x w_auto) _ _ refl
    (pick_holds near_all (same_text x w_default) _ _ refl
    (pick_holds near_all (one_of_texts x contextual) _ _ refl refl))))))))))
asked_near (Punctuation x) =
    pick_holds near_all (same_text x exclamation) _ _ refl
    (pick_holds near_all (same_text x colon) _ _ refl
    (pick_holds near_all (same_text x pound) _ _ refl
    (pick_holds near_all (same_text x less) _ _ refl refl)))

-- the facts of two marks in front of a stream, where a tree follows
near_lone : (f : Terminal) (l m : List Fact) (n : Fact) → has_fact n l ≡ has_fact n m → has_fact n (lone_facts f l) ≡ has_fact n (lone_facts f m)
near_lone (Punctuation (x ∷ [])) l m n k = k
near_lone _ l m n k = refl

near_mark : (c : ℕ) (f : Terminal) (a b : Lookahead) (n : Fact) → a.terminal ≡ b.terminal → near n ≡ true → has_fact n (lone_facts f (punctuation_facts c f a)) ≡ has_fact n (lone_facts f (punctuation_facts c f b))
near_mark c (Punctuation (x ∷ [])) a b n e v = near_facts (asked (Punctuation (c ∷ []))) a b n (asked_near (Punctuation (c ∷ []))) e v
near_mark c _ a b n e v = refl

near_after : (x r : Stream) (n : Fact) → unjoined x ≡ true → 2 ≤ size x → near n ≡ true → has_fact n (lone_facts (lookahead (x ⧺ r)).terminal (lookahead (x ⧺ r)).facts) ≡ has_fact n (lone_facts (lookahead x).terminal (lookahead x).facts)
near_after end r n u h v = absurd (omega (arith, h))
near_after (leaf l sp m) r n u h v =
    near_lone (leaf_terminal l) (lookahead (leaf l sp m ⧺ r)).facts (lookahead (leaf l sp m)).facts n
    (near_facts (asked (leaf_terminal l)) (lookahead (m ⧺ r)) (lookahead m) n (asked_near (leaf_terminal l)) (terminal_stays m r u (some_size m (omega (arith, h)))) v)
near_after (group d o c i m) r n u h v = refl
near_after (punct c j sp m) r n u h v =
    let e = terminal_stays (punct c j sp m) r u refl in
    ap (λ z. has_fact n (lone_facts z (punctuation_facts c z (lookahead (m ⧺ r))))) e
    ∙ near_mark c (char_terminal c j (lookahead m).terminal) (lookahead (m ⧺ r)) (lookahead m) n (terminal_stays m r (and_right (or (no j) (some_tree m)) _ u) (some_size m (omega (arith, h)))) v

near_front : (c : ℕ) (f : Terminal) (a b : Lookahead) (n : Fact) → a.terminal ≡ b.terminal → has_fact n (lone_facts a.terminal a.facts) ≡ has_fact n (lone_facts b.terminal b.facts) → near n ≡ true →
    has_fact n (punctuation_facts c f a) ≡ has_fact n (punctuation_facts c f b)
near_front c (Punctuation (x ∷ [])) a b n e k v = near_facts (asked (Punctuation (c ∷ []))) a b n (asked_near (Punctuation (c ∷ []))) e v
near_front c (Punctuation (x ∷ y ∷ [])) a b n e k v = go (nat_eq c 58)
  where
    go : (u : Bool) → has_fact n (pick u (lone_facts a.terminal a.facts) []) ≡ has_fact n (pick u (lone_facts b.terminal b.facts) [])
    go true = k
    go false = refl
near_front c _ a b n e k v = refl

near_stays : (x r : Stream) (n : Fact) → unjoined x ≡ true → 3 ≤ size x → near n ≡ true → has_fact n (lookahead (x ⧺ r)).facts ≡ has_fact n (lookahead x).facts
near_stays end r n u h v = absurd (omega (arith, h))
near_stays (leaf l sp m) r n u h v = near_facts (asked (leaf_terminal l)) (lookahead (m ⧺ r)) (lookahead m) n (asked_near (leaf_terminal l)) (terminal_stays m r u (some_size m (omega (arith, h)))) v
near_stays (group d o c i m) r n u h v = refl
near_stays (punct c j sp m) r n u h v =
    let e = terminal_stays (punct c j sp m) r u refl in
    let w = and_right (or (no j) (some_tree m)) _ u in
    ap (λ z. has_fact n (punctuation_facts c z (lookahead (m ⧺ r)))) e
    ∙ near_front c (char_terminal c j (lookahead m).terminal) (lookahead (m ⧺ r)) (lookahead m) n (terminal_stays m r w (some_size m (omega (arith, h)))) (near_after m r n w (omega (arith, h)) v) v

-- a look that tests near facts gives the same result where three trees come before the rest
pub look_stays : (c : Look) (x r : Stream) → near_look c ≡ true → unjoined x ≡ true → 3 ≤ size x → answers c (lookahead (x ⧺ r)) ≡ answers c (lookahead x)
look_stays c x r w u h = near_same (lookahead (x ⧺ r)) (lookahead x) (terminal_stays x r u (some_size x (omega (arith, h)))) (λ n v. near_stays x r n u h v) c w
