-- A form reads the same tokens where the rest after them is cut off, if its looks give the same result there.
use Rattle.std.proofs.Common.{◌≡◌, ℕ, zero, suc, ◌+◌, ◌≤◌, Bool, true, false, List, [], ◌∷◌, refl, sym, ap, ap₂, ◌∙◌, subst, true≢false, ◌⊎◌, inl, inr, arith}
use Rattle.syn_grammar.specs.Words.{Text}
use Rattle.syn_grammar.specs.Tokens.{Span, ident, Stream, end, leaf, punct, group, ◌⧺◌, or, and, no, pick, Terminal, Ended, mem, Look, answers, lookahead, present}
use Rattle.syn_grammar.specs.Rules.{Rule}
use Rattle.syn_grammar.specs.Grammar.{Syntax, Nothing, Token, Mark, Lifetime, Both, Left, Right, Node, Vanishing, Group, Raw, Rest, Case, Such, Shaped, Captured, Unshown, Impl, Done, Last, More, Order, chars, spell, Spelled, Grammar, DerivesPrefix, empty, token, mark, lifetime, ◌&◌, when◌then◌else◌, vanishing, inside, raw, rest_after, either, one_of, rule, such, shaped, captured, unshown, supplied, generics_before, opt_generics, row, ordered, choose, at_row_end, at_row_comma, some_tree, show}
use Rattle.syn_grammar.specs.Table.{table}
use Rattle.syn_grammar.specs.Run.{value_of}
use Rattle.syn_grammar.specs.Alone.{all_of, asks_fact}
use Rattle.syn_grammar.proofs.Sets.{or_split, and_left, and_right, no_true, true_or_false, every, every_at, may, must, may_of, must_not_of, off_of, on_of}
use Rattle.syn_grammar.proofs.Streams.{size, size_append, append_append, same_before, spelled_alone}
use Rattle.syn_grammar.proofs.FirstSets.{nullable, one_nullable, first_set, begins}
use Rattle.syn_grammar.proofs.Extend.{carried, closes, alone}
use Rattle.syn_grammar.proofs.Shapes.{sum_shape, show_sum}
use Rattle.syn_grammar.proofs.Said.{start_of, starts_hold, closed_of, closed_hold, cut_of, spaced_of}
use Rattle.syn_grammar.proofs.Alone.{of_every_rule, implies, by_implied, one_said, by_terminal}
use Rattle.syn_grammar.proofs.Fades.{unjoined, some_after, unjoined_after, unjoined_append, unjoined_spell, no_tree, some_size, terminal_stays, fades_look, look_fades, faded, near_look, look_stays}

abbrev Derived : Grammar → Syntax → Stream → Stream → Type 0
Derived g s ts r = DerivesPrefix table g s ts r

false_true : false ≡ true → ⊥
false_true e = true≢false (sym e)

-- ---- how many token trees a form reads at least
abbrev lower : ℕ → ℕ → ℕ
lower zero b = zero
lower (suc a) zero = zero
lower (suc a) (suc b) = suc (lower a b)

lower_left : (a b : ℕ) → lower a b ≤ a
lower_left zero b = omega arith
lower_left (suc a) zero = omega arith
lower_left (suc a) (suc b) = let e = lower_left a b in omega (arith, e)

lower_right : (a b : ℕ) → lower a b ≤ b
lower_right zero b = omega arith
lower_right (suc a) zero = omega arith
lower_right (suc a) (suc b) = let e = lower_right a b in omega (arith, e)

abbrev count : Text → ℕ
count [] = 0
count (c ∷ l) = suc (count l)

abbrev lowest : Grammar → ℕ
lowest (token b k) = 1
lowest (mark b cs) = count cs
lowest lifetime = 2
lowest (g & h) = lowest g + lowest h
lowest (when c then g else h) = lower (lowest g) (lowest h)
lowest (inside d g) = 1
lowest (raw d) = 1
lowest (rest_after cs) = count cs
lowest (either g h) = lower (lowest g) (lowest h)
lowest (one_of ks) = pick (nullable start_of (one_of ks)) 0 1
lowest (rule k) = pick (start_of k).nullable 0 1
lowest (such q g) = lowest g
lowest (shaped j g) = lowest g
lowest (captured g) = lowest g
lowest (supplied n p t) = 1
lowest (generics_before x y h) = lowest h
lowest (ordered g h) = 2
lowest _ = 0

abbrev some_number : ℕ → Bool
some_number zero = false
some_number (suc n) = true

abbrev three : ℕ → Bool
three (suc (suc (suc n))) = true
three _ = false

one_least : (n : ℕ) → some_number n ≡ true → 1 ≤ n
one_least zero e = absurd (true≢false (sym e))
one_least (suc n) e = omega arith

three_least : (n : ℕ) → three n ≡ true → 3 ≤ n
three_least zero e = absurd (true≢false (sym e))
three_least (suc zero) e = absurd (true≢false (sym e))
three_least (suc (suc zero)) e = absurd (true≢false (sym e))
three_least (suc (suc (suc n))) e = omega arith

-- a rule that may not read nothing reads something
something : (k : Rule) → or (start_of k).nullable (some_number (lowest (table k))) ≡ true
something k = of_every_rule (λ k. or (start_of k).nullable (some_number (lowest (table k)))) refl refl k

spelled_size : (xs : List (ℕ × Span)) (ts r : Stream) → Spelled xs ts r → count (chars xs) + size r ≤ size ts
spelled_size [] ts r h = elim h [ ]
spelled_size (x ∷ []) ts r h = let e : size ts ≡ suc (size r) = ap size h.1 in omega (arith, e)
spelled_size (x ∷ y ∷ l) ts r h =
    let e : size ts ≡ suc (size h.0) = ap size h.1 in
    let q = spelled_size (y ∷ l) h.0 r h.2 in
    omega (arith, e, q)

spelled_one : (xs : List (ℕ × Span)) (ts r : Stream) → Spelled xs ts r → 1 + size r ≤ size ts
spelled_one [] ts r h = elim h [ ]
spelled_one (x ∷ l) ts r h = let q = spelled_size (x ∷ l) ts r h in omega (arith, q)

rule_size : (v : Bool) (n p q : ℕ) → or v (some_number n) ≡ true → n + p ≤ q → pick v 0 1 + p ≤ q
rule_size true n p q w h = omega (arith, h)
rule_size false n p q w h = let e = one_least n w in omega (arith, h, e)

sized : (g : Grammar) (s : Syntax) (ts r : Stream) → Derived g s ts r → lowest g + size r ≤ size ts
sized empty Nothing ts r h = let e : size ts ≡ size r = ap size h in omega (arith, e)
sized (token b k) (Token x sp) ts r h = let e : size ts ≡ suc (size r) = ap size h.1 in omega (arith, e)
sized (mark b cs) (Mark xs) ts r h = subst (λ z. count z + size r ≤ size ts) h.0 (spelled_size xs ts r h.1)
sized lifetime (Lifetime sp x sq) ts r h = let e : size ts ≡ suc (suc (size r)) = ap size h in omega (arith, e)
sized (g & h) (Both s t) ts r (m, a, b) = let p = sized g s ts m a in let q = sized h t m r b in omega (arith, p, q)
sized (when c then g else h) (Left s) ts r (e, a) = let p = sized g s ts r a in let q = lower_left (lowest g) (lowest h) in omega (arith, p, q)
sized (when c then g else h) (Right s) ts r (e, a) = let p = sized h s ts r a in let q = lower_right (lowest g) (lowest h) in omega (arith, p, q)
sized (vanishing b c g) (Vanishing b' s) ts r (e, a) = let p = sized (when c then g else empty) s ts r a in omega (arith, p)
sized (inside d g) (Group d' o c s) ts r (e, i, f, a) = let p : size ts ≡ suc (size r) = ap size f in omega (arith, p)
sized (raw d) (Raw d' o c i) ts r (e, f) = let p : size ts ≡ suc (size r) = ap size f in omega (arith, p)
sized (rest_after cs) (Rest xs i) ts r (e, d, n, f) =
    let p : size r ≡ 0 = ap size f in
    let q : count cs + size i ≤ size ts = subst (λ z. count z + size i ≤ size ts) e (spelled_size xs ts i d) in
    omega (arith, p, q)
sized (either g h) (Left s) ts r a = let p = sized g s ts r a in let q = lower_left (lowest g) (lowest h) in omega (arith, p, q)
sized (either g h) (Right s) ts r a = let p = sized h s ts r a in let q = lower_right (lowest g) (lowest h) in omega (arith, p, q)
sized (one_of ks) (Case k s) ts r (e, a) =
    rule_size (nullable start_of (one_of ks)) (lowest (table k)) (size r) (size ts) (go (or_split (start_of k).nullable _ (something k)) (true_or_false (nullable start_of (one_of ks)))) (sized (table k) s ts r a)
  where
    go : ((start_of k).nullable ≡ true) ⊎ (some_number (lowest (table k)) ≡ true) → (nullable start_of (one_of ks) ≡ true) ⊎ (nullable start_of (one_of ks) ≡ false) → or (nullable start_of (one_of ks)) (some_number (lowest (table k))) ≡ true
    go (inl q) f = ap (λ z. or z (some_number (lowest (table k)))) (one_nullable start_of k ks e q)
    go (inr q) (inl f) = ap (λ z. or z (some_number (lowest (table k)))) f
    go (inr q) (inr f) = ap₂ or f q
sized (rule k) (Node s) ts r a = rule_size (start_of k).nullable (lowest (table k)) (size r) (size ts) (something k) (sized (table k) s ts r a)
sized (such q g) (Such s) ts r (e, a) = sized g s ts r a
sized (shaped j g) (Shaped i s) ts r (e, a) = sized g s ts r a
sized (captured g) (Captured s i) ts r (e, a) = sized g s ts r a
sized unshown (Unshown s) ts r h = let e : size ts ≡ size r = ap size h.1 in omega (arith, e)
sized (supplied n p t) (Both a (Both (Mark xs) s)) ts r (inl (v, x, sp, c, e, pa, f, q)) =
    let p' : size ts ≡ suc (size (c ⧺ r)) = ap size e in
    let q' = size_append c r in
    omega (arith, p', q')
sized (supplied n p t) (Both a (Both (Mark xs) s)) ts r (inr (v, m, pa, f, m', d, q)) =
    let x = sized p a ts m pa in
    let y = spelled_one xs m m' d in
    let z = sized t s m' r q in
    omega (arith, x, y, z)
sized (generics_before x y h) (Impl l s) ts r (m, a, b) = let p = sized (opt_generics x y) l ts m a in let q = sized h s m r b in omega (arith, p, q)
sized (row g h) Done ts r (v, f) = let e : size ts ≡ size r = ap size f in omega (arith, e)
sized (row g h) (Last b s) ts r (v, a, n) = let p = sized (choose b g h) s ts r a in omega (arith, p)
sized (row g h) (More b s sp t) ts r (v, m, a, m', d, rs) =
    let p = sized (choose b g h) s ts m a in
    let q = spelled_one ((44, sp) ∷ []) m m' d in
    let z = sized (row g h) t m' r rs in
    omega (arith, p, q, z)
sized (ordered g h) (Order xs l ys) ts r (m, e, d, m', a, e', d') =
    let p = spelled_one xs ts m d in
    let q = sized (row g h) l m m' a in
    let z = spelled_one ys m' r d' in
    omega (arith, p, q, z)
sized _ _ ts r a = elim a [ ]

-- ---- and from what begins with this terminal
module _ (deep : Terminal → Rule → ℕ) where
  abbrev least_of : Terminal → Grammar → ℕ
  least_of f (g & h) = least_of f g + lowest h
  least_of f (when c then g else h) = lower (pick (may c f) (least_of f g) 3) (pick (must c f) 3 (least_of f h))
  least_of f (such q g) = least_of f g
  least_of f (shaped j g) = least_of f g
  least_of f (rule k) = deep f k
  least_of f g = lowest g

  module _ (law : (k : Rule) (s : Syntax) (ts r : Stream) → Derived (rule k) s ts r → deep (lookahead ts).terminal k + size r ≤ size ts) where
    sized_of : (g : Grammar) (s : Syntax) (ts r : Stream) → Derived g s ts r → least_of (lookahead ts).terminal g + size r ≤ size ts
    sized_of (g & h) (Both s t) ts r (m, a, b) = let p = sized_of g s ts m a in let q = sized h t m r b in omega (arith, p, q)
    sized_of (when c then g else h) (Left s) ts r (e, a) =
        let f = (lookahead ts).terminal in
        let p = sized_of g s ts r a in
        let q = lower_left (pick (may c f) (least_of f g) 3) (pick (must c f) 3 (least_of f h)) in
        let z : pick (may c f) (least_of f g) 3 ≡ least_of f g = ap (λ v. pick v (least_of f g) 3) (may_of c (lookahead ts) e) in
        omega (arith, p, q, z)
    sized_of (when c then g else h) (Right s) ts r (e, a) =
        let f = (lookahead ts).terminal in
        let p = sized_of h s ts r a in
        let q = lower_right (pick (may c f) (least_of f g) 3) (pick (must c f) 3 (least_of f h)) in
        let z : pick (must c f) 3 (least_of f h) ≡ least_of f h = ap (λ v. pick v 3 (least_of f h)) (no_true (must c f) (must_not_of c (lookahead ts) e)) in
        omega (arith, p, q, z)
    sized_of (such q g) (Such s) ts r (e, a) = sized_of g s ts r a
    sized_of (shaped j g) (Shaped i s) ts r (e, a) = sized_of g s ts r a
    sized_of (rule k) s ts r a = law k s ts r a
    sized_of empty s ts r a = sized empty s ts r a
    sized_of (token b k) s ts r a = sized (token b k) s ts r a
    sized_of (mark b cs) s ts r a = sized (mark b cs) s ts r a
    sized_of lifetime s ts r a = sized lifetime s ts r a
    sized_of (vanishing b c g) s ts r a = sized (vanishing b c g) s ts r a
    sized_of (inside d g) s ts r a = sized (inside d g) s ts r a
    sized_of (raw d) s ts r a = sized (raw d) s ts r a
    sized_of (rest_after cs) s ts r a = sized (rest_after cs) s ts r a
    sized_of (either g h) s ts r a = sized (either g h) s ts r a
    sized_of (one_of ks) s ts r a = sized (one_of ks) s ts r a
    sized_of (captured g) s ts r a = sized (captured g) s ts r a
    sized_of unshown s ts r a = sized unshown s ts r a
    sized_of (supplied n p t) s ts r a = sized (supplied n p t) s ts r a
    sized_of (generics_before x y h) s ts r a = sized (generics_before x y h) s ts r a
    sized_of (row g h) s ts r a = sized (row g h) s ts r a
    sized_of (ordered g h) s ts r a = sized (ordered g h) s ts r a
    sized_of _ _ ts r a = elim a [ ]

abbrev shallow : Terminal → Rule → ℕ
shallow f k = lowest (rule k)

shallow_law : (k : Rule) (s : Syntax) (ts r : Stream) → Derived (rule k) s ts r → shallow (lookahead ts).terminal k + size r ≤ size ts
shallow_law k s ts r a = sized (rule k) s ts r a

abbrev opened : Terminal → Rule → ℕ
opened f k = least_of shallow f (table k)

opened_law : (k : Rule) (s : Syntax) (ts r : Stream) → Derived (rule k) s ts r → opened (lookahead ts).terminal k + size r ≤ size ts
opened_law k (Node s) ts r a = sized_of shallow shallow_law (table k) s ts r a
opened_law k _ ts r a = elim a [ ]

abbrev least : Terminal → Grammar → ℕ
least f g = least_of opened f g

-- ---- looks that give the same result where the rest is cut off

-- what the form reads begins with this terminal: the look, if it was true, stays true
abbrev stays_true : Look → Grammar → Terminal → Bool
stays_true l g f = or (no (may l f)) (or (must l f) (and (near_look l) (three (least f g))))

-- the form was chosen because the look was true; because it was false
abbrev kept_on : Look → Grammar → Bool
kept_on l g = or (closes closed_of g) (or (and (no (asks_fact l)) (must l Ended)) (and (some_number (lowest g)) (or (no (asks_fact l)) (every (stays_true l g) (first_set start_of g)))))

abbrev kept_off : Look → Grammar → Bool
kept_off l h = or (closes closed_of h) (or (fades_look l) (and (no (asks_fact l)) (some_number (lowest h))))

abbrev cut_rule : Rule → Bool
cut_rule k = or (closed_of k) (cut_of k)

abbrev pub cuts : Grammar → Bool
cuts empty = true
cuts (token b k) = true
cuts (mark b cs) = true
cuts lifetime = true
cuts (g & h) = and (cuts g) (cuts h)
cuts (when l then g else h) = and (and (kept_on l g) (kept_off l h)) (and (cuts g) (cuts h))
cuts (inside d g) = true
cuts (raw d) = true
cuts (either g h) = and (cuts g) (cuts h)
cuts (one_of ks) = all_of cut_rule ks
cuts (rule k) = cut_rule k
cuts (such q g) = cuts g
cuts (shaped j g) = cuts g
cuts unshown = true
cuts (ordered g h) = and (cuts g) (cuts h)
cuts _ = false

cuts_hold : (k : Rule) → cut_of k ≡ true → cuts (table k) ≡ true
cuts_hold k = by_implied (cut_of k) _ (of_every_rule (λ k. implies (cut_of k) (cuts (table k))) refl refl k)

-- the stream before the rest is this and then that
split_off : (x c y r : Stream) → x ⧺ r ≡ c ⧺ (y ⧺ r) → x ≡ c ⧺ y
split_off x c y r e = same_before x (c ⧺ y) r (e ∙ sym (append_append c y r))

-- what ends by itself is read as before, and looks the same
closed_cut : (g : Grammar) (s : Syntax) (x y r : Stream) → closes closed_of g ≡ true → Derived g s (x ⧺ r) (y ⧺ r) → Derived g s x y × (lookahead x ≡ lookahead (x ⧺ r))
closed_cut g s x y r w a =
    let (c, e, k) = alone closed_of table closed_hold g s (x ⧺ r) (y ⧺ r) w a in
    subst (λ z. Derived g s z y × (lookahead z ≡ lookahead (x ⧺ r))) (sym (split_off x c y r e)) (k y)

-- the tokens that are read are part of the stream
some_cut : (g : Grammar) (s : Syntax) (x y r : Stream) → Derived g s (x ⧺ r) (y ⧺ r) → lowest g ≤ size x
some_cut g s x y r a =
    let p = sized g s (x ⧺ r) (y ⧺ r) a in
    let q = size_append x r in
    let z = size_append y r in
    omega (arith, p, q, z)

least_cut : (g : Grammar) (s : Syntax) (x y r : Stream) → Derived g s (x ⧺ r) (y ⧺ r) → least (lookahead (x ⧺ r)).terminal g ≤ size x
least_cut g s x y r a =
    let p = sized_of opened opened_law g s (x ⧺ r) (y ⧺ r) a in
    let q = size_append x r in
    let z = size_append y r in
    omega (arith, p, q, z)

some_of : (g : Grammar) (s : Syntax) (x y r : Stream) → some_number (lowest g) ≡ true → Derived g s (x ⧺ r) (y ⧺ r) → some_tree x ≡ true
some_of g s x y r w a = let p = some_cut g s x y r a in let q = one_least (lowest g) w in some_size x (omega (arith, p, q))

-- a look that tests no fact
plain_stays : (l : Look) (b : Bool) (x r : Stream) → no (asks_fact l) ≡ true → unjoined x ≡ true → some_tree x ≡ true → present l (x ⧺ r) ≡ b → present l x ≡ b
plain_stays l b x r w u e h = sym (by_terminal l (lookahead (x ⧺ r)) (lookahead x) (no_true (asks_fact l) w) (terminal_stays x r u e)) ∙ h

on_stays : (l : Look) (g : Grammar) (s : Syntax) (x y r : Stream) → kept_on l g ≡ true → unjoined x ≡ true → Derived g s (x ⧺ r) (y ⧺ r) → present l (x ⧺ r) ≡ true → present l x ≡ true
on_stays l g s x y r w u a h = go (or_split (closes closed_of g) _ w)
  where
    at_terminal : some_tree x ≡ true → stays_true l g (lookahead (x ⧺ r)).terminal ≡ true → present l x ≡ true
    at_terminal e q = first (or_split (no (may l (lookahead (x ⧺ r)).terminal)) _ q)
      where
        second : (must l (lookahead (x ⧺ r)).terminal ≡ true) ⊎ (and (near_look l) (three (least (lookahead (x ⧺ r)).terminal g)) ≡ true) → present l x ≡ true
        second (inl z) = on_of l (lookahead x) (ap (must l) (sym (terminal_stays x r u e)) ∙ z)
        second (inr z) =
            let p = three_least (least (lookahead (x ⧺ r)).terminal g) (and_right (near_look l) _ z) in
            let i = least_cut g s x y r a in
            sym (look_stays l x r (and_left (near_look l) _ z) u (omega (arith, p, i))) ∙ h

        first : (no (may l (lookahead (x ⧺ r)).terminal) ≡ true) ⊎ (or (must l (lookahead (x ⧺ r)).terminal) (and (near_look l) (three (least (lookahead (x ⧺ r)).terminal g))) ≡ true) → present l x ≡ true
        first (inl z) = absurd (true≢false (sym h ∙ off_of l (lookahead (x ⧺ r)) z))
        first (inr z) = second (or_split (must l (lookahead (x ⧺ r)).terminal) _ z)

    unread : x ⧺ r ≡ y ⧺ r → some_number (lowest g) ≡ true → ⊥
    unread e q =
        let p = sized g s (x ⧺ r) (y ⧺ r) a in
        let z : size (x ⧺ r) ≡ size (y ⧺ r) = ap size e in
        let i = one_least (lowest g) q in
        omega (arith, p, z, i)

    reading : some_number (lowest g) ≡ true → (no (asks_fact l) ≡ true) ⊎ (every (stays_true l g) (first_set start_of g) ≡ true) → present l x ≡ true
    reading q (inl z) = plain_stays l true x r z u (some_of g s x y r q a) h
    reading q (inr z) = begun (begins start_of table starts_hold g s (x ⧺ r) (y ⧺ r) a)
      where
        begun : (mem (lookahead (x ⧺ r)).terminal (first_set start_of g) ≡ true) ⊎ ((nullable start_of g ≡ true) × (x ⧺ r ≡ y ⧺ r)) → present l x ≡ true
        begun (inl i) = at_terminal (some_of g s x y r q a) (every_at (stays_true l g) (lookahead (x ⧺ r)).terminal (first_set start_of g) z i)
        begun (inr i) = absurd (unread i.1 q)

    at_rest : no (asks_fact l) ≡ true → must l Ended ≡ true → (some_tree x ≡ true) ⊎ (some_tree x ≡ false) → present l x ≡ true
    at_rest p q (inl z) = plain_stays l true x r p u z h
    at_rest p q (inr z) = on_of l (lookahead x) (ap (λ v. must l (lookahead v).terminal) (no_tree x z) ∙ q)

    rest : (and (no (asks_fact l)) (must l Ended) ≡ true) ⊎ (and (some_number (lowest g)) (or (no (asks_fact l)) (every (stays_true l g) (first_set start_of g))) ≡ true) → present l x ≡ true
    rest (inl q) = at_rest (and_left (no (asks_fact l)) _ q) (and_right (no (asks_fact l)) _ q) (true_or_false (some_tree x))
    rest (inr q) = reading (and_left (some_number (lowest g)) _ q) (or_split (no (asks_fact l)) _ (and_right (some_number (lowest g)) _ q))

    go : (closes closed_of g ≡ true) ⊎ (or (and (no (asks_fact l)) (must l Ended)) (and (some_number (lowest g)) (or (no (asks_fact l)) (every (stays_true l g) (first_set start_of g)))) ≡ true) → present l x ≡ true
    go (inl q) = ap (answers l) (closed_cut g s x y r q a).1 ∙ h
    go (inr q) = rest (or_split (and (no (asks_fact l)) (must l Ended)) _ q)

off_stays : (l : Look) (h : Grammar) (s : Syntax) (x y r : Stream) → kept_off l h ≡ true → unjoined x ≡ true → Derived h s (x ⧺ r) (y ⧺ r) → present l (x ⧺ r) ≡ false → present l x ≡ false
off_stays l h s x y r w u a e = go (or_split (closes closed_of h) _ w)
  where
    rest : (fades_look l ≡ true) ⊎ (and (no (asks_fact l)) (some_number (lowest h)) ≡ true) → present l x ≡ false
    rest (inl q) = look_fades l (lookahead (x ⧺ r)) (lookahead x) q (faded x r u) e
    rest (inr q) = plain_stays l false x r (and_left (no (asks_fact l)) _ q) u (some_of h s x y r (and_right (no (asks_fact l)) _ q) a) e

    go : (closes closed_of h ≡ true) ⊎ (or (fades_look l) (and (no (asks_fact l)) (some_number (lowest h))) ≡ true) → present l x ≡ false
    go (inl q) = ap (answers l) (closed_cut h s x y r q a).1 ∙ e
    go (inr q) = rest (or_split (fades_look l) _ q)

-- ---- the reading where the rest is cut off
spelled_cut : (xs : List (ℕ × Span)) (x y r : Stream) → Spelled xs (x ⧺ r) (y ⧺ r) → Spelled xs x y
spelled_cut xs x y r h =
    let (c, e, k) = spelled_alone xs (x ⧺ r) (y ⧺ r) h in
    subst (λ z. Spelled xs z y) (sym (split_off x c y r e)) (k y)

-- a part of a stream, in front of the rest
abbrev Part : Stream → Stream → Type 0
Part m r = (n : Stream) × (m ≡ n ⧺ r)

-- the tokens before the rest of a stream
part_before : (c y m r : Stream) → m ≡ c ⧺ (y ⧺ r) → m ≡ (c ⧺ y) ⧺ r
part_before c y m r e = e ∙ sym (append_append c y r)

after_unjoined : (x c n m r : Stream) → unjoined x ≡ true → x ⧺ r ≡ c ⧺ m → m ≡ n ⧺ r → unjoined n ≡ true
after_unjoined x c n m r u e f = unjoined_after c n (ap unjoined (sym (split_off x c n r (e ∙ ap (λ z. c ⧺ z) f))) ∙ u)

choose_cuts : (b : Bool) (g h : Grammar) → and (cuts g) (cuts h) ≡ true → cuts (choose b g h) ≡ true
choose_cuts true g h w = and_left (cuts g) _ w
choose_cuts false g h w = and_right (cuts g) _ w

cut_named : (k : Rule) (s : Syntax) (x y r : Stream) → Derived (table k) s (x ⧺ r) (y ⧺ r) → (closed_of k ≡ true) ⊎ (cut_of k ≡ true) → (cut_of k ≡ true → Derived (table k) s x y) → Derived (table k) s x y
cut_named k s x y r a (inl q) ih = (closed_cut (table k) s x y r (closed_hold k q) a).0
cut_named k s x y r a (inr q) ih = ih q

mutual
  pub cut : (g : Grammar) (s : Syntax) (x y r : Stream) → cuts g ≡ true → unjoined x ≡ true → Derived g s (x ⧺ r) (y ⧺ r) → Derived g s x y
  cut empty Nothing x y r w u h = same_before x y r h
  cut (token b k) (Token l sp) x y r w u h = (h.0, same_before x (leaf l sp y) r h.1)
  cut (mark b cs) (Mark xs) x y r w u h = (h.0, spelled_cut xs x y r h.1)
  cut lifetime (Lifetime sp l sq) x y r w u h = same_before x (punct 39 true sp (leaf (ident l) sq y)) r h
  cut (g & h) (Both s t) x y r w u (m, a, b) =
      let (c, e, k) = carried table g s (x ⧺ r) m a in
      let (d, f, l) = carried table h t m (y ⧺ r) b in
      let q : m ≡ (d ⧺ y) ⧺ r = part_before d y m r f in
      let v = after_unjoined x c (d ⧺ y) m r u e q in
      (d ⧺ y, cut g s x (d ⧺ y) r (and_left (cuts g) _ w) u (subst (λ z. Derived g s (x ⧺ r) z) q a), cut h t (d ⧺ y) y r (and_right (cuts g) _ w) v (subst (λ z. Derived h t z (y ⧺ r)) q b))
  cut (when l then g else h) (Left s) x y r w u (v, a) = (
    on_stays l g s x y r (and_left (kept_on l g) _ (and_left (and (kept_on l g) (kept_off l h)) _ w)) u a v,
    cut g s x y r (and_left (cuts g) _ (and_right (and (kept_on l g) (kept_off l h)) _ w)) u a,
  )
  cut (when l then g else h) (Right s) x y r w u (v, a) = (
    off_stays l h s x y r (and_right (kept_on l g) _ (and_left (and (kept_on l g) (kept_off l h)) _ w)) u a v,
    cut h s x y r (and_right (cuts g) _ (and_right (and (kept_on l g) (kept_off l h)) _ w)) u a,
  )
  cut (inside d g) (Group d' o c s) x y r w u (e, i, f, a) = (e, i, same_before x (group d' o c i y) r f, a)
  cut (raw d) (Raw d' o c i) x y r w u (e, f) = (e, same_before x (group d' o c i y) r f)
  cut (either g h) (Left s) x y r w u a = cut g s x y r (and_left (cuts g) _ w) u a
  cut (either g h) (Right s) x y r w u a = cut h s x y r (and_right (cuts g) _ w) u a
  cut (one_of ks) (Case k s) x y r w u (e, a) = (e, cut_named k s x y r a (or_split (closed_of k) (cut_of k) (one_said cut_rule k ks e w)) (λ q. cut (table k) s x y r (cuts_hold k q) u a))
  cut (rule k) (Node s) x y r w u a = cut_named k s x y r a (or_split (closed_of k) (cut_of k) w) (λ q. cut (table k) s x y r (cuts_hold k q) u a)
  cut (such q g) (Such s) x y r w u (e, a) = (e, cut g s x y r w u a)
  cut (shaped j g) (Shaped i s) x y r w u (e, a) = (e, cut g s x y r w u a)
  cut unshown (Unshown s) x y r w u h = (h.0, same_before x y r h.1)
  cut (ordered g h) (Order xs l ys) x y r w u (m, e, d, m', a, e', d') =
      let (c, f, k) = spelled_alone xs (x ⧺ r) m d in
      let (c1, f1, k1) = carried table (row g h) l m m' a in
      let (c2, f2, k2) = spelled_alone ys m' (y ⧺ r) d' in
      let n' = c2 ⧺ y in
      let q' : m' ≡ n' ⧺ r = part_before c2 y m' r f2 in
      let n = c1 ⧺ n' in
      let q : m ≡ n ⧺ r = part_before c1 n' m r (f1 ∙ ap (λ z. c1 ⧺ z) q') in
      let v = after_unjoined x c n m r u f q in
      let i = spelled_one ys n' y (k2 y) in
      (n, e, spelled_cut xs x n r (subst (λ z. Spelled xs (x ⧺ r) z) q d), n', cut_row g h l n n' r w v (some_size n' (omega (arith, i))) (subst (λ z. DerivesPrefix table (row g h) l z (n' ⧺ r)) q (subst (λ z. DerivesPrefix table (row g h) l m z) q' a)), e', k2 y)
  cut _ _ x y r w u a = search false_true

  cut_row : (g h : Grammar) (s : Syntax) (x y r : Stream) → and (cuts g) (cuts h) ≡ true → unjoined x ≡ true → some_tree y ≡ true → Derived (row g h) s (x ⧺ r) (y ⧺ r) → Derived (row g h) s x y
  cut_row g h Done x y r w u e (v, f) = let q = same_before x y r f in (plain_stays at_row_end true x r refl u (ap some_tree q ∙ e) v, q)
  cut_row g h (Last b s) x y r w u e (v, a, n) =
      let (c, f, k) = carried table (choose b g h) s (x ⧺ r) (y ⧺ r) a in
      let q = split_off x c y r f in (
        plain_stays at_row_end false x r refl u (ap some_tree q ∙ some_after c y e) v,
        cut (choose b g h) s x y r (choose_cuts b g h w) u a,
        plain_stays at_row_comma false y r refl (unjoined_after c y (ap unjoined (sym q) ∙ u)) e n,
      )
  cut_row g h (More b s sp t) x y r w u e (v, m, a, m', d, i) =
      let (c, f, k) = carried table (choose b g h) s (x ⧺ r) m a in
      let (c1, f1, k1) = carried table (row g h) t m' (y ⧺ r) i in
      let n' = c1 ⧺ y in
      let q' : m' ≡ n' ⧺ r = part_before c1 y m' r f1 in
      let n = punct 44 d.0 sp n' in
      let q : m ≡ n ⧺ r = d.1 ∙ ap (punct 44 d.0 sp) q' in
      let z = split_off x c n r (f ∙ ap (λ v. c ⧺ v) q) in
      let p = after_unjoined x c n m r u f q in (
        plain_stays at_row_end false x r refl u (ap some_tree z ∙ some_after c n refl) v,
        n,
        cut (choose b g h) s x n r (choose_cuts b g h w) u (subst (λ v. Derived (choose b g h) s (x ⧺ r) v) q a),
        n',
        (d.0, refl),
        cut_row g h t n' y r w (and_right (or (no d.0) (some_tree n')) _ p) e (subst (λ v. Derived (row g h) t v (y ⧺ r)) q' i),
      )
  cut_row g h _ x y r w u e a = elim a [ ]

-- ---- the last shown token of a value is no mark that is joined to what follows
abbrev spaced : Grammar → Bool
spaced empty = true
spaced (token b k) = true
spaced (mark b cs) = true
spaced lifetime = true
spaced (g & h) = and (spaced g) (spaced h)
spaced (when l then g else h) = and (spaced g) (spaced h)
spaced (inside d g) = true
spaced (raw d) = true
spaced (either g h) = and (spaced g) (spaced h)
spaced (one_of ks) = all_of spaced_of ks
spaced (rule k) = spaced_of k
spaced (such q g) = spaced g
spaced (shaped j g) = spaced g
spaced unshown = true
spaced (ordered g h) = and (spaced g) (spaced h)
spaced _ = false

spaced_hold : (k : Rule) → spaced_of k ≡ true → spaced (table k) ≡ true
spaced_hold k = by_implied (spaced_of k) _ (of_every_rule (λ k. implies (spaced_of k) (spaced (table k))) refl refl k)

choose_spaced : (b : Bool) (g h : Grammar) → and (spaced g) (spaced h) ≡ true → spaced (choose b g h) ≡ true
choose_spaced true g h w = and_left (spaced g) _ w
choose_spaced false g h w = and_right (spaced g) _ w

mutual
  pub shown_unjoined : (g : Grammar) (s : Syntax) (ts r : Stream) → spaced g ≡ true → Derived g s ts r → unjoined (show (value_of s)) ≡ true
  shown_unjoined empty Nothing ts r w a = refl
  shown_unjoined (token b k) (Token x sp) ts r w a = refl
  shown_unjoined (mark b cs) (Mark xs) ts r w a = unjoined_spell xs end refl
  shown_unjoined lifetime (Lifetime sp x sq) ts r w a = refl
  shown_unjoined (g & h) (Both s t) ts r w (m, a, b) = unjoined_append (show (value_of s)) (show (value_of t)) (shown_unjoined g s ts m (and_left (spaced g) _ w) a) (shown_unjoined h t m r (and_right (spaced g) _ w) b)
  shown_unjoined (when l then g else h) (Left s) ts r w (v, a) = shown_unjoined g s ts r (and_left (spaced g) _ w) a
  shown_unjoined (when l then g else h) (Right s) ts r w (v, a) = shown_unjoined h s ts r (and_right (spaced g) _ w) a
  shown_unjoined (inside d g) (Group d' o c s) ts r w a = refl
  shown_unjoined (raw d) (Raw d' o c i) ts r w a = refl
  shown_unjoined (either g h) (Left s) ts r w a = shown_unjoined g s ts r (and_left (spaced g) _ w) a
  shown_unjoined (either g h) (Right s) ts r w a = shown_unjoined h s ts r (and_right (spaced g) _ w) a
  shown_unjoined (one_of ks) (Case k s) ts r w (e, a) = shown_unjoined (table k) s ts r (spaced_hold k (one_said spaced_of k ks e w)) a
  shown_unjoined (rule k) (Node s) ts r w a = shown_unjoined (table k) s ts r (spaced_hold k w) a
  shown_unjoined (such q g) (Such s) ts r w (e, a) = shown_unjoined g s ts r w a
  shown_unjoined (shaped j g) (Shaped i s) ts r w (e, a) = ap unjoined (sum_shape show_sum i (value_of s)) ∙ shown_unjoined g s ts r w a
  shown_unjoined unshown (Unshown s) ts r w a = refl
  shown_unjoined (ordered g h) (Order xs l ys) ts r w (m, e, d, m', a, e', d') =
      unjoined_spell xs (show (value_of l) ⧺ spell ys end) (unjoined_append (show (value_of l)) (spell ys end) (row_unjoined g h l m m' w a) (unjoined_spell ys end refl))
  shown_unjoined _ _ ts r w a = search false_true

  row_unjoined : (g h : Grammar) (s : Syntax) (ts r : Stream) → and (spaced g) (spaced h) ≡ true → Derived (row g h) s ts r → unjoined (show (value_of s)) ≡ true
  row_unjoined g h Done ts r w a = refl
  row_unjoined g h (Last b s) ts r w (v, a, n) = shown_unjoined (choose b g h) s ts r (choose_spaced b g h w) a
  row_unjoined g h (More b s sp t) ts r w (v, m, a, m', d, i) =
      unjoined_append (show (value_of s)) (punct 44 false sp (show (value_of t))) (shown_unjoined (choose b g h) s ts m (choose_spaced b g h w) a) (row_unjoined g h t m' r w i)
  row_unjoined g h _ ts r w a = elim a [ ]
