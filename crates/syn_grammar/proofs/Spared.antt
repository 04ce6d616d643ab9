-- A form that spares a word doesn't read it outside of groups: for every table whose rules do as stated.
use Rattle.std.proofs.Common.{◌≡◌, ℕ, Bool, true, false, List, [], ◌∷◌, ◌++◌, refl, sym, ap, ◌∙◌, true≢false, inl, inr}
use Rattle.std.specs.Prelude.{nat_eq}
use Rattle.syn_grammar.specs.Words.{Text, keywords, contextual}
use Rattle.syn_grammar.specs.Tokens.{Span, Leaf, ident, literal, Stream, end, leaf, punct, group, ◌⧺◌, and, no, pick, same_text, one_of_texts, Word, Name, mem, leaf_terminal}
use Rattle.syn_grammar.specs.Rules.{Rule}
use Rattle.syn_grammar.specs.Grammar.{terminals, suits, fits, Kind, Grammar, empty, token, mark, lifetime, ◌&◌, when◌then◌else◌, vanishing, inside, raw, either, one_of, rule, such, captured, unshown, supplied, row, ordered, shaped, generics_before, opt_generics, choose, chars, Spelled, DerivesPrefix, Syntax, Nothing, Token, Mark, Lifetime, Both, Left, Right, Node, Vanishing, Group, Raw, Case, Such, Shaped, Captured, Unshown, Impl, Done, Last, More, Order}
use Rattle.syn_grammar.specs.DecidedByTokens.{is_text, opens_lifetime, no_quote, spares}
use Rattle.syn_grammar.proofs.Sets.{and_left, and_right, no_true, same_text_eq}
use Rattle.syn_grammar.proofs.Streams.{append_append}
use Rattle.syn_grammar.proofs.Alone.{one_said}

-- how often
pub data Often : Type 0 where
  never once more : Often

abbrev pub again : Often → Often
again never = once
again once = more
again more = more

abbrev pub add : Often → Often → Often
add never k = k
add once k = again k
add more k = again (again k)

again_add : (n k : Often) → again (add n k) ≡ add (again n) k
again_add never k = refl
again_add once k = refl
again_add more never = refl
again_add more once = refl
again_add more more = refl

add_add : (a b c : Often) → add a (add b c) ≡ add (add a b) c
add_add never b c = refl
add_add once b c = again_add b c
add_add more b c = ap again (again_add b c) ∙ again_add (again b) c

-- how often the word occurs, groups and lifetimes (true) aside; the last argument says whether a `'` is joined to the next token
abbrev pub count : Bool → Text → Bool → Stream → Often
count a x q end = never
count a x q (leaf y sp m) = pick (and (no q) (is_text x y)) (again (count a x false m)) (count a x false m)
count a x q (punct c j sp m) = count a x (and a (opens_lifetime c j)) m
count a x q (group d o c i m) = count a x false m

-- tokens in which the word occurs so often, whatever follows them
abbrev pub Counts : Bool → Text → Often → Stream → Stream → Type 0
Counts a x n ts r = (c : Stream) × (ts ≡ c ⧺ r) × ((m : Stream) → count a x false (c ⧺ m) ≡ add n (count a x false m))

pub joined : (a : Bool) (x : Text) (n k : Often) (ts m r : Stream) → Counts a x n ts m → Counts a x k m r → Counts a x (add n k) ts r
joined a x n k ts m r (c, e, f) (d, g, h) = (
  c ⧺ d,
  e ∙ ap (λ z. c ⧺ z) g ∙ sym (append_append c d r),
  λ z. ap (count a x false) (append_append c d z) ∙ f (d ⧺ z) ∙ ap (add n) (h z) ∙ add_add n k (count a x false z),
)

pub counts_none : (a : Bool) (x : Text) (ts r : Stream) → ts ≡ r → Counts a x never ts r
counts_none a x ts r e = (end, e, λ m. refl)

pub counts_group : (a : Bool) (x : Text) (ts i r : Stream) (d : _) (o c : Span) → ts ≡ group d o c i r → Counts a x never ts r
counts_group a x ts i r d o c e = (group d o c i end, e, λ m. refl)

not_quote : (c : ℕ) (j a : Bool) → no (nat_eq c 39) ≡ true → and a (opens_lifetime c j) ≡ false
not_quote c true true e = no_true (nat_eq c 39) e
not_quote c true false e = refl
not_quote c false true e = refl
not_quote c false false e = refl

pub counts_spelled : (a : Bool) (x : Text) (xs : List (ℕ × Span)) (ts r : Stream) → no_quote (chars xs) ≡ true → Spelled xs ts r → Counts a x never ts r
counts_spelled a x [] ts r e h = elim h [ ]
counts_spelled a x (y ∷ []) ts r e h = (punct y.0 h.0 y.1 end, h.1, λ m. ap (λ z. count a x z m) (not_quote y.0 h.0 a (and_left (no (nat_eq y.0 39)) _ e)))
counts_spelled a x (y ∷ z ∷ l) ts r e h =
    let (c, f, k) = counts_spelled a x (z ∷ l) h.0 r (and_right (no (nat_eq y.0 39)) _ e) h.2 in
    (punct y.0 true y.1 c, h.1 ∙ ap (punct y.0 true y.1) f, λ m. ap (λ v. count a x v (c ⧺ m)) (not_quote y.0 true a (and_left (no (nat_eq y.0 39)) _ e)) ∙ k m)

module _ (a : Bool) (x : Text) (known : one_of_texts x (keywords ++ contextual) ≡ true) where
  -- no token of this kind is the word
  other_token : (k : Kind) (y : Leaf) → no (mem (Word x) (terminals k)) ≡ true → fits k y ≡ true → is_text x y ≡ false
  other_token k (literal n y) e h = refl
  other_token k (ident y) e h = go (same_text x y) refl
    where
      go : (v : Bool) → same_text x y ≡ v → same_text x y ≡ false
      go false q = q
      go true q =
          let same : leaf_terminal (ident y) ≡ Word x = ap (λ z. leaf_terminal (ident z)) (sym (same_text_eq x y q)) ∙ ap (λ b. pick b (Word x) Name) known in
          absurd (true≢false (sym (and_right (suits k (ident y)) _ h) ∙ ap (λ z. mem z (terminals k)) same ∙ no_true (mem (Word x) (terminals k)) e))

  pub counts_token : (k : Kind) (y : Leaf) (sp : Span) (ts r : Stream) → no (mem (Word x) (terminals k)) ≡ true → fits k y ≡ true → ts ≡ leaf y sp r → Counts a x never ts r
  counts_token k y sp ts r e h f = (leaf y sp end, f, λ m. ap (λ z. pick z (again (count a x false m)) (count a x false m)) (other_token k y e h))

  module _ (said : Rule → Bool) (table : Rule → Grammar) (holds : (k : Rule) → said k ≡ true → spares a said x (table k) ≡ true) where
    abbrev Spared : Stream → Stream → Type 0
    Spared ts r = Counts a x never ts r

    both : (ts m r : Stream) → Spared ts m → Spared m r → Spared ts r
    both ts m r u v = joined a x never never ts m r u v

    choose_spared : (b : Bool) (g h : Grammar) → and (spares a said x g) (spares a said x h) ≡ true → spares a said x (choose b g h) ≡ true
    choose_spared true g h e = and_left (spares a said x g) _ e
    choose_spared false g h e = and_right (spares a said x g) _ e

    and_pair : (p q r : Bool) → and p (and q r) ≡ true → and (and p q) true ≡ true
    and_pair true true r e = refl
    and_pair true false r e = e
    and_pair false q r e = e

    false_true : false ≡ true → ⊥
    false_true e = true≢false (sym e)

    pub spared : (g : Grammar) (s : Syntax) (ts r : Stream) → spares a said x g ≡ true → DerivesPrefix table g s ts r → Counts a x never ts r
    spared empty Nothing ts r e h = counts_none a x ts r h
    spared (token b k) (Token y sp) ts r e h = counts_token k y sp ts r e h.0 h.1
    spared (mark b cs) (Mark xs) ts r e h = counts_spelled a x xs ts r (ap no_quote h.0 ∙ e) h.1
    spared lifetime (Lifetime sp y sq) ts r e h = (punct 39 true sp (leaf (ident y) sq end), h, λ m. ap (λ v. pick (and (no (and v true)) (is_text x (ident y))) (again (count a x false m)) (count a x false m)) e)
    spared (g & h) (Both s t) ts r e (m, u, b) = both ts m r (spared g s ts m (and_left (spares a said x g) _ e) u) (spared h t m r (and_right (spares a said x g) _ e) b)
    spared (when c then g else h) (Left s) ts r e (v, u) = spared g s ts r (and_left (spares a said x g) _ e) u
    spared (when c then g else h) (Right s) ts r e (v, u) = spared h s ts r (and_right (spares a said x g) _ e) u
    spared (vanishing b c g) (Vanishing b' (Left s)) ts r e (v, (w, u)) = spared g s ts r e u
    spared (vanishing b c g) (Vanishing b' (Right Nothing)) ts r e (v, (w, u)) = counts_none a x ts r u
    spared (inside d g) (Group d' o c s) ts r e (p, i, f, u) = counts_group a x ts i r d' o c f
    spared (raw d) (Raw d' o c i) ts r e (p, f) = counts_group a x ts i r d' o c f
    spared (either g h) (Left s) ts r e u = spared g s ts r (and_left (spares a said x g) _ e) u
    spared (either g h) (Right s) ts r e u = spared h s ts r (and_right (spares a said x g) _ e) u
    spared (one_of ks) (Case k s) ts r e (v, u) = spared (table k) s ts r (holds k (one_said said k ks v e)) u
    spared (rule k) (Node s) ts r e u = spared (table k) s ts r (holds k e) u
    spared (such q g) (Such s) ts r e (v, u) = spared g s ts r e u
    spared (shaped j g) (Shaped i s) ts r e (v, u) = spared g s ts r e u
    spared (captured g) (Captured s i) ts r e (v, u) = spared g s ts r e u
    spared unshown (Unshown s) ts r e h = counts_none a x ts r h.1
    spared (supplied z p t) (Both n (Both (Mark xs) s)) ts r e (inl (w, y, sp, c, f, pa, i, q)) = spared t s ts r (and_right (spares a said x p) _ e) q
    spared (supplied z p t) (Both n (Both (Mark xs) s)) ts r e (inr (w, m, pa, f, m', d, q)) =
        both ts m r (spared p n ts m (and_left (spares a said x p) _ e) pa) (both m m' r (counts_spelled a x xs m m' (ap no_quote f) d) (spared t s m' r (and_right (spares a said x p) _ e) q))
    spared (generics_before g h f) (Impl l s) ts r e (m, i, b) =
        both ts m r (spared (opt_generics g h) l ts m (and_pair (spares a said x g) (spares a said x h) _ e) i) (spared f s m r (and_right (spares a said x h) _ (and_right (spares a said x g) _ e)) b)
    spared (row g h) Done ts r e (w, u) = counts_none a x ts r u
    spared (row g h) (Last b s) ts r e (w, u, n) = spared (choose b g h) s ts r (choose_spared b g h e) u
    spared (row g h) (More b s sp t) ts r e (w, m, u, m', d, q) =
        both ts m r (spared (choose b g h) s ts m (choose_spared b g h e) u) (both m m' r (counts_spelled a x ((44, sp) ∷ []) m m' refl d) (spared (row g h) t m' r e q))
    spared (ordered g h) (Order xs l ys) ts r e (m, f, d, m', u, f', d') =
        both ts m r (counts_spelled a x xs ts m (ap no_quote f) d) (both m m' r (spared (row g h) l m m' e u) (counts_spelled a x ys m' r (ap no_quote f') d'))
    spared _ _ ts r e u = search false_true
