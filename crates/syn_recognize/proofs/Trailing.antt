-- What an expression was read from ends with braces exactly where its tree does.
use Rattle.std.proofs.Common.{◌≡◌, ◌+◌, ◌-◌, ◌<◌, ℕ, suc, Bool, true, false, List, [], ◌∷◌, Some, refl, sym, ap, ◌∙◌, true≢false, arith}
use Rattle.syn_grammar.specs.Tokens.{Stream, end, leaf, punct, group, ident, ◌⧺◌, and, pick}
use Rattle.syn_grammar.specs.Rules.{whole_expression}
use Rattle.syn_grammar.specs.Grammar.{Syntax, Nothing, Token, Mark, Lifetime, Both, Left, Right, Node, Group, Raw, Case, Such, Shaped, Unshown, Order, Spelled, vacant, ends_brace, trailing_brace, Grammar, empty, token, mark, lifetime, ◌&◌, when◌then◌else◌, inside, raw, either, one_of, rule, such, shaped, unshown, ordered, vanishing, rest_after, captured, supplied, row, generics_before, DerivesPrefix}
use Rattle.syn_grammar.specs.Table.{table}
use Rattle.syn_grammar.specs.Take.{before, first}
use Rattle.syn_grammar.specs.Run.{parse_rule}
use Rattle.syn_grammar.proofs.Sets.{and_left, and_right}
use Rattle.syn_grammar.proofs.Streams.{append_append}
use Rattle.syn_grammar.proofs.Extend.{carried}
use Rattle.syn_grammar.proofs.Takes.{before_is}
use Rattle.syn_grammar.proofs.Means.{means, holds_value}
use Rattle.syn_tokens.specs.Cursors.{before_next}
use Rattle.syn_tokens.specs.declared.stream.cursor.TokenTreeRef.{TokenTreeRef}
use Rattle.syn_tokens.specs.declared.stream.cursor.TokenTreeRef.TheVariants as N
use Rattle.syn_recognize.specs.Trailing.{ends_by, is_brace_group}
use Rattle.syn_recognize.proofs.Ends.{ends_append, settles, known_settles, named, brace_is, raw_is}

-- where nothing was read, no braces were
vacant_ends : (s : Syntax) → vacant s ≡ true → ends_brace s ≡ false
vacant_ends (Both s t) e = go (vacant s) (vacant t) e (vacant_ends s)
  where
    go : (a b : Bool) → and a b ≡ true → (a ≡ true → ends_brace s ≡ false) → pick b (ends_brace s) (ends_brace t) ≡ false
    go true true e h = h refl
    go true false e h = absurd (true≢false (sym e))
    go false b e h = absurd (true≢false (sym e))
vacant_ends (Left s) e = vacant_ends s e
vacant_ends (Right s) e = vacant_ends s e
vacant_ends (Node s) e = vacant_ends s e
vacant_ends (Case k s) e = vacant_ends s e
vacant_ends (Such s) e = vacant_ends s e
vacant_ends (Shaped j s) e = vacant_ends s e
vacant_ends (Group d o c s) e = absurd (true≢false (sym e))
vacant_ends (Raw d o c i) e = absurd (true≢false (sym e))
vacant_ends _ e = refl

-- a mark ends with no braces
abbrev Plain : Stream → Type 0
Plain i = (b : Bool) → ends_by b i ≡ false

mark_ends : (xs : List _) (ts r : Stream) → Spelled xs ts r → (i : Stream) × (ts ≡ i ⧺ r) × Plain i
mark_ends [] ts r h = elim h [ ]
mark_ends (x ∷ []) ts r h = (punct x.0 h.0 x.1 end, h.1, λ b. refl)
mark_ends (x ∷ y ∷ l) ts r h =
    let (i, e, k) = mark_ends (y ∷ l) h.0 r h.2 in
    (punct x.0 true x.1 i, h.1 ∙ ap (punct x.0 true x.1) e, λ b. k false)

-- these trees were read, and the last of them is a group in braces where the syntax tree ends with one
abbrev Reported : Syntax → Stream → Stream → Type 0
Reported s ts r = (i : Stream) × (ts ≡ i ⧺ r) × ((b : Bool) → ends_by b i ≡ pick (vacant s) b (ends_brace s))

reported : (g : Grammar) (s : Syntax) (ts r : Stream) → settles g ≡ true → DerivesPrefix table g s ts r → Reported s ts r
reported empty Nothing ts r w h = (end, h, λ b. refl)
reported (token f k) (Token x sp) ts r w h = (leaf x sp end, h.1, λ b. refl)
reported (mark f cs) (Mark xs) ts r w h = mark_ends xs ts r h.1
reported lifetime (Lifetime sp x sq) ts r w h = (punct 39 true sp (leaf (ident x) sq end), h, λ b. refl)
reported (g & h) (Both s t) ts r w (m, x, y) =
    let (i, e, k) = reported g s ts m (and_left (settles g) _ w) x in
    let (j, f, l) = reported h t m r (and_right (settles g) _ w) y in (
      i ⧺ j,
      e ∙ ap (λ z. i ⧺ z) f ∙ sym (append_append i j r),
      λ b. ends_append b i j ∙ l (ends_by b i) ∙ ap (λ z. pick (vacant t) z (ends_brace t)) (k b) ∙ go (vacant s) (vacant t) b (ends_brace s) (ends_brace t),
    )
  where
    go : (u v b p q : Bool) → pick v (pick u b p) q ≡ pick (and u v) b (pick v p q)
    go true true b p q = refl
    go true false b p q = refl
    go false true b p q = refl
    go false false b p q = refl
reported (when l then g else h) (Left s) ts r w (v, x) = reported g s ts r (and_left (settles g) _ w) x
reported (when l then g else h) (Right s) ts r w (v, x) = reported h s ts r (and_right (settles g) _ w) x
reported (inside d g) (Group d' o c s) ts r w (e, i, f, x) = (group d' o c i end, f, λ b. brace_is d' o c s)
reported (raw d) (Raw d' o c i) ts r w (e, f) = (group d' o c i end, f, λ b. raw_is d' o c i)
reported (either g h) (Left s) ts r w x = reported g s ts r (and_left (settles g) _ w) x
reported (either g h) (Right s) ts r w x = reported h s ts r (and_right (settles g) _ w) x
reported (one_of ks) (Case k s) ts r w (v, x) = reported (table k) s ts r (known_settles k (named ks k v w)) x
reported (rule k) (Node s) ts r w x = reported (table k) s ts r (known_settles k w) x
reported (such q g) (Such s) ts r w (v, x) = reported g s ts r w x
reported (shaped j g) (Shaped i s) ts r w (v, x) = reported g s ts r w x
reported unshown (Unshown s) ts r w h = (end, h.1, λ b. refl)
reported (ordered g h) (Order xs l ys) ts r w (m, n, a, m', d, o, z) =
    let (i, e, k) = mark_ends xs ts m a in
    let c = carried table (row g h) l m m' d in
    let (j, f, q) = mark_ends ys m' r z in (
      i ⧺ (c.0 ⧺ j),
      e ∙ ap (λ v. i ⧺ v) (c.1 ∙ ap (λ v. c.0 ⧺ v) f ∙ sym (append_append c.0 j r)) ∙ sym (append_append i (c.0 ⧺ j) r),
      λ b. ends_append b i (c.0 ⧺ j) ∙ ends_append (ends_by b i) c.0 j ∙ q (ends_by (ends_by b i) c.0),
    )
reported (vanishing b c g) s ts r w h = absurd (true≢false (sym w))
reported (rest_after cs) s ts r w h = absurd (true≢false (sym w))
reported (captured g) s ts r w h = absurd (true≢false (sym w))
reported (supplied n p t) s ts r w h = absurd (true≢false (sym w))
reported (row g z) s ts r w h = absurd (true≢false (sym w))
reported (generics_before x y z) s ts r w h = absurd (true≢false (sym w))
reported g s ts r w h = elim h [ ]

pub trailing_brace_read : (ts : Stream) (s : Syntax) (r : Stream) → parse_rule whole_expression ts ≡ Some (s, r) → ends_by false (before ts r) ≡ ends_brace s
trailing_brace_read ts s r e =
    let (t, d, v) = (means whole_expression ts s r).0 e in
    let (i, f, k) = reported (rule whole_expression) t ts r refl d in
    ap (ends_by false) (before_is ts i r f) ∙ k false ∙ go (vacant t) (ends_brace t) (vacant_ends t) ∙ sym (holds_value trailing_brace t) ∙ ap ends_brace v
  where
    go : (u b : Bool) → (u ≡ true → b ≡ false) → pick u false b ≡ b
    go true b h = sym (h refl)
    go false b h = refl

-- ONE TREE AFTER ANOTHER

-- of the first trees, by the next of them and the others
pub next_ends : (b : Bool) (n i : ℕ) (t : TokenTreeRef) (ts r : Stream) → i < n → ts ≡ before_next t r → ends_by b (first (n - i) ts) ≡ ends_by (is_brace_group t) (first (n - (i + 1)) r)
next_ends b n i t ts r h e =
    let k : n - i ≡ suc (n - (i + 1)) = omega (arith, h) in
    ap (λ m. ends_by b (first m ts)) k ∙ ap (λ z. ends_by b (first (suc (n - (i + 1))) z)) e ∙ go t (n - (i + 1))
  where
    go : (t : TokenTreeRef) (m : ℕ) → ends_by b (first (suc m) (before_next t r)) ≡ ends_by (is_brace_group t) (first m r)
    go (N.Ident x) m = refl
    go (N.Literal x) m = refl
    go (N.Punct p) m = refl
    go (N.Group g) m = refl
