-- LISTS UP TO THE END: the parser agrees with the grammar. (The proof is in the specs, since Meanings cites it.)
use Rattle.std.proofs.Common.{◌≡◌, ◌≢◌, ℕ, zero, suc, ◌<◌, ◌≤◌, Bool, true, false, List, [], ◌∷◌, Option, Some, None, ◌⊎◌, inl, inr, refl, sym, ap, ◌∙◌, subst, arith}
use Rattle.syn_grammar.specs.Tokens.{Stream, end, no, ended, visible}
use Rattle.syn_grammar.specs.Grammar.{Syntax, Nothing, Node, Left, Right, Both}
use Rattle.syn_grammar.specs.Take.{Out, Parser, left, sees}
use Rattle.syn_grammar.specs.Run.{wrap, and_then, branch}
use Rattle.syn_grammar.specs.Promises.{itself}
use Rattle.syn_grammar.proofs.Looks.{sees_ended}
use Rattle.syn_grammar.proofs.Takes.{end_known, end_found, end_least}
use Rattle.syn_grammar.proofs.Run.{Falls}
use Rattle.syn_tokens.specs.Lists.{Sequence}
use Rattle.syn_tokens.specs.Listing.{list_of}
use Rattle.syn_parse.specs.Terminated.{terminated_step, terminated_for, terminated, DerivesList}

-- ONE STEP

abbrev pub Shorter : Parser → Type 0
Shorter q = (ts : Stream) (x : Syntax × Stream) → q ts ≡ Some x → left x.1 < left ts

-- two lists are the same if they are after their first elements
same_step : (p q others others' : Parser) (ts : Stream) → Falls p → Shorter q → ((us : Stream) → left us < left ts → others us ≡ others' us) → terminated_step p q others ts ≡ terminated_step p q others' ts
same_step p q others others' ts falls shorter u = ap (λ o. wrap Node (branch (sees ended ts) (Some (Nothing, ts)) o)) (element (p ts) refl)
  where
    following : (y : Syntax × Stream) → left y.1 ≤ left ts → (o : Out) → q y.1 ≡ o → and_then o others ≡ and_then o others'
    following y h None e = refl
    following y h (Some z) e = ap (wrap (Both z.0)) (u z.1 (omega (arith, h, shorter y.1 z e)))

    element : (o : Out) → p ts ≡ o → and_then o (λ r. branch (no (sees ended r)) (and_then (q r) others) (Some (Nothing, r))) ≡ and_then o (λ r. branch (no (sees ended r)) (and_then (q r) others') (Some (Nothing, r)))
    element None e = refl
    element (Some y) e = ap (λ o. wrap (Both y.0) (branch (no (sees ended y.1)) o (Some (Nothing, y.1)))) (following y (falls ts y e) (q y.1) refl)

-- any sufficient depth gives the same list
same_lists : (p q : Parser) → Falls p → Shorter q → (n m : ℕ) (ts : Stream) → left ts < n → left ts < m → terminated_for n p q ts ≡ terminated_for m p q ts
unfolding terminated_for
same_lists p q falls shorter zero m ts h k = absurd (omega (arith, h))
same_lists p q falls shorter (suc n) zero ts h k = absurd (omega (arith, k))
same_lists p q falls shorter (suc n) (suc m) ts h k =
    same_step p q (terminated_for n p q) (terminated_for m p q) ts falls shorter (λ us l. same_lists p q falls shorter n m us (omega (arith, h, l)) (omega (arith, k, l)))

terminated_are : (p q : Parser) → Falls p → Shorter q → (ts : Stream) → terminated p q ts ≡ terminated_step p q (terminated p q) ts
unfolding terminated terminated_for
terminated_are p q falls shorter ts =
    same_step p q (terminated_for (left ts) p q) (terminated p q) ts falls shorter
    (λ us l. same_lists p q falls shorter (left ts) (suc (left us)) us (omega (arith, l)) (omega arith))

-- a list is nothing, or an element and what follows it
pub record IsTerminated (p q : Parser) : Type 0 where
  pub is : (ts : Stream) → terminated p q ts ≡ terminated_step p q (terminated p q) ts

pub terminated_is : (p q : Parser) → Falls p → Shorter q → IsTerminated p q
terminated_is p q falls shorter = record { is = terminated_are p q falls shorter }

-- an element with its separator, and the others
pub terminated_more : {T P : Type 0} (v : T → Syntax) (w : P → Syntax) (p q : Parser) → IsTerminated p q → (ts : Stream) (x : T) (y : P) (m n : Stream) →
    sees ended ts ≡ false → p ts ≡ Some (v x, m) → sees ended m ≡ false → q m ≡ Some (w y, n) →
    terminated p q ts ≡ wrap (λ s. Node (Right (Both (v x) (Left (Both (w y) s))))) (terminated p q n)
terminated_more v w p q law ts x y m n a b c d = law.is ts ∙ rw (a, b) (rw (c, d) (go (terminated p q n)))
  where
    go : (o : Out) → wrap Node (wrap Right (wrap (Both (v x)) (wrap Left (wrap (Both (w y)) o)))) ≡ wrap (λ s. Node (Right (Both (v x) (Left (Both (w y) s))))) o
    go None = refl
    go (Some p) = refl

-- THE PARSER AGREES WITH THE GRAMMAR

-- an element, and then the end
record Lone (p : Parser) (ts : Stream) (x : Syntax × Stream) : Type 0 where
  first : Syntax × Stream
  begun : sees ended ts ≡ false
  read : p ts ≡ Some first
  ends : sees ended first.1 ≡ true
  is : x ≡ (Node (Right (Both first.0 (Right Nothing))), first.1)

-- an element, a separator and others
record Followed (p q others : Parser) (ts : Stream) (x : Syntax × Stream) : Type 0 where
  first : Syntax × Stream
  separator : Syntax × Stream
  rest : Syntax × Stream
  read : p ts ≡ Some first
  separated : q first.1 ≡ Some separator
  proceeds : others separator.1 ≡ Some rest
  is : x ≡ (Node (Right (Both first.0 (Left (Both separator.0 rest.0)))), rest.1)

Stepped : (p q others : Parser) (ts : Stream) (x : Syntax × Stream) → Type 0
Stepped p q others ts x = ((sees ended ts ≡ true) × (x ≡ (Node (Left Nothing), ts))) ⊎ (Lone p ts x ⊎ Followed p q others ts x)

inv_step : (p q others : Parser) (ts : Stream) (x : Syntax × Stream) → terminated_step p q others ts ≡ Some x → Stepped p q others ts x
unfolding Stepped
inv_step p q others ts x e = begun (sees ended ts) refl e
  where
    following : Parser
    following r = branch (no (sees ended r)) (and_then (q r) others) (Some (Nothing, r))

    rest : (y z : Syntax × Stream) → p ts ≡ Some y → q y.1 ≡ Some z → (o : Out) → others z.1 ≡ o → wrap Node (wrap Right (wrap (Both y.0) (wrap Left (wrap (Both z.0) o)))) ≡ Some x → Followed p q others ts x
    rest y z f g None i k = absurd (cc k)
    rest y z f g (Some t) i k = record { first = y; separator = z; rest = t; read = f; separated = g; proceeds = i; is = cc }

    separated : (y : Syntax × Stream) → p ts ≡ Some y → (o : Out) → q y.1 ≡ o → wrap Node (wrap Right (wrap (Both y.0) (wrap Left (and_then o others)))) ≡ Some x → Followed p q others ts x
    separated y f None g k = absurd (cc k)
    separated y f (Some z) g k = rest y z f g (others z.1) refl k

    after : sees ended ts ≡ false → (y : Syntax × Stream) → p ts ≡ Some y → (b : Bool) → sees ended y.1 ≡ b → wrap Node (wrap Right (wrap (Both y.0) (branch (no b) (and_then (q y.1) others) (Some (Nothing, y.1))))) ≡ Some x →
        Lone p ts x ⊎ Followed p q others ts x
    after h y f true l k = inl (record { first = y; begun = h; read = f; ends = l; is = cc })
    after h y f false l k = inr (separated y f (q y.1) refl k)

    element : sees ended ts ≡ false → (o : Out) → p ts ≡ o → wrap Node (wrap Right (and_then o following)) ≡ Some x → Lone p ts x ⊎ Followed p q others ts x
    element h None f k = absurd (cc k)
    element h (Some y) f k = after h y f (sees ended y.1) refl k

    begun : (b : Bool) → sees ended ts ≡ b → wrap Node (branch b (Some (Nothing, ts)) (and_then (p ts) following)) ≡ Some x → Stepped p q others ts x
    begun true h k = inl (h, cc)
    begun false h k = inr (element h (p ts) refl k)

ended_is : sees ended end ≡ true
ended_is = sees_ended end ∙ end_found

pub is_ended : (ts : Stream) → visible ts ≡ true → sees ended ts ≡ true → ts ≡ end
is_ended ts v h = end_known ts v (sym (sees_ended ts) ∙ h)

not_ended : (ts : Stream) → visible ts ≡ true → ts ≢ end → sees ended ts ≡ false
not_ended ts v n = go (sees ended ts) refl
  where
    go : (b : Bool) → sees ended ts ≡ b → sees ended ts ≡ false
    go true e = absurd (n (is_ended ts v e))
    go false e = e

not_end : (ts : Stream) → sees ended ts ≡ false → ts ≢ end
not_end ts h e = cc (sym h ∙ ap (sees ended) e ∙ ended_is)

same_tree : (s t : Syntax) (r m : Stream) → ◌≡◌ {A = Syntax × Stream} (s, r) (t, m) → s ≡ t
same_tree s t r m e = ap (λ (y : Syntax × Stream). y.0) e

same_rest : (s t : Syntax) (r m : Stream) → ◌≡◌ {A = Syntax × Stream} (s, r) (t, m) → r ≡ m
same_rest s t r m e = ap (λ (y : Syntax × Stream). y.1) e

same_both : (s t : Syntax) (r m : Stream) → s ≡ t → r ≡ m → ◌≡◌ {A = Out} (Some (s, r)) (Some (t, m))
same_both s t r m e f = ap (λ z. Some (z, r)) e ∙ ap (λ z. Some (t, z)) f

-- it leaves fewer tokens, so the stream was not empty
some_left : (ts r m : Stream) → visible ts ≡ true → left m < left r → left r ≤ left ts → ts ≢ end
some_left ts r m k h l e = let f : left ts ≡ left end = ap left e in omega (arith, h, l, f, end_least m)

-- the parser computes what the relation derives, on visible streams; it never leaves more tokens, and leaves visible ones
pub record Law (p : Parser) (D : Syntax → Stream → Stream → Type 0) : Type 0 where
  pub reported : (ts : Stream) (s : Syntax) (r : Stream) → visible ts ≡ true → p ts ≡ Some (s, r) → D s ts r
  pub found : (ts : Stream) (s : Syntax) (r : Stream) → visible ts ≡ true → D s ts r → p ts ≡ Some (s, r)
  pub falls : Falls p
  pub seen : (s : Syntax) (ts r : Stream) → D s ts r → visible ts ≡ true → visible r ≡ true

module _ (p q : Parser) (E S : Syntax → Stream → Stream → Type 0) (lp : Law p E) (lq : Law q S) (law : IsTerminated p q) where
  step_of : (ts : Stream) (x : Syntax × Stream) → terminated p q ts ≡ Some x → Stepped p q (terminated p q) ts x
  step_of ts x e = inv_step p q (terminated p q) ts x (sym (law.is ts) ∙ e)

  lone_known : (ts : Stream) (y : Syntax × Stream) → visible ts ≡ true → p ts ≡ Some y → sees ended y.1 ≡ true → E y.0 ts end
  lone_known ts y k e l =
      let a : E y.0 ts y.1 = lp.reported ts y.0 y.1 k e in
      let b : y.1 ≡ end = is_ended y.1 (lp.seen y.0 ts y.1 a k) l in
      subst (λ z. E y.0 ts z) b a

  known_none : (ts r : Stream) → visible ts ≡ true → terminated p q ts ≡ Some (Node (Left Nothing), r) → ts ≡ end
  unfolding Stepped
  known_none ts r k e = go (step_of ts (Node (Left Nothing), r) e)
    where
      go : Stepped p q (terminated p q) ts (Node (Left Nothing), r) → ts ≡ end
      go (inl (b, f)) = is_ended ts k b
      go (inr (inl l)) = let f = same_tree _ _ _ _ l.is in absurd (cc f)
      go (inr (inr l)) = let f = same_tree _ _ _ _ l.is in absurd (cc f)

  known_last : (s : Syntax) (ts r : Stream) → visible ts ≡ true → terminated p q ts ≡ Some (Node (Right (Both s (Right Nothing))), r) → (ts ≢ end) × E s ts end
  unfolding Stepped
  known_last s ts r k e = go (step_of ts (Node (Right (Both s (Right Nothing))), r) e)
    where
      lone : (y : Syntax × Stream) → s ≡ y.0 → p ts ≡ Some y → sees ended y.1 ≡ true → E s ts end
      lone y f e l = subst (λ z. E z ts end) (sym f) (lone_known ts y k e l)

      go : Stepped p q (terminated p q) ts (Node (Right (Both s (Right Nothing))), r) → (ts ≢ end) × E s ts end
      go (inl (b, f)) = let f = same_tree _ _ _ _ f in absurd (cc f)
      go (inr (inl l)) = let f = same_tree _ _ _ _ l.is in (not_end ts l.begun, lone l.first (cc f) l.read l.ends)
      go (inr (inr l)) = let f = same_tree _ _ _ _ l.is in absurd (cc f)

  known_more : (s t u : Syntax) (ts r : Stream) → visible ts ≡ true → terminated p q ts ≡ Some (Node (Right (Both s (Left (Both t u)))), r) →
      (m n : Stream) × E s ts m × S t m n × (visible n ≡ true) × (terminated p q n ≡ Some (u, r))
  unfolding Stepped
  known_more s t u ts r k e = go (step_of ts (Node (Right (Both s (Left (Both t u)))), r) e)
    where
      followed : (y z x : Syntax × Stream) → s ≡ y.0 → t ≡ z.0 → u ≡ x.0 → r ≡ x.1 → p ts ≡ Some y → q y.1 ≡ Some z → terminated p q z.1 ≡ Some x →
          (m n : Stream) × E s ts m × S t m n × (visible n ≡ true) × (terminated p q n ≡ Some (u, r))
      followed y z x f f' f'' f3 e e' e'' =
          let a : E y.0 ts y.1 = lp.reported ts y.0 y.1 k e in
          let v : visible y.1 ≡ true = lp.seen y.0 ts y.1 a k in
          let b : S z.0 y.1 z.1 = lq.reported y.1 z.0 z.1 v e' in
          (y.1, z.1, subst (λ w. E w ts y.1) (sym f) a, subst (λ w. S w y.1 z.1) (sym f') b, lq.seen z.0 y.1 z.1 b v, e'' ∙ same_both x.0 u x.1 r (sym f'') (sym f3))

      go : Stepped p q (terminated p q) ts (Node (Right (Both s (Left (Both t u)))), r) →
          (m n : Stream) × E s ts m × S t m n × (visible n ≡ true) × (terminated p q n ≡ Some (u, r))
      go (inl (b, f)) = let f = same_tree _ _ _ _ f in absurd (cc f)
      go (inr (inl l)) = let f = same_tree _ _ _ _ l.is in absurd (cc f)
      go (inr (inr l)) =
          let f = same_tree _ _ _ _ l.is in
          let f' = same_rest _ _ _ _ l.is in
          followed l.first l.separator l.rest (cc f) (cc f) (cc f) f' l.read l.separated l.proceeds

  module _ {T P : Type 0} (v : T → Syntax) (w : P → Syntax) where
    -- a parsed list is such a list
    pub list_known : (l : List (T × P)) (o : Option T) (ts r : Stream) → visible ts ≡ true → terminated p q ts ≡ Some (list_of v w l o, r) → DerivesList E S v w l o ts
    list_known [] None ts r k e = known_none ts r k e
    list_known [] (Some x) ts r k e = known_last (v x) ts r k e
    list_known (x ∷ l) o ts r k e =
        let a = known_more (v x.0) (w x.1) (list_of v w l o) ts r k e in
        (a.0, a.1, a.2, a.3, list_known l o a.1 r a.4 a.5)

    -- such a list is parsed
    pub list_found : Shorter q → (l : List (T × P)) (o : Option T) (ts : Stream) → visible ts ≡ true → DerivesList E S v w l o ts → terminated p q ts ≡ Some (list_of v w l o, end)
    list_found shrinks [] None ts k a =
        let b : sees ended ts ≡ true = ap (sees ended) a ∙ ended_is in
        let e : terminated p q ts ≡ Some (Node (Left Nothing), ts) = law.is ts ∙ rw b refl in
        e ∙ ap (λ z. Some (Node (Left Nothing), z)) a
    list_found shrinks [] (Some x) ts k (n, a) =
        let b : sees ended ts ≡ false = not_ended ts k n in
        let e : p ts ≡ Some (v x, end) = lp.found ts (v x) end k a in
        law.is ts ∙ rw (b, e) (rw ended_is refl)
    list_found shrinks (x ∷ l) o ts k (r, m, a, b, c) =
        let e : p ts ≡ Some (v x.0, r) = lp.found ts (v x.0) r k a in
        let k' : visible r ≡ true = lp.seen (v x.0) ts r a k in
        let e' : q r ≡ Some (w x.1, m) = lq.found r (w x.1) m k' b in
        let k'' : visible m ≡ true = lq.seen (w x.1) r m b k' in
        let d : left m < left r = shrinks r (w x.1, m) e' in
        let d' : left r ≤ left ts = lp.falls ts (v x.0, r) e in
        let f : sees ended ts ≡ false = not_ended ts k (some_left ts r m k d d') in
        let f' : sees ended r ≡ false = not_ended r k' (some_left r r m k' d (omega arith)) in
        terminated_more v w p q law ts x.0 x.1 r m f e f' e'
        ∙ ap (wrap (λ s. Node (Right (Both (v x.0) (Left (Both (w x.1) s)))))) (list_found shrinks l o m k'' c)

  -- if nothing is parsed, nothing is such a list
  pub list_unread : Shorter q → (ts : Stream) → visible ts ≡ true → terminated p q ts ≡ None → (l : Sequence Syntax Syntax) → DerivesList E S itself itself l.pairs l.last ts → ⊥
  list_unread shrinks ts k e l a = absurd (cc (sym e ∙ list_found itself itself shrinks l.pairs l.last ts k a))

  -- ALL THAT IS PARSED IS SUCH A LIST
  abbrev pub AsList : Syntax → Stream → Stream → Type 0
  AsList s ts r = (l : Sequence Syntax Syntax) × (s ≡ list_of itself itself l.pairs l.last) × (r ≡ end) × DerivesList E S itself itself l.pairs l.last ts

  split_of : Shorter q → (n : ℕ) (ts : Stream) (x : Syntax × Stream) → left ts < n → visible ts ≡ true → terminated p q ts ≡ Some x → AsList x.0 ts x.1
  unfolding Stepped
  split_of shrinks zero ts x h k e = absurd (omega (arith, h))
  split_of shrinks (suc n) ts x h k e = go (step_of ts x e) (λ us y l v f. split_of shrinks n us y (omega (arith, h, l)) v f)
    where
      go : Stepped p q (terminated p q) ts x → ((us : Stream) (y : Syntax × Stream) → left us < left ts → visible us ≡ true → terminated p q us ≡ Some y → AsList y.0 us y.1) → AsList x.0 ts x.1
      go (inl (b, f)) ih =
          let a : ts ≡ end = is_ended ts k b in
          let t : x.0 ≡ Node (Left Nothing) = ap (λ (y : Syntax × Stream). y.0) f in
          let u : x.1 ≡ ts = ap (λ (y : Syntax × Stream). y.1) f in
          (record { pairs = []; last = None }, t, u ∙ a, a)
      go (inr (inl l)) ih =
          let a : E l.first.0 ts end = lone_known ts l.first k l.read l.ends in
          let b : l.first.1 ≡ end = is_ended l.first.1 (lp.seen l.first.0 ts l.first.1 (lp.reported ts l.first.0 l.first.1 k l.read) k) l.ends in
          let t : x.0 ≡ Node (Right (Both l.first.0 (Right Nothing))) = ap (λ (y : Syntax × Stream). y.0) l.is in
          let u : x.1 ≡ l.first.1 = ap (λ (y : Syntax × Stream). y.1) l.is in
          (record { pairs = []; last = Some l.first.0 }, t, u ∙ b, (not_end ts l.begun, a))
      go (inr (inr l)) ih =
          let a : E l.first.0 ts l.first.1 = lp.reported ts l.first.0 l.first.1 k l.read in
          let v : visible l.first.1 ≡ true = lp.seen l.first.0 ts l.first.1 a k in
          let b : S l.separator.0 l.first.1 l.separator.1 = lq.reported l.first.1 l.separator.0 l.separator.1 v l.separated in
          let w : visible l.separator.1 ≡ true = lq.seen l.separator.0 l.first.1 l.separator.1 b v in
          let d : left l.separator.1 < left l.first.1 = shrinks l.first.1 l.separator l.separated in
          let d' : left l.first.1 ≤ left ts = lp.falls ts l.first l.read in
          let others = ih l.separator.1 l.rest (omega (arith, d, d')) w l.proceeds in
          let t : x.0 ≡ Node (Right (Both l.first.0 (Left (Both l.separator.0 l.rest.0)))) = ap (λ (y : Syntax × Stream). y.0) l.is in
          let u : x.1 ≡ l.rest.1 = ap (λ (y : Syntax × Stream). y.1) l.is in (
            record { pairs = (l.first.0, l.separator.0) ∷ others.0.pairs; last = others.0.last },
            t ∙ ap (λ z. Node (Right (Both l.first.0 (Left (Both l.separator.0 z))))) others.1,
            u ∙ others.2,
            (l.first.1, l.separator.1, a, b, others.3),
          )

  pub list_split : Shorter q → (ts : Stream) (s : Syntax) (r : Stream) → visible ts ≡ true → terminated p q ts ≡ Some (s, r) → AsList s ts r
  list_split shrinks ts s r k e = split_of shrinks (suc (left ts)) ts (s, r) (omega arith) k e

-- no more tokens remain than before
list_falls_for : (p q : Parser) → Falls p → Shorter q → IsTerminated p q → (n : ℕ) (ts : Stream) (x : Syntax × Stream) → left ts < n → terminated p q ts ≡ Some x → left x.1 ≤ left ts
unfolding Stepped
list_falls_for p q falls shorter law zero ts x h e = absurd (omega (arith, h))
list_falls_for p q falls shorter law (suc n) ts x h e = go (inv_step p q (terminated p q) ts x (sym (law.is ts) ∙ e)) (λ us y l f. list_falls_for p q falls shorter law n us y (omega (arith, h, l)) f)
  where
    go : Stepped p q (terminated p q) ts x → ((us : Stream) (y : Syntax × Stream) → left us < left ts → terminated p q us ≡ Some y → left y.1 ≤ left us) → left x.1 ≤ left ts
    go (inl (b, f)) ih = let a : x.1 ≡ ts = ap (λ (y : Syntax × Stream). y.1) f in rw a (omega arith)
    go (inr (inl l)) ih = let a : x.1 ≡ l.first.1 = ap (λ (y : Syntax × Stream). y.1) l.is in rw a (falls ts l.first l.read)
    go (inr (inr l)) ih =
        let d : left l.separator.1 < left l.first.1 = shorter l.first.1 l.separator l.separated in
        let d' : left l.first.1 ≤ left ts = falls ts l.first l.read in
        let c : left l.rest.1 ≤ left l.separator.1 = ih l.separator.1 l.rest (omega (arith, d, d')) l.proceeds in
        let a : x.1 ≡ l.rest.1 = ap (λ (y : Syntax × Stream). y.1) l.is in
        rw a (omega (arith, d, d', c))

pub list_falls : (p q : Parser) → Falls p → Shorter q → Falls (terminated p q)
list_falls p q falls shorter ts x e = list_falls_for p q falls shorter (terminated_is p q falls shorter) (suc (left ts)) ts x (omega arith) e
