-- The shown tokens of a plan's value are those of its pieces.
use Rattle.std.proofs.Common.{◌≡◌, ℕ, zero, suc, Bool, true, false, List, [], ◌∷◌, Option, Some, None, refl, sym, ap, ◌∙◌, subst, true≢false}
use Rattle.syn_grammar.specs.Tokens.{Stream, end, ◌⧺◌, or, pick}
use Rattle.syn_grammar.specs.Rules.{Rule}
use Rattle.syn_grammar.specs.Grammar.{Test, holds, show, Grammar, empty, token, mark, lifetime, ◌&◌, when◌then◌else◌, vanishing, inside, raw, rest_after, either, one_of, rule, such, captured, unshown, supplied, row, ordered, Unshown, Syntax, Nothing, Both, Left, Right, Node, Vanishing, Case, Such, shaped, Impl, generics_before, opt_generics}
use Rattle.syn_grammar.specs.Table.{table}
use Rattle.syn_grammar.specs.Values.{shape}
use Rattle.syn_grammar.specs.Take.{Out, only, sees}
use Rattle.syn_grammar.specs.Run.{parse_form}
use Rattle.syn_grammar.specs.Plan.{Plan, reads, turns, tests, keeps, ends, done, fails, follow, by_test, run_plan, follow_shown, show_plan, shown_out}
use Rattle.syn_grammar.proofs.Sets.{and_left, and_right}
use Rattle.syn_grammar.proofs.FormEquality.{same_test}
use Rattle.syn_grammar.proofs.Streams.{append_end, append_append}
use Rattle.syn_grammar.proofs.Shapes.{show_sum, sum_shape}
use Rattle.syn_grammar.proofs.Known.{Known, clash, noted, some_is}
use Rattle.syn_grammar.proofs.Threads.{Ends, Fits, Frame, Provided, State, Thread, Tried, TriedAll, alive, and_after, and_next, back, beside, bound, calm, chosen, contrary, dead, eat, eat_list, eat_thread, eaten, finish, frames_is, fuel, holding, in_case, in_left, in_node, in_right, in_shape, in_such, in_vanishing, listed, matches, of_kept, of_kind, only_is, paired, passed, passed_state, reading, state_is, step, verdict, with_generics, with_state}

-- ---- THE SHOWN TOKENS of a plan's value are those of its pieces, one after another

-- the shown tokens of the parts that were read, before this
abbrev wrote : List Frame → Stream → Stream
wrote [] x = x
wrote (beside t ∷ k) x = wrote k (show t ⧺ x)
wrote (with_generics t ∷ k) x = wrote k (show t ⧺ x)
wrote (f ∷ k) x = wrote k x

abbrev shown_of : State → Stream
shown_of (reading g k) = wrote k end
shown_of (holding s k) = wrote k (show s)

back_shows : (q : Bool) (k : List Frame) (s : Syntax) → calm q k ≡ true → (q ≡ true → show s ≡ end) → shown_of (back k s) ≡ wrote k (show s)
back_shows q [] s c h = refl
back_shows q (and_next x ∷ k) s c h = ap (wrote k) (append_end (show s))
back_shows q (and_after x ∷ k) s c h = ap (wrote k) (append_end (show s))
back_shows q (in_such t ∷ k) s c h = refl
back_shows q (beside t ∷ k) s c h = back_shows false k (Both t s) c (λ e. absurd (true≢false (sym e)))
back_shows q (with_generics t ∷ k) s c h = back_shows false k (Impl t s) c (λ e. absurd (true≢false (sym e)))
back_shows q (in_vanishing true ∷ k) s c h = back_shows true k (Vanishing true (Right Nothing)) (and_right q (calm true k) c) (λ e. refl) ∙ ap (wrote k) (sym (h (and_left q (calm true k) c)))
back_shows q (in_vanishing false ∷ k) s c h = back_shows q k (Vanishing false s) c h
back_shows q (in_left ∷ k) s c h = back_shows q k (Left s) c h
back_shows q (in_right ∷ k) s c h = back_shows q k (Right s) c h
back_shows q (in_node ∷ k) s c h = back_shows q k (Node s) c h
back_shows q (in_case l ∷ k) s c h = back_shows q k (Case l s) c h
back_shows q (in_shape j ∷ k) s c h = back_shows q k (shape j s) c (λ e. sum_shape show_sum j s ∙ h e) ∙ ap (wrote k) (sum_shape show_sum j s)

no_way : {A : Type 0} → false ≡ true → A
no_way e = absurd (true≢false (sym e))

step_shows : (l : Known) (g : Grammar) (k : List Frame) (t : State) → step l g k ≡ Some t → wrote k end ≡ shown_of t
step_shows l (g & h) k t e = ap shown_of (state_is (reading g (and_next h ∷ k)) t e)
step_shows l (rule r) k t e = ap shown_of (state_is (reading (table r) (in_node ∷ k)) t e)
step_shows l (when c then x else y) k t e = go (clash c false l) (clash c true l) e
  where
    go : (a b : Bool) → chosen a b (reading x (in_left ∷ k)) (reading y (in_right ∷ k)) ≡ Some t → wrote k end ≡ shown_of t
    go true b i = ap shown_of (state_is (reading x (in_left ∷ k)) t i)
    go false true i = ap shown_of (state_is (reading y (in_right ∷ k)) t i)
    go false false i = absurd (cc i)
step_shows l (vanishing b c x) k t e = ap shown_of (state_is (reading (when c then x else empty) (in_vanishing b ∷ k)) t e)
step_shows l empty k t e = let i = only_is (calm true k) (back k Nothing) t e in sym (back_shows true k Nothing i.0 (λ e. refl)) ∙ ap shown_of (state_is (back k Nothing) t i.1)
step_shows l unshown k t e = let i = only_is (calm true k) (back k (Unshown Nothing)) t e in sym (back_shows true k (Unshown Nothing) i.0 (λ e. refl)) ∙ ap shown_of (state_is (back k (Unshown Nothing)) t i.1)
step_shows l (shaped j x) k t e = ap shown_of (state_is (reading x (in_shape j ∷ k)) t e)
step_shows l (such q x) k t e = ap shown_of (state_is (reading x (in_such q ∷ k)) t e)
step_shows l (generics_before x y h) k t e = ap shown_of (state_is (reading (opt_generics x y) (and_after h ∷ k)) t e)
step_shows l (one_of []) k t e = absurd (cc e)
step_shows l (one_of (r ∷ [])) k t e = ap shown_of (state_is (reading (table r) (in_case r ∷ k)) t e)
step_shows l (one_of (r ∷ q ∷ x)) k t e = absurd (cc e)
step_shows l (token b x) k t e = absurd (cc e)
step_shows l (mark b x) k t e = absurd (cc e)
step_shows l lifetime k t e = absurd (cc e)
step_shows l (inside d x) k t e = absurd (cc e)
step_shows l (raw d) k t e = absurd (cc e)
step_shows l (rest_after x) k t e = absurd (cc e)
step_shows l (either x y) k t e = absurd (cc e)
step_shows l (captured x) k t e = absurd (cc e)
step_shows l (supplied n x y) k t e = absurd (cc e)
step_shows l (row x y) k t e = absurd (cc e)
step_shows l (ordered x y) k t e = absurd (cc e)

eat_shows : (n : ℕ) (l : Known) (a : Grammar) (t : State) (k : List Frame) → eat n l a t ≡ Some k → (shown_of t ≡ wrote k end) × (calm false k ≡ true)
eat_shows zero l a t k e = absurd (cc e)
eat_shows (suc n) l a (holding s j) k e = absurd (cc e)
eat_shows (suc n) l a (reading g j) k e = go (matches a g) (eat_shows n l a) e
  where
    further : (o : Option State) → step l g j ≡ o → ((t : State) (k : List Frame) → eat n l a t ≡ Some k → (shown_of t ≡ wrote k end) × (calm false k ≡ true)) → bound o (eat n l a) ≡ Some k → (wrote j end ≡ wrote k end) × (calm false k ≡ true)
    further None p f q = absurd (cc q)
    further (Some t) p f q = let i = f t k q in (step_shows l g j t p ∙ i.0, i.1)

    go : (v : Bool) → ((t : State) (k : List Frame) → eat n l a t ≡ Some k → (shown_of t ≡ wrote k end) × (calm false k ≡ true)) → pick v (only (calm false j) (Some j)) (bound (step l g j) (eat n l a)) ≡ Some k → (wrote j end ≡ wrote k end) × (calm false k ≡ true)
    go true f q = let i = only_is (calm false j) j k q in let u = frames_is j k i.1 in (ap (λ z. wrote z end) u, ap (calm false) (sym u) ∙ i.0)
    go false f q = further (step l g j) refl f q

finish_shows : (n : ℕ) (l : Known) (t : State) (s : Syntax) → finish n l t ≡ Some s → shown_of t ≡ show s
finish_shows zero l t s e = absurd (cc e)
finish_shows (suc n) l (holding u []) s e = let i : u ≡ s = cc e in ap show i
finish_shows (suc n) l (holding u (f ∷ k)) s e = absurd (cc e)
finish_shows (suc n) l (reading g k) s e = go (step l g k) refl (finish_shows n l) e
  where
    go : (o : Option State) → step l g k ≡ o → ((t : State) (s : Syntax) → finish n l t ≡ Some s → shown_of t ≡ show s) → bound o (finish n l) ≡ Some s → wrote k end ≡ show s
    go None p f q = absurd (cc q)
    go (Some t) p f q = step_shows l g k t p ∙ f t s q

wrote_end : (k : List Frame) (x : Stream) → wrote k x ≡ wrote k end ⧺ x
wrote_end [] x = refl
wrote_end (beside t ∷ k) x = wrote_end k (show t ⧺ x) ∙ sym (append_append (wrote k end) (show t) x) ∙ ap (λ z. z ⧺ x) (sym (wrote_end k (show t)) ∙ ap (wrote k) (sym (append_end (show t))))
wrote_end (with_generics t ∷ k) x = wrote_end k (show t ⧺ x) ∙ sym (append_append (wrote k end) (show t) x) ∙ ap (λ z. z ⧺ x) (sym (wrote_end k (show t)) ∙ ap (wrote k) (sym (append_end (show t))))
wrote_end (and_next h ∷ k) x = wrote_end k x
wrote_end (and_after h ∷ k) x = wrote_end k x
wrote_end (in_left ∷ k) x = wrote_end k x
wrote_end (in_right ∷ k) x = wrote_end k x
wrote_end (in_node ∷ k) x = wrote_end k x
wrote_end (in_case r ∷ k) x = wrote_end k x
wrote_end (in_shape j ∷ k) x = wrote_end k x
wrote_end (in_vanishing b ∷ k) x = wrote_end k x
wrote_end (in_such q ∷ k) x = wrote_end k x

-- of each kind that may still be read this was shown
abbrev pub Shown : Stream → List Thread → Type 0
Shown w [] = Unit {0}
Shown w (of_kind t ∷ ths) = (shown_of t ≡ w) × Shown w ths
Shown w (of_kept t ∷ ths) = Shown w ths
Shown w (listed fs ∷ ths) = Shown w ths

abbrev OneShown : Stream → Thread → Type 0
OneShown w (of_kind t) = shown_of t ≡ w
OneShown w t = Unit {0}

one_shown : (w : Stream) (t : Thread) (ths : List Thread) → Shown w (t ∷ ths) → OneShown w t × Shown w ths
one_shown w (of_kind t) ths h = h
one_shown w (of_kept t) ths h = (tt, h)
one_shown w (listed fs) ths h = (tt, h)

then_shown : (w : Stream) (t : Thread) (ths : List Thread) → OneShown w t → Shown w ths → Shown w (t ∷ ths)
then_shown w (of_kind t) ths h i = (h, i)
then_shown w (of_kept t) ths h i = i
then_shown w (listed fs) ths h i = i

eat_thread_shows : (l : Known) (a : Grammar) (t : Thread) (u : Syntax → Thread) (w : Stream) (s : Syntax) → eat_thread l a t ≡ Some u → OneShown w t → OneShown (w ⧺ show s) (u s)
eat_thread_shows l a (of_kind t) u w s e h = go (eat fuel l a t) refl e
  where
    go : (o : Option (List Frame)) → eat fuel l a t ≡ o → bound o (λ k. Some (λ s. of_kind (back k s))) ≡ Some u → OneShown (w ⧺ show s) (u s)
    go None p q = absurd (cc q)
    go (Some k) p q =
        let i = eat_shows fuel l a t k p in
        subst (λ v. OneShown (w ⧺ show s) (v s)) (some_is (λ s. of_kind (back k s)) u q)
        (back_shows false k s i.1 (λ e. no_way e) ∙ wrote_end k (show s) ∙ ap (λ z. z ⧺ show s) (sym i.0 ∙ h))
eat_thread_shows l a (of_kept t) u w s e h = go (eat fuel l a t) e
  where
    go : (o : Option (List Frame)) → bound o (λ k. Some (λ s. of_kept (back k s))) ≡ Some u → OneShown (w ⧺ show s) (u s)
    go None q = absurd (cc q)
    go (Some k) q = subst (λ v. OneShown (w ⧺ show s) (v s)) (some_is (λ s. of_kept (back k s)) u q) tt
eat_thread_shows l a (listed fs) u w s e h = go (eat_list fuel l (a ∷ []) fs) e
  where
    go : (o : Option (List Grammar)) → bound o (λ gs. Some (λ s. listed gs)) ≡ Some u → OneShown (w ⧺ show s) (u s)
    go None q = absurd (cc q)
    go (Some gs) q = subst (λ v. OneShown (w ⧺ show s) (v s)) (some_is (λ s. listed gs) u q) tt

eaten_shows : (l : Known) (a : Grammar) (ths : List Thread) (v : Syntax → List Thread) (w : Stream) (s : Syntax) → eaten l a ths ≡ Some v → Shown w ths → Shown (w ⧺ show s) (v s)
eaten_shows l a [] v w s e h = subst (λ v. Shown (w ⧺ show s) (v s)) (some_is (λ s. []) v e) tt
eaten_shows l a (t ∷ ths) v w s e h = let i = one_shown w t ths h in go (eat_thread l a t) (eaten l a ths) refl refl i.0 (λ x q. eaten_shows l a ths x w s q i.1) e
  where
    go : (o : Option (Syntax → Thread)) (p : Option (Syntax → List Thread)) → eat_thread l a t ≡ o → eaten l a ths ≡ p → OneShown w t → ((x : Syntax → List Thread) → eaten l a ths ≡ Some x → Shown (w ⧺ show s) (x s)) → paired o p ≡ Some v → Shown (w ⧺ show s) (v s)
    go None p i j h f q = absurd (cc q)
    go (Some u) None i j h f q = absurd (cc q)
    go (Some u) (Some x) i j h f q = subst (λ v. Shown (w ⧺ show s) (v s)) (some_is (λ s. u s ∷ x s) v q) (then_shown (w ⧺ show s) (u s) (x s) (eat_thread_shows l a t u w s i h) (f x j))

alive_shows : (l : Known) (ths : List Thread) (w : Stream) → Shown w ths → Shown w (alive l ths)
alive_shows l [] w h = tt
alive_shows l (t ∷ ths) w h = let i = one_shown w t ths h in go (dead l t) i.0 (alive_shows l ths w i.1)
  where
    go : (v : Bool) → OneShown w t → Shown w (alive l ths) → Shown w (pick v (alive l ths) (t ∷ alive l ths))
    go true h i = i
    go false h i = then_shown w t (alive l ths) h i

passed_state_shows : (q : Test) (s : Syntax) (b : Bool) (t u : State) → Tried q s t → passed_state q b t ≡ Some u → shown_of t ≡ shown_of u
passed_state_shows q s b (holding x (in_such p ∷ k)) u (e, f) h =
    let i = only_is (verdict q b p) (back k (Such x)) u h in
    sym (back_shows false k (Such x) (and_right (or (same_test q p) (contrary q p)) (calm false k) f) (λ e. no_way e)) ∙ ap shown_of (state_is (back k (Such x)) u i.1)
passed_state_shows q s b (holding u (and_next x ∷ k)) t w h = elim w [ ]
passed_state_shows q s b (holding u (beside x ∷ k)) t w h = elim w [ ]
passed_state_shows q s b (holding u (in_left ∷ k)) t w h = elim w [ ]
passed_state_shows q s b (holding u (in_right ∷ k)) t w h = elim w [ ]
passed_state_shows q s b (holding u (in_node ∷ k)) t w h = elim w [ ]
passed_state_shows q s b (holding u (in_case x ∷ k)) t w h = elim w [ ]
passed_state_shows q s b (holding u (in_shape x ∷ k)) t w h = elim w [ ]
passed_state_shows q s b (holding u (in_vanishing x ∷ k)) t w h = elim w [ ]
passed_state_shows q s b (holding u (and_after x ∷ k)) t w h = elim w [ ]
passed_state_shows q s b (holding u (with_generics x ∷ k)) t w h = elim w [ ]
passed_state_shows q s b (holding u []) t w h = elim w [ ]
passed_state_shows q s b (reading g k) t w h = elim w [ ]

passed_shows : (q : Test) (s : Syntax) (b : Bool) (ths : List Thread) (w : Stream) → TriedAll q s ths → Shown w ths → Shown w (passed q b ths)
passed_shows q s b [] w u h = tt
passed_shows q s b (of_kind t ∷ ths) w u h = go (passed_state q b t) refl (passed_shows q s b ths w u.1 h.1)
  where
    go : (o : Option State) → passed_state q b t ≡ o → Shown w (passed q b ths) → Shown w (with_state of_kind o (passed q b ths))
    go None e i = i
    go (Some x) e i = (sym (passed_state_shows q s b t x u.0 e) ∙ h.0, i)
passed_shows q s b (of_kept t ∷ ths) w u h = go (passed_state q b t) (passed_shows q s b ths w u.1 h)
  where
    go : (o : Option State) → Shown w (passed q b ths) → Shown w (with_state of_kept o (passed q b ths))
    go None i = i
    go (Some x) i = i
passed_shows q s b (listed fs ∷ ths) w u h = elim u.0 [ ]

ends_show : (s : Syntax) (l : Known) (ths : List Thread) (w m : Stream) → Ends s l ths → Shown w ths → ◌≡◌ {A = Option (Stream × Stream)} (Some (w, m)) (Some (show s, m))
ends_show s l (of_kind t ∷ ths) w m e h = ap {B = Option (Stream × Stream)} (λ z. Some (z, m)) (sym h.0 ∙ finish_shows fuel l t s e)
ends_show s l (of_kept t ∷ ths) w m e h = elim e [ ]
ends_show s l (listed fs ∷ ths) w m e h = elim e [ ]
ends_show s l [] w m e h = elim e [ ]

pub fits_shows : (p : Plan) (l : Known) (ths : List Thread) (k : Rule) (ts w m : Stream) → Fits p l ths → Shown w ths → show_plan p ts w m ≡ shown_out (run_plan p k ts m)
fits_shows (reads g f) l ths k ts w m e h = go (eaten l g ths) refl e (λ s v r i j. fits_shows (f s) [] (v s) k ts (w ⧺ show s) r i j)
  where
    go : (o : Option (Syntax → List Thread)) → eaten l g ths ≡ o → Provided o (λ v. (s : Syntax) → Fits (f s) [] (v s)) →
        ((s : Syntax) (v : Syntax → List Thread) (r : Stream) → Fits (f s) [] (v s) → Shown (w ⧺ show s) (v s) → show_plan (f s) ts (w ⧺ show s) r ≡ shown_out (run_plan (f s) k ts r)) →
        follow_shown (λ s r. show_plan (f s) ts (w ⧺ show s) r) (parse_form g m) ≡ shown_out (follow (λ s r. run_plan (f s) k ts r) (parse_form g m))
    go None p i ih = elim i [ ]
    go (Some v) p i ih = which (parse_form g m)
      where
        which : (o : Out) → follow_shown (λ s r. show_plan (f s) ts (w ⧺ show s) r) o ≡ shown_out (follow (λ s r. run_plan (f s) k ts r) o)
        which None = refl
        which (Some x) = ih x.0 v x.1 (i x.0) (eaten_shows l g ths v w x.0 p h)
fits_shows (turns c p q) l ths k ts w m e h =
    go (sees c m) (fits_shows p (noted c true l) (alive (noted c true l) ths) k ts w m e.0 (alive_shows (noted c true l) ths w h)) (fits_shows q (noted c false l) (alive (noted c false l) ths) k ts w m e.1 (alive_shows (noted c false l) ths w h))
  where
    go : (v : Bool) → show_plan p ts w m ≡ shown_out (run_plan p k ts m) → show_plan q ts w m ≡ shown_out (run_plan q k ts m) → pick v (show_plan p ts w m) (show_plan q ts w m) ≡ shown_out (by_test v (run_plan p k ts m) (run_plan q k ts m))
    go true f g = f
    go false f g = g
fits_shows (tests t s p q) l ths k ts w m e h =
    go (holds t s) (fits_shows p l (passed t true ths) k ts w m e.1.0 (passed_shows t s true ths w e.0 h)) (fits_shows q l (passed t false ths) k ts w m e.1.1 (passed_shows t s false ths w e.0 h))
  where
    go : (v : Bool) → show_plan p ts w m ≡ shown_out (run_plan p k ts m) → show_plan q ts w m ≡ shown_out (run_plan q k ts m) → pick v (show_plan p ts w m) (show_plan q ts w m) ≡ shown_out (by_test v (run_plan p k ts m) (run_plan q k ts m))
    go true f g = f
    go false f g = g
fits_shows (keeps p) l ths k ts w m e h = fits_shows p l ths k ts w m e.1 h
fits_shows (ends s) l ths k ts w m e h = ends_show s l ths w m e h
fits_shows done l ths k ts w m e h = refl
fits_shows fails l ths k ts w m e h = refl
