-- What is written aside on a course up to its end is what is written of the form that the course reads. A guess that is wrong says nothing
-- of that form (`GuessedCourses`); what is written aside is what the right one writes.
use Rattle.std.proofs.Common.{◌≡◌, Bool, true, false, Option, Some, None, refl, sym, ap, ap₂, ◌∙◌, subst, true≢false}
use Rattle.syn_grammar.specs.Tokens.{Stream, end, ◌⧺◌, and, pick, at_generics}
use Rattle.syn_grammar.specs.Rules.{for_self_type}
use Rattle.syn_grammar.specs.Grammar.{Vanishing, Grammar, rule}
use Rattle.syn_grammar.specs.Take.{Out, before, sees}
use Rattle.syn_grammar.specs.Run.{parse_form, vanish}
use Rattle.syn_grammar.specs.DecidedByTokens.{roots}
use Rattle.syn_grammar.specs.Leads.{leads_on}
use Rattle.syn_grammar.proofs.Sets.{and_left, and_right}
use Rattle.syn_grammar.proofs.Streams.{append_end, append_append}
use Rattle.syn_tokens.specs.Building.{added}
use Rattle.syn_recognize.specs.PrintedRows.{way}
use Rattle.syn_recognize.specs.Written.{Written, adds, blank, drops, unwritten}
use Rattle.syn_recognize.specs.Copies.{Copy, Reached, Refused, Stuck, copied, next, capturing, joining, copy_form}
use Rattle.syn_recognize.specs.Course.{Course, reads, turns, rooted, followed, rest, kept, lists, led, self_type}
use Rattle.syn_recognize.specs.Courses.{by_roots, copy_aside, copy_dropped, headed, headed_by, no_parameters, printed_lists, shown_generics, trees_in_braces}
use Rattle.syn_recognize.proofs.GuessedCourses.{Leads, copy_course, copy_kept, guessed_generics, guessed_lists, led_by, settled}
use Rattle.syn_recognize.proofs.Writes.{adds_more, adds_nothing}

-- a course that nothing follows, with the generics of an impl at most once, and before all that leads on from them (z: they may still come)
abbrev pub fits : Bool → Course → Bool
fits z (reads g d) = fits z d
fits z (turns c d e) = and (fits z d) (fits z e)
fits z (rooted d e) = and (fits z d) (fits z e)
fits z (followed d g) = false
fits z (rest g) = true
fits z (kept g) = true
fits z (lists d) = and z (fits false d)
fits z (led d) = fits false d
fits z (self_type d) = fits false d

-- WHAT IS GUESSED of an impl's generics without parameters
pub data Mode : Type 0 where
  sure : Mode  -- nothing
  coming : Mode  -- how they are printed, if they come
  pending : Stream → Mode  -- how they are printed, after what was written aside before them

abbrev pub guesses : Mode → Option Bool → Type 0
guesses sure None = Unit {0}
guesses sure (Some x) = ⊥
guesses coming None = ⊥
guesses coming (Some x) = Unit {0}
guesses (pending j) None = ⊥
guesses (pending j) (Some x) = Unit {0}

-- what was written by a guess
abbrev pub text : Mode → Option Bool → Stream → Stream
text sure l i = i
text coming l i = i
text (pending j) None i = i
text (pending j) (Some x) i = (j ⧺ guessed_generics x) ⧺ i

text_more : (m : Mode) (l : Option Bool) (i k : Stream) → text m l i ⧺ k ≡ text m l (i ⧺ k)
text_more sure l i k = refl
text_more coming l i k = refl
text_more (pending j) None i k = refl
text_more (pending j) (Some x) i k = append_append (j ⧺ guessed_generics x) i k

-- what is written aside
abbrev pub aside : Bool → Stream → Written
aside a i = adds (blank a) i

abbrev pub head : Bool → Mode → Option Written
head a sure = None
head a coming = None
head a (pending j) = Some (aside a j)

-- generics may still come
abbrev pub Fits : Bool → Mode → Type 0
Fits a sure = a ≡ false
Fits a coming = a ≡ true
Fits a (pending j) = ⊥

-- a result that isn't stuck is known
copied_leads : (A : Copy) (w : Written) (o : Out) → Leads A (copied w o) → A ≡ copied w o
copied_leads A w None h = h
copied_leads A w (Some p) h = h

then_leads : (A : Copy) (w : Written) (o : Out) (q : Grammar) → Leads A (next (copied w o) (copy_form q)) → A ≡ next (copied w o) (copy_form q)
unfolding copy_form
then_leads A w None q h = h
then_leads A w (Some p) q h = copied_leads A (adds w (way w.printing p.0)) (parse_form q p.1) h

-- what was written aside is appended to the output
joined : (u : Written) (i ts : Stream) → joining u (aside u.printing i) ts ≡ Reached (adds u i) ts
unfolding adds added
joined u i ts = refl

-- to the head
headed_more : (a : Bool) (j k i ts : Stream) → joining (adds (aside a j) k) (aside a i) ts ≡ Reached (aside a ((j ⧺ k) ⧺ i)) ts
unfolding adds added
headed_more a j k i ts = refl

headed_joined : (u : Written) (j i ts : Stream) → next (joining (aside u.printing j) (aside u.printing i) ts) (joining u) ≡ Reached (adds u (j ⧺ i)) ts
unfolding adds added
headed_joined u j i ts = refl

-- A is what is written of the form: u and b are the output and the tokens before it; q is what follows it
module _ (A : Copy) (u : Written) (b : Stream) (q : Grammar) where
  -- by one guess
  abbrev By : Copy → Type 0
  By o = Leads A (next o (copy_form q))

  abbrev Is : Copy → Type 0
  Is o = A ≡ next o (copy_form q)

  -- a piece, and what follows it
  piece : (m : Mode) (o : Out) (i : Stream) (v : Written) (S : Option Bool → Written → Stream → Copy) (K T : Written → Stream → Copy) →
      ((l : Option Bool) → guesses m l → By (next (copied (adds u (text m l i)) o) (S l))) → By (next (next (copied v o) K) (capturing u b)) →
      ((j r : Stream) (w : Written) → ((l : Option Bool) → guesses m l → By (S l (adds u (text m l j)) r)) → By (next (K w r) (capturing u b)) → Is (T (aside u.printing j) r)) →
      Is (next (copied (aside u.printing i) o) T)
  unfolding adds
  piece m None i v S K T x y h = y
  piece m (Some p) i v S K T x y h =
      subst (λ w. Is (T w p.1)) (sym (adds_more (blank u.printing) i (way u.printing p.0)))
      (h (i ⧺ way u.printing p.0) p.1 (adds v (way v.printing p.0))
      (λ l k. subst (λ w. By (S l w p.1)) (adds_more u (text m l i) (way u.printing p.0) ∙ ap (adds u) (text_more m l i (way u.printing p.0))) (x l k)) y)

  -- one of two ways
  chosen : (m : Mode) (c : Bool) (S R : Option Bool → Copy) (K L T U : Copy) → ((l : Option Bool) → guesses m l → By (pick c (S l) (R l))) → By (next (pick c K L) (capturing u b)) →
      (((l : Option Bool) → guesses m l → By (S l)) → By (next K (capturing u b)) → Is T) → (((l : Option Bool) → guesses m l → By (R l)) → By (next L (capturing u b)) → Is U) → Is (pick c T U)
  chosen m true S R K L T U x y f g = f x y
  chosen m false S R K L T U x y f g = g x y

  -- generics would be read here (c), or not: then nothing is known
  led_is : (m : Mode) (c : Bool) (i ts : Stream) (S : Option Bool → Written → Copy) (T : Option Written → Written → Stream → Copy) →
      ((l : Option Bool) → guesses m l → By (led_by l c (λ n. S n (adds u (text m l i))))) →
      ((n : Mode) (j : Stream) → ((l : Option Bool) → guesses n l → By (S l (adds u (text n l j)))) → Is (T (head u.printing n) (aside u.printing j) ts)) →
      Is (headed_by (head u.printing m) c T (aside u.printing i) ts)
  led_is sure c i ts S T x h = h sure i (λ l k. unguessed l k)
    where
      unguessed : (l : Option Bool) → guesses sure l → By (S l (adds u i))
      unguessed None k = x None tt
      unguessed (Some y) k = absurd k
  led_is coming true i ts S T x h = h sure i (λ l k. unguessed l k)
    where
      unguessed : (l : Option Bool) → guesses sure l → By (S l (adds u i))
      unguessed None k = x (Some true) tt
      unguessed (Some y) k = absurd k
  led_is coming false i ts S T x h = h coming i (λ l k. guessed l k)
    where
      guessed : (l : Option Bool) → guesses coming l → By (S l (adds u i))
      guessed None k = absurd k
      guessed (Some y) k = x (Some y) tt
  led_is (pending j) true i ts S T x h = subst (λ o. Is (next o (T None))) (sym (headed_more u.printing j (guessed_generics true) i ts)) (h sure ((j ⧺ guessed_generics true) ⧺ i) (λ l k. unguessed l k))
    where
      unguessed : (l : Option Bool) → guesses sure l → By (S l (adds u ((j ⧺ guessed_generics true) ⧺ i)))
      unguessed None k = x (Some true) tt
      unguessed (Some y) k = absurd k
  led_is (pending j) false i ts S T x h = h (pending j) i (λ l k. guessed l k)
    where
      guessed : (l : Option Bool) → guesses (pending j) l → By (S l (adds u (text (pending j) l i)))
      guessed None k = absurd k
      guessed (Some y) k = x (Some y) tt

  -- it is of a kind
  rest_is : (m : Mode) (g : Grammar) (i ts : Stream) → ((l : Option Bool) → guesses m l → By (settled l (copy_form g (adds u (text m l i)) ts))) →
      Is (next (next (headed (head u.printing m) (aside u.printing i) ts) (joining u)) (copy_form g))
  unfolding copy_form
  rest_is sure g i ts x = then_leads A (adds u i) (parse_form g ts) q (x None tt) ∙ sym (ap (λ o. next (next o (copy_form g)) (copy_form q)) (joined u i ts))
  rest_is coming g i ts x = then_leads A (adds u i) (parse_form g ts) q (x (Some false) tt) ∙ sym (ap (λ o. next (next o (copy_form g)) (copy_form q)) (joined u i ts))
  rest_is (pending j) g i ts x =
      then_leads A (adds u (j ⧺ i)) (parse_form g ts) q (subst (λ k. By (copy_form g (adds u (k ⧺ i)) ts)) (append_end j) (x (Some false) tt))
      ∙ sym (ap (λ o. next (next o (copy_form g)) (copy_form q)) (headed_joined u j i ts))

  -- it is stored verbatim
  kept_is : (g : Grammar) (v : Written) (ts : Stream) → By (next (copy_form g v ts) (capturing u b)) → Is (next (copy_form g unwritten ts) (capturing u b))
  unfolding copy_form
  kept_is g v ts y = go (parse_form g ts) y
    where
      go : (o : Out) → By (next (copied v o) (capturing u b)) → Is (next (copied unwritten o) (capturing u b))
      go None y = y
      go (Some p) y = copied_leads A (adds u (before b p.1)) (parse_form q p.1) y

  -- the generics of an impl, where they are printed: what is read, without parameters or with some
  lists_are : (n : Bool) (o : Out) (i : Stream) (v : Written) (S : Option Bool → Written → Stream → Copy) (K : Written → Stream → Copy) (T : Option Written → Written → Stream → Copy) → u.printing ≡ true →
      ((x : Bool) → By (pick n (next (copied (adds u i) (vanish false o)) (λ w r. S (Some x) (adds w (guessed_generics x)) r)) (next (copied (adds u i) (vanish false o)) (S None)))) →
      By (next (next (copied v o) K) (capturing u b)) →
      ((m : Mode) (j r : Stream) (w : Written) → ((l : Option Bool) → guesses m l → By (S l (adds u (text m l j)) r)) → By (next (K w r) (capturing u b)) → Is (T (head u.printing m) (aside u.printing j) r)) →
      Is (pick n (next (copied (aside u.printing i) (vanish false o)) (λ w r. T (Some w) (blank true) r)) (next (copied (aside u.printing i) (vanish false o)) (T None)))
  unfolding adds added
  lists_are true None i v S K T e x y h = y
  lists_are false None i v S K T e x y h = y
  lists_are true (Some p) i v S K T e x y h =
      subst (λ w. Is (T (Some w) (blank true) p.1)) (sym (adds_more (blank u.printing) i s))
      (subst (λ c. Is (T (Some (aside u.printing (i ⧺ s))) (blank c) p.1)) e (h (pending (i ⧺ s)) end p.1 (adds v (way v.printing p.0)) (λ l k. guessed l k) y))
    where
      s : Stream
      s = way u.printing (Vanishing false p.0)

      guessed : (l : Option Bool) → guesses (pending (i ⧺ s)) l → By (S l (adds u (text (pending (i ⧺ s)) l end)) p.1)
      guessed None k = absurd k
      guessed (Some z) k =
          subst (λ w. By (S (Some z) w p.1))
          (ap (λ w. adds w (guessed_generics z)) (adds_more u i s) ∙ adds_more u (i ⧺ s) (guessed_generics z) ∙ ap (adds u) (sym (append_end ((i ⧺ s) ⧺ guessed_generics z)))) (x z)
  lists_are false (Some p) i v S K T e x y h = subst (λ w. Is (T None w p.1)) (sym (adds_more (blank u.printing) i s)) (h sure (i ⧺ s) p.1 (adds v (way v.printing p.0)) (λ l k. unguessed l k) y)
    where
      s : Stream
      s = way u.printing (Vanishing false p.0)

      unguessed : (l : Option Bool) → guesses sure l → By (S l (adds u (i ⧺ s)) p.1)
      unguessed None k = subst (λ w. By (S None w p.1)) (adds_more u i s) (x true)
      unguessed (Some z) k = absurd k

  -- so many guesses at a course, and what is written aside on it
  pub course_is : (d : Course) (m : Mode) (z : Bool) → (z ≡ true → Fits u.printing m) → fits z d ≡ true → (i ts : Stream) (v : Written) →
      ((l : Option Bool) → guesses m l → By (copy_course d l (adds u (text m l i)) ts)) → By (next (copy_kept d v ts) (capturing u b)) → Is (copy_aside u b d (head u.printing m) (aside u.printing i) ts)
  unfolding adds copy_form
  course_is (reads g d) m z e f i ts v x y =
      piece m (parse_form g ts) i v (copy_course d) (copy_kept d) (copy_aside u b d (head u.printing m)) x y (λ j r w. course_is d m z e f j r w)
  course_is (turns c d d') m z e f i ts v x y =
      chosen m (sees c ts) (λ l. copy_course d l (adds u (text m l i)) ts) (λ l. copy_course d' l (adds u (text m l i)) ts) (copy_kept d v ts) (copy_kept d' v ts)
      (copy_aside u b d (head u.printing m) (aside u.printing i) ts) (copy_aside u b d' (head u.printing m) (aside u.printing i) ts) x y
      (course_is d m z e (and_left (fits z d) (fits z d') f) i ts v) (course_is d' m z e (and_right (fits z d) (fits z d') f) i ts v)
  course_is (rooted d d') m z e f i ts v x y =
      piece m (parse_form trees_in_braces ts) i v (λ l. by_roots ts (copy_course d l) (copy_course d' l)) (by_roots ts (copy_kept d) (copy_kept d'))
      (by_roots ts (copy_aside u b d (head u.printing m)) (copy_aside u b d' (head u.printing m))) x y
      (λ j r w s k.
      chosen m (roots false (before ts r)) (λ l. copy_course d l (adds u (text m l j)) r) (λ l. copy_course d' l (adds u (text m l j)) r) (copy_kept d w r) (copy_kept d' w r)
      (copy_aside u b d (head u.printing m) (aside u.printing j) r) (copy_aside u b d' (head u.printing m) (aside u.printing j) r) s k
      (course_is d m z e (and_left (fits z d) (fits z d') f) j r w) (course_is d' m z e (and_right (fits z d) (fits z d') f) j r w))
  course_is (followed d g) m z e f i ts v x y = absurd (true≢false (sym f))
  course_is (rest g) m z e f i ts v x y = rest_is m g i ts x
  course_is (kept g) m z e f i ts v x y = kept_is g v ts y
  course_is (lists d) m z e f i ts v x y = go m (e (and_left z (fits false d) f)) x (λ n j r w. course_is d n false (λ h. absurd (true≢false (sym h))) (and_right z (fits false d) f) j r w)
    where
      printed : (n : Bool) → ((x : Bool) → By (guessed_lists n x (copy_course d) (adds u i) ts)) → u.printing ≡ true →
          ((m : Mode) (j r : Stream) (w : Written) → ((l : Option Bool) → guesses m l → By (copy_course d l (adds u (text m l j)) r)) → By (next (copy_kept d w r) (capturing u b)) → Is (copy_aside u b d (head u.printing m) (aside u.printing j) r)) →
          Is (printed_lists n (copy_aside u b d) None (aside u.printing i) ts)
      printed true x e h = lists_are true (parse_form shown_generics ts) i v (copy_course d) (copy_kept d) (copy_aside u b d) e x y h
      printed false x e h = lists_are false (parse_form shown_generics ts) i v (copy_course d) (copy_kept d) (copy_aside u b d) e x y h

      go : (m : Mode) → Fits u.printing m → ((l : Option Bool) → guesses m l → By (copy_course (lists d) l (adds u (text m l i)) ts)) →
          ((m : Mode) (j r : Stream) (w : Written) → ((l : Option Bool) → guesses m l → By (copy_course d l (adds u (text m l j)) r)) → By (next (copy_kept d w r) (capturing u b)) → Is (copy_aside u b d (head u.printing m) (aside u.printing j) r)) →
          Is (copy_aside u b (lists d) (head u.printing m) (aside u.printing i) ts)
      go sure k x h =
          subst (λ c. Is (pick c (printed_lists (no_parameters ts) (copy_aside u b d) None (aside u.printing i) ts) (next (copy_form shown_generics (aside u.printing i) ts) (copy_aside u b d None)))) (sym k)
          (piece sure (parse_form shown_generics ts) i v (copy_course d) (copy_kept d) (copy_aside u b d None) (λ l g. unguessed l g) y (h sure))
        where
          unguessed : (l : Option Bool) → guesses sure l → By (next (copied (adds u i) (parse_form shown_generics ts)) (copy_course d l))
          unguessed None g = x None tt
          unguessed (Some z) g = absurd g
      go coming k x h =
          subst (λ c. Is (pick c (printed_lists (no_parameters ts) (copy_aside u b d) None (aside u.printing i) ts) (next (copy_form shown_generics (aside u.printing i) ts) (copy_aside u b d None)))) (sym k)
          (printed (no_parameters ts) (λ z. x (Some z) tt) k h)
      go (pending j) k x h = absurd k
  course_is (led d) m z e f i ts v x y =
      led_is m (sees at_generics ts) i ts (λ l w. copy_course d l w ts) (copy_aside u b d) x (λ n j s. course_is d n false (λ h. absurd (true≢false (sym h))) f j ts v s y)
  course_is (self_type d) m z e f i ts v x y =
      led_is m (leads_on ts) i ts (λ l w. next (copy_form (rule for_self_type) w ts) (copy_course d l)) (λ h w r. next (copy_form (rule for_self_type) w r) (copy_aside u b d h)) x
      (λ n j s. piece n (parse_form (rule for_self_type) ts) j v (copy_course d) (copy_kept d) (copy_aside u b d (head u.printing n)) s y (λ k r w. course_is d n false (λ h. absurd (true≢false (sym h))) f k r w))

-- WHERE WHAT IS WRITTEN IS DROPPED, nothing is guessed

still_dropped : (w : Written) (i : Stream) → drops w ≡ true → drops (adds w i) ≡ true
still_dropped w i e = ap drops (adds_nothing w i e) ∙ e

-- after a piece
after_piece : (o : Out) (w : Written) → drops w ≡ true → (S T : Written → Stream → Copy) → ((v : Written) (r : Stream) → drops v ≡ true → S v r ≡ T v r) → next (copied w o) S ≡ next (copied w o) T
after_piece None w e S T h = refl
after_piece (Some p) w e S T h = h (adds w (way w.printing p.0)) p.1 (still_dropped w (way w.printing p.0) e)

pub dropped_is : (d : Course) (w : Written) (ts : Stream) → drops w ≡ true → copy_dropped d w ts ≡ copy_course d None w ts
unfolding copy_form
dropped_is (reads g d) w ts e = after_piece (parse_form g ts) w e (copy_dropped d) (copy_course d None) (dropped_is d)
dropped_is (turns c d d') w ts e = ap₂ (pick (sees c ts)) (dropped_is d w ts e) (dropped_is d' w ts e)
dropped_is (rooted d d') w ts e =
    after_piece (parse_form trees_in_braces ts) w e (by_roots ts (copy_dropped d) (copy_dropped d')) (by_roots ts (copy_course d None) (copy_course d' None))
    (λ v r h. ap₂ (pick (roots false (before ts r))) (dropped_is d v r h) (dropped_is d' v r h))
dropped_is (followed d g) w ts e = ap (λ o. next o (copy_form g)) (dropped_is d w ts e)
dropped_is (rest g) w ts e = refl
dropped_is (kept g) w ts e = sym (ap (λ c. pick c (copy_form g w ts) Stuck) e)
dropped_is (lists d) w ts e = after_piece (parse_form shown_generics ts) w e (copy_dropped d) (copy_course d None) (dropped_is d)
dropped_is (led d) w ts e = dropped_is d w ts e
dropped_is (self_type d) w ts e = after_piece (parse_form (rule for_self_type) ts) w e (copy_dropped d) (copy_course d None) (dropped_is d)

-- a result that is known
abbrev pub Known : Copy → Type 0
Known Stuck = ⊥
Known _ = Unit {0}

known_next : (o : Out) (w : Written) (S : Written → Stream → Copy) → ((v : Written) (r : Stream) → Known (S v r)) → Known (next (copied w o) S)
known_next None w S h = tt
known_next (Some p) w S h = h (adds w (way w.printing p.0)) p.1

known_form : (g : Grammar) (w : Written) (ts : Stream) → Known (copy_form g w ts)
unfolding copy_form
known_form g w ts = go (parse_form g ts)
  where
    go : (o : Out) → Known (copied w o)
    go None = tt
    go (Some p) = tt

known_pick : (c : Bool) (a b : Copy) → Known a → Known b → Known (pick c a b)
known_pick true a b x y = x
known_pick false a b x y = y

known_after : (a : Copy) (g : Grammar) → Known a → Known (next a (copy_form g))
known_after (Reached v r) g h = known_form g v r
known_after Refused g h = tt
known_after Stuck g h = absurd h

pub dropped_known : (d : Course) (w : Written) (ts : Stream) → Known (copy_dropped d w ts)
unfolding copy_form
dropped_known (reads g d) w ts = known_next (parse_form g ts) w (copy_dropped d) (dropped_known d)
dropped_known (turns c d e) w ts = known_pick (sees c ts) (copy_dropped d w ts) (copy_dropped e w ts) (dropped_known d w ts) (dropped_known e w ts)
dropped_known (rooted d e) w ts =
    known_next (parse_form trees_in_braces ts) w (by_roots ts (copy_dropped d) (copy_dropped e))
    (λ v r. known_pick (roots false (before ts r)) (copy_dropped d v r) (copy_dropped e v r) (dropped_known d v r) (dropped_known e v r))
dropped_known (followed d g) w ts = known_after (copy_dropped d w ts) g (dropped_known d w ts)
dropped_known (rest g) w ts = known_form g w ts
dropped_known (kept g) w ts = known_form g w ts
dropped_known (lists d) w ts = known_next (parse_form shown_generics ts) w (copy_dropped d) (dropped_known d)
dropped_known (led d) w ts = dropped_known d w ts
dropped_known (self_type d) w ts = known_next (parse_form (rule for_self_type) ts) w (copy_dropped d) (dropped_known d)

pub leads_known : (A B : Copy) → Leads A B → Known B → A ≡ B
leads_known A (Reached w r) h k = h
leads_known A Refused h k = h
leads_known A Stuck h k = absurd k
