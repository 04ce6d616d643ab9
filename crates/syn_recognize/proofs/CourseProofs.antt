-- What is written on a course is what is written of what its plan reads.
use Rattle.std.proofs.Common.{◌≡◌, Bool, true, false, Option, [], Some, None, refl, sym, ap, ◌∙◌, subst}
use Rattle.syn_grammar.specs.Tokens.{Stream, end, ◌⧺◌, pick, Look}
use Rattle.syn_grammar.specs.Rules.{Rule}
use Rattle.syn_grammar.specs.Grammar.{Syntax, Grammar, empty, ◌&◌, when◌then◌else◌, one_of}
use Rattle.syn_grammar.specs.Take.{Out, Parser, sees, before}
use Rattle.syn_grammar.specs.Run.{parse_form}
use Rattle.syn_grammar.specs.Plan as plan
use Rattle.syn_grammar.specs.Plan.{Plan, follow, by_test, run_plan, kept_as}
use Rattle.syn_grammar.proofs.Streams.{append_end, append_append}
use Rattle.syn_recognize.specs.Within.{first, second}
use Rattle.syn_recognize.specs.PrintedRows.{way}
use Rattle.syn_recognize.specs.Written.{Written, adds, changed, drops, drops_in}
use Rattle.syn_recognize.specs.Copies.{Copy, Reached, Refused, Stuck, copied, next, copy_form, capturing}
use Rattle.syn_recognize.proofs.GuessedCourses.{Fair, Leads, copy_course, copy_kept, leads_same}
use Rattle.syn_recognize.specs.Course.{Course, reads, turns, rooted, rest, kept, lists}
use Rattle.syn_tokens.specs.Building.{Building, added}
use Rattle.syn_grammar.specs.Shape.{untagged as no-tag}
use Rattle.syn_grammar.specs.Values.{untag}
use Rattle.syn_recognize.proofs.Copied.{empty_is, then_is, when_is}
use Rattle.syn_recognize.proofs.Ways.{way_shape}
use Rattle.syn_recognize.proofs.Writes.{adds_more, adds_nothing}

-- A FORM is read as a plan that doesn't store verbatim: the output is what was written (i), and then the text of the plan's value
abbrev pub Flat : Bool → Grammar → Plan → Stream → Stream → Type 0
Flat a g (plan.reads h f) i m = (g ≡ first g & second g) × ((parse_form (first g) ≡ parse_form h) × ((s : Syntax) (r : Stream) → parse_form h m ≡ Some (s, r) → Flat a (second g) (f s) (i ⧺ way a s) r))
Flat a g (plan.turns c p q) i m = (g ≡ when c then first g else second g) × ((sees c m ≡ true → Flat a (first g) p i m) × (sees c m ≡ false → Flat a (second g) q i m))
Flat a g (plan.ends s) i m = (g ≡ empty) × (way a s ≡ i)
Flat a g plan.fails i m = g ≡ one_of []
Flat a g (plan.tests t s p q) i m = ⊥
Flat a g (plan.keeps p) i m = ⊥
Flat a g plan.done i m = ⊥

module _ (k : Rule) (b : Stream) (w : Written) where
  pub flat_is : (g : Grammar) (p : Plan) (i m : Stream) → Flat w.printing g p i m → copy_form g (adds w i) m ≡ copied w (run_plan p k b m)
  unfolding adds copy_form
  flat_is g (plan.reads h f) i m e =
      ap (λ x. copy_form x (adds w i) m) e.0 ∙ then_is (first g) (second g) (adds w i) m
      ∙ ap (λ (z : Parser). next (copied (adds w i) (z m)) (copy_form (second g))) e.1.0 ∙ go (parse_form h m) (λ s r q. flat_is (second g) (f s) (i ⧺ way w.printing s) r (e.1.1 s r q))
    where
      go : (o : Out) → ((s : Syntax) (r : Stream) → o ≡ Some (s, r) → copy_form (second g) (adds w (i ⧺ way w.printing s)) r ≡ copied w (run_plan (f s) k b r)) → next (copied (adds w i) o) (copy_form (second g)) ≡ copied w (follow (λ s r. run_plan (f s) k b r) o)
      go None ih = refl
      go (Some x) ih = ap (λ v. copy_form (second g) v x.1) (adds_more w i (way w.printing x.0)) ∙ ih x.0 x.1 refl
  flat_is g (plan.turns c p q) i m e =
      ap (λ x. copy_form x (adds w i) m) e.0 ∙ when_is c (first g) (second g) (adds w i) m ∙ go (sees c m) (λ s. flat_is (first g) p i m (e.1.0 s)) (λ s. flat_is (second g) q i m (e.1.1 s))
    where
      go : (v : Bool) → (v ≡ true → copy_form (first g) (adds w i) m ≡ copied w (run_plan p k b m)) → (v ≡ false → copy_form (second g) (adds w i) m ≡ copied w (run_plan q k b m)) →
          pick v (copy_form (first g) (adds w i) m) (copy_form (second g) (adds w i) m) ≡ copied w (by_test v (run_plan p k b m) (run_plan q k b m))
      go true x y = x refl
      go false x y = y refl
  flat_is g (plan.ends s) i m e = ap (λ x. copy_form x (adds w i) m) e.0 ∙ empty_is (adds w i) m ∙ ap (λ z. Reached (adds w z) m) (sym e.1)
  flat_is g plan.fails i m e = ap (λ x. copy_form x (adds w i) m) e
  flat_is g (plan.tests t s p q) i m e = absurd e
  flat_is g (plan.keeps p) i m e = absurd e
  flat_is g plan.done i m e = absurd e

-- A form is read as a plan that stores verbatim
abbrev pub Kept : Grammar → Plan → Type 0
Kept g (plan.reads h f) = (g ≡ first g & second g) × ((parse_form (first g) ≡ parse_form h) × ((s : Syntax) → Kept (second g) (f s)))
Kept g (plan.turns c p q) = (g ≡ when c then first g else second g) × (Kept (first g) p × Kept (second g) q)
Kept g (plan.keeps p) = Kept g p
Kept g plan.done = g ≡ empty
Kept g plan.fails = g ≡ one_of []
Kept g (plan.tests t s p q) = ⊥
Kept g (plan.ends s) = ⊥

way_kept : (a : Bool) (k : Rule) (b r : Stream) → way a (kept_as k b r) ≡ before b r
way_kept true k b r = refl
way_kept false k b r = refl

module _ (k : Rule) (b : Stream) (u : Written) where
  pub kept_is : (g : Grammar) (p : Plan) (w : Written) (m : Stream) → Kept g p → next (copy_form g w m) (capturing u b) ≡ copied u (run_plan p k b m)
  unfolding copy_form
  kept_is g (plan.reads h f) w m e =
      ap (λ x. next (copy_form x w m) (capturing u b)) e.0 ∙ ap (λ x. next x (capturing u b)) (then_is (first g) (second g) w m)
      ∙ ap (λ (z : Parser). next (next (copied w (z m)) (copy_form (second g))) (capturing u b)) e.1.0 ∙ go (parse_form h m) (λ s r. kept_is (second g) (f s) (adds w (way w.printing s)) r (e.1.1 s))
    where
      go : (o : Out) → ((s : Syntax) (r : Stream) → next (copy_form (second g) (adds w (way w.printing s)) r) (capturing u b) ≡ copied u (run_plan (f s) k b r)) → next (next (copied w o) (copy_form (second g))) (capturing u b) ≡ copied u (follow (λ s r. run_plan (f s) k b r) o)
      go None ih = refl
      go (Some x) ih = ih x.0 x.1
  kept_is g (plan.turns c p q) w m e =
      ap (λ x. next (copy_form x w m) (capturing u b)) e.0 ∙ ap (λ x. next x (capturing u b)) (when_is c (first g) (second g) w m) ∙ go (sees c m) (kept_is (first g) p w m e.1.0) (kept_is (second g) q w m e.1.1)
    where
      go : (v : Bool) → next (copy_form (first g) w m) (capturing u b) ≡ copied u (run_plan p k b m) → next (copy_form (second g) w m) (capturing u b) ≡ copied u (run_plan q k b m) →
          next (pick v (copy_form (first g) w m) (copy_form (second g) w m)) (capturing u b) ≡ copied u (by_test v (run_plan p k b m) (run_plan q k b m))
      go true x y = x
      go false x y = y
  kept_is g (plan.keeps p) w m e = kept_is g p w m e
  kept_is g plan.done w m e =
      ap (λ x. next (copy_form x w m) (capturing u b)) e ∙ ap (λ x. next x (capturing u b)) (empty_is w m) ∙ ap (λ z. Reached (adds u z) m) (sym (way_kept u.printing k b m))
  kept_is g plan.fails w m e = ap (λ x. next (copy_form x w m) (capturing u b)) e
  kept_is g (plan.tests t s p q) w m e = absurd e
  kept_is g (plan.ends s) w m e = absurd e

-- where what is written is dropped, nothing is added at the end
dropped : (u : Written) (b : Stream) → drops u ≡ true → (o : Copy) → ((v : Written) (r : Stream) → o ≡ Reached v r → v ≡ u) → next o (capturing u b) ≡ o
dropped u b e (Reached v r) h = ap (λ z. Reached z r) (adds_nothing u (before b r) e ∙ sym (h v r refl))
dropped u b e Refused h = refl
dropped u b e Stuck h = refl

written_in : Written → Copy → Written
written_in u (Reached v r) = v
written_in u _ = u

same_written : (u : Written) → drops u ≡ true → (g : Grammar) (m : Stream) (v : Written) (r : Stream) → copy_form g u m ≡ Reached v r → v ≡ u
unfolding copy_form written_in
same_written u e g m v r = go (parse_form g m)
  where
    go : (o : Out) → copied u o ≡ Reached v r → v ≡ u
    go None q = sym (ap (written_in u) q)
    go (Some p) q = sym (ap (written_in u) q) ∙ adds_nothing u (way u.printing p.0) e

-- WHAT A COURSE PROMISES of a plan: after what was written (i), where the guess is that it is not stored verbatim; and where the guess is
-- that it is
module _ (k : Rule) (b : Stream) (w : Written) where
  abbrev pub Written-as : Course → Plan → Option Bool → Stream → Stream → Type 0
  Written-as d p l i m = Leads (copied w (run_plan p k b m)) (copy_course d l (adds w i) m)

  abbrev pub Kept-as : Course → Plan → Written → Stream → Type 0
  Kept-as d p v m = Leads (copied w (run_plan p k b m)) (next (copy_kept d v m) (capturing w b))

  -- a piece, and what follows it
  pub reads_written : (g h : Grammar) (d : Course) (f : Syntax → Plan) (l : Option Bool) (i m : Stream) → parse_form g ≡ parse_form h →
      ((s : Syntax) (r : Stream) → parse_form h m ≡ Some (s, r) → Written-as d (f s) l (i ⧺ way w.printing s) r) → Written-as (reads g d) (plan.reads h f) l i m
  unfolding copy_form adds
  reads_written g h d f l i m e ih =
      subst (λ (z : Parser). Leads (copied w (run_plan (plan.reads h f) k b m)) (next (copied (adds w i) (z m)) (copy_course d l))) (sym e) (go (parse_form h m) ih)
    where
      go : (o : Out) → ((s : Syntax) (r : Stream) → o ≡ Some (s, r) → Written-as d (f s) l (i ⧺ way w.printing s) r) → Leads (copied w (follow (λ s r. run_plan (f s) k b r) o)) (next (copied (adds w i) o) (copy_course d l))
      go None ih = refl
      go (Some x) ih = subst (λ v. Leads (copied w (run_plan (f x.0) k b x.1)) (copy_course d l v x.1)) (sym (more x.0)) (ih x.0 x.1 refl)
        where
          more : (s : Syntax) → adds (adds w i) (way (adds w i).printing s) ≡ adds w (i ⧺ way w.printing s)
          more s = adds_more w i (way w.printing s)

  pub turns_written : (c : Look) (d e : Course) (p q : Plan) (l : Option Bool) (i m : Stream) → (sees c m ≡ true → Written-as d p l i m) → (sees c m ≡ false → Written-as e q l i m) → Written-as (turns c d e) (plan.turns c p q) l i m
  turns_written c d e p q l i m x y = go (sees c m) x y
    where
      go : (v : Bool) → (v ≡ true → Written-as d p l i m) → (v ≡ false → Written-as e q l i m) →
          Leads (copied w (by_test v (run_plan p k b m) (run_plan q k b m))) (pick v (copy_course d l (adds w i) m) (copy_course e l (adds w i) m))
      go true x y = x refl
      go false x y = y refl

  pub rest_written : (g : Grammar) (p : Plan) (l : Option Bool) (i m : Stream) → Flat w.printing g p i m → Written-as (rest g) p l i m
  rest_written g p None i m e = leads_same (copied w (run_plan p k b m)) (copy_form g (adds w i) m) (sym (flat_is k b w g p i m e))
  rest_written g p (Some true) i m e = tt
  rest_written g p (Some false) i m e = leads_same (copied w (run_plan p k b m)) (copy_form g (adds w i) m) (sym (flat_is k b w g p i m e))

  pub kept_written : (g : Grammar) (p : Plan) (l : Option Bool) (i m : Stream) → Kept g p → Written-as (kept g) p l i m
  unfolding adds
  kept_written g p l i m e = subst (λ v. Leads (copied w (run_plan p k b m)) (pick v (copy_form g (adds w i) m) Stuck)) (drops_still w i) (go (drops w) refl)
    where
      still : (o : Option Building) (i : Stream) → drops_in o ≡ drops_in (changed (λ b. added b i) o)
      still None i = refl
      still (Some o) i = refl

      drops_still : (w : Written) (i : Stream) → drops w ≡ drops (adds w i)
      drops_still w i = still w.out i

      go : (v : Bool) → drops w ≡ v → Leads (copied w (run_plan p k b m)) (pick v (copy_form g (adds w i) m) Stuck)
      go true x =
          subst (λ v. Leads (copied w (run_plan p k b m)) (copy_form g v m)) (sym (adds_nothing w i x))
          (leads_same (copied w (run_plan p k b m)) (copy_form g w m) (sym (kept_is k b w g p w m e) ∙ dropped w b x (copy_form g w m) (same_written w x g m)))
      go false x = tt

  pub reads_kept : (g h : Grammar) (d : Course) (f : Syntax → Plan) (v : Written) (m : Stream) → parse_form g ≡ parse_form h →
      ((s : Syntax) (r : Stream) (v : Written) → parse_form h m ≡ Some (s, r) → Kept-as d (f s) v r) → Kept-as (reads g d) (plan.reads h f) v m
  unfolding copy_form
  reads_kept g h d f v m e ih =
      subst (λ (z : Parser). Leads (copied w (run_plan (plan.reads h f) k b m)) (next (next (copied v (z m)) (copy_kept d)) (capturing w b))) (sym e) (go (parse_form h m) ih)
    where
      go : (o : Out) → ((s : Syntax) (r : Stream) (v : Written) → o ≡ Some (s, r) → Kept-as d (f s) v r) → Leads (copied w (follow (λ s r. run_plan (f s) k b r) o)) (next (next (copied v o) (copy_kept d)) (capturing w b))
      go None ih = refl
      go (Some x) ih = ih x.0 x.1 (adds v (way v.printing x.0)) refl

  pub turns_kept : (c : Look) (d e : Course) (p q : Plan) (v : Written) (m : Stream) → (sees c m ≡ true → Kept-as d p v m) → (sees c m ≡ false → Kept-as e q v m) → Kept-as (turns c d e) (plan.turns c p q) v m
  turns_kept c d e p q v m x y = go (sees c m) x y
    where
      go : (z : Bool) → (z ≡ true → Kept-as d p v m) → (z ≡ false → Kept-as e q v m) →
          Leads (copied w (by_test z (run_plan p k b m) (run_plan q k b m))) (next (pick z (copy_kept d v m) (copy_kept e v m)) (capturing w b))
      go true x y = x refl
      go false x y = y refl

-- A COURSE does what a plan does, after what was written (i) and at a stream (m). Where they differ in form, a premise says that they
-- agree.
pub record Meets (a : Bool) (d : Course) (p : Plan) (i m : Stream) : Type 0 where
  pub written : (k : Rule) (b : Stream) (w : Written) → w.printing ≡ a → (l : Option Bool) → Fair a l → Written-as k b w d p l i m
  pub all_kept : (k : Rule) (b : Stream) (w : Written) → w.printing ≡ a → (v : Written) → Kept-as k b w d p v m

abbrev pub Goes : Bool → Course → Plan → Stream → Stream → Type 0
Goes a (rest g) p i m = Flat a g p i m
Goes a (kept g) p i m = Kept g p
Goes a (reads g d) (plan.reads h f) i m = (parse_form g ≡ parse_form h) × ((s : Syntax) (r : Stream) → parse_form h m ≡ Some (s, r) → Goes a d (f s) (i ⧺ way a s) r)
Goes a (turns c d e) (plan.turns h p q) i m = (c ≡ h) × ((sees h m ≡ true → Goes a d p i m) × (sees h m ≡ false → Goes a e q i m))
Goes a (turns c d e) (plan.reads h f) i m = Meets a (turns c d e) (plan.reads h f) i m
Goes a (rooted d e) p i m = Meets a (rooted d e) p i m
Goes a (lists d) p i m = Meets a (lists d) p i m
Goes a _ _ i m = ⊥

module _ (k : Rule) (b : Stream) (w : Written) where
  pub goes_written : (d : Course) (p : Plan) (l : Option Bool) (i m : Stream) → Fair w.printing l → Goes w.printing d p i m → Written-as k b w d p l i m
  goes_written (rest g) p l i m fair e = rest_written k b w g p l i m e
  goes_written (kept g) p l i m fair e = kept_written k b w g p l i m e
  goes_written (reads g d) (plan.reads h f) l i m fair e = reads_written k b w g h d f l i m e.0 (λ s r q. goes_written d (f s) l (i ⧺ way w.printing s) r fair (e.1 s r q))
  goes_written (turns c d e') (plan.turns h p q) l i m fair e =
      subst (λ z. Written-as k b w (turns z d e') (plan.turns h p q) l i m) (sym e.0) (turns_written k b w h d e' p q l i m (λ s. goes_written d p l i m fair (e.1.0 s)) (λ s. goes_written e' q l i m fair (e.1.1 s)))
  goes_written (turns c d e') (plan.reads h f) l i m fair e = e.written k b w refl l fair
  goes_written (rooted d e') p l i m fair e = e.written k b w refl l fair
  goes_written (lists d) p l i m fair e = e.written k b w refl l fair
  goes_written _ _ l i m fair e = absurd e

  pub goes_kept : (d : Course) (p : Plan) (i : Stream) (v : Written) (m : Stream) → Goes w.printing d p i m → Kept-as k b w d p v m
  goes_kept (rest g) p i v m e = tt
  goes_kept (kept g) p i v m e = leads_same (copied w (run_plan p k b m)) (next (copy_form g v m) (capturing w b)) (sym (kept_is k b w g p v m e))
  goes_kept (reads g d) (plan.reads h f) i v m e = reads_kept k b w g h d f v m e.0 (λ s r z q. goes_kept d (f s) (i ⧺ way w.printing s) z r (e.1 s r q))
  goes_kept (turns c d e') (plan.turns h p q) i v m e =
      subst (λ z. Kept-as k b w (turns z d e') (plan.turns h p q) v m) (sym e.0) (turns_kept k b w h d e' p q v m (λ s. goes_kept d p i v m (e.1.0 s)) (λ s. goes_kept e' q i v m (e.1.1 s)))
  goes_kept (turns c d e') (plan.reads h f) i v m e = e.all_kept k b w refl v
  goes_kept (rooted d e') p i v m e = e.all_kept k b w refl v
  goes_kept (lists d) p i v m e = e.all_kept k b w refl v
  goes_kept _ _ i v m e = absurd e

-- WHAT THE PARTS OF A VALUE WRITE, one after the other

pub data Parts : Type 0 where
  none : Parts
  piece : Syntax → Parts
  untagged : Syntax → Parts  -- the value of a piece without the mark that it has no tag
  both : Parts → Parts → Parts

abbrev pub following : Bool → Stream → Parts → Stream
following a i none = i
following a i (piece s) = i ⧺ way a s
following a i (untagged s) = i ⧺ way a s
following a i (both x y) = following a (following a i x) y

abbrev pub text : Bool → Parts → Stream
text a none = end
text a (piece s) = way a s
text a (untagged s) = way a (untag s)
text a (both x y) = text a x ⧺ text a y

pub text_after : (a : Bool) (i : Stream) (x : Parts) → i ⧺ text a x ≡ following a i x
text_after a i none = append_end i
text_after a i (piece s) = refl
text_after a i (untagged s) = ap (λ z. i ⧺ z) (way_shape no-tag a s)
text_after a i (both x y) = sym (append_append i (text a x) (text a y)) ∙ ap (λ z. z ⧺ text a y) (text_after a i x) ∙ text_after a (following a i x) y
