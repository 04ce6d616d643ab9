-- The course of an impl after `impl` writes what its plan writes.
use Rattle.std.proofs.Common.{◌≡◌, Bool, true, false, Option, [], ◌∷◌, Some, None, refl, sym, ap, ◌∙◌, subst, true≢false}
use Rattle.syn_grammar.specs.Words.{less, greater, exclamation, w_for}
use Rattle.syn_grammar.specs.Tokens.{Stream, ◌⧺◌, or, pick, at_generics}
use Rattle.syn_grammar.specs.Rules.{Rule, type, type_path, for_self_type, impl_body}
use Rattle.syn_grammar.specs.Grammar.{Syntax, Nothing, Both, Left, Right, Order, Done, Impl, bare, led, renew, show, no_generics, Grammar, empty, mark, word, ◌&◌, when◌then◌else◌, rule, at_row_end}
use Rattle.syn_grammar.specs.Forms.{punctuation}
use Rattle.syn_grammar.specs.Table.{at_brace, at_exclamation, at_for, at_module_path, kept_generics}
use Rattle.syn_grammar.specs.Take.{Out, sees, taken, take_mark, take_token}
use Rattle.syn_grammar.specs.Run.{branch, parse_form, rows, row_opened, row_closed, close_row, marks_of, wrap}
use Rattle.syn_grammar.specs.Plan as plan
use Rattle.syn_grammar.specs.Plan.{Plan, follow, by_test, run_plan}
use Rattle.syn_grammar.specs.ItemPlan.{parts, absent, at_lone_word}
use Rattle.syn_grammar.specs.Leads.{Reads, generics_after, leads_on}
use Rattle.syn_grammar.proofs.Leads.{impl_led}
use Rattle.syn_grammar.proofs.Looks.{sees_word}
use Rattle.syn_grammar.proofs.PlanSteps.{seen_apart}
use Rattle.syn_grammar.proofs.Streams.{append_end, append_append}
use Rattle.syn_recognize.specs.declared.list.List.TheVariants as List-m
use Rattle.syn_recognize.specs.Ordered.{member}
use Rattle.syn_recognize.specs.PrintedRows.{way}
use Rattle.syn_recognize.specs.Written.{Written, adds}
use Rattle.syn_recognize.specs.Copies.{Copy, Refused, copied, next, copy_form, capturing}
use Rattle.syn_recognize.proofs.GuessedCourses.{Fair, Leads, copy_course, copy_kept, guessed_generics, guessed_lists, leads_same, led_by}
use Rattle.syn_recognize.specs.Course.{Course, reads, turns, rest, kept, lists, led as following-generics, self_type}
use Rattle.syn_recognize.specs.Courses.{no_parameters, shown_generics}
use Rattle.syn_recognize.proofs.Writes.{adds_more}
use Rattle.syn_recognize.proofs.Ways.{way_left, way_right, way_nothing}
use Rattle.syn_recognize.proofs.Lists.{none_present}
use Rattle.syn_recognize.proofs.FadingParts.{parameters_never}
use Rattle.syn_recognize.proofs.Drafts.{generics_present, generics_lack}
use Rattle.syn_recognize.proofs.ImplGenerics.{none_absent, none_bare, none_open, none_refused, some_kept}
use Rattle.syn_recognize.proofs.CourseProofs.{Kept, Written-as, Kept-as, Meets, reads_written, turns_written, rest_written, kept_written, reads_kept, turns_kept, kept_is}

-- WHAT IS KNOWN of a guess (of how generics without parameters are printed): it was settled, since generics would be read (z); or they wouldn't so far
abbrev Known : Option Bool → Option Bool → Bool → Type 0
Known None None z = Unit {0}
Known None (Some y) z = ⊥
Known (Some x) None z = (x ≡ true) × (z ≡ true)
Known (Some x) (Some y) z = (x ≡ y) × (z ≡ false)

or_true : (z : Bool) → or z true ≡ true
or_true true = refl
or_true false = refl

or_false : (z : Bool) → or z false ≡ z
or_false true = refl
or_false false = refl

not_taken : (o : Out) → taken o ≡ false → generics_after o ≡ false
not_taken None e = refl
not_taken (Some p) e = absurd (true≢false e)

none_ahead : (m : Stream) → sees at_for m ≡ false → leads_on m ≡ false
none_ahead m e = not_taken (take_token (word w_for) m) (sym (sees_word w_for m) ∙ e)

-- TEXTS, piece by piece
three : (j a b c : Stream) → j ⧺ (a ⧺ (b ⧺ c)) ≡ ((j ⧺ a) ⧺ b) ⧺ c
three j a b c = sym (append_append j a (b ⧺ c)) ∙ sym (append_append (j ⧺ a) b c)

never_text : (a : Bool) (x t : Syntax) → way a (Left (Both x (Left t))) ≡ way a x ⧺ way a t
never_text true x t = refl
never_text false x t = refl

for_text : (a : Bool) (x t f b : Syntax) → way a (Left (Both x (Right (parts (t ∷ f ∷ b ∷ []))))) ≡ way a x ⧺ (way a t ⧺ (way a f ⧺ way a b))
for_text true x t f b = refl
for_text false x t f b = refl

path_text : (a : Bool) (t f b : Syntax) → way a (Right (Left (parts (t ∷ f ∷ b ∷ [])))) ≡ way a t ⧺ (way a f ⧺ way a b)
path_text true t f b = refl
path_text false t f b = refl

type_text : (a : Bool) (t b : Syntax) → way a (Right (Right (Both t b))) ≡ way a t ⧺ way a b
type_text true t b = refl
type_text false t b = refl

-- one more place was seen
seen : (l n : Option Bool) (z v : Bool) (A : Copy) (q : Option Bool → Copy) → Known l n z → ((m : Option Bool) → Known l m (or z v) → Leads A (q m)) → Leads A (led_by n v q)
seen None None z v A q h f = f None tt
seen None (Some y) z v A q h f = absurd h
seen (Some x) None z v A q h f = f None (h.0, ap (λ t. or t v) h.1)
seen (Some x) (Some true) z true A q h f = f None (h.0, or_true z)
seen (Some x) (Some false) z true A q h f = tt
seen (Some x) (Some y) z false A q h f = f (Some y) (h.0, ap (λ t. or t false) h.1)

-- THE GENERICS: what was written of them (j) after what was written before (i); their value, and the guess
abbrev Present : Bool → Option Bool → Syntax → Stream → Stream → Type 0
Present false None g i j = j ≡ i ⧺ way false g
Present false (Some x) g i j = ⊥
Present true None g i j = (bare g ≡ false) × (j ≡ i ⧺ way true g)
Present true (Some x) g i j = (bare g ≡ true) × (j ≡ i ⧺ guessed_generics x)

shown_bare : (b : Bool) (g : Syntax) (x : Bool) → b ≡ true → show (pick b (pick x no_generics (Right Nothing)) (renew g)) ≡ guessed_generics x
shown_bare b g true e = ap (λ v. show (pick v no_generics (renew g))) e
shown_bare b g false e = ap (λ v. show (pick v (Right Nothing) (renew g))) e

shown_some : (b : Bool) (g : Syntax) (x : Bool) → b ≡ false → show (pick b (pick x no_generics (Right Nothing)) (renew g)) ≡ way true g
shown_some b g x e = ap (λ v. show (pick v (pick x no_generics (Right Nothing)) (renew g))) e

-- an impl's generics, and what follows them
impl_text : (a : Bool) (l m : Option Bool) (z : Bool) (g s : Syntax) (i j : Stream) → Present a l g i j → Known l m z → (m ≡ Some true → ⊥) → led (renew s) ≡ z → i ⧺ way a (Impl g s) ≡ j ⧺ way a s
impl_text false None m z g s i j h k n e = sym (append_append i (show g) (show s)) ∙ ap (λ t. t ⧺ show s) (sym h)
impl_text false (Some x) m z g s i j h k n e = absurd h
impl_text true None m z g s i j h k n e =
    ap (λ t. i ⧺ (t ⧺ way true s)) (shown_some (bare g) g (led (renew s)) h.0) ∙ sym (append_append i (way true g) (way true s)) ∙ ap (λ t. t ⧺ way true s) (sym h.1)
impl_text true (Some x) m z g s i j h k n e =
    ap (λ t. i ⧺ (t ⧺ way true s)) (shown_bare (bare g) g (led (renew s)) h.0 ∙ ap guessed_generics (e ∙ sym (guess_is m k n))) ∙ sym (append_append i (guessed_generics x) (way true s)) ∙ ap (λ t. t ⧺ way true s) (sym h.1)
  where
    guess_is : (m : Option Bool) → Known (Some x) m z → (m ≡ Some true → ⊥) → x ≡ z
    guess_is None k n = k.0 ∙ sym k.1
    guess_is (Some true) k n = absurd (n refl)
    guess_is (Some false) k n = k.0 ∙ sym k.1

-- WHAT FOLLOWS THE GENERICS, of an impl that may be stored verbatim, and of one that may not

abbrev body_form : Grammar
body_form = rule impl_body & empty

abbrev optional_self_type : Grammar
optional_self_type = when at_for then rule for_self_type else empty

abbrev after_path : Course
after_path = turns at_for (self_type (rest body_form)) (rest body_form)

abbrev kept_three : Grammar
kept_three = rule type & (rule for_self_type & body_form)

abbrev kept_two : Grammar
kept_two = rule for_self_type & body_form

abbrev for_course : Course
for_course = reads (rule type_path) (self_type (rest body_form))

abbrev plain_course : Course
plain_course = reads (rule type_path) after_path

abbrev for_or_kept : Course
for_or_kept = turns at_module_path for_course (kept kept_three)

abbrev brace_course : Course
brace_course = turns at_brace (rest body_form) for_or_kept

abbrev type_course : Course
type_course = turns at_for (kept kept_two) (rest body_form)

abbrev path_course : Course
path_course = turns at_module_path plain_course (reads (rule type) type_course)

abbrev pub types_course : Course
types_course = turns at_exclamation (reads (mark false exclamation) brace_course) path_course

abbrev brace_alone : Course
brace_alone = turns at_brace (rest body_form) for_course

abbrev path_alone : Course
path_alone = turns at_module_path plain_course (rest (rule type & body_form))

abbrev pub alone_course : Course
alone_course = turns at_exclamation (reads (mark false exclamation) brace_alone) path_alone

-- (by the value of all, from that of the generics and what follows them)
module _ (N : Syntax → Syntax) where
  abbrev ending : Syntax → (Syntax → Syntax) → Plan
  ending g S = plan.reads (rule impl_body) λ b. plan.ends (N (Impl g (S b)))

  abbrev for_type : Syntax → Syntax → Plan
  for_type g x = plan.reads (rule type_path) λ t. plan.reads (rule for_self_type) λ f. ending g (λ b. Left (Both x (Right (parts (t ∷ f ∷ b ∷ [])))))

  abbrev path_plan : Syntax → Plan
  path_plan g = plan.reads (rule type_path) λ t. plan.reads optional_self_type λ f. ending g (λ b. Right (Left (parts (t ∷ f ∷ b ∷ []))))

  abbrev three_kept : Plan
  three_kept = plan.keeps (plan.reads (rule type) λ t. plan.reads (rule for_self_type) λ f. plan.reads (rule impl_body) λ c. plan.done)

  abbrev two_kept : Plan
  two_kept = plan.keeps (plan.reads (rule for_self_type) λ f. plan.reads (rule impl_body) λ c. plan.done)

  abbrev never_plan : Syntax → Syntax → Plan
  never_plan g x = ending g (λ c. Left (Both x (Left c)))

  abbrev for_plan : Syntax → Syntax → Plan
  for_plan g x = plan.turns at_module_path (for_type g x) three_kept

  abbrev brace_plan : Syntax → Syntax → Plan
  brace_plan g x = plan.turns at_brace (never_plan g x) (for_plan g x)

  abbrev end_plan : Syntax → Syntax → Plan
  end_plan g t = ending g (λ c. Right (Right (Both t c)))

  abbrev type_plan : Syntax → Syntax → Plan
  type_plan g t = plan.turns at_for two_kept (end_plan g t)

  abbrev path_or_type : Syntax → Plan
  path_or_type g = plan.turns at_module_path (path_plan g) (plan.reads (rule type) (type_plan g))

  abbrev pub types_plan : Syntax → Plan
  types_plan g = plan.turns at_exclamation (plan.reads (punctuation exclamation) (brace_plan g)) (path_or_type g)

  abbrev brace_alone_plan : Syntax → Syntax → Plan
  brace_alone_plan g x = plan.turns at_brace (never_plan g x) (for_type g x)

  abbrev path_alone_plan : Syntax → Plan
  path_alone_plan g = plan.turns at_module_path (path_plan g) (plan.reads (rule type) (end_plan g))

  abbrev pub alone_plan : Syntax → Plan
  alone_plan g = plan.turns at_exclamation (plan.reads (punctuation exclamation) (brace_alone_plan g)) (path_alone_plan g)

  module _ (k : Rule) (b : Stream) (w : Written) (i : Stream) (H : (z : Syntax) → way w.printing (N z) ≡ i ⧺ way w.printing z) where
    abbrev As : Course → Plan → Option Bool → Stream → Stream → Type 0
    As d p l e m = Written-as k b w d p l e m

    -- the body of an impl, after what was written by then (e)
    body_written : (l n : Option Bool) (z : Bool) (g : Syntax) (S : Syntax → Syntax) (j e m : Stream) → Present w.printing l g i j → Known l n z →
        ((t : Syntax) (r : Stream) → Reads (rule impl_body) m t r → led (renew (S t)) ≡ z) → ((t : Syntax) → j ⧺ way w.printing (S t) ≡ e ⧺ way w.printing t) → As (rest body_form) (ending g S) n e m
    body_written l (Some true) z g S j e m h q f x = tt
    body_written l (Some false) z g S j e m h q f x =
        rest_written k b w body_form (ending g S) (Some false) e m
        (refl, (refl, λ t r y. (refl, H (Impl g (S t)) ∙ impl_text w.printing l (Some false) z g (S t) i j h q (λ u. absurd (cc u)) (f t r y) ∙ x t)))
    body_written l None z g S j e m h q f x =
        rest_written k b w body_form (ending g S) None e m
        (refl, (refl, λ t r y. (refl, H (Impl g (S t)) ∙ impl_text w.printing l None z g (S t) i j h q (λ u. absurd (cc u)) (f t r y) ∙ x t)))

    -- the self type, and the body
    self_written : (l n : Option Bool) (z : Bool) (g : Syntax) (S : Syntax → Syntax → Syntax) (j e m : Stream) → Present w.printing l g i j → Known l n z →
        ((s t : Syntax) (q r : Stream) → Reads (rule for_self_type) m s q → Reads (rule impl_body) q t r → led (renew (S s t)) ≡ or z (leads_on m)) →
        ((s t : Syntax) → j ⧺ way w.printing (S s t) ≡ (e ⧺ way w.printing s) ⧺ way w.printing t) → As (self_type (rest body_form)) (plan.reads (rule for_self_type) λ s. ending g (S s)) n e m
    self_written l n z g S j e m h q f x =
        seen l n z (leads_on m) (copied w (run_plan (plan.reads (rule for_self_type) λ s. ending g (S s)) k b m))
        (λ o. next (copy_form (rule for_self_type) (adds w e) m) (copy_course (rest body_form) o)) q
        (λ o y. reads_written k b w (rule for_self_type) (rule for_self_type) (rest body_form) (λ s. ending g (S s)) o e m refl
        (λ s r u. body_written l o (or z (leads_on m)) g (S s) j (e ⧺ way w.printing s) r h y (λ t v c. f s t r v u c) (λ t. x s t)))

    -- `for` is next or not
    path_written : (l n : Option Bool) (z : Bool) (g : Syntax) (S : Syntax → Syntax → Syntax) (j e m : Stream) → Present w.printing l g i j → Known l n z →
        ((s t : Syntax) (q r : Stream) → Reads optional_self_type m s q → Reads (rule impl_body) q t r → led (renew (S s t)) ≡ or z (leads_on m)) →
        ((s t : Syntax) → j ⧺ way w.printing (S s t) ≡ (e ⧺ way w.printing s) ⧺ way w.printing t) → As after_path (plan.reads optional_self_type λ s. ending g (S s)) n e m
    path_written l n z g S j e m h q f x = go (sees at_for m) refl
      where
        parsed : (v : Bool) → sees at_for m ≡ v → parse_form optional_self_type m ≡ branch v (parse_form (rule for_self_type) m) (Some (Nothing, m))
        parsed v y = ap (λ c. branch c (parse_form (rule for_self_type) m) (Some (Nothing, m))) y

        moved : (o : Out) → follow (λ s r. run_plan (ending g (S s)) k b r) (wrap Left o) ≡ follow (λ s r. run_plan (ending g (S (Left s))) k b r) o
        moved None = refl
        moved (Some p) = refl

        go : (v : Bool) → sees at_for m ≡ v → As after_path (plan.reads optional_self_type λ s. ending g (S s)) n e m
        go true y =
            let parse : parse_form optional_self_type m ≡ wrap Left (parse_form (rule for_self_type) m) = parsed true y in
            let plans : run_plan (plan.reads optional_self_type λ s. ending g (S s)) k b m ≡ run_plan (plan.reads (rule for_self_type) λ s. ending g (S (Left s))) k b m
            = ap (follow (λ s r. run_plan (ending g (S s)) k b r)) parse ∙ moved (parse_form (rule for_self_type) m) in
            subst (λ p. Leads (copied w p) (copy_course after_path n (adds w e) m)) (sym plans)
            (subst (λ c. Leads (copied w (run_plan (plan.reads (rule for_self_type) λ s. ending g (S (Left s))) k b m)) (pick c (copy_course (self_type (rest body_form)) n (adds w e) m) (copy_course (rest body_form) n (adds w e) m))) (sym y)
            (self_written l n z g (λ s. S (Left s)) j e m h q (λ s t c r u d. f (Left s) t c r (parse ∙ ap (wrap Left) u) d) (λ s t. x (Left s) t ∙ ap (λ c. (e ⧺ c) ⧺ way w.printing t) (way_left w.printing s))))
        go false y =
            let parse : parse_form optional_self_type m ≡ Some (Right Nothing, m) = parsed false y in
            let none : leads_on m ≡ false = none_ahead m y in
            subst (λ p. Leads (copied w p) (copy_course after_path n (adds w e) m)) (sym (ap (follow (λ s r. run_plan (ending g (S s)) k b r)) parse))
            (subst (λ c. Leads (copied w (run_plan (ending g (S (Right Nothing))) k b m)) (pick c (copy_course (self_type (rest body_form)) n (adds w e) m) (copy_course (rest body_form) n (adds w e) m))) (sym y)
            (body_written l n z g (S (Right Nothing)) j e m h q
            (λ t r u. f (Right Nothing) t m r parse u ∙ ap (or z) none ∙ or_false z)
            (λ t. x (Right Nothing) t ∙ ap (λ c. (e ⧺ c) ⧺ way w.printing t) (way_right w.printing Nothing ∙ way_nothing w.printing) ∙ ap (λ c. c ⧺ way w.printing t) (append_end e))))

    known_first : (l : Option Bool) → Known l l false
    known_first None = tt
    known_first (Some x) = (refl, refl)

    -- after `!` and a path
    for_written : (l n : Option Bool) (g x : Syntax) (j m r : Stream) → Present w.printing l g i j → Known l n (sees at_generics m) → Reads (punctuation exclamation) m x r →
        As (reads (rule type_path) (self_type (rest body_form))) (for_type g x) n (j ⧺ way w.printing x) r
    for_written l n g x j m r h q u =
        reads_written k b w (rule type_path) (rule type_path) (self_type (rest body_form)) (λ t. plan.reads (rule for_self_type) λ f. ending g (λ c. Left (Both x (Right (parts (t ∷ f ∷ c ∷ [])))))) n (j ⧺ way w.printing x) r refl
        (λ t p v. self_written l n (sees at_generics m) g (λ f c. Left (Both x (Right (parts (t ∷ f ∷ c ∷ []))))) j ((j ⧺ way w.printing x) ⧺ way w.printing t) p h q
        (λ f c o d y z. impl_led.1.0 m r p o d x t f c u v y z)
        (λ f c. ap (λ y. j ⧺ y) (for_text w.printing x t f c) ∙ sym (append_append j (way w.printing x) (way w.printing t ⧺ (way w.printing f ⧺ way w.printing c))) ∙ three (j ⧺ way w.printing x) (way w.printing t) (way w.printing f) (way w.printing c)))

    never_written : (l n : Option Bool) (g x : Syntax) (j m r : Stream) → Present w.printing l g i j → Known l n (sees at_generics m) → Reads (punctuation exclamation) m x r →
        As (rest body_form) (ending g (λ c. Left (Both x (Left c)))) n (j ⧺ way w.printing x) r
    never_written l n g x j m r h q u =
        body_written l n (sees at_generics m) g (λ c. Left (Both x (Left c))) j (j ⧺ way w.printing x) r h q (λ c d y. impl_led.0 m r d x c u y)
        (λ c. ap (λ y. j ⧺ y) (never_text w.printing x c) ∙ sym (append_append j (way w.printing x) (way w.printing c)))

    plain_written : (l n : Option Bool) (g : Syntax) (j m : Stream) → Present w.printing l g i j → Known l n (sees at_generics m) → As (reads (rule type_path) after_path) (path_plan g) n j m
    plain_written l n g j m h q =
        reads_written k b w (rule type_path) (rule type_path) after_path (λ t. plan.reads optional_self_type λ f. ending g (λ c. Right (Left (parts (t ∷ f ∷ c ∷ []))))) n j m refl
        (λ t p v. path_written l n (sees at_generics m) g (λ f c. Right (Left (parts (t ∷ f ∷ c ∷ [])))) j (j ⧺ way w.printing t) p h q
        (λ f c o d y z. impl_led.1.1.0 m p o d t f c v y z)
        (λ f c. ap (λ y. j ⧺ y) (path_text w.printing t f c) ∙ three j (way w.printing t) (way w.printing f) (way w.printing c)))

    type_written : (l n : Option Bool) (g t : Syntax) (j m p : Stream) → Present w.printing l g i j → Known l n (sees at_generics m) → Reads (rule type) m t p →
        As (rest body_form) (ending g (λ c. Right (Right (Both t c)))) n (j ⧺ way w.printing t) p
    type_written l n g t j m p h q v =
        body_written l n (sees at_generics m) g (λ c. Right (Right (Both t c))) j (j ⧺ way w.printing t) p h q (λ c d y. impl_led.1.1.1 m p d t c v y)
        (λ c. ap (λ y. j ⧺ y) (type_text w.printing t c) ∙ sym (append_append j (way w.printing t) (way w.printing c)))

    three_is : Kept kept_three three_kept
    three_is = (refl, (refl, λ t. (refl, (refl, λ f. (refl, (refl, λ c. refl))))))

    two_is : Kept kept_two two_kept
    two_is = (refl, (refl, λ f. (refl, (refl, λ c. refl))))

    types_from : (l n : Option Bool) (g : Syntax) (j m : Stream) → Present w.printing l g i j → Known l n (sees at_generics m) → As types_course (types_plan g) n j m
    types_from l n g j m h q =
        turns_written k b w at_exclamation (reads (mark false exclamation) brace_course) path_course (plan.reads (punctuation exclamation) (brace_plan g)) (path_or_type g) n j m
        (λ s. reads_written k b w (mark false exclamation) (punctuation exclamation) brace_course (brace_plan g) n j m refl
        (λ x r u. turns_written k b w at_brace (rest body_form) for_or_kept (never_plan g x) (for_plan g x) n (j ⧺ way w.printing x) r (λ y. never_written l n g x j m r h q u)
        (λ y. turns_written k b w at_module_path for_course (kept kept_three) (for_type g x) three_kept n (j ⧺ way w.printing x) r (λ z. for_written l n g x j m r h q u)
        (λ z. kept_written k b w kept_three three_kept n (j ⧺ way w.printing x) r three_is))))
        (λ s. turns_written k b w at_module_path plain_course (reads (rule type) type_course) (path_plan g) (plan.reads (rule type) (type_plan g)) n j m (λ y. plain_written l n g j m h q)
        (λ y. reads_written k b w (rule type) (rule type) type_course (type_plan g) n j m refl
        (λ t p v. turns_written k b w at_for (kept kept_two) (rest body_form) two_kept (end_plan g t) n (j ⧺ way w.printing t) p (λ z. kept_written k b w kept_two two_kept n (j ⧺ way w.printing t) p two_is)
        (λ z. type_written l n g t j m p h q v))))

    alone_from : (l n : Option Bool) (g : Syntax) (j m : Stream) → Present w.printing l g i j → Known l n (sees at_generics m) → As alone_course (alone_plan g) n j m
    alone_from l n g j m h q =
        turns_written k b w at_exclamation (reads (mark false exclamation) brace_alone) path_alone (plan.reads (punctuation exclamation) (brace_alone_plan g)) (path_alone_plan g) n j m
        (λ s. reads_written k b w (mark false exclamation) (punctuation exclamation) brace_alone (brace_alone_plan g) n j m refl
        (λ x r u. turns_written k b w at_brace (rest body_form) for_course (never_plan g x) (for_type g x) n (j ⧺ way w.printing x) r (λ y. never_written l n g x j m r h q u) (λ y. for_written l n g x j m r h q u)))
        (λ s. turns_written k b w at_module_path plain_course (rest (rule type & body_form)) (path_plan g) (plan.reads (rule type) (end_plan g)) n j m (λ y. plain_written l n g j m h q) (λ y. last n q))
      where
        last : (n : Option Bool) → Known l n (sees at_generics m) → As (rest (rule type & body_form)) (plan.reads (rule type) λ t. ending g (λ c. Right (Right (Both t c)))) n j m
        last (Some true) q = tt
        last (Some false) q =
            rest_written k b w (rule type & body_form) (plan.reads (rule type) λ t. ending g (λ c. Right (Right (Both t c)))) (Some false) j m (
              refl,
              (
                refl,
                λ t p v. (
                  refl,
                  (
                    refl,
                    λ c r y. (
                      refl,
                      H (Impl g (Right (Right (Both t c)))) ∙ impl_text w.printing l (Some false) (sees at_generics m) g (Right (Right (Both t c))) i j h q (λ u. absurd (cc u)) (impl_led.1.1.1 m p r t c v y)
                          ∙ ap (λ y. j ⧺ y) (type_text w.printing t c) ∙ sym (append_append j (way w.printing t) (way w.printing c)),
                    ),
                  ),
                ),
              ),
            )
        last None q =
            rest_written k b w (rule type & body_form) (plan.reads (rule type) λ t. ending g (λ c. Right (Right (Both t c)))) None j m (
              refl,
              (
                refl,
                λ t p v. (
                  refl,
                  (
                    refl,
                    λ c r y. (
                      refl,
                      H (Impl g (Right (Right (Both t c)))) ∙ impl_text w.printing l None (sees at_generics m) g (Right (Right (Both t c))) i j h q (λ u. absurd (cc u)) (impl_led.1.1.1 m p r t c v y)
                          ∙ ap (λ y. j ⧺ y) (type_text w.printing t c) ∙ sym (append_append j (way w.printing t) (way w.printing c)),
                    ),
                  ),
                ),
              ),
            )

    pub types_written : (l : Option Bool) (g : Syntax) (j m : Stream) → Present w.printing l g i j → As (following-generics types_course) (types_plan g) l j m
    types_written l g j m h = seen l l false (sees at_generics m) (copied w (run_plan (types_plan g) k b m)) (λ o. copy_course types_course o (adds w j) m) (known_first l) (λ o q. types_from l o g j m h q)

    pub alone_written : (l : Option Bool) (g : Syntax) (j m : Stream) → Present w.printing l g i j → As (following-generics alone_course) (alone_plan g) l j m
    alone_written l g j m h = seen l l false (sees at_generics m) (copied w (run_plan (alone_plan g) k b m)) (λ o. copy_course alone_course o (adds w j) m) (known_first l) (λ o q. alone_from l o g j m h q)

  -- WHERE THE GUESS IS THAT ALL IS STORED VERBATIM
  module _ (k : Rule) (b : Stream) (w : Written) where
    abbrev Aside : Course → Plan → Written → Stream → Type 0
    Aside d p v m = Kept-as k b w d p v m

    self_kept : (g : Syntax) (S : Syntax → Syntax → Syntax) (v : Written) (m : Stream) → Aside (self_type (rest body_form)) (plan.reads (rule for_self_type) λ s. ending g (S s)) v m
    self_kept g S v m = reads_kept k b w (rule for_self_type) (rule for_self_type) (rest body_form) (λ s. ending g (S s)) v m refl (λ s r u q. tt)

    path_kept : (g : Syntax) (S : Syntax → Syntax → Syntax) (v : Written) (m : Stream) → Aside after_path (plan.reads optional_self_type λ s. ending g (S s)) v m
    unfolding copy_form
    path_kept g S v m = go (sees at_for m) refl
      where
        of : (o : Out) → Leads (copied w (follow (λ s r. run_plan (ending g (S s)) k b r) (wrap Left o))) (next (next (copied v o) (copy_kept (rest body_form))) (capturing w b))
        of None = refl
        of (Some p) = tt

        go : (c : Bool) → sees at_for m ≡ c → Aside after_path (plan.reads optional_self_type λ s. ending g (S s)) v m
        go true y =
            subst (λ c. Leads (copied w (follow (λ s r. run_plan (ending g (S s)) k b r) (branch c (parse_form (rule for_self_type) m) (Some (Nothing, m)))))
            (next (pick c (copy_kept (self_type (rest body_form)) v m) (copy_kept (rest body_form) v m)) (capturing w b))) (sym y) (of (parse_form (rule for_self_type) m))
        go false y =
            subst (λ c. Leads (copied w (follow (λ s r. run_plan (ending g (S s)) k b r) (branch c (parse_form (rule for_self_type) m) (Some (Nothing, m)))))
            (next (pick c (copy_kept (self_type (rest body_form)) v m) (copy_kept (rest body_form) v m)) (capturing w b))) (sym y) tt

    for_kept : (g x : Syntax) (v : Written) (m : Stream) → Aside for_course (for_type g x) v m
    for_kept g x v m =
        reads_kept k b w (rule type_path) (rule type_path) (self_type (rest body_form)) (λ t. plan.reads (rule for_self_type) λ f. ending g (λ c. Left (Both x (Right (parts (t ∷ f ∷ c ∷ [])))))) v m refl
        (λ t r u q. self_kept g (λ f c. Left (Both x (Right (parts (t ∷ f ∷ c ∷ []))))) u r)

    plain_kept : (g : Syntax) (v : Written) (m : Stream) → Aside plain_course (path_plan g) v m
    plain_kept g v m =
        reads_kept k b w (rule type_path) (rule type_path) after_path (λ t. plan.reads optional_self_type λ f. ending g (λ c. Right (Left (parts (t ∷ f ∷ c ∷ []))))) v m refl
        (λ t r u q. path_kept g (λ f c. Right (Left (parts (t ∷ f ∷ c ∷ [])))) u r)

    all_kept : (g : Grammar) (p : Plan) (v : Written) (m : Stream) → Kept g p → Aside (kept g) p v m
    all_kept g p v m e = leads_same (copied w (run_plan p k b m)) (next (copy_form g v m) (capturing w b)) (sym (kept_is k b w g p v m e))

    pub types_kept : (g : Syntax) (v : Written) (m : Stream) → Aside (following-generics types_course) (types_plan g) v m
    types_kept g v m =
        turns_kept k b w at_exclamation (reads (mark false exclamation) brace_course) path_course (plan.reads (punctuation exclamation) (brace_plan g)) (path_or_type g) v m
        (λ s. reads_kept k b w (mark false exclamation) (punctuation exclamation) brace_course (brace_plan g) v m refl
        (λ x r u q. turns_kept k b w at_brace (rest body_form) for_or_kept (never_plan g x) (for_plan g x) u r (λ y. tt)
        (λ y. turns_kept k b w at_module_path for_course (kept kept_three) (for_type g x) three_kept u r (λ z. for_kept g x u r)
        (λ z. all_kept kept_three three_kept u r (refl, (refl, λ t. (refl, (refl, λ f. (refl, (refl, λ c. refl))))))))))
        (λ s. turns_kept k b w at_module_path plain_course (reads (rule type) type_course) (path_plan g) (plan.reads (rule type) (type_plan g)) v m (λ y. plain_kept g v m)
        (λ y. reads_kept k b w (rule type) (rule type) type_course (type_plan g) v m refl
        (λ t r u q. turns_kept k b w at_for (kept kept_two) (rest body_form) two_kept (end_plan g t) u r (λ z. all_kept kept_two two_kept u r (refl, (refl, λ f. (refl, (refl, λ c. refl))))) (λ z. tt))))

    pub alone_kept : (g : Syntax) (v : Written) (m : Stream) → Aside (following-generics alone_course) (alone_plan g) v m
    alone_kept g v m =
        turns_kept k b w at_exclamation (reads (mark false exclamation) brace_alone) path_alone (plan.reads (punctuation exclamation) (brace_alone_plan g)) (path_alone_plan g) v m
        (λ s. reads_kept k b w (mark false exclamation) (punctuation exclamation) brace_alone (brace_alone_plan g) v m refl
        (λ x r u q. turns_kept k b w at_brace (rest body_form) for_course (never_plan g x) (for_type g x) u r (λ y. tt) (λ y. for_kept g x u r)))
        (λ s. turns_kept k b w at_module_path plain_course (rest (rule type & body_form)) (path_plan g) (plan.reads (rule type) (end_plan g)) v m (λ y. plain_kept g v m) (λ y. tt))

-- THE GENERICS, and what follows them: of any such course and plan
module _ (d : Course) (P : Syntax → Plan) where
  abbrev pub generics_plan : Plan
  generics_plan = plan.turns at_generics (plan.reads kept_generics λ g. P (Left g)) (P absent)

  abbrev All : Rule → Stream → Written → Stream → Type 0
  All k b w i = (l : Option Bool) (g : Syntax) (j m : Stream) → Present w.printing l g i j → Written-as k b w d (P g) l j m

  module _ (k : Rule) (b : Stream) (w : Written) (i m : Stream) (each : All k b w i) where
    parsed : (v : Bool) → sees at_generics m ≡ v → run_plan generics_plan k b m ≡ by_test v (run_plan (plan.reads kept_generics λ g. P (Left g)) k b m) (run_plan (P absent) k b m)
    parsed v e = ap (λ c. by_test c (run_plan (plan.reads kept_generics λ g. P (Left g)) k b m) (run_plan (P absent) k b m)) e

    -- shown
    shown_lists : w.printing ≡ false → Written-as k b w (lists d) generics_plan None i m
    unfolding copy_form adds
    shown_lists e = go (sees at_generics m) refl
      where
        shown : (g : Syntax) → Present w.printing None g i (i ⧺ way w.printing g)
        shown g = subst (λ a. Present a None g i (i ⧺ way a g)) (sym e) refl

        none : Present w.printing None absent i i
        none = subst (λ a. Present a None absent i i) (sym e) (sym (append_end i))

        of : (o : Out) → Leads (copied w (follow (λ g r. run_plan (P (Left g)) k b r) o)) (next (copied (adds w i) o) (copy_course d None))
        of None = refl
        of (Some p) =
            subst (λ v. Leads (copied w (run_plan (P (Left p.0)) k b p.1)) (copy_course d None v p.1)) (sym (more p.0)) (each None (Left p.0) (i ⧺ way w.printing p.0) p.1 (subst (λ c. Present w.printing None (Left p.0) i (i ⧺ c)) (way_left w.printing p.0) (shown (Left p.0))))
          where
            more : (s : Syntax) → adds (adds w i) (way (adds w i).printing s) ≡ adds w (i ⧺ way w.printing s)
            more s = adds_more w i (way w.printing s)

        go : (v : Bool) → sees at_generics m ≡ v → Written-as k b w (lists d) generics_plan None i m
        go true y =
            subst (λ p. Leads (copied w p) (next (copy_form shown_generics (adds w i) m) (copy_course d None))) (sym (parsed true y))
            (subst (λ c. Leads (copied w (run_plan (plan.reads kept_generics λ g. P (Left g)) k b m)) (next c (copy_course d None))) (sym (generics_present (adds w i) m y)) (of (parse_form kept_generics m)))
        go false y =
            subst (λ p. Leads (copied w p) (next (copy_form shown_generics (adds w i) m) (copy_course d None))) (sym (parsed false y))
            (subst (λ c. Leads (copied w (run_plan (P absent) k b m)) (next c (copy_course d None))) (sym (generics_lack (adds w i) m y)) (each None absent i m none))

    -- printed, by a guess
    printed_lists : (x : Bool) → w.printing ≡ true → Written-as k b w (lists d) generics_plan (Some x) i m
    unfolding copy_form adds
    printed_lists x e = go (sees at_generics m) refl
      where
        printing : (adds w i).printing ≡ true
        printing = e

        A : Copy
        A = guessed_lists (no_parameters m) x (copy_course d) (adds w i) m

        -- there are none, and this is left
        none_left : (g : Syntax) (r : Stream) → bare g ≡ true → A ≡ copy_course d (Some x) (adds (adds w i) (guessed_generics x)) r → Leads (copied w (run_plan (P g) k b r)) A
        none_left g r h y =
            subst (Leads (copied w (run_plan (P g) k b r))) (sym (y ∙ ap (λ v. copy_course d (Some x) v r) (adds_more w i (guessed_generics x))))
            (each (Some x) g (i ⧺ guessed_generics x) r (subst (λ a. Present a (Some x) g i (i ⧺ guessed_generics x)) (sym e) (h, refl)))

        refused : (o : Out) → o ≡ None → A ≡ Refused → Leads (copied w (follow (λ g r. run_plan (P (Left g)) k b r) o)) A
        refused o y z = subst (Leads (copied w (follow (λ g r. run_plan (P (Left g)) k b r) o))) (sym z) (ap (λ t. copied w (follow (λ g r. run_plan (P (Left g)) k b r) t)) y)

        -- there are some
        some_left : (o : Out) → ((p : Syntax × Stream) → o ≡ Some p → bare p.0 ≡ false) → Leads (copied w (follow (λ g r. run_plan (P (Left g)) k b r) o)) (next (copied (adds w i) o) (copy_course d None))
        some_left None h = refl
        some_left (Some p) h =
            subst (λ v. Leads (copied w (run_plan (P (Left p.0)) k b p.1)) (copy_course d None v p.1)) (sym (more p.0))
            (each None (Left p.0) (i ⧺ way w.printing p.0) p.1 (subst (λ c. Present w.printing None (Left p.0) i (i ⧺ c)) (way_left w.printing p.0) (present (Left p.0) (h p refl))))
          where
            more : (s : Syntax) → adds (adds w i) (way (adds w i).printing s) ≡ adds w (i ⧺ way w.printing s)
            more s = adds_more w i (way w.printing s)

            present : (g : Syntax) → bare g ≡ false → Present w.printing None g i (i ⧺ way w.printing g)
            present g h = subst (λ a. Present a None g i (i ⧺ way a g)) (sym e) (h, refl)

        -- after `<`
        after_less : sees at_generics m ≡ true → (o : Out) → take_mark less m ≡ o → Leads (copied w (follow (λ g r. run_plan (P (Left g)) k b r) (parse_form kept_generics m))) A
        after_less y None z = refused (parse_form kept_generics m) (ap (λ t. row_opened t (rows (member List-m.Parameters))) z) (none_refused x (copy_course d) (adds w i) m y z)
        after_less y (Some p) z = ends (sees at_row_end p.1) refl
          where
            ends : (c : Bool) → sees at_row_end p.1 ≡ c → Leads (copied w (follow (λ g r. run_plan (P (Left g)) k b r) (parse_form kept_generics m))) A
            ends true s = closes (take_mark greater p.1) refl
              where
                opened : parse_form kept_generics m ≡ close_row p.0 Done (take_mark greater p.1)
                opened = ap (λ t. row_opened t (rows (member List-m.Parameters))) z ∙ ap (row_closed p.0) (none_present List-m.Parameters p.1 s)

                closes : (o : Out) → take_mark greater p.1 ≡ o → Leads (copied w (follow (λ g r. run_plan (P (Left g)) k b r) (parse_form kept_generics m))) A
                closes None c = refused (parse_form kept_generics m) (opened ∙ ap (close_row p.0 Done) c) (none_open x (copy_course d) (adds w i) m p.0 p.1 y z s c)
                closes (Some q) c =
                    subst (λ t. Leads (copied w (follow (λ g r. run_plan (P (Left g)) k b r) t)) A) (sym (opened ∙ ap (close_row p.0 Done) c))
                    (none_left (Left (Order (marks_of p.0) Done (marks_of q.0))) q.1 refl (none_bare x (copy_course d) (adds w i) m p.0 q.0 p.1 q.1 y printing z s c))
            ends false s =
                subst (Leads (copied w (follow (λ g r. run_plan (P (Left g)) k b r) (parse_form kept_generics m)))) (sym (some_kept x (copy_course d) (adds w i) m p.0 p.1 y z s))
                (some_left (parse_form kept_generics m) (parameters_never p.0 p.1 m z s))

        go : (v : Bool) → sees at_generics m ≡ v → Leads (copied w (run_plan generics_plan k b m)) A
        go true y = subst (λ p. Leads (copied w p) A) (sym (parsed true y)) (after_less y (take_mark less m) refl)
        go false y = subst (λ p. Leads (copied w p) A) (sym (parsed false y)) (none_left absent m refl (none_absent x (copy_course d) (adds w i) m y))

  -- stored verbatim
  kept_lists : (k : Rule) (b : Stream) (w : Written) → ((g : Syntax) (v : Written) (m : Stream) → Kept-as k b w d (P g) v m) → (v : Written) (m : Stream) → Kept-as k b w (lists d) generics_plan v m
  unfolding copy_form
  kept_lists k b w each v m = go (sees at_generics m) refl
    where
      of : (o : Out) → Leads (copied w (follow (λ g r. run_plan (P (Left g)) k b r) o)) (next (next (copied v o) (copy_kept d)) (capturing w b))
      of None = refl
      of (Some p) = each (Left p.0) (adds v (way v.printing p.0)) p.1

      go : (c : Bool) → sees at_generics m ≡ c → Kept-as k b w (lists d) generics_plan v m
      go true y =
          subst (λ c. Leads (copied w (by_test c (run_plan (plan.reads kept_generics λ g. P (Left g)) k b m) (run_plan (P absent) k b m))) (next (next (copy_form shown_generics v m) (copy_kept d)) (capturing w b))) (sym y)
          (subst (λ c. Leads (copied w (run_plan (plan.reads kept_generics λ g. P (Left g)) k b m)) (next (next c (copy_kept d)) (capturing w b))) (sym (generics_present v m y)) (of (parse_form kept_generics m)))
      go false y =
          subst (λ c. Leads (copied w (by_test c (run_plan (plan.reads kept_generics λ g. P (Left g)) k b m) (run_plan (P absent) k b m))) (next (next (copy_form shown_generics v m) (copy_kept d)) (capturing w b))) (sym y)
          (subst (λ c. Leads (copied w (run_plan (P absent) k b m)) (next (next c (copy_kept d)) (capturing w b))) (sym (generics_lack v m y)) (each absent v m))

  pub lists_meet : (a : Bool) (i m : Stream) → ((k : Rule) (b : Stream) (w : Written) → w.printing ≡ a → All k b w i × ((g : Syntax) (v : Written) (m : Stream) → Kept-as k b w d (P g) v m)) → Meets a (lists d) generics_plan i m
  lists_meet a i m each = record { written = λ k b w e. by k b w (each k b w e).0 a e; all_kept = λ k b w e v. kept_lists k b w (each k b w e).1 v m }
    where
      by : (k : Rule) (b : Stream) (w : Written) → All k b w i → (a : Bool) → w.printing ≡ a → (l : Option Bool) → Fair a l → Written-as k b w (lists d) generics_plan l i m
      by k b w each true p None f = absurd f
      by k b w each true p (Some x) f = printed_lists k b w i m each x p
      by k b w each false p None f = shown_lists k b w i m each p
      by k b w each false p (Some x) f = absurd f

-- AN IMPL, of this value
pub item_impl_meets : (a : Bool) (N : Syntax → Syntax) (i m : Stream) → ((z : Syntax) → way a (N z) ≡ i ⧺ way a z) → Meets a (lists (following-generics types_course)) (generics_plan (following-generics types_course) (types_plan N)) i m
item_impl_meets a N i m H =
    lists_meet (following-generics types_course) (types_plan N) a i m
    (λ k b w e. (λ l g j r h. types_written N k b w i (subst (λ c. (z : Syntax) → way c (N z) ≡ i ⧺ way c z) (sym e) H) l g j r h, λ g v r. types_kept N k b w g v r))

pub alone_impl_meets : (a : Bool) (N : Syntax → Syntax) (i m : Stream) → ((z : Syntax) → way a (N z) ≡ i ⧺ way a z) → Meets a (lists (following-generics alone_course)) (generics_plan (following-generics alone_course) (alone_plan N)) i m
alone_impl_meets a N i m H =
    lists_meet (following-generics alone_course) (alone_plan N) a i m
    (λ k b w e. (λ l g j r h. alone_written N k b w i (subst (λ c. (z : Syntax) → way c (N z) ≡ i ⧺ way c z) (sym e) H) l g j r h, λ g v r. alone_kept N k b w g v r))

-- AN IMPL OF A TYPE OF ONE WORD IN PARENTHESES, which has no generics
not_generics : (m : Stream) → sees at_lone_word m ≡ true → sees at_generics m ≡ false
not_generics m e = seen_apart at_lone_word at_generics m refl e

pub lone_text : (a : Bool) (N : Syntax → Syntax) (i m p r : Stream) (t b : Syntax) → ((z : Syntax) → way a (N z) ≡ i ⧺ way a z) → sees at_lone_word m ≡ true → Reads (rule type) m t p → Reads (rule impl_body) p b r →
    way a (N (Impl absent (Right (Right (Both t b))))) ≡ (i ⧺ way a t) ⧺ way a b
lone_text a N i m p r t b H s e f = H (Impl absent (Right (Right (Both t b)))) ∙ go a ∙ sym (append_append i (way a t) (way a b))
  where
    go : (a : Bool) → i ⧺ way a (Impl absent (Right (Right (Both t b)))) ≡ i ⧺ (way a t ⧺ way a b)
    go false = refl
    go true = ap (λ x. i ⧺ (show (pick x no_generics (Right Nothing)) ⧺ way true (Right (Right (Both t b))))) (impl_led.1.1.1 m p r t b e f ∙ not_generics m s)
