-- The laws of the grammar, as `canonical` and `same_form` need them.
use Rattle.std.proofs.Common.{◌≡◌, true, false, sym, subst, ap, ◌∙◌, inl, inr}
use Rattle.std.specs.Prelude.{Bool, IsTrue, ◌↔◌, Result, Err}
use Rattle.syn_grammar.specs.Tokens.{Stream, end, plain, visible}
use Rattle.syn_grammar.specs.Rules.{Rule}
use Rattle.syn_grammar.specs.Grammar.{Syntax, DerivesPrefix, rule, print, normal}
use Rattle.syn_grammar.specs.Before.{before}
use Rattle.syn_grammar.specs.Grows.{is_part, lift, unmoved}
use Rattle.syn_grammar.specs.Laws.{Derives}
use Rattle.syn_grammar.specs.Run.{value_of}
use Rattle.syn_grammar.specs.Promises.{DerivesWholeValue, Refused}
use Rattle.syn_parse.specs.Form.{Form, of, DerivesWhole, NotDerivedWhole, WholeOutcome}
use Rattle.syn_grammar.proofs.Outcomes.{one_value}
use Rattle.syn_grammar.proofs.Proved.{one_tree, print_is_read, print_is_visible, normal_prints, same_form}
use Rattle.syn_grammar.proofs.PrintedValues.{print_value}
use Rattle.syn_grammar.proofs.StillProved.{lift_keeps, still_derives}
use Rattle.syn_grammar.proofs.ValueForms.{value_print_is_read, values_same_form}
use Rattle.syn_answers.specs.Canonical.{IsCanonical, IsCanonicalOf, IsSameForm, IsSameFormOf, CanonicalOutcome, CanonicalOfOutcome, SameFormOutcome, SameFormOfOutcome, StillCanonicalVisible}

-- trees of equal normal forms print alike
alike : (s t : Syntax) → normal s ≡ normal t → plain (print s) ≡ plain (print t)
alike s t e = sym (normal_prints s) ∙ ap print e ∙ normal_prints t

-- the print of what a value holds is that of the tree
pub value_print : (k : Rule) (ts p : Stream) (s t : Syntax) → value_of t ≡ s → p ≡ print s → p ≡ print t
value_print k ts p s t h e = e ∙ ap print (sym h) ∙ print_value t

pub canonical_of : (k : Rule) (ts p : Stream) (s : Syntax) → visible ts ≡ true → DerivesWholeValue (rule k) s ts → p ≡ print s → IsCanonical k ts p
canonical_of k ts p s v (t, d, h) e =
    let q : p ≡ print t = value_print k ts p s t h e in
    let (u, x, i) = print_is_read k ts t d in
    record {
      tree = t;
      derived = d;
      prints = q;
      seen = ap visible q ∙ print_is_visible k ts t v d;
      again = u;
      reads_again = subst (λ z. Derives k z u) (sym q) x;
      same_normal = i;
      prints_again = alike u t i ∙ ap plain (sym q);
    }

pub same_form_of : (k : Rule) (a b p q : Stream) (s t : Syntax) (x : Bool) → DerivesWholeValue (rule k) s a → DerivesWholeValue (rule k) t b
    → p ≡ print s → q ≡ print t → IsTrue x ↔ (plain p ≡ plain q) → IsSameForm k a b x
same_form_of k a b p q s t x (u, d, h) (w, e, i) f g y =
    let f' : p ≡ print u = value_print k a p s u h f in
    let g' : q ≡ print w = value_print k b q t w i g in
    let z = same_form k a b u w d e in
    let prints : IsTrue x ↔ (plain (print u) ≡ plain (print w)) =
    subst (λ m. IsTrue x ↔ (plain m ≡ plain (print w))) f' (subst (λ n. IsTrue x ↔ (plain p ≡ plain n)) g' y) in
    record {
      left_tree = u;
      left_derived = d;
      right_tree = w;
      right_derived = e;
      by_normal = (λ j. z.1 (prints.0 j), λ n. prints.1 (z.0 n));
      by_print = prints;
    }

-- the same for a type's own form, which is its rule
pub canonical_by : (f : Form) (k : Rule) → f ≡ of (rule k) → (ts p : Stream) (s : Syntax) → visible ts ≡ true → DerivesWhole f s ts → p ≡ print s → IsCanonical k ts p
canonical_by f k e ts p s v h q = canonical_of k ts p s v (subst (λ z. DerivesWhole z s ts) e h) q

pub refused_by : (f : Form) (k : Rule) → f ≡ of (rule k) → (ts : Stream) → NotDerivedWhole f ts → Refused k ts
refused_by f k e ts h = subst (λ z. NotDerivedWhole z ts) e h

pub same_form_by : (f : Form) (k : Rule) → f ≡ of (rule k) → (a b p q : Stream) (s t : Syntax) (x : Bool) → DerivesWhole f s a → DerivesWhole f t b
    → p ≡ print s → q ≡ print t → IsTrue x ↔ (plain p ≡ plain q) → IsSameForm k a b x
same_form_by f k e a b p q s t x h i = same_form_of k a b p q s t x (subst (λ z. DerivesWhole z s a) e h) (subst (λ z. DerivesWhole z t b) e i)

-- a refused parse is a refused canonical print
pub canonical_refused : {E X : Type 0} (refusal : E → Type 0) (view : X → Syntax) (f : Form) (k : Rule) → f ≡ of (rule k) → (ts : Stream) (e : E) (r : Result Stream E)
    → r ≡ Err e → WholeOutcome refusal view f ts (Err e) → CanonicalOutcome refusal k ts r
canonical_refused refusal view f k p ts e r q h = subst (CanonicalOutcome refusal k ts) (sym q) (λ v d. refused_by f k p ts (h v d))

pub same_form_refused_left : {E X : Type 0} (refusal : E → Type 0) (view : X → Syntax) (f : Form) (k : Rule) → f ≡ of (rule k) → (a b : Stream) (e : E) (r : Result Bool E)
    → r ≡ Err e → WholeOutcome refusal view f a (Err e) → SameFormOutcome refusal k a b r
same_form_refused_left refusal view f k p a b e r q h = subst (SameFormOutcome refusal k a b) (sym q) (λ v w d. inl (refused_by f k p a (h v d)))

pub same_form_refused_right : {E X : Type 0} (refusal : E → Type 0) (view : X → Syntax) (f : Form) (k : Rule) → f ≡ of (rule k) → (a b : Stream) (e : E) (r : Result Bool E)
    → r ≡ Err e → WholeOutcome refusal view f b (Err e) → SameFormOutcome refusal k a b r
same_form_refused_right refusal view f k p a b e r q h = subst (SameFormOutcome refusal k a b) (sym q) (λ v w d. inr (refused_by f k p b (h w d)))

-- RETURNED TREES

sole_of : (k : Rule) (ts : Stream) (s t : Syntax) → DerivesWholeValue (rule k) t ts → DerivesWholeValue (rule k) s ts → s ≡ t
sole_of k ts s t d e = (one_value k ts s t end end e d).0

returned_of : {X : Type 0} (view : X → Syntax) (k : Rule) (ts p : Stream) (x : X) → DerivesWholeValue (rule k) (view x) ts → p ≡ print (view x) → IsCanonicalOf view k ts p
returned_of view k ts p x d q =
    let (u, e, n) = value_print_is_read k ts (view x) d in
    record {
      tree = x;
      derived = d;
      sole = λ s. sole_of k ts s (view x) d;
      prints = q;
      again = u;
      reads_again = subst (λ z. DerivesWholeValue (rule k) u z) (sym q) e;
      same_normal = n;
      prints_again = alike u (view x) n ∙ ap plain (sym q);
    }

pub returned_by : {X : Type 0} (view : X → Syntax) (f : Form) (k : Rule) → f ≡ of (rule k) → (ts p : Stream) (x : X) → DerivesWhole f (view x) ts → p ≡ print (view x) → IsCanonicalOf view k ts p
returned_by view f k e ts p x h = returned_of view k ts p x (subst (λ z. DerivesWhole z (view x) ts) e h)

pub same_returned_by : {X : Type 0} (view : X → Syntax) (f : Form) (k : Rule) → f ≡ of (rule k) → (a b p q : Stream) (x y : X) (answer : Bool) → DerivesWhole f (view x) a → DerivesWhole f (view y) b
    → p ≡ print (view x) → q ≡ print (view y) → IsTrue answer ↔ (plain p ≡ plain q) → IsSameFormOf view k a b answer
same_returned_by view f k i a b p q x y answer g h l m n =
    let d : DerivesWholeValue (rule k) (view x) a = subst (λ z. DerivesWhole z (view x) a) i g in
    let e : DerivesWholeValue (rule k) (view y) b = subst (λ z. DerivesWhole z (view y) b) i h in
    let z = values_same_form k a b (view x) (view y) d e in
    let prints : IsTrue answer ↔ (plain (print (view x)) ≡ plain (print (view y))) =
    subst (λ w. IsTrue answer ↔ (plain w ≡ plain (print (view y)))) l (subst (λ v. IsTrue answer ↔ (plain p ≡ plain v)) m n) in
    record {
      left_tree = x;
      left_derived = d;
      left_sole = λ s. sole_of k a s (view x) d;
      right_tree = y;
      right_derived = e;
      right_sole = λ s. sole_of k b s (view y) e;
      by_normal = (λ j. z.1 (prints.0 j), λ j. prints.1 (z.0 j));
      by_print = prints;
    }

no_value : (k : Rule) (ts : Stream) → Refused k ts → (s : Syntax) → DerivesWholeValue (rule k) s ts → ⊥
no_value k ts h s (t, d, v) = h t d

pub returned_refused : {E X : Type 0} (refusal : E → Type 0) (view : X → Syntax) (f : Form) (k : Rule) → f ≡ of (rule k) → (ts : Stream) (e : E) (r : Result Stream E)
    → r ≡ Err e → WholeOutcome refusal view f ts (Err e) → CanonicalOfOutcome refusal view k ts r
returned_refused refusal view f k p ts e r q h = subst (CanonicalOfOutcome refusal view k ts) (sym q) (λ v d. no_value k ts (refused_by f k p ts (h v d)))

pub same_returned_refused_left : {E X : Type 0} (refusal : E → Type 0) (view : X → Syntax) (f : Form) (k : Rule) → f ≡ of (rule k) → (a b : Stream) (e : E) (r : Result Bool E)
    → r ≡ Err e → WholeOutcome refusal view f a (Err e) → SameFormOfOutcome refusal view k a b r
same_returned_refused_left refusal view f k p a b e r q h = subst (SameFormOfOutcome refusal view k a b) (sym q) (λ v w d s t i j. no_value k a (refused_by f k p a (h v d)) s i)

pub same_returned_refused_right : {E X : Type 0} (refusal : E → Type 0) (view : X → Syntax) (f : Form) (k : Rule) → f ≡ of (rule k) → (a b : Stream) (e : E) (r : Result Bool E)
    → r ≡ Err e → WholeOutcome refusal view f b (Err e) → SameFormOfOutcome refusal view k a b r
same_returned_refused_right refusal view f k p a b e r q h = subst (SameFormOfOutcome refusal view k a b) (sym q) (λ v w d s t i j. no_value k b (refused_by f k p b (h w d)) t j)

-- THE EARLIER GRAMMAR

pub still_by : (k : Rule) (ts p : Stream) → IsCanonical k ts p → (s : Syntax) → is_part k ≡ false → DerivesPrefix before (rule k) s ts end → (p ≡ print (lift s)) × (unmoved s ≡ true → p ≡ print s)
still_by k ts p h s i b =
    let r : p ≡ print (lift s) = h.prints ∙ ap print ((one_tree k ts h.tree (lift s) end end h.derived (still_derives k ts s i b)).0) in
    (r, λ u. r ∙ ap print (lift_keeps s u))

pub still_refused : {E X : Type 0} (refusal : E → Type 0) (view : X → Syntax) (f : Form) (k : Rule) → f ≡ of (rule k) → (ts : Stream) (e : E) (r : Result Stream E)
    → r ≡ Err e → WholeOutcome refusal view f ts (Err e) → StillCanonicalVisible refusal k ts r
still_refused refusal view f k p ts e r q h = subst (StillCanonicalVisible refusal k ts) (sym q) (λ v s i b d. refused_by f k p ts (h v d) (lift s) (still_derives k ts s i b))
