-- WHAT `canonical` AND `same_form` PROMISE, of any error type with its refusals.
use Rattle.std.specs.Prelude.{◌≡◌, ◌↔◌, ◌⊎◌, Bool, true, false, IsTrue, Result, Ok, Err}
use Rattle.syn_grammar.specs.Tokens.{Stream, end, plain, visible}
use Rattle.syn_grammar.specs.Rules.{Rule}
use Rattle.syn_grammar.specs.Grammar.{Syntax, DerivesPrefix, rule, print, normal}
use Rattle.syn_grammar.specs.Before.{before}
use Rattle.syn_grammar.specs.Grows.{is_part, lift, unmoved}
use Rattle.syn_grammar.specs.Laws.{Derives}
use Rattle.syn_grammar.specs.Promises.{DerivesWholeValue, Refused}

-- a tree is derived from ts, and p is its print; from p in turn a tree with the same normal form is derived, which prints alike
pub record IsCanonical (k : Rule) (ts p : Stream) : Type 0 where
  pub tree : Syntax
  pub derived : Derives k ts tree
  pub prints : p ≡ print tree
  pub seen : visible p ≡ true
  pub again : Syntax
  pub reads_again : Derives k p again
  pub same_normal : normal again ≡ normal tree
  pub prints_again : plain (print again) ≡ plain p

abbrev pub CanonicalOutcome : {E : Type 0} → (E → Type 0) → Rule → Stream → Result Stream E → Type 0
CanonicalOutcome refusal k ts (Ok p) = visible ts ≡ true → IsCanonical k ts p
CanonicalOutcome refusal k ts (Err e) = visible ts ≡ true → refusal e → Refused k ts

-- THE SAME OF RETURNED TREES: a parser returns a value whose `view` is the value of a derivation tree. The only value that is derived from ts
-- is `view tree`, and p is its print; from p in turn a value with the same normal form is derived, which prints alike.
pub record IsCanonicalOf {X : Type 0} (view : X → Syntax) (k : Rule) (ts p : Stream) : Type 0 where
  pub tree : X
  pub derived : DerivesWholeValue (rule k) (view tree) ts
  pub sole : (s : Syntax) → DerivesWholeValue (rule k) s ts → s ≡ view tree
  pub prints : p ≡ print (view tree)
  pub again : Syntax
  pub reads_again : DerivesWholeValue (rule k) again p
  pub same_normal : normal again ≡ normal (view tree)
  pub prints_again : plain (print again) ≡ plain p

abbrev pub CanonicalOfOutcome : {X E : Type 0} → (E → Type 0) → (X → Syntax) → Rule → Stream → Result Stream E → Type 0
CanonicalOfOutcome refusal view k ts (Ok p) = visible ts ≡ true → IsCanonicalOf view k ts p
CanonicalOfOutcome refusal view k ts (Err e) = visible ts ≡ true → refusal e → (s : Syntax) → DerivesWholeValue (rule k) s ts → ⊥

-- s is a tree of the earlier grammar: the tree read now is s with its traits and impls with `const` as these kinds of items, and it is s
-- where it has none
abbrev pub StillPrinted : {E : Type 0} → (E → Type 0) → Syntax → Result Stream E → Type 0
StillPrinted refusal s (Ok p) = (p ≡ print (lift s)) × (unmoved s ≡ true → p ≡ print s)
StillPrinted refusal s (Err e) = refusal e → ⊥

-- all that the earlier grammar derived is still read
abbrev pub StillCanonical : {E : Type 0} → (E → Type 0) → Rule → Stream → Result Stream E → Type 0
StillCanonical refusal k ts answer = (s : Syntax) → is_part k ≡ false → DerivesPrefix before (rule k) s ts end → StillPrinted refusal s answer

-- the same of visible streams
abbrev pub StillCanonicalVisible : {E : Type 0} → (E → Type 0) → Rule → Stream → Result Stream E → Type 0
StillCanonicalVisible refusal k ts answer = visible ts ≡ true → StillCanonical refusal k ts answer

-- trees are derived from both, and the result is true exactly where their normal forms are equal, which is exactly where their prints are
-- equal, spans aside
pub record IsSameForm (k : Rule) (a b : Stream) (answer : Bool) : Type 0 where
  pub left_tree : Syntax
  pub left_derived : Derives k a left_tree
  pub right_tree : Syntax
  pub right_derived : Derives k b right_tree
  pub by_normal : IsTrue answer ↔ (normal left_tree ≡ normal right_tree)
  pub by_print : IsTrue answer ↔ (plain (print left_tree) ≡ plain (print right_tree))

abbrev pub SameFormOutcome : {E : Type 0} → (E → Type 0) → Rule → Stream → Stream → Result Bool E → Type 0
SameFormOutcome refusal k a b (Ok answer) = visible a ≡ true → visible b ≡ true → IsSameForm k a b answer
SameFormOutcome refusal k a b (Err e) = visible a ≡ true → visible b ≡ true → refusal e → Refused k a ⊎ Refused k b

-- THE SAME OF RETURNED TREES
pub record IsSameFormOf {X : Type 0} (view : X → Syntax) (k : Rule) (a b : Stream) (answer : Bool) : Type 0 where
  pub left_tree : X
  pub left_derived : DerivesWholeValue (rule k) (view left_tree) a
  pub left_sole : (s : Syntax) → DerivesWholeValue (rule k) s a → s ≡ view left_tree
  pub right_tree : X
  pub right_derived : DerivesWholeValue (rule k) (view right_tree) b
  pub right_sole : (s : Syntax) → DerivesWholeValue (rule k) s b → s ≡ view right_tree
  pub by_normal : IsTrue answer ↔ (normal (view left_tree) ≡ normal (view right_tree))
  pub by_print : IsTrue answer ↔ (plain (print (view left_tree)) ≡ plain (print (view right_tree)))

abbrev pub SameFormOfOutcome : {X E : Type 0} → (E → Type 0) → (X → Syntax) → Rule → Stream → Stream → Result Bool E → Type 0
SameFormOfOutcome refusal view k a b (Ok answer) = visible a ≡ true → visible b ≡ true → IsSameFormOf view k a b answer
SameFormOfOutcome refusal view k a b (Err e) = visible a ≡ true → visible b ≡ true → refusal e → (s t : Syntax) → DerivesWholeValue (rule k) s a → DerivesWholeValue (rule k) t b → ⊥

-- a tree is derived from the whole stream, or none
abbrev pub WholeOutcome : {E : Type 0} → (E → Type 0) → Rule → Stream → Result (Unit {0}) E → Type 0
WholeOutcome refusal k ts (Ok x) = visible ts ≡ true → (tree : Syntax) × Derives k ts tree
WholeOutcome refusal k ts (Err e) = visible ts ≡ true → refusal e → Refused k ts
