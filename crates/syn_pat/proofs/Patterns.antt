-- The odd ones among patterns.
use Rattle.std.proofs.Common.{◌≡◌, Bool, true, false, Option, Some, None, refl, sym, ap, ◌∙◌, ◌≤◌, ◌+◌, ℕ, arith}
use Rattle.syn_grammar.specs.Tokens.{◌⧺◌, and}
use Rattle.syn_grammar.specs.Grammar.{Syntax, Nothing, Both, Left, Right, Node, Unshown, print}
use Rattle.syn_grammar.specs.Same.{same_syntax}
use Rattle.syn_grammar.proofs.Same.{and_true, and_false}
use Rattle.syn_grammar.proofs.Streams.{append_end}
use Rattle.syn_tokens.specs.Kinds.{Mut, Ref, Underscore, mut_syntax, ref_syntax, underscore_syntax}
use Rattle.syn_tokens.specs.Leaves.{maybe}
use Rattle.syn_lower.specs.Sizes.{tree_size}
use Rattle.syn_pat.specs.Patterns.{after_attributes, bound_name, local_pattern}

-- A NAME, perhaps after `ref` or `mut`

pub print_bound : (r : Option Ref) (m : Option Mut) (s : Syntax) →
    print (bound_name (maybe ref_syntax r) (maybe mut_syntax m) s) ≡ print (maybe ref_syntax r) ⧺ (print (maybe mut_syntax m) ⧺ print s)
print_bound (Some r) (Some m) s = refl
print_bound (Some r) None s = refl
print_bound None (Some m) s = refl
print_bound None None s = append_end (print s)

pub same_bound : (r q : Option Ref) (m n : Option Mut) (s t : Syntax) →
    same_syntax (bound_name (maybe ref_syntax r) (maybe mut_syntax m) s) (bound_name (maybe ref_syntax q) (maybe mut_syntax n) t)
    ≡ and (same_syntax (maybe ref_syntax r) (maybe ref_syntax q)) (and (same_syntax (maybe mut_syntax m) (maybe mut_syntax n)) (same_syntax s t))
same_bound (Some r) (Some q) (Some m) (Some n) s t = refl
same_bound (Some r) (Some q) (Some m) None s t = refl
same_bound (Some r) (Some q) None (Some n) s t = refl
same_bound (Some r) (Some q) None None s t = refl
same_bound (Some r) None (Some m) (Some n) s t = refl
same_bound (Some r) None (Some m) None s t = refl
same_bound (Some r) None None (Some n) s t = refl
same_bound (Some r) None None None s t = refl
same_bound None (Some q) (Some m) (Some n) s t = refl
same_bound None (Some q) (Some m) None s t = refl
same_bound None (Some q) None (Some n) s t = refl
same_bound None (Some q) None None s t = refl
same_bound None None (Some m) (Some n) s t = refl
same_bound None None (Some m) None s t = refl
same_bound None None None (Some n) s t = refl
same_bound None None None None s t = and_true (same_syntax s t)

-- AFTER ATTRIBUTES

pub print_after : (attrs s : Syntax) → print (after_attributes attrs s) ≡ print attrs ⧺ print s
print_after (Node (Right (Unshown Nothing))) s = refl
print_after attrs s = refl

pub after_smaller : (attrs s : Syntax) → tree_size s ≤ tree_size (after_attributes attrs s)
after_smaller (Node (Right (Unshown Nothing))) s = omega arith
after_smaller attrs s = omega arith

-- a pattern followed by its type: no attributes are taken for it
module _ (s t x y : Syntax) where
  abbrev first_typed : Syntax → Syntax
  first_typed attrs = after_attributes attrs (Both s (Left x))

  abbrev second_typed : Syntax → Syntax
  second_typed attrs = after_attributes attrs (Both t (Left y))

  pub same_typed : (a b : Syntax) → same_syntax (first_typed a) (second_typed b) ≡ and (same_syntax a b) (and (same_syntax s t) (same_syntax x y))
  same_typed (Node (Right (Unshown Nothing))) (Node (Right (Unshown Nothing))) = refl
  same_typed (Node (Right (Unshown Nothing))) b = and_false (same_syntax s b)
  same_typed a (Node (Right (Unshown Nothing))) = and_false (same_syntax a t)
  same_typed a b = refl

pub typed_apart : (attrs s x t : Syntax) → same_syntax (after_attributes attrs (Both s (Left x))) (Node t) ≡ false
typed_apart (Node (Right (Unshown Nothing))) s x t = refl
typed_apart attrs s x t = refl

pub apart_typed : (attrs s x t : Syntax) → same_syntax (Node t) (after_attributes attrs (Both s (Left x))) ≡ false
apart_typed (Node (Right (Unshown Nothing))) s x t = refl
apart_typed attrs s x t = refl

-- `_`
pub same_wild : (a b : Syntax) (u v : Underscore) → same_syntax (after_attributes a (underscore_syntax u)) (after_attributes b (underscore_syntax v)) ≡ and (same_syntax a b) (same_syntax (underscore_syntax u) (underscore_syntax v))
same_wild (Node (Right (Unshown Nothing))) (Node (Right (Unshown Nothing))) u v = refl
same_wild (Node (Right (Unshown Nothing))) b u v = refl
same_wild a (Node (Right (Unshown Nothing))) u v = refl
same_wild a b u v = refl

-- THE PATTERN OF A LOCAL

pub print_local : (s : Syntax) → print (local_pattern s) ≡ print s
print_local (Node s) = append_end (print s)
print_local s = refl

-- one without a type, and one with it
pub untyped_apart : (s attrs t x : Syntax) → same_syntax (Both s (Right Nothing)) (after_attributes attrs (Both t (Left x))) ≡ false
untyped_apart s (Node (Right (Unshown Nothing))) t x = and_false (same_syntax s t)
untyped_apart s attrs t x = and_false (same_syntax s attrs)

pub apart_untyped : (s attrs t x : Syntax) → same_syntax (after_attributes attrs (Both t (Left x))) (Both s (Right Nothing)) ≡ false
apart_untyped s (Node (Right (Unshown Nothing))) t x = and_false (same_syntax t s)
apart_untyped s attrs t x = and_false (same_syntax attrs s)

-- a pattern with its type is printed as it is
pub typed_local : (attrs t x : Syntax) → local_pattern (after_attributes attrs (Both t (Left x))) ≡ after_attributes attrs (Both t (Left x))
typed_local (Node (Right (Unshown Nothing))) t x = refl
typed_local attrs t x = refl
