-- What is in a list is smaller than the list.
use Rattle.std.proofs.Common.{◌≡◌, ℕ, zero, suc, ◌+◌, ◌<◌, ◌≤◌, Bool, List, [], ◌∷◌, length, get_or, Option, Some, None, ap, arith}
use Rattle.syn_grammar.specs.Grammar.{Syntax, Nothing, Mark, Both, Left, Right, Node, Unshown}
use Rattle.syn_tokens.specs.Listing.{list_of, joined_of}
use Rattle.syn_lower.specs.Sizes.{tree_size, last_size, values_size}
use Rattle.syn_lower.specs.Ordered.{ordered_of}
use Rattle.syn_lower.specs.QualifiedPaths.{qualified, syntax_of_TypePath}
use Rattle.syn_lower.specs.Types.{tuple_elements}
use Rattle.syn_lower.specs.Falls.{qualified_size}

-- a value, among the values of its list
module _ {T P : Type 0} (v : T → Syntax) where
  pub value_smaller : (l : List (T × P)) (o : Option T) (i : ℕ) (d : T × P) → i < length l → tree_size (v (get_or l i d).0) ≤ values_size v l o
  value_smaller [] o i d h = absurd (omega arith)
  value_smaller (x ∷ l) o zero d h = omega arith
  value_smaller (x ∷ l) o (suc i) d h = omega (arith, value_smaller l o i d (omega (arith, h)))

  pub pairs_smaller : (l : List (T × P)) (o : Option T) → values_size v l None ≤ values_size v l o
  pairs_smaller [] None = omega arith
  pairs_smaller [] (Some t) = omega arith
  pairs_smaller (x ∷ l) o = omega (arith, pairs_smaller l o)

  pub end_smaller : (l : List (T × P)) (o : Option T) → last_size v o ≤ values_size v l o
  end_smaller [] o = omega arith
  end_smaller (x ∷ l) o = omega (arith, end_smaller l o)

  pub last_smaller : (l : List (T × P)) (o : Option T) (t : T) → o ≡ Some t → tree_size (v t) ≤ values_size v l o
  last_smaller l o t e = omega (arith, ap (last_size v) e, end_smaller l o)

-- the values of a list, in each form that lists have
module _ {T P : Type 0} (v : T → Syntax) (w : P → Syntax) where
  pub in_list : (l : List (T × P)) (o : Option T) → values_size v l o ≤ tree_size (list_of v w l o)
  in_list [] None = omega arith
  in_list [] (Some t) = omega arith
  in_list (x ∷ l) o = omega (arith, in_list l o)

  pub in_joined : (l : List (T × P)) (o : Option T) → values_size v l o ≤ tree_size (joined_of v w l o)
  in_joined [] None = omega arith
  in_joined [] (Some t) = omega arith
  in_joined (x ∷ l) o = omega (arith, in_joined l o)

  pub in_ordered : (f : Syntax → Bool) (l : List (T × P)) (o : Option T) → values_size v l o ≤ tree_size (ordered_of f (list_of v w l o))
  in_ordered f [] None = omega arith
  in_ordered f [] (Some t) = omega arith
  in_ordered f (x ∷ l) o = omega (arith, in_ordered f l o)

  pub in_tuple : (l : List (T × P)) (o : Option T) → values_size v l o ≤ tree_size (tuple_elements (list_of v w l o))
  in_tuple [] None = omega arith
  in_tuple [] (Some t) = omega arith
  in_tuple (x ∷ l) o = in_list (x ∷ l) o

pub ruleset lists = (in_list, in_joined, in_ordered, in_tuple)

-- what a path as a type holds
pub qself_smaller : (q p : Syntax) → tree_size q ≤ tree_size (syntax_of_TypePath (Node (Both q p)))
qself_smaller (Left (Both lt (Both ty (Both (Unshown (Mark ((n, sp) ∷ []))) (Both as_token gt))))) (Node (Both leading words)) =
    omega (arith, qualified_size n as_token gt leading words)
qself_smaller (Right Nothing) p = omega arith
qself_smaller q p = omega arith

pub path_smaller : (q p : Syntax) → tree_size p ≤ tree_size (syntax_of_TypePath (Node (Both q p)))
path_smaller (Left (Both lt (Both ty (Both (Unshown (Mark ((n, sp) ∷ []))) (Both as_token gt))))) (Node (Both leading words)) =
    omega (arith, qualified_size n as_token gt leading words)
path_smaller (Right Nothing) p = omega arith
path_smaller q p = omega arith
