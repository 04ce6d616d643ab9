-- Lists whose values represent the same syntax in order.
use Rattle.std.proofs.Common.{◌≡◌, List, [], ◌∷◌, map, Option, Some, None, refl, sym, ap, ap₂, ◌∙◌}
use Rattle.std.specs.Option.{option_map}
use Rattle.syn_grammar.specs.Grammar.{Syntax, Nothing, Node, Left, Right, Both}
use Rattle.syn_tokens.specs.InOrder.{in_order, pair_of}
use Rattle.syn_tokens.specs.Listing.{listed, list_of, joined_of, untagged}

-- values in order represent what they represent alone
in_order_of : {T : Type 0} (v : T → Syntax) (l : List T) → in_order v l ≡ in_order (λ s. s) (map v l)
in_order_of v [] = refl
in_order_of v (x ∷ l) = ap (Both (v x)) (in_order_of v l)

pub copied_in_order : {T : Type 0} (v : T → Syntax) (l m : List T) → map v l ≡ map v m → in_order v l ≡ in_order v m
copied_in_order v l m e = in_order_of v l ∙ ap (in_order (λ s. s)) e ∙ sym (in_order_of v m)

first_of : Syntax → Syntax
first_of (Both s t) = s
first_of s = s

second_of : Syntax → Syntax
second_of (Both s t) = t
second_of s = s

module _ {T P : Type 0} (v : T → Syntax) (w : P → Syntax) where
  module _ (tag : Syntax → Syntax) (empty : Syntax) where
    row : List Syntax → Option Syntax → Syntax
    row [] None = empty
    row [] (Some t) = Node (tag (Both t (Right Nothing)))
    row (x ∷ l) o = Node (tag (Both (first_of x) (Left (Both (second_of x) (row l o)))))

    as_row : (l : List (T × P)) (o : Option T) → listed tag v w empty l o ≡ row (map (pair_of v w) l) (option_map v o)
    unfolding row first_of second_of
    as_row [] None = refl
    as_row [] (Some t) = refl
    as_row (x ∷ l) o = ap (λ z. Node (tag (Both (v x.0) (Left (Both (w x.1) z))))) (as_row l o)

    alike : (l m : List (T × P)) (o q : Option T) → map (pair_of v w) l ≡ map (pair_of v w) m → option_map v o ≡ option_map v q → listed tag v w empty l o ≡ listed tag v w empty m q
    alike l m o q e f = as_row l o ∙ ap₂ row e f ∙ sym (as_row m q)

  pub copied_list : (l m : List (T × P)) (o q : Option T) → map (pair_of v w) l ≡ map (pair_of v w) m → option_map v o ≡ option_map v q → list_of v w l o ≡ list_of v w m q
  copied_list = alike Right (Node (Left Nothing))

  pub copied_joined : (l m : List (T × P)) (o q : Option T) → map (pair_of v w) l ≡ map (pair_of v w) m → option_map v o ≡ option_map v q → joined_of v w l o ≡ joined_of v w m q
  copied_joined = alike untagged Nothing
