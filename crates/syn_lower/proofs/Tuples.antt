-- The types of a tuple: unless it is one type without a comma, they are printed as they are.
use Rattle.std.proofs.Common.{◌≡◌, ◌≢◌, ◌⊎◌, inl, inr, List, [], ◌∷◌, Option, Some, None, refl}
use Rattle.syn_tokens.specs.Kinds.{Comma, comma_syntax}
use Rattle.syn_tokens.specs.Listing.{list_of}
use Rattle.syn_lower.specs.Types.{syntax_of_Type, tuple_elements}
use Rattle.syn_lower.specs.declared.ty.Type.TheVariants as Type-m

pub tuple_list : (l : List (Type-m.the_data × Comma)) (o : Option Type-m.the_data) → (l ≢ []) ⊎ (o ≡ None) →
    tuple_elements (list_of syntax_of_Type comma_syntax l o) ≡ list_of syntax_of_Type comma_syntax l o
tuple_list [] None h = refl
tuple_list [] (Some t) (inl n) = absurd (n refl)
tuple_list [] (Some t) (inr e) = absurd (cc e)
tuple_list (x ∷ l) o h = refl
