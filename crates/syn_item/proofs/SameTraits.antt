-- Traits, compared part by part; and many parts between attributes before a body and those in it.
use Rattle.std.proofs.Common.{◌≡◌, Bool, true, false, List, [], ◌∷◌, Option, refl, sym, ap, ap₂, ◌∙◌}
use Rattle.syn_grammar.specs.Tokens.{and}
use Rattle.syn_grammar.specs.Grammar.{Syntax}
use Rattle.syn_grammar.specs.Same.{same_syntax}
use Rattle.syn_grammar.proofs.Same.{and_assoc, and_false}
use Rattle.syn_tokens.specs.InOrder.{in_order}
use Rattle.syn_tokens.specs.Kinds.{Colon, Plus, colon_syntax, plus_syntax}
use Rattle.syn_tokens.specs.Leaves.{maybe}
use Rattle.syn_tokens.specs.Listing.{list_of}
use Rattle.syn_tokens.specs.Lists.{Sequence}
use Rattle.syn_lower.specs.Bodies.{attributes_before_body, attributes_in_body}
use Rattle.syn_lower.specs.Bounds.{syntax_of_TypeParamBound}
use Rattle.syn_lower.specs.Generics.{bounds_syntax}
use Rattle.syn_lower.specs.declared.attr.Attribute.{Attribute}
use Rattle.syn_lower.specs.declared.bounds.TypeParamBound.TheVariants as TypeParamBound-m
use Rattle.syn_lower.proofs.Bodies.{same_after_five}
use Rattle.syn_lower.proofs.GenericsCompared.{same_bounds}
use Rattle.syn_item.specs.Parts.{members_of}
use Rattle.syn_item.proofs.SameParts.{all_same}

-- MEMBERS to the end of a group, and in a vector

pub same_members : {T : Type 0} (view : T → Syntax) (l m : List T) → same_syntax (members_of view l) (members_of view m) ≡ same_syntax (in_order view l) (in_order view m)
same_members view [] [] = refl
same_members view [] (y ∷ m) = refl
same_members view (x ∷ l) [] = refl
same_members view (x ∷ l) (y ∷ m) = ap (and (same_syntax (view x) (view y))) (same_members view l m)

-- NINE PARTS

module _ (l m : List Attribute) where
  abbrev pub before : Bool
  before = same_syntax (attributes_before_body l) (attributes_before_body m)

  abbrev pub inside : Bool
  inside = same_syntax (attributes_in_body l) (attributes_in_body m)

  after_six : (a b c d e f y : Bool) → and before (and a (and b (and c (and d (and e (and f (and inside y))))))) ≡ and (all_same l m) (and a (and b (and c (and d (and e (and f y))))))
  after_six true b c d e f y = same_after_five l m b c d e f y
  after_six false b c d e f y = and_false before ∙ sym (and_false (all_same l m))

  after_seven : (a b c d e f g y : Bool) → and before (and a (and b (and c (and d (and e (and f (and g (and inside y)))))))) ≡ and (all_same l m) (and a (and b (and c (and d (and e (and f (and g y)))))))
  after_seven true b c d e f g y = after_six b c d e f g y
  after_seven false b c d e f g y = and_false before ∙ sym (and_false (all_same l m))

  after_eight : (a b c d e f g h y : Bool) →
      and before (and a (and b (and c (and d (and e (and f (and g (and h (and inside y))))))))) ≡ and (all_same l m) (and a (and b (and c (and d (and e (and f (and g (and h y))))))))
  after_eight true b c d e f g h y = after_seven b c d e f g h y
  after_eight false b c d e f g h y = and_false before ∙ sym (and_false (all_same l m))

  pub after_nine : (a b c d e f g h i y : Bool) →
      and before (and a (and b (and c (and d (and e (and f (and g (and h (and i (and inside y)))))))))) ≡ and (all_same l m) (and a (and b (and c (and d (and e (and f (and g (and h (and i y)))))))))
  after_nine true b c d e f g h i y = after_eight b c d e f g h i y
  after_nine false b c d e f g h i y = and_false before ∙ sym (and_false (all_same l m))

  -- A TRAIT, with a colon and bounds, a where clause and members

  abbrev Bounds : Type 0
  Bounds = Sequence TypeParamBound-m.the_data Plus

  abbrev listed : Bounds → Syntax
  listed s = list_of syntax_of_TypeParamBound plus_syntax s.pairs s.last

  pub same_trait : {T : Type 0} (view : T → Syntax) (v k u t w i g z : Bool) (c d : Option Colon) (s r : Bounds) (x y : List T) →
      and before (and v (and k (and u (and t (and w (and i (and g (and (same_syntax (bounds_syntax (c, s)) (bounds_syntax (d, r))) (and z (and inside (same_syntax (members_of view x) (members_of view y))))))))))))
      ≡ and (all_same l m) (and v (and k (and u (and t (and w (and i (and g (and (same_syntax (maybe colon_syntax c) (maybe colon_syntax d)) (and (same_syntax (listed s) (listed r)) (and z (same_syntax (in_order view x) (in_order view y))))))))))))
  same_trait view v k u t w i g z c d s r x y =
      after_nine v k u t w i g (same_syntax (bounds_syntax (c, s)) (bounds_syntax (d, r))) z (same_syntax (members_of view x) (members_of view y))
      ∙ ap₂ (λ e f. and (all_same l m) (and v (and k (and u (and t (and w (and i (and g (and e (and z f)))))))))) (same_bounds syntax_of_TypeParamBound c d s.pairs r.pairs s.last r.last) (same_members view x y)
      ∙ ap (λ e. and (all_same l m) (and v (and k (and u (and t (and w (and i (and g e))))))))
      (sym (and_assoc (same_syntax (maybe colon_syntax c) (maybe colon_syntax d)) (same_syntax (listed s) (listed r)) (and z (same_syntax (in_order view x) (in_order view y)))))
