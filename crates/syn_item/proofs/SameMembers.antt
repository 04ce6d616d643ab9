-- Members of traits, impls and foreign modules, compared part by part.
use Rattle.std.proofs.Common.{◌≡◌, Bool, true, false, List, Option, Some, None, refl, sym, ap, ap₂, ◌∙◌}
use Rattle.syn_grammar.specs.Words.{semicolon}
use Rattle.syn_grammar.specs.Tokens.{and}
use Rattle.syn_grammar.specs.Grammar.{Syntax, Both, Left, Right, Node, Group, plain_syntax}
use Rattle.syn_grammar.specs.Promises.{itself}
use Rattle.syn_grammar.specs.Same.{same_syntax}
use Rattle.syn_grammar.proofs.Same.{and_assoc, and_false}
use Rattle.syn_tokens.specs.Kinds.{Colon, Plus, Semi, colon_syntax, default_syntax, plus_syntax, semi_syntax}
use Rattle.syn_tokens.specs.Leaves.{maybe}
use Rattle.syn_tokens.specs.Listing.{list_of}
use Rattle.syn_tokens.specs.Lists.{Sequence}
use Rattle.syn_lower.specs.Attributes.{attributes_syntax}
use Rattle.syn_lower.specs.Bodies.{attributes_before_body, attributes_in_body, with_inner}
use Rattle.syn_lower.specs.Bounds.{syntax_of_TypeParamBound}
use Rattle.syn_lower.specs.Generics.{bounds_syntax}
use Rattle.syn_lower.specs.declared.attr.Attribute.{Attribute}
use Rattle.syn_lower.specs.declared.bounds.TypeParamBound.TheVariants as TypeParamBound-m
use Rattle.syn_lower.proofs.Attributes.{same_attributes}
use Rattle.syn_lower.proofs.Bodies.{same_after_three}
use Rattle.syn_lower.proofs.Compared.{reported}
use Rattle.syn_lower.proofs.GenericsCompared.{same_bounds}
use Rattle.syn_item.specs.Macros.{among_items, among_members}
use Rattle.syn_item.specs.Parts.{aside, generics_aside}
use Rattle.syn_item.specs.Simple.{attributes_by_content}
use Rattle.syn_item.specs.Traits.{function_end}
use Rattle.syn_item.proofs.SameParts.{Optional, all_same, listed_same, modifiers, modifiers_aside, same_aside, same_generics_aside, same_or_added, semi_of, turn}

-- A MACRO AMONG OTHERS

pub same_among_members : (s t : Syntax) → same_syntax (among_members s) (among_members t) ≡ same_syntax s t
same_among_members (Both a r) (Both b q) = refl
same_among_members (Both a r) t = refl
same_among_members s (Both b q) = refl
same_among_members s t = refl

pub same_among_items : (s t : Syntax) → same_syntax (among_items s) (among_items t) ≡ same_syntax s t
same_among_items (Both a r) (Both b q) = refl
same_among_items (Both a r) t = refl
same_among_items s (Both b q) = refl
same_among_items s t = refl

-- CONSTANTS of impls

pub same_impl_constant : (l m : List Attribute) (v d c i x : Bool) (s t : Syntax) →
    and (listed_same l m) (and v (and d (and c (and i (and (same_syntax (generics_aside s) (generics_aside t)) x))))) ≡ and (all_same l m) (and v (and d (and c (and i (and (same_syntax s t) x)))))
same_impl_constant l m v d c i x s t = ap₂ (λ y z. and y (and v (and d (and c (and i (and z x)))))) (same_attributes l m) (same_generics_aside s t)

module _ (l m : List Attribute) (a b : Optional) where
  abbrev both_modifiers : Bool
  both_modifiers = modifiers l m a b

  abbrev both_aside : Bool
  both_aside = modifiers_aside l m a b

  -- CONSTANTS of traits
  pub same_trait_constant : (c i x : Bool) (s t : Syntax) →
      and (listed_same l m) (and both_aside (and c (and i (and (same_syntax (generics_aside s) (generics_aside t)) x)))) ≡ and (all_same l m) (and both_modifiers (and c (and i (and (same_syntax s t) x))))
  same_trait_constant c i x s t =
      ap₂ (λ y z. and y (and z (and c (and i (and (same_syntax (generics_aside s) (generics_aside t)) x))))) (same_attributes l m) (same_aside default_syntax a b)
      ∙ ap (λ z. and (all_same l m) (and both_modifiers (and c (and i (and z x))))) (same_generics_aside s t)

  -- TYPES of traits, with a colon and bounds
  pub same_trait_type : (k i g x : Bool) (c d : Option Colon) (s t : Sequence TypeParamBound-m.the_data Plus) →
      and (listed_same l m) (and both_aside (and k (and i (and g (and (same_syntax (bounds_syntax (c, s)) (bounds_syntax (d, t))) x)))))
      ≡ and (all_same l m) (and both_modifiers (and k (and i (and g (and (same_syntax (maybe colon_syntax c) (maybe colon_syntax d)) (and (same_syntax (list_of syntax_of_TypeParamBound plus_syntax s.pairs s.last) (list_of syntax_of_TypeParamBound plus_syntax t.pairs t.last)) x))))))
  same_trait_type k i g x c d s t =
      ap₂ (λ y z. and y (and z (and k (and i (and g (and (same_syntax (bounds_syntax (c, s)) (bounds_syntax (d, t))) x)))))) (same_attributes l m) (same_aside default_syntax a b)
      ∙ ap (λ z. and (all_same l m) (and both_modifiers (and k (and i (and g z)))))
      (ap (λ z. and z x) (same_bounds syntax_of_TypeParamBound c d s.pairs t.pairs s.last t.last)
      ∙ sym (and_assoc (same_syntax (maybe colon_syntax c) (maybe colon_syntax d)) (same_syntax (list_of syntax_of_TypeParamBound plus_syntax s.pairs s.last) (list_of syntax_of_TypeParamBound plus_syntax t.pairs t.last)) x))

-- FUNCTIONS of traits, with a body or without one

-- a body, with inner attributes in its braces
abbrev both_inner : Syntax → Syntax
both_inner (Both inner block) = with_inner inner block
both_inner s = s

abbrev of_inner : Syntax → Syntax
of_inner (Node (Group d o c (Both inner s))) = Both inner (Node (Group d o c s))
of_inner s = s

plain_inner : (inner s : Syntax) → plain_syntax (with_inner inner s) ≡ both_inner (plain_syntax (Both inner s))
plain_inner inner (Node (Group d o c s)) = refl
plain_inner inner s = refl

known_inner : (inner s : Syntax) → of_inner (plain_syntax (with_inner inner s)) ≡ plain_syntax (Both inner s)
known_inner inner (Node (Group d o c s)) = refl
known_inner inner s = refl

same_inner : (i j s t : Syntax) → same_syntax (with_inner i s) (with_inner j t) ≡ and (same_syntax i j) (same_syntax s t)
same_inner i j s t = reported both_inner of_inner (with_inner i s) (with_inner j t) (Both i s) (Both j t) (plain_inner i s) (plain_inner j t) (known_inner i s) (known_inner j t)

module _ (l m : List Attribute) (a b : Optional) where
  abbrev attributes_in : Option Syntax → List Attribute → Syntax
  attributes_in c k = attributes_by_content (maybe itself c) (attributes_before_body k) (attributes_syntax k)

  abbrev following_signature : Option Syntax → List Attribute → Option Semi → Syntax
  following_signature c k o = function_end (attributes_in_body k) (maybe itself c) (semi_of o)

  none_same : (x y z : Bool) → and x (and y (and z false)) ≡ false
  none_same x true true = and_false x
  none_same x true false = and_false x
  none_same x false z = and_false x

  pub same_trait_function : (c d : Option Syntax) (o q : Option Semi) (s : Bool) →
      and (same_syntax (attributes_in c l) (attributes_in d m)) (and (modifiers_aside l m a b) (and s (same_syntax (following_signature c l o) (following_signature d m q))))
      ≡ and (all_same l m) (and (modifiers l m a b) (and s (and (same_syntax (maybe itself c) (maybe itself d)) (same_syntax (semi_of o) (semi_of q)))))
  same_trait_function None None o q s =
      ap₂ (λ y z. and y (and z (and s (same_syntax (following_signature None l o) (following_signature None m q))))) (same_attributes l m) (same_aside default_syntax a b)
      ∙ ap (λ z. and (all_same l m) (and (modifiers l m a b) (and s z))) (same_or_added o q)
  same_trait_function None (Some y) o q s = none_same _ (modifiers_aside l m a b) s ∙ sym (none_same (all_same l m) (modifiers l m a b) s)
  same_trait_function (Some x) None o q s = none_same _ (modifiers_aside l m a b) s ∙ sym (none_same (all_same l m) (modifiers l m a b) s)
  same_trait_function (Some x) (Some y) o q s =
      ap (λ z. and (same_syntax (attributes_before_body l) (attributes_before_body m)) (and (modifiers_aside l m a b) (and s (and (same_syntax (aside (semi_of o)) (aside (semi_of q))) z)))) (same_inner (attributes_in_body l) (attributes_in_body m) x y)
      ∙ same_after_three l m (modifiers_aside l m a b) s (same_syntax (aside (semi_of o)) (aside (semi_of q))) (same_syntax x y)
      ∙ ap₂ (λ z w. and (all_same l m) (and z (and s w))) (same_aside default_syntax a b)
      (ap (λ z. and z (same_syntax x y)) (same_aside semi_syntax o q) ∙ turn (same_syntax (semi_of o) (semi_of q)) (same_syntax x y))
