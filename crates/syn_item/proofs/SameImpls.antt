-- Impls, compared part by part.
use Rattle.std.proofs.Common.{◌≡◌, Bool, true, false, List, Option, Some, None, refl, sym, subst, ap, ap₂, ◌∙◌}
use Rattle.syn_grammar.specs.Tokens.{Brace, and, answers, at_generics, lookahead, or, pick}
use Rattle.syn_grammar.specs.SelfTypes.{self_types}
use Rattle.syn_grammar.specs.Rules.{self_type}
use Rattle.syn_grammar.specs.Shape.{untagged}
use Rattle.syn_grammar.specs.Grammar.{Syntax, Nothing, Both, Left, Right, Node, Case, Order, Shaped, Such, Vanishing, among, led_part, plain_syntax, renew, show}
use Rattle.syn_grammar.specs.Promises.{itself}
use Rattle.syn_grammar.specs.Same.{same_syntax}
use Rattle.syn_grammar.proofs.Plain.{renew_plain, show_plain}
use Rattle.syn_grammar.proofs.Same.{and_false}
use Rattle.syn_grammar.proofs.Streams.{lookahead_plain}
use Rattle.syn_tokens.specs.InOrder.{in_order, pair_of}
use Rattle.syn_tokens.specs.Kinds.{Brace as Braces, For, Not, for_syntax, not_syntax}
use Rattle.syn_tokens.specs.Leaves.{maybe}
use Rattle.syn_lower.specs.Bodies.{attributes_in_body}
use Rattle.syn_lower.specs.Generics.{as_row, parameters_of, sign_of, view_Generics}
use Rattle.syn_lower.specs.Parts.{first, group_syntax}
use Rattle.syn_lower.specs.declared.attr.Attribute.{Attribute}
use Rattle.syn_lower.specs.declared.generics.Generics.TheInside as Generics-in
use Rattle.syn_lower.proofs.Compared.{reported}
use Rattle.syn_item.specs.Impls.{for_type, implemented, inherent, is_shaped, kept_list, without_self_type}
use Rattle.syn_item.specs.Parts.{members_of}
use Rattle.syn_item.proofs.SameParts.{all_same}
use Rattle.syn_item.proofs.SameTraits.{before, after_nine, inside, same_members}

-- A PART WITHOUT A SELF TYPE: spans don't decide whether one would be found

led_part_plain : (s : Syntax) → led_part (plain_syntax s) ≡ led_part s
led_part_plain (Both s t) = ap₂ or (led_part_plain s) (led_part_plain t)
led_part_plain (Left s) = led_part_plain s
led_part_plain (Right s) = led_part_plain s
led_part_plain (Node s) = led_part_plain s
led_part_plain (Case k s) = ap₂ (λ v z. or (and (among k self_types) (answers at_generics v)) z) (ap lookahead (show_plain s) ∙ lookahead_plain (show s)) (led_part_plain s)
led_part_plain (Such s) = led_part_plain s
led_part_plain _ = refl

found_plain : (s : Syntax) → led_part (renew (plain_syntax s)) ≡ led_part (renew s)
found_plain s = ap led_part (renew_plain s) ∙ led_part_plain (renew s)

shaped_plain : (s : Syntax) → is_shaped (plain_syntax s) ≡ is_shaped s
shaped_plain (Shaped j s) = refl
shaped_plain s = refl

plain_without : (s : Syntax) → plain_syntax (without_self_type s) ≡ without_self_type (plain_syntax s)
plain_without s =
    go (or (is_shaped s) (led_part (renew s)))
    ∙ sym (ap₂ (λ a b. pick (or a b) (Shaped untagged (plain_syntax s)) (plain_syntax s)) (shaped_plain s) (found_plain s))
  where
    go : (b : Bool) → plain_syntax (pick b (Shaped untagged s) s) ≡ pick b (Shaped untagged (plain_syntax s)) (plain_syntax s)
    go true = refl
    go false = refl

abbrev bared : Syntax → Syntax
bared (Shaped j s) = s
bared s = s

known_by : (s : Syntax) (b : Bool) → bared (plain_syntax (pick (or (is_shaped s) b) (Shaped untagged s) s)) ≡ plain_syntax s
known_by (Shaped j s) b = refl
known_by s true = refl
known_by s false = refl

known_without : (s : Syntax) → bared (plain_syntax (without_self_type s)) ≡ plain_syntax s
known_without s = known_by s (led_part (renew s))

same_without : (s t : Syntax) → same_syntax (without_self_type s) (without_self_type t) ≡ same_syntax s t
same_without s t = reported without_self_type bared (without_self_type s) (without_self_type t) s t (plain_without s) (plain_without t) (known_without s) (known_without t)

-- AFTER THE GENERICS

abbrev parts : Syntax → Syntax → Syntax → Syntax → Syntax
parts polarity trait_path ty rest = Both polarity (Both trait_path (Both ty rest))

abbrev both_implemented : Syntax → Syntax
both_implemented (Both polarity (Both trait_path (Both ty rest))) = implemented polarity trait_path ty rest
both_implemented s = s

abbrev of_inherent : Syntax → Syntax → Syntax
of_inherent ty rest = parts (Right Nothing) (Right Nothing) ty rest

abbrev of_implemented : Syntax → Syntax
of_implemented (Left (Both bang (Left rest))) = of_inherent (Node (Right (Right (Right (Right (Left (bared bang))))))) rest
of_implemented (Left (Both bang (Right (Both path (Both (Node (Both sign (Case k ty))) rest))))) = parts (Left bang) (Left (Both (bared path) sign)) (bared ty) rest
of_implemented (Left (Both bang (Both ty rest))) = parts (Left bang) (Right Nothing) (bared ty) rest
of_implemented (Right (Left (Both path (Both (Right Nothing) rest)))) = of_inherent (Node (Right (Right (Right (Right (Right (Right (Node (Right (bared path)))))))))) rest
of_implemented (Right (Left (Both path (Both (Left (Node (Both sign (Case k ty)))) rest)))) = parts (Right Nothing) (Left (Both (bared path) sign)) (bared ty) rest
of_implemented (Right (Right (Both ty rest))) = of_inherent (bared ty) rest
of_implemented s = s

plain_inherent : (ty rest : Syntax) → plain_syntax (inherent ty rest) ≡ inherent (plain_syntax ty) (plain_syntax rest)
plain_inherent (Node (Right (Right (Right (Right (Left bang)))))) rest = ap (λ z. Left (Both z (Left (plain_syntax rest)))) (plain_without bang)
plain_inherent (Node (Right (Right (Right (Right (Right (Right (Node (Right path))))))))) rest = ap (λ z. Right (Left (Both z (Both (Right Nothing) (plain_syntax rest))))) (plain_without path)
plain_inherent ty rest = ap (λ z. Right (Right (Both z (plain_syntax rest)))) (plain_without ty)

known_inherent : (ty rest : Syntax) → of_implemented (plain_syntax (inherent ty rest)) ≡ of_inherent (plain_syntax ty) (plain_syntax rest)
known_inherent (Node (Right (Right (Right (Right (Left bang)))))) rest = ap (λ z. of_inherent (Node (Right (Right (Right (Right (Left z)))))) (plain_syntax rest)) (known_without bang)
known_inherent (Node (Right (Right (Right (Right (Right (Right (Node (Right path))))))))) rest =
    ap (λ z. of_inherent (Node (Right (Right (Right (Right (Right (Right (Node (Right z))))))))) (plain_syntax rest)) (known_without path)
known_inherent ty rest = ap (λ z. of_inherent z (plain_syntax rest)) (known_without ty)

abbrev of_trait : Option (Syntax × For) → Syntax
of_trait o = maybe (pair_of itself for_syntax) o

abbrev polarity_of : Option Not → Syntax
polarity_of q = maybe not_syntax q

plain_implemented : (q : Option Not) (o : Option (Syntax × For)) (ty rest : Syntax) →
    plain_syntax (implemented (polarity_of q) (of_trait o) ty rest) ≡ both_implemented (plain_syntax (parts (polarity_of q) (of_trait o) ty rest))
plain_implemented None None ty rest = plain_inherent ty rest
plain_implemented None (Some p) ty rest =
    ap₂ (λ y z. Right (Left (Both y (Both (Left (Node (Both (plain_syntax (for_syntax p.1)) (Case self_type z)))) (plain_syntax rest))))) (plain_without p.0) (plain_without ty)
plain_implemented (Some m) None ty rest = ap (λ z. Left (Both (plain_syntax (not_syntax m)) (Both z (plain_syntax rest)))) (plain_without ty)
plain_implemented (Some m) (Some p) ty rest =
    ap₂ (λ y z. Left (Both (plain_syntax (not_syntax m)) (Right (Both y (Both (Node (Both (plain_syntax (for_syntax p.1)) (Case self_type z))) (plain_syntax rest)))))) (plain_without p.0) (plain_without ty)

known_implemented : (q : Option Not) (o : Option (Syntax × For)) (ty rest : Syntax) →
    of_implemented (plain_syntax (implemented (polarity_of q) (of_trait o) ty rest)) ≡ plain_syntax (parts (polarity_of q) (of_trait o) ty rest)
known_implemented None None ty rest = known_inherent ty rest
known_implemented None (Some p) ty rest = ap₂ (λ y z. parts (Right Nothing) (Left (Both y (plain_syntax (for_syntax p.1)))) z (plain_syntax rest)) (known_without p.0) (known_without ty)
known_implemented (Some m) None ty rest = ap (λ z. parts (Left (plain_syntax (not_syntax m))) (Right Nothing) z (plain_syntax rest)) (known_without ty)
known_implemented (Some m) (Some p) ty rest =
    ap₂ (λ y z. parts (Left (plain_syntax (not_syntax m))) (Left (Both y (plain_syntax (for_syntax p.1)))) z (plain_syntax rest)) (known_without p.0) (known_without ty)

same_implemented : (q r : Option Not) (o p : Option (Syntax × For)) (s t x y : Syntax) →
    same_syntax (implemented (polarity_of q) (of_trait o) s x) (implemented (polarity_of r) (of_trait p) t y)
    ≡ and (same_syntax (polarity_of q) (polarity_of r)) (and (same_syntax (of_trait o) (of_trait p)) (and (same_syntax s t) (same_syntax x y)))
same_implemented q r o p s t x y =
    reported both_implemented of_implemented (implemented (polarity_of q) (of_trait o) s x) (implemented (polarity_of r) (of_trait p) t y) (parts (polarity_of q) (of_trait o) s x) (parts (polarity_of r) (of_trait p) t y)
    (plain_implemented q o s x) (plain_implemented r p t y) (known_implemented q o s x) (known_implemented r p t y)

-- AN IMPL

-- the polarity, one of the modifiers
moved : (d c u i g p x : Bool) → and d (and c (and u (and i (and g (and p x))))) ≡ and (and d (and c p)) (and u (and i (and g x)))
moved false c u i g p x = refl
moved true false u i g p x = refl
moved true true u i g true x = refl
moved true true u i g false x = ap (λ z. and u (and i z)) (and_false g) ∙ ap (and u) (and_false i) ∙ and_false u

module _ {T : Type 0} (view : T → Syntax) where
  abbrev ending : List Attribute → Syntax → Braces → List T → Syntax
  ending l clause b x = Node (Both (without_self_type clause) (group_syntax Brace b (Both (attributes_in_body l) (members_of view x))))

  pub same_impl : (l m : List Attribute) (d c u i g : Bool) (q r : Option Not) (o p : Option (Syntax × For)) (s t e f : Syntax) (a b : Braces) (x y : List T) →
      and (before l m) (and d (and c (and u (and i (and g (same_syntax (implemented (polarity_of q) (of_trait o) s (ending l e a x)) (implemented (polarity_of r) (of_trait p) t (ending m f b y))))))))
      ≡ and (all_same l m) (and (and d (and c (same_syntax (polarity_of q) (polarity_of r)))) (and u (and i (and g (and (same_syntax (of_trait o) (of_trait p)) (and (same_syntax s t) (and (same_syntax e f) (same_syntax (in_order view x) (in_order view y)))))))))
  same_impl l m d c u i g q r o p s t e f a b x y =
      ap (λ z. and (before l m) (and d (and c (and u (and i (and g z)))))) (same_implemented q r o p s t (ending l e a x) (ending m f b y))
      ∙ ap₂ (λ z w. and (before l m) (and d (and c (and u (and i (and g (and bang (and path (and types (and z (and (inside l m) w))))))))))) (same_without e f) (same_members view x y)
      ∙ after_nine l m d c u i g bang path types (same_syntax e f) (same_syntax (in_order view x) (in_order view y))
      ∙ ap (and (all_same l m)) (moved d c u i g bang (and path (and types (and (same_syntax e f) (same_syntax (in_order view x) (in_order view y))))))
    where
      bang : Bool
      bang = same_syntax (polarity_of q) (polarity_of r)

      path : Bool
      path = same_syntax (of_trait o) (of_trait p)

      types : Bool
      types = same_syntax s t

-- PARAMETERS, without the mark that they aren't printed where they are empty

marked : (a p c : Syntax) → (x : Syntax) × (parameters_of a p c ≡ Node (Vanishing false x))
marked (Right s) (Node (Left Nothing)) (Right t) = (Right Nothing, refl)
marked a p c = (Left (Order (sign_of a) (as_row p) (sign_of c)), refl)

kept_alike : (s t : Syntax) → ((x : Syntax) × (s ≡ Node (Vanishing false x))) → ((y : Syntax) × (t ≡ Node (Vanishing false y))) → same_syntax (kept_list s) (kept_list t) ≡ same_syntax s t
kept_alike s t (x, e) (y, f) = ap₂ (λ v w. same_syntax (kept_list v) (kept_list w)) e f ∙ sym (ap₂ same_syntax e f)

pub same_kept : (a b : Generics-in.Inside) (g h : Syntax) → view_Generics a ≡ g → view_Generics b ≡ h → same_syntax (kept_list (first g)) (kept_list (first h)) ≡ same_syntax (first g) (first h)
same_kept a b g h e f = kept_alike (first g) (first h) (listed a g e) (listed b h f)
  where
    listed : (a : Generics-in.Inside) (g : Syntax) → view_Generics a ≡ g → (x : Syntax) × (first g ≡ Node (Vanishing false x))
    listed a g e = let (x, i) = marked _ _ _ in (x, ap first (sym e) ∙ i)
