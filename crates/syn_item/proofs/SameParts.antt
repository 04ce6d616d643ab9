-- The odd forms of views of items, compared part by part: each has an inverse, as far as spans don't count.
use Rattle.std.proofs.Common.{◌≡◌, Bool, true, false, List, Option, Some, None, refl, sym, ap, ap₂, ◌∙◌}
use Rattle.syn_grammar.specs.Words.{semicolon}
use Rattle.syn_grammar.specs.Tokens.{and, call_site}
use Rattle.syn_grammar.specs.Grammar.{Syntax, Nothing, Mark, Both, Left, Right, Node, Vanishing, Group, Such, Unshown, plain_syntax}
use Rattle.syn_grammar.specs.Same.{same_syntax}
use Rattle.syn_grammar.specs.UseGroups.{rooted, unrooted}
use Rattle.syn_grammar.proofs.Same.{and_assoc, and_false, and_true}
use Rattle.syn_tokens.specs.InOrder.{in_order}
use Rattle.syn_tokens.specs.Kinds.{Brace, Default, PathSep, Semi, default_syntax, path_sep_syntax, semi_syntax}
use Rattle.syn_tokens.specs.Leaves.{maybe}
use Rattle.syn_lower.specs.Attributes.{attributes_syntax, syntax_of_Attribute}
use Rattle.syn_lower.specs.Bodies.{attributes_before_body, attributes_in_body}
use Rattle.syn_lower.specs.Generics.{no_clause}
use Rattle.syn_lower.specs.Parts.{or_added}
use Rattle.syn_lower.specs.declared.attr.Attribute.{Attribute}
use Rattle.syn_lower.proofs.Attributes.{same_attributes}
use Rattle.syn_lower.proofs.Bodies.{same_after_five, same_after_three}
use Rattle.syn_lower.proofs.Compared.{reported}
use Rattle.syn_item.specs.Parts.{aside, generics_aside}
use Rattle.syn_item.specs.Simple.{aliased, attributes_by_content, content_syntax, module_content, place_aside, syntax_of_WhereClausePlacement}
use Rattle.syn_item.specs.Uses.{used}
use Rattle.syn_item.specs.declared.simple.WhereClausePlacement.TheVariants as WhereClausePlacement-m

-- ATTRIBUTES of both

abbrev pub all_same : List Attribute → List Attribute → Bool
all_same l m = same_syntax (in_order syntax_of_Attribute l) (in_order syntax_of_Attribute m)

abbrev pub listed_same : List Attribute → List Attribute → Bool
listed_same l m = same_syntax (attributes_syntax l) (attributes_syntax m)

-- WHAT IS NEVER PRINTED

abbrev pub Optional : Type 0
Optional = Option Default

pub same_aside : {T : Type 0} (v : T → Syntax) (o q : Option T) → same_syntax (aside (maybe v o)) (aside (maybe v q)) ≡ same_syntax (maybe v o) (maybe v q)
same_aside v None None = refl
same_aside v None (Some y) = refl
same_aside v (Some x) None = refl
same_aside v (Some x) (Some y) = refl

-- generics
abbrev of_generics : Syntax → Syntax
of_generics (Unshown Nothing) = Both no_clause (Unshown Nothing)
of_generics (Unshown (Left s)) = s
of_generics s = s

plain_generics : (s : Syntax) → plain_syntax (generics_aside s) ≡ generics_aside (plain_syntax s)
plain_generics (Both (Node (Vanishing false (Right Nothing))) (Unshown Nothing)) = refl
plain_generics s = refl

known_generics : (s : Syntax) → of_generics (plain_syntax (generics_aside s)) ≡ plain_syntax s
known_generics (Both (Node (Vanishing false (Right Nothing))) (Unshown Nothing)) = refl
known_generics s = refl

pub same_generics_aside : (s t : Syntax) → same_syntax (generics_aside s) (generics_aside t) ≡ same_syntax s t
same_generics_aside s t = reported generics_aside of_generics (generics_aside s) (generics_aside t) s t (plain_generics s) (plain_generics t) (known_generics s) (known_generics t)

-- CONSTANTS, with their modifiers and generics

module _ (l m : List Attribute) (a b : Optional) where
  abbrev pub modifiers : Bool
  modifiers = same_syntax (maybe default_syntax a) (maybe default_syntax b)

  abbrev pub modifiers_aside : Bool
  modifiers_aside = same_syntax (aside (maybe default_syntax a)) (aside (maybe default_syntax b))

  -- after attributes and a visibility
  pub same_modified : (v x : Bool) → and (listed_same l m) (and v (and modifiers_aside x)) ≡ and (all_same l m) (and v (and modifiers x))
  same_modified v x = ap₂ (λ c d. and c (and v (and d x))) (same_attributes l m) (same_aside default_syntax a b)

  pub same_constant : (v c i x : Bool) (s t : Syntax) → and (listed_same l m) (and v (and modifiers_aside (and c (and i (and (same_syntax (generics_aside s) (generics_aside t)) x))))) ≡ and (all_same l m) (and v (and modifiers (and c (and i (and (same_syntax s t) x)))))
  same_constant v c i x s t = same_modified v _ ∙ ap (λ d. and (all_same l m) (and v (and modifiers (and c (and i (and d x)))))) (same_generics_aside s t)

  -- FUNCTIONS
  pub same_function : (v s y : Bool) → and (same_syntax (attributes_before_body l) (attributes_before_body m)) (and v (and modifiers_aside (and s (and (same_syntax (attributes_in_body l) (attributes_in_body m)) y)))) ≡ and (all_same l m) (and v (and modifiers (and s y)))
  same_function v s y = same_after_three l m v modifiers_aside s y ∙ ap (λ d. and (all_same l m) (and v (and d (and s y)))) (same_aside default_syntax a b)

-- A TREE OF A USE, with `::` before it or without it

plain_rooted : (s : Syntax) → plain_syntax (rooted s) ≡ rooted (plain_syntax s)
plain_rooted (Right (Both (Node t) (Left (Both c (Node l))))) = ap₂ (λ x y. Right (Both (Node x) (Left (Both (plain_syntax c) (Node y))))) (plain_rooted t) (plain_rooted l)
plain_rooted (Right (Both (Node t) (Right s))) = ap (λ x. Right (Both (Node x) (Right (plain_syntax s)))) (plain_rooted t)
plain_rooted (Right (Left (Group d o c (Node l)))) = ap (λ x. Right (Left (Group d call_site call_site (Node x)))) (plain_rooted l)
plain_rooted (Right (Right s)) = refl
plain_rooted (Left (Mark xs)) = refl
plain_rooted s = refl

known_rooted : (s : Syntax) → unrooted (plain_syntax (rooted s)) ≡ plain_syntax s
known_rooted (Right (Both (Node t) (Left (Both c (Node l))))) = ap₂ (λ x y. Right (Both (Node x) (Left (Both (plain_syntax c) (Node y))))) (known_rooted t) (known_rooted l)
known_rooted (Right (Both (Node t) (Right s))) = ap (λ x. Right (Both (Node x) (Right (plain_syntax s)))) (known_rooted t)
known_rooted (Right (Left (Group d o c (Node l)))) = ap (λ x. Right (Left (Group d call_site call_site (Node x)))) (known_rooted l)
known_rooted (Right (Right s)) = refl
known_rooted (Left (Mark xs)) = refl
known_rooted s = refl

abbrev both_used : Syntax → Syntax
both_used (Both sign tree) = used sign tree
both_used s = s

abbrev of_used : Syntax → Syntax
of_used (Left (Such (Group d o c (Node l)))) = Both (Right Nothing) (Node (Right (Left (Group d o c (Node (unrooted l))))))
of_used (Right s) = s
of_used s = s

abbrev sign_of : Option PathSep → Syntax
sign_of = maybe path_sep_syntax

plain_used : (o : Option PathSep) (t : Syntax) → plain_syntax (used (sign_of o) t) ≡ both_used (plain_syntax (Both (sign_of o) t))
plain_used (Some sign) t = refl
plain_used None (Node (Right (Left (Group d o c (Node l))))) = ap (λ x. Left (Such (Group d call_site call_site (Node x)))) (plain_rooted l)
plain_used None t = refl

known_used : (o : Option PathSep) (t : Syntax) → of_used (plain_syntax (used (sign_of o) t)) ≡ plain_syntax (Both (sign_of o) t)
known_used (Some sign) t = refl
known_used None (Node (Right (Left (Group d o c (Node l))))) = ap (λ x. Both (Right Nothing) (Node (Right (Left (Group d call_site call_site (Node x)))))) (known_rooted l)
known_used None t = refl

pub same_used : (o q : Option PathSep) (s t : Syntax) → same_syntax (used (sign_of o) s) (used (sign_of q) t) ≡ and (same_syntax (sign_of o) (sign_of q)) (same_syntax s t)
same_used o q s t = reported both_used of_used (used (sign_of o) s) (used (sign_of q) t) (Both (sign_of o) s) (Both (sign_of q) t) (plain_used o s) (plain_used q t) (known_used o s) (known_used q t)

pub same_use : (l m : List Attribute) (o q : Option PathSep) (s t : Syntax) (v u x : Bool) →
    and (listed_same l m) (and v (and u (and (same_syntax (used (sign_of o) s) (used (sign_of q) t)) x))) ≡ and (all_same l m) (and v (and u (and (same_syntax (sign_of o) (sign_of q)) (and (same_syntax s t) x))))
same_use l m o q s t v u x =
    ap₂ (λ c d. and c (and v (and u (and d x)))) (same_attributes l m) (same_used o q s t)
    ∙ ap (λ d. and (all_same l m) (and v (and u d))) (sym (and_assoc (same_syntax (sign_of o) (sign_of q)) (same_syntax s t) x))

-- A TYPE ALIAS, with its where clause before `=` or after the type

abbrev place_of : WhereClausePlacement-m.the_data → Syntax
place_of = syntax_of_WhereClausePlacement

abbrev placed_parts : Syntax → Syntax
placed_parts (Both place (Both clause (Both sign ty))) = Both (place_aside place clause) (aliased place clause sign ty)
placed_parts s = s

abbrev of_placed : Syntax → Syntax
of_placed (Both (Unshown place) (Such (Both (Node (Vanishing false (Right Nothing))) (Both sign (Both ty (Node (Vanishing false (Right Nothing)))))))) = Both place (Both no_clause (Both sign ty))
of_placed (Both place (Such (Both clause (Both sign (Both ty (Node (Vanishing false (Right Nothing)))))))) = Both Nothing (Both clause (Both sign ty))
of_placed (Both place (Such (Both early_one (Both sign (Both ty clause))))) = Both (Right Nothing) (Both clause (Both sign ty))
of_placed s = s

module _ (sign ty : Syntax) where
  abbrev parts : WhereClausePlacement-m.the_data → Syntax → Syntax
  parts p clause = Both (place_of p) (Both clause (Both sign ty))

  plain_placed : (p : WhereClausePlacement-m.the_data) (clause : Syntax) → plain_syntax (placed_parts (parts p clause)) ≡ placed_parts (plain_syntax (parts p clause))
  plain_placed WhereClausePlacement-m.Early (Node (Vanishing false (Right Nothing))) = refl
  plain_placed WhereClausePlacement-m.Early clause = refl
  plain_placed WhereClausePlacement-m.Late (Node (Vanishing false (Right Nothing))) = refl
  plain_placed WhereClausePlacement-m.Late clause = refl

  known_placed : (p : WhereClausePlacement-m.the_data) (clause : Syntax) → of_placed (plain_syntax (placed_parts (parts p clause))) ≡ plain_syntax (parts p clause)
  known_placed WhereClausePlacement-m.Early (Node (Vanishing false (Right Nothing))) = refl
  known_placed WhereClausePlacement-m.Early clause = refl
  known_placed WhereClausePlacement-m.Late (Node (Vanishing false (Right Nothing))) = refl
  known_placed WhereClausePlacement-m.Late clause = refl

module _ (p q : WhereClausePlacement-m.the_data) (c d e f s t : Syntax) where
  abbrev places : Bool
  places = same_syntax (place_aside (place_of p) c) (place_aside (place_of q) d)

  abbrev aliases : Bool
  aliases = same_syntax (aliased (place_of p) c e s) (aliased (place_of q) d f t)

  abbrev by_parts : Bool
  by_parts = and (same_syntax (place_of p) (place_of q)) (and (same_syntax c d) (and (same_syntax e f) (same_syntax s t)))

  pub same_placed : and places aliases ≡ by_parts
  same_placed = reported placed_parts of_placed (placed_parts (parts e s p c)) (placed_parts (parts f t q d)) (parts e s p c) (parts f t q d) (plain_placed e s p c) (plain_placed f t q d) (known_placed e s p c) (known_placed f t q d)

-- the two tests of an alias, as one
pub same_alias : (l m : List Attribute) (a b : Optional) (v k i g y z x : Bool) →
    and (listed_same l m) (and v (and (modifiers_aside l m a b) (and k (and i (and g (and y (and z x))))))) ≡ and (all_same l m) (and v (and (modifiers l m a b) (and k (and i (and g (and (and y z) x))))))
same_alias l m a b v k i g y z x =
    same_modified l m a b v (and k (and i (and g (and y (and z x)))))
    ∙ ap (λ w. and (all_same l m) (and v (and (modifiers l m a b) (and k (and i (and g w)))))) (and_assoc y z x)

-- A MODULE, with items in braces or without

abbrev Content : Type 0
Content = Option (Brace × Syntax)

abbrev pub semi_of : Option Semi → Syntax
semi_of = maybe semi_syntax

pub none_same : (a v u k i : Bool) → and a (and v (and u (and k (and i false)))) ≡ false
none_same a true true true true = and_false a
none_same a true true true false = and_false a
none_same a true true false i = and_false a
none_same a true false k i = and_false a
none_same a false u k i = and_false a

pub turn : (a b : Bool) → and a b ≡ and b a
turn true b = sym (and_true b)
turn false b = sym (and_false b)

-- a `;` that is added is distinguished from one that is there
pub same_or_added : (o q : Option Semi) → same_syntax (or_added semicolon (semi_of o)) (or_added semicolon (semi_of q)) ≡ same_syntax (semi_of o) (semi_of q)
same_or_added None None = refl
same_or_added None (Some y) = refl
same_or_added (Some x) None = refl
same_or_added (Some x) (Some y) = refl

module _ (l m : List Attribute) where
  abbrev attributes_in : Content → List Attribute → Syntax
  attributes_in c k = attributes_by_content (content_syntax c) (attributes_before_body k) (attributes_syntax k)

  abbrev after_name : Content → List Attribute → Option Semi → Syntax
  after_name c k o = module_content (attributes_in_body k) (content_syntax c) (semi_of o)

  pub same_module : (c d : Content) (o q : Option Semi) (v u k i : Bool) →
      and (same_syntax (attributes_in c l) (attributes_in d m)) (and v (and u (and k (and i (same_syntax (after_name c l o) (after_name d m q))))))
      ≡ and (all_same l m) (and v (and u (and k (and i (and (same_syntax (content_syntax c) (content_syntax d)) (same_syntax (semi_of o) (semi_of q)))))))
  same_module None None o q v u k i = ap₂ (λ a b. and a (and v (and u (and k (and i b))))) (same_attributes l m) (same_or_added o q)
  same_module None (Some y) o q v u k i = none_same _ v u k i ∙ sym (none_same (all_same l m) v u k i)
  same_module (Some x) None o q v u k i = none_same _ v u k i ∙ sym (none_same (all_same l m) v u k i)
  same_module (Some x) (Some y) o q v u k i =
      same_after_five l m v u k i (same_syntax (aside (semi_of o)) (aside (semi_of q))) (same_syntax x.1 y.1)
      ∙ ap (λ z. and (all_same l m) (and v (and u (and k (and i z))))) (ap (λ z. and z (same_syntax x.1 y.1)) (same_aside semi_syntax o q) ∙ turn (same_syntax (semi_of o) (semi_of q)) (same_syntax x.1 y.1))
