-- Bounds, defaults and where clauses, as they are printed.
use Rattle.std.proofs.Common.{◌≡◌, Bool, true, false, List, [], ◌∷◌, Option, Some, None, refl, sym, ap, ap₂, ◌∙◌}
use Rattle.syn_grammar.specs.Words.{colon}
use Rattle.syn_grammar.specs.Tokens.{Stream, end, and, pick, ◌⧺◌}
use Rattle.syn_grammar.specs.Grammar.{Syntax, Nothing, Mark, Both, Left, Right, Node, Vanishing, Added, bare, renew, show, print}
use Rattle.syn_grammar.proofs.Same.{and_false}
use Rattle.syn_grammar.proofs.Streams.{append_end}
use Rattle.syn_tokens.specs.Kinds.{Colon, Eq, Plus, Where, colon_syntax, eq_syntax, plus_syntax, where_syntax}
use Rattle.syn_tokens.specs.Leaves.{maybe}
use Rattle.syn_tokens.specs.Listing.{list_of}
use Rattle.syn_tokens.specs.Lists.{Sequence, nothing_listed}
use Rattle.syn_tokens.specs.declared.span.Span.{Span}
use Rattle.syn_lower.specs.Parts.{or_added}
use Rattle.syn_lower.specs.Bounds.{after_colon, solid, turned}
use Rattle.syn_lower.specs.Generics.{default_of}
use Rattle.syn_lower.specs.GenericPrints.{printed_with}

-- A LIST WITH WHAT PRECEDES IT

pub none_printed : {T P : Type 0} (head : Syntax) (v : T → Syntax) (w : P → Syntax) (s : Sequence T P) → s ≡ nothing_listed → printed_with head v w s.pairs s.last ≡ end
none_printed head v w s h = ap (λ (z : Sequence _ _). printed_with head v w z.pairs z.last) h

pub some_printed : {T P : Type 0} (head : Syntax) (v : T → Syntax) (w : P → Syntax) (s : Sequence T P) → (s ≡ nothing_listed → ⊥) → printed_with head v w s.pairs s.last ≡ print head ⧺ print (list_of v w s.pairs s.last)
some_printed head v w s h = go s.pairs s.last h
  where
    go : (l : List _) (o : Option _) → (◌≡◌ {A = Sequence _ _} (record { pairs = l; last = o }) nothing_listed → ⊥) → printed_with head v w l o ≡ print head ⧺ print (list_of v w l o)
    go [] None h = absurd (h refl)
    go [] (Some t) h = refl
    go (x ∷ l) o h = refl

-- PARTS THAT VANISH

-- a part that isn't empty is printed
pub shown_part : (a b : Syntax) → bare b ≡ false → print (Vanishing false (Left (Both a b))) ≡ print a ⧺ print b
shown_part a b h = ap (λ z. show (pick z (Right Nothing) (renew (Left (Both a b))))) (ap (and (bare a)) h ∙ and_false (bare a))

-- the sides of a list's choice don't show
pub print_turned : {T P : Type 0} (v : T → Syntax) (w : P → Syntax) (l : List (T × P)) (o : Option T) → print (turned (list_of v w l o)) ≡ print (list_of v w l o)
print_turned v w [] None = refl
print_turned v w [] (Some t) = refl
print_turned v w (x ∷ l) o = ap (λ z. print (v x.0) ⧺ (print (w x.1) ⧺ z)) (print_turned v w l o)

-- a list that has a member, as it is made solid
module _ (first others : Syntax) where
  abbrev members : Syntax
  members = Node (Right (Both first others))

  solid_is : solid members ≡ pick (bare members) (Both (Added []) members) members
  unfolding solid
  solid_is = refl

  pub solid_shown : bare (solid members) ≡ false
  solid_shown = ap bare solid_is ∙ go (bare members) refl
    where
      go : (b : Bool) → bare members ≡ b → bare (pick b (Both (Added []) members) members) ≡ false
      go true e = refl
      go false e = e

  pub print_solid : print (solid members) ≡ print members
  print_solid = ap print solid_is ∙ go (bare members)
    where
      go : (b : Bool) → print (pick b (Both (Added []) members) members) ≡ print members
      go true = refl
      go false = refl

  pub after_solid : (c : Option Colon) → after_colon (maybe colon_syntax c) (solid members) ≡ Left (Both (or_added colon (maybe colon_syntax c)) (solid members))
  after_solid c = ap (after_colon (maybe colon_syntax c)) solid_is ∙ go c (bare members) ∙ ap (λ z. Left (Both (or_added colon (maybe colon_syntax c)) z)) (sym solid_is)
    where
      go : (c : Option Colon) (b : Bool) → after_colon (maybe colon_syntax c) (pick b (Both (Added []) members) members) ≡ Left (Both (or_added colon (maybe colon_syntax c)) (pick b (Both (Added []) members) members))
      go (Some m) true = refl
      go (Some m) false = refl
      go None true = refl
      go None false = refl

  shown_solid : (a : Syntax) → print (Vanishing false (Left (Both a (solid members)))) ≡ print a ⧺ print members
  shown_solid a = shown_part a (solid members) solid_shown ∙ ap (λ z. print a ⧺ z) print_solid

solid_none : solid (Node (Left Nothing)) ≡ Node (Left Nothing)
unfolding solid
solid_none = refl

-- a colon before no bounds
pub no_bounds : (m : Colon) (s : Syntax) → bare s ≡ true → print s ≡ end → print (Vanishing false (Left (Both (colon_syntax m) s))) ≡ end
no_bounds m s h k = go m.spans
  where
    go : (l : List Span) → print (Vanishing false (Left (Both (colon_syntax (record m { spans = l })) s))) ≡ end
    go [] = k
    go (x ∷ l) = ap (λ b. show (pick b (Right Nothing) (renew (Left (Both (colon_syntax (record m { spans = x ∷ l })) s))))) h

module _ {T : Type 0} (v : T → Syntax) where
  pub print_bounds : (c : Option Colon) (l : List (T × Plus)) (o : Option T) →
      print (Vanishing false (after_colon (maybe colon_syntax c) (solid (list_of v plus_syntax l o)))) ≡ printed_with (or_added colon (maybe colon_syntax c)) v plus_syntax l o
  print_bounds None [] None = ap (λ z. print (Vanishing false (after_colon (Right Nothing) z))) solid_none
  print_bounds (Some m) [] None = ap (λ z. print (Vanishing false (Left (Both (colon_syntax m) z)))) solid_none ∙ no_bounds m (Node (Left Nothing)) refl refl
  print_bounds c [] (Some t) = ap (λ z. print (Vanishing false z)) (after_solid (v t) (Right Nothing) c) ∙ shown_solid (v t) (Right Nothing) (or_added colon (maybe colon_syntax c))
  print_bounds c (x ∷ l) o =
      let others = Left (Both (plus_syntax x.1) (list_of v plus_syntax l o)) in
      ap (λ z. print (Vanishing false z)) (after_solid (v x.0) others c) ∙ shown_solid (v x.0) others (or_added colon (maybe colon_syntax c))

-- A WHERE CLAUSE
pub print_where : {T P : Type 0} (v : T → Syntax) (w : P → Syntax) (token : Where) (l : List (T × P)) (o : Option T) →
    print (Node (Vanishing false (Left (Both (where_syntax token) (solid (list_of v w l o)))))) ≡ printed_with (where_syntax token) v w l o
print_where v w token [] None = ap (λ z. print (Vanishing false (Left (Both (where_syntax token) z)))) solid_none
print_where v w token [] (Some t) = shown_solid (v t) (Right Nothing) (where_syntax token)
print_where v w token (x ∷ l) o = shown_solid (v x.0) (Left (Both (w x.1) (list_of v w l o))) (where_syntax token)

-- A DEFAULT
pub print_default : {T : Type 0} (v : T → Syntax) (e : Option Eq) (d : Option T) → print (default_of (maybe eq_syntax e) (maybe v d)) ≡ print (maybe eq_syntax e) ⧺ print (maybe v d)
print_default v None None = refl
print_default v None (Some d) = refl
print_default v (Some e) None = sym (append_end (print (eq_syntax e)))
print_default v (Some e) (Some d) = refl
