-- The attributes of what has a body, printed and compared.
use Rattle.std.proofs.Common.{◌≡◌, ℕ, ◌+◌, ◌<◌, ◌≤◌, Bool, true, false, List, [], ◌∷◌, length, drop, get_or, refl, sym, ap, ap₂, ◌∙◌, true≢false}
use Rattle.std.proofs.lemmas.List.{at_drop_more, drop_all}
use Rattle.syn_grammar.specs.Tokens.{Stream, end, ◌⧺◌, and, no, pick}
use Rattle.syn_grammar.specs.Grammar.{Syntax, Nothing, Both, Left, Right, Node, Unshown, plain_syntax, print}
use Rattle.syn_grammar.specs.Same.{same_syntax}
use Rattle.syn_grammar.proofs.Same.{and_false}
use Rattle.syn_tokens.specs.InOrder.{in_order}
use Rattle.syn_lower.specs.Attributes.{attributes_syntax, every, inner_attributes_syntax, inner_listed, is_inner, is_outer, outer_row, shown_before, syntax_of_Attribute, syntax_of_AttrStyle}
use Rattle.syn_lower.specs.declared.attr.AttrStyle.TheVariants as AttrStyle-m
use Rattle.syn_lower.specs.declared.attr.Attribute.{Attribute}
use Rattle.syn_lower.proofs.Attributes.{print_outer_listed}
use Rattle.syn_lower.proofs.Compared.{reported}
use Rattle.syn_lower.specs.Bodies.{attributes_before_body, attributes_in_body, inner_part, inner_row, listed_before, listed_inside, outer_first}

abbrev all : List Attribute → Syntax
all l = in_order syntax_of_Attribute l

-- PRINTS

print_outer_ones : (u : Syntax) (l : List Attribute) → print (shown_before is_outer u (all l)) ≡ outer_row l
print_outer_ones u [] = refl
print_outer_ones u (a ∷ l) = go (print_outer_ones u l) (is_outer (syntax_of_Attribute a))
  where
    more : Syntax
    more = shown_before is_outer u (all l)

    go : print more ≡ outer_row l → (b : Bool) → print (pick b (Node (Left (Both (syntax_of_Attribute a) more))) more) ≡ pick b (print (syntax_of_Attribute a)) end ⧺ outer_row l
    go h true = ap (λ z. print (syntax_of_Attribute a) ⧺ z) h
    go h false = h

print_inner_ones : (u : Syntax) (l : List Attribute) → print (shown_before is_inner u (all l)) ≡ inner_row l
print_inner_ones u [] = refl
print_inner_ones u (a ∷ l) = go (print_inner_ones u l) (is_inner (syntax_of_Attribute a))
  where
    more : Syntax
    more = shown_before is_inner u (all l)

    go : print more ≡ inner_row l → (b : Bool) → print (pick b (Node (Left (Both (syntax_of_Attribute a) more))) more) ≡ pick b (print (syntax_of_Attribute a)) end ⧺ inner_row l
    go h true = ap (λ z. print (syntax_of_Attribute a) ⧺ z) h
    go h false = h

pub print_before_body : (l : List Attribute) → print (attributes_before_body l) ≡ print (attributes_syntax l)
unfolding listed_before
print_before_body l = print_outer_ones (pick (outer_first (all l)) Nothing (all l)) l ∙ sym (print_outer_listed l)

pub print_in_body : (l : List Attribute) → print (attributes_in_body l) ≡ inner_row l
unfolding listed_inside
print_in_body l = print_inner_ones Nothing l

-- inner attributes by themselves
pub print_inner_listed : (l : List Attribute) → print (inner_attributes_syntax l) ≡ print (attributes_in_body l)
unfolding inner_listed
print_inner_listed l = print_inner_ones (pick (every is_inner (all l)) Nothing (all l)) l ∙ sym (print_in_body l)

-- what is left of a list, one step on
pub inner_step : (l : List Attribute) (i : ℕ) (d : Attribute) → i < length l → inner_row (drop i l) ≡ inner_part (get_or l i d) ⧺ inner_row (drop (i + 1) l)
inner_step l i d h = at_drop_more inner_row l i d h

pub inner_done : (l : List Attribute) (i : ℕ) → length l ≤ i → inner_row (drop i l) ≡ end
inner_done l i h = ap inner_row (drop_all i l h)

-- COMPARISONS: spans don't decide of which kind an attribute is

outer_plain : (a : Attribute) → is_outer (plain_syntax (syntax_of_Attribute a)) ≡ is_outer (syntax_of_Attribute a)
outer_plain a = go a.style
  where
    go : (s : AttrStyle-m.the_data) → is_outer (plain_syntax (syntax_of_Attribute (record a { style = s }))) ≡ is_outer (syntax_of_Attribute (record a { style = s }))
    go AttrStyle-m.Outer = refl
    go (AttrStyle-m.Inner n) = refl

inner_plain : (a : Attribute) → is_inner (plain_syntax (syntax_of_Attribute a)) ≡ is_inner (syntax_of_Attribute a)
inner_plain a = ap no (outer_plain a)

module _ (test : Syntax → Bool) (test_plain : (a : Attribute) → test (plain_syntax (syntax_of_Attribute a)) ≡ test (syntax_of_Attribute a)) where
  every_plain : (l : List Attribute) → every test (plain_syntax (all l)) ≡ every test (all l)
  every_plain [] = refl
  every_plain (a ∷ l) = ap₂ and (test_plain a) (every_plain l)

  plain_before : (u : Syntax) (l : List Attribute) → plain_syntax (shown_before test u (all l)) ≡ shown_before test (plain_syntax u) (plain_syntax (all l))
  plain_before u [] = refl
  plain_before u (a ∷ l) = go (plain_before u l) (test (syntax_of_Attribute a)) ∙ ap (λ b. pick b (Node (Left (Both (plain_syntax (syntax_of_Attribute a)) more))) more) (sym (test_plain a))
    where
      more : Syntax
      more = shown_before test (plain_syntax u) (plain_syntax (all l))

      go : plain_syntax (shown_before test u (all l)) ≡ more → (b : Bool) →
          plain_syntax (pick b (Node (Left (Both (syntax_of_Attribute a) (shown_before test u (all l))))) (shown_before test u (all l))) ≡ pick b (Node (Left (Both (plain_syntax (syntax_of_Attribute a)) more))) more
      go h true = ap (λ z. Node (Left (Both (plain_syntax (syntax_of_Attribute a)) z))) h
      go h false = h

first_plain : (l : List Attribute) → outer_first (plain_syntax (all l)) ≡ outer_first (all l)
first_plain [] = refl
first_plain (a ∷ l) =
    ap (λ b. pick b (outer_first (plain_syntax (all l))) (every is_inner (plain_syntax (all (a ∷ l))))) (outer_plain a)
    ∙ ap₂ (pick (is_outer (syntax_of_Attribute a))) (first_plain l) (every_plain is_inner inner_plain (a ∷ l))

plain_listed_before : (l : List Attribute) → plain_syntax (listed_before (all l)) ≡ listed_before (plain_syntax (all l))
unfolding listed_before
plain_listed_before l =
    plain_before is_outer outer_plain (pick (outer_first (all l)) Nothing (all l)) l
    ∙ ap (λ u. shown_before is_outer u (plain_syntax (all l))) (go (outer_first (all l)))
    ∙ ap (λ b. shown_before is_outer (pick b Nothing (plain_syntax (all l))) (plain_syntax (all l))) (sym (first_plain l))
  where
    go : (b : Bool) → plain_syntax (pick b Nothing (all l)) ≡ pick b Nothing (plain_syntax (all l))
    go true = refl
    go false = refl

plain_listed_inside : (l : List Attribute) → plain_syntax (listed_inside (all l)) ≡ listed_inside (plain_syntax (all l))
unfolding listed_inside
plain_listed_inside l = plain_before is_inner inner_plain Nothing l

-- in both places
abbrev in_places : Syntax → Syntax
in_places s = Both (listed_before s) (listed_inside s)

plain_places : (l : List Attribute) → plain_syntax (in_places (all l)) ≡ in_places (plain_syntax (all l))
plain_places l = ap₂ Both (plain_listed_before l) (plain_listed_inside l)

-- what is unshown, and what is shown
abbrev unshown_of : Syntax → Syntax
unshown_of (Node (Left (Both a s))) = unshown_of s
unshown_of (Node (Right (Unshown t))) = t
unshown_of s = s

abbrev shown_of : Syntax → Syntax
shown_of (Node (Left (Both a s))) = Both a (shown_of s)
shown_of s = Nothing

abbrev followed : Syntax → Syntax → Syntax
followed (Both a l) t = Both a (followed l t)
followed s t = t

abbrev or_shown : Syntax → Syntax → Syntax
or_shown Nothing s = s
or_shown t s = t

abbrev of_places : Syntax → Syntax
of_places (Both b i) = or_shown (unshown_of b) (followed (shown_of b) (shown_of i))
of_places s = s

abbrev plain_all : List Attribute → Syntax
plain_all l = plain_syntax (all l)

module _ (test : Syntax → Bool) where
  unshown_is : (u : Syntax) (l : List Attribute) → unshown_of (shown_before test u (plain_all l)) ≡ u
  unshown_is u [] = refl
  unshown_is u (a ∷ l) = go (unshown_is u l) (test (plain_syntax (syntax_of_Attribute a)))
    where
      more : Syntax
      more = shown_before test u (plain_all l)

      go : unshown_of more ≡ u → (b : Bool) → unshown_of (pick b (Node (Left (Both (plain_syntax (syntax_of_Attribute a)) more))) more) ≡ u
      go h true = h
      go h false = h

-- the inner ones, where all are
inner_shown : (u : Syntax) (l : List Attribute) → every is_inner (plain_all l) ≡ true → shown_of (shown_before is_inner u (plain_all l)) ≡ plain_all l
inner_shown u [] e = refl
inner_shown u (a ∷ l) e = go (inner_shown u l) (is_inner (plain_syntax (syntax_of_Attribute a))) e
  where
    more : Syntax
    more = shown_before is_inner u (plain_all l)

    go : (every is_inner (plain_all l) ≡ true → shown_of more ≡ plain_all l) → (b : Bool) → and b (every is_inner (plain_all l)) ≡ true →
        shown_of (pick b (Node (Left (Both (plain_syntax (syntax_of_Attribute a)) more))) more) ≡ Both (plain_syntax (syntax_of_Attribute a)) (plain_all l)
    go is true h = ap (Both (plain_syntax (syntax_of_Attribute a))) (is h)
    go is false h = absurd (true≢false (sym h))

-- no outer one, where all are inner ones
none_shown : (u : Syntax) (l : List Attribute) → every is_inner (plain_all l) ≡ true → shown_of (shown_before is_outer u (plain_all l)) ≡ Nothing
none_shown u [] e = refl
none_shown u (a ∷ l) e = go (none_shown u l) (is_outer (plain_syntax (syntax_of_Attribute a))) e
  where
    more : Syntax
    more = shown_before is_outer u (plain_all l)

    go : (every is_inner (plain_all l) ≡ true → shown_of more ≡ Nothing) → (b : Bool) → and (no b) (every is_inner (plain_all l)) ≡ true →
        shown_of (pick b (Node (Left (Both (plain_syntax (syntax_of_Attribute a)) more))) more) ≡ Nothing
    go is true h = absurd (true≢false (sym h))
    go is false h = is h

-- the outer ones and then the inner ones, if they are in that order
places_shown : (u : Syntax) (l : List Attribute) → outer_first (plain_all l) ≡ true →
    followed (shown_of (shown_before is_outer u (plain_all l))) (shown_of (shown_before is_inner Nothing (plain_all l))) ≡ plain_all l
places_shown u [] e = refl
places_shown u (a ∷ l) e = go (places_shown u l) (is_outer (plain_syntax (syntax_of_Attribute a))) refl e
  where
    x : Syntax
    x = plain_syntax (syntax_of_Attribute a)

    outer : Syntax
    outer = shown_before is_outer u (plain_all l)

    inner : Syntax
    inner = shown_before is_inner Nothing (plain_all l)

    go : (outer_first (plain_all l) ≡ true → followed (shown_of outer) (shown_of inner) ≡ plain_all l) → (b : Bool) → is_outer x ≡ b →
        pick b (outer_first (plain_all l)) (every is_inner (plain_all (a ∷ l))) ≡ true →
        followed (shown_of (pick b (Node (Left (Both x outer))) outer)) (shown_of (pick (no b) (Node (Left (Both x inner))) inner)) ≡ Both x (plain_all l)
    go is true k h = ap (Both x) (is h)
    go is false k h = ap₂ (λ s t. followed s (Both x t)) (none_shown u l (rest h)) (inner_shown Nothing l (rest h))
      where
        rest : every is_inner (plain_all (a ∷ l)) ≡ true → every is_inner (plain_all l) ≡ true
        rest h = sym (ap (λ b. and (no b) (every is_inner (plain_all l))) k) ∙ h

known_places : (l : List Attribute) → of_places (in_places (plain_all l)) ≡ plain_all l
unfolding listed_before listed_inside
known_places [] = refl
known_places (a ∷ l) = go (outer_first chain) refl
  where
    chain : Syntax
    chain = plain_all (a ∷ l)

    go : (b : Bool) → outer_first chain ≡ b →
        or_shown (unshown_of (shown_before is_outer (pick b Nothing chain) chain)) (followed (shown_of (shown_before is_outer (pick b Nothing chain) chain)) (shown_of (shown_before is_inner Nothing chain))) ≡ chain
    go true e = ap (λ t. or_shown t (followed (shown_of (shown_before is_outer Nothing chain)) (shown_of (shown_before is_inner Nothing chain)))) (unshown_is is_outer Nothing (a ∷ l)) ∙ places_shown Nothing (a ∷ l) e
    go false e = ap (λ t. or_shown t (followed (shown_of (shown_before is_outer chain chain)) (shown_of (shown_before is_inner Nothing chain)))) (unshown_is is_outer chain (a ∷ l))

same_places : (l m : List Attribute) →
    and (same_syntax (attributes_before_body l) (attributes_before_body m)) (same_syntax (attributes_in_body l) (attributes_in_body m)) ≡ same_syntax (in_order syntax_of_Attribute l) (in_order syntax_of_Attribute m)
same_places l m = reported in_places of_places (in_places (all l)) (in_places (all m)) (all l) (all m) (plain_places l) (plain_places m) (ap of_places (plain_places l) ∙ known_places l) (ap of_places (plain_places m) ∙ known_places m)

-- so many parts between those before a body and the body
across : (b x i y : Bool) → and b (and x (and i y)) ≡ and (and b i) (and x y)
across true true i y = refl
across true false i y = sym (and_false i)
across false x i y = refl

module _ (l m : List Attribute) where
  abbrev before : Bool
  before = same_syntax (attributes_before_body l) (attributes_before_body m)

  abbrev inside : Bool
  inside = same_syntax (attributes_in_body l) (attributes_in_body m)

  abbrev attributes : Bool
  attributes = same_syntax (in_order syntax_of_Attribute l) (in_order syntax_of_Attribute m)

  pub same_after_one : (x y : Bool) → and before (and x (and inside y)) ≡ and attributes (and x y)
  same_after_one x y = across before x inside y ∙ ap (λ c. and c (and x y)) (same_places l m)

  pub same_after_two : (x z y : Bool) → and before (and x (and z (and inside y))) ≡ and attributes (and x (and z y))
  same_after_two true z y = same_after_one z y
  same_after_two false z y = and_false before ∙ sym (and_false attributes)

  pub same_after_three : (x z v y : Bool) → and before (and x (and z (and v (and inside y)))) ≡ and attributes (and x (and z (and v y)))
  same_after_three true z v y = same_after_two z v y
  same_after_three false z v y = and_false before ∙ sym (and_false attributes)

  pub same_after_four : (x z v w y : Bool) → and before (and x (and z (and v (and w (and inside y))))) ≡ and attributes (and x (and z (and v (and w y))))
  same_after_four true z v w y = same_after_three z v w y
  same_after_four false z v w y = and_false before ∙ sym (and_false attributes)

  pub same_after_five : (x z v w u y : Bool) → and before (and x (and z (and v (and w (and u (and inside y)))))) ≡ and attributes (and x (and z (and v (and w (and u y)))))
  same_after_five true z v w u y = same_after_four z v w u y
  same_after_five false z v w u y = and_false before ∙ sym (and_false attributes)
