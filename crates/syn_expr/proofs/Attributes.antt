-- Outer attributes before others.
use Rattle.std.proofs.Common.{◌≡◌, Bool, true, false, List, [], ◌∷◌, ◌++◌, refl, sym, ap, ◌∙◌, true≢false}
use Rattle.syn_grammar.specs.Tokens.{and, no, pick}
use Rattle.syn_grammar.specs.Grammar.{Syntax, Nothing, Both, Left, Right, Node, Unshown}
use Rattle.syn_grammar.specs.Values.{attributes_before, no_attributes as values_none}
use Rattle.syn_tokens.specs.InOrder.{in_order}
use Rattle.syn_lower.specs.Attributes.{all_attributes_syntax, all_listed, attributes_syntax, every, is_inner, is_outer, none_listed, outer_listed, shown_before, syntax_of_Attribute}
use Rattle.syn_lower.specs.declared.attr.Attribute.{Attribute}
use Rattle.syn_lower.specs.Bodies.{attributes_before_body, attributes_in_body, listed_before, listed_inside, outer_first}
use Rattle.syn_expr_parse.specs.Unary.{all_shown}

abbrev all : List Attribute → Syntax
all l = in_order syntax_of_Attribute l

abbrev before_others : Attribute → Syntax → Syntax
before_others a s = Node (Left (Both (syntax_of_Attribute a) s))

-- these attributes, before what is left
abbrev in_front : List Attribute → Syntax → Syntax
in_front [] s = s
in_front (a ∷ l) s = before_others a (in_front l s)

before_front : (l : List Attribute) (s : Syntax) → attributes_before (in_front l none_listed) s ≡ in_front l s
before_front [] s = refl
before_front (a ∷ l) s = ap (before_others a) (before_front l s)

all_listed_is : (l : List Attribute) → all_listed (all l) ≡ in_front l none_listed
all_listed_is [] = refl
all_listed_is (a ∷ l) = ap (before_others a) (all_listed_is l)

shown_listed : (l : List Attribute) → all_shown (all_listed (all l)) ≡ true
shown_listed [] = refl
shown_listed (a ∷ l) = shown_listed l

-- where something is left unshown at the end, not all are shown
hidden : (u : Syntax) → all_shown (Node (Right (Unshown u))) ≡ false → (l : List Attribute) → all_shown (shown_before is_outer u (all l)) ≡ false
hidden u h [] = h
hidden u h (a ∷ l) = go (is_outer (syntax_of_Attribute a)) (hidden u h l)
  where
    go : (b : Bool) → all_shown (shown_before is_outer u (all l)) ≡ false → all_shown (pick b (before_others a (shown_before is_outer u (all l))) (shown_before is_outer u (all l))) ≡ false
    go true e = e
    go false e = e

shown_by : (b : Bool) (a : Attribute) (l : List Attribute) → all_shown (shown_before is_outer (pick b Nothing (all (a ∷ l))) (all (a ∷ l))) ≡ true → b ≡ true
shown_by true a l e = refl
shown_by false a l e = absurd (true≢false (sym e ∙ hidden (all (a ∷ l)) refl (a ∷ l)))

every_outer : (l : List Attribute) → all_shown (attributes_syntax l) ≡ true → every is_outer (all l) ≡ true
unfolding outer_listed
every_outer [] e = refl
every_outer (a ∷ l) e = shown_by (every is_outer (all (a ∷ l))) a l e

first_outer : (l : List Attribute) → all_shown (attributes_before_body l) ≡ true → outer_first (all l) ≡ true
unfolding listed_before
first_outer [] e = refl
first_outer (a ∷ l) e = shown_by (outer_first (all (a ∷ l))) a l e

outer_of : (l : List Attribute) → all_attributes_syntax l ≡ attributes_syntax l → every is_outer (all l) ≡ true
outer_of l h = every_outer l (ap all_shown (sym h) ∙ shown_listed l)

-- after outer ones
outer_front : (l m : List Attribute) (u : Syntax) → every is_outer (all l) ≡ true → shown_before is_outer u (all (l ++ m)) ≡ in_front l (shown_before is_outer u (all m))
outer_front [] m u e = refl
outer_front (a ∷ l) m u e = go (is_outer (syntax_of_Attribute a)) (outer_front l m u) e
  where
    go : (c : Bool) → (every is_outer (all l) ≡ true → shown_before is_outer u (all (l ++ m)) ≡ in_front l (shown_before is_outer u (all m))) → and c (every is_outer (all l)) ≡ true →
        pick c (before_others a (shown_before is_outer u (all (l ++ m)))) (shown_before is_outer u (all (l ++ m))) ≡ before_others a (in_front l (shown_before is_outer u (all m)))
    go true more k = ap (before_others a) (more k)
    go false more k = absurd (true≢false (sym k))

every_both : (l m : List Attribute) → every is_outer (all l) ≡ true → every is_outer (all (l ++ m)) ≡ every is_outer (all m)
every_both [] m e = refl
every_both (a ∷ l) m e = go (is_outer (syntax_of_Attribute a)) (every_both l m) e
  where
    go : (c : Bool) → (every is_outer (all l) ≡ true → every is_outer (all (l ++ m)) ≡ every is_outer (all m)) → and c (every is_outer (all l)) ≡ true → and c (every is_outer (all (l ++ m))) ≡ every is_outer (all m)
    go true more k = more k
    go false more k = absurd (true≢false (sym k))

first_both : (l m : List Attribute) → every is_outer (all l) ≡ true → outer_first (all (l ++ m)) ≡ outer_first (all m)
first_both [] m e = refl
first_both (a ∷ l) m e = go (is_outer (syntax_of_Attribute a)) (first_both l m) e
  where
    go : (c : Bool) → (every is_outer (all l) ≡ true → outer_first (all (l ++ m)) ≡ outer_first (all m)) → and c (every is_outer (all l)) ≡ true →
        pick c (outer_first (all (l ++ m))) (every is_inner (all (a ∷ (l ++ m)))) ≡ outer_first (all m)
    go true more k = more k
    go false more k = absurd (true≢false (sym k))

before_is : (l : List Attribute) (s : Syntax) → all_attributes_syntax l ≡ attributes_syntax l → in_front l s ≡ attributes_before (attributes_syntax l) s
before_is l s h = sym (before_front l s) ∙ ap (λ x. attributes_before x s) (sym (all_listed_is l) ∙ h)

pub outer_joined : (l m : List Attribute) → all_attributes_syntax l ≡ attributes_syntax l → all_shown (attributes_syntax m) ≡ true → attributes_syntax (l ++ m) ≡ attributes_before (attributes_syntax l) (attributes_syntax m)
unfolding outer_listed
outer_joined l m h s =
    let e = outer_of l h in
    let f = every_outer m s in
    ap (λ b. shown_before is_outer (pick b Nothing (all (l ++ m))) (all (l ++ m))) (every_both l m e ∙ f)
    ∙ outer_front l m Nothing e
    ∙ ap (λ b. in_front l (shown_before is_outer (pick b Nothing (all m)) (all m))) (sym f)
    ∙ before_is l (attributes_syntax m) h

pub before_joined : (l m : List Attribute) → all_attributes_syntax l ≡ attributes_syntax l → all_shown (attributes_before_body m) ≡ true → attributes_before_body (l ++ m) ≡ attributes_before (attributes_syntax l) (attributes_before_body m)
unfolding listed_before
before_joined l m h s =
    let e = outer_of l h in
    let f = first_outer m s in
    ap (λ b. shown_before is_outer (pick b Nothing (all (l ++ m))) (all (l ++ m))) (first_both l m e ∙ f)
    ∙ outer_front l m Nothing e
    ∙ ap (λ b. in_front l (shown_before is_outer (pick b Nothing (all m)) (all m))) (sym f)
    ∙ before_is l (attributes_before_body m) h

inner_front : (l m : List Attribute) → every is_outer (all l) ≡ true → shown_before is_inner Nothing (all (l ++ m)) ≡ shown_before is_inner Nothing (all m)
inner_front [] m e = refl
inner_front (a ∷ l) m e = go (is_outer (syntax_of_Attribute a)) (inner_front l m) e
  where
    go : (c : Bool) → (every is_outer (all l) ≡ true → shown_before is_inner Nothing (all (l ++ m)) ≡ shown_before is_inner Nothing (all m)) → and c (every is_outer (all l)) ≡ true →
        pick (no c) (before_others a (shown_before is_inner Nothing (all (l ++ m)))) (shown_before is_inner Nothing (all (l ++ m))) ≡ shown_before is_inner Nothing (all m)
    go true more k = more k
    go false more k = absurd (true≢false (sym k))

pub inside_joined : (l m : List Attribute) → all_attributes_syntax l ≡ attributes_syntax l → attributes_in_body (l ++ m) ≡ attributes_in_body m
unfolding listed_inside
inside_joined l m h = inner_front l m (outer_of l h)

-- an empty list has none
pub no_attributes : attributes_syntax [] ≡ values_none
unfolding outer_listed
no_attributes = refl
