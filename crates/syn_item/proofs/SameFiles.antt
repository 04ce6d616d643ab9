-- Files, compared part by part: inner attributes by themselves are decided by what is shown of them, and by what is unshown.
use Rattle.std.proofs.Common.{◌≡◌, Bool, true, false, List, [], ◌∷◌, Option, refl, sym, ap, ap₂, ◌∙◌, true≢false}
use Rattle.std.specs.Prelude.{String}
use Rattle.std.specs.declared.alloc.Global.{Global}
use Rattle.syn_grammar.specs.Tokens.{and, no, pick}
use Rattle.syn_grammar.specs.Grammar.{Syntax, Nothing, Both, Left, Right, Node, Unshown, plain_syntax}
use Rattle.syn_grammar.specs.Same.{same_syntax}
use Rattle.syn_tokens.specs.InOrder.{in_order}
use Rattle.syn_tokens.specs.Leaves.{maybe}
use Rattle.syn_lower.specs.Attributes.{every, inner_attributes_syntax, inner_listed, is_inner, is_outer, shown_before, syntax_of_Attribute, syntax_of_AttrStyle}
use Rattle.syn_lower.specs.declared.attr.AttrStyle.TheVariants as AttrStyle-m
use Rattle.syn_lower.specs.declared.attr.Attribute.{Attribute}
use Rattle.syn_lower.proofs.Compared.{reported}
use Rattle.syn_item.specs.Files.{syntax_of_Frontmatter, unshown_text}
use Rattle.syn_item.specs.Parts.{aside, members_of}
use Rattle.syn_item.specs.declared.file.Frontmatter.{Frontmatter}
use Rattle.syn_item.proofs.SameParts.{all_same, same_aside}
use Rattle.syn_item.proofs.SameRows.{same_members}

abbrev all : List Attribute → Syntax
all l = in_order syntax_of_Attribute l

abbrev plain_all : List Attribute → Syntax
plain_all l = plain_syntax (all l)

abbrev inner_before : Syntax → Syntax → Syntax
inner_before = shown_before is_inner

-- spans don't make an attribute an inner one
outer_plain : (a : Attribute) → is_outer (plain_syntax (syntax_of_Attribute a)) ≡ is_outer (syntax_of_Attribute a)
outer_plain a = go a.style
  where
    go : (s : AttrStyle-m.the_data) → is_outer (plain_syntax (syntax_of_Attribute (record a { style = s }))) ≡ is_outer (syntax_of_Attribute (record a { style = s }))
    go AttrStyle-m.Outer = refl
    go (AttrStyle-m.Inner n) = refl

inner_plain : (a : Attribute) → is_inner (plain_syntax (syntax_of_Attribute a)) ≡ is_inner (syntax_of_Attribute a)
inner_plain a = ap no (outer_plain a)

every_plain : (l : List Attribute) → every is_inner (plain_all l) ≡ every is_inner (all l)
every_plain [] = refl
every_plain (a ∷ l) = ap₂ and (inner_plain a) (every_plain l)

plain_before : (u : Syntax) (l : List Attribute) → plain_syntax (inner_before u (all l)) ≡ inner_before (plain_syntax u) (plain_all l)
plain_before u [] = refl
plain_before u (a ∷ l) = go (plain_before u l) (is_inner (syntax_of_Attribute a)) ∙ ap (λ b. pick b (Node (Left (Both (plain_syntax (syntax_of_Attribute a)) more))) more) (sym (inner_plain a))
  where
    more : Syntax
    more = inner_before (plain_syntax u) (plain_all l)

    go : plain_syntax (inner_before u (all l)) ≡ more → (b : Bool) → plain_syntax (pick b (Node (Left (Both (syntax_of_Attribute a) (inner_before u (all l))))) (inner_before u (all l))) ≡ pick b (Node (Left (Both (plain_syntax (syntax_of_Attribute a)) more))) more
    go h true = ap (λ z. Node (Left (Both (plain_syntax (syntax_of_Attribute a)) z))) h
    go h false = h

plain_listed : (l : List Attribute) → plain_syntax (inner_listed (all l)) ≡ inner_listed (plain_all l)
unfolding inner_listed
plain_listed l =
    plain_before (pick (every is_inner (all l)) Nothing (all l)) l
    ∙ ap (λ u. inner_before u (plain_all l)) (go (every is_inner (all l)))
    ∙ ap (λ b. inner_before (pick b Nothing (plain_all l)) (plain_all l)) (sym (every_plain l))
  where
    go : (b : Bool) → plain_syntax (pick b Nothing (all l)) ≡ pick b Nothing (plain_all l)
    go true = refl
    go false = refl

-- what is unshown, and what is shown
abbrev unshown_of : Syntax → Syntax
unshown_of (Node (Left (Both a s))) = unshown_of s
unshown_of (Node (Right (Unshown t))) = t
unshown_of s = s

abbrev shown_of : Syntax → Syntax
shown_of (Node (Left (Both a s))) = Both a (shown_of s)
shown_of s = Nothing

abbrev or_shown : Syntax → Syntax → Syntax
or_shown Nothing s = s
or_shown t s = t

abbrev parts_of_list : Syntax → Syntax
parts_of_list s = or_shown (unshown_of s) (shown_of s)

unshown_is : (u : Syntax) (l : List Attribute) → unshown_of (inner_before u (plain_all l)) ≡ u
unshown_is u [] = refl
unshown_is u (a ∷ l) = go (unshown_is u l) (is_inner (plain_syntax (syntax_of_Attribute a)))
  where
    more : Syntax
    more = inner_before u (plain_all l)

    go : unshown_of more ≡ u → (b : Bool) → unshown_of (pick b (Node (Left (Both (plain_syntax (syntax_of_Attribute a)) more))) more) ≡ u
    go h true = h
    go h false = h

shown_is : (u : Syntax) (l : List Attribute) → every is_inner (plain_all l) ≡ true → shown_of (inner_before u (plain_all l)) ≡ plain_all l
shown_is u [] e = refl
shown_is u (a ∷ l) e = go (shown_is u l) (is_inner (plain_syntax (syntax_of_Attribute a))) e
  where
    more : Syntax
    more = inner_before u (plain_all l)

    go : (every is_inner (plain_all l) ≡ true → shown_of more ≡ plain_all l) → (b : Bool) → and b (every is_inner (plain_all l)) ≡ true →
        shown_of (pick b (Node (Left (Both (plain_syntax (syntax_of_Attribute a)) more))) more) ≡ Both (plain_syntax (syntax_of_Attribute a)) (plain_all l)
    go is true h = ap (Both (plain_syntax (syntax_of_Attribute a))) (is h)
    go is false h = absurd (true≢false (sym h))

known_list : (l : List Attribute) → parts_of_list (inner_listed (plain_all l)) ≡ plain_all l
unfolding inner_listed
known_list [] = refl
known_list (a ∷ l) = go (every is_inner chain) refl
  where
    chain : Syntax
    chain = plain_all (a ∷ l)

    go : (b : Bool) → every is_inner chain ≡ b → parts_of_list (inner_before (pick b Nothing chain) chain) ≡ chain
    go true e = ap (λ t. or_shown t (shown_of (inner_before Nothing chain))) (unshown_is Nothing (a ∷ l)) ∙ shown_is Nothing (a ∷ l) e
    go false e = ap (λ t. or_shown t (shown_of (inner_before chain chain))) (unshown_is chain (a ∷ l))

same_inner_attributes : (l m : List Attribute) → same_syntax (inner_attributes_syntax l) (inner_attributes_syntax m) ≡ all_same l m
same_inner_attributes l m = reported inner_listed parts_of_list _ _ (all l) (all m) (plain_listed l) (plain_listed m) (ap parts_of_list (plain_listed l) ∙ known_list l) (ap parts_of_list (plain_listed m) ∙ known_list m)

-- A FILE: two parts that are never printed, inner attributes and items
pub same_file : {T : Type 0} (v : T → Syntax) (a b : Option (String Global)) (c d : Option Frontmatter) (l m : List Attribute) (x y : List T) →
    and (same_syntax (aside (maybe unshown_text a)) (aside (maybe unshown_text b))) (and (same_syntax (aside (maybe syntax_of_Frontmatter c)) (aside (maybe syntax_of_Frontmatter d)))
    (and (same_syntax (inner_attributes_syntax l) (inner_attributes_syntax m)) (same_syntax (members_of v x) (members_of v y))))
    ≡ and (same_syntax (maybe unshown_text a) (maybe unshown_text b)) (and (same_syntax (maybe syntax_of_Frontmatter c) (maybe syntax_of_Frontmatter d)) (and (all_same l m) (same_syntax (in_order v x) (in_order v y))))
same_file v a b c d l m x y =
    ap₂ (λ p q. and p (and q (and (same_syntax (inner_attributes_syntax l) (inner_attributes_syntax m)) (same_syntax (members_of v x) (members_of v y))))) (same_aside unshown_text a b) (same_aside syntax_of_Frontmatter c d)
    ∙ ap₂ (λ p q. and (same_syntax (maybe unshown_text a) (maybe unshown_text b)) (and (same_syntax (maybe syntax_of_Frontmatter c) (maybe syntax_of_Frontmatter d)) (and p q))) (same_inner_attributes l m) (same_members v x y)
