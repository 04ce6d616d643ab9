-- Attributes, compared and printed.
use Rattle.std.proofs.Common.{◌≡◌, ℕ, ◌+◌, ◌<◌, ◌≤◌, Bool, true, false, List, [], ◌∷◌, length, drop, get_or, refl, sym, ap, ap₂, ◌∙◌, true≢false}
use Rattle.std.proofs.lemmas.List.{at_drop_more, drop_all}
use Rattle.syn_grammar.specs.Tokens.{Span, Stream, end, punct, ◌⧺◌, Bracket, and, pick}
use Rattle.syn_grammar.specs.Grammar.{Syntax, Nothing, Both, Left, Right, Node, Mark, Group, Unshown, spell, print, plain_syntax}
use Rattle.syn_grammar.specs.Same.{same_stream, same_syntax}
use Rattle.syn_grammar.specs.Run.{marks_of}
use Rattle.syn_tokens.specs.InOrder.{in_order}
use Rattle.syn_tokens.specs.Kinds.{Eq, eq_syntax}
use Rattle.syn_lower.specs.Attributes.{no_value, after_equals, filled, syntax_of_MacroDelimiter, syntax_of_AttrStyle, after_pound, syntax_of_Attribute, is_outer, every_outer, outer_before, outer_listed, attributes_syntax, all_attributes_syntax, outer_part, outer_row, all_row}
use Rattle.syn_lower.specs.declared.attr.MacroDelimiter.TheVariants as MacroDelimiter-m
use Rattle.syn_lower.specs.declared.attr.AttrStyle.TheVariants as AttrStyle-m
use Rattle.syn_lower.specs.declared.attr.Attribute.{Attribute}
use Rattle.syn_lower.proofs.Compared.{reported}

-- METAS

pub same_filled : (d e : MacroDelimiter-m.the_data) (i j : Stream) →
    same_syntax (filled i (syntax_of_MacroDelimiter d)) (filled j (syntax_of_MacroDelimiter e)) ≡ and (same_syntax (syntax_of_MacroDelimiter d) (syntax_of_MacroDelimiter e)) (same_stream i j)
same_filled (MacroDelimiter-m.Paren d) (MacroDelimiter-m.Paren e) i j = refl
same_filled (MacroDelimiter-m.Paren d) (MacroDelimiter-m.Brace e) i j = refl
same_filled (MacroDelimiter-m.Paren d) (MacroDelimiter-m.Bracket e) i j = refl
same_filled (MacroDelimiter-m.Brace d) (MacroDelimiter-m.Paren e) i j = refl
same_filled (MacroDelimiter-m.Brace d) (MacroDelimiter-m.Brace e) i j = refl
same_filled (MacroDelimiter-m.Brace d) (MacroDelimiter-m.Bracket e) i j = refl
same_filled (MacroDelimiter-m.Bracket d) (MacroDelimiter-m.Paren e) i j = refl
same_filled (MacroDelimiter-m.Bracket d) (MacroDelimiter-m.Brace e) i j = refl
same_filled (MacroDelimiter-m.Bracket d) (MacroDelimiter-m.Bracket e) i j = refl

-- a group, `=` and nothing are distinguished
pub group_or_nothing : (d : MacroDelimiter-m.the_data) (i : Stream) → same_syntax (filled i (syntax_of_MacroDelimiter d)) no_value ≡ false
group_or_nothing (MacroDelimiter-m.Paren d) i = refl
group_or_nothing (MacroDelimiter-m.Brace d) i = refl
group_or_nothing (MacroDelimiter-m.Bracket d) i = refl

pub nothing_or_group : (d : MacroDelimiter-m.the_data) (i : Stream) → same_syntax no_value (filled i (syntax_of_MacroDelimiter d)) ≡ false
nothing_or_group (MacroDelimiter-m.Paren d) i = refl
nothing_or_group (MacroDelimiter-m.Brace d) i = refl
nothing_or_group (MacroDelimiter-m.Bracket d) i = refl

pub group_or_equals : (d : MacroDelimiter-m.the_data) (i j : Stream) (e : Eq) → same_syntax (filled i (syntax_of_MacroDelimiter d)) (after_equals (eq_syntax e) j) ≡ false
group_or_equals (MacroDelimiter-m.Paren d) i j e = refl
group_or_equals (MacroDelimiter-m.Brace d) i j e = refl
group_or_equals (MacroDelimiter-m.Bracket d) i j e = refl

pub equals_or_group : (d : MacroDelimiter-m.the_data) (i j : Stream) (e : Eq) → same_syntax (after_equals (eq_syntax e) j) (filled i (syntax_of_MacroDelimiter d)) ≡ false
equals_or_group (MacroDelimiter-m.Paren d) i j e = refl
equals_or_group (MacroDelimiter-m.Brace d) i j e = refl
equals_or_group (MacroDelimiter-m.Bracket d) i j e = refl

spell_before : (xs : List (ℕ × Span)) (i : Stream) → spell xs i ≡ spell xs end ⧺ i
spell_before [] i = refl
spell_before (x ∷ []) i = refl
spell_before (x ∷ y ∷ l) i = ap (punct x.0 true x.1) (spell_before (y ∷ l) i)

pub print_after_equals : (e : Eq) (i : Stream) → print (after_equals (eq_syntax e) i) ≡ print (eq_syntax e) ⧺ i
print_after_equals e i = spell_before (marks_of (eq_syntax e)) i

-- STYLES

pub same_after_pound : (s t : AttrStyle-m.the_data) (o c p d : Span) (x y : Syntax) →
    same_syntax (after_pound (syntax_of_AttrStyle s) (Group Bracket o c x)) (after_pound (syntax_of_AttrStyle t) (Group Bracket p d y)) ≡ and (same_syntax (syntax_of_AttrStyle s) (syntax_of_AttrStyle t)) (same_syntax x y)
same_after_pound AttrStyle-m.Outer AttrStyle-m.Outer o c p d x y = refl
same_after_pound AttrStyle-m.Outer (AttrStyle-m.Inner m) o c p d x y = refl
same_after_pound (AttrStyle-m.Inner n) AttrStyle-m.Outer o c p d x y = refl
same_after_pound (AttrStyle-m.Inner n) (AttrStyle-m.Inner m) o c p d x y = refl

pub print_after_pound : (s : AttrStyle-m.the_data) (g : Syntax) → print (after_pound (syntax_of_AttrStyle s) g) ≡ print (syntax_of_AttrStyle s) ⧺ print g
print_after_pound AttrStyle-m.Outer g = refl
print_after_pound (AttrStyle-m.Inner n) g = refl

-- ATTRIBUTES IN ORDER

abbrev all : List Attribute → Syntax
all l = in_order syntax_of_Attribute l

-- spans don't make an attribute an outer one
outer_plain : (a : Attribute) → is_outer (plain_syntax (syntax_of_Attribute a)) ≡ is_outer (syntax_of_Attribute a)
outer_plain a = go a.style
  where
    go : (s : AttrStyle-m.the_data) → is_outer (plain_syntax (syntax_of_Attribute (record a { style = s }))) ≡ is_outer (syntax_of_Attribute (record a { style = s }))
    go AttrStyle-m.Outer = refl
    go (AttrStyle-m.Inner n) = refl

every_plain : (l : List Attribute) → every_outer (plain_syntax (all l)) ≡ every_outer (all l)
every_plain [] = refl
every_plain (a ∷ l) = ap₂ and (outer_plain a) (every_plain l)

plain_before : (u : Syntax) (l : List Attribute) → plain_syntax (outer_before u (all l)) ≡ outer_before (plain_syntax u) (plain_syntax (all l))
plain_before u [] = refl
plain_before u (a ∷ l) = go (plain_before u l) (is_outer (syntax_of_Attribute a)) ∙ ap (λ b. pick b (Node (Left (Both (plain_syntax (syntax_of_Attribute a)) more))) more) (sym (outer_plain a))
  where
    more : Syntax
    more = outer_before (plain_syntax u) (plain_syntax (all l))

    go : plain_syntax (outer_before u (all l)) ≡ more → (b : Bool) → plain_syntax (pick b (Node (Left (Both (syntax_of_Attribute a) (outer_before u (all l))))) (outer_before u (all l))) ≡ pick b (Node (Left (Both (plain_syntax (syntax_of_Attribute a)) more))) more
    go h true = ap (λ z. Node (Left (Both (plain_syntax (syntax_of_Attribute a)) z))) h
    go h false = h

plain_listed : (l : List Attribute) → plain_syntax (outer_listed (all l)) ≡ outer_listed (plain_syntax (all l))
unfolding outer_listed
plain_listed l =
    plain_before (pick (every_outer (all l)) Nothing (all l)) l
    ∙ ap (λ u. outer_before u (plain_syntax (all l))) (go (every_outer (all l)))
    ∙ ap (λ b. outer_before (pick b Nothing (plain_syntax (all l))) (plain_syntax (all l))) (sym (every_plain l))
  where
    go : (b : Bool) → plain_syntax (pick b Nothing (all l)) ≡ pick b Nothing (plain_syntax (all l))
    go true = refl
    go false = refl

-- what is unshown, and what is shown
abbrev unshown_of : Syntax → Syntax
unshown_of (Node (Left (Both a s))) = unshown_of s
unshown_of (Node (Right (Unshown t))) = t
unshown_of s = s

abbrev shown_of : Syntax → Syntax
shown_of (Node (Left (Both a s))) = Both a (shown_of s)
shown_of s = Nothing

abbrev or_shown : Syntax → Syntax → Syntax
or_shown Nothing s = s
or_shown t s = t

abbrev parts_of_list : Syntax → Syntax
parts_of_list s = or_shown (unshown_of s) (shown_of s)

unshown_is : (u : Syntax) (l : List Attribute) → unshown_of (outer_before u (plain_syntax (all l))) ≡ u
unshown_is u [] = refl
unshown_is u (a ∷ l) = go (unshown_is u l) (is_outer (plain_syntax (syntax_of_Attribute a)))
  where
    more : Syntax
    more = outer_before u (plain_syntax (all l))

    go : unshown_of more ≡ u → (b : Bool) → unshown_of (pick b (Node (Left (Both (plain_syntax (syntax_of_Attribute a)) more))) more) ≡ u
    go h true = h
    go h false = h

shown_is : (u : Syntax) (l : List Attribute) → every_outer (plain_syntax (all l)) ≡ true → shown_of (outer_before u (plain_syntax (all l))) ≡ plain_syntax (all l)
shown_is u [] e = refl
shown_is u (a ∷ l) e = go (shown_is u l) (is_outer (plain_syntax (syntax_of_Attribute a))) e
  where
    more : Syntax
    more = outer_before u (plain_syntax (all l))

    go : (every_outer (plain_syntax (all l)) ≡ true → shown_of more ≡ plain_syntax (all l)) → (b : Bool) → and b (every_outer (plain_syntax (all l))) ≡ true → shown_of (pick b (Node (Left (Both (plain_syntax (syntax_of_Attribute a)) more))) more) ≡ Both (plain_syntax (syntax_of_Attribute a)) (plain_syntax (all l))
    go is true h = ap (Both (plain_syntax (syntax_of_Attribute a))) (is h)
    go is false h = absurd (true≢false (sym h))

known_list : (l : List Attribute) → parts_of_list (outer_listed (plain_syntax (all l))) ≡ plain_syntax (all l)
unfolding outer_listed
known_list [] = refl
known_list (a ∷ l) = go (every_outer chain) refl
  where
    chain : Syntax
    chain = plain_syntax (all (a ∷ l))

    go : (b : Bool) → every_outer chain ≡ b → parts_of_list (outer_before (pick b Nothing chain) chain) ≡ chain
    go true e = ap (λ t. or_shown t (shown_of (outer_before Nothing chain))) (unshown_is Nothing (a ∷ l)) ∙ shown_is Nothing (a ∷ l) e
    go false e = ap (λ t. or_shown t (shown_of (outer_before chain chain))) (unshown_is chain (a ∷ l))

-- attributes are compared one by one
pub same_attributes : (l m : List Attribute) → same_syntax (attributes_syntax l) (attributes_syntax m) ≡ same_syntax (in_order syntax_of_Attribute l) (in_order syntax_of_Attribute m)
same_attributes l m = reported outer_listed parts_of_list _ _ (all l) (all m) (plain_listed l) (plain_listed m) (ap parts_of_list (plain_listed l) ∙ known_list l) (ap parts_of_list (plain_listed m) ∙ known_list m)

print_before : (u : Syntax) (l : List Attribute) → print (outer_before u (all l)) ≡ outer_row l
print_before u [] = refl
print_before u (a ∷ l) = go (print_before u l) (is_outer (syntax_of_Attribute a))
  where
    more : Syntax
    more = outer_before u (all l)

    go : print more ≡ outer_row l → (b : Bool) → print (pick b (Node (Left (Both (syntax_of_Attribute a) more))) more) ≡ pick b (print (syntax_of_Attribute a)) end ⧺ outer_row l
    go h true = ap (λ z. print (syntax_of_Attribute a) ⧺ z) h
    go h false = h

pub print_outer_listed : (l : List Attribute) → print (attributes_syntax l) ≡ outer_row l
unfolding outer_listed
print_outer_listed l = print_before (pick (every_outer (all l)) Nothing (all l)) l

-- what is left of a list, one step on
pub outer_step : (l : List Attribute) (i : ℕ) (d : Attribute) → i < length l → outer_row (drop i l) ≡ outer_part (get_or l i d) ⧺ outer_row (drop (i + 1) l)
outer_step l i d h = at_drop_more outer_row l i d h

pub outer_done : (l : List Attribute) (i : ℕ) → length l ≤ i → outer_row (drop i l) ≡ end
outer_done l i h = ap outer_row (drop_all i l h)

-- WHERE ALL ARE PRINTED

pub same_all_attributes : (l m : List Attribute) → same_syntax (all_attributes_syntax l) (all_attributes_syntax m) ≡ same_syntax (in_order syntax_of_Attribute l) (in_order syntax_of_Attribute m)
same_all_attributes [] [] = refl
same_all_attributes [] (b ∷ m) = refl
same_all_attributes (a ∷ l) [] = refl
same_all_attributes (a ∷ l) (b ∷ m) = ap (and (same_syntax (syntax_of_Attribute a) (syntax_of_Attribute b))) (same_all_attributes l m)

pub print_all_listed : (l : List Attribute) → print (all_attributes_syntax l) ≡ all_row l
print_all_listed [] = refl
print_all_listed (a ∷ l) = ap (λ z. print (syntax_of_Attribute a) ⧺ z) (print_all_listed l)

pub all_step : (l : List Attribute) (i : ℕ) (d : Attribute) → i < length l → all_row (drop i l) ≡ print (syntax_of_Attribute (get_or l i d)) ⧺ all_row (drop (i + 1) l)
all_step l i d h = at_drop_more all_row l i d h

pub all_done : (l : List Attribute) (i : ℕ) → length l ≤ i → all_row (drop i l) ≡ end
all_done l i h = ap all_row (drop_all i l h)
