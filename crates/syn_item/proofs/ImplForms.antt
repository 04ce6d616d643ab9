-- Impls, printed: what follows the generics, and where empty generics are printed.
use Rattle.std.proofs.Common.{◌≡◌, Bool, true, false, List, [], ◌∷◌, Option, Some, None, refl, sym, subst, ap, ap₂, ◌∙◌, true≢false}
use Rattle.syn_grammar.specs.Tokens.{Brace, Delimiter, Span, ◌⧺◌, end, or, pick, at_generics, present}
use Rattle.syn_grammar.specs.Shape.{untagged}
use Rattle.syn_grammar.specs.Grammar.{Syntax, Nothing, Both, Left, Right, Node, Vanishing, Group, Impl, Shaped, Order, bare, led, led_part, no_generics, print, renew, show}
use Rattle.syn_grammar.specs.Promises.{itself}
use Rattle.syn_grammar.specs.Take.{sees}
use Rattle.syn_grammar.specs.Run.{last, more, span_of}
use Rattle.syn_grammar.proofs.Streams.{append_append}
use Rattle.syn_grammar.proofs.Takes.{sees_present}
use Rattle.syn_tokens.specs.InOrder.{pair_of}
use Rattle.syn_tokens.specs.Kinds.{Comma, For, Gt, Lt, Not, comma_syntax, for_syntax, gt_syntax, lt_syntax, not_syntax}
use Rattle.syn_tokens.specs.Leaves.{maybe}
use Rattle.syn_tokens.specs.Listing.{list_of}
use Rattle.syn_tokens.specs.Spans.{at}
use Rattle.syn_lower.specs.Bodies.{attributes_in_body}
use Rattle.syn_lower.specs.Generics.{as_row, clause_of, parameters_of, sign_of, syntax_of_GenericParam}
use Rattle.syn_lower.specs.declared.generics.GenericParam.TheVariants as GenericParam-m
use Rattle.syn_lower.specs.Types.{syntax_of_Type}
use Rattle.syn_item.specs.Impls.{after_generics, for_type, implemented, inherent, is_shaped, kept_list, syntax_of_ImplItem, view_ItemImpl, without_self_type}
use Rattle.syn_item.specs.Parts.{members_of}
use Rattle.syn_item.specs.declared.impls.ItemImpl.TheInside as ItemImpl-in

-- A PART WITHOUT A SELF TYPE

print_without : (s : Syntax) → print (without_self_type s) ≡ print s
print_without s = go (or (is_shaped s) (led_part (renew s)))
  where
    go : (b : Bool) → print (pick b (Shaped untagged s) s) ≡ print s
    go true = refl
    go false = refl

none_within : (s : Syntax) → led_part (renew (without_self_type s)) ≡ false
none_within s = go (is_shaped s) (led_part (renew s)) refl
  where
    go : (a b : Bool) → led_part (renew s) ≡ b → led_part (renew (pick (or a b) (Shaped untagged s) s)) ≡ false
    go true b e = refl
    go false true e = refl
    go false false e = e

-- AFTER THE GENERICS

abbrev of_trait : Option (Syntax × For) → Syntax
of_trait o = maybe (pair_of itself for_syntax) o

print_inherent : (ty rest : Syntax) → print (inherent ty rest) ≡ print ty ⧺ print rest
print_inherent (Node (Right (Right (Right (Right (Left bang)))))) rest = ap (λ z. z ⧺ print rest) (print_without bang)
print_inherent (Node (Right (Right (Right (Right (Right (Right (Node (Right path))))))))) rest = ap (λ z. z ⧺ print rest) (print_without path)
print_inherent ty rest = ap (λ z. z ⧺ print rest) (print_without ty)

-- a trait's path, `for`, a type and the rest
print_for : (path : Syntax) (sign : For) (ty rest : Syntax) →
    print (without_self_type path) ⧺ (print (for_type (for_syntax sign) ty) ⧺ print rest) ≡ (print path ⧺ print (for_syntax sign)) ⧺ (print ty ⧺ print rest)
print_for path sign ty rest =
    ap₂ (λ x y. x ⧺ ((print (for_syntax sign) ⧺ y) ⧺ print rest)) (print_without path) (print_without ty)
    ∙ ap (λ z. print path ⧺ z) (append_append (print (for_syntax sign)) (print ty) (print rest))
    ∙ sym (append_append (print path) (print (for_syntax sign)) (print ty ⧺ print rest))

pub print_implemented : (q : Option Not) (o : Option (Syntax × For)) (ty rest : Syntax) →
    print (implemented (maybe not_syntax q) (of_trait o) ty rest) ≡ print (maybe not_syntax q) ⧺ (print (of_trait o) ⧺ (print ty ⧺ print rest))
print_implemented None None ty rest = print_inherent ty rest
print_implemented None (Some p) ty rest = print_for p.0 p.1 ty rest
print_implemented (Some m) None ty rest = ap (λ z. print (not_syntax m) ⧺ (z ⧺ print rest)) (print_without ty)
print_implemented (Some m) (Some p) ty rest = ap (λ z. print (not_syntax m) ⧺ z) (print_for p.0 p.1 ty rest)

-- WHERE EMPTY GENERICS ARE PRINTED

or_false : (b : Bool) → or b false ≡ b
or_false true = refl
or_false false = refl

-- where the type after `for` would be read as generics
abbrev pub led_for : Option (Syntax × For) → Syntax → Bool
led_for None ty = false
led_for (Some p) ty = present at_generics (print ty)

none_inherent : (ty rest : Syntax) → led_part (renew rest) ≡ false → led_part (renew (inherent ty rest)) ≡ false
none_inherent (Node (Right (Right (Right (Right (Left bang)))))) rest h = ap₂ or (none_within bang) h
none_inherent (Node (Right (Right (Right (Right (Right (Right (Node (Right path))))))))) rest h = ap₂ or (none_within path) h
none_inherent ty rest h = ap₂ or (none_within ty) h

one_for : (sign : For) (ty : Syntax) → led_part (renew (for_type (for_syntax sign) ty)) ≡ present at_generics (print ty)
one_for sign ty =
    ap₂ (λ x y. or (present at_generics x) y) (print_without ty) (none_within ty)
    ∙ or_false (present at_generics (print ty))

among_for : (path : Syntax) (sign : For) (ty rest : Syntax) → led_part (renew rest) ≡ false →
    or (led_part (renew (without_self_type path))) (or (led_part (renew (for_type (for_syntax sign) ty))) (led_part (renew rest))) ≡ present at_generics (print ty)
among_for path sign ty rest h =
    ap₂ (λ x y. or x (or (led_part (renew (for_type (for_syntax sign) ty))) y)) (none_within path) h
    ∙ or_false (led_part (renew (for_type (for_syntax sign) ty)))
    ∙ one_for sign ty

led_within : (q : Option Not) (o : Option (Syntax × For)) (ty rest : Syntax) → led_part (renew rest) ≡ false →
    led_part (renew (implemented (maybe not_syntax q) (of_trait o) ty rest)) ≡ led_for o ty
led_within None None ty rest h = none_inherent ty rest h
led_within None (Some p) ty rest h = among_for p.0 p.1 ty rest h
led_within (Some m) None ty rest h = ap₂ or (none_within ty) h
led_within (Some m) (Some p) ty rest h = among_for p.0 p.1 ty rest h

-- what ends an impl
abbrev ending : Syntax → Delimiter → Span → Span → Syntax → Syntax
ending clause d x y members = Node (Both (without_self_type clause) (Group d x y members))

led_by : (q : Option Not) (o : Option (Syntax × For)) (ty clause : Syntax) (d : Delimiter) (x y : Span) (members : Syntax) →
    led (renew (implemented (maybe not_syntax q) (of_trait o) ty (Node (Both (without_self_type clause) (Group d x y members)))))
    ≡ or (present at_generics (print (implemented (maybe not_syntax q) (of_trait o) ty (Node (Both (without_self_type clause) (Group d x y members)))))) (led_for o ty)
led_by q o ty clause d x y members =
    ap (or (present at_generics (print (implemented (maybe not_syntax q) (of_trait o) ty (ending clause d x y members)))))
    (led_within q o ty (ending clause d x y members) (ap (λ b. or b false) (none_within clause)))

-- of a value
module _ (i : ItemImpl-in.Inside) (v : Syntax) (view : view_ItemImpl i ≡ v) where
  abbrev ty : Syntax
  ty = syntax_of_Type i.self_ty.value

  led_is : led (renew (after_generics v)) ≡ or (sees at_generics (print (after_generics v))) (led_for i.trait_ ty)
  led_is =
      subst (λ (z : Syntax). led (renew (after_generics z)) ≡ or (sees at_generics (print (after_generics z))) (led_for i.trait_ ty)) view
      (led_by i.modifiers.polarity i.trait_ ty (clause_of i.generics) Brace (at i.brace_token.opening) (at i.brace_token.closing) (Both (attributes_in_body i.attrs.items) (members_of syntax_of_ImplItem i.items.items))
      ∙ ap (λ b. or b (led_for i.trait_ ty)) (sym (sees_present at_generics (print (after_generics (view_ItemImpl i))))))

  pub led_first : sees at_generics (print (after_generics v)) ≡ true → true ≡ led (renew (after_generics v))
  led_first h = sym (led_is ∙ ap (λ b. or b (led_for i.trait_ ty)) h)

  module _ (not_first : sees at_generics (print (after_generics v)) ≡ false) where
    pub led_without : i.trait_ ≡ None → false ≡ led (renew (after_generics v))
    led_without h = sym (led_is ∙ ap₂ or not_first (ap (λ o. led_for o ty) h))

    pub led_after_for : (p : Syntax × For) → i.trait_ ≡ Some p → sees at_generics (print ty) ≡ led (renew (after_generics v))
    led_after_for p h = sees_present at_generics (print ty) ∙ sym (led_is ∙ ap₂ or not_first (ap (λ o. led_for o ty) h))

-- GENERICS AND WHAT FOLLOWS THEM

abbrev Param : Type 0
Param = GenericParam-m.the_data

abbrev generics_of : Option Lt → List (Param × Comma) → Option Param → Option Gt → Syntax
generics_of a l o c = parameters_of (maybe lt_syntax a) (list_of syntax_of_GenericParam comma_syntax l o) (maybe gt_syntax c)

abbrev ordered : Option Lt → Syntax → Option Gt → Syntax
ordered a r c = Node (Vanishing false (Left (Order (sign_of (maybe lt_syntax a)) r (sign_of (maybe gt_syntax c)))))

-- none are printed, or they are as `< >`
pub none_printed : (a : Option Lt) (c : Option Gt) (s : Syntax) → print (Impl (kept_list (generics_of a [] None c)) s) ≡ pick (led (renew s)) (print no_generics) end ⧺ print s
none_printed a c s = go a c
  where
    by : (b : Bool) → show (pick b no_generics (Right Nothing)) ≡ pick b (print no_generics) end
    by true = refl
    by false = refl

    go : (a : Option Lt) (c : Option Gt) → print (Impl (kept_list (generics_of a [] None c)) s) ≡ pick (led (renew s)) (print no_generics) end ⧺ print s
    go None None = ap (λ z. z ⧺ print s) (by (led (renew s)))
    go None (Some n) = ap (λ z. z ⧺ print s) (by (led (renew s)))
    go (Some m) c = ap (λ z. z ⧺ print s) (by (led (renew s)))

shown_order : (a : Option Lt) (r : Syntax) (c : Option Gt) (s : Syntax) → bare r ≡ false → print (Impl (kept_list (ordered a r c)) s) ≡ print (ordered a r c) ⧺ print s
shown_order a r c s h = go (bare r) h
  where
    list : Syntax
    list = renew (Left (Order (sign_of (maybe lt_syntax a)) r (sign_of (maybe gt_syntax c))))

    go : (b : Bool) → b ≡ false → show (pick b (pick (led (renew s)) no_generics (Right Nothing)) list) ⧺ print s ≡ show (pick (or false b) (Right Nothing) list) ⧺ print s
    go true e = absurd (true≢false e)
    go false e = refl

one_shows : (p : Param) → bare (last (syntax_of_GenericParam p)) ≡ false
one_shows (GenericParam-m.Lifetime p) = refl
one_shows (GenericParam-m.Ty p) = refl
one_shows (GenericParam-m.Const p) = refl

more_show : (p : Param) (sp : Span) (s : Syntax) → bare (more (syntax_of_GenericParam p) sp s) ≡ false
more_show (GenericParam-m.Lifetime p) sp s = refl
more_show (GenericParam-m.Ty p) sp s = refl
more_show (GenericParam-m.Const p) sp s = refl

one_is : (a : Option Lt) (s : Syntax) (c : Option Gt) → parameters_of (maybe lt_syntax a) (Node (Right (Both s (Right Nothing)))) (maybe gt_syntax c) ≡ ordered a (last s) c
one_is (Some m) s c = refl
one_is None s c = refl

more_are : (a : Option Lt) (s t u : Syntax) (c : Option Gt) → parameters_of (maybe lt_syntax a) (Node (Right (Both s (Left (Both t u))))) (maybe gt_syntax c) ≡ ordered a (more s (span_of t) (as_row u)) c
more_are (Some m) s t u c = refl
more_are None s t u c = refl

abbrev Printed : Syntax → Syntax → Type 0
Printed s g = print (Impl (kept_list g) s) ≡ print g ⧺ print s

-- they are printed as anywhere
pub some_printed : (a : Option Lt) (l : List (Param × Comma)) (o : Option Param) (c : Option Gt) (s : Syntax) → ((l ≡ []) × (o ≡ None) → ⊥) →
    print (Impl (kept_list (generics_of a l o c)) s) ≡ print (generics_of a l o c) ⧺ print s
some_printed a [] None c s h = absurd (h (refl, refl))
some_printed a [] (Some p) c s h = subst (Printed s) (sym (one_is a (syntax_of_GenericParam p) c)) (shown_order a (last (syntax_of_GenericParam p)) c s (one_shows p))
some_printed a (x ∷ l) o c s h =
    let others = list_of syntax_of_GenericParam comma_syntax l o in
    subst (Printed s) (sym (more_are a (syntax_of_GenericParam x.0) (comma_syntax x.1) others c)) (shown_order a (more (syntax_of_GenericParam x.0) (span_of (comma_syntax x.1)) (as_row others)) c s (more_show x.0 (span_of (comma_syntax x.1)) (as_row others)))
