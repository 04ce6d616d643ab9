-- Parts of a tree that the value doesn't hold aren't printed: the value prints as the whole tree does.
use Rattle.std.proofs.Common.{◌≡◌, Bool, true, false, refl, sym, ap, ap₂, ◌∙◌}
use Rattle.syn_grammar.specs.Tokens.{Span, Stream, end, punct, ◌⧺◌, or, and, pick, at_generics, present}
use Rattle.syn_grammar.specs.Grammar.{Syntax, Nothing, Both, Left, Right, Node, Vanishing, Group, Case, Such, Unshown, Captured, Last, More, Order, bare, show, spell, following, sort, renew, print, Shaped, Impl, no_generics, among, led_part, led}
use Rattle.syn_grammar.specs.SelfTypes.{self_types}
use Rattle.syn_grammar.specs.Values.{shape}
use Rattle.syn_grammar.specs.Run.{value_of}
use Rattle.syn_grammar.proofs.Shapes.{sum_shape, show_sum, renew_shape, is_shaped, shape_apart}

-- without how captured tokens were read
abbrev pub bleach : Syntax → Syntax
bleach (Both s t) = Both (bleach s) (bleach t)
bleach (Left s) = Left (bleach s)
bleach (Right s) = Right (bleach s)
bleach (Node s) = Node (bleach s)
bleach (Vanishing b s) = Vanishing b (bleach s)
bleach (Group d o c s) = Group d o c (bleach s)
bleach (Case k s) = Case k (bleach s)
bleach (Such s) = Such (bleach s)
bleach (Shaped j s) = shape j (bleach s)
bleach (Impl l s) = Impl (bleach l) (bleach s)
bleach (Unshown s) = Unshown (bleach s)
bleach (Captured s i) = Captured Nothing i
bleach (Last k s) = Last k (bleach s)
bleach (More k s sp t) = More k (bleach s) sp (bleach t)
bleach (Order xs l ys) = Order xs (bleach l) ys
bleach s = s

bare_value : (s : Syntax) → bare (value_of s) ≡ bare s
bare_value (Both s t) = ap₂ and (bare_value s) (bare_value t)
bare_value (Left s) = bare_value s
bare_value (Right s) = bare_value s
bare_value (Node s) = bare_value s
bare_value (Vanishing true s) = refl
bare_value (Vanishing false s) = bare_value s
bare_value (Case k s) = bare_value s
bare_value (Such s) = bare_value s
bare_value (Shaped j s) = ap bare (is_shaped j (value_of s)).2
bare_value (Order xs l ys) = bare_value l
bare_value _ = refl

bleach_after : (s : Syntax) (sp : Span) (t : Syntax) → bleach (following s sp t) ≡ following (bleach s) sp (bleach t)
bleach_after s sp (Shaped j u) = sym ((shape_apart j (bleach u)).1 (bleach s) sp)
bleach_after s sp (More true x q u) = ap (More true (bleach x) q) (bleach_after s sp u)
bleach_after s sp (More false x q u) = refl
bleach_after s sp (Last true x) = refl
bleach_after s sp (Last false x) = refl
bleach_after s sp _ = refl

bleach_sort : (t : Syntax) → bleach (sort t) ≡ sort (bleach t)
bleach_sort (Shaped j u) = sym (shape_apart j (bleach u)).0
bleach_sort (More true s sp t) = ap (More true (bleach s) sp) (bleach_sort t)
bleach_sort (More false s sp t) = bleach_after s sp (sort t) ∙ ap (following (bleach s) sp) (bleach_sort t)
bleach_sort _ = refl

bleach_show : (s : Syntax) → show (bleach s) ≡ show s
bleach_show (Both s t) = ap₂ (λ a b. a ⧺ b) (bleach_show s) (bleach_show t)
bleach_show (Left s) = bleach_show s
bleach_show (Right s) = bleach_show s
bleach_show (Node s) = bleach_show s
bleach_show (Vanishing b s) = bleach_show s
bleach_show (Group d o c s) = ap (λ i. Stream.group d o c i end) (bleach_show s)
bleach_show (Case k s) = bleach_show s
bleach_show (Such s) = bleach_show s
bleach_show (Shaped j s) = sum_shape show_sum j (bleach s) ∙ bleach_show s
bleach_show (Impl l s) = ap₂ (λ a b. a ⧺ b) (bleach_show l) (bleach_show s)
bleach_show (Last k s) = bleach_show s
bleach_show (More k s sp t) = ap₂ (λ a b. a ⧺ punct 44 false sp b) (bleach_show s) (bleach_show t)
bleach_show (Order xs l ys) = ap (λ a. spell xs (a ⧺ spell ys end)) (bleach_show l)
bleach_show _ = refl

bleach_led_part : (s : Syntax) → led_part (bleach s) ≡ led_part s
bleach_led_part (Both s t) = ap₂ or (bleach_led_part s) (bleach_led_part t)
bleach_led_part (Left s) = bleach_led_part s
bleach_led_part (Right s) = bleach_led_part s
bleach_led_part (Node s) = bleach_led_part s
bleach_led_part (Case k s) = ap₂ (λ v z. or (and (among k self_types) (present at_generics v)) z) (bleach_show s) (bleach_led_part s)
bleach_led_part (Such s) = bleach_led_part s
bleach_led_part (Shaped j s) = ap led_part (is_shaped j (bleach s)).2
bleach_led_part _ = refl

bleach_led : (s : Syntax) → led (bleach s) ≡ led s
bleach_led s = ap₂ (λ v z. or (present at_generics v) z) (bleach_show s) (bleach_led_part s)

pub bleach_renew : (s : Syntax) → renew (value_of s) ≡ bleach (renew s)
bleach_renew (Both s t) = ap₂ Both (bleach_renew s) (bleach_renew t)
bleach_renew (Left s) = ap Left (bleach_renew s)
bleach_renew (Right s) = ap Right (bleach_renew s)
bleach_renew (Node s) = ap Node (bleach_renew s)
bleach_renew (Vanishing true s) = refl
bleach_renew (Vanishing false s) = ap (λ b. Vanishing false (pick b (Right Nothing) (renew (value_of s)))) (bare_value s) ∙ go (bare s) (bleach_renew s)
  where
    go : (b : Bool) → renew (value_of s) ≡ bleach (renew s) → Vanishing false (pick b (Right Nothing) (renew (value_of s))) ≡ Vanishing false (bleach (pick b (Right Nothing) (renew s)))
    go true e = refl
    go false e = ap (Vanishing false) e
bleach_renew (Group d o c s) = ap (Group d o c) (bleach_renew s)
bleach_renew (Case k s) = ap (Case k) (bleach_renew s)
bleach_renew (Such s) = ap Such (bleach_renew s)
bleach_renew (Shaped j s) = renew_shape j (value_of s) ∙ ap (shape j) (bleach_renew s)
bleach_renew (Impl l s) =
    ap₂ Impl (ap₂ (λ b z. pick b (pick (led (renew (value_of s))) no_generics (Right Nothing)) z) (bare_value l) (bleach_renew l)
    ∙ ap (λ z. pick (bare l) (pick z no_generics (Right Nothing)) (bleach (renew l))) (ap led (bleach_renew s) ∙ bleach_led (renew s)) ∙ go (bare l) (led (renew s))) (bleach_renew s)
  where
    go : (b v : Bool) → pick b (pick v no_generics (Right Nothing)) (bleach (renew l)) ≡ bleach (pick b (pick v no_generics (Right Nothing)) (renew l))
    go true true = refl
    go true false = refl
    go false v = refl
bleach_renew (Unshown s) = ap Unshown (bleach_renew s)
bleach_renew (Last k s) = ap (Last k) (bleach_renew s)
bleach_renew (More k s sp t) = ap₂ (λ a b. More k a sp b) (bleach_renew s) (bleach_renew t)
bleach_renew (Order xs l ys) = ap (λ a. Order xs (sort a) ys) (bleach_renew l) ∙ ap (λ a. Order xs a ys) (sym (bleach_sort (renew l)))
bleach_renew _ = refl

pub print_value : (s : Syntax) → print (value_of s) ≡ print s
print_value s = ap show (bleach_renew s) ∙ bleach_show (renew s)

pub led_part_value : (s : Syntax) → led_part (renew (value_of s)) ≡ led_part (renew s)
led_part_value s = ap led_part (bleach_renew s) ∙ bleach_led_part (renew s)
