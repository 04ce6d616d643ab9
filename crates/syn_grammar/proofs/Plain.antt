-- The normal form and the print, for every tree.
use Rattle.std.proofs.Common.{◌≡◌, ℕ, Bool, true, false, List, [], ◌∷◌, refl, sym, ap, ◌∙◌, ap₂, true≢false}
use Rattle.syn_grammar.specs.Words.{Text, colon}
use Rattle.syn_grammar.specs.Tokens.{Span, Paren, Brace, Bracket, None, ident, literal, Stream, end, leaf, punct, group, ◌⧺◌, call_site, plain, or, and, no, pick, same_text, at_generics, answers, lookahead}
use Rattle.syn_grammar.proofs.Streams.{lookahead_plain}
use Rattle.syn_grammar.specs.Rules.{Rule}
use Rattle.syn_grammar.specs.SelfTypes.{self_types}
use Rattle.syn_grammar.specs.RuleNumbers.{same_rule}
use Rattle.syn_grammar.specs.Grammar.{among, Syntax, Nothing, Token, Mark, Lifetime, Both, Left, Right, Node, Vanishing, Group, Raw, Rest, Case, Captured, Unshown, Impl, no_generics, Added, Done, Last, More, Order, Such, vacant, ends_brace, holds, Test, trailing_brace, no_trailing_brace, has, has_no, one_where, has_part, no_where, at_most_one_where, chars, spell, added, bare, show, following, sort, print, renew, plain_mark, plain_syntax, normal, Shaped, led_part, led}

pub plain_append : (a b : Stream) → plain (a ⧺ b) ≡ plain a ⧺ plain b
plain_append end b = refl
plain_append (leaf x sp m) b = ap (leaf x call_site) (plain_append m b)
plain_append (punct c j sp m) b = ap (punct c j call_site) (plain_append m b)
plain_append (group d o c i m) b = ap (group d call_site call_site (plain i)) (plain_append m b)

pub plain_plain : (a : Stream) → plain (plain a) ≡ plain a
plain_plain end = refl
plain_plain (leaf x sp m) = ap (leaf x call_site) (plain_plain m)
plain_plain (punct c j sp m) = ap (punct c j call_site) (plain_plain m)
plain_plain (group d o c i m) = ap₂ (group d call_site call_site) (plain_plain i) (plain_plain m)

pub plain_mark_mark : (l : List (ℕ × Span)) → plain_mark (plain_mark l) ≡ plain_mark l
plain_mark_mark [] = refl
plain_mark_mark (x ∷ l) = ap (λ t. (x.0, call_site) ∷ t) (plain_mark_mark l)

pub plain_spell : (l : List (ℕ × Span)) (r : Stream) → spell (plain_mark l) (plain r) ≡ plain (spell l r)
plain_spell [] r = refl
plain_spell (x ∷ []) r = refl
plain_spell (x ∷ y ∷ l) r = ap (punct x.0 true call_site) (plain_spell (y ∷ l) r)

pub plain_added : (l : Text) → plain_mark (added l) ≡ added l
plain_added [] = refl
plain_added (c ∷ l) = ap (λ z. (c, call_site) ∷ z) (plain_added l)

pub chars_plain : (l : List (ℕ × Span)) → chars (plain_mark l) ≡ chars l
chars_plain [] = refl
chars_plain (x ∷ l) = ap (λ z. x.0 ∷ z) (chars_plain l)

pub bare_plain : (s : Syntax) → bare (plain_syntax s) ≡ bare s
bare_plain Nothing = refl
bare_plain (Token (ident n) sp) = refl
bare_plain (Token (literal k n) sp) = refl
bare_plain (Mark xs) = ap (λ l. same_text l colon) (chars_plain xs)
bare_plain (Lifetime sp x sq) = refl
bare_plain (Both s t) = ap₂ and (bare_plain s) (bare_plain t)
bare_plain (Left s) = bare_plain s
bare_plain (Right s) = bare_plain s
bare_plain (Node s) = bare_plain s
bare_plain (Vanishing b s) = ap (or b) (bare_plain s)
bare_plain (Group d o c s) = refl
bare_plain (Raw d o c i) = refl
bare_plain (Rest xs i) = refl
bare_plain (Case k s) = bare_plain s
bare_plain (Captured s i) = refl
bare_plain (Unshown s) = refl
bare_plain (Added cs) = refl
bare_plain (Such s) = bare_plain s
bare_plain (Shaped j s) = refl
bare_plain (Impl l s) = refl
bare_plain Done = refl
bare_plain (Last k s) = refl
bare_plain (More k s sp t) = refl
bare_plain (Order xs l ys) = bare_plain l

or_holds : (b : Bool) → or b true ≡ true
or_holds true = refl
or_holds false = refl

bare_after : (s : Syntax) (sp : Span) (t : Syntax) → bare (following s sp t) ≡ false
bare_after s sp (More true x q u) = refl
bare_after s sp (Last true x) = refl
bare_after s sp _ = refl

bare_sort : (s : Syntax) → bare (sort s) ≡ bare s
bare_sort (More true s sp t) = refl
bare_sort (More false s sp t) = bare_after s sp (sort t)
bare_sort _ = refl

pub bare_renew : (s : Syntax) → bare (renew s) ≡ bare s
bare_renew Nothing = refl
bare_renew (Token x sp) = refl
bare_renew (Mark xs) = refl
bare_renew (Lifetime sp x sq) = refl
bare_renew (Both s t) = ap₂ and (bare_renew s) (bare_renew t)
bare_renew (Left s) = bare_renew s
bare_renew (Right s) = bare_renew s
bare_renew (Node s) = bare_renew s
bare_renew (Vanishing b s) = go (bare_renew s) (or b (bare s)) refl
  where
    go : bare (renew s) ≡ bare s → (v : Bool) → or b (bare s) ≡ v → or b (bare (pick v (Right Nothing) (renew s))) ≡ or b (bare s)
    go ih true e = or_holds b ∙ sym e
    go ih false e = ap (or b) ih
bare_renew (Group d o c s) = refl
bare_renew (Raw d o c i) = refl
bare_renew (Rest xs i) = refl
bare_renew (Case k s) = bare_renew s
bare_renew (Captured s i) = refl
bare_renew (Unshown s) = refl
bare_renew (Added cs) = refl
bare_renew (Such s) = bare_renew s
bare_renew (Shaped j s) = refl
bare_renew (Impl l s) = refl
bare_renew Done = refl
bare_renew (Last k s) = refl
bare_renew (More k s sp t) = refl
bare_renew (Order xs l ys) = bare_sort (renew l) ∙ bare_renew l

pub show_plain : (s : Syntax) → show (plain_syntax s) ≡ plain (show s)
show_plain Nothing = refl
show_plain (Token x sp) = refl
show_plain (Mark xs) = plain_spell xs end
show_plain (Lifetime sp x sq) = refl
show_plain (Both s t) = ap₂ ◌⧺◌ (show_plain s) (show_plain t) ∙ sym (plain_append (show s) (show t))
show_plain (Left s) = show_plain s
show_plain (Right s) = show_plain s
show_plain (Node s) = show_plain s
show_plain (Vanishing b s) = show_plain s
show_plain (Group d o c s) = ap (λ i. group d call_site call_site i end) (show_plain s)
show_plain (Raw d o c i) = refl
show_plain (Rest xs i) = plain_spell xs i
show_plain (Case k s) = show_plain s
show_plain (Captured s i) = refl
show_plain (Unshown s) = refl
show_plain (Added cs) = sym (ap (λ l. spell l end) (plain_added cs)) ∙ plain_spell (added cs) end
show_plain (Such s) = show_plain s
show_plain (Shaped j s) = show_plain s
show_plain (Impl l s) = ap₂ ◌⧺◌ (show_plain l) (show_plain s) ∙ sym (plain_append (show l) (show s))
show_plain Done = refl
show_plain (Last k s) = show_plain s
show_plain (More k s sp t) = ap₂ (λ a b. a ⧺ punct 44 false call_site b) (show_plain s) (show_plain t) ∙ sym (plain_append (show s) (punct 44 false sp (show t)))
show_plain (Order xs l ys) =
    ap₂ (λ a b. spell (plain_mark xs) (a ⧺ b)) (show_plain l) (plain_spell ys end) ∙ ap (spell (plain_mark xs)) (sym (plain_append (show l) (spell ys end))) ∙ plain_spell xs (show l ⧺ spell ys end)

renew_after : (s : Syntax) (sp : Span) (t : Syntax) → renew (following s sp t) ≡ following (renew s) sp (renew t)
renew_after s sp (More true x q u) = ap (More true (renew x) q) (renew_after s sp u)
renew_after s sp (Last true x) = refl
renew_after s sp _ = refl

renew_sort : (s : Syntax) → renew (sort s) ≡ sort (renew s)
renew_sort (More true s sp t) = ap (More true (renew s) sp) (renew_sort t)
renew_sort (More false s sp t) = renew_after s sp (sort t) ∙ ap (following (renew s) sp) (renew_sort t)
renew_sort _ = refl

sort_after : (s : Syntax) (sp : Span) (t : Syntax) → sort t ≡ t → sort (following s sp t) ≡ following s sp t
sort_after s sp (More true x q u) e = ap (More true x q) (sort_after s sp u (cc (e)))
sort_after s sp (More false x q u) e = ap (following s sp) e
sort_after s sp (Last true x) e = refl
sort_after s sp _ e = refl

sort_sort : (s : Syntax) → sort (sort s) ≡ sort s
sort_sort (More true s sp t) = ap (More true s sp) (sort_sort t)
sort_sort (More false s sp t) = sort_after s sp (sort t) (sort_sort t)
sort_sort _ = refl

plain_after : (s : Syntax) (sp : Span) (t : Syntax) → plain_syntax (following s sp t) ≡ following (plain_syntax s) call_site (plain_syntax t)
plain_after s sp (More true x q u) = ap (More true (plain_syntax x) call_site) (plain_after s sp u)
plain_after s sp (Last true x) = refl
plain_after s sp _ = refl

plain_sort : (s : Syntax) → plain_syntax (sort s) ≡ sort (plain_syntax s)
plain_sort (More true s sp t) = ap (More true (plain_syntax s) call_site) (plain_sort t)
plain_sort (More false s sp t) = plain_after s sp (sort t) ∙ ap (following (plain_syntax s) call_site) (plain_sort t)
plain_sort _ = refl

led_part_plain : (s : Syntax) → led_part (plain_syntax s) ≡ led_part s
led_part_plain (Both s t) = ap₂ or (led_part_plain s) (led_part_plain t)
led_part_plain (Left s) = led_part_plain s
led_part_plain (Right s) = led_part_plain s
led_part_plain (Node s) = led_part_plain s
led_part_plain (Case k s) = ap₂ (λ v z. or (and (among k self_types) (answers at_generics v)) z) (ap lookahead (show_plain s) ∙ lookahead_plain (show s)) (led_part_plain s)
led_part_plain (Such s) = led_part_plain s
led_part_plain _ = refl

led_plain : (s : Syntax) → led (plain_syntax s) ≡ led s
led_plain s = ap₂ (λ v z. or (answers at_generics v) z) (ap lookahead (show_plain s) ∙ lookahead_plain (show s)) (led_part_plain s)

pub renew_renew : (s : Syntax) → renew (renew s) ≡ renew s
renew_renew Nothing = refl
renew_renew (Token x sp) = refl
renew_renew (Mark xs) = refl
renew_renew (Lifetime sp x sq) = refl
renew_renew (Both s t) = ap₂ Both (renew_renew s) (renew_renew t)
renew_renew (Left s) = ap Left (renew_renew s)
renew_renew (Right s) = ap Right (renew_renew s)
renew_renew (Node s) = ap Node (renew_renew s)
renew_renew (Vanishing b s) = ap (Vanishing b) (go (renew_renew s) (or b (bare s)) refl)
  where
    go : renew (renew s) ≡ renew s → (v : Bool) → or b (bare s) ≡ v →
        pick (or b (bare (pick v (Right Nothing) (renew s)))) (Right Nothing) (renew (pick v (Right Nothing) (renew s))) ≡ pick v (Right Nothing) (renew s)
    go ih true e = ap (λ v. pick v (Right Nothing) (Right Nothing)) (or_holds b)
    go ih false e = ap₂ (λ v p. pick v (Right Nothing) p) (ap (or b) (bare_renew s) ∙ e) ih
renew_renew (Group d o c s) = ap (Group d o c) (renew_renew s)
renew_renew (Raw d o c i) = refl
renew_renew (Rest xs i) = refl
renew_renew (Case k s) = ap (Case k) (renew_renew s)
renew_renew (Captured s i) = refl
renew_renew (Unshown s) = ap Unshown (renew_renew s)
renew_renew (Added cs) = refl
renew_renew (Such s) = ap Such (renew_renew s)
renew_renew (Shaped j s) = ap (Shaped j) (renew_renew s)
renew_renew (Impl l s) = ap₂ Impl (go (bare l) refl (renew_renew l) (renew_renew s)) (renew_renew s)
  where
    v : Bool
    v = led (renew s)

    empty_case : (w : Bool) → pick (bare (pick w no_generics (Right Nothing))) (pick w no_generics (Right Nothing)) (renew (pick w no_generics (Right Nothing))) ≡ pick w no_generics (Right Nothing)
    empty_case true = refl
    empty_case false = refl

    go : (b : Bool) → bare l ≡ b → renew (renew l) ≡ renew l → renew (renew s) ≡ renew s →
        pick (bare (pick b (pick v no_generics (Right Nothing)) (renew l))) (pick (led (renew (renew s))) no_generics (Right Nothing)) (renew (pick b (pick v no_generics (Right Nothing)) (renew l))) ≡ pick b (pick v no_generics (Right Nothing)) (renew l)
    go true e ih again = ap (λ z. pick (bare (pick v no_generics (Right Nothing))) (pick (led z) no_generics (Right Nothing)) (renew (pick v no_generics (Right Nothing)))) again ∙ empty_case v
    go false e ih again = ap₂ (λ b z. pick b (pick (led (renew (renew s))) no_generics (Right Nothing)) z) (bare_renew l ∙ e) ih
renew_renew Done = refl
renew_renew (Last k s) = ap (Last k) (renew_renew s)
renew_renew (More k s sp t) = ap₂ (λ a b. More k a sp b) (renew_renew s) (renew_renew t)
renew_renew (Order xs l ys) = ap (λ z. Order xs z ys) (ap sort (renew_sort (renew l) ∙ ap sort (renew_renew l)) ∙ sort_sort (renew l))

pub renew_plain : (s : Syntax) → renew (plain_syntax s) ≡ plain_syntax (renew s)
renew_plain Nothing = refl
renew_plain (Token x sp) = refl
renew_plain (Mark xs) = refl
renew_plain (Lifetime sp x sq) = refl
renew_plain (Both s t) = ap₂ Both (renew_plain s) (renew_plain t)
renew_plain (Left s) = ap Left (renew_plain s)
renew_plain (Right s) = ap Right (renew_plain s)
renew_plain (Node s) = ap Node (renew_plain s)
renew_plain (Vanishing b s) = ap (Vanishing b) (ap₂ (λ v p. pick (or b v) (Right Nothing) p) (bare_plain s) (renew_plain s) ∙ go (or b (bare s)))
  where
    go : (v : Bool) → pick v (Right Nothing) (plain_syntax (renew s)) ≡ plain_syntax (pick v (Right Nothing) (renew s))
    go true = refl
    go false = refl
renew_plain (Group d o c s) = ap (Group d call_site call_site) (renew_plain s)
renew_plain (Raw d o c i) = refl
renew_plain (Rest xs i) = refl
renew_plain (Case k s) = ap (Case k) (renew_plain s)
renew_plain (Captured s i) = refl
renew_plain (Unshown s) = ap Unshown (renew_plain s)
renew_plain (Added cs) = refl
renew_plain (Such s) = ap Such (renew_plain s)
renew_plain (Shaped j s) = ap (Shaped j) (renew_plain s)
renew_plain (Impl l s) =
    ap₂ Impl (ap₂ (λ b z. pick b (pick (led (renew (plain_syntax s))) no_generics (Right Nothing)) z) (bare_plain l) (renew_plain l)
    ∙ ap (λ v. pick (bare l) (pick v no_generics (Right Nothing)) (plain_syntax (renew l))) (ap led (renew_plain s) ∙ led_plain (renew s)) ∙ go (bare l) (led (renew s))) (renew_plain s)
  where
    go : (b v : Bool) → pick b (pick v no_generics (Right Nothing)) (plain_syntax (renew l)) ≡ plain_syntax (pick b (pick v no_generics (Right Nothing)) (renew l))
    go true true = refl
    go true false = refl
    go false v = refl
renew_plain Done = refl
renew_plain (Last k s) = ap (Last k) (renew_plain s)
renew_plain (More k s sp t) = ap₂ (λ a b. More k a call_site b) (renew_plain s) (renew_plain t)
renew_plain (Order xs l ys) = ap (λ z. Order (plain_mark xs) z (plain_mark ys)) (ap sort (renew_plain l) ∙ sym (plain_sort (renew l)))

pub syntax_plain_plain : (s : Syntax) → plain_syntax (plain_syntax s) ≡ plain_syntax s
syntax_plain_plain Nothing = refl
syntax_plain_plain (Token x sp) = refl
syntax_plain_plain (Mark xs) = ap Mark (plain_mark_mark xs)
syntax_plain_plain (Lifetime sp x sq) = refl
syntax_plain_plain (Both s t) = ap₂ Both (syntax_plain_plain s) (syntax_plain_plain t)
syntax_plain_plain (Left s) = ap Left (syntax_plain_plain s)
syntax_plain_plain (Right s) = ap Right (syntax_plain_plain s)
syntax_plain_plain (Node s) = ap Node (syntax_plain_plain s)
syntax_plain_plain (Vanishing b s) = ap (Vanishing b) (syntax_plain_plain s)
syntax_plain_plain (Group d o c s) = ap (Group d call_site call_site) (syntax_plain_plain s)
syntax_plain_plain (Raw d o c i) = ap (Raw d call_site call_site) (plain_plain i)
syntax_plain_plain (Rest xs i) = ap₂ Rest (plain_mark_mark xs) (plain_plain i)
syntax_plain_plain (Case k s) = ap (Case k) (syntax_plain_plain s)
syntax_plain_plain (Captured s i) = ap₂ Captured (syntax_plain_plain s) (plain_plain i)
syntax_plain_plain (Unshown s) = ap Unshown (syntax_plain_plain s)
syntax_plain_plain (Added cs) = refl
syntax_plain_plain (Such s) = ap Such (syntax_plain_plain s)
syntax_plain_plain (Shaped j s) = ap (Shaped j) (syntax_plain_plain s)
syntax_plain_plain (Impl l s) = ap₂ Impl (syntax_plain_plain l) (syntax_plain_plain s)
syntax_plain_plain Done = refl
syntax_plain_plain (Last k s) = ap (Last k) (syntax_plain_plain s)
syntax_plain_plain (More k s sp t) = ap₂ (λ a b. More k a call_site b) (syntax_plain_plain s) (syntax_plain_plain t)
syntax_plain_plain (Order xs l ys) = ap₂ (λ x y. Order x y (plain_mark (plain_mark ys))) (plain_mark_mark xs) (syntax_plain_plain l) ∙ ap (Order (plain_mark xs) (plain_syntax l)) (plain_mark_mark ys)

-- the normal form prints what the tree prints, spans aside
pub print_normal : (s : Syntax) → print (normal s) ≡ plain (print s)
print_normal s = ap show (renew_plain (renew s) ∙ ap plain_syntax (renew_renew s)) ∙ show_plain (renew s)

-- the normal form of the normal form is the normal form
pub normal_normal : (s : Syntax) → normal (normal s) ≡ normal s
normal_normal s = ap plain_syntax (renew_plain (renew s) ∙ ap plain_syntax (renew_renew s)) ∙ syntax_plain_plain (renew s)

pub normal_plain : (s : Syntax) → normal (plain_syntax s) ≡ normal s
normal_plain s = ap plain_syntax (renew_plain s) ∙ syntax_plain_plain (renew s)

-- what reading the print gives has the same normal form
pub normal_renew : (s : Syntax) → normal (renew s) ≡ normal s
normal_renew s = ap plain_syntax (renew_renew s)

vacant_plain : (s : Syntax) → vacant (plain_syntax s) ≡ vacant s
vacant_plain (Both s t) = ap₂ and (vacant_plain s) (vacant_plain t)
vacant_plain (Left s) = vacant_plain s
vacant_plain (Right s) = vacant_plain s
vacant_plain (Node s) = vacant_plain s
vacant_plain (Such s) = vacant_plain s
vacant_plain (Shaped j s) = vacant_plain s
vacant_plain (Case k s) = vacant_plain s
vacant_plain _ = refl

vacant_renew : (s : Syntax) → vacant (renew s) ≡ vacant s
vacant_renew (Both s t) = ap₂ and (vacant_renew s) (vacant_renew t)
vacant_renew (Left s) = vacant_renew s
vacant_renew (Right s) = vacant_renew s
vacant_renew (Node s) = vacant_renew s
vacant_renew (Such s) = vacant_renew s
vacant_renew (Shaped j s) = vacant_renew s
vacant_renew (Case k s) = vacant_renew s
vacant_renew _ = refl

ends_plain : (s : Syntax) → ends_brace (plain_syntax s) ≡ ends_brace s
ends_plain (Both s t) = ap (λ v. pick v (ends_brace (plain_syntax s)) (ends_brace (plain_syntax t))) (vacant_plain t) ∙ ap₂ (pick (vacant t)) (ends_plain s) (ends_plain t)
ends_plain (Left s) = ends_plain s
ends_plain (Right s) = ends_plain s
ends_plain (Node s) = ends_plain s
ends_plain (Such s) = ends_plain s
ends_plain (Shaped j s) = ends_plain s
ends_plain (Case k s) = ends_plain s
ends_plain (Group Paren o c s) = refl
ends_plain (Group Brace o c s) = refl
ends_plain (Group Bracket o c s) = refl
ends_plain (Group None o c s) = refl
ends_plain (Raw Paren o c i) = refl
ends_plain (Raw Brace o c i) = refl
ends_plain (Raw Bracket o c i) = refl
ends_plain (Raw None o c i) = refl
ends_plain _ = refl

ends_renew : (s : Syntax) → ends_brace (renew s) ≡ ends_brace s
ends_renew (Both s t) = ap (λ v. pick v (ends_brace (renew s)) (ends_brace (renew t))) (vacant_renew t) ∙ ap₂ (pick (vacant t)) (ends_renew s) (ends_renew t)
ends_renew (Left s) = ends_renew s
ends_renew (Right s) = ends_renew s
ends_renew (Node s) = ends_renew s
ends_renew (Such s) = ends_renew s
ends_renew (Shaped j s) = ends_renew s
ends_renew (Case k s) = ends_renew s
ends_renew (Group Paren o c s) = refl
ends_renew (Group Brace o c s) = refl
ends_renew (Group Bracket o c s) = refl
ends_renew (Group None o c s) = refl
ends_renew (Raw Paren o c i) = refl
ends_renew (Raw Brace o c i) = refl
ends_renew (Raw Bracket o c i) = refl
ends_renew (Raw None o c i) = refl
ends_renew _ = refl

has_plain : (k : Rule) (s : Syntax) → has_part k (plain_syntax s) ≡ has_part k s
has_plain k (Both s t) = ap₂ or (has_plain k s) (has_plain k t)
has_plain k (Left s) = has_plain k s
has_plain k (Right s) = has_plain k s
has_plain k (Node s) = has_plain k s
has_plain k (Group d o c s) = has_plain k s
has_plain k (Case l s) = ap (or (same_rule k l)) (has_plain k s)
has_plain k (Such s) = has_plain k s
has_plain k _ = refl

has_renew : (k : Rule) (s : Syntax) → has_part k (renew s) ≡ has_part k s
has_renew k (Both s t) = ap₂ or (has_renew k s) (has_renew k t)
has_renew k (Left s) = has_renew k s
has_renew k (Right s) = has_renew k s
has_renew k (Node s) = has_renew k s
has_renew k (Group d o c s) = has_renew k s
has_renew k (Case l s) = ap (or (same_rule k l)) (has_renew k s)
has_renew k (Such s) = has_renew k s
has_renew k _ = refl

no_where_plain : (s : Syntax) → no_where (plain_syntax s) ≡ no_where s
no_where_plain (Both s t) = ap₂ and (no_where_plain s) (no_where_plain t)
no_where_plain (Left s) = no_where_plain s
no_where_plain (Right s) = no_where_plain s
no_where_plain (Node s) = no_where_plain s
no_where_plain (Vanishing b s) = ap (or b) (no_where_plain s)
no_where_plain (Case k s) = no_where_plain s
no_where_plain (Such s) = no_where_plain s
no_where_plain _ = refl

one_where_plain : (s : Syntax) → at_most_one_where (plain_syntax s) ≡ at_most_one_where s
one_where_plain (Both s t) = ap₂ or (ap₂ and (no_where_plain s) (one_where_plain t)) (ap₂ and (one_where_plain s) (no_where_plain t))
one_where_plain (Left s) = one_where_plain s
one_where_plain (Right s) = one_where_plain s
one_where_plain (Node s) = one_where_plain s
one_where_plain (Vanishing b s) = ap (or b) (one_where_plain s)
one_where_plain (Case k s) = one_where_plain s
one_where_plain (Such s) = one_where_plain s
one_where_plain _ = refl

both_hold : (a b c d : Bool) → (a ≡ true → c ≡ true) → (b ≡ true → d ≡ true) → and a b ≡ true → and c d ≡ true
both_hold true true c d f g e = ap₂ and (f refl) (g refl)
both_hold true false c d f g e = absurd (true≢false (sym e))
both_hold false b c d f g e = absurd (true≢false (sym e))

or_either : (a b c d : Bool) → (a ≡ true → c ≡ true) → (b ≡ true → d ≡ true) → or a b ≡ true → or c d ≡ true
or_either true b c d f g e = ap (λ z. or z d) (f refl)
or_either false b c d f g e = ap (or c) (g e) ∙ or_holds c

-- a part that vanishes takes its `where` with it
no_where_renew : (s : Syntax) → no_where s ≡ true → no_where (renew s) ≡ true
no_where_renew (Both s t) e = both_hold (no_where s) (no_where t) _ _ (no_where_renew s) (no_where_renew t) e
no_where_renew (Left s) e = no_where_renew s e
no_where_renew (Right s) e = no_where_renew s e
no_where_renew (Node s) e = no_where_renew s e
no_where_renew (Vanishing true s) e = refl
no_where_renew (Vanishing false s) e = go (bare s) (no_where_renew s e)
  where
    go : (v : Bool) → no_where (renew s) ≡ true → no_where (pick v (Right Nothing) (renew s)) ≡ true
    go true h = refl
    go false h = h
no_where_renew (Case k s) e = no_where_renew s e
no_where_renew (Such s) e = no_where_renew s e
no_where_renew (Token x sp) e = e
no_where_renew _ e = refl

one_where_renew : (s : Syntax) → at_most_one_where s ≡ true → at_most_one_where (renew s) ≡ true
one_where_renew (Both s t) e = or_either (and (no_where s) (at_most_one_where t)) (and (at_most_one_where s) (no_where t)) _ _
    (both_hold (no_where s) (at_most_one_where t) _ _ (no_where_renew s) (one_where_renew t)) (both_hold (at_most_one_where s) (no_where t) _ _ (one_where_renew s) (no_where_renew t)) e
one_where_renew (Left s) e = one_where_renew s e
one_where_renew (Right s) e = one_where_renew s e
one_where_renew (Node s) e = one_where_renew s e
one_where_renew (Vanishing true s) e = refl
one_where_renew (Vanishing false s) e = go (bare s) (one_where_renew s e)
  where
    go : (v : Bool) → at_most_one_where (renew s) ≡ true → at_most_one_where (pick v (Right Nothing) (renew s)) ≡ true
    go true h = refl
    go false h = h
one_where_renew (Case k s) e = one_where_renew s e
one_where_renew (Such s) e = one_where_renew s e
one_where_renew _ e = refl

-- spans don't change what a tree has, and what it has stays in its print
pub holds_plain : (q : Test) (s : Syntax) → holds q (plain_syntax s) ≡ holds q s
holds_plain trailing_brace s = ends_plain s
holds_plain no_trailing_brace s = ap no (ends_plain s)
holds_plain (has k) s = has_plain k s
holds_plain (has_no k) s = ap no (has_plain k s)
holds_plain one_where s = one_where_plain s

pub holds_renew : (q : Test) (s : Syntax) → holds q s ≡ true → holds q (renew s) ≡ true
holds_renew trailing_brace s e = ends_renew s ∙ e
holds_renew no_trailing_brace s e = ap no (ends_renew s) ∙ e
holds_renew (has k) s e = has_renew k s ∙ e
holds_renew (has_no k) s e = ap no (has_renew k s) ∙ e
holds_renew one_where s e = one_where_renew s e
