-- The laws of growth, for the earlier grammar and the grammar.
use Rattle.std.proofs.Common.{◌≡◌, Bool, true, false, refl, sym, ap, ap₂, ◌∙◌, true≢false}
use Rattle.std.proofs.lemmas.Bool.{eq-eqb}
use Rattle.syn_grammar.specs.Tokens.{end, or, and, no, pick}
use Rattle.syn_grammar.specs.Rules.{Rule, kept_item, odd_impl, const_trait, const_impl, odd_const_impl}
use Rattle.syn_grammar.specs.RuleNumbers.{place, same_rule}
use Rattle.syn_grammar.specs.Shape.{Shape, an_item, listed, single}
use Rattle.syn_grammar.specs.Grammar.{Syntax, Both, Left, Right, Node, Vanishing, Group, Case, Such, Captured, Shaped, Impl, Last, More, Order, rule}
use Rattle.syn_grammar.specs.Grows.{is_moved, unmoved, renamed, by_form, lift_item, lift_shaped, lift_in, StillDerives, LiftKeeps}
use Rattle.syn_grammar.proofs.Sets.{and_left, and_right, no_true}
use Rattle.syn_grammar.proofs.RuleLemmas.{same_rule_eq}
use Rattle.syn_grammar.proofs.Grows.{grown}

pub still_derives : StillDerives
still_derives k ts s p x = grown true true (rule k) (rule k) s ts end (ap₂ and (eq-eqb (place k) (place k) refl) (ap (λ v. and (no v) true) p)) (λ e. refl) x

or_off_left : (a b : Bool) → or a b ≡ false → a ≡ false
or_off_left true b e = absurd (true≢false e)
or_off_left false b e = refl

or_off_right : (a b : Bool) → or a b ≡ false → b ≡ false
or_off_right true b e = absurd (true≢false e)
or_off_right false b e = e

-- a form that isn't moved
form_keeps : (k : Rule) (s t u : Syntax) → is_moved k ≡ false → by_form k s t u ≡ u
form_keeps k s t u e =
    let w = or_off_right (same_rule k const_trait) _ e in
    ap (λ v. pick v s (pick (same_rule k const_impl) t u)) (or_off_left (same_rule k const_trait) _ e) ∙ ap (λ v. pick v t u) (or_off_left (same_rule k const_impl) _ w)

renamed_keeps : (k : Rule) (s : Syntax) → is_moved k ≡ false → renamed k s ≡ Case k s
renamed_keeps k s e = ap (λ v. pick v (Case odd_impl s) (Case k s)) (or_off_left (same_rule k odd_const_impl) _ (or_off_right (same_rule k const_impl) _ (or_off_right (same_rule k const_trait) _ e)))

still_of : (k : Rule) (s : Syntax) → unmoved (Case k s) ≡ true → is_moved k ≡ false
still_of k s u = no_true (is_moved k) (and_left (no (is_moved k)) _ u)

item_keeps : (s : Syntax) → unmoved s ≡ true → lift_item s ≡ Case kept_item s
item_keeps (Captured (Both a (Node (Case k s))) i) u =
    let e = still_of k s (and_right (unmoved a) _ u) in
    form_keeps k _ _ _ e ∙ ap (λ v. Case kept_item (Captured (Both a (Node v)) i)) (renamed_keeps k s e)
item_keeps s u = refl

shaped_keeps : (j : Shape) (s : Syntax) → unmoved s ≡ true → lift_shaped j s ≡ Shaped j s
shaped_keeps listed (Left (Both (Shaped an_item (Node (Captured (Both a (Left (Node (Case k s)))) i))) l)) u =
    let e = still_of k s (and_right (unmoved a) _ (and_left (and (unmoved a) (unmoved (Case k s))) _ u)) in
    form_keeps k _ _ _ e ∙ ap (λ v. Shaped listed (Left (Both (Shaped an_item (Node (Captured (Both a (Left (Node v))) i))) l))) (renamed_keeps k s e)
shaped_keeps single (Left (Shaped an_item (Node (Captured (Both a (Left (Node (Case k s)))) i)))) u =
    let e = still_of k s (and_right (unmoved a) _ u) in
    form_keeps k _ _ _ e ∙ ap (λ v. Shaped single (Left (Shaped an_item (Node (Captured (Both a (Left (Node v))) i))))) (renamed_keeps k s e)
shaped_keeps j s u = refl

keeps : (b : Bool) (s : Syntax) → unmoved s ≡ true → lift_in b s ≡ s
keeps b (Both s t) u = ap₂ Both (keeps b s (and_left (unmoved s) _ u)) (keeps b t (and_right (unmoved s) _ u))
keeps b (Left s) u = ap Left (keeps b s u)
keeps b (Right s) u = ap Right (keeps b s u)
keeps b (Node s) u = ap Node (keeps b s u)
keeps b (Vanishing v s) u = ap (Vanishing v) (keeps b s u)
keeps b (Group d o c s) u = ap (Group d o c) (keeps true s u)
keeps b (Case k s) u = let w = and_right (no (is_moved k)) _ u in ap (λ z. pick (and b (same_rule k kept_item)) (lift_item z) (Case k z)) (keeps b s w) ∙ go (and b (same_rule k kept_item)) refl w
  where
    go : (v : Bool) → and b (same_rule k kept_item) ≡ v → unmoved s ≡ true → pick v (lift_item s) (Case k s) ≡ Case k s
    go true e w = item_keeps s w ∙ ap (λ z. Case z s) (sym (same_rule_eq k kept_item (and_right b _ e)))
    go false e w = refl
keeps b (Such s) u = ap Such (keeps false s u)
keeps b (Shaped j s) u = ap (λ z. pick b (lift_shaped j z) (Shaped j z)) (keeps b s u) ∙ go b
  where
    go : (b : Bool) → pick b (lift_shaped j s) (Shaped j s) ≡ Shaped j s
    go true = shaped_keeps j s u
    go false = refl
keeps b (Captured s i) u = ap (λ z. Captured z i) (keeps b s u)
keeps b (Impl l s) u = ap₂ Impl (keeps b l (and_left (unmoved l) _ u)) (keeps b s (and_right (unmoved l) _ u))
keeps b (Last k s) u = ap (Last k) (keeps b s u)
keeps b (More k s sp t) u = ap₂ (λ y z. More k y sp z) (keeps b s (and_left (unmoved s) _ u)) (keeps b t (and_right (unmoved s) _ u))
keeps b (Order xs l ys) u = ap (λ z. Order xs z ys) (keeps b l u)
keeps b _ u = refl

pub lift_keeps : LiftKeeps
lift_keeps s u = keeps true s u
