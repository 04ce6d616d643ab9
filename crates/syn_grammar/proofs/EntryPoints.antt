-- A union of rules reads what the rules of its kinds read.
use Rattle.std.proofs.Common.{◌≡◌, Bool, true, false, Some, refl, sym, ap, ◌∙◌, subst}
use Rattle.std.specs.Prelude.{List, ◌↔◌}
use Rattle.syn_grammar.specs.Tokens.{Stream, ◌⧺◌, or}
use Rattle.syn_grammar.specs.Rules.{Rule, structure, enumeration, union_item, item, trait_item, impl_item, foreign_item, derive_input}
use Rattle.syn_grammar.specs.RuleNumbers.{same_rule}
use Rattle.syn_grammar.specs.Grammar.{Grammar, one_of, captured, among, Syntax, Node, Case, Captured, Nothing, DerivesPrefix, rule, print}
use Rattle.syn_grammar.specs.Table.{table}
use Rattle.syn_grammar.specs.Take.{before}
use Rattle.syn_grammar.specs.Run.{wrap, unwrapped, first_rule, caught, parse_form, parse_rule, value_of}
use Rattle.syn_grammar.specs.EntryPoints.{is_kept, IsKind, KindsAgree, KindsDerive, SomeKind, KeptAsRead, InputsAreItems, InputsDeriveItems}
use Rattle.syn_grammar.proofs.Means.{means, parse_rule_found}
use Rattle.syn_grammar.proofs.Takes.{TreeAndRest, before_is}
use Rattle.syn_grammar.proofs.RuleLemmas.{same_rule_eq}
use Rattle.syn_grammar.proofs.Run.{parse_rule_is, inv_wrap, inv_rule, inv_caught}

abbrev case_of : Syntax → Rule × Syntax
case_of (Case k s) = (k, s)
case_of s = (item, s)

-- what a rule reads is a node
node_read : (k : Rule) (ts : Stream) (y : TreeAndRest) → parse_rule k ts ≡ Some y → y ≡ (Node (unwrapped y.0), y.1)
node_read k ts y e =
    let z = inv_wrap Node (parse_form (table k) ts) y (sym (parse_rule_is k ts) ∙ e) in
    subst (λ v. v ≡ (Node (unwrapped v.0), v.1)) (sym z.2) refl

-- a rule's tree is a node
abbrev DerivesNode : Grammar → Syntax → Stream → Stream → Type 0
DerivesNode g (Node t) ts r = DerivesPrefix table g t ts r
DerivesNode g _ ts r = ⊥

node_derived : (k : Rule) (t : Syntax) (ts r : Stream) → DerivesPrefix table (rule k) t ts r → DerivesNode (table k) t ts r
node_derived k (Node t) ts r d = d
node_derived k _ ts r d = elim d [ ]

-- verbatim tokens are the tokens that were read
cut : (g : Grammar) (t : Syntax) (ts r : Stream) → DerivesNode (captured g) t ts r → ts ≡ before ts r ⧺ r
cut g (Node (Captured t i)) ts r d = d.0 ∙ ap (λ c. c ⧺ r) (sym (before_is ts i r d.0))
cut g _ ts r d = elim d [ ]

module _ (u : Rule) (ks : List Rule) (q : table u ≡ one_of ks) where
  abbrev IsOne : Rule → Type 0
  IsOne k = among k ks ≡ true

  abbrev Of : Stream → TreeAndRest → Type 0
  Of ts x = (k : Rule) × (t : Syntax) × IsOne k × (parse_rule k ts ≡ Some (Node t, x.1)) × (x.0 ≡ Node (Case k t))

  kind_of_read : (ts : Stream) (x : TreeAndRest) → parse_rule u ts ≡ Some x → Of ts x
  kind_of_read ts x e =
      let z = inv_wrap Node (first_rule parse_rule ks ts) x (sym (ap (λ g. wrap Node (parse_form g ts)) q) ∙ sym (parse_rule_is u ts) ∙ e) in
      let w = inv_rule parse_rule ks ts z.0 z.1 in
      let n = node_read w.0 ts w.1 w.3 in
      let r : x.1 ≡ w.1.1 = ap (λ v. v.1) z.2 ∙ ap (λ v. v.1) w.4 in
      (w.0, unwrapped w.1.0, w.2, w.3 ∙ ap Some n ∙ ap (λ m. Some (Node (unwrapped w.1.0), m)) (sym r), ap (λ v. v.0) z.2 ∙ ap (λ v. Node v.0) w.4)

  agrees_known : (k : Rule) (ts : Stream) (s : Syntax) (r : Stream) → parse_rule u ts ≡ Some (Node (Case k s), r) → IsOne k × (parse_rule k ts ≡ Some (Node s, r))
  agrees_known k ts s r e =
      let (l, t, i, a, b) = kind_of_read ts (Node (Case k s), r) e in
      let c : (k, s) ≡ (l, t) = ap (λ v. case_of (unwrapped v)) b in
      (subst IsOne (sym (ap (λ p. p.0) c)) i, ap (λ p. parse_rule p.0 ts) c ∙ a ∙ ap (λ p. Some (Node p.1, r)) (sym c))

  agrees_found : (k : Rule) (ts : Stream) (s : Syntax) (r : Stream) → IsOne k → parse_rule k ts ≡ Some (Node s, r) → parse_rule u ts ≡ Some (Node (Case k s), r)
  agrees_found k ts s r i e = go ((means k ts (Node s) r).0 e)
    where
      go : ((t : Syntax) × DerivesPrefix table (rule k) t ts r × (value_of t ≡ Node s)) → parse_rule u ts ≡ Some (Node (Case k s), r)
      go (Node t, d, v) =
          let w : value_of t ≡ s = ap unwrapped v in
          parse_rule_found u ts (Node (Case k t)) r (subst (λ g. DerivesPrefix table g (Case k t) ts r) (sym q) (i, d)) ∙ ap (λ z. Some (Node (Case k z), r)) w
      go (_, d, v) = elim d [ ]

  -- the laws of this union
  pub agree : (k : Rule) (ts : Stream) (s : Syntax) (r : Stream) → (parse_rule u ts ≡ Some (Node (Case k s), r)) ↔ (IsOne k × (parse_rule k ts ≡ Some (Node s, r)))
  agree k ts s r = (agrees_known k ts s r, λ (i, e). agrees_found k ts s r i e)

  pub some_kind : (ts : Stream) (s : Syntax) (r : Stream) → parse_rule u ts ≡ Some (s, r) → (k : Rule) × (t : Syntax) × IsOne k × (s ≡ Node (Case k t))
  some_kind ts s r e = let (l, t, i, a, b) = kind_of_read ts (s, r) e in (l, t, i, b)

  pub kept_as_read : (k : Rule) (ts : Stream) (s : Syntax) (r : Stream) → is_kept (table k) ≡ true → parse_rule u ts ≡ Some (Node (Case k s), r) →
      (s ≡ Captured Nothing (before ts r)) × (ts ≡ before ts r ⧺ r) × (print (Node (Case k s)) ≡ before ts r)
  kept_as_read k ts s r h e = go (table k) refl h
    where
      a : parse_rule k ts ≡ Some (Node s, r)
      a = (agrees_known k ts s r e).1

      go : (g : Grammar) → table k ≡ g → is_kept g ≡ true → (s ≡ Captured Nothing (before ts r)) × (ts ≡ before ts r ⧺ r) × (print (Node (Case k s)) ≡ before ts r)
      go (captured g) p h =
          let z = inv_wrap Node (caught ts (parse_form g ts)) (Node s, r) (sym (ap (λ g. wrap Node (parse_form g ts)) p) ∙ sym (parse_rule_is k ts) ∙ a) in
          let w = inv_caught ts (parse_form g ts) z.0 z.1 in
          let n : r ≡ w.0.1 = ap (λ v. v.1) z.2 ∙ ap (λ v. v.1) w.2 in
          let c : s ≡ Captured Nothing (before ts r) = ap (λ v. unwrapped v.0) z.2 ∙ ap (λ v. v.0) w.2 ∙ ap (λ m. Captured Nothing (before ts m)) (sym n) in
          let t = (means k ts (Node s) r).0 a in
          (c, cut g t.0 ts r (subst (λ g. DerivesNode g t.0 ts r) p (node_derived k t.0 ts r t.1)), ap (λ t. print (Node (Case k t))) c)
      go _ p h = absurd (cc h)

-- what the input of a derive is, an item may be
input_kind : (k : Rule) → IsKind derive_input k → IsKind item k
input_kind k i = go (same_rule k structure) refl (same_rule k enumeration) refl (same_rule k union_item) refl
  where
    go : (a : Bool) → same_rule k structure ≡ a → (b : Bool) → same_rule k enumeration ≡ b → (c : Bool) → same_rule k union_item ≡ c → IsKind item k
    go true e b f c h = subst (IsKind item) (sym (same_rule_eq k structure e)) refl
    go false e true f c h = subst (IsKind item) (sym (same_rule_eq k enumeration f)) refl
    go false e false f true h = subst (IsKind item) (sym (same_rule_eq k union_item h)) refl
    go false e false f false h = absurd (cc (sym i ∙ ap (λ a. or a (or (same_rule k enumeration) (or (same_rule k union_item) false))) e ∙ ap (λ b. or b (or (same_rule k union_item) false)) f ∙ ap (λ c. or c false) h))

pub item_agrees : KindsAgree item
item_agrees = agree item _ refl

pub trait_item_agrees : KindsAgree trait_item
trait_item_agrees = agree trait_item _ refl

pub impl_item_agrees : KindsAgree impl_item
impl_item_agrees = agree impl_item _ refl

pub foreign_item_agrees : KindsAgree foreign_item
foreign_item_agrees = agree foreign_item _ refl

pub inputs_agree : KindsAgree derive_input
inputs_agree = agree derive_input _ refl

pub item_of_kind : SomeKind item
item_of_kind = some_kind item _ refl

pub trait_item_of_kind : SomeKind trait_item
trait_item_of_kind = some_kind trait_item _ refl

pub impl_item_of_kind : SomeKind impl_item
impl_item_of_kind = some_kind impl_item _ refl

pub foreign_item_of_kind : SomeKind foreign_item
foreign_item_of_kind = some_kind foreign_item _ refl

pub input_of_kind : SomeKind derive_input
input_of_kind = some_kind derive_input _ refl

pub item_kept : KeptAsRead item
item_kept = kept_as_read item _ refl

pub trait_item_kept : KeptAsRead trait_item
trait_item_kept = kept_as_read trait_item _ refl

pub impl_item_kept : KeptAsRead impl_item
impl_item_kept = kept_as_read impl_item _ refl

pub foreign_item_kept : KeptAsRead foreign_item
foreign_item_kept = kept_as_read foreign_item _ refl

pub item_derives : KindsDerive item
item_derives k ts s = (λ d. d, λ d. d)

pub trait_item_derives : KindsDerive trait_item
trait_item_derives k ts s = (λ d. d, λ d. d)

pub impl_item_derives : KindsDerive impl_item
impl_item_derives k ts s = (λ d. d, λ d. d)

pub foreign_item_derives : KindsDerive foreign_item
foreign_item_derives k ts s = (λ d. d, λ d. d)

pub inputs_derive : KindsDerive derive_input
inputs_derive k ts s = (λ d. d, λ d. d)

pub inputs_are_items : InputsAreItems
inputs_are_items k ts s r i = (λ e. (item_agrees k ts s r).1 (input_kind k i, ((inputs_agree k ts s r).0 e).1), λ e. (inputs_agree k ts s r).1 (i, ((item_agrees k ts s r).0 e).1))

pub inputs_derive_items : InputsDeriveItems
inputs_derive_items k ts s i = (λ d. (input_kind k i, d.1), λ d. (i, d.1))
