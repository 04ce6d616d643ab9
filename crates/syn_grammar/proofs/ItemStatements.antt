-- An item as a statement is the item that the rule `item` reads of the same tokens.
use Rattle.std.proofs.Common.{◌≡◌, true, false, List, [], ◌∷◌, Some, None, refl, sym, ap, ap₂, ◌∙◌, subst}
use Rattle.syn_grammar.specs.Tokens.{Stream, ended, present}
use Rattle.syn_grammar.specs.Rules.{Rule, attributes, structure, structure_rest, enumeration, enumeration_rest, union_item, union_item_rest, function, function_rest, const_item, const_item_rest, static_item, static_item_rest, extern_crate, extern_crate_rest, use_item, use_item_rest, module_item, module_item_rest, trait_alias, trait_alias_rest, type_item, type_item_rest, macro_as_item, macro_as_item_rest, trait_definition, trait_definition_rest, impl_definition, impl_definition_rest, foreign_module, foreign_module_rest, kept_item, kept_item_rest, kept_in_block, item_rest, item, statement, statements}
use Rattle.syn_grammar.specs.Shape.{an_item, attributed, single}
use Rattle.syn_grammar.specs.Grammar.{Syntax, Nothing, Both, Left, Right, Node, Case, Captured, Shaped}
use Rattle.syn_grammar.specs.Table.{table, at_semicolon, at_item}
use Rattle.syn_grammar.specs.Values.{whole_item, with_outer, core, stated, in_list, shape}
use Rattle.syn_grammar.specs.Take.{Out, Parser, sees, before}
use Rattle.syn_grammar.specs.Run.{wrap, and_then, branch, first_of, named, unwrapped, first_rule, caught, parse_form, parse_rule}
use Rattle.syn_grammar.specs.ItemStatements.{item_statement, item_listed, ItemStatements}
use Rattle.syn_grammar.proofs.Run.{parse_rule_is}
use Rattle.syn_grammar.proofs.Takes.{sees_present}
use Rattle.syn_grammar.proofs.Means.{parse_rule_known}
use Rattle.syn_grammar.proofs.Proved.{one_tree}

-- an item's rule, and the rule of what follows its attributes
abbrev Pair : Type 0
Pair = Rule × Rule

abbrev wholes : List Pair → List Rule
wholes [] = kept_item ∷ []
wholes (p ∷ l) = p.0 ∷ wholes l

abbrev rests : List Pair → List Rule
rests [] = []
rests (p ∷ l) = p.1 ∷ rests l

abbrev kinds : List Pair
kinds =
    (structure, structure_rest) ∷ (enumeration, enumeration_rest) ∷ (union_item, union_item_rest) ∷ (function, function_rest) ∷ (const_item, const_item_rest) ∷ (static_item, static_item_rest)
    ∷ (extern_crate, extern_crate_rest) ∷ (use_item, use_item_rest) ∷ (module_item, module_item_rest) ∷ (trait_alias, trait_alias_rest) ∷ (type_item, type_item_rest)
    ∷ (macro_as_item, macro_as_item_rest) ∷ (trait_definition, trait_definition_rest) ∷ (impl_definition, impl_definition_rest) ∷ (foreign_module, foreign_module_rest) ∷ []

-- the first is attributes and the second
abbrev IsPair : Pair → Type 0
IsPair p = (whole_item p.1 ≡ p.0) × ((ts : Stream) → parse_rule p.0 ts ≡ wrap Node (and_then (parse_rule attributes ts) (parse_rule p.1)))

abbrev ArePairs : List Pair → Type 0
ArePairs [] = Unit {0}
ArePairs (p ∷ l) = IsPair p × ArePairs l

are_pairs : ArePairs kinds
are_pairs = ((refl, parse_rule_is structure), ((refl, parse_rule_is enumeration), ((refl, parse_rule_is union_item), ((refl, parse_rule_is function), ((refl, parse_rule_is const_item), ((refl, parse_rule_is static_item), ((refl, parse_rule_is extern_crate), ((refl, parse_rule_is use_item), ((refl, parse_rule_is module_item), ((refl, parse_rule_is trait_alias), ((refl, parse_rule_is type_item), ((refl, parse_rule_is macro_as_item), ((refl, parse_rule_is trait_definition), ((refl, parse_rule_is impl_definition), ((refl, parse_rule_is foreign_module), tt)))))))))))))))

-- what a union of rules reads names one of them
case_of : (P : Rule → Parser) (ks : List Rule) (m : Stream) (f : Syntax × Stream) → first_rule P ks m ≡ Some f → (k : Rule) × (s : Syntax) × (f ≡ (Case k s, f.1))
case_of P [] m f e = absurd (cc e)
case_of P (k ∷ ks) m f e = go (P k m) e (case_of P ks m f)
  where
    go : (o : Out) → named k o (first_rule P ks m) ≡ Some f → (first_rule P ks m ≡ Some f → (k : Rule) × (s : Syntax) × (f ≡ (Case k s, f.1))) → (k : Rule) × (s : Syntax) × (f ≡ (Case k s, f.1))
    go None e ih = ih e
    go (Some p) e ih =
        let i : (Case k (unwrapped p.0), p.1) ≡ f = cc e in
        (k, unwrapped p.0, sym i ∙ ap (λ z. (Case k (unwrapped p.0), z)) (ap (λ z. z.1) i))

caught_alike : (ts : Stream) (g : Syntax → Syntax) (o : Out) → caught ts (wrap g o) ≡ caught ts o
caught_alike ts g (Some p) = refl
caught_alike ts g None = refl

caught_is : (ts : Stream) (o : Out) (c : Syntax × Stream) → caught ts o ≡ Some c → (i : Stream) × (c ≡ (Captured Nothing i, c.1))
caught_is ts (Some p) c e =
    let i : (Captured Nothing (before ts p.1), p.1) ≡ c = cc e in
    (before ts p.1, sym i ∙ ap (λ z. (Captured Nothing (before ts p.1), z)) (ap (λ z. z.1) i))
caught_is ts None c e = absurd (cc e)

is_node : (o : Out) (a : Syntax) (m : Stream) → wrap Node o ≡ Some (a, m) → (x : Syntax) × (a ≡ Node x)
is_node (Some p) a m e = let i : ◌≡◌ {A = Syntax × Stream} (Node p.0, p.1) (a, m) = cc e in (p.0, sym (ap (λ z. z.0) i))
is_node None a m e = absurd (cc e)

module _ (ts m : Stream) (a : Syntax) (outer : parse_rule attributes ts ≡ Some (a, m)) (starts : sees at_item m ≡ true) where
  -- what follows the attributes, of a kind
  abbrev F : Out
  F = first_rule parse_rule (rests kinds) m

  -- and verbatim
  abbrev C : Out
  C = caught ts (parse_rule kept_item_rest m)

  -- an item with its attributes
  abbrev with_its : Syntax → Syntax
  with_its s = unwrapped (with_outer a (Node s))

  abbrev joined : Out → Out → Out
  joined (Some f) o = Some (with_its f.0, f.1)
  joined None o = o

  -- each kind is attributes and what follows them
  chain : (l : List Pair) → ArePairs l → first_rule parse_rule (wholes l) ts ≡ joined (first_rule parse_rule (rests l) m) (named kept_item (parse_rule kept_item ts) None)
  chain [] w = refl
  chain (p ∷ l) w =
      ap₂ (named p.0) (w.0.1 ts ∙ ap (λ o. wrap Node (and_then o (parse_rule p.1))) outer ∙ ap (λ o. wrap Node (wrap (Both a) o)) (parse_rule_is p.1 m)) (chain l w.1)
      ∙ go (parse_form (table p.1) m)
      ∙ ap (λ o. joined (named p.1 o (first_rule parse_rule (rests l) m)) (named kept_item (parse_rule kept_item ts) None)) (sym (parse_rule_is p.1 m))
    where
      go : (o : Out) → named p.0 (wrap Node (wrap (Both a) (wrap Node o))) (joined (first_rule parse_rule (rests l) m) (named kept_item (parse_rule kept_item ts) None))
          ≡ joined (named p.1 (wrap Node o) (first_rule parse_rule (rests l) m)) (named kept_item (parse_rule kept_item ts) None)
      go None = refl
      go (Some x) = ap (λ k. Some (Case k (Both a (Node x.0)), x.1)) (sym w.0.0)

  kept_is : parse_rule kept_item ts ≡ wrap Node C
  kept_is =
      parse_rule_is kept_item ts ∙ ap (λ o. wrap Node (caught ts (and_then o (parse_rule kept_item_rest)))) outer
      ∙ ap (wrap Node) (caught_alike ts (Both a) (parse_rule kept_item_rest m))

  blocked : parse_rule kept_in_block ts ≡ wrap Node C
  blocked =
      parse_rule_is kept_in_block ts ∙ ap (λ o. wrap Node (caught ts (and_then o (λ n. branch (sees at_item n) (parse_rule kept_item_rest n) None)))) outer
      ∙ ap (λ v. wrap Node (caught ts (wrap (Both a) (branch v (parse_rule kept_item_rest m) None)))) starts
      ∙ ap (wrap Node) (caught_alike ts (Both a) (wrap Left (parse_rule kept_item_rest m)) ∙ caught_alike ts Left (parse_rule kept_item_rest m))

  rest_is : parse_rule item_rest m ≡ wrap Node F
  rest_is = parse_rule_is item_rest m

  item_is : parse_rule item ts ≡ wrap Node (joined F (wrap (Case kept_item) C))
  item_is = parse_rule_is item ts ∙ ap (wrap Node) (chain kinds are_pairs) ∙ ap (λ o. wrap Node (joined F (named kept_item o None))) kept_is ∙ ap (λ o. wrap Node (joined F o)) (go C)
    where
      go : (o : Out) → named kept_item (wrap Node o) None ≡ wrap (Case kept_item) o
      go None = refl
      go (Some c) = refl

  -- no item is both of a kind and verbatim
  not_both : (c f : Syntax × Stream) → C ≡ Some c → F ≡ Some f → ⊥
  not_both c f e i =
      let (t, d, x) = parse_rule_known kept_in_block ts (Node c.0, c.1) (blocked ∙ ap (wrap Node) e) in
      let (u, b, y) = parse_rule_known item_rest m (Node f.0, f.1) (rest_is ∙ ap (wrap Node) i) in
      let (v, q, z) = parse_rule_known attributes ts (a, m) outer in
      let h : present at_item m ≡ true = sym (sees_present at_item m) ∙ starts in
      let k = (one_tree statement ts (Node (Shaped single (Left (Shaped an_item t)))) (Node (Shaped single (Right (Shaped attributed (Both v (Left (Shaped an_item u))))))) c.1 f.1 (refl, (refl, d)) (refl, (refl, (m, q, (h, (refl, b)))))).0 in
      absurd (cc k)

  -- the two sides of a statement
  alone : (o p : Out) → C ≡ o → F ≡ p → wrap core (first_of (wrap (shape an_item) (wrap Node o)) (wrap stated (wrap (Both a) (wrap Left (wrap (shape an_item) (wrap Node p))))))
      ≡ wrap (Shaped an_item) (wrap Node (joined p (wrap (Case kept_item) o)))
  alone (Some c) (Some f) e i = absurd (not_both c f e i)
  alone (Some c) None e i = let (x, q) = caught_is ts (parse_rule kept_item_rest m) c e in
      subst (λ c. wrap core (first_of (wrap (shape an_item) (Some (Node c.0, c.1))) None) ≡ Some (Shaped an_item (Node (Case kept_item c.0)), c.1)) (sym q) refl
  alone None (Some f) e i = let (k, s, q) = case_of parse_rule (rests kinds) m f i in
      subst (λ f. wrap core (wrap Right (wrap stated (wrap (Both a) (wrap Left (wrap (shape an_item) (Some (Node f.0, f.1))))))) ≡ Some (Shaped an_item (Node (with_its f.0)), f.1)) (sym q) refl
  alone None None e i = refl

  wrapped : (g h : Syntax → Syntax) (o : Out) → wrap g (wrap h o) ≡ wrap (λ s. g (h s)) o
  wrapped g h (Some p) = refl
  wrapped g h None = refl

  -- where an item is next, the other statements don't matter
  as_statement : (other : Parser) → parse_rule statement ts ≡ wrap Node (wrap core (first_of (wrap (shape an_item) (parse_rule kept_in_block ts)) (wrap stated (and_then (parse_rule attributes ts) (λ n. branch (sees at_item n) (wrap (shape an_item) (parse_rule item_rest n)) (other n)))))) →
      parse_rule statement ts ≡ wrap item_statement (parse_rule item ts)
  as_statement other is =
      is
      ∙ ap₂ (λ o p. wrap Node (wrap core (first_of (wrap (shape an_item) o) (wrap stated (and_then p (λ n. branch (sees at_item n) (wrap (shape an_item) (parse_rule item_rest n)) (other n))))))) blocked outer
      ∙ ap₂ (λ v o. wrap Node (wrap core (first_of (wrap (shape an_item) (wrap Node C)) (wrap stated (wrap (Both a) (branch v (wrap (shape an_item) o) (other m))))))) starts rest_is
      ∙ ap (wrap Node) (alone C F refl refl)
      ∙ wrapped Node (Shaped an_item) (wrap Node (joined F (wrap (Case kept_item) C)))
      ∙ ap (wrap item_statement) (sym item_is)

  -- the same in a list, with what is read after it
  abbrev of_list : Out → Out
  of_list o = wrap Node (wrap Right (wrap core (wrap Right (wrap in_list o))))

  abbrev S : Parser
  S = parse_rule statements

  kept_listed : (x : Stream) (r : Out) → of_list (first_of (wrap (Both (Shaped an_item (Node (Case kept_item (Captured Nothing x))))) r) None) ≡ wrap item_listed (wrap (Both (Node (Case kept_item (Captured Nothing x)))) r)
  kept_listed x None = refl
  kept_listed x (Some l) = refl

  kind_listed : (x : Syntax) (k : Rule) (s : Syntax) (r : Out) → of_list (wrap Right (wrap (Both (Node x)) (wrap Left (wrap (shape an_item) (wrap (Both (Node (Case k s))) r))))) ≡ wrap item_listed (wrap (Both (Node (Case (whole_item k) (Both (Node x) (Node s))))) r)
  kind_listed x k s None = refl
  kind_listed x k s (Some l) = refl

  abbrev both_sides : Out → Out → Out
  both_sides o p = first_of (and_then (wrap (shape an_item) (wrap Node o)) S) (wrap (Both a) (wrap Left (wrap (shape an_item) (and_then (wrap Node p) S))))

  in_a_list : (o p : Out) → C ≡ o → F ≡ p → of_list (both_sides o p) ≡ wrap item_listed (and_then (wrap Node (joined p (wrap (Case kept_item) o))) S)
  in_a_list (Some c) (Some f) e i = absurd (not_both c f e i)
  in_a_list (Some c) None e i =
      let (x, q) = caught_is ts (parse_rule kept_item_rest m) c e in
      subst (λ c. of_list (both_sides (Some c) None) ≡ wrap item_listed (and_then (wrap Node (joined None (Some (Case kept_item c.0, c.1)))) S)) (sym q) (kept_listed x (S c.1))
  in_a_list None (Some f) e i =
      let (k, s, q) = case_of parse_rule (rests kinds) m f i in
      let (x, n) = is_node (parse_form (table attributes) ts) a m (sym (parse_rule_is attributes ts) ∙ outer) in
      subst (λ f. of_list (both_sides None (Some f)) ≡ wrap item_listed (and_then (wrap Node (joined (Some f) None)) S)) (sym q)
      (subst (λ a. of_list (wrap Right (wrap (Both a) (wrap Left (wrap (shape an_item) (wrap (Both (Node (Case k s))) (S f.1)))))) ≡ wrap item_listed (wrap (Both (Node (unwrapped (with_outer a (Node (Case k s)))))) (S f.1))) (sym n) (kind_listed x k s (S f.1)))
  in_a_list None None e i = refl

  as_statements : (nothing lone : Out) (other : Parser) → parse_rule statements ts ≡ wrap Node (branch (sees ended ts) nothing (wrap core (branch (sees at_semicolon ts) lone (wrap in_list (first_of (and_then (wrap (shape an_item) (parse_rule kept_in_block ts)) S) (and_then (parse_rule attributes ts) (λ n. branch (sees at_item n) (wrap (shape an_item) (and_then (parse_rule item_rest n) S)) (other n)))))))) →
      sees ended ts ≡ false → sees at_semicolon ts ≡ false → parse_rule statements ts ≡ wrap item_listed (and_then (parse_rule item ts) S)
  as_statements nothing lone other is e c =
      is
      ∙ ap₂ (λ u v. wrap Node (branch u nothing (wrap core (branch v lone (wrap in_list (first_of (and_then (wrap (shape an_item) (parse_rule kept_in_block ts)) S) (and_then (parse_rule attributes ts) (λ n. branch (sees at_item n) (wrap (shape an_item) (and_then (parse_rule item_rest n) S)) (other n))))))))) e c
      ∙ ap₂ (λ o p. of_list (first_of (and_then (wrap (shape an_item) o) S) (and_then p (λ n. branch (sees at_item n) (wrap (shape an_item) (and_then (parse_rule item_rest n) S)) (other n))))) blocked outer
      ∙ ap₂ (λ v o. of_list (first_of (and_then (wrap (shape an_item) (wrap Node C)) S) (wrap (Both a) (branch v (wrap (shape an_item) (and_then o S)) (other m))))) starts rest_is
      ∙ in_a_list C F refl refl ∙ ap (λ o. wrap item_listed (and_then o S)) (sym item_is)

pub item_statements : ItemStatements
item_statements ts m a outer starts = (as_statement ts m a outer starts _ (parse_rule_is statement ts), as_statements ts m a outer starts _ _ _ (parse_rule_is statements ts))
