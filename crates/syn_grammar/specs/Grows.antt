-- THE GRAMMAR HAS GROWN: traits and impls with `const` became kinds of items, and struct literals were added.
use Rattle.std.specs.Prelude.{◌≡◌, Bool, true, false, [], ◌∷◌}
use Rattle.syn_grammar.specs.Tokens.{Stream, end, and, no, pick}
use Rattle.syn_grammar.specs.Rules.{Rule, kept_item, kept_item_rest, kept_in_block, trait_definition, trait_definition_rest, impl_definition, impl_definition_rest, odd_impl, const_trait, const_impl, odd_const_impl}
use Rattle.syn_grammar.specs.RuleNumbers.{same_rule}
use Rattle.syn_grammar.specs.Shape.{Shape, an_item, attributed, listed, single}
use Rattle.syn_grammar.specs.Grammar.{Syntax, Both, Left, Right, Node, Vanishing, Group, Case, Such, Captured, Shaped, Impl, Last, More, Order, DerivesPrefix, rule, among}
use Rattle.syn_grammar.specs.Before.{before}
use Rattle.syn_grammar.specs.Laws.{Derives}

-- forms of items that the earlier grammar stored verbatim, and that are now kinds of items, or another form
abbrev pub is_moved : Rule → Bool
is_moved k = among k (const_trait ∷ const_impl ∷ odd_const_impl ∷ [])

-- no part of the tree is of such a form
abbrev pub unmoved : Syntax → Bool
unmoved (Case k s) = and (no (is_moved k)) (unmoved s)
unmoved (Both s t) = and (unmoved s) (unmoved t)
unmoved (Left s) = unmoved s
unmoved (Right s) = unmoved s
unmoved (Node s) = unmoved s
unmoved (Vanishing b s) = unmoved s
unmoved (Group d o c s) = unmoved s
unmoved (Such s) = unmoved s
unmoved (Shaped j s) = unmoved s
unmoved (Captured s i) = unmoved s
unmoved (Impl l s) = and (unmoved l) (unmoved s)
unmoved (Last k s) = unmoved s
unmoved (More k s sp t) = and (unmoved s) (unmoved t)
unmoved (Order xs l ys) = unmoved l
unmoved s = true

-- LIFTING A TREE: each moved form in it becomes the form that reads it now

-- the form that is still stored verbatim
abbrev pub renamed : Rule → Syntax → Syntax
renamed k s = pick (same_rule k odd_const_impl) (Case odd_impl s) (Case k s)

-- one of three, depending on the form: a trait with `const`, an impl with `const`, or another
abbrev pub by_form : Rule → Syntax → Syntax → Syntax → Syntax
by_form k s t u = pick (same_rule k const_trait) s (pick (same_rule k const_impl) t u)

-- an item that was stored verbatim
abbrev pub lift_item : Syntax → Syntax
lift_item (Captured (Both a (Node (Case k s))) i) =
    by_form k (Case trait_definition (Both a (Node s))) (Case impl_definition (Both a (Node s))) (Case kept_item (Captured (Both a (Node (renamed k s))) i))
lift_item s = Case kept_item s

-- the same for a statement after its attributes, with the statements after it; and for a single statement
abbrev pub item_of_list : Syntax → Rule → Syntax → Syntax → Syntax
item_of_list a k s l = Shaped listed (Right (Both a (Left (Shaped an_item (Both (Node (Case k s)) l)))))

abbrev pub item_alone : Syntax → Rule → Syntax → Syntax
item_alone a k s = Shaped single (Right (Shaped attributed (Both a (Left (Shaped an_item (Node (Case k s)))))))

abbrev pub lift_shaped : Shape → Syntax → Syntax
lift_shaped listed (Left (Both (Shaped an_item (Node (Captured (Both a (Left (Node (Case k s)))) i))) l)) =
    by_form k (item_of_list a trait_definition_rest s l) (item_of_list a impl_definition_rest s l) (Shaped listed (Left (Both (Shaped an_item (Node (Captured (Both a (Left (Node (renamed k s)))) i))) l)))
lift_shaped single (Left (Shaped an_item (Node (Captured (Both a (Left (Node (Case k s)))) i)))) =
    by_form k (item_alone a trait_definition_rest s) (item_alone a impl_definition_rest s) (Shaped single (Left (Shaped an_item (Node (Captured (Both a (Left (Node (renamed k s)))) i)))))
lift_shaped j s = Shaped j s

-- true: lifts all of the tree; false: only the parts in groups (no other part of a tested tree can be of such a form)
abbrev pub lift_in : Bool → Syntax → Syntax
lift_in b (Both s t) = Both (lift_in b s) (lift_in b t)
lift_in b (Left s) = Left (lift_in b s)
lift_in b (Right s) = Right (lift_in b s)
lift_in b (Node s) = Node (lift_in b s)
lift_in b (Vanishing v s) = Vanishing v (lift_in b s)
lift_in b (Group d o c s) = Group d o c (lift_in true s)
lift_in b (Case k s) = pick (and b (same_rule k kept_item)) (lift_item (lift_in b s)) (Case k (lift_in b s))
lift_in b (Such s) = Such (lift_in false s)
lift_in b (Shaped j s) = pick b (lift_shaped j (lift_in b s)) (Shaped j (lift_in b s))
lift_in b (Captured s i) = Captured (lift_in b s) i
lift_in b (Impl l s) = Impl (lift_in b l) (lift_in b s)
lift_in b (Last k s) = Last k (lift_in b s)
lift_in b (More k s sp t) = More k (lift_in b s) sp (lift_in b t)
lift_in b (Order xs l ys) = Order xs (lift_in b l) ys
lift_in b s = s

abbrev pub lift : Syntax → Syntax
lift s = lift_in true s

-- rules of parts of verbatim items, which the two grammars read differently; and names that only the earlier grammar has
abbrev pub is_part : Rule → Bool
is_part k = among k (kept_item ∷ kept_item_rest ∷ kept_in_block ∷ const_trait ∷ const_impl ∷ odd_const_impl ∷ [])

-- What a rule of the earlier grammar derives, the grammar derives of the same tokens, as the lifted tree.
abbrev pub StillDerives : Type 0
StillDerives = (k : Rule) (ts : Stream) (s : Syntax) → is_part k ≡ false → DerivesPrefix before (rule k) s ts end → Derives k ts (lift s)

-- Lifting a tree without a moved form doesn't change it, nor its print.
abbrev pub LiftKeeps : Type 0
LiftKeeps = (s : Syntax) → unmoved s ≡ true → lift s ≡ s
