-- Members in order, printed and copied.
use Rattle.std.proofs.Common.{◌≡◌, ℕ, ◌+◌, ◌<◌, ◌≤◌, List, [], ◌∷◌, length, drop, get_or, refl, sym, ap, ◌∙◌}
use Rattle.std.proofs.lemmas.List.{at_drop_more, drop_all}
use Rattle.syn_grammar.specs.Tokens.{end, ◌⧺◌}
use Rattle.syn_grammar.specs.Grammar.{Syntax, Nothing, Both, Left, Right, Node, print}
use Rattle.syn_tokens.specs.InOrder.{in_order}
use Rattle.syn_item.specs.Parts.{members_of, members_row}

module _ {T : Type 0} (view : T → Syntax) where
  pub print_members : (l : List T) → print (members_of view l) ≡ members_row view l
  print_members [] = refl
  print_members (x ∷ l) = ap (λ z. print (view x) ⧺ z) (print_members l)

  -- what is left of a list, one step on
  pub row_step : (l : List T) (i : ℕ) (d : T) → i < length l → members_row view (drop i l) ≡ print (view (get_or l i d)) ⧺ members_row view (drop (i + 1) l)
  row_step l i d h = at_drop_more (members_row view) l i d h

  pub row_done : (l : List T) (i : ℕ) → length l ≤ i → members_row view (drop i l) ≡ end
  row_done l i h = ap (members_row view) (drop_all i l h)

-- members that represent the same one by one do so together
abbrev in_rule : Syntax → Syntax
in_rule (Both a s) = Node (Right (Both a (in_rule s)))
in_rule s = Node (Left Nothing)

module _ {T : Type 0} (view : T → Syntax) where
  members_are : (l : List T) → members_of view l ≡ in_rule (in_order view l)
  members_are [] = refl
  members_are (x ∷ l) = ap (λ z. Node (Right (Both (view x) z))) (members_are l)

  pub copied_members : (l m : List T) → in_order view l ≡ in_order view m → members_of view l ≡ members_of view m
  copied_members l m e = members_are l ∙ ap in_rule e ∙ sym (members_are m)
