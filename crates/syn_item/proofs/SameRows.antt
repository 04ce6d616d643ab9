-- Members in order, and what holds them between its other parts, compared part by part.
use Rattle.std.proofs.Common.{◌≡◌, Bool, true, false, List, [], ◌∷◌, refl, ap, ◌∙◌}
use Rattle.syn_grammar.specs.Tokens.{and}
use Rattle.syn_grammar.specs.Grammar.{Syntax}
use Rattle.syn_grammar.specs.Same.{same_syntax}
use Rattle.syn_tokens.specs.InOrder.{in_order}
use Rattle.syn_lower.specs.Bodies.{attributes_before_body, attributes_in_body}
use Rattle.syn_lower.specs.declared.attr.Attribute.{Attribute}
use Rattle.syn_lower.proofs.Bodies.{same_after_two}
use Rattle.syn_item.specs.Parts.{members_of}
use Rattle.syn_item.proofs.SameParts.{all_same}

module _ {T : Type 0} (v : T → Syntax) where
  pub same_members : (l m : List T) → same_syntax (members_of v l) (members_of v m) ≡ same_syntax (in_order v l) (in_order v m)
  same_members [] [] = refl
  same_members [] (y ∷ m) = refl
  same_members (x ∷ l) [] = refl
  same_members (x ∷ l) (y ∷ m) = ap (and (same_syntax (v x) (v y))) (same_members l m)

  -- A FOREIGN MODULE: attributes, two parts, and members after inner attributes
  pub same_foreign_module : (l m : List Attribute) (u a : Bool) (x y : List T) →
      and (same_syntax (attributes_before_body l) (attributes_before_body m)) (and u (and a (and (same_syntax (attributes_in_body l) (attributes_in_body m)) (same_syntax (members_of v x) (members_of v y)))))
      ≡ and (all_same l m) (and u (and a (same_syntax (in_order v x) (in_order v y))))
  same_foreign_module l m u a x y = same_after_two l m u a (same_syntax (members_of v x) (members_of v y)) ∙ ap (λ z. and (all_same l m) (and u (and a z))) (same_members x y)
