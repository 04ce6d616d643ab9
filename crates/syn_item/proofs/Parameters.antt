-- Prints of signatures, and of parameters before a variadic one.
use Rattle.std.proofs.Common.{◌≡◌, List, [], ◌∷◌, Option, Some, None, refl, sym, ap, ◌∙◌}
use Rattle.syn_grammar.specs.Tokens.{◌⧺◌}
use Rattle.syn_grammar.specs.Grammar.{Syntax, Both, Node, print}
use Rattle.syn_grammar.proofs.Streams.{append_append, append_end}
use Rattle.syn_tokens.specs.Building.{Building, added}
use Rattle.syn_tokens.specs.Listing.{list_of}
use Rattle.syn_tokens.proofs.Prints.{added_more}
use Rattle.syn_item.specs.Signatures.{comma_after, last_comma}

module _ {T P : Type 0} (v : T → Syntax) (w : P → Syntax) where
  pub print_comma_after : (l : List (T × P)) (o : Option T) → print (comma_after (list_of v w l o)) ≡ print (list_of v w l o) ⧺ last_comma o
  print_comma_after [] None = refl
  print_comma_after [] (Some t) = ap (λ s. s ⧺ last_comma (Some t)) (sym (append_end (print (v t))))
  print_comma_after (x ∷ l) o =
      let others = print (list_of v w l o) in
      ap (λ s. print (v x.0) ⧺ (print (w x.1) ⧺ s)) (print_comma_after l o)
      ∙ sym (append_append (print (v x.0)) (print (w x.1) ⧺ others) (last_comma o) ∙ ap (λ s. print (v x.0) ⧺ s) (append_append (print (w x.1)) others (last_comma o)))

-- the parts of a signature, one after the other
module _ (constness asyncness safety abi sign ident generics inputs others : Syntax) where
  pub signature_printed : (b b₁ b₂ b₃ b₄ b₅ b₆ b₇ b₈ b₉ : Building) →
      b₁ ≡ added b (print constness) → b₂ ≡ added b₁ (print asyncness) → b₃ ≡ added b₂ (print safety) → b₄ ≡ added b₃ (print abi) → b₅ ≡ added b₄ (print sign) →
      b₆ ≡ added b₅ (print ident) → b₇ ≡ added b₆ (print generics) → b₈ ≡ added b₇ (print inputs) → b₉ ≡ added b₈ (print others) →
      b₉ ≡ added b (print (Node (Both constness (Both asyncness (Both safety (Both abi (Node (Both sign (Both ident (Both generics (Both inputs others)))))))))))
  signature_printed b b₁ b₂ b₃ b₄ b₅ b₆ b₇ b₈ b₉ e₁ e₂ e₃ e₄ e₅ e₆ e₇ e₈ e₉ = rw (e₉, e₈, e₇, e₆, e₅, e₄, e₃, e₂, e₁) (simp (added_more, append_append))
