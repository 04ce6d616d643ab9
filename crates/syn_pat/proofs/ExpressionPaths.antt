-- Qualified paths in expressions: the words of the trait are inside of the `< >`.
use Rattle.std.proofs.Common.{◌≡◌, ℕ, suc, true, false, List, [], ◌∷◌, ◌++◌, Option, Some, None, length, refl, sym, ap, ap₂, ◌∙◌, subst, true≢false}
use Rattle.std.specs.Prelude.{IsSome}
use Rattle.syn_grammar.specs.Words.{w_as, colons as double, greater, less}
use Rattle.syn_grammar.specs.Tokens.{Stream, at_word}
use Rattle.syn_grammar.specs.Rules.{expression_words, qualified_expression_path, type, type_path}
use Rattle.syn_grammar.specs.Grammar.{word, Syntax, Nothing, Both, Left, Right, Node, Unshown}
use Rattle.syn_grammar.specs.Take.{sees, take_mark, take_token}
use Rattle.syn_grammar.specs.Run.{wrap, and_then, parse_rule, parse_form}
use Rattle.syn_grammar.specs.Promises.{itself}
use Rattle.syn_grammar.proofs.Each.{qualified_expression_path_is}
use Rattle.syn_tokens.specs.Kinds.{PathSep, path_sep_syntax}
use Rattle.syn_tokens.specs.Listing.{joined_of}
use Rattle.syn_tokens.specs.Lists.{values}
use Rattle.syn_lower.specs.QualifiedPaths.{part, words_in, separator_after, words_after, qualified}
use Rattle.syn_lower.specs.TypeForms.{of_qualified, trait_form}
use Rattle.syn_pat.specs.PathForms.{after_trait_form}

abbrev Words : Type 0
Words = List (Syntax × PathSep)

abbrev joined : Words → Option Syntax → Syntax
joined = joined_of itself path_sep_syntax

-- words, one more followed by `::`, and others
module _ (x : Syntax) (c : PathSep) (m : Words) (o : Option Syntax) where
  abbrev all : Words → Syntax
  all l = joined ((l ++ (x, c) ∷ []) ++ m) o

  inside : (l : Words) → words_in (length l) (all l) ≡ joined l (Some x)
  inside [] = refl
  inside (y ∷ []) = refl
  inside (y ∷ z ∷ l) = ap (λ s. Node (Both y.0 (Left (Both (path_sep_syntax y.1) s)))) (inside (z ∷ l))

  separator : (l : Words) → separator_after (length l) (all l) ≡ path_sep_syntax c
  separator [] = refl
  separator (y ∷ []) = refl
  separator (y ∷ z ∷ l) = separator (z ∷ l)

  others : (l : Words) → words_after (length l) (all l) ≡ joined m o
  others [] = refl
  others (y ∷ []) = refl
  others (y ∷ z ∷ l) = others (z ∷ l)

  counted : (l : Words) → length (values (record { pairs = l; last = Some x })) ≡ suc (length l)
  counted [] = refl
  counted (y ∷ l) = ap suc (counted l)

  module _ (as_token gt leading : Syntax) where
    abbrev Goal : ℕ → Words → Type 0
    Goal n l = qualified n as_token gt leading (all l) ≡ Both (Left (Both (part as_token) (Node (Both leading (joined l (Some x)))))) (Both gt (Both (path_sep_syntax c) (joined m o)))

    split : (l : Words) → Goal (suc (length l)) l
    split [] = refl
    split (y ∷ l) = ap₂ Both (ap (λ s. Left (Both (part as_token) (Node (Both leading s)))) (inside (y ∷ l))) (ap (Both gt) (ap₂ Both (separator (y ∷ l)) (others (y ∷ l))))

    -- what they represent, where so many words are those of the trait
    pub qualified_words : (l : Words) → Goal (length (values (record { pairs = l; last = Some x }))) l
    qualified_words l = subst (λ n. Goal n l) (sym (counted l)) (split l)

-- an option that holds something
pub held : {A : Type 0} (o : Option A) → IsSome o → (x : A) × (o ≡ Some x)
held None h = absurd (true≢false (sym h))
held (Some x) h = (x, refl)

-- WHAT IS READ OF A QUALIFIED PATH

module _ (ts m n : Stream) (lt ty : Syntax) (a : take_mark less ts ≡ Some (lt, m)) (b : parse_rule type m ≡ Some (ty, n)) where
  -- after its type, with a trait or without one
  pub with_trait : sees (at_word w_as) n ≡ true → wrap Node (wrap Left (parse_rule qualified_expression_path ts)) ≡ of_qualified lt ty (and_then (wrap Left (parse_form trait_form n)) (parse_form after_trait_form))
  with_trait h = ap (λ o. wrap Node (wrap Left o)) (qualified_expression_path_is ts ∙ rw a (rw b (rw h refl)))

  pub without_trait : sees (at_word w_as) n ≡ false → wrap Node (wrap Left (parse_rule qualified_expression_path ts)) ≡ of_qualified lt ty (and_then (Some (Right (Unshown Nothing), n)) (parse_form after_trait_form))
  without_trait h = ap (λ o. wrap Node (wrap Left o)) (qualified_expression_path_is ts ∙ rw a (rw b (rw h refl)))

-- `as`, the trait's path, `>`, `::` and words
pub trait_read : (ts m₁ m₂ m₃ m₄ m₅ : Stream) (as_token path gt colons others : Syntax) →
    take_token (word w_as) ts ≡ Some (as_token, m₁) → parse_rule type_path m₁ ≡ Some (path, m₂) →
    take_mark greater m₂ ≡ Some (gt, m₃) → take_mark double m₃ ≡ Some (colons, m₄) → parse_rule expression_words m₄ ≡ Some (others, m₅) →
    and_then (wrap Left (parse_form trait_form ts)) (parse_form after_trait_form) ≡ Some (Both (Left (Both as_token path)) (Both gt (Both colons others)), m₅)
trait_read ts m₁ m₂ m₃ m₄ m₅ as_token path gt colons others a b d e f =
    rw a (ap (λ o. and_then (wrap Left (wrap (Both as_token) o)) (parse_form after_trait_form)) b ∙ rw d (rw e (rw f refl)))
