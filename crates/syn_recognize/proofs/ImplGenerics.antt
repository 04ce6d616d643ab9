-- The generics of an impl, where they are printed by a guess.
use Rattle.std.proofs.Common.{◌≡◌, Bool, true, false, Option, Some, None, [], ◌∷◌, refl, ap, ◌∙◌}
use Rattle.syn_grammar.specs.Words.{less, greater}
use Rattle.syn_grammar.specs.Tokens.{Span, Stream, end, punct, ◌⧺◌, pick, at_generics}
use Rattle.syn_grammar.specs.Grammar.{Syntax, Mark, at_row_end}
use Rattle.syn_grammar.specs.Take.{sees, take_mark}
use Rattle.syn_recognize.specs.PrintedRows.{way}
use Rattle.syn_recognize.specs.Written.{Written, adds}
use Rattle.syn_recognize.specs.Copies.{Copy, Refused, next, copy_form}
use Rattle.syn_recognize.proofs.GuessedCourses.{guessed_generics, guessed_lists}
use Rattle.syn_recognize.specs.Courses.{ends_next, no_parameters, impl_parameters}
use Rattle.syn_recognize.proofs.FadingParts.{generics_absent, generics_bare, generics_open, generics_kept, generics_refused}
use Rattle.syn_recognize.proofs.Writes.{adds_more}

module _ (x : Bool) (P : Option Bool → Written → Stream → Copy) (w : Written) (ts : Stream) where
  by_empty : (b : Bool) → no_parameters ts ≡ b → guessed_lists (no_parameters ts) x P w ts ≡ guessed_lists b x P w ts
  by_empty b e = ap (λ n. guessed_lists n x P w ts) e

  abbrev then : Written → Stream → Copy
  then v r = P (Some x) (adds v (guessed_generics x)) r

  -- no generics are next
  pub none_absent : sees at_generics ts ≡ false → guessed_lists (no_parameters ts) x P w ts ≡ P (Some x) (adds w (guessed_generics x)) ts
  none_absent e = by_empty true (ap (λ n. pick n (ends_next (take_mark less ts)) true) e) ∙ ap (λ o. next o then) (generics_absent at_generics w ts e)

  ends_is : (y : Syntax) (m : Stream) (b : Bool) → sees at_generics ts ≡ true → take_mark less ts ≡ Some (y, m) → sees at_row_end m ≡ b → no_parameters ts ≡ b
  ends_is y m b e h s = ap (λ n. pick n (ends_next (take_mark less ts)) true) e ∙ ap ends_next h ∙ s

  -- `<` and `>`
  pub none_bare : (y z : Syntax) (m r : Stream) → sees at_generics ts ≡ true → w.printing ≡ true → take_mark less ts ≡ Some (y, m) → sees at_row_end m ≡ true → take_mark greater m ≡ Some (z, r) →
      guessed_lists (no_parameters ts) x P w ts ≡ P (Some x) (adds w (guessed_generics x)) r
  none_bare y z m r e p h s g = by_empty true (ends_is y m true e h s) ∙ ap (λ o. next o then) (generics_bare at_generics w ts y z m r e p h s g)

  pub none_open : (y : Syntax) (m : Stream) → sees at_generics ts ≡ true → take_mark less ts ≡ Some (y, m) → sees at_row_end m ≡ true → take_mark greater m ≡ None → guessed_lists (no_parameters ts) x P w ts ≡ Refused
  none_open y m e h s g = by_empty true (ends_is y m true e h s) ∙ ap (λ o. next o then) (generics_open at_generics w ts y m e h s g)

  pub none_refused : sees at_generics ts ≡ true → take_mark less ts ≡ None → guessed_lists (no_parameters ts) x P w ts ≡ Refused
  none_refused e h = by_empty false (ap (λ n. pick n (ends_next (take_mark less ts)) true) e ∙ ap ends_next h) ∙ ap (λ o. next o (P None)) (generics_refused at_generics w ts e h)

  -- parameters
  pub some_kept : (y : Syntax) (m : Stream) → sees at_generics ts ≡ true → take_mark less ts ≡ Some (y, m) → sees at_row_end m ≡ false → guessed_lists (no_parameters ts) x P w ts ≡ next (copy_form impl_parameters w ts) (P None)
  some_kept y m e h s = by_empty false (ends_is y m false e h s) ∙ ap (λ o. next o (P None)) (generics_kept at_generics w ts y m e h s)

-- `< >`, written one mark after the other
pub both_marks : (w : Written) (a : Bool) (o c : Span) → adds (adds w (way w.printing (Mark ((60, o) ∷ [])))) (way a (Mark ((62, c) ∷ []))) ≡ adds w (punct 60 false o (punct 62 false c end))
both_marks w a o c = adds_more w (way w.printing (Mark ((60, o) ∷ []))) (way a (Mark ((62, c) ∷ []))) ∙ ap (adds w) (go w.printing a)
  where
    go : (a b : Bool) → way a (Mark ((60, o) ∷ [])) ⧺ way b (Mark ((62, c) ∷ [])) ≡ punct 60 false o (punct 62 false c end)
    go true true = refl
    go true false = refl
    go false true = refl
    go false false = refl
