-- Generics in `< >` where they are printed, by the tokens that are next.
use Rattle.std.proofs.Common.{◌≡◌, true, false, Option, Some, refl, sym, ap, ◌∙◌}
use Rattle.syn_grammar.specs.Words.{less, greater}
use Rattle.syn_grammar.specs.Tokens.{Stream, Look, Before_parameter, ahead, at_generics, pick}
use Rattle.syn_grammar.specs.Grammar.{Syntax, at_row_end, vanishing}
use Rattle.syn_grammar.specs.Table.{at_less}
use Rattle.syn_grammar.specs.Take.{sees, take_mark}
use Rattle.syn_grammar.proofs.Looks.{sees_and, sees_mark}
use Rattle.syn_grammar.proofs.Sets.{and_left}
use Rattle.syn_parse.specs.Peeks.{past}
use Rattle.syn_recognize.specs.Written.{Written, blank}
use Rattle.syn_recognize.specs.Copies.{Copy, Reached, next, copy_form}
use Rattle.syn_recognize.specs.Courses.{ends_next, impl_parameters, no_parameters, printed_lists}
use Rattle.syn_recognize.proofs.FadingParts.{generics_absent, generics_bare, generics_kept, parameters}
use Rattle.syn_recognize.proofs.Passed.{mark_passed}

less_passed : (ts : Stream) → sees at_less ts ≡ true → (s : Syntax) × (take_mark less ts ≡ Some (s, past ts))
less_passed ts e = mark_passed 60 refl ts (sym (sees_mark less refl ts) ∙ e)

greater_passed : (ts : Stream) → sees at_row_end ts ≡ true → (s : Syntax) × (take_mark greater ts ≡ Some (s, past ts))
greater_passed ts e = mark_passed 62 refl ts (sym (sees_mark greater refl ts) ∙ e)

module _ (c : Look) (w : Written) (ts : Stream) where
  -- `<` and `>`
  pub passed_bare : sees c ts ≡ true → sees at_less ts ≡ true → w.printing ≡ true → sees at_row_end (past ts) ≡ true → copy_form (vanishing false c parameters) w ts ≡ Reached w (past (past ts))
  passed_bare e l p s = let (x, h) = less_passed ts l in let (y, g) = greater_passed (past ts) s in generics_bare c w ts x y (past ts) (past (past ts)) e p h s g

  pub passed_kept : sees c ts ≡ true → sees at_less ts ≡ true → sees at_row_end (past ts) ≡ false → copy_form (vanishing false c parameters) w ts ≡ copy_form parameters w ts
  passed_kept e l s = let (x, h) = less_passed ts l in generics_kept c w ts x (past ts) e h s

-- THE GENERICS OF AN IMPL

at_less_first : (ts : Stream) → sees at_generics ts ≡ true → sees at_less ts ≡ true
at_less_first ts e = and_left (sees at_less ts) (sees (ahead Before_parameter) ts) (sym (sees_and at_less (ahead Before_parameter) ts) ∙ e)

none_next : (ts : Stream) → sees at_generics ts ≡ true → no_parameters ts ≡ sees at_row_end (past ts)
none_next ts e = let (x, h) = less_passed ts (at_less_first ts e) in ap (λ c. pick c (ends_next (take_mark less ts)) true) e ∙ ap ends_next h

module _ (q : Option Written → Written → Stream → Copy) (h : Option Written) (w : Written) (ts : Stream) where
  abbrev lists_printed : Copy
  lists_printed = printed_lists (no_parameters ts) q h w ts

  pub lists_absent : sees at_generics ts ≡ false → lists_printed ≡ q (Some w) (blank true) ts
  lists_absent e =
      ap (λ n. printed_lists n q h w ts) (ap (λ c. pick c (ends_next (take_mark less ts)) true) e)
      ∙ ap (λ o. next o (λ v r. q (Some v) (blank true) r)) (generics_absent at_generics w ts e)

  pub lists_bare : sees at_generics ts ≡ true → w.printing ≡ true → sees at_row_end (past ts) ≡ true → lists_printed ≡ q (Some w) (blank true) (past (past ts))
  lists_bare e p s =
      ap (λ n. printed_lists n q h w ts) (none_next ts e ∙ s)
      ∙ ap (λ o. next o (λ v r. q (Some v) (blank true) r)) (passed_bare at_generics w ts e (at_less_first ts e) p s)

  pub lists_kept : sees at_generics ts ≡ true → sees at_row_end (past ts) ≡ false → lists_printed ≡ next (copy_form impl_parameters w ts) (q h)
  lists_kept e s = ap (λ n. printed_lists n q h w ts) (none_next ts e ∙ s) ∙ ap (λ o. next o (q h)) (passed_kept at_generics w ts e (at_less_first ts e) s)
