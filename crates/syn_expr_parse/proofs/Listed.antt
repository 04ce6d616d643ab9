-- A list of statements, as far as it was read.
use Rattle.std.proofs.Common.{◌≡◌, false, true, List, [], ◌∷◌, ◌++◌, Some, None, refl, sym, ap, ◌∙◌}
use Rattle.syn_grammar.specs.Tokens.{Stream, ended}
use Rattle.syn_grammar.specs.Rules.{statements}
use Rattle.syn_grammar.specs.Grammar.{Syntax, Nothing, Left, Node}
use Rattle.syn_grammar.specs.Take.{sees}
use Rattle.syn_grammar.specs.Run.{wrap, parse_rule}
use Rattle.syn_parse.proofs.Listing.{wrap_wrap, wrap_same}
use Rattle.syn_expr_parse.specs.Listed.{statements_before}
use Rattle.syn_expr_parse.specs.StatementForms.{before_others, next_statement, then_by}
use Rattle.syn_expr_parse.specs.Parts.{statements_of}
use Rattle.syn_expr_parse.proofs.StatementLists.{more, statements_ended, statements_more}

module _ {S : Type 0} (v : S → Syntax) where
  front_grows : (l : List S) (x : S) (s : Syntax) → statements_before v (l ++ x ∷ []) s ≡ statements_before v l (before_others (v x) s)
  front_grows [] x s = refl
  front_grows (y ∷ l) x s = ap (before_others (v y)) (front_grows l x s)

  -- one more statement is read
  pub one_more : (l : List S) (x : S) (ts r : Stream) → sees ended ts ≡ false → next_statement ts ≡ Some (v x, r) →
      wrap (statements_before v l) (parse_rule statements ts) ≡ wrap (statements_before v (l ++ x ∷ [])) (parse_rule statements r)
  one_more l x ts r h e =
      ap (wrap (statements_before v l)) (statements_more ts h ∙ ap (λ o. then_by o more) e)
      ∙ wrap_wrap (statements_before v l) (before_others (v x)) (parse_rule statements r)
      ∙ wrap_same _ _ (λ s. sym (front_grows l x s)) (parse_rule statements r)

  -- none is
  pub none_more : (l : List S) (ts : Stream) → sees ended ts ≡ false → next_statement ts ≡ None → wrap (statements_before v l) (parse_rule statements ts) ≡ None
  none_more l ts h e = ap (wrap (statements_before v l)) (statements_more ts h ∙ ap (λ o. then_by o more) e)

  all_before : (l : List S) → statements_before v l (Node (Left Nothing)) ≡ statements_of v l
  all_before [] = refl
  all_before (x ∷ l) = ap (before_others (v x)) (all_before l)

  -- the end
  pub all_read : (l : List S) (ts : Stream) → sees ended ts ≡ true → wrap (statements_before v l) (parse_rule statements ts) ≡ Some (statements_of v l, ts)
  all_read l ts h = ap (wrap (statements_before v l)) (statements_ended ts h) ∙ ap (λ s. Some (s, ts)) (all_before l)
