-- The fields of a struct literal are read one at a time.
use Rattle.std.proofs.Common.{◌≡◌, Bool, true, false, List, [], ◌∷◌, ◌++◌, Option, Some, None, refl, sym, ap, ◌∙◌}
use Rattle.syn_grammar.specs.Words.{comma, dots}
use Rattle.syn_grammar.specs.Tokens.{Stream, ended}
use Rattle.syn_grammar.specs.Rules.{literal_field, literal_fields, whole_expression}
use Rattle.syn_grammar.specs.Grammar.{Syntax, Nothing, Both, Left, Right, Node}
use Rattle.syn_grammar.specs.Table.{at_comma, at_dots}
use Rattle.syn_grammar.specs.Take.{Out, sees, take_mark}
use Rattle.syn_grammar.specs.Values.{literal_fields_of}
use Rattle.syn_grammar.specs.Run.{wrap, and_then, branch, parse_form, parse_rule}
use Rattle.syn_grammar.proofs.Each.{literal_fields_is}
use Rattle.syn_tokens.specs.Listing.{last_of, list_of}
use Rattle.syn_expr_parse.specs.StructLiterals.{base_alone, base_form, fields_before, literal_of_parts, one_before}

-- after a field
abbrev following : Stream → Out
following m = branch (sees at_comma m) (and_then (take_mark comma m) (parse_rule literal_fields)) (Some (Nothing, m))

abbrev read : Out → Out
read o = wrap Node (wrap literal_fields_of o)

fields_are : (ts : Stream) (u v : Bool) → sees ended ts ≡ u → sees at_dots ts ≡ v →
    parse_rule literal_fields ts ≡ read (branch u (Some (Nothing, ts)) (branch v (parse_form base_form ts) (and_then (parse_rule literal_field ts) following)))
fields_are ts u v h k = literal_fields_is ts ∙ ap (λ b. read (branch b (Some (Nothing, ts)) (branch (sees at_dots ts) (parse_form base_form ts) (and_then (parse_rule literal_field ts) following)))) h
    ∙ ap (λ b. read (branch u (Some (Nothing, ts)) (branch b (parse_form base_form ts) (and_then (parse_rule literal_field ts) following)))) k

module _ (f : Syntax → Syntax) (ts : Stream) where
  pub literal_end : sees ended ts ≡ true → wrap f (parse_rule literal_fields ts) ≡ Some (f (literal_of_parts (Node (Left Nothing)) (Right Nothing) (Right Nothing)), ts)
  literal_end h = ap (wrap f) (fields_are ts true (sees at_dots ts) h refl)

  module _ (more : sees ended ts ≡ false) where
    pub literal_base : sees at_dots ts ≡ true → wrap f (parse_rule literal_fields ts) ≡ wrap (λ s. f (base_alone s)) (parse_form base_form ts)
    literal_base h = ap (wrap f) (fields_are ts false true more h) ∙ first (take_mark dots ts)
      where
        go : (d : Syntax) (o : Out) → wrap f (read (wrap Right (wrap Left (wrap (Both d) o)))) ≡ wrap (λ s. f (base_alone s)) (wrap (Both d) o)
        go d None = refl
        go d (Some p) = refl

        first : (o : Out) → wrap f (read (wrap Right (wrap Left (and_then o (parse_rule whole_expression))))) ≡ wrap (λ s. f (base_alone s)) (and_then o (parse_rule whole_expression))
        first None = refl
        first (Some p) = go p.0 (parse_rule whole_expression p.1)

    module _ (no_base : sees at_dots ts ≡ false) where
      pub literal_refused : parse_rule literal_field ts ≡ None → wrap f (parse_rule literal_fields ts) ≡ None
      literal_refused h = ap (wrap f) (fields_are ts false false more no_base) ∙ ap (λ o. wrap f (read (wrap Right (wrap Right (and_then o following))))) h

      module _ (s : Syntax) (m : Stream) (field : parse_rule literal_field ts ≡ Some (s, m)) where
        by_comma : (b : Bool) → sees at_comma m ≡ b → wrap f (parse_rule literal_fields ts) ≡ wrap f (read (wrap Right (wrap Right (wrap (Both s) (branch b (and_then (take_mark comma m) (parse_rule literal_fields)) (Some (Nothing, m)))))))
        by_comma b h =
            ap (wrap f) (fields_are ts false false more no_base) ∙ ap (λ o. wrap f (read (wrap Right (wrap Right (and_then o following))))) field
            ∙ ap (λ b. wrap f (read (wrap Right (wrap Right (wrap (Both s) (branch b (and_then (take_mark comma m) (parse_rule literal_fields)) (Some (Nothing, m)))))))) h

        pub literal_last : sees at_comma m ≡ false → wrap f (parse_rule literal_fields ts) ≡ Some (f (literal_of_parts (Node (Right (Both s (Right Nothing)))) (Right Nothing) (Right Nothing)), m)
        literal_last h = by_comma false h

        pub literal_no_comma : sees at_comma m ≡ true → take_mark comma m ≡ None → wrap f (parse_rule literal_fields ts) ≡ None
        literal_no_comma h k = by_comma true h ∙ ap (λ o. wrap f (read (wrap Right (wrap Right (wrap (Both s) (wrap Left (and_then o (parse_rule literal_fields)))))))) k

        pub literal_more : (q : Syntax) (n : Stream) → sees at_comma m ≡ true → take_mark comma m ≡ Some (q, n) → wrap f (parse_rule literal_fields ts) ≡ wrap (λ z. f (one_before s q z)) (parse_rule literal_fields n)
        literal_more q n h k = by_comma true h ∙ ap (λ o. wrap f (read (wrap Right (wrap Right (wrap (Both s) (wrap Left (and_then o (parse_rule literal_fields)))))))) k ∙ go (parse_rule literal_fields n)
          where
            go : (o : Out) → wrap f (read (wrap Right (wrap Right (wrap (Both s) (wrap Left (wrap (Both q) o)))))) ≡ wrap (λ z. f (one_before s q z)) o
            go None = refl
            go (Some p) = refl

-- FIELDS THAT WERE READ, before others
module _ {F P : Type 0} (v : F → Syntax) (w : P → Syntax) where
  grown : (l : List (F × P)) (x : F × P) (s : Syntax) → fields_before v w (l ++ x ∷ []) s ≡ fields_before v w l (one_before (v x.0) (w x.1) s)
  grown [] x s = refl
  grown (y ∷ l) x s = ap (one_before (v y.0) (w y.1)) (grown l x s)

  pub fields_grow : (l : List (F × P)) (x : F × P) (o : Out) → wrap (λ s. fields_before v w l (one_before (v x.0) (w x.1) s)) o ≡ wrap (fields_before v w (l ++ x ∷ [])) o
  fields_grow l x None = refl
  fields_grow l x (Some p) = ap (λ s. Some (s, p.1)) (sym (grown l x p.0))

  pub all_fields : (l : List (F × P)) (o : Option F) (d e : Syntax) → fields_before v w l (literal_of_parts (last_of Right v w (Node (Left Nothing)) o) d e) ≡ literal_of_parts (list_of v w l o) d e
  all_fields [] None d e = refl
  all_fields [] (Some t) d e = refl
  all_fields (x ∷ l) o d e = ap (one_before (v x.0) (w x.1)) (all_fields l o d e)
