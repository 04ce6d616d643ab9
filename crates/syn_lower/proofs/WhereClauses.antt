-- A where clause if it is next, and none if it isn't.
use Rattle.std.proofs.Common.{◌≡◌, Bool, true, false, Some, None, refl, ap, ◌∙◌}
use Rattle.syn_grammar.specs.Words.{w_where}
use Rattle.syn_grammar.specs.Tokens.{Stream, at_word}
use Rattle.syn_grammar.specs.Rules.{where_clause}
use Rattle.syn_grammar.specs.Grammar.{Nothing, Left, Node, Vanishing, rule}
use Rattle.syn_grammar.specs.Take.{Out, sees}
use Rattle.syn_grammar.specs.Run.{branch, parse_form, parse_rule, vanish, wrap}
use Rattle.syn_grammar.proofs.Each.{where_clause_is}
use Rattle.syn_parse.specs.Form.{if_tree, of, parse, such_that}
use Rattle.syn_lower.specs.Generics.{no_clause}
use Rattle.syn_lower.specs.WhereClauses.{clause_form, clause_there, is_there}

pub some_clause : (ts : Stream) → sees (at_word w_where) ts ≡ true → parse_rule where_clause ts ≡ clause_there ts
unfolding clause_there
some_clause ts h = where_clause_is ts ∙ ap (λ b. wrap Node (vanish false (branch b (parse_form clause_form ts) (Some (Nothing, ts))))) h ∙ go (parse_form clause_form ts)
  where
    go : (o : Out) → wrap Node (vanish false (wrap Left o)) ≡ wrap (λ s. Node (Vanishing false (Left s))) o
    go None = refl
    go (Some p) = refl

pub none_clause : (ts : Stream) → sees (at_word w_where) ts ≡ false → parse_rule where_clause ts ≡ Some (no_clause, ts)
none_clause ts h = where_clause_is ts ∙ ap (λ b. wrap Node (vanish false (branch b (parse_form clause_form ts) (Some (Nothing, ts))))) h

pub clause_is : (ts : Stream) → sees (at_word w_where) ts ≡ true → parse (such_that is_there (of (rule where_clause))) ts ≡ clause_there ts
unfolding clause_there
clause_is ts h = ap (if_tree is_there) (some_clause ts h) ∙ go (parse_form clause_form ts)
  where
    go : (o : Out) → if_tree is_there (wrap (λ s. Node (Vanishing false (Left s))) o) ≡ wrap (λ s. Node (Vanishing false (Left s))) o
    go None = refl
    go (Some p) = refl

pub no_clause_is : (ts : Stream) → sees (at_word w_where) ts ≡ false → parse (such_that is_there (of (rule where_clause))) ts ≡ None
no_clause_is ts h = ap (if_tree is_there) (none_clause ts h)
