-- Generic parameters in `< >`, from the left: what one step of a loop reads.
use Rattle.std.proofs.Common.{◌≡◌, true, false, List, [], ◌∷◌, ◌++◌, Some, None, refl, sym, ap, ◌∙◌}
use Rattle.syn_grammar.specs.Words.{comma}
use Rattle.syn_grammar.specs.Tokens.{Stream}
use Rattle.syn_grammar.specs.Rules.{lifetime_parameter}
use Rattle.syn_grammar.specs.Grammar.{Syntax, Done, at_row_comma, at_row_end, rule}
use Rattle.syn_grammar.specs.Table.{parameter}
use Rattle.syn_grammar.specs.Take.{Out, Parser, sees, take_mark}
use Rattle.syn_grammar.specs.Run.{last, more, parse_form, row_step, span_of, union, wrap}
use Rattle.syn_grammar.proofs.Rows as rows
use Rattle.syn_tokens.specs.Kinds.{Comma, comma_syntax}
use Rattle.syn_tokens.specs.Listing.{list_of}
use Rattle.syn_lower.specs.Generics.{as_row, syntax_of_GenericParam}
use Rattle.syn_lower.specs.Parameters.{read_parameters}
use Rattle.syn_lower.specs.declared.generics.GenericParam.{GenericParam}

abbrev pub one : Parser
one = union (parse_form (rule lifetime_parameter)) (parse_form parameter)

-- these parameters, before what is left
abbrev pub before_others : List (GenericParam × Comma) → Syntax → Syntax
before_others [] s = s
before_others (x ∷ l) s = more (syntax_of_GenericParam x.0) (span_of (comma_syntax x.1)) (before_others l s)

all_of : (l : List (GenericParam × Comma)) → as_row (list_of syntax_of_GenericParam comma_syntax l None) ≡ before_others l Done
all_of [] = refl
all_of (x ∷ l) = ap (more (syntax_of_GenericParam x.0) (span_of (comma_syntax x.1))) (all_of l)

and_last : (l : List (GenericParam × Comma)) (p : GenericParam) → as_row (list_of syntax_of_GenericParam comma_syntax l (Some p)) ≡ before_others l (last (syntax_of_GenericParam p))
and_last [] p = refl
and_last (x ∷ l) p = ap (more (syntax_of_GenericParam x.0) (span_of (comma_syntax x.1))) (and_last l p)

one_more : (l : List (GenericParam × Comma)) (x : GenericParam × Comma) (s : Syntax) → before_others l (more (syntax_of_GenericParam x.0) (span_of (comma_syntax x.1)) s) ≡ before_others (l ++ x ∷ []) s
one_more [] x s = refl
one_more (y ∷ l) x s = ap (more (syntax_of_GenericParam y.0) (span_of (comma_syntax y.1))) (one_more l x s)

grows : (l : List (GenericParam × Comma)) (x : GenericParam × Comma) (o : Out) → wrap (before_others l) (wrap (more (syntax_of_GenericParam x.0) (span_of (comma_syntax x.1))) o) ≡ wrap (before_others (l ++ x ∷ [])) o
grows l x None = refl
grows l x (Some p) = ap (λ s. Some (s, p.1)) (one_more l x p.0)

module _ (ts : Stream) where
  pub row_end : (l : List (GenericParam × Comma)) → sees at_row_end ts ≡ true → wrap (before_others l) (read_parameters ts) ≡ Some (as_row (list_of syntax_of_GenericParam comma_syntax l None), ts)
  row_end l h = ap (wrap (before_others l)) (rows.row_stop one (rows.row_of (rule lifetime_parameter) parameter) ts h) ∙ ap (λ s. Some (s, ts)) (sym (all_of l))

  -- one step
  pub parameters_are : read_parameters ts ≡ row_step one read_parameters ts
  parameters_are = (rows.row_of (rule lifetime_parameter) parameter).is ts

  module _ (p : GenericParam) (m : Stream) (h : sees at_row_end ts ≡ false) (a : one ts ≡ Some (syntax_of_GenericParam p, m)) where
    pub row_last : (l : List (GenericParam × Comma)) → sees at_row_comma m ≡ false → wrap (before_others l) (read_parameters ts) ≡ Some (as_row (list_of syntax_of_GenericParam comma_syntax l (Some p)), m)
    row_last l b = ap (wrap (before_others l)) (rows.row_last one (rows.row_of (rule lifetime_parameter) parameter) ts (syntax_of_GenericParam p) m h a b) ∙ ap (λ s. Some (s, m)) (sym (and_last l p))

    -- one more with its comma
    pub row_more : (l : List (GenericParam × Comma)) (c : Comma) (n : Stream) → sees at_row_comma m ≡ true → take_mark comma m ≡ Some (comma_syntax c, n) →
        wrap (before_others l) (read_parameters ts) ≡ wrap (before_others (l ++ (p, c) ∷ [])) (read_parameters n)
    row_more l c n b d = ap (wrap (before_others l)) (rows.row_more one (rows.row_of (rule lifetime_parameter) parameter) ts (syntax_of_GenericParam p) m h a (comma_syntax c) n b d) ∙ grows l (p, c) (read_parameters n)
