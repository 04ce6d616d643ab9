-- What a plan reads piece by piece, a form reads as a sequence of these pieces.
use Rattle.std.proofs.Common.{◌≡◌, List, [], ◌∷◌, Some, None, refl, ap, ◌∙◌}
use Rattle.syn_grammar.specs.Tokens.{Stream}
use Rattle.syn_grammar.specs.Rules.{Rule}
use Rattle.syn_grammar.specs.Grammar.{Grammar, Syntax, Nothing, Both, Right, Node, Case, Unshown, ◌&◌}
use Rattle.syn_grammar.specs.Take.{Out}
use Rattle.syn_grammar.specs.Run.{and_then, parse_form, wrap}
use Rattle.syn_grammar.specs.Plan.{Plan, reads, follow, run_plan}

-- the pieces as a sequence
abbrev pub in_row : Grammar → List Grammar → Grammar
in_row g [] = g
in_row g (h ∷ l) = g & in_row h l

-- a plan that reads them, and continues by what they are together
abbrev pub reads_row : Grammar → List Grammar → (Syntax → Plan) → Plan
reads_row g [] f = reads g f
reads_row g (h ∷ l) f = reads g λ s. reads_row h l (λ t. f (Both s t))

module _ (k : Rule) (ts : Stream) where
  abbrev pub on : (Syntax → Plan) → Out → Out
  on f o = follow (λ s r. run_plan (f s) k ts r) o

  following : (f : Syntax → Plan) (s : Syntax) (o : Out) → on (λ t. f (Both s t)) o ≡ on f (wrap (Both s) o)
  following f s None = refl
  following f s (Some p) = refl

  pub row_is : (g : Grammar) (l : List Grammar) (f : Syntax → Plan) (m : Stream) → run_plan (reads_row g l f) k ts m ≡ on f (parse_form (in_row g l) m)
  row_is g [] f m = refl
  row_is g (h ∷ l) f m = go (parse_form g m) (λ s r. row_is h l (λ t. f (Both s t)) r)
    where
      go : (o : Out) → ((s : Syntax) (r : Stream) → run_plan (reads_row h l (λ t. f (Both s t))) k ts r ≡ on (λ t. f (Both s t)) (parse_form (in_row h l) r)) →
          follow (λ s r. run_plan (reads_row h l (λ t. f (Both s t))) k ts r) o ≡ on f (and_then o (parse_form (in_row h l)))
      go None e = refl
      go (Some p) e = e p.0 p.1 ∙ following f p.0 (parse_form (in_row h l) p.1)

  pub row_read : (g : Grammar) (l : List Grammar) (f : Syntax → Plan) (m : Stream) (s : Syntax) (r : Stream) → parse_form (in_row g l) m ≡ Some (s, r) → run_plan (reads_row g l f) k ts m ≡ run_plan (f s) k ts r
  row_read g l f m s r e = row_is g l f m ∙ ap (on f) e

  pub row_refused : (g : Grammar) (l : List Grammar) (f : Syntax → Plan) (m : Stream) → parse_form (in_row g l) m ≡ None → run_plan (reads_row g l f) k ts m ≡ None
  row_refused g l f m e = row_is g l f m ∙ ap (on f) e

-- a result with its value put into another
pub answers : (v : Syntax → Syntax) (o : Out) → follow (λ s r. Some (v s, r)) o ≡ wrap v o
answers v None = refl
answers v (Some p) = refl

pub wraps : (u v : Syntax → Syntax) (o : Out) → wrap (λ s. u (v s)) o ≡ wrap u (wrap v o)
wraps u v None = refl
wraps u v (Some p) = refl

-- after attributes, as an item of a kind of its own
pub of_kind : (c : Rule) (a : Syntax) (o : Out) → follow (λ s r. Some (Node (Case c (Both a (Node s))), r)) o ≡ wrap (λ s. Node (Case c s)) (wrap (Both a) (wrap Node o))
of_kind c a None = refl
of_kind c a (Some p) = refl

-- after modifiers that are never printed
pub of_hidden : (c : Rule) (a : Syntax) (o : Out) → follow (λ s r. Some (Node (Case c (Both a (Node (Both (Unshown Nothing) s)))), r)) o ≡ wrap (λ s. Node (Case c s)) (wrap (Both a) (wrap Node (wrap (Both (Unshown Nothing)) o)))
of_hidden c a None = refl
of_hidden c a (Some p) = refl

-- a macro among members
pub of_macro : (c : Rule) (a : Syntax) (o : Out) → follow (λ s r. Some (Node (Case c (Both a (Right (Node s)))), r)) o ≡ wrap (λ s. Node (Case c (Both a (Right s)))) (wrap Node o)
of_macro c a None = refl
of_macro c a (Some p) = refl
