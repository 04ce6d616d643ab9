-- One parser reads a union whose two forms begin alike: the beginning once, and then a branch on the next token.
use Rattle.std.proofs.Common.{◌≡◌, Bool, true, false, Some, None, refl, ap, ap₂, ◌∙◌}
use Rattle.syn_grammar.specs.Tokens.{Stream, Look}
use Rattle.syn_grammar.specs.Rules.{Rule}
use Rattle.syn_grammar.specs.Grammar.{Syntax, Both, Left, Right, Node, Grammar}
use Rattle.syn_grammar.specs.Take.{Out, sees}
use Rattle.syn_grammar.specs.Run.{wrap, and_then, branch, first_of, union, parse_rule, parse_form}
use Rattle.syn_grammar.specs.Turns.{beside, turned}
use Rattle.syn_grammar.proofs.Begins.{only_at, never_at, not_there, not_here}

-- rules k = a & g and l = a & h, where g begins only where c holds, and h never there
module _ (k l : Rule) (a g h : Grammar) (c : Look)
    (k_is : (ts : Stream) → parse_rule k ts ≡ wrap Node (and_then (parse_form a ts) (parse_form g))) (l_is : (ts : Stream) → parse_rule l ts ≡ wrap Node (and_then (parse_form a ts) (parse_form h)))
    (here : only_at c g ≡ true) (there : never_at c h ≡ true) where
  turn : (s : Syntax) (m : Stream) (b : Bool) → sees c m ≡ b →
      first_of (wrap Node (wrap (Both s) (parse_form g m))) (wrap Node (wrap (Both s) (parse_form h m))) ≡ wrap (beside s) (branch b (parse_form g m) (parse_form h m))
  turn s m true e = ap (λ o. first_of (wrap Node (wrap (Both s) (parse_form g m))) (wrap Node (wrap (Both s) o))) (not_here c h there m e) ∙ go (parse_form g m)
    where
      go : (o : Out) → first_of (wrap Node (wrap (Both s) o)) None ≡ wrap (beside s) (wrap Left o)
      go None = refl
      go (Some p) = refl
  turn s m false e = ap (λ o. first_of (wrap Node (wrap (Both s) o)) (wrap Node (wrap (Both s) (parse_form h m)))) (not_there c g here m e) ∙ go (parse_form h m)
    where
      go : (o : Out) → wrap Right (wrap Node (wrap (Both s) o)) ≡ wrap (beside s) (wrap Right o)
      go None = refl
      go (Some p) = refl

  pub union_turns : (ts : Stream) → union (parse_rule k) (parse_rule l) ts ≡ turned (parse_form a ts) (λ m. branch (sees c m) (parse_form g m) (parse_form h m))
  union_turns ts = ap₂ first_of (k_is ts) (l_is ts) ∙ go (parse_form a ts)
    where
      go : (o : Out) → first_of (wrap Node (and_then o (parse_form g))) (wrap Node (and_then o (parse_form h))) ≡ turned o (λ m. branch (sees c m) (parse_form g m) (parse_form h m))
      go None = refl
      go (Some p) = turn p.0 p.1 (sees c p.1) refl
