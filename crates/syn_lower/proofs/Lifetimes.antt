-- Lifetimes joined by `+`, from the left: what one step of a loop reads.
use Rattle.std.proofs.Common.{◌≡◌, true, false, List, [], ◌∷◌, ◌++◌, Option, Some, None, refl, sym, ap, ◌∙◌}
use Rattle.syn_grammar.specs.Words.{plus}
use Rattle.syn_grammar.specs.Tokens.{Stream, at_lifetime}
use Rattle.syn_grammar.specs.Rules.{lifetimes}
use Rattle.syn_grammar.specs.Grammar.{Syntax, Nothing, Both, Left, Right, Node}
use Rattle.syn_grammar.specs.Table.{at_plus}
use Rattle.syn_grammar.specs.Take.{Out, sees, take_lifetime, take_mark}
use Rattle.syn_grammar.specs.Run.{parse_rule, wrap}
use Rattle.syn_grammar.proofs.Each.{lifetimes_is}
use Rattle.syn_tokens.specs.Kinds.{Plus, plus_syntax}
use Rattle.syn_tokens.specs.Listing.{list_of, listed, onto}
use Rattle.syn_tokens.specs.declared.lifetime.Lifetime.{Lifetime}
use Rattle.syn_parse.proofs.Listing.{onto_grows}
use Rattle.syn_lower.specs.Bounds.{turned}
use Rattle.syn_lower.specs.Types.{syntax_of_lifetime}

-- a list with its sides turned, as one that is read from the left
pub turned_listed : {T P : Type 0} (v : T → Syntax) (w : P → Syntax) (l : List (T × P)) (o : Option T) → turned (list_of v w l o) ≡ listed Left v w (Node (Right Nothing)) l o
turned_listed v w [] None = refl
turned_listed v w [] (Some t) = refl
turned_listed v w (x ∷ l) o = ap (λ s. Node (Left (Both (v x.0) (Left (Both (w x.1) s))))) (turned_listed v w l o)

-- the part read so far, before the rest
abbrev pub so_far : List (Lifetime × Plus) → Syntax → Syntax
so_far = onto Left syntax_of_lifetime plus_syntax

module _ (ts : Stream) where
  pub lifetimes_end : (l : List (Lifetime × Plus)) → sees at_lifetime ts ≡ false → wrap (so_far l) (parse_rule lifetimes ts) ≡ Some (turned (list_of syntax_of_lifetime plus_syntax l None), ts)
  lifetimes_end l h =
      let e : parse_rule lifetimes ts ≡ Some (Node (Right Nothing), ts) = lifetimes_is ts ∙ rw h refl in
      ap (wrap (so_far l)) e ∙ ap (λ s. Some (s, ts)) (sym (turned_listed syntax_of_lifetime plus_syntax l None))

  module _ (x : Lifetime) (m : Stream) (h : sees at_lifetime ts ≡ true) (a : take_lifetime ts ≡ Some (syntax_of_lifetime x, m)) where
    pub lifetimes_last : (l : List (Lifetime × Plus)) → sees at_plus m ≡ false → wrap (so_far l) (parse_rule lifetimes ts) ≡ Some (turned (list_of syntax_of_lifetime plus_syntax l (Some x)), m)
    lifetimes_last l b =
        let e : parse_rule lifetimes ts ≡ Some (Node (Left (Both (syntax_of_lifetime x) (Right Nothing))), m) = lifetimes_is ts ∙ rw (h, a) (rw b refl) in
        ap (wrap (so_far l)) e ∙ ap (λ s. Some (s, m)) (sym (turned_listed syntax_of_lifetime plus_syntax l (Some x)))

    -- one more with its `+`
    pub lifetimes_more : (l : List (Lifetime × Plus)) (q : Plus) (n : Stream) → sees at_plus m ≡ true → take_mark plus m ≡ Some (plus_syntax q, n) →
        wrap (so_far l) (parse_rule lifetimes ts) ≡ wrap (so_far (l ++ (x, q) ∷ [])) (parse_rule lifetimes n)
    lifetimes_more l q n b c = ap (wrap (so_far l)) (lifetimes_is ts ∙ rw (h, a) (rw (b, c) (go (parse_rule lifetimes n)))) ∙ onto_grows Left syntax_of_lifetime plus_syntax l (x, q) (parse_rule lifetimes n)
      where
        go : (o : Out) → wrap Node (wrap Left (wrap (Both (syntax_of_lifetime x)) (wrap Left (wrap (Both (plus_syntax q)) o)))) ≡ wrap (λ s. Node (Left (Both (syntax_of_lifetime x) (Left (Both (plus_syntax q) s))))) o
        go None = refl
        go (Some p) = refl
