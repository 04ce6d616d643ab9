-- What follows the generics of an impl, as it is read, and what follows that.
use Rattle.std.proofs.Common.{◌≡◌, Bool, true, false, [], ◌∷◌, Some, None, refl, sym, ap, ◌∙◌}
use Rattle.std.specs.Prelude.{Option, Result, Ok, Err}
use Rattle.syn_grammar.specs.Words.{exclamation, w_for}
use Rattle.syn_grammar.specs.Tokens.{Stream}
use Rattle.syn_grammar.specs.Rules.{for_self_type, impl_body, lifetime_parameter, self_type, type, type_path, where_clause}
use Rattle.syn_grammar.specs.Grammar.{Grammar, Syntax, Nothing, Both, Left, Right, Node, Case, Impl, empty, generics_before, rule, when◌then◌else◌, word}
use Rattle.syn_grammar.specs.Forms.{plainly, punctuation}
use Rattle.syn_grammar.specs.Table.{at_brace, at_exclamation, at_for, at_module_path, parameter}
use Rattle.syn_grammar.specs.Take.{Out, Parser, sees, take_mark, take_token}
use Rattle.syn_grammar.specs.Run.{and_impl, and_then, branch, first_rule, named, parse_form, parse_rule, wrap}
use Rattle.syn_grammar.specs.Promises.{Computes}
use Rattle.syn_grammar.proofs.Each.{for_self_type_is, self_type_is}
use Rattle.syn_lower.specs.Generics.{where_part}
use Rattle.syn_item.specs.ImplForms.{ReadsBefore, bang_then, after_impl_form, impl_generics_form, path_then, types_then}
use Rattle.syn_item.specs.Impls.{for_type, inherent, without_self_type}
use Rattle.syn_item.proofs.NoSelfTypes.{left_as_read}

abbrev absent : Syntax
absent = Right Nothing

-- `for` and a type

for_goes : (q : Stream) → parse_rule for_self_type q ≡ wrap Node (and_then (take_token (word w_for) q) (first_rule parse_rule (self_type ∷ [])))
for_goes q = for_self_type_is q

first_self : (q : Stream) → first_rule parse_rule (self_type ∷ []) q ≡ wrap (Case self_type) (parse_rule type q)
first_self q = ap (λ o. named self_type o None) (self_type_is q) ∙ go (parse_rule type q)
  where
    go : (o : Out) → named self_type (wrap Node o) None ≡ wrap (Case self_type) o
    go None = refl
    go (Some p) = refl

module _ (q : Stream) where
  no_for : take_token (word w_for) q ≡ None → parse_rule for_self_type q ≡ None
  no_for e = for_goes q ∙ ap (λ o. wrap Node (and_then o (first_rule parse_rule (self_type ∷ [])))) e

  module _ (s : Syntax) (q2 : Stream) (sign : take_token (word w_for) q ≡ Some (s, q2)) where
    after_for : parse_rule for_self_type q ≡ wrap Node (wrap (Both s) (wrap (Case self_type) (parse_rule type q2)))
    after_for = for_goes q ∙ ap (λ o. wrap Node (and_then o (first_rule parse_rule (self_type ∷ [])))) sign ∙ ap (λ o. wrap Node (wrap (Both s) o)) (first_self q2)

    no_type : parse_rule type q2 ≡ None → parse_rule for_self_type q ≡ None
    no_type e = after_for ∙ ap (λ o. wrap Node (wrap (Both s) (wrap (Case self_type) o))) e

    for_read : (t : Syntax) (q3 : Stream) → parse_rule type q2 ≡ Some (t, q3) → parse_rule for_self_type q ≡ Some (for_type s t, q3)
    for_read t q3 e =
        after_for ∙ ap (λ o. wrap Node (wrap (Both s) (wrap (Case self_type) o))) e
        ∙ ap (λ (z : Syntax). Some (Node (Both s (Case self_type z)), q3)) (sym (left_as_read (rule type) q2 q3 t refl e))

-- `!`, AND WHAT FOLLOWS IT

module _ (m : Stream) where
  abbrev by_bang : (Stream → Out) → Out → Out
  by_bang f o = wrap Left (and_then o (λ r. branch (sees at_brace r) (f r) (and_then (parse_rule type_path r) (λ q. and_then (parse_rule for_self_type q) f))))

  pub bang_refused : take_mark exclamation m ≡ None → (f : Stream → Out) → wrap Left (bang_then f m) ≡ None
  bang_refused e f = ap (by_bang f) e

  module _ (x : Syntax) (r : Stream) (bang : take_mark exclamation m ≡ Some (x, r)) where
    pub never_read : sees at_brace r ≡ true → (f : Stream → Out) → wrap Left (bang_then f m) ≡ wrap (λ rest. Left (Both (without_self_type x) (Left rest))) (f r)
    never_read h f =
        ap (by_bang f) bang
        ∙ ap (λ b. wrap Left (wrap (Both x) (branch b (f r) (and_then (parse_rule type_path r) (λ q. and_then (parse_rule for_self_type q) f))))) h
        ∙ go (f r)
      where
        go : (o : Out) → wrap Left (wrap (Both x) (wrap Left o)) ≡ wrap (λ rest. Left (Both (without_self_type x) (Left rest))) o
        go None = refl
        go (Some p) = ap (λ (z : Syntax). Some (Left (Both z (Left p.0)), p.1)) (sym (left_as_read (punctuation exclamation) m r x refl bang))

    module _ (no_brace : sees at_brace r ≡ false) where
      abbrev negative : (Stream → Out) → Out → Out
      negative f o = wrap Left (wrap (Both x) (wrap Right (and_then o (λ q. and_then (parse_rule for_self_type q) f))))

      after_bang : (f : Stream → Out) → wrap Left (bang_then f m) ≡ negative f (parse_rule type_path r)
      after_bang f = ap (by_bang f) bang ∙ ap (λ b. wrap Left (wrap (Both x) (branch b (f r) (and_then (parse_rule type_path r) (λ q. and_then (parse_rule for_self_type q) f))))) no_brace

      pub negative_path_refused : parse_rule type_path r ≡ None → (f : Stream → Out) → wrap Left (bang_then f m) ≡ None
      negative_path_refused e f = after_bang f ∙ ap (negative f) e

      module _ (t : Syntax) (q : Stream) (path : parse_rule type_path r ≡ Some (t, q)) where
        abbrev following : (Stream → Out) → Out → Out
        following f o = wrap Left (wrap (Both x) (wrap Right (wrap (Both t) (and_then o f))))

        after_path : (f : Stream → Out) → wrap Left (bang_then f m) ≡ following f (parse_rule for_self_type q)
        after_path f = after_bang f ∙ ap (negative f) path

        pub negative_for_refused : take_token (word w_for) q ≡ None → (f : Stream → Out) → wrap Left (bang_then f m) ≡ None
        negative_for_refused e f = after_path f ∙ ap (following f) (no_for q e)

        pub negative_type_refused : (s : Syntax) (q2 : Stream) → take_token (word w_for) q ≡ Some (s, q2) → parse_rule type q2 ≡ None → (f : Stream → Out) → wrap Left (bang_then f m) ≡ None
        negative_type_refused s q2 e i f = after_path f ∙ ap (following f) (no_type q s q2 e i)

        pub negative_read : (s y : Syntax) (q2 q3 : Stream) → take_token (word w_for) q ≡ Some (s, q2) → parse_rule type q2 ≡ Some (y, q3) → (f : Stream → Out) →
            wrap Left (bang_then f m) ≡ wrap (λ rest. Left (Both x (Right (Both (without_self_type t) (Both (for_type s y) rest))))) (f q3)
        negative_read s y q2 q3 e i f = after_path f ∙ ap (following f) (for_read q s q2 e y q3 i) ∙ go (f q3)
          where
            go : (o : Out) → wrap Left (wrap (Both x) (wrap Right (wrap (Both t) (wrap (Both (for_type s y)) o)))) ≡ wrap (λ rest. Left (Both x (Right (Both (without_self_type t) (Both (for_type s y) rest))))) o
            go None = refl
            go (Some p) = ap (λ (z : Syntax). Some (Left (Both x (Right (Both z (Both (for_type s y) p.0)))), p.1)) (sym (left_as_read (rule type_path) r q t refl path))

-- A PATH, with `for` and a type or without them

module _ (m : Stream) where
  abbrev by_path : (Stream → Out) → Out → Out
  by_path f o = wrap Right (wrap Left (and_then o (λ r. and_then (parse_form (when at_for then rule for_self_type else empty) r) f)))

  pub path_refused : parse_rule type_path m ≡ None → (f : Stream → Out) → wrap Right (wrap Left (path_then f m)) ≡ None
  path_refused e f = ap (by_path f) e

  module _ (t : Syntax) (q : Stream) (path : parse_rule type_path m ≡ Some (t, q)) where
    abbrev for_or_not : (Stream → Out) → Bool → Out
    for_or_not f b = wrap Right (wrap Left (wrap (Both t) (and_then (branch b (parse_rule for_self_type q) (Some (Nothing, q))) f)))

    abbrev with_for : (Stream → Out) → Out → Out
    with_for f o = wrap Right (wrap Left (wrap (Both t) (and_then (wrap Left o) f)))

    goes : (b : Bool) → sees at_for q ≡ b → (f : Stream → Out) → wrap Right (wrap Left (path_then f m)) ≡ for_or_not f b
    goes b h f = ap (by_path f) path ∙ ap (for_or_not f) h

    pub plain_read : sees at_for q ≡ false → (f : Stream → Out) → wrap Right (wrap Left (path_then f m)) ≡ wrap (λ rest. Right (Left (Both (without_self_type t) (Both (Right Nothing) rest)))) (f q)
    plain_read h f = goes false h f ∙ go (f q)
      where
        go : (o : Out) → wrap Right (wrap Left (wrap (Both t) (wrap (Both (Right Nothing)) o))) ≡ wrap (λ rest. Right (Left (Both (without_self_type t) (Both (Right Nothing) rest)))) o
        go None = refl
        go (Some p) = ap (λ (z : Syntax). Some (Right (Left (Both z (Both (Right Nothing) p.0))), p.1)) (sym (left_as_read (rule type_path) m q t refl path))

    pub plain_read_as : sees at_for q ≡ false → (y : Syntax) → y ≡ Node (Right (Right (Right (Right (Right (Right (Node (Right t)))))))) → (f : Stream → Out) → wrap Right (wrap Left (path_then f m)) ≡ wrap (inherent y) (f q)
    plain_read_as h y e f = plain_read h f ∙ ap (λ (z : Syntax). wrap (inherent z) (f q)) (sym e)

    pub trait_for_refused : sees at_for q ≡ true → take_token (word w_for) q ≡ None → (f : Stream → Out) → wrap Right (wrap Left (path_then f m)) ≡ None
    trait_for_refused h e f = goes true h f ∙ ap (with_for f) (no_for q e)

    pub trait_type_refused : sees at_for q ≡ true → (s : Syntax) (q2 : Stream) → take_token (word w_for) q ≡ Some (s, q2) → parse_rule type q2 ≡ None → (f : Stream → Out) → wrap Right (wrap Left (path_then f m)) ≡ None
    trait_type_refused h s q2 e i f = goes true h f ∙ ap (with_for f) (no_type q s q2 e i)

    pub trait_read : sees at_for q ≡ true → (s y : Syntax) (q2 q3 : Stream) → take_token (word w_for) q ≡ Some (s, q2) → parse_rule type q2 ≡ Some (y, q3) → (f : Stream → Out) →
        wrap Right (wrap Left (path_then f m)) ≡ wrap (λ rest. Right (Left (Both (without_self_type t) (Both (Left (for_type s y)) rest)))) (f q3)
    trait_read h s y q2 q3 e i f = goes true h f ∙ ap (with_for f) (for_read q s q2 e y q3 i) ∙ go (f q3)
      where
        go : (o : Out) → wrap Right (wrap Left (wrap (Both t) (wrap (Both (Left (for_type s y))) o))) ≡ wrap (λ rest. Right (Left (Both (without_self_type t) (Both (Left (for_type s y)) rest)))) o
        go None = refl
        go (Some p) = ap (λ (z : Syntax). Some (Right (Left (Both z (Both (Left (for_type s y)) p.0))), p.1)) (sym (left_as_read (rule type_path) m q t refl path))

-- BY THE NEXT TOKEN

pub read_alike : {X E : Type 0} (refusal : E → Type 0) (v : X → Syntax → Syntax) (out like : (Stream → Out) → Out) (x : Result X E) (new : Stream) → ((f : Stream → Out) → out f ≡ like f) →
    ReadsBefore refusal v like x new → ReadsBefore refusal v out x new
read_alike refusal v out like (Ok x) new e h = λ f. e f ∙ h f
read_alike refusal v out like (Err x) new e h = λ r. λ f. e f ∙ h r f

module _ (m : Stream) where
  abbrev by_looks : (Stream → Out) → Bool → Bool → Out
  by_looks f b c = branch b (bang_then f m) (branch c (path_then f m) (and_then (parse_rule type m) f))

  pub at_bang_first : sees at_exclamation m ≡ true → (f : Stream → Out) → types_then f m ≡ wrap Left (bang_then f m)
  at_bang_first h f = ap (λ b. by_looks f b (sees at_module_path m)) h

  pub at_path_first : sees at_exclamation m ≡ false → sees at_module_path m ≡ true → (f : Stream → Out) → types_then f m ≡ wrap Right (wrap Left (path_then f m))
  at_path_first h i f = ap (λ b. by_looks f b (sees at_module_path m)) h ∙ ap (by_looks f false) i

  pub at_type_first : sees at_exclamation m ≡ false → sees at_module_path m ≡ false → (f : Stream → Out) → types_then f m ≡ wrap Right (wrap Right (and_then (parse_rule type m) f))
  at_type_first h i f = ap (λ b. by_looks f b (sees at_module_path m)) h ∙ ap (by_looks f false) i

-- THE WHOLE after `impl`

module _ (mk : Syntax → Syntax) (m : Stream) where
  abbrev whole : Out
  whole = wrap mk (parse_form after_impl_form m)

  abbrev by_generics : Out → Out
  by_generics o = wrap mk (and_impl o (types_then (parse_rule impl_body)))

  pub generics_refused : parse_form impl_generics_form m ≡ None → whole ≡ None
  generics_refused e = ap by_generics e

  module _ (g : Syntax) (r : Stream) (list : parse_form impl_generics_form m ≡ Some (g, r)) where
    pub types_refused : ((f : Stream → Out) → types_then f r ≡ None) → whole ≡ None
    types_refused h = ap by_generics list ∙ ap (λ o. wrap mk (wrap (Impl g) o)) (h (parse_rule impl_body))

    whole_is : (v : Syntax → Syntax) (q : Stream) → ((f : Stream → Out) → types_then f r ≡ wrap v (f q)) → whole ≡ wrap (λ s. mk (Impl g (v s))) (parse_rule impl_body q)
    whole_is v q h = ap by_generics list ∙ ap (λ o. wrap mk (wrap (Impl g) o)) (h (parse_rule impl_body)) ∙ go (parse_rule impl_body q)
      where
        go : (o : Out) → wrap mk (wrap (Impl g) (wrap v o)) ≡ wrap (λ s. mk (Impl g (v s))) o
        go None = refl
        go (Some p) = refl

    pub whole_read : (v : Syntax → Syntax) (q : Stream) (s : Syntax) (new : Stream) → ((f : Stream → Out) → types_then f r ≡ wrap v (f q)) →
        wrap (λ s. mk (Impl g (v s))) (parse_rule impl_body q) ≡ Some (s, new) → whole ≡ Some (s, new)
    whole_read v q s new h e = whole_is v q h ∙ e

    pub whole_refused : (v : Syntax → Syntax) (q : Stream) → ((f : Stream → Out) → types_then f r ≡ wrap v (f q)) → wrap (λ s. mk (Impl g (v s))) (parse_rule impl_body q) ≡ None → whole ≡ None
    whole_refused v q h e = whole_is v q h ∙ e

-- THE WHERE CLAUSE

pub clause_read : {E : Type 0} (refusal : E → Type 0) (m : Stream) (x : Result (Option Syntax) E) (new : Stream) →
    Computes refusal where_part (parse_rule where_clause m) x new → Computes refusal (λ w. without_self_type (where_part w)) (parse_rule where_clause m) x new
clause_read refusal m (Ok w) new e = e ∙ ap (λ (z : Syntax). Some (z, new)) (sym (left_as_read (rule where_clause) m new (where_part w) refl e))
clause_read refusal m (Err x) new e = e
