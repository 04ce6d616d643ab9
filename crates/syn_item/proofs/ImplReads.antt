-- Impls and their members, read: generics if they are next, and parts that are read together.
use Rattle.std.proofs.Common.{◌≡◌, true, Some, None, refl, sym, ap, ◌∙◌}
use Rattle.std.specs.Prelude.{false, Result, Ok, Err}
use Rattle.syn_grammar.specs.Words.{w_const, w_default, w_impl, w_type, w_unsafe}
use Rattle.syn_grammar.specs.Tokens.{Stream, Before_parameter, ahead, at_generics}
use Rattle.syn_grammar.specs.Rules.{attributes, generics, impl_definition_rest, impl_type, visibility}
use Rattle.syn_grammar.specs.Grammar.{Syntax, Nothing, Both, Left, Node, ◌&◌, name, rule, word}
use Rattle.syn_grammar.specs.Forms.{optional, plainly}
use Rattle.syn_grammar.specs.Table.{at_less, kept_generics, optional_item_word}
use Rattle.syn_grammar.specs.Take.{Out, sees, take_token}
use Rattle.syn_grammar.specs.Run.{and_then, branch, parse_form, parse_rule, vanish, wrap}
use Rattle.syn_grammar.specs.Promises.{Computes, itself}
use Rattle.syn_grammar.proofs.Each.{generics_is, impl_definition_rest_is, impl_type_is}
use Rattle.syn_grammar.proofs.Looks.{sees_and}
use Rattle.syn_grammar.proofs.Sets.{and_left}
use Rattle.syn_grammar.proofs.Takes.{TreeAndRest}
use Rattle.syn_lower.specs.Parts.{first}
use Rattle.syn_item.specs.ImplForms.{after_impl_form, impl_generics_form, member_marks_form, type_head_form, type_rest_form}
use Rattle.syn_item.specs.Impls.{kept_list}

-- GENERICS, where they are next: what the rule reads, without the mark that they aren't printed where they are empty

shown_again : (o : Out) → wrap Left o ≡ wrap kept_list (wrap Node (vanish false (wrap Left o)))
shown_again None = refl
shown_again (Some p) = refl

less_next : (ts : Stream) → sees at_generics ts ≡ true → sees at_less ts ≡ true
less_next ts h = and_left (sees at_less ts) _ (sym (sees_and at_less (ahead Before_parameter) ts) ∙ h)

generics_here : (ts : Stream) → sees at_generics ts ≡ true → parse_form impl_generics_form ts ≡ wrap kept_list (parse_rule generics ts)
generics_here ts h =
    ap (λ b. branch b (parse_form kept_generics ts) (Some (Nothing, ts))) h
    ∙ shown_again (parse_form kept_generics ts)
    ∙ ap (λ b. wrap kept_list (wrap Node (vanish false (branch b (parse_form kept_generics ts) (Some (Nothing, ts)))))) (sym (less_next ts h))
    ∙ ap (wrap kept_list) (sym (generics_is ts))

pub generics_read : {E : Type 0} (refusal : E → Type 0) (ts : Stream) (x : Result Syntax E) (new : Stream) → sees at_generics ts ≡ true →
    Computes refusal first (parse_rule generics ts) x new → Computes refusal (λ g. kept_list (first g)) (parse_form impl_generics_form ts) x new
generics_read refusal ts (Ok g) new h e = generics_here ts h ∙ ap (wrap kept_list) e
generics_read refusal ts (Err f) new h e = λ r. generics_here ts h ∙ ap (wrap kept_list) (e r)

-- THREE PARTS that are read together, before others

abbrev pub before_rest : Syntax → Syntax → Syntax
before_rest (Both a (Both b c)) rest = Both a (Both b (Both c rest))
before_rest s rest = rest

abbrev pub proceeds : (Stream → Out) → TreeAndRest → Out
proceeds rest x = wrap (before_rest x.0) (rest x.1)

module _ (p q rest : Stream → Out) (t : Syntax) (n : Stream) where
  pub three_read : (o : Out) → and_then o (λ r. and_then (p r) q) ≡ Some (t, n) → and_then o (λ r. and_then (p r) (λ z. and_then (q z) rest)) ≡ proceeds rest (t, n)
  three_read None e = absurd (cc e)
  three_read (Some x) e = second (p x.1) e
    where
      joined : (y z : Syntax) (o : Out) → wrap (Both x.0) (wrap (Both y) (wrap (Both z) o)) ≡ wrap (λ s. Both x.0 (Both y (Both z s))) o
      joined y z None = refl
      joined y z (Some w) = refl

      third : (y : Syntax) (o : Out) → wrap (Both x.0) (wrap (Both y) o) ≡ Some (t, n) → wrap (Both x.0) (wrap (Both y) (and_then o rest)) ≡ proceeds rest (t, n)
      third y None e = absurd (cc e)
      third y (Some z) e =
          let i : ◌≡◌ {A = TreeAndRest} (Both x.0 (Both y z.0), z.1) (t, n) = cc e in
          joined y z.0 (rest z.1) ∙ ap (proceeds rest) i

      second : (o : Out) → wrap (Both x.0) (and_then o q) ≡ Some (t, n) → wrap (Both x.0) (and_then o (λ z. and_then (q z) rest)) ≡ proceeds rest (t, n)
      second None e = absurd (cc e)
      second (Some y) e = third y.0 (q y.1) e

-- A TYPE OF AN IMPL, of what is before its word, its head, and what follows that

module _ (m n q : Stream) (a v d t k g : Syntax) (marks_read : parse_form member_marks_form m ≡ Some (Both a (Both v d), n)) (head_read : parse_form type_head_form n ≡ Some (Both t (Both k g), q)) where
  abbrev type_of : Syntax → Syntax
  type_of s = Both a (Both v (Both d (Both t (Both k (Both g s)))))

  head_then : Stream → Out
  head_then z = parse_form (plainly (word w_type) & plainly name & rule generics & type_rest_form) z

  type_is : parse_rule impl_type m ≡ wrap Node (wrap type_of (parse_form type_rest_form q))
  unfolding head_then
  type_is =
      impl_type_is m
      ∙ ap (wrap Node) (three_read (parse_rule visibility) (parse_form (optional w_default)) head_then (Both a (Both v d)) n (parse_rule attributes m) marks_read)
      ∙ ap (λ o. wrap Node (wrap (λ s. Both a (Both v (Both d s))) o)) (three_read (take_token name) (parse_rule generics) (parse_form type_rest_form) (Both t (Both k g)) q (take_token (word w_type) n) head_read)
      ∙ go (parse_form type_rest_form q)
    where
      go : (o : Out) → wrap Node (wrap (λ s. Both a (Both v (Both d s))) (wrap (λ s. Both t (Both k (Both g s))) o)) ≡ wrap Node (wrap type_of o)
      go None = refl
      go (Some p) = refl

pub type_read : {E : Type 0} (refusal : E → Type 0) (m n q : Stream) (a v d t k g : Syntax) → parse_form member_marks_form m ≡ Some (Both a (Both v d), n) → parse_form type_head_form n ≡ Some (Both t (Both k g), q) →
    (x : Result Syntax E) (new : Stream) → Computes refusal itself (wrap (λ s. Both a (Both v (Both d (Both t (Both k (Both g s)))))) (parse_form type_rest_form q)) x new → Computes refusal Node (parse_rule impl_type m) x new
type_read refusal m n q a v d t k g i j (Ok x) new e = type_is m n q a v d t k g i j ∙ ap (wrap Node) e
type_read refusal m n q a v d t k g i j (Err x) new e = λ r. type_is m n q a v d t k g i j ∙ ap (wrap Node) (e r)

-- AN IMPL, of what is before its generics

module _ (a d c u i : Syntax) (m m1 m2 m3 m4 : Stream) (default_read : parse_form (optional_item_word w_default) m ≡ Some (d, m1)) (const_read : parse_form (optional_item_word w_const) m1 ≡ Some (c, m2))
    (unsafe_read : parse_form (optional_item_word w_unsafe) m2 ≡ Some (u, m3)) (word_read : take_token (word w_impl) m3 ≡ Some (i, m4)) where
  abbrev from_word : Stream → Out
  from_word z = and_then (take_token (word w_impl) z) (parse_form after_impl_form)

  abbrev from_unsafe : Stream → Out
  from_unsafe z = and_then (parse_form (optional_item_word w_unsafe) z) from_word

  abbrev from_const : Stream → Out
  from_const z = and_then (parse_form (optional_item_word w_const) z) from_unsafe

  definition_is : wrap (Both a) (parse_rule impl_definition_rest m) ≡ wrap (λ s. Both a (Node (Both d (Both c (Both u (Both i s)))))) (parse_form after_impl_form m4)
  definition_is =
      ap (wrap (Both a)) (impl_definition_rest_is m)
      ∙ ap (λ o. wrap (Both a) (wrap Node (and_then o from_const))) default_read
      ∙ ap (λ o. wrap (Both a) (wrap Node (wrap (Both d) (and_then o from_unsafe)))) const_read
      ∙ ap (λ o. wrap (Both a) (wrap Node (wrap (Both d) (wrap (Both c) (and_then o from_word))))) unsafe_read
      ∙ ap (λ o. wrap (Both a) (wrap Node (wrap (Both d) (wrap (Both c) (wrap (Both u) (and_then o (parse_form after_impl_form))))))) word_read
      ∙ go (parse_form after_impl_form m4)
    where
      go : (o : Out) → wrap (Both a) (wrap Node (wrap (Both d) (wrap (Both c) (wrap (Both u) (wrap (Both i) o))))) ≡ wrap (λ s. Both a (Node (Both d (Both c (Both u (Both i s)))))) o
      go None = refl
      go (Some p) = refl

pub definition_read : {E : Type 0} (refusal : E → Type 0) (a d c u i : Syntax) (m m1 m2 m3 m4 : Stream) → parse_form (optional_item_word w_default) m ≡ Some (d, m1) → parse_form (optional_item_word w_const) m1 ≡ Some (c, m2) →
    parse_form (optional_item_word w_unsafe) m2 ≡ Some (u, m3) → take_token (word w_impl) m3 ≡ Some (i, m4) → (x : Result Syntax E) (new : Stream) →
    Computes refusal itself (wrap (λ s. Both a (Node (Both d (Both c (Both u (Both i s)))))) (parse_form after_impl_form m4)) x new → Computes refusal itself (wrap (Both a) (parse_rule impl_definition_rest m)) x new
definition_read refusal a d c u i m m1 m2 m3 m4 h k l o (Ok x) new e = definition_is a d c u i m m1 m2 m3 m4 h k l o ∙ e
definition_read refusal a d c u i m m1 m2 m3 m4 h k l o (Err x) new e = λ r. definition_is a d c u i m m1 m2 m3 m4 h k l o ∙ e r
