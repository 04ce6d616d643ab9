-- Members of impls and traits, read of parts that are read together.
use Rattle.std.proofs.Common.{◌≡◌, true, Some, None, refl, sym, ap, ◌∙◌}
use Rattle.std.specs.Prelude.{false, Result, Ok, Err}
use Rattle.syn_grammar.specs.Words.{w_const, w_default}
use Rattle.syn_grammar.specs.Tokens.{Stream}
use Rattle.syn_grammar.specs.Rules.{attributes, bare_trait_function, body, impl_const, impl_function, signature, visibility}
use Rattle.syn_grammar.specs.Grammar.{Syntax, Nothing, Both, Node, Unshown, ◌&◌, rule, unshown, word}
use Rattle.syn_grammar.specs.Forms.{optional, plainly}
use Rattle.syn_grammar.specs.Table.{name_or_underscore}
use Rattle.syn_grammar.specs.Take.{Out, take_token}
use Rattle.syn_grammar.specs.Run.{and_then, parse_form, parse_rule, wrap}
use Rattle.syn_grammar.specs.Promises.{Computes, itself}
use Rattle.syn_grammar.proofs.Each.{bare_trait_function_is, impl_const_is, impl_function_is}
use Rattle.syn_grammar.proofs.Takes.{TreeAndRest}
use Rattle.syn_item.specs.ImplForms.{const_head_form, const_rest_of, impl_function_of, member_marks_form}
use Rattle.syn_item.specs.ItemForms.{value_form}
use Rattle.syn_item.specs.TraitForms.{function_end_form, trait_function_of}
use Rattle.syn_item.proofs.ImplReads.{three_read}

-- TWO PARTS that are read together, before others
abbrev after_two : Syntax → Syntax → Syntax
after_two (Both a b) rest = Both a (Both b rest)
after_two s rest = rest

abbrev two_on : (Stream → Out) → TreeAndRest → Out
two_on rest x = wrap (after_two x.0) (rest x.1)

module _ (p rest : Stream → Out) (t : Syntax) (n : Stream) where
  two_read : (o : Out) → and_then o p ≡ Some (t, n) → and_then o (λ r. and_then (p r) rest) ≡ two_on rest (t, n)
  two_read None e = absurd (cc e)
  two_read (Some x) e = second (p x.1) e
    where
      joined : (y : Syntax) (o : Out) → wrap (Both x.0) (wrap (Both y) o) ≡ wrap (λ s. Both x.0 (Both y s)) o
      joined y None = refl
      joined y (Some w) = refl

      second : (o : Out) → wrap (Both x.0) o ≡ Some (t, n) → wrap (Both x.0) (and_then o rest) ≡ two_on rest (t, n)
      second None e = absurd (cc e)
      second (Some y) e =
          let i : ◌≡◌ {A = TreeAndRest} (Both x.0 y.0, y.1) (t, n) = cc e in
          joined y.0 (rest y.1) ∙ ap (two_on rest) i

-- A CONSTANT OF AN IMPL, of what is before its word, its head, and what follows that

module _ (m n q : Stream) (a v d k i : Syntax) (marks_read : parse_form member_marks_form m ≡ Some (Both a (Both v d), n)) (head_read : parse_form const_head_form n ≡ Some (Both k i, q)) where
  const_then : Stream → Out
  const_then z = parse_form (plainly (word w_const) & name_or_underscore & unshown & value_form) z

  following_const : Stream → Out
  following_const z = parse_form (unshown & value_form) z

  const_is : parse_rule impl_const m ≡ wrap Node (wrap (const_rest_of (Both a (Both v d)) (Both k i)) (parse_form value_form q))
  unfolding const_then following_const
  const_is =
      impl_const_is m
      ∙ ap (wrap Node) (three_read (parse_rule visibility) (parse_form (optional w_default)) const_then (Both a (Both v d)) n (parse_rule attributes m) marks_read)
      ∙ ap (λ o. wrap Node (wrap (λ s. Both a (Both v (Both d s))) o)) (two_read (parse_form name_or_underscore) following_const (Both k i) q (take_token (word w_const) n) head_read)
      ∙ go (parse_form value_form q)
    where
      go : (o : Out) → wrap Node (wrap (λ s. Both a (Both v (Both d s))) (wrap (λ s. Both k (Both i s)) (wrap (Both (Unshown Nothing)) o))) ≡ wrap Node (wrap (const_rest_of (Both a (Both v d)) (Both k i)) o)
      go None = refl
      go (Some p) = refl

pub const_read : {E : Type 0} (refusal : E → Type 0) (m n q : Stream) (a v d k i : Syntax) → parse_form member_marks_form m ≡ Some (Both a (Both v d), n) → parse_form const_head_form n ≡ Some (Both k i, q) →
    (x : Result Syntax E) (new : Stream) → Computes refusal itself (wrap (const_rest_of (Both a (Both v d)) (Both k i)) (parse_form value_form q)) x new → Computes refusal Node (parse_rule impl_const m) x new
const_read refusal m n q a v d k i h j (Ok x) new e = const_is m n q a v d k i h j ∙ ap (wrap Node) e
const_read refusal m n q a v d k i h j (Err x) new e = λ r. const_is m n q a v d k i h j ∙ ap (wrap Node) (e r)

-- A FUNCTION OF AN IMPL, of what is before its signature, that, and its body

module _ (m n q : Stream) (a v d s : Syntax) (marks_read : parse_form member_marks_form m ≡ Some (Both a (Both v d), n)) (signature_read : parse_rule signature n ≡ Some (s, q)) where
  function_then : Stream → Out
  function_then z = parse_form (rule signature & rule body) z

  function_is : parse_rule impl_function m ≡ wrap Node (wrap (impl_function_of a v d s) (parse_rule body q))
  unfolding function_then
  function_is =
      impl_function_is m
      ∙ ap (wrap Node) (three_read (parse_rule visibility) (parse_form (optional w_default)) function_then (Both a (Both v d)) n (parse_rule attributes m) marks_read)
      ∙ ap (λ o. wrap Node (wrap (λ s. Both a (Both v (Both d s))) (and_then o (parse_rule body)))) signature_read
      ∙ go (parse_rule body q)
    where
      go : (o : Out) → wrap Node (wrap (λ s. Both a (Both v (Both d s))) (wrap (Both s) o)) ≡ wrap Node (wrap (impl_function_of a v d s) o)
      go None = refl
      go (Some p) = refl

pub function_read : {E : Type 0} (refusal : E → Type 0) (m n q : Stream) (a v d s : Syntax) → parse_form member_marks_form m ≡ Some (Both a (Both v d), n) → parse_rule signature n ≡ Some (s, q) →
    (x : Result Syntax E) (new : Stream) → Computes refusal itself (wrap (impl_function_of a v d s) (parse_rule body q)) x new → Computes refusal Node (parse_rule impl_function m) x new
function_read refusal m n q a v d s h j (Ok x) new e = function_is m n q a v d s h j ∙ ap (wrap Node) e
function_read refusal m n q a v d s h j (Err x) new e = λ r. function_is m n q a v d s h j ∙ ap (wrap Node) (e r)

-- A FUNCTION OF A TRAIT after its attributes

bare_is : (a : Syntax) (m : Stream) (s : Syntax) (r : Stream) → parse_rule signature m ≡ Some (s, r) → wrap (Both a) (parse_rule bare_trait_function m) ≡ wrap (trait_function_of s) (wrap (Both a) (parse_form function_end_form r))
bare_is a m s r read =
    ap (wrap (Both a)) (bare_trait_function_is m)
    ∙ ap (λ o. wrap (Both a) (wrap Node (wrap (Both (Unshown Nothing)) (and_then o (parse_form function_end_form))))) read
    ∙ go (parse_form function_end_form r)
  where
    go : (o : Out) → wrap (Both a) (wrap Node (wrap (Both (Unshown Nothing)) (wrap (Both s) o))) ≡ wrap (trait_function_of s) (wrap (Both a) o)
    go None = refl
    go (Some p) = refl

pub bare_read : {E : Type 0} (refusal : E → Type 0) (a : Syntax) (m : Stream) (s : Syntax) (r : Stream) → parse_rule signature m ≡ Some (s, r) →
    (x : Result Syntax E) (new : Stream) → Computes refusal itself (wrap (trait_function_of s) (wrap (Both a) (parse_form function_end_form r))) x new → Computes refusal itself (wrap (Both a) (parse_rule bare_trait_function m)) x new
bare_read refusal a m s r read (Ok x) new e = bare_is a m s r read ∙ e
bare_read refusal a m s r read (Err x) new e = λ h. bare_is a m s r read ∙ e h
