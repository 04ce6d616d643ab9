-- From the contracts between parsers to the contracts of public calls.
use Rattle.std.proofs.Common.{◌≡◌, Bool, true, false, Some, None, refl, sym, ap, ◌∙◌, subst}
use Rattle.std.specs.Prelude.{Result, Ok, Err}
use Rattle.syn_grammar.specs.Tokens.{Stream, end, ◌⧺◌, visible, Look, present}
use Rattle.syn_grammar.specs.Rules.{Rule}
use Rattle.syn_grammar.specs.Grammar.{Syntax, Nothing, Captured, captured, Left, Right, Grammar, DerivesPrefix, rule, empty, when◌then◌else◌}
use Rattle.syn_grammar.specs.Table.{table}
use Rattle.syn_grammar.specs.Take.{Out, is_end, only, sees}
use Rattle.syn_grammar.specs.Run.{parse_form, branch, wrap, value_of}
use Rattle.syn_grammar.specs.Promises.{Computes, DerivesValue, NotDerived, Meaning, Outcome, DerivesWholeValue, NotDerivedWhole}
use Rattle.syn_grammar.specs.Computed.{ParseMeans, ParseForms, ParseRows, ParseOnward, OneValue, CapturedIsSome}
use Rattle.syn_grammar.proofs.Apart.{sound}
use Rattle.syn_grammar.proofs.Proved.{one_tree}
use Rattle.syn_grammar.proofs.Said.{start_of}
use Rattle.syn_grammar.proofs.Run.{parse_rule_is, row_is, weaker, parse_rule_less}
use Rattle.syn_grammar.proofs.Takes.{sees_is, end_found}
use Rattle.syn_grammar.proofs.Means.{reported, found}

-- nothing is computed where nothing is read
computes_none : (g : Grammar) (ts : Stream) → NotDerived g ts → parse_form g ts ≡ None
computes_none g ts u = go (parse_form g ts) refl
  where
    go : (o : Out) → parse_form g ts ≡ o → o ≡ None
    go None e = refl
    go (Some p) e = let t = reported g ts p e in absurd (u t.0 p.1 t.1)

-- the computed reading of every form whose unions are apart agrees with its derivations
pub meaning_of : (g : Grammar) → sound table start_of g ≡ true → Meaning g
meaning_of g w ts v = (
  λ s r. (λ e. reported g ts (s, r) e, λ (t, a, f). found g t ts r w a ∙ ap (λ z. Some (z, r)) f),
  (λ e s r a. absurd (cc (sym e ∙ found g s ts r w a)), computes_none g ts),
)

pub meaning_of_rule : (k : Rule) → Meaning (rule k)
meaning_of_rule k = meaning_of (rule k) refl

pub parse_means : ParseMeans
parse_means k = meaning_of_rule k

pub parse_forms : ParseForms
parse_forms = parse_rule_is

pub parse_rows : ParseRows
parse_rows = row_is

pub parse_onward : ParseOnward
parse_onward k ts s r e = weaker (start_of k).nullable ts r (parse_rule_less k ts (s, r) e)

pub one_value : OneValue
one_value k ts s t r q (u, a, e) (w, b, f) =
    let x = one_tree k ts u w r q a b in
    (sym e ∙ ap value_of x.0 ∙ f, x.1)

pub captured_is_some : CapturedIsSome
captured_is_some g i ts r = (some_of, of_some)
  where
    tokens : Syntax → Stream
    tokens (Captured s c) = c
    tokens _ = end

    some_of : DerivesValue (captured g) (Captured Nothing i) ts r → (ts ≡ i ⧺ r) × ((s : Syntax) × DerivesPrefix table g s ts r)
    some_of (Captured s c, a, e) = (a.0 ∙ ap (λ z. z ⧺ r) (ap tokens e), (s, a.1))
    some_of (_, a, e) = elim a [ ]

    of_some : (ts ≡ i ⧺ r) × ((s : Syntax) × DerivesPrefix table g s ts r) → DerivesValue (captured g) (Captured Nothing i) ts r
    of_some (e, (s, a)) = (Captured s i, (e, a), refl)

-- the promise of a public parser, of what its parser says
pub outcome_of : {X E : Type 0} (refusal : E → Type 0) (view : X → Syntax) (g : Grammar) → Meaning g → (old : Stream) (result : Result X E) (new : Stream) →
    Computes refusal view (parse_form g old) result new → ((e : E) → result ≡ Err e → new ≡ old) → Outcome refusal view g old result new
outcome_of refusal view g m old (Ok x) new h u = λ v. ((m old v).0 (view x) new).0 h
outcome_of refusal view g m old (Err e) new h u = (u e refl, λ v f. (m old v).1.0 (h f))

abbrev tree_or : Out → Syntax → Syntax
tree_or (Some p) s = p.0
tree_or None s = s

abbrev rest_or : Out → Stream → Stream
rest_or (Some p) r = p.1
rest_or None r = r

-- equal results are equal in both parts
both_same : (a c : Syntax) (b d : Stream) → ◌≡◌ {A = Out} (Some (a, b)) (Some (c, d)) → (a ≡ c) × (b ≡ d)
both_same a c b d e = (ap (λ o. tree_or o a) e, ap (λ o. rest_or o b) e)

none_some : {C : Type 0} {x : Syntax × Stream} → ◌≡◌ {A = Out} None (Some x) → C
none_some e = absurd (cc e)

-- the computed reading of an optional part agrees with its derivations, if that of the part does
pub meaning_of_optional : (c : Look) (g : Grammar) → Meaning g → Meaning (when c then g else empty)
meaning_of_optional c g m ts v = (λ s r. (known_of s r, found_of s r), (none_of, of_none))
  where
    here : (b : Bool) → sees c ts ≡ b → present c ts ≡ b
    here b e = sym (sees_is c ts v) ∙ e

    known_at : (b : Bool) → sees c ts ≡ b → (s : Syntax) (r : Stream) → branch b (parse_form g ts) (Some (Nothing, ts)) ≡ Some (s, r) → DerivesValue (when c then g else empty) s ts r
    known_at true e s r q = go (parse_form g ts) refl q
      where
        go : (o : Out) → parse_form g ts ≡ o → wrap Left o ≡ Some (s, r) → DerivesValue (when c then g else empty) s ts r
        go None f q = absurd (cc q)
        go (Some p) f q =
            let (t, a, h) = ((m ts v).0 p.0 p.1).0 f in
            let same = both_same (Left p.0) s p.1 r q in
            (Left t, (here true e, subst (λ z. DerivesPrefix table g t ts z) same.1 a), ap Left h ∙ same.0)
    known_at false e s r q =
        let same = both_same (Right Nothing) s ts r q in
        (Right Nothing, (here false e, same.1), same.0)

    known_of : (s : Syntax) (r : Stream) → parse_form (when c then g else empty) ts ≡ Some (s, r) → DerivesValue (when c then g else empty) s ts r
    known_of s r q = known_at (sees c ts) refl s r q

    found_right : (t s : Syntax) (r : Stream) → present c ts ≡ false → DerivesPrefix table empty t ts r → Right (value_of t) ≡ s → parse_form (when c then g else empty) ts ≡ Some (s, r)
    found_right Nothing s r e a f =
        ap (λ b. branch b (parse_form g ts) (Some (Nothing, ts))) (sees_is c ts v ∙ e) ∙ ap (λ z. Some (Right Nothing, z)) a ∙ ap (λ z. Some (z, r)) f
    found_right _ s r e a f = elim a [ ]

    found_at : (t s : Syntax) (r : Stream) → DerivesPrefix table (when c then g else empty) t ts r → value_of t ≡ s → parse_form (when c then g else empty) ts ≡ Some (s, r)
    found_at (Left t) s r (e, a) f =
        ap (λ b. branch b (parse_form g ts) (Some (Nothing, ts))) (sees_is c ts v ∙ e) ∙ ap (wrap Left) (((m ts v).0 (value_of t) r).1 (t, a, refl)) ∙ ap (λ z. Some (z, r)) f
    found_at (Right t) s r (e, a) f = found_right t s r e a f
    found_at _ s r a f = elim a [ ]

    found_of : (s : Syntax) (r : Stream) → DerivesValue (when c then g else empty) s ts r → parse_form (when c then g else empty) ts ≡ Some (s, r)
    found_of s r (t, a, f) = found_at t s r a f

    none_of : parse_form (when c then g else empty) ts ≡ None → NotDerived (when c then g else empty) ts
    none_of e s r a = absurd (cc (sym e ∙ found_of (value_of s) r (s, a, refl)))

    of_none : NotDerived (when c then g else empty) ts → parse_form (when c then g else empty) ts ≡ None
    of_none u = go (parse_form (when c then g else empty) ts) refl
      where
        go : (o : Out) → parse_form (when c then g else empty) ts ≡ o → o ≡ None
        go None e = refl
        go (Some p) e = let t = known_of p.0 p.1 e in absurd (u t.0 p.1 t.1)

-- OF A WHOLE STREAM: the parser returned a value, and nothing is left
pub whole_ok : (g : Grammar) → Meaning g → (ts : Stream) (s : Syntax) → visible ts ≡ true → parse_form g ts ≡ Some (s, end) → DerivesWholeValue g s ts
whole_ok g m ts s v e = ((m ts v).0 s end).0 e

-- or it refused
pub whole_refused : (g : Grammar) → Meaning g → (ts : Stream) → visible ts ≡ true → parse_form g ts ≡ None → NotDerivedWhole g ts
whole_refused g m ts v e s a = (m ts v).1.0 e s end a

-- or something is left
pub whole_left : (g : Grammar) → Meaning g → (ts : Stream) (s : Syntax) (r : Stream) → visible ts ≡ true → parse_form g ts ≡ Some (s, r) → ((p : Out) → only (is_end r) p ≡ None) → NotDerivedWhole g ts
whole_left g m ts s r v e n t a =
    let f : parse_form g ts ≡ Some (value_of t, end) = ((m ts v).0 (value_of t) end).1 (t, a, refl) in
    let same : r ≡ end = (both_same s (value_of t) r end (sym e ∙ f)).1 in
    none_some (sym (n (Some (s, r))) ∙ ap (λ z. only (is_end z) (Some (s, r))) same ∙ ap (λ b. only b (Some (s, r))) end_found)
