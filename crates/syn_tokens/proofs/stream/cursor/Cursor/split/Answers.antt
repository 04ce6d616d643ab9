use Rattle.std.proofs.Common.{rules, ◌≡◌, ◌∷◌, ◌++◌, length, ap, sym, ◌∙◌, subst, ◌-◌}
use Rattle.syn_grammar.specs.Tokens.{group}
use Rattle.syn_tokens.specs.Spans.{at}
use Rattle.syn_tokens.specs.Delimiters.{delimiter_of}
use Rattle.syn_tokens.specs.Entries.{decode, IsFlat}
use Rattle.syn_tokens.specs.Cursors.{Closes}
use Rattle.syn_tokens.proofs.Cursors.{closes, found}
use Rattle.syn_tokens.specs.declared.stream.entry.Token.TheVariants as E
use Rattle.syn_tokens.proofs.stream.cursor.Cursor.split.Goals as goal

pub returns-in_err-content-in-Open : goal.returns-in_err-content-in-Open
returns-in_err-content-in-Open c =
    let e : c.self.inside.entries.now ≡ E.Open c.in-Open.open ∷ c.in_ok-first.rest.now = search rules in
    let none : Closes c.in_ok-first.rest.now c.in-Open.open.skip → ⊥ = search rules in
    absurd (none (closes c.in-Open.open c.in_ok-first.rest.now c.self.inside.trees (subst (λ es. IsFlat es c.self.inside.trees) e c.self.invariant)))

pub new-requires-in-Open : goal.new-requires-in-Open
new-requires-in-Open c =
    let e : c.self.inside.entries.now ≡ E.Open c.in-Open.open ∷ c.in_ok-first.rest.now = search rules in
    let cut : c.in_ok-first.rest.now ≡ c.in_ok-content-in-Open.content.now ++ E.Close c.in_ok-content-in-Open.close ∷ c.in_ok-content-in-Open.rest.now = search rules in
    let long : length c.in_ok-content-in-Open.content.now ≡ c.in-Open.open.skip = search rules in
    (found c.in-Open.open c.in_ok-first.rest.now c.self.inside.trees _ _ _ (subst (λ es. IsFlat es c.self.inside.trees) e c.self.invariant) cut long).inside

pub new-requires-in-Open-2 : goal.new-requires-in-Open-2
new-requires-in-Open-2 c =
    let e : c.self.inside.entries.now ≡ E.Open c.in-Open.open ∷ c.in_ok-first.rest.now = search rules in
    let cut : c.in_ok-first.rest.now ≡ c.in_ok-content-in-Open.content.now ++ E.Close c.in_ok-content-in-Open.close ∷ c.in_ok-content-in-Open.rest.now = search rules in
    let long : length c.in_ok-content-in-Open.content.now ≡ c.in-Open.open.skip = search rules in
    let less : c.self.inside.trees - 1 ≡ c.saturating_sub-following.result = search rules in
    subst (IsFlat c.in_ok-content-in-Open.rest.now) less (found c.in-Open.open c.in_ok-first.rest.now c.self.inside.trees _ _ _ (subst (λ es. IsFlat es c.self.inside.trees) e c.self.invariant) cut long).following

pub returns-in_ok-content-in-Open : goal.returns-in_ok-content-in-Open
returns-in_ok-content-in-Open c =
    let e : c.self.inside.entries.now ≡ E.Open c.in-Open.open ∷ c.in_ok-first.rest.now = search rules in
    let cut : c.in_ok-first.rest.now ≡ c.in_ok-content-in-Open.content.now ++ E.Close c.in_ok-content-in-Open.close ∷ c.in_ok-content-in-Open.rest.now = search rules in
    let long : length c.in_ok-content-in-Open.content.now ≡ c.in-Open.open.skip = search rules in
    let f = found c.in-Open.open c.in_ok-first.rest.now c.self.inside.trees _ _ _ (subst (λ es. IsFlat es c.self.inside.trees) e c.self.invariant) cut long in
    sym c.self.view_is ∙ ap decode e ∙ f.is
    ∙ (λ i. group (delimiter_of c.in-Open.open.delimiter) (at c.in-Open.open.span) (at c.in_ok-content-in-Open.close.span) (sym c.new-in-Open.ensures i) (sym c.new-in-Open-2.ensures i))
