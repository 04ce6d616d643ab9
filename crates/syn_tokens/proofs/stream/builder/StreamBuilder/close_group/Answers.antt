use Rattle.std.proofs.Common.{rules, arith, [], ◌∷◌, ◌++◌, ap, sym, ◌∙◌, ◌≡◌, ◌-◌, length, set, take, refl}
use Rattle.std.proofs.lemmas.List.{take_at}
use Rattle.syn_tokens.specs.Spans.{at}
use Rattle.syn_tokens.specs.Building.{Building, building, out_of_group}
use Rattle.syn_tokens.proofs.Builders.{is_before, few_around, closed_built, closed_begun, closed_is, closed_nothing}
use Rattle.syn_tokens.proofs.Prints.{before_group}
use Rattle.syn_tokens.specs.declared.stream.entry.Token.TheVariants as E
use Rattle.syn_tokens.proofs.stream.builder.StreamBuilder.close_group.Goals as goal

pub returns-in-None-clause-ok : goal.returns-in-None-clause-ok
returns-in-None-clause-ok c =
    let none : length c.self.inside.pending.items ≡ 0 = ap length (sym c.deref.ensures.value) ∙ c.in-None.ensures.cases in
    closed_nothing c.self.inside.mark.entries c.self.inside.entries.items c.self.inside.pending.items c.self.inside.trees c.args.self.now (at c.args.closing) c.self.invariant.0 none c.self.view_is

pub overflow_sub-open : goal.overflow_sub-open
overflow_sub-open c =
    let last : c.self.inside.pending.items ≡ c.in-Some.around.now ++ c.in-Some.innermost.now ∷ [] = sym c.deref.ensures.value ∙ c.in-Some.ensures.cases.0 in
    omega (
      arith,
      c.len.ensures,
      c.self.inside.entries.ok.0,
      is_before c.self.inside.entries.items c.self.inside.pending.items c.self.inside.trees c.self.invariant.0 c.in-Some.around.now c.in-Some.innermost.now last,
    )

pub overflow_sub-open-2 : goal.overflow_sub-open-2
overflow_sub-open-2 c =
    let last : c.self.inside.pending.items ≡ c.in-Some.around.now ++ c.in-Some.innermost.now ∷ [] = sym c.deref.ensures.value ∙ c.in-Some.ensures.cases.0 in
    omega (
      arith,
      c.len.ensures,
      c.self.inside.entries.ok.0,
      is_before c.self.inside.entries.items c.self.inside.pending.items c.self.inside.trees c.self.invariant.0 c.in-Some.around.now c.in-Some.innermost.now last,
    )

pub enclose-requires : goal.enclose-requires
enclose-requires c =
    let last : c.self.inside.pending.items ≡ c.in-Some.around.now ++ c.in-Some.innermost.now ∷ [] = sym c.deref.ensures.value ∙ c.in-Some.ensures.cases.0 in
    omega (arith, is_before c.self.inside.entries.items c.self.inside.pending.items c.self.inside.trees c.self.invariant.0 c.in-Some.around.now c.in-Some.innermost.now last)

pub overflow_add-self : goal.overflow_add-self
overflow_add-self c =
    let last : c.self.inside.pending.items ≡ c.in-Some.around.now ++ c.in-Some.innermost.now ∷ [] = sym c.deref.ensures.value ∙ c.in-Some.ensures.cases.0 in
    omega (
      arith,
      c.self.inside.entries.ok.0,
      c.self.inside.entries.ok.1,
      c.self.inside.entries.small,
      is_before c.self.inside.entries.items c.self.inside.pending.items c.self.inside.trees c.self.invariant.0 c.in-Some.around.now c.in-Some.innermost.now last,
      few_around c.self.inside.entries.items c.self.inside.pending.items c.self.inside.trees c.self.invariant.0 c.in-Some.around.now c.in-Some.innermost.now last,
    )

pub invariant_of-self-2 : goal.invariant_of-self-2
invariant_of-self-2 c =
    let last : c.self.inside.pending.items ≡ c.in-Some.around.now ++ c.in-Some.innermost.now ∷ [] = sym c.deref.ensures.value ∙ c.in-Some.ensures.cases.0 in
    let long : c.len.result ≡ length c.self.inside.entries.items = c.len.ensures ∙ c.self.inside.entries.ok.0 in
    let skip : c.len.result - c.in-Some.innermost.now.at - 1 ≡ length c.self.inside.entries.items - c.in-Some.innermost.now.at - 1 = ap (λ n. n - c.in-Some.innermost.now.at - 1) long in
    let kept : c.truncate.new.self.items ≡ c.in-Some.around.now =
    c.truncate.ensures.items ∙ ap (take (length c.in-Some.around.now)) last ∙ take_at c.in-Some.around.now (c.in-Some.innermost.now ∷ []) _ refl in
    let opening : c.in_ok-opening.opening ≡ E.Open (record { delimiter = c.in-Some.innermost.now.delimiter; span = c.in-Some.innermost.now.opening; skip = c.len.result - c.in-Some.innermost.now.at - 1 }) = search rules in
    let closing : c.in_ok-closing.closing ≡ E.Close (record { delimiter = c.in-Some.innermost.now.delimiter; span = c.args.closing; trees = c.self.inside.trees }) = search rules in
    rw (c.in_ok-enclose.ensures.ok, opening, closing, kept) (
      closed_built c.self.inside.entries.items c.self.inside.pending.items c.self.inside.trees c.self.invariant.0 c.in-Some.around.now c.in-Some.innermost.now last
          c.args.closing (c.len.result - c.in-Some.innermost.now.at - 1) skip,
      closed_begun c.self.inside.entries.items c.self.inside.pending.items c.self.inside.trees c.self.invariant.0 c.in-Some.around.now c.in-Some.innermost.now last
          c.args.closing (c.len.result - c.in-Some.innermost.now.at - 1) skip _ _ c.self.invariant.1,
    )

pub returns-clause-ok : goal.returns-clause-ok
unfolding out_of_group
returns-clause-ok c =
    let last : c.self.inside.pending.items ≡ c.in-Some.around.now ++ c.in-Some.innermost.now ∷ [] = sym c.deref.ensures.value ∙ c.in-Some.ensures.cases.0 in
    let long : c.len.result ≡ length c.self.inside.entries.items = c.len.ensures ∙ c.self.inside.entries.ok.0 in
    let skip : c.len.result - c.in-Some.innermost.now.at - 1 ≡ length c.self.inside.entries.items - c.in-Some.innermost.now.at - 1 = ap (λ n. n - c.in-Some.innermost.now.at - 1) long in
    let opening : c.in_ok-opening.opening ≡ E.Open (record { delimiter = c.in-Some.innermost.now.delimiter; span = c.in-Some.innermost.now.opening; skip = c.len.result - c.in-Some.innermost.now.at - 1 }) = search rules in
    let closing : c.in_ok-closing.closing ≡ E.Close (record { delimiter = c.in-Some.innermost.now.delimiter; span = c.args.closing; trees = c.self.inside.trees }) = search rules in
    ap (building c.self.inside.mark.entries) (c.in_ok-enclose.ensures.ok ∙ (λ i. set (c.self.inside.entries.items ++ closing i ∷ []) c.in-Some.innermost.now.at (opening i)))
    ∙ closed_is c.self.inside.entries.items c.self.inside.pending.items c.self.inside.trees c.self.invariant.0 c.in-Some.around.now c.in-Some.innermost.now last
    c.args.closing (c.len.result - c.in-Some.innermost.now.at - 1) skip _ _ c.self.invariant.1 c.args.self.now c.self.view_is

pub returns-in-None-clause-begins : goal.returns-in-None-clause-begins
returns-in-None-clause-begins c = refl

pub returns-clause-begins : goal.returns-clause-begins
returns-clause-begins c = ap (λ (b : Building). b.before) (returns-clause-ok c) ∙ before_group _ _
