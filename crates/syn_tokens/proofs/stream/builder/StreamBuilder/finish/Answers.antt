use Rattle.std.proofs.Common.{ap, sym, ◌∙◌, ◌≡◌, length}
use Rattle.syn_tokens.specs.Building.{Building, unbalanced}
use Rattle.syn_tokens.proofs.Builders.{none_left, first_place}
use Rattle.syn_tokens.proofs.stream.builder.StreamBuilder.finish.Goals as goal

pub into_stream-requires : goal.into_stream-requires
into_stream-requires c =
    let none : length c.self.inside.pending.items ≡ 0 = ap length (sym c.deref.ensures.value) ∙ c.in-None.ensures.cases in
    ap (λ (b : Building). b.open_groups) (sym c.self.view_is)
    ∙ none_left c.self.inside.entries.items c.self.inside.pending.items c.self.inside.trees c.self.invariant.0 none

pub returns-in-Some : goal.returns-in-Some
returns-in-Some c =
    let f = first_place _ c.in-Some.outermost.now c.in-Some.field-0-1.now (sym c.in-Some.ensures.cases.0 ∙ c.deref.ensures.value ∙ c.self.invariant.0.placed) in
    (f.outermost, f.inside, ap (λ (b : Building). b.open_groups) (sym c.self.view_is) ∙ f.is, c.not_balanced.ensures ∙ ap unbalanced f.present)
