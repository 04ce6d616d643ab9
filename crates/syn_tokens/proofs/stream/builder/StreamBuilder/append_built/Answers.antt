use Rattle.std.proofs.Common.{◌≡◌, arith, ap, length, ◌∙◌}
use Rattle.std.proofs.lemmas.List.{length-append}
use Rattle.syn_grammar.specs.Tokens.{◌⧺◌}
use Rattle.syn_tokens.specs.Building.{Building, building, added}
use Rattle.syn_tokens.specs.Entries.{decode, IsFlat}
use Rattle.syn_tokens.proofs.Entries.{few}
use Rattle.syn_tokens.proofs.Builders.{few_built, finished_flat, finished_is, joined_built, joined_begun, joined_is}
use Rattle.syn_tokens.proofs.stream.builder.StreamBuilder.append_built.Goals as goal

pub overflow_add-self : goal.overflow_add-self
overflow_add-self c =
    let more : IsFlat c.other.inside.entries.items c.other.inside.trees =
    finished_flat c.other.inside.entries.items c.other.inside.pending.items c.other.inside.trees c.other.invariant.0 (ap (λ (b : Building). b.open_groups) c.other.view_is ∙ c.requires) in
    omega (
      arith,
      few_built c.self.inside.entries.items c.self.inside.pending.items c.self.inside.trees c.self.invariant.0,
      few c.other.inside.entries.items c.other.inside.trees more,
      ap length c.in_ok-append_entries.ensures.ok,
      length-append c.self.inside.entries.items c.other.inside.entries.items,
      c.append_entries.new.entries.ok.0,
      c.append_entries.new.entries.ok.1,
      c.append_entries.new.entries.small,
    )

pub invariant_of-self-2 : goal.invariant_of-self-2
invariant_of-self-2 c =
    let more : IsFlat c.other.inside.entries.items c.other.inside.trees =
    finished_flat c.other.inside.entries.items c.other.inside.pending.items c.other.inside.trees c.other.invariant.0 (ap (λ (b : Building). b.open_groups) c.other.view_is ∙ c.requires) in
    rw c.in_ok-append_entries.ensures.ok (
      joined_built c.self.inside.entries.items c.self.inside.pending.items c.self.inside.trees c.self.invariant.0 _ _ more,
      joined_begun c.self.inside.entries.items c.self.inside.pending.items c.self.inside.trees c.self.invariant.0 _ _ more _ _ c.self.invariant.1,
    )

pub returns-clause-prints : goal.returns-clause-prints
unfolding added
returns-clause-prints c =
    let none = ap (λ (b : Building). b.open_groups) c.other.view_is ∙ c.requires in
    let more : IsFlat c.other.inside.entries.items c.other.inside.trees =
    finished_flat c.other.inside.entries.items c.other.inside.pending.items c.other.inside.trees c.other.invariant.0 none in
    let same : decode c.other.inside.entries.items ≡ c.args.other.stream =
    finished_is c.other.inside.entries.items c.other.inside.pending.items c.other.inside.trees c.other.invariant.0 none ∙ ap (λ (b : Building). b.stream) c.other.view_is in
    ap (building c.self.inside.mark.entries) c.in_ok-append_entries.ensures.ok
    ∙ joined_is c.self.inside.entries.items c.self.inside.pending.items c.self.inside.trees c.self.invariant.0 _ _ more _ _ c.self.invariant.1
    ∙ (λ i. record (c.self.view_is i) { stream = (c.self.view_is i).stream ⧺ same i })
