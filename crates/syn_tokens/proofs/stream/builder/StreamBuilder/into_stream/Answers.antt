use Rattle.std.proofs.Common.{ap, ◌∙◌}
use Rattle.syn_tokens.specs.Entries.{decode}
use Rattle.syn_tokens.specs.Building.{Building}
use Rattle.syn_tokens.proofs.Builders.{finished_flat, finished_is}
use Rattle.syn_tokens.proofs.stream.builder.StreamBuilder.into_stream.Goals as goal

pub of_entries-requires : goal.of_entries-requires
of_entries-requires c =
    rw c.into_vec.ensures.items (finished_flat c.self.inside.entries.items c.self.inside.pending.items c.self.inside.trees c.self.invariant.0 (ap (λ (b : Building). b.open_groups) c.self.view_is ∙ c.requires))

pub returns : goal.returns
returns c =
    c.of_entries.ensures
    ∙ ap decode c.into_vec.ensures.items
    ∙ finished_is c.self.inside.entries.items c.self.inside.pending.items c.self.inside.trees c.self.invariant.0 (ap (λ (b : Building). b.open_groups) c.self.view_is ∙ c.requires)
    ∙ ap (λ (b : Building). b.stream) c.self.view_is
