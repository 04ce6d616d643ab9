use Rattle.std.proofs.Common.{[], ap, ◌∙◌, ◌≡◌, length}
use Rattle.syn_tokens.specs.Building.{building}
use Rattle.syn_tokens.proofs.Builders.{begun_flat, flat_begun, flat_is}
use Rattle.syn_tokens.proofs.stream.builder.StreamBuilder.following.Goals as goal

pub invariant_of-result : goal.invariant_of-result
invariant_of-result c =
    let es = c.into_entries-entries.result.0.items in
    let n = c.into_entries-entries.result.1 in
    let long : c.len.result ≡ length es = c.len.ensures ∙ c.into_entries-entries.result.0.ok.0 in
    rw (c.from_vec.ensures.items, c.new.ensures.items) (begun_flat es n c.into_entries-entries.ensures.flat, flat_begun es n c.len.result c.into_entries-entries.ensures.flat long)

pub returns : goal.returns
returns c =
    let es = c.into_entries-entries.result.0.items in
    let long : c.len.result ≡ length es = c.len.ensures ∙ c.into_entries-entries.result.0.ok.0 in
    ap (building c.len.result) c.from_vec.ensures.items
    ∙ flat_is es c.into_entries-entries.result.1 c.len.result c.into_entries-entries.ensures.flat long
    ∙ ap (λ s. record { before = s; open_groups = []; stream = s }) c.into_entries-entries.ensures.same
