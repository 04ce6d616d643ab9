use Rattle.std.proofs.Common.{arith, ap, length, ◌∙◌}
use Rattle.std.proofs.lemmas.List.{length-append}
use Rattle.syn_grammar.specs.Tokens.{◌⧺◌}
use Rattle.syn_tokens.specs.Building.{building, added}
use Rattle.syn_tokens.proofs.Entries.{few, decoded, is_flat}
use Rattle.syn_tokens.proofs.Builders.{few_built, joined_built, joined_begun, joined_is}
use Rattle.syn_tokens.proofs.stream.builder.StreamBuilder.append.Goals as goal

pub overflow_add-self : goal.overflow_add-self
overflow_add-self c =
    let more = is_flat c.entries.result.now c.args.stream.now c.len.result c.entries.ensures c.len.ensures in
    omega (
      arith,
      few_built c.self.inside.entries.items c.self.inside.pending.items c.self.inside.trees c.self.invariant.0,
      few c.entries.result.now c.len.result more,
      ap length c.in_ok-append_copies.ensures.ok,
      length-append c.self.inside.entries.items c.entries.result.now,
      c.append_copies.new.following.ok.0,
      c.append_copies.new.following.ok.1,
      c.append_copies.new.following.small,
    )

pub invariant_of-self-2 : goal.invariant_of-self-2
invariant_of-self-2 c =
    let more = is_flat c.entries.result.now c.args.stream.now c.len.result c.entries.ensures c.len.ensures in
    rw c.in_ok-append_copies.ensures.ok (
      joined_built c.self.inside.entries.items c.self.inside.pending.items c.self.inside.trees c.self.invariant.0 _ _ more,
      joined_begun c.self.inside.entries.items c.self.inside.pending.items c.self.inside.trees c.self.invariant.0 _ _ more _ _ c.self.invariant.1,
    )

pub returns-clause-prints : goal.returns-clause-prints
unfolding added
returns-clause-prints c =
    let more = is_flat c.entries.result.now c.args.stream.now c.len.result c.entries.ensures c.len.ensures in
    ap (building c.self.inside.mark.entries) c.in_ok-append_copies.ensures.ok
    ∙ joined_is c.self.inside.entries.items c.self.inside.pending.items c.self.inside.trees c.self.invariant.0 _ _ more _ _ c.self.invariant.1
    ∙ (λ i. record (c.self.view_is i) { stream = (c.self.view_is i).stream ⧺ decoded c.entries.result.now c.args.stream.now c.entries.ensures i })
