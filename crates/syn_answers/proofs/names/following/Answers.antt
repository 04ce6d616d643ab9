use Rattle.std.proofs.Common.{sym, ◌∙◌}
use Rattle.syn_answers.specs.Listing.{marker_of}
use Rattle.syn_answers.proofs.Listing.{past_all}
use Rattle.syn_answers.proofs.names.following.Goals as goal

pub returns : goal.returns
returns c =
    let e = past_all (marker_of c.args.marker) c.trees.rest c.trees._tree c.len-tree-end.result c.trees-test.false (c.trees.invariant.1 ∙ sym c.len-tree-end.ensures) in
    c.none.ensures ∙ sym (c.trees.invariant.0 ∙ e)
