use Rattle.std.proofs.Common.{sym, ◌∙◌}
use Rattle.syn_item.proofs.SameImpls.{same_kept}
use Rattle.syn_item.proofs.impls.has_same_list.Goals as goal

pub returns : goal.returns
returns c = c.has_same_params.ensures ∙ sym (same_kept c.generics.inside c.other.inside _ _ c.generics.view_is c.other.view_is)
