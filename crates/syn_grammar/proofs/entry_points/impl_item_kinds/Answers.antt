use Rattle.syn_grammar.proofs.EntryPoints.{impl_item_agrees, impl_item_derives, impl_item_of_kind, impl_item_kept}
use Rattle.syn_grammar.proofs.entry_points.impl_item_kinds.Goals as goal

pub returns : goal.returns
returns c = record { read = impl_item_agrees; derived = impl_item_derives; some_kind = impl_item_of_kind; kept = impl_item_kept }
