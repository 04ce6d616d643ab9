use Rattle.syn_grammar.proofs.EntryPoints.{item_agrees, item_derives, item_of_kind, item_kept}
use Rattle.syn_grammar.proofs.entry_points.item_kinds.Goals as goal

pub returns : goal.returns
returns c = record { read = item_agrees; derived = item_derives; some_kind = item_of_kind; kept = item_kept }
