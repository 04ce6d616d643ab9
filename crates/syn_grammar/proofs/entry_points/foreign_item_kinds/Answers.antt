use Rattle.syn_grammar.proofs.EntryPoints.{foreign_item_agrees, foreign_item_derives, foreign_item_of_kind, foreign_item_kept}
use Rattle.syn_grammar.proofs.entry_points.foreign_item_kinds.Goals as goal

pub returns : goal.returns
returns c = record { read = foreign_item_agrees; derived = foreign_item_derives; some_kind = foreign_item_of_kind; kept = foreign_item_kept }
