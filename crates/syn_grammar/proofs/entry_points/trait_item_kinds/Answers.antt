use Rattle.syn_grammar.proofs.EntryPoints.{trait_item_agrees, trait_item_derives, trait_item_of_kind, trait_item_kept}
use Rattle.syn_grammar.proofs.entry_points.trait_item_kinds.Goals as goal

pub returns : goal.returns
returns c = record { read = trait_item_agrees; derived = trait_item_derives; some_kind = trait_item_of_kind; kept = trait_item_kept }
