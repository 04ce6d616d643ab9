use Rattle.list_items.proofs.list.+add_items.Given as goal

abbrev pub decreases-add_items : goal.decreases-add_items
decreases-add_items l = l.depth
