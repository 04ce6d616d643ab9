use Rattle.syn_grammar.proofs.Joined.{joined_items, joined_is_visible}
use Rattle.syn_grammar.proofs.entry_points.items_are_joined.Goals as goal

pub returns : goal.returns
returns c = record { as_a_file = joined_items; stays_visible = joined_is_visible }
