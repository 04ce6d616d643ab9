use Rattle.syn_grammar.proofs.ListedItems.{listing_begins, listing_continues, listing_ends, listing_refused}
use Rattle.syn_grammar.proofs.entry_points.files_are_listed.Goals as goal

pub returns : goal.returns
returns c = record { begins = listing_begins; proceeds = listing_continues; ends = listing_ends; refused = listing_refused }
