use Rattle.syn_grammar.proofs.ItemStatements.{item_statements}
use Rattle.syn_grammar.proofs.computed.item_statements.Goals as goal

pub returns : goal.returns
returns c = record { as_items = item_statements }
