use Rattle.syn_grammar.proofs.EntryPoints.{inputs_agree, inputs_derive, input_of_kind, inputs_are_items, inputs_derive_items}
use Rattle.syn_grammar.proofs.entry_points.derive_inputs_are_items.Goals as goal

pub returns : goal.returns
returns c = record { read = inputs_agree; derived = inputs_derive; some_kind = input_of_kind; read_as_items = inputs_are_items; derived_as_items = inputs_derive_items }
