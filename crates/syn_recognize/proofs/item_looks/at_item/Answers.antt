use Rattle.std.proofs.Common.{◌≡◌, false, rules, sym, ◌∙◌}
use Rattle.syn_grammar.specs.Take.{sees}
use Rattle.syn_recognize.specs.ItemLooks.{at_crate_item, at_item_word, at_marked_word}
use Rattle.syn_recognize.proofs.ItemLooks.{item_by_macro}
use Rattle.syn_recognize.proofs.item_looks.at_item.Goals as goal

pub returns : goal.returns
returns c =
    let word : sees at_item_word c.args.input.now ≡ false = search rules in
    let marked : sees at_marked_word c.args.input.now ≡ false = search rules in
    let named : sees at_crate_item c.args.input.now ≡ false = search rules in
    c.at_named_macro.ensures ∙ sym (item_by_macro c.args.input.now word marked named)
