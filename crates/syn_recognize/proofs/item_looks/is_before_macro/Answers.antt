use Rattle.std.proofs.Common.{◌≡◌, true, false, rules, ap, sym, ◌∙◌}
use Rattle.syn_grammar.specs.Tokens.{at_path_word}
use Rattle.syn_grammar.specs.Take.{sees}
use Rattle.syn_grammar.specs.Table.{at_lone_colon}
use Rattle.syn_parse.specs.Peeks.{past}
use Rattle.syn_recognize.specs.ItemLooks.{macro_from}
use Rattle.syn_recognize.proofs.MacroLooks.{colon_passed, from_no_word, from_word, no_single_colon}
use Rattle.syn_recognize.proofs.item_looks.is_before_macro.Goals as goal

pub returns-then-not-at_lone_colon : goal.returns-then-not-at_lone_colon
returns-then-not-at_lone_colon c =
    let lone : sees at_lone_colon c.args.input.now ≡ false = search rules in
    c.at_macro.ensures ∙ sym (no_single_colon c.args.input.now lone)

pub returns-then-not-at_path_word : goal.returns-then-not-at_path_word
returns-then-not-at_path_word c =
    let lone : sees at_lone_colon c.args.input.now ≡ true = search rules in
    let m = c.past-following.result in
    let same : m ≡ past c.args.input.now = search rules in
    let word : sees at_path_word m ≡ false = search rules in
    sym (colon_passed c.args.input.now lone ∙ ap macro_from (sym same) ∙ from_no_word m word)

pub returns : goal.returns
returns c =
    let lone : sees at_lone_colon c.args.input.now ≡ true = search rules in
    let m = c.past-following.result in
    let same : m ≡ past c.args.input.now = search rules in
    let word : sees at_path_word m ≡ true = search rules in
    c.at_macro-2.ensures ∙ sym (colon_passed c.args.input.now lone ∙ ap macro_from (sym same) ∙ from_word m word)
