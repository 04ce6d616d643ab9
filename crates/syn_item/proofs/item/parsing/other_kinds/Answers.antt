use Rattle.std.proofs.Common.{◌≡◌, true, false, rules}
use Rattle.syn_grammar.specs.Tokens.{Stream, Begins_item, ahead, at_word, ◌and_also◌, ◌or_else◌}
use Rattle.syn_grammar.specs.Words.{w_async, w_auto, w_const, w_fn, w_macro, w_trait, w_unsafe}
use Rattle.syn_grammar.specs.Rules.{kept_item}
use Rattle.syn_grammar.specs.Table.{at_extern}
use Rattle.syn_grammar.specs.Take.{sees}
use Rattle.syn_grammar.specs.Plan.{run_plan}
use Rattle.syn_lower.specs.Attributes.{attributes_syntax}
use Rattle.syn_lower.specs.Parsing.{IsSyntax}
use Rattle.syn_tree.specs.Restriction.{syntax_of_Visibility}
use Rattle.syn_item.specs.ItemStages.{other_kinds_plan, place_of}
use Rattle.syn_item.specs.Items.{syntax_of_Item}
use Rattle.syn_item.specs.Planned.{Follows}
use Rattle.syn_item.proofs.ItemPlans.{const_follows, extern_follows, function_follows, unsafe_follows}
use Rattle.syn_item.proofs.item.parsing.other_kinds.Goals as goal

pub returns-then-at_function_word : goal.returns-then-at_function_word
returns-then-at_function_word c =
    let p = place_of c.args.begun.place in
    let a = attributes_syntax c.args.begun.attrs.items in
    let v = syntax_of_Visibility c.args.begun.vis in
    let m = c.args.input.now in
    let no_trait : sees (at_word w_trait) m ≡ false = search rules in
    let no_auto : sees (at_word w_auto and_also ahead Begins_item) m ≡ false = search rules in
    let no_macro : sees (at_word w_macro) m ≡ false = search rules in
    let here : sees (at_word w_fn or_else at_word w_async) m ≡ true = search rules in
    let follows : (ts : Stream) → Follows IsSyntax syntax_of_Item kept_item ts (run_plan (other_kinds_plan c.args.begun) kept_item ts m) c.function_or_kept.result c.function_or_kept.new.input =
    λ ts. function_follows kept_item ts p a v m IsSyntax syntax_of_Item c.function_or_kept.result c.function_or_kept.new.input no_trait no_auto no_macro here (c.function_or_kept.ensures.follows ts) in
    search (rules, follows)

pub returns-then-peek-3 : goal.returns-then-peek-3
returns-then-peek-3 c =
    let p = place_of c.args.begun.place in
    let a = attributes_syntax c.args.begun.attrs.items in
    let v = syntax_of_Visibility c.args.begun.vis in
    let m = c.args.input.now in
    let no_trait : sees (at_word w_trait) m ≡ false = search rules in
    let no_auto : sees (at_word w_auto and_also ahead Begins_item) m ≡ false = search rules in
    let no_macro : sees (at_word w_macro) m ≡ false = search rules in
    let no_function : sees (at_word w_fn or_else at_word w_async) m ≡ false = search rules in
    let here : sees at_extern m ≡ true = search rules in
    let follows : (ts : Stream) → Follows IsSyntax syntax_of_Item kept_item ts (run_plan (other_kinds_plan c.args.begun) kept_item ts m) c.after_extern.result c.after_extern.new.input =
    λ ts. extern_follows kept_item ts p a v m IsSyntax syntax_of_Item c.after_extern.result c.after_extern.new.input no_trait no_auto no_macro no_function here (c.after_extern.ensures.follows ts) in
    search (rules, follows)

pub returns-then-peek-4 : goal.returns-then-peek-4
returns-then-peek-4 c =
    let p = place_of c.args.begun.place in
    let a = attributes_syntax c.args.begun.attrs.items in
    let v = syntax_of_Visibility c.args.begun.vis in
    let m = c.args.input.now in
    let no_trait : sees (at_word w_trait) m ≡ false = search rules in
    let no_auto : sees (at_word w_auto and_also ahead Begins_item) m ≡ false = search rules in
    let no_macro : sees (at_word w_macro) m ≡ false = search rules in
    let no_function : sees (at_word w_fn or_else at_word w_async) m ≡ false = search rules in
    let no_extern : sees at_extern m ≡ false = search rules in
    let here : sees (at_word w_unsafe) m ≡ true = search rules in
    let follows : (ts : Stream) → Follows IsSyntax syntax_of_Item kept_item ts (run_plan (other_kinds_plan c.args.begun) kept_item ts m) c.after_unsafe.result c.after_unsafe.new.input =
    λ ts. unsafe_follows kept_item ts p a v m IsSyntax syntax_of_Item c.after_unsafe.result c.after_unsafe.new.input no_trait no_auto no_macro no_function no_extern here (c.after_unsafe.ensures.follows ts) in
    search (rules, follows)

pub returns-then-peek-5 : goal.returns-then-peek-5
returns-then-peek-5 c =
    let p = place_of c.args.begun.place in
    let a = attributes_syntax c.args.begun.attrs.items in
    let v = syntax_of_Visibility c.args.begun.vis in
    let m = c.args.input.now in
    let no_trait : sees (at_word w_trait) m ≡ false = search rules in
    let no_auto : sees (at_word w_auto and_also ahead Begins_item) m ≡ false = search rules in
    let no_macro : sees (at_word w_macro) m ≡ false = search rules in
    let no_function : sees (at_word w_fn or_else at_word w_async) m ≡ false = search rules in
    let no_extern : sees at_extern m ≡ false = search rules in
    let no_unsafe : sees (at_word w_unsafe) m ≡ false = search rules in
    let here : sees (at_word w_const) m ≡ true = search rules in
    let follows : (ts : Stream) → Follows IsSyntax syntax_of_Item kept_item ts (run_plan (other_kinds_plan c.args.begun) kept_item ts m) c.following_const.result c.following_const.new.input =
    λ ts. const_follows kept_item ts p a v m IsSyntax syntax_of_Item c.following_const.result c.following_const.new.input no_trait no_auto no_macro no_function no_extern no_unsafe here (c.following_const.ensures.follows ts) in
    search (rules, follows)
