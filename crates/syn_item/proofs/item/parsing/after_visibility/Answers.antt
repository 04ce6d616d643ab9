use Rattle.std.proofs.Common.{◌≡◌, true, false, Some, rules}
use Rattle.syn_grammar.specs.Tokens.{Stream, Begins_item, ahead, at_word, ◌and_also◌}
use Rattle.syn_grammar.specs.Words.{w_enum, w_mod, w_static, w_struct, w_type, w_union, w_use}
use Rattle.syn_grammar.specs.Rules.{enumeration, kept_item, structure, union_item}
use Rattle.syn_grammar.specs.Grammar.{Case, Node}
use Rattle.syn_grammar.specs.Take.{sees}
use Rattle.syn_grammar.specs.Run.{parse_form, wrap}
use Rattle.syn_grammar.specs.Plan.{run_plan}
use Rattle.syn_lower.specs.Attributes.{attributes_syntax}
use Rattle.syn_lower.specs.Parsing.{IsSyntax}
use Rattle.syn_tree.specs.Derive.{enumeration_form, item_of, structure_form, union_form}
use Rattle.syn_tree.specs.Restriction.{syntax_of_Visibility}
use Rattle.syn_item.specs.ItemStages.{after_place, place_of}
use Rattle.syn_item.specs.Items.{syntax_of_Item}
use Rattle.syn_item.specs.Planned.{Follows}
use Rattle.syn_item.proofs.ItemPlans.{enum_read, mod_read, others_follow, struct_read, union_read}
use Rattle.syn_item.proofs.item.parsing.after_visibility.Goals as goal

pub returns-then-peek : goal.returns-then-peek
returns-then-peek c =
    let p = place_of c.args.begun.place in
    let a = attributes_syntax c.args.begun.attrs.items in
    let v = syntax_of_Visibility c.args.begun.vis in
    let m = c.args.input.now in
    let t = c.in_ok-item.item in
    let r = c.struct_after_visibility.new.input in
    let here : sees (at_word w_struct) m ≡ true = search rules in
    let made : wrap (item_of a v) (parse_form structure_form m) ≡ Some (t, r) = search rules in
    let read : (ts : Stream) → run_plan (after_place c.args.begun) kept_item ts m ≡ Some (Node (Case structure t), r) = λ ts. struct_read kept_item ts p a v m here t r made in
    search (rules, read)

pub returns-then-peek-2 : goal.returns-then-peek-2
returns-then-peek-2 c =
    let p = place_of c.args.begun.place in
    let a = attributes_syntax c.args.begun.attrs.items in
    let v = syntax_of_Visibility c.args.begun.vis in
    let m = c.args.input.now in
    let t = c.in_ok-item-2.item in
    let r = c.enum_after_visibility.new.input in
    let no_struct : sees (at_word w_struct) m ≡ false = search rules in
    let here : sees (at_word w_enum) m ≡ true = search rules in
    let made : wrap (item_of a v) (parse_form enumeration_form m) ≡ Some (t, r) = search rules in
    let read : (ts : Stream) → run_plan (after_place c.args.begun) kept_item ts m ≡ Some (Node (Case enumeration t), r) = λ ts. enum_read kept_item ts p a v m no_struct here t r made in
    search (rules, read)

pub returns-then-at_union : goal.returns-then-at_union
returns-then-at_union c =
    let p = place_of c.args.begun.place in
    let a = attributes_syntax c.args.begun.attrs.items in
    let v = syntax_of_Visibility c.args.begun.vis in
    let m = c.args.input.now in
    let t = c.in_ok-item-3.item in
    let r = c.union_after_visibility.new.input in
    let no_struct : sees (at_word w_struct) m ≡ false = search rules in
    let no_enum : sees (at_word w_enum) m ≡ false = search rules in
    let here : sees (at_word w_union and_also ahead Begins_item) m ≡ true = search rules in
    let made : wrap (item_of a v) (parse_form union_form m) ≡ Some (t, r) = search rules in
    let read : (ts : Stream) → run_plan (after_place c.args.begun) kept_item ts m ≡ Some (Node (Case union_item t), r) = λ ts. union_read kept_item ts p a v m no_struct no_enum here t r made in
    search (rules, read)

pub returns-then-peek-6 : goal.returns-then-peek-6
returns-then-peek-6 c =
    let p = place_of c.args.begun.place in
    let a = attributes_syntax c.args.begun.attrs.items in
    let v = syntax_of_Visibility c.args.begun.vis in
    let m = c.args.input.now in
    let no_struct : sees (at_word w_struct) m ≡ false = search rules in
    let no_enum : sees (at_word w_enum) m ≡ false = search rules in
    let no_union : sees (at_word w_union and_also ahead Begins_item) m ≡ false = search rules in
    let no_type : sees (at_word w_type) m ≡ false = search rules in
    let no_static : sees (at_word w_static) m ≡ false = search rules in
    let no_use : sees (at_word w_use) m ≡ false = search rules in
    let here : sees (at_word w_mod) m ≡ true = search rules in
    record { follows = λ ts. mod_read kept_item ts p a v m no_struct no_enum no_union no_type no_static no_use here _ _ c.in_ok-item-4.ensures.reads }

pub returns : goal.returns
returns c =
    let p = place_of c.args.begun.place in
    let a = attributes_syntax c.args.begun.attrs.items in
    let v = syntax_of_Visibility c.args.begun.vis in
    let m = c.args.input.now in
    let no_struct : sees (at_word w_struct) m ≡ false = search rules in
    let no_enum : sees (at_word w_enum) m ≡ false = search rules in
    let no_union : sees (at_word w_union and_also ahead Begins_item) m ≡ false = search rules in
    let no_type : sees (at_word w_type) m ≡ false = search rules in
    let no_static : sees (at_word w_static) m ≡ false = search rules in
    let no_use : sees (at_word w_use) m ≡ false = search rules in
    let no_mod : sees (at_word w_mod) m ≡ false = search rules in
    let follows : (ts : Stream) → Follows IsSyntax syntax_of_Item kept_item ts (run_plan (after_place c.args.begun) kept_item ts m) c.other_kinds.result c.other_kinds.new.input =
    λ ts. others_follow kept_item ts p a v m no_struct no_enum no_union IsSyntax syntax_of_Item c.other_kinds.result c.other_kinds.new.input no_type no_static no_use no_mod (c.other_kinds.ensures.follows ts) in
    search (rules, follows)
