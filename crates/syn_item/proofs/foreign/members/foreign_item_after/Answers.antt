use Rattle.std.proofs.Common.{◌≡◌, true, false, Some, rules}
use Rattle.syn_grammar.specs.Tokens.{Stream, at_empty_group, at_word, or}
use Rattle.syn_grammar.specs.Words.{w_Self_type, w_pub, w_type}
use Rattle.syn_grammar.specs.Rules.{foreign_macro_as_item, kept_foreign_item, member_macro, visibility}
use Rattle.syn_grammar.specs.Grammar.{Both, Case, Node}
use Rattle.syn_grammar.specs.Plan.{run_plan}
use Rattle.syn_grammar.specs.Take.{sees}
use Rattle.syn_grammar.specs.Run.{parse_rule, wrap}
use Rattle.syn_lower.specs.Attributes.{attributes_syntax}
use Rattle.syn_lower.specs.Parsing.{IsSyntax}
use Rattle.syn_tree.specs.Restriction.{syntax_of_Visibility}
use Rattle.syn_item.specs.Foreign.{syntax_of_ForeignItem}
use Rattle.syn_item.specs.Macros.{among_members}
use Rattle.syn_item.specs.NextWords.{foreign_function_next, static_next}
use Rattle.syn_item.specs.Planned.{Follows}
use Rattle.syn_item.specs.Stages.{foreign_item_plan_after}
use Rattle.syn_item.proofs.ForeignMembers.{function_follows, macro_read, static_follows, type_follows}
use Rattle.syn_item.proofs.foreign.members.foreign_item_after.Goals as goal

pub returns-then-peek : goal.returns-then-peek
returns-then-peek c =
    let a = attributes_syntax c.args.attrs.items in
    let m = c.args.input.now in
    let b = c.at_visibility-is_marked.result in
    let v = syntax_of_Visibility c.in_ok-vis.vis in
    let n = c.read.new.self in
    let marks : b ≡ or (sees (at_word w_pub) m) (sees at_empty_group m) = search rules in
    let vis : parse_rule visibility m ≡ Some (v, n) = search rules in
    let here : sees (at_word w_type) n ≡ true = search rules in
    let follows : (ts : Stream) → Follows IsSyntax syntax_of_ForeignItem kept_foreign_item ts (run_plan (foreign_item_plan_after a) kept_foreign_item ts m) c.foreign_type.result c.foreign_type.new.input =
    λ ts. type_follows kept_foreign_item ts a m b marks v n vis IsSyntax syntax_of_ForeignItem c.foreign_type.result c.foreign_type.new.input here (c.foreign_type.ensures.follows ts) in
    search (rules, follows)

pub returns-then-at_static : goal.returns-then-at_static
returns-then-at_static c =
    let a = attributes_syntax c.args.attrs.items in
    let m = c.args.input.now in
    let b = c.at_visibility-is_marked.result in
    let v = syntax_of_Visibility c.in_ok-vis.vis in
    let n = c.read.new.self in
    let marks : b ≡ or (sees (at_word w_pub) m) (sees at_empty_group m) = search rules in
    let vis : parse_rule visibility m ≡ Some (v, n) = search rules in
    let no_type : sees (at_word w_type) n ≡ false = search rules in
    let here : static_next n ≡ true = search rules in
    let follows : (ts : Stream) → Follows IsSyntax syntax_of_ForeignItem kept_foreign_item ts (run_plan (foreign_item_plan_after a) kept_foreign_item ts m) c.foreign_static.result c.foreign_static.new.input =
    λ ts. static_follows kept_foreign_item ts a m b marks v n vis IsSyntax syntax_of_ForeignItem c.foreign_static.result c.foreign_static.new.input no_type here (c.foreign_static.ensures.follows ts) in
    search (rules, follows)

pub returns-then-at_foreign_function : goal.returns-then-at_foreign_function
returns-then-at_foreign_function c =
    let a = attributes_syntax c.args.attrs.items in
    let m = c.args.input.now in
    let b = c.at_visibility-is_marked.result in
    let v = syntax_of_Visibility c.in_ok-vis.vis in
    let n = c.read.new.self in
    let marks : b ≡ or (sees (at_word w_pub) m) (sees at_empty_group m) = search rules in
    let vis : parse_rule visibility m ≡ Some (v, n) = search rules in
    let no_type : sees (at_word w_type) n ≡ false = search rules in
    let no_static : static_next n ≡ false = search rules in
    let here : foreign_function_next b n ≡ true = search rules in
    let follows : (ts : Stream) → Follows IsSyntax syntax_of_ForeignItem kept_foreign_item ts (run_plan (foreign_item_plan_after a) kept_foreign_item ts m) c.foreign_function.result c.foreign_function.new.input =
    λ ts. function_follows kept_foreign_item ts a m b marks v n vis IsSyntax syntax_of_ForeignItem c.foreign_function.result c.foreign_function.new.input no_type no_static here (c.foreign_function.ensures.follows ts) in
    search (rules, follows)

pub returns : goal.returns
returns c =
    let a = attributes_syntax c.args.attrs.items in
    let m = c.args.input.now in
    let b = c.at_visibility-is_marked.result in
    let v = syntax_of_Visibility c.in_ok-vis.vis in
    let n = c.read.new.self in
    let marks : b ≡ or (sees (at_word w_pub) m) (sees at_empty_group m) = search rules in
    let vis : parse_rule visibility m ≡ Some (v, n) = search rules in
    let no_type : sees (at_word w_type) n ≡ false = search rules in
    let no_static : static_next n ≡ false = search rules in
    let no_function : foreign_function_next b n ≡ false = search rules in
    let unmarked : b ≡ false = search rules in
    let no_self : sees (at_word w_Self_type) n ≡ false = search rules in
    let t = c.in_ok-foreign_macro.field-0 in
    let r = c.foreign_macro.new.input in
    let read : wrap (Both a) (parse_rule member_macro n) ≡ Some (t, r) = search rules in
    let made : (ts : Stream) → run_plan (foreign_item_plan_after a) kept_foreign_item ts m ≡ Some (Node (Case foreign_macro_as_item (among_members t)), r) =
    λ ts. macro_read kept_foreign_item ts a m b marks v n vis no_type no_static no_function unmarked no_self t r read in
    search (rules, made)
