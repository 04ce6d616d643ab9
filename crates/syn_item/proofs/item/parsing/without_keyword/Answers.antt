use Rattle.std.proofs.Common.{◌≡◌, true, false, Some, rules}
use Rattle.syn_grammar.specs.Tokens.{Stream}
use Rattle.syn_grammar.specs.Rules.{kept_item, macro_as_item, macro_as_item_rest}
use Rattle.syn_grammar.specs.Grammar.{Both, Case, Node}
use Rattle.syn_grammar.specs.Plan.{run_plan}
use Rattle.syn_grammar.specs.Run.{parse_rule, wrap}
use Rattle.syn_lower.specs.Attributes.{attributes_syntax}
use Rattle.syn_lower.specs.Parsing.{IsSyntax}
use Rattle.syn_item.specs.ItemStages.{other_plan_of, place_of}
use Rattle.syn_item.specs.ItemTurns.{default_next, no_visibility}
use Rattle.syn_item.specs.Items.{syntax_of_Item}
use Rattle.syn_item.specs.Macros.{among_items}
use Rattle.syn_item.specs.Planned.{Follows}
use Rattle.syn_item.proofs.ItemPlans.{default_follows, macro_read}
use Rattle.syn_item.proofs.item.parsing.without_keyword.Goals as goal

pub returns-then-at_default_impl : goal.returns-then-at_default_impl
returns-then-at_default_impl c =
    let p = place_of c.args.begun.place in
    let a = attributes_syntax c.args.begun.attrs.items in
    let m = c.args.input.now in
    let is_plain : no_visibility p ≡ true = search rules in
    let here : default_next m ≡ true = search rules in
    let follows : (ts : Stream) → Follows IsSyntax syntax_of_Item kept_item ts (run_plan (other_plan_of c.args.begun) kept_item ts m) c.default_impl.result c.default_impl.new.input =
    λ ts. default_follows kept_item ts p a m is_plain IsSyntax syntax_of_Item c.default_impl.result c.default_impl.new.input here (c.default_impl.ensures.follows ts) in
    search (rules, follows)

pub returns : goal.returns
returns c =
    let p = place_of c.args.begun.place in
    let a = attributes_syntax c.args.begun.attrs.items in
    let m = c.args.input.now in
    let t = among_items c.in_ok-item.item in
    let r = c.macro_as_item_rest.new.input in
    let is_plain : no_visibility p ≡ true = search rules in
    let no_default : default_next m ≡ false = search rules in
    let read : wrap (Both a) (parse_rule macro_as_item_rest m) ≡ Some (t, r) = search rules in
    let made : (ts : Stream) → run_plan (other_plan_of c.args.begun) kept_item ts m ≡ Some (Node (Case macro_as_item t), r) = λ ts. macro_read kept_item ts p a m is_plain no_default t r read in
    search (rules, made)
