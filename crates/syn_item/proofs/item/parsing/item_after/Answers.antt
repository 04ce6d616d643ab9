use Rattle.std.proofs.Common.{◌≡◌, Some, rules}
use Rattle.syn_grammar.specs.Tokens.{Stream}
use Rattle.syn_grammar.specs.Rules.{kept_item, visibility}
use Rattle.syn_grammar.specs.Plan.{run_plan}
use Rattle.syn_grammar.specs.Run.{parse_rule}
use Rattle.syn_grammar.specs.ItemPlan.{item_after}
use Rattle.syn_lower.specs.Attributes.{attributes_syntax}
use Rattle.syn_lower.specs.Parsing.{IsSyntax}
use Rattle.syn_tree.specs.Restriction.{syntax_of_Visibility}
use Rattle.syn_item.specs.ItemStages.{place_of}
use Rattle.syn_item.specs.ItemTurns.{place_next}
use Rattle.syn_item.specs.Items.{syntax_of_Item}
use Rattle.syn_item.specs.Planned.{Follows}
use Rattle.syn_item.proofs.ItemPlans.{place_follows}
use Rattle.syn_item.proofs.item.parsing.item_after.Goals as goal

pub returns : goal.returns
returns c =
    let a = attributes_syntax c.args.attrs.items in
    let m = c.args.input.now in
    let p = place_of c.place_of-place.result in
    let v = syntax_of_Visibility c.in_ok-vis.vis in
    let n = c.read.new.self in
    let placed : p ≡ place_next m = search rules in
    let visibility_read : parse_rule visibility m ≡ Some (v, n) = search rules in
    let follows : (ts : Stream) → Follows IsSyntax syntax_of_Item kept_item ts (run_plan (item_after a) kept_item ts m) c.after_visibility.result c.after_visibility.new.input =
    λ ts. place_follows kept_item ts a m IsSyntax syntax_of_Item c.after_visibility.result c.after_visibility.new.input v n p visibility_read placed (c.after_visibility.ensures.follows ts) in
    search (rules, follows)
