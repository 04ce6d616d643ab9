use Rattle.std.proofs.Common.{◌≡◌, false, Some, rules}
use Rattle.syn_grammar.specs.Tokens.{Stream}
use Rattle.syn_grammar.specs.Words.{w_default}
use Rattle.syn_grammar.specs.Rules.{kept_impl_item, visibility}
use Rattle.syn_grammar.specs.Forms.{optional}
use Rattle.syn_grammar.specs.Plan.{run_plan}
use Rattle.syn_grammar.specs.Run.{parse_form, parse_rule}
use Rattle.syn_tokens.specs.Kinds.{default_syntax}
use Rattle.syn_tokens.specs.Leaves.{maybe}
use Rattle.syn_lower.specs.Attributes.{attributes_syntax}
use Rattle.syn_lower.specs.Parsing.{IsSyntax}
use Rattle.syn_tree.specs.Restriction.{syntax_of_Visibility}
use Rattle.syn_item.specs.Impls.{syntax_of_ImplItem}
use Rattle.syn_item.specs.NextWords.{impl_macro_next}
use Rattle.syn_item.specs.Planned.{Follows}
use Rattle.syn_item.specs.Stages.{impl_item_plan_after}
use Rattle.syn_item.proofs.ImplPlans.{member_follows}
use Rattle.syn_item.proofs.impls.members.impl_item_after.Goals as goal

pub returns : goal.returns
returns c =
    let a = attributes_syntax c.args.attrs.items in
    let m = c.args.input.now in
    let v = syntax_of_Visibility c.in_ok-vis.vis in
    let d = maybe default_syntax c.in_ok-defaultness.defaultness in
    let n = c.read.new.self in
    let r = c.read-2.new.self in
    let no_macro : impl_macro_next m ≡ false = search rules in
    let visibility_read : parse_rule visibility m ≡ Some (v, n) = search rules in
    let default_read : parse_form (optional w_default) n ≡ Some (d, r) = search rules in
    let follows : (ts : Stream) → Follows IsSyntax syntax_of_ImplItem kept_impl_item ts (run_plan (impl_item_plan_after a) kept_impl_item ts m) c.impl_member.result c.impl_member.new.input =
    λ ts. member_follows kept_impl_item ts a m IsSyntax syntax_of_ImplItem c.impl_member.result c.impl_member.new.input no_macro v d n r visibility_read default_read (c.impl_member.ensures.follows ts) in
    search (rules, follows)
