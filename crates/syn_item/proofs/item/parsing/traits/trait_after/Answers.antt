use Rattle.std.proofs.Common.{◌≡◌, Some, rules}
use Rattle.syn_grammar.specs.Tokens.{Stream}
use Rattle.syn_grammar.specs.Rules.{kept_item, trait_definition}
use Rattle.syn_grammar.specs.Grammar.{Both, Case, Node}
use Rattle.syn_grammar.specs.Run.{parse_form, wrap}
use Rattle.syn_grammar.specs.Plan.{run_plan}
use Rattle.syn_grammar.specs.ItemPlan.{trait_plan}
use Rattle.syn_tokens.specs.Kinds.{const_syntax, unsafe_syntax}
use Rattle.syn_tokens.specs.Leaves.{maybe}
use Rattle.syn_lower.specs.Attributes.{attributes_syntax}
use Rattle.syn_tree.specs.Derive.{item_of}
use Rattle.syn_tree.specs.Restriction.{syntax_of_Visibility}
use Rattle.syn_item.specs.TraitForms.{unmarked_form}
use Rattle.syn_item.proofs.ItemTraits.{trait_read}
use Rattle.syn_item.proofs.item.parsing.traits.trait_after.Goals as goal

pub returns : goal.returns
returns c =
    let a = attributes_syntax c.args.begun.attrs.items in
    let v = syntax_of_Visibility c.args.begun.vis in
    let k = maybe const_syntax c.args.constness in
    let u = maybe unsafe_syntax c.args.unsafety in
    let m = c.args.input.now in
    let t = c.in_ok-item.item in
    let r = c.unmarked_trait.new.input in
    let whole : wrap (λ s. item_of a v (Both k (Node (Both u s)))) (parse_form unmarked_form m) ≡ Some (t, r) = search rules in
    let made : (ts : Stream) → run_plan (trait_plan a v k u) kept_item ts m ≡ Some (Node (Case trait_definition t), r) = λ ts. trait_read kept_item ts a v k u m t r whole in
    search (rules, made)
