use Rattle.std.proofs.Common.{◌≡◌, true, false, None, Some, rules}
use Rattle.syn_grammar.specs.Tokens.{Stream}
use Rattle.syn_grammar.specs.Rules.{kept_item, trait_definition}
use Rattle.syn_grammar.specs.Grammar.{Both, Case, Left, Node, Nothing, Right}
use Rattle.syn_grammar.specs.Table.{at_equals}
use Rattle.syn_grammar.specs.Take.{sees}
use Rattle.syn_grammar.specs.Run.{parse_form, wrap}
use Rattle.syn_grammar.specs.Plan.{run_plan}
use Rattle.syn_grammar.specs.ItemPlan.{const_trait_or_alias}
use Rattle.syn_tokens.specs.Kinds.{const_syntax, trait_syntax}
use Rattle.syn_tokens.specs.Leaves.{syntax_of_ident}
use Rattle.syn_lower.specs.Attributes.{attributes_syntax}
use Rattle.syn_lower.specs.Parts.{first}
use Rattle.syn_tree.specs.Derive.{item_of}
use Rattle.syn_tree.specs.Restriction.{syntax_of_Visibility}
use Rattle.syn_item.specs.Planned.{OnlyKept}
use Rattle.syn_item.specs.TraitForms.{named_form, trait_end_form}
use Rattle.syn_item.proofs.ItemTraits.{alias_kept, const_read, const_refused}
use Rattle.syn_item.proofs.item.parsing.traits.const_trait.Goals as goal

pub returns-then-peek : goal.returns-then-peek
returns-then-peek c =
    let a = attributes_syntax c.args.begun.attrs.items in
    let v = syntax_of_Visibility c.args.begun.vis in
    let k = Left (const_syntax c.args.const_token) in
    let m = c.args.input.now in
    let w = trait_syntax c.in_ok-trait_token.trait_token in
    let n = syntax_of_ident c.in_ok-trait_token.ident in
    let g = first c.in_ok-trait_token.generics in
    let q = c.named_trait.new.input in
    let head : parse_form named_form m ≡ Some (Both w (Both n g), q) = search rules in
    let here : sees at_equals q ≡ true = search rules in
    let kept : (ts : Stream) → OnlyKept kept_item ts (run_plan (const_trait_or_alias a v k) kept_item ts m) = λ ts. alias_kept kept_item ts a v k m w n g q head here in
    search (rules, kept)

pub returns-in_err-item : goal.returns-in_err-item
returns-in_err-item c =
    let a = attributes_syntax c.args.begun.attrs.items in
    let v = syntax_of_Visibility c.args.begun.vis in
    let k = Left (const_syntax c.args.const_token) in
    let m = c.args.input.now in
    let w = trait_syntax c.in_ok-trait_token.trait_token in
    let n = syntax_of_ident c.in_ok-trait_token.ident in
    let g = first c.in_ok-trait_token.generics in
    let q = c.named_trait.new.input in
    let head : parse_form named_form m ≡ Some (Both w (Both n g), q) = search rules in
    let no_alias : sees at_equals q ≡ false = search rules in
    let refused : (ts : Stream) → wrap (λ s. item_of a v (Both k (Node (Both (Right Nothing) (Both (Right Nothing) (Both w (Both n (Both g s)))))))) (parse_form trait_end_form q) ≡ None → run_plan (const_trait_or_alias a v k) kept_item ts m ≡ None =
    λ ts e. const_refused kept_item ts a v k m w n g q head no_alias e in
    search (rules, refused)

pub returns : goal.returns
returns c =
    let a = attributes_syntax c.args.begun.attrs.items in
    let v = syntax_of_Visibility c.args.begun.vis in
    let k = Left (const_syntax c.args.const_token) in
    let m = c.args.input.now in
    let w = trait_syntax c.in_ok-trait_token.trait_token in
    let n = syntax_of_ident c.in_ok-trait_token.ident in
    let g = first c.in_ok-trait_token.generics in
    let q = c.named_trait.new.input in
    let head : parse_form named_form m ≡ Some (Both w (Both n g), q) = search rules in
    let no_alias : sees at_equals q ≡ false = search rules in
    let t = c.in_ok-item.item in
    let r = c.trait_end.new.input in
    let ending : wrap (λ s. item_of a v (Both k (Node (Both (Right Nothing) (Both (Right Nothing) (Both w (Both n (Both g s)))))))) (parse_form trait_end_form q) ≡ Some (t, r) = search rules in
    let made : (ts : Stream) → run_plan (const_trait_or_alias a v k) kept_item ts m ≡ Some (Node (Case trait_definition t), r) = λ ts. const_read kept_item ts a v k m w n g q head no_alias t r ending in
    search (rules, made)
