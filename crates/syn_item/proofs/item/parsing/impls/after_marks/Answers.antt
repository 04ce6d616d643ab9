use Rattle.std.proofs.Common.{◌≡◌, None, Some, rules}
use Rattle.syn_grammar.specs.Tokens.{Stream}
use Rattle.syn_grammar.specs.Rules.{impl_definition, kept_item}
use Rattle.syn_grammar.specs.Grammar.{Case, Node}
use Rattle.syn_grammar.specs.Run.{parse_form}
use Rattle.syn_grammar.specs.Plan.{run_plan}
use Rattle.syn_grammar.specs.ItemPlan.{impl_generics, impl_types}
use Rattle.syn_tokens.specs.Kinds.{const_syntax, default_syntax, impl_syntax, unsafe_syntax}
use Rattle.syn_tokens.specs.Leaves.{maybe}
use Rattle.syn_lower.specs.Attributes.{attributes_syntax}
use Rattle.syn_lower.specs.Parts.{first}
use Rattle.syn_item.specs.ImplForms.{impl_generics_form}
use Rattle.syn_item.specs.Impls.{kept_list}
use Rattle.syn_item.specs.Planned.{OnlyKept}
use Rattle.syn_item.proofs.ItemImpls.{types_kept, types_read, types_refused}
use Rattle.syn_item.proofs.item.parsing.impls.after_marks.Goals as goal

pub returns-in_err-item : goal.returns-in_err-item
returns-in_err-item c =
    let a = attributes_syntax c.args.marks.attrs.items in
    let d = maybe default_syntax c.args.marks.defaultness in
    let k = maybe const_syntax c.args.marks.constness in
    let u = maybe unsafe_syntax c.args.marks.unsafety in
    let w = impl_syntax c.args.marks.impl_token in
    let m = c.args.input.now in
    let g = kept_list (first c.in_ok-generics.generics) in
    let q = c.impl_generics.new.input in
    let list : parse_form impl_generics_form m ≡ Some (g, q) = search rules in
    let refused : (ts : Stream) → run_plan (impl_types a d k u w g) kept_item ts q ≡ None → run_plan (impl_generics a d k u w) kept_item ts m ≡ None = λ ts e. types_refused kept_item ts a d k u w m g q list e in
    search (rules, refused)

pub returns-in-Some : goal.returns-in-Some
returns-in-Some c =
    let a = attributes_syntax c.args.marks.attrs.items in
    let d = maybe default_syntax c.args.marks.defaultness in
    let k = maybe const_syntax c.args.marks.constness in
    let u = maybe unsafe_syntax c.args.marks.unsafety in
    let w = impl_syntax c.args.marks.impl_token in
    let m = c.args.input.now in
    let g = kept_list (first c.in_ok-generics.generics) in
    let q = c.impl_generics.new.input in
    let list : parse_form impl_generics_form m ≡ Some (g, q) = search rules in
    let t = c.in-Some.item in
    let r = c.impl_or_kept.new.input in
    let types : (ts : Stream) → run_plan (impl_types a d k u w g) kept_item ts q ≡ Some (Node (Case impl_definition t), r) = λ ts. rw c.in-Some.is at (c.in_ok-item.ensures.follows ts) in
    let made : (ts : Stream) → run_plan (impl_generics a d k u w) kept_item ts m ≡ Some (Node (Case impl_definition t), r) = λ ts. types_read kept_item ts a d k u w m g q list (Node (Case impl_definition t)) r (types ts) in
    search (rules, made)

pub returns-in-None : goal.returns-in-None
returns-in-None c =
    let a = attributes_syntax c.args.marks.attrs.items in
    let d = maybe default_syntax c.args.marks.defaultness in
    let k = maybe const_syntax c.args.marks.constness in
    let u = maybe unsafe_syntax c.args.marks.unsafety in
    let w = impl_syntax c.args.marks.impl_token in
    let m = c.args.input.now in
    let g = kept_list (first c.in_ok-generics.generics) in
    let q = c.impl_generics.new.input in
    let list : parse_form impl_generics_form m ≡ Some (g, q) = search rules in
    let types : (ts : Stream) → OnlyKept kept_item ts (run_plan (impl_types a d k u w g) kept_item ts q) = λ ts. rw c.in-None.is at (c.in_ok-item.ensures.follows ts) in
    let kept : (ts : Stream) → OnlyKept kept_item ts (run_plan (impl_generics a d k u w) kept_item ts m) = λ ts. types_kept kept_item ts a d k u w m g q list (types ts) in
    search (rules, kept)
