use Rattle.std.proofs.Common.{◌≡◌, true, false, None, Some, rules}
use Rattle.syn_grammar.specs.Tokens.{Stream}
use Rattle.syn_grammar.specs.Rules.{impl_body, impl_definition, kept_item}
use Rattle.syn_grammar.specs.Grammar.{Case, Impl, Node}
use Rattle.syn_grammar.specs.Plan.{run_plan}
use Rattle.syn_grammar.specs.Table.{at_for}
use Rattle.syn_grammar.specs.Take.{Out, sees}
use Rattle.syn_grammar.specs.Run.{parse_rule, wrap}
use Rattle.syn_tokens.specs.Kinds.{const_syntax, default_syntax, impl_syntax, unsafe_syntax}
use Rattle.syn_tokens.specs.Leaves.{maybe}
use Rattle.syn_lower.specs.Attributes.{attributes_syntax}
use Rattle.syn_lower.specs.Parts.{first}
use Rattle.syn_item.specs.ImplForms.{impl_of, types_before, types_then}
use Rattle.syn_item.specs.Impls.{kept_list}
use Rattle.syn_item.specs.NextWords.{odd_negative}
use Rattle.syn_item.specs.Planned.{OnlyKept}
use Rattle.syn_item.specs.Stages.{impl_types_after}
use Rattle.syn_item.proofs.ItemImpls.{end_refused, first_refused, for_kept, impl_read}
use Rattle.syn_item.proofs.impls.parsing.impl_or_kept.Goals as goal

pub returns-in_err-types : goal.returns-in_err-types
returns-in_err-types c =
    let a = attributes_syntax c.args.marks.attrs.items in
    let d = maybe default_syntax c.args.marks.defaultness in
    let k = maybe const_syntax c.args.marks.constness in
    let u = maybe unsafe_syntax c.args.marks.unsafety in
    let w = impl_syntax c.args.marks.impl_token in
    let g = kept_list (first c.args.generics) in
    let m = c.args.input.now in
    let even : odd_negative m ≡ false = search rules in
    let refused : (ts : Stream) → ((f : Stream → Out) → types_then f m ≡ None) → run_plan (impl_types_after c.args.marks (first c.args.generics)) kept_item ts m ≡ None = λ ts h. first_refused kept_item ts a d k u w g m even h in
    search (rules, refused)

pub returns-then-peek : goal.returns-then-peek
returns-then-peek c =
    let a = attributes_syntax c.args.marks.attrs.items in
    let d = maybe default_syntax c.args.marks.defaultness in
    let k = maybe const_syntax c.args.marks.constness in
    let u = maybe unsafe_syntax c.args.marks.unsafety in
    let w = impl_syntax c.args.marks.impl_token in
    let g = kept_list (first c.args.generics) in
    let m = c.args.input.now in
    let even : odd_negative m ≡ false = search rules in
    let t = c.in_ok-types.types in
    let q = c.implemented.new.input in
    let types : (f : Stream → Out) → types_then f m ≡ wrap (types_before t) (f q) = search rules in
    let here : sees at_for q ≡ true = search rules in
    let kept : (ts : Stream) → OnlyKept kept_item ts (run_plan (impl_types_after c.args.marks (first c.args.generics)) kept_item ts m) = λ ts. for_kept kept_item ts a d k u w g m even (types_before t) q types here in
    search (rules, kept)

pub returns-in_err-impl_end : goal.returns-in_err-impl_end
returns-in_err-impl_end c =
    let a = attributes_syntax c.args.marks.attrs.items in
    let d = maybe default_syntax c.args.marks.defaultness in
    let k = maybe const_syntax c.args.marks.constness in
    let u = maybe unsafe_syntax c.args.marks.unsafety in
    let w = impl_syntax c.args.marks.impl_token in
    let g = kept_list (first c.args.generics) in
    let m = c.args.input.now in
    let even : odd_negative m ≡ false = search rules in
    let t = c.in_ok-types.types in
    let q = c.implemented.new.input in
    let types : (f : Stream → Out) → types_then f m ≡ wrap (types_before t) (f q) = search rules in
    let none : sees at_for q ≡ false = search rules in
    let refused : (ts : Stream) → wrap (λ s. impl_of c.args.marks (Impl g (types_before t s))) (parse_rule impl_body q) ≡ None → run_plan (impl_types_after c.args.marks (first c.args.generics)) kept_item ts m ≡ None =
    λ ts e. end_refused kept_item ts a d k u w g m even (types_before t) q types none e in
    search (rules, refused)

pub returns : goal.returns
returns c =
    let a = attributes_syntax c.args.marks.attrs.items in
    let d = maybe default_syntax c.args.marks.defaultness in
    let k = maybe const_syntax c.args.marks.constness in
    let u = maybe unsafe_syntax c.args.marks.unsafety in
    let w = impl_syntax c.args.marks.impl_token in
    let g = kept_list (first c.args.generics) in
    let m = c.args.input.now in
    let even : odd_negative m ≡ false = search rules in
    let t = c.in_ok-types.types in
    let q = c.implemented.new.input in
    let types : (f : Stream → Out) → types_then f m ≡ wrap (types_before t) (f q) = search rules in
    let none : sees at_for q ≡ false = search rules in
    let x = c.in_ok-impl_end.field-0 in
    let r = c.impl_end.new.input in
    let ended : wrap (λ s. impl_of c.args.marks (Impl g (types_before t s))) (parse_rule impl_body q) ≡ Some (x, r) = search rules in
    let made : (ts : Stream) → run_plan (impl_types_after c.args.marks (first c.args.generics)) kept_item ts m ≡ Some (Node (Case impl_definition x), r) = λ ts. impl_read kept_item ts a d k u w g m even (types_before t) q types none x r ended in
    search (rules, made)
