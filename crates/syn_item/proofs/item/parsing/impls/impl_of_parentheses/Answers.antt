use Rattle.std.proofs.Common.{◌≡◌, true, false, Some, rules}
use Rattle.syn_grammar.specs.Tokens.{Stream, ◌or_else◌}
use Rattle.syn_grammar.specs.Rules.{impl_body, impl_definition, kept_item, type}
use Rattle.syn_grammar.specs.Grammar.{Both, Case, Impl, Node, Nothing, Right}
use Rattle.syn_grammar.specs.Table.{at_brace, at_for, at_where}
use Rattle.syn_grammar.specs.Take.{sees}
use Rattle.syn_grammar.specs.Run.{parse_rule, wrap}
use Rattle.syn_grammar.specs.Plan.{run_plan}
use Rattle.syn_grammar.specs.ItemPlan.{at_lone_word}
use Rattle.syn_tokens.specs.Kinds.{const_syntax, default_syntax, impl_syntax, unsafe_syntax}
use Rattle.syn_tokens.specs.Leaves.{maybe}
use Rattle.syn_lower.specs.Attributes.{attributes_syntax}
use Rattle.syn_lower.specs.Parts.{first}
use Rattle.syn_lower.specs.Types.{syntax_of_Type}
use Rattle.syn_item.specs.Impls.{inherent, kept_list}
use Rattle.syn_item.specs.ItemTurns.{lone_word_turn}
use Rattle.syn_item.specs.Planned.{OnlyKept}
use Rattle.syn_item.proofs.ItemImpls.{lone_for_kept, lone_read, lone_restriction_kept}
use Rattle.syn_item.proofs.item.parsing.impls.impl_of_parentheses.Goals as goal

pub returns-then-peek : goal.returns-then-peek
returns-then-peek c =
    let a = attributes_syntax c.args.marks.attrs.items in
    let d = maybe default_syntax c.args.marks.defaultness in
    let k = maybe const_syntax c.args.marks.constness in
    let u = maybe unsafe_syntax c.args.marks.unsafety in
    let w = impl_syntax c.args.marks.impl_token in
    let m = c.args.input.now in
    let t = syntax_of_Type c.in_ok-self_ty.self_ty.value in
    let q = c.read.new.self in
    let type_read : parse_rule type m ≡ Some (t, q) = search rules in
    let here : sees at_for q ≡ true = search rules in
    let kept : (ts : Stream) → OnlyKept kept_item ts (run_plan (lone_word_turn a d k u w) kept_item ts m) = λ ts. lone_for_kept kept_item ts a d k u w m t q type_read here in
    search (rules, kept)

pub returns-then-not-at_impl_end : goal.returns-then-not-at_impl_end
returns-then-not-at_impl_end c =
    let a = attributes_syntax c.args.marks.attrs.items in
    let d = maybe default_syntax c.args.marks.defaultness in
    let k = maybe const_syntax c.args.marks.constness in
    let u = maybe unsafe_syntax c.args.marks.unsafety in
    let w = impl_syntax c.args.marks.impl_token in
    let m = c.args.input.now in
    let t = syntax_of_Type c.in_ok-self_ty.self_ty.value in
    let q = c.read.new.self in
    let type_read : parse_rule type m ≡ Some (t, q) = search rules in
    let no_for : sees at_for q ≡ false = search rules in
    let no_end : sees (at_where or_else at_brace) q ≡ false = search rules in
    let kept : (ts : Stream) → OnlyKept kept_item ts (run_plan (lone_word_turn a d k u w) kept_item ts m) = λ ts. lone_restriction_kept kept_item ts a d k u w m t q type_read no_for no_end in
    search (rules, kept)

pub returns : goal.returns
returns c =
    let a = attributes_syntax c.args.marks.attrs.items in
    let d = maybe default_syntax c.args.marks.defaultness in
    let k = maybe const_syntax c.args.marks.constness in
    let u = maybe unsafe_syntax c.args.marks.unsafety in
    let w = impl_syntax c.args.marks.impl_token in
    let m = c.args.input.now in
    let t = syntax_of_Type c.in_ok-self_ty.self_ty.value in
    let q = c.read.new.self in
    let type_read : parse_rule type m ≡ Some (t, q) = search rules in
    let no_for : sees at_for q ≡ false = search rules in
    let lone : sees at_lone_word m ≡ true = search rules in
    let here : sees (at_where or_else at_brace) q ≡ true = search rules in
    let x = c.in_ok-item.item in
    let r = c.impl_end.new.input in
    let given : wrap (λ s. Both a (Node (Both d (Both k (Both u (Both w (Impl (kept_list (first c.empty-generics.result)) (inherent t s)))))))) (parse_rule impl_body q) ≡ Some (x, r) = search rules in
    let ended : wrap (λ s. Both a (Node (Both d (Both k (Both u (Both w (Impl (Right Nothing) (inherent t s)))))))) (parse_rule impl_body q) ≡ Some (x, r) = rw c.empty-generics.ensures.empty at given in
    let made : (ts : Stream) → run_plan (lone_word_turn a d k u w) kept_item ts m ≡ Some (Node (Case impl_definition x), r) = λ ts. lone_read kept_item ts a d k u w m t q type_read no_for lone here x r ended in
    search (rules, made)
