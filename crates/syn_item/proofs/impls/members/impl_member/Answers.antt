use Rattle.std.proofs.Common.{◌≡◌, true, false, None, Some, rules}
use Rattle.syn_grammar.specs.Tokens.{Stream, at_word}
use Rattle.syn_grammar.specs.Words.{w_type}
use Rattle.syn_grammar.specs.Rules.{body, impl_function, kept_impl_item, signature}
use Rattle.syn_grammar.specs.Grammar.{Case, Node}
use Rattle.syn_grammar.specs.Table.{at_semicolon}
use Rattle.syn_grammar.specs.MemberPlans.{impl_member_plan}
use Rattle.syn_grammar.specs.Plan.{run_plan}
use Rattle.syn_grammar.specs.Take.{sees}
use Rattle.syn_grammar.specs.Run.{parse_rule, wrap}
use Rattle.syn_tokens.specs.Kinds.{default_syntax}
use Rattle.syn_tokens.specs.Leaves.{maybe}
use Rattle.syn_lower.specs.Attributes.{attributes_syntax}
use Rattle.syn_lower.specs.Parsing.{IsSyntax}
use Rattle.syn_tree.specs.Restriction.{syntax_of_Visibility}
use Rattle.syn_item.specs.ImplForms.{impl_function_of}
use Rattle.syn_item.specs.Impls.{syntax_of_ImplItem}
use Rattle.syn_item.specs.NextWords.{constant_next}
use Rattle.syn_item.specs.Planned.{Follows, OnlyKept}
use Rattle.syn_item.proofs.ImplPlans.{body_read, body_refused, const_follows, function_kept}
use Rattle.syn_item.proofs.impls.members.impl_member.Goals as goal

pub returns-then-at_constant : goal.returns-then-at_constant
returns-then-at_constant c =
    let a = attributes_syntax c.args.marks.attrs.items in
    let v = syntax_of_Visibility c.args.marks.vis in
    let d = maybe default_syntax c.args.marks.defaultness in
    let m = c.args.input.now in
    let no_type : sees (at_word w_type) m ≡ false = search rules in
    let here : constant_next m ≡ true = search rules in
    let follows : (ts : Stream) → Follows IsSyntax syntax_of_ImplItem kept_impl_item ts (run_plan (impl_member_plan a v d) kept_impl_item ts m) c.impl_const.result c.impl_const.new.input =
    λ ts. const_follows kept_impl_item ts a v d m no_type IsSyntax syntax_of_ImplItem c.impl_const.result c.impl_const.new.input here (c.impl_const.ensures.follows ts) in
    search (rules, follows)

pub returns-then-peek-2 : goal.returns-then-peek-2
returns-then-peek-2 c =
    let a = attributes_syntax c.args.marks.attrs.items in
    let v = syntax_of_Visibility c.args.marks.vis in
    let d = maybe default_syntax c.args.marks.defaultness in
    let m = c.args.input.now in
    let s = c.in_ok-sig.sig in
    let r = c.read.new.self in
    let no_type : sees (at_word w_type) m ≡ false = search rules in
    let no_constant : constant_next m ≡ false = search rules in
    let read : parse_rule signature m ≡ Some (s, r) = search rules in
    let here : sees at_semicolon r ≡ true = search rules in
    let kept : (ts : Stream) → OnlyKept kept_impl_item ts (run_plan (impl_member_plan a v d) kept_impl_item ts m) = λ ts. function_kept kept_impl_item ts a v d m no_type no_constant s r read here in
    search (rules, kept)

pub returns-in_err-function : goal.returns-in_err-function
returns-in_err-function c =
    let a = attributes_syntax c.args.marks.attrs.items in
    let v = syntax_of_Visibility c.args.marks.vis in
    let d = maybe default_syntax c.args.marks.defaultness in
    let m = c.args.input.now in
    let s = c.in_ok-sig.sig in
    let r = c.read.new.self in
    let no_type : sees (at_word w_type) m ≡ false = search rules in
    let no_constant : constant_next m ≡ false = search rules in
    let read : parse_rule signature m ≡ Some (s, r) = search rules in
    let none : sees at_semicolon r ≡ false = search rules in
    let refused : (ts : Stream) → wrap (impl_function_of a v d s) (parse_rule body r) ≡ None → run_plan (impl_member_plan a v d) kept_impl_item ts m ≡ None =
    λ ts e. body_refused kept_impl_item ts a v d m no_type no_constant s r read none e in
    search (rules, refused)

pub returns : goal.returns
returns c =
    let a = attributes_syntax c.args.marks.attrs.items in
    let v = syntax_of_Visibility c.args.marks.vis in
    let d = maybe default_syntax c.args.marks.defaultness in
    let m = c.args.input.now in
    let s = c.in_ok-sig.sig in
    let r = c.read.new.self in
    let no_type : sees (at_word w_type) m ≡ false = search rules in
    let no_constant : constant_next m ≡ false = search rules in
    let read : parse_rule signature m ≡ Some (s, r) = search rules in
    let none : sees at_semicolon r ≡ false = search rules in
    let t = c.in_ok-function.function in
    let q = c.impl_function.new.input in
    let made : wrap (impl_function_of a v d s) (parse_rule body r) ≡ Some (t, q) = search rules in
    let whole : (ts : Stream) → run_plan (impl_member_plan a v d) kept_impl_item ts m ≡ Some (Node (Case impl_function t), q) = λ ts. body_read kept_impl_item ts a v d m no_type no_constant s r read none t q made in
    search (rules, whole)
