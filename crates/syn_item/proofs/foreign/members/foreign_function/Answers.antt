use Rattle.std.proofs.Common.{◌≡◌, true, false, None, Some, rules}
use Rattle.syn_grammar.specs.Words.{semicolon}
use Rattle.syn_grammar.specs.Tokens.{Stream}
use Rattle.syn_grammar.specs.Rules.{foreign_function, foreign_signature, kept_foreign_item}
use Rattle.syn_grammar.specs.Grammar.{Node, Case}
use Rattle.syn_grammar.specs.Table.{at_semicolon}
use Rattle.syn_grammar.specs.Take.{sees, take_mark}
use Rattle.syn_grammar.specs.Run.{parse_rule, wrap}
use Rattle.syn_grammar.specs.Plan.{run_plan}
use Rattle.syn_lower.specs.Attributes.{attributes_syntax}
use Rattle.syn_tree.specs.Restriction.{syntax_of_Visibility}
use Rattle.syn_item.specs.ForeignForms.{foreign_function_of}
use Rattle.syn_item.specs.Planned.{OnlyKept}
use Rattle.syn_item.specs.Stages.{foreign_function_or_kept}
use Rattle.syn_item.proofs.ForeignPlans.{function_end_refused, function_kept, function_read, function_refused}
use Rattle.syn_item.proofs.foreign.members.foreign_function.Goals as goal

pub returns-in_err-sig : goal.returns-in_err-sig
returns-in_err-sig c =
    let a = attributes_syntax c.args.attrs.items in
    let v = syntax_of_Visibility c.args.vis in
    let m = c.args.input.now in
    let refused : (ts : Stream) → parse_rule foreign_signature m ≡ None → run_plan (foreign_function_or_kept a v) kept_foreign_item ts m ≡ None = λ ts e. function_refused kept_foreign_item ts a v m e in
    search (rules, refused)

pub returns-then-not-peek : goal.returns-then-not-peek
returns-then-not-peek c =
    let a = attributes_syntax c.args.attrs.items in
    let v = syntax_of_Visibility c.args.vis in
    let m = c.args.input.now in
    let s = c.in_ok-sig.sig in
    let r = c.foreign_signature.new.input in
    let read : parse_rule foreign_signature m ≡ Some (s, r) = search rules in
    let none : sees at_semicolon r ≡ false = search rules in
    let kept : (ts : Stream) → OnlyKept kept_foreign_item ts (run_plan (foreign_function_or_kept a v) kept_foreign_item ts m) = λ ts. function_kept kept_foreign_item ts a v m s r read none in
    search (rules, kept)

pub returns-in_err-function : goal.returns-in_err-function
returns-in_err-function c =
    let a = attributes_syntax c.args.attrs.items in
    let v = syntax_of_Visibility c.args.vis in
    let m = c.args.input.now in
    let s = c.in_ok-sig.sig in
    let r = c.foreign_signature.new.input in
    let read : parse_rule foreign_signature m ≡ Some (s, r) = search rules in
    let here : sees at_semicolon r ≡ true = search rules in
    let refused : (ts : Stream) → wrap (foreign_function_of a v s) (take_mark semicolon r) ≡ None → run_plan (foreign_function_or_kept a v) kept_foreign_item ts m ≡ None = λ ts e. function_end_refused kept_foreign_item ts a v m s r read here e in
    search (rules, refused)

pub returns : goal.returns
returns c =
    let a = attributes_syntax c.args.attrs.items in
    let v = syntax_of_Visibility c.args.vis in
    let m = c.args.input.now in
    let s = c.in_ok-sig.sig in
    let r = c.foreign_signature.new.input in
    let read : parse_rule foreign_signature m ≡ Some (s, r) = search rules in
    let here : sees at_semicolon r ≡ true = search rules in
    let t = c.in_ok-function.function in
    let q = c.after_foreign_signature.new.input in
    let made : wrap (foreign_function_of a v s) (take_mark semicolon r) ≡ Some (t, q) = search rules in
    let whole : (ts : Stream) → run_plan (foreign_function_or_kept a v) kept_foreign_item ts m ≡ Some (Node (Case foreign_function t), q) = λ ts. function_read kept_foreign_item ts a v m s r read here t q made in
    search (rules, whole)
