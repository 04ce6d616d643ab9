use Rattle.std.proofs.Common.{◌≡◌, true, false, None, Some, rules, sym, ap, ◌∙◌}
use Rattle.syn_grammar.specs.Words.{semicolon}
use Rattle.syn_grammar.specs.Tokens.{Stream}
use Rattle.syn_grammar.specs.Rules.{bare_foreign_static, foreign_static, kept_foreign_item}
use Rattle.syn_grammar.specs.Grammar.{Syntax, Node, Case}
use Rattle.syn_grammar.specs.Table.{at_semicolon}
use Rattle.syn_grammar.specs.Take.{sees, take_mark}
use Rattle.syn_grammar.specs.Run.{parse_rule}
use Rattle.syn_grammar.specs.Plan.{run_plan}
use Rattle.syn_tokens.specs.Kinds.{semi_syntax}
use Rattle.syn_lower.specs.Attributes.{attributes_syntax}
use Rattle.syn_tree.specs.Restriction.{syntax_of_Visibility}
use Rattle.syn_item.specs.ForeignForms.{bare_static_syntax}
use Rattle.syn_item.specs.Planned.{OnlyKept}
use Rattle.syn_item.specs.Stages.{foreign_static_or_kept}
use Rattle.syn_item.proofs.ForeignPlans.{static_end_refused, static_kept, static_read, static_refused}
use Rattle.syn_item.proofs.foreign.members.foreign_static.Goals as goal

pub returns-in_err-bare : goal.returns-in_err-bare
returns-in_err-bare c =
    let refused : (ts : Stream) → parse_rule bare_foreign_static c.args.input.now ≡ None → run_plan (foreign_static_or_kept (attributes_syntax c.args.attrs.items) (syntax_of_Visibility c.args.vis)) kept_foreign_item ts c.args.input.now ≡ None = λ ts e. static_refused kept_foreign_item ts (attributes_syntax c.args.attrs.items) (syntax_of_Visibility c.args.vis) c.args.input.now e in
    search (rules, refused)

pub returns-then-not-peek : goal.returns-then-not-peek
returns-then-not-peek c =
    let read : parse_rule bare_foreign_static c.args.input.now ≡ Some (bare_static_syntax c.in_ok-bare.bare, c.bare_static.new.input) = search rules in
    let more : sees at_semicolon c.bare_static.new.input ≡ false = search rules in
    let kept : (ts : Stream) → OnlyKept kept_foreign_item ts (run_plan (foreign_static_or_kept (attributes_syntax c.args.attrs.items) (syntax_of_Visibility c.args.vis)) kept_foreign_item ts c.args.input.now) = λ ts. static_kept kept_foreign_item ts (attributes_syntax c.args.attrs.items) (syntax_of_Visibility c.args.vis) c.args.input.now (bare_static_syntax c.in_ok-bare.bare) c.bare_static.new.input read more in
    search (rules, kept)

pub returns-in_err-semi_token : goal.returns-in_err-semi_token
returns-in_err-semi_token c =
    let read : parse_rule bare_foreign_static c.args.input.now ≡ Some (bare_static_syntax c.in_ok-bare.bare, c.bare_static.new.input) = search rules in
    let more : sees at_semicolon c.bare_static.new.input ≡ true = search rules in
    let refused : (ts : Stream) → take_mark semicolon c.bare_static.new.input ≡ None → run_plan (foreign_static_or_kept (attributes_syntax c.args.attrs.items) (syntax_of_Visibility c.args.vis)) kept_foreign_item ts c.args.input.now ≡ None =
    λ ts e. static_end_refused kept_foreign_item ts (attributes_syntax c.args.attrs.items) (syntax_of_Visibility c.args.vis) c.args.input.now (bare_static_syntax c.in_ok-bare.bare) c.bare_static.new.input read more e in
    search (rules, refused)

pub returns : goal.returns
returns c =
    let read : parse_rule bare_foreign_static c.args.input.now ≡ Some (bare_static_syntax c.in_ok-bare.bare, c.bare_static.new.input) = search rules in
    let more : sees at_semicolon c.bare_static.new.input ≡ true = search rules in
    let sign : take_mark semicolon c.bare_static.new.input ≡ Some (semi_syntax c.in_ok-semi_token.semi_token, c.read.new.self) = search rules in
    let made : (ts : Stream) → run_plan (foreign_static_or_kept (attributes_syntax c.args.attrs.items) (syntax_of_Visibility c.args.vis)) kept_foreign_item ts c.args.input.now ≡ Some (Node (Case foreign_static c.whole_static.result), c.read.new.self) =
    λ ts. static_read kept_foreign_item ts (attributes_syntax c.args.attrs.items) (syntax_of_Visibility c.args.vis) c.args.input.now (bare_static_syntax c.in_ok-bare.bare) c.bare_static.new.input read more (semi_syntax c.in_ok-semi_token.semi_token) c.read.new.self sign
    ∙ ap (λ (z : Syntax). Some (Node (Case foreign_static z), c.read.new.self)) (sym c.whole_static.ensures) in
    search (rules, made)
