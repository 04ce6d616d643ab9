use Rattle.std.proofs.Common.{◌≡◌, None, Some, rules}
use Rattle.syn_grammar.specs.Rules.{attributes, foreign_item, kept_foreign_item}
use Rattle.syn_grammar.specs.Grammar.{Syntax}
use Rattle.syn_grammar.specs.Plan.{run_plan}
use Rattle.syn_grammar.specs.Run.{parse_rule}
use Rattle.syn_grammar.specs.Take.{before}
use Rattle.syn_lower.specs.Attributes.{attributes_syntax}
use Rattle.syn_lower.specs.Parsing.{IsSyntax}
use Rattle.syn_item.specs.Foreign.{syntax_of_ForeignItem}
use Rattle.syn_item.specs.Planned.{OnlyKept}
use Rattle.syn_item.specs.Stages.{foreign_item_plan_after}
use Rattle.syn_item.proofs.WholeReads.{foreign_kept, foreign_kept_moved, foreign_moved, foreign_read, foreign_refused}
use Rattle.syn_item.proofs.foreign.members.ForeignItemRead.read.Goals as goal

pub returns-in-Ok-Some-clause-reads : goal.returns-in-Ok-Some-clause-reads
returns-in-Ok-Some-clause-reads c =
    let ts = c.args.input.now in
    let a = attributes_syntax c.in_ok-attrs.attrs.items in
    let m = c.outer_attributes.new.input in
    let t = syntax_of_ForeignItem c.in-Ok-Some.member in
    let r = c.foreign_item_after.new.input in
    let outer : parse_rule attributes ts ≡ Some (a, m) = search rules in
    let read : run_plan (foreign_item_plan_after a) kept_foreign_item ts m ≡ Some (t, r) = rw c.in-Ok-Some.field-0-is at (c.in-Ok-Some.ensures.follows ts) in
    foreign_read ts a m outer t r read

pub returns-in-Ok-Some-clause-moved : goal.returns-in-Ok-Some-clause-moved
returns-in-Ok-Some-clause-moved c =
    let ts = c.args.input.now in
    let a = attributes_syntax c.in_ok-attrs.attrs.items in
    let m = c.outer_attributes.new.input in
    let t = syntax_of_ForeignItem c.in-Ok-Some.member in
    let r = c.foreign_item_after.new.input in
    let outer : parse_rule attributes ts ≡ Some (a, m) = search rules in
    let read : run_plan (foreign_item_plan_after a) kept_foreign_item ts m ≡ Some (t, r) = rw c.in-Ok-Some.field-0-is at (c.in-Ok-Some.ensures.follows ts) in
    foreign_moved ts a m outer t r read

pub returns-in_ok-kept_tokens-in-Ok-None-clause-reads : goal.returns-in_ok-kept_tokens-in-Ok-None-clause-reads
unfolding Rattle.syn_recognize.specs.Names.rule_of
returns-in_ok-kept_tokens-in-Ok-None-clause-reads c =
    let ts = c.args.input.now in
    let a = attributes_syntax c.in_ok-attrs.attrs.items in
    let m = c.outer_attributes.new.input in
    let tokens = c.in_ok-kept_tokens-in-Ok-None.field-0 in
    let r = c.kept_tokens.new.input in
    let outer : parse_rule attributes ts ≡ Some (a, m) = search rules in
    let kept : OnlyKept kept_foreign_item ts (run_plan (foreign_item_plan_after a) kept_foreign_item ts m) = rw c.in-Ok-None.field-0-is at (c.in-Ok-None.ensures.follows ts) in
    let copied : (s : Syntax) × (parse_rule foreign_item ts ≡ Some (s, r)) × (tokens ≡ before ts r) = rw c.fork-start.ensures at c.in_ok-kept_tokens-in-Ok-None.ensures.reads in
    foreign_kept ts a m outer kept tokens r copied

pub returns-in_ok-kept_tokens-in-Ok-None-clause-moved : goal.returns-in_ok-kept_tokens-in-Ok-None-clause-moved
unfolding Rattle.syn_recognize.specs.Names.rule_of
returns-in_ok-kept_tokens-in-Ok-None-clause-moved c =
    let ts = c.args.input.now in
    let a = attributes_syntax c.in_ok-attrs.attrs.items in
    let m = c.outer_attributes.new.input in
    let tokens = c.in_ok-kept_tokens-in-Ok-None.field-0 in
    let r = c.kept_tokens.new.input in
    let outer : parse_rule attributes ts ≡ Some (a, m) = search rules in
    let kept : OnlyKept kept_foreign_item ts (run_plan (foreign_item_plan_after a) kept_foreign_item ts m) = rw c.in-Ok-None.field-0-is at (c.in-Ok-None.ensures.follows ts) in
    let copied : (s : Syntax) × (parse_rule foreign_item ts ≡ Some (s, r)) × (tokens ≡ before ts r) = rw c.fork-start.ensures at c.in_ok-kept_tokens-in-Ok-None.ensures.reads in
    foreign_kept_moved ts a m outer kept tokens r copied

pub returns-in-Err-clause-reads : goal.returns-in-Err-clause-reads
returns-in-Err-clause-reads c =
    let ts = c.args.input.now in
    let a = attributes_syntax c.in_ok-attrs.attrs.items in
    let m = c.outer_attributes.new.input in
    let outer : parse_rule attributes ts ≡ Some (a, m) = search rules in
    let refused : IsSyntax c.in-Err.refusal → parse_rule foreign_item ts ≡ None = (λ h. foreign_refused ts a m outer (c.in-Err.ensures.follows ts h)) in
    search (rules, refused)
