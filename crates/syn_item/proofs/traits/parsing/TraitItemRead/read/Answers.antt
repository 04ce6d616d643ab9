use Rattle.std.proofs.Common.{◌≡◌, Some, rules}
use Rattle.syn_grammar.specs.Rules.{attributes}
use Rattle.syn_grammar.specs.Run.{parse_rule}
use Rattle.syn_lower.specs.Attributes.{attributes_syntax}
use Rattle.syn_item.specs.Traits.{syntax_of_TraitItem}
use Rattle.syn_item.proofs.WholeReads.{trait_kept, trait_kept_moved, trait_moved, trait_read, trait_refused}
use Rattle.syn_item.proofs.traits.parsing.TraitItemRead.read.Goals as goal

pub returns-in-Ok-Some-clause-reads : goal.returns-in-Ok-Some-clause-reads
returns-in-Ok-Some-clause-reads c =
    let ts = c.args.input.now in
    let a = attributes_syntax c.in_ok-attrs.attrs.items in
    let m = c.outer_attributes.new.input in
    let outer : parse_rule attributes ts ≡ Some (a, m) = search rules in
    let reported = rw c.in-Ok-Some.field-0-is at (c.in-Ok-Some.ensures.follows ts) in
    trait_read ts a m outer (syntax_of_TraitItem c.in-Ok-Some.member) c.trait_item_after.new.input reported

pub returns-in-Ok-Some-clause-moved : goal.returns-in-Ok-Some-clause-moved
returns-in-Ok-Some-clause-moved c =
    let ts = c.args.input.now in
    let a = attributes_syntax c.in_ok-attrs.attrs.items in
    let m = c.outer_attributes.new.input in
    let outer : parse_rule attributes ts ≡ Some (a, m) = search rules in
    let reported = rw c.in-Ok-Some.field-0-is at (c.in-Ok-Some.ensures.follows ts) in
    trait_moved ts a m outer (syntax_of_TraitItem c.in-Ok-Some.member) c.trait_item_after.new.input reported

pub returns-in_ok-kept_tokens-in-Ok-None-clause-reads : goal.returns-in_ok-kept_tokens-in-Ok-None-clause-reads
unfolding Rattle.syn_recognize.specs.Names.rule_of
returns-in_ok-kept_tokens-in-Ok-None-clause-reads c =
    let ts = c.args.input.now in
    let a = attributes_syntax c.in_ok-attrs.attrs.items in
    let m = c.outer_attributes.new.input in
    let outer : parse_rule attributes ts ≡ Some (a, m) = search rules in
    let kept = rw c.in-Ok-None.field-0-is at (c.in-Ok-None.ensures.follows ts) in
    let copied = rw c.fork-start.ensures at c.in_ok-kept_tokens-in-Ok-None.ensures.reads in
    trait_kept ts a m outer kept c.in_ok-kept_tokens-in-Ok-None.field-0 c.kept_tokens.new.input copied

pub returns-in_ok-kept_tokens-in-Ok-None-clause-moved : goal.returns-in_ok-kept_tokens-in-Ok-None-clause-moved
unfolding Rattle.syn_recognize.specs.Names.rule_of
returns-in_ok-kept_tokens-in-Ok-None-clause-moved c =
    let ts = c.args.input.now in
    let a = attributes_syntax c.in_ok-attrs.attrs.items in
    let m = c.outer_attributes.new.input in
    let outer : parse_rule attributes ts ≡ Some (a, m) = search rules in
    let kept = rw c.in-Ok-None.field-0-is at (c.in-Ok-None.ensures.follows ts) in
    let copied = rw c.fork-start.ensures at c.in_ok-kept_tokens-in-Ok-None.ensures.reads in
    trait_kept_moved ts a m outer kept c.in_ok-kept_tokens-in-Ok-None.field-0 c.kept_tokens.new.input copied

pub returns-in-Err-clause-reads : goal.returns-in-Err-clause-reads
returns-in-Err-clause-reads c =
    let ts = c.args.input.now in
    let a = attributes_syntax c.in_ok-attrs.attrs.items in
    let m = c.outer_attributes.new.input in
    let outer : parse_rule attributes ts ≡ Some (a, m) = search rules in
    λ h. trait_refused ts a m outer (c.in-Err.ensures.follows ts h)
