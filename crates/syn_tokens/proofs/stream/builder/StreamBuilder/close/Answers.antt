use Rattle.std.proofs.Common.{rules, [], ◌∷◌, ◌++◌, ap, sym, ◌∙◌, ◌≡◌, length}
use Rattle.syn_tokens.specs.Building.{NotOpen}
use Rattle.syn_tokens.proofs.Builders.{none_kept, other_kept, reported, last_open, closes_last}
use Rattle.syn_tokens.proofs.stream.builder.StreamBuilder.close.Goals as goal

pub returns-in-None-clause-err : goal.returns-in-None-clause-err
returns-in-None-clause-err c =
    let none : length c.self.inside.pending.items ≡ 0 = ap length (sym c.deref.ensures.value) ∙ c.in-None.ensures.cases in
    reported c.args.closing (NotOpen c.args.delimiter c.args.self.now) c.not_balanced.result c.not_balanced.ensures
    (none_kept c.self.inside.mark.entries c.self.inside.entries.items c.self.inside.pending.items c.self.inside.trees c.args.delimiter c.args.self.now c.self.invariant.0 none c.self.view_is)

pub returns-then-ne-clause-err : goal.returns-then-ne-clause-err
returns-then-ne-clause-err c =
    let last : c.self.inside.pending.items ≡ c.in-Some.field-0-1.now ++ c.in-Some.innermost.now ∷ [] = sym c.deref.ensures.value ∙ c.in-Some.ensures.cases.0 in
    let other : c.in-Some.innermost.now.delimiter ≡ c.args.delimiter → ⊥ = search rules in
    reported c.args.closing (NotOpen c.args.delimiter c.args.self.now) c.not_balanced-then-ne.result c.not_balanced-then-ne.ensures
    (other_kept c.self.inside.mark.entries c.self.inside.entries.items c.self.inside.pending.items c.self.inside.trees c.in-Some.field-0-1.now c.in-Some.innermost.now c.args.delimiter c.args.self.now
    c.self.invariant.0 last c.self.view_is other)

pub close_group-requires : goal.close_group-requires
close_group-requires c =
    let last : c.self.inside.pending.items ≡ c.in-Some.field-0-1.now ++ c.in-Some.innermost.now ∷ [] = sym c.deref.ensures.value ∙ c.in-Some.ensures.cases.0 in
    last_open c.self.inside.mark.entries c.self.inside.entries.items c.self.inside.pending.items c.self.inside.trees c.self.invariant.0 c.in-Some.field-0-1.now c.in-Some.innermost.now last c.args.self.now c.self.view_is

pub returns-clause-ok : goal.returns-clause-ok
returns-clause-ok c =
    let last : c.self.inside.pending.items ≡ c.in-Some.field-0-1.now ++ c.in-Some.innermost.now ∷ [] = sym c.deref.ensures.value ∙ c.in-Some.ensures.cases.0 in
    let same : c.in-Some.innermost.now.delimiter ≡ c.args.delimiter = search rules in
    closes_last c.self.inside.mark.entries c.self.inside.entries.items c.self.inside.pending.items c.self.inside.trees c.self.invariant.0 c.in-Some.field-0-1.now c.in-Some.innermost.now last c.args.self.now c.self.view_is
    c.args.delimiter c.args.closing same _ c.in_ok-close_group.ensures.ok
