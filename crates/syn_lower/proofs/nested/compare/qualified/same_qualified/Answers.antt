use Rattle.std.proofs.Common.{rules, arith, sym, ◌∙◌}
use Rattle.syn_grammar.specs.Grammar.{Left}
use Rattle.syn_lower.proofs.Smaller.{path_smaller}
use Rattle.syn_lower.proofs.SameQualified.{values_then, values_else}
use Rattle.syn_lower.proofs.nested.compare.qualified.same_qualified.Goals as goal

pub returns-then-is_same_nested : goal.returns-then-is_same_nested
returns-then-is_same_nested g c =
    let e = values_then c.a.inside c.b.inside c.path.inside c.other.inside _ _ _ _ c.a.view_is c.b.view_is c.path.view_is c.other.view_is in
    let same_types = sym c.is_same_nested.ensures.same ∙ c.if-is_same_nested.true in
    search (rules, same_types, e)

pub returns-else-is_same_nested : goal.returns-else-is_same_nested
returns-else-is_same_nested g c =
    let e = values_else c.a.inside c.b.inside c.path.inside c.other.inside _ _ _ _ c.a.view_is c.b.view_is c.path.view_is c.other.view_is in
    search (rules, e)

pub is_same_nested-requires-then-is_same_nested : goal.is_same_nested-requires-then-is_same_nested
is_same_nested-requires-then-is_same_nested g c =
    λ n h. c.requires n (omega (arith, h, path_smaller (Left c.args.a.now) c.args.path.now))
