use Rattle.std.proofs.Common.{◌≡◌, ◌-◌, false}
use Rattle.syn_grammar.specs.Take.{first}
use Rattle.syn_recognize.specs.Trailing.{ends_by}
use Rattle.syn_recognize.proofs.braces.ends_with_braces.Given as goal

abbrev pub invariant-trees : goal.invariant-trees
invariant-trees l = ends_by false (first l.fn.count l.fn.trees) ≡ ends_by l.braces (first (l.fn.count - l._tree) l.rest)
