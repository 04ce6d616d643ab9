use Rattle.std.proofs.Common.{◌≡◌, false}
use Rattle.syn_grammar.specs.Take.{length}
use Rattle.syn_recognize.specs.Trailing.{ends_by}
use Rattle.syn_expr_parse.proofs.parsing.trailing.ends_with_braces.Given as goal

abbrev pub invariant-trees : goal.invariant-trees
invariant-trees l = ends_by false l.fn.tokens ≡ ends_by l.braces l.rest

abbrev pub decreases-trees : goal.decreases-trees
decreases-trees l = length l.rest
