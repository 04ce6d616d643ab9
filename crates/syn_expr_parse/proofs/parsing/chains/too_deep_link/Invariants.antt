use Rattle.std.specs.Prelude.{◌+◌, ◌*◌, sum_by}
use Rattle.syn_grammar.specs.Take.{left}
use Rattle.syn_expr_parse.proofs.LinkLevels.{to_pass}
use Rattle.syn_expr_parse.proofs.parsing.chains.too_deep_link.Given as goal

-- Each tree is passed once, and each group is left once: a group counts twice, once where it is entered and once where it is left.
abbrev pub decreases-trees : goal.decreases-trees
decreases-trees l = 2 * left l.here.rest + sum_by to_pass l.outside.items
