use Rattle.std.proofs.Common.{◌≡◌, ◌<◌, Option, Some, None, IfSome, sym, subst, ap}
use Rattle.syn_grammar.specs.Tokens.{Stream, end}
use Rattle.syn_grammar.specs.Take.{left}
use Rattle.syn_tokens.specs.Cursors.{before_next}
use Rattle.syn_expr_parse.proofs.LinkLevels.{group_level}
use Rattle.syn_expr_parse.proofs.parsing.chains.level.Level.see.Goals as goal

pub returns-in-Group-clause-inside : goal.returns-in-Group-clause-inside
returns-in-Group-clause-inside c = group_level c.in-Group.group c.args.tree c.see_group.result c.in-Group.is c.see_group.ensures.inside
