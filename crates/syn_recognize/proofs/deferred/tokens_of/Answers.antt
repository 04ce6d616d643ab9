use Rattle.std.proofs.Common.{rules, ◌≡◌, true}
use Rattle.syn_parse.specs.Refusals.{IsSyntax}
use Rattle.syn_recognize.specs.LoneLiterals.{is_lone_literal}
use Rattle.syn_recognize.proofs.LoneLiterals.{lone_promised}
use Rattle.syn_recognize.proofs.deferred.tokens_of.Goals as goal

pub returns-then-is_lone_literal-clause-reads : goal.returns-then-is_lone_literal-clause-reads
returns-then-is_lone_literal-clause-reads g c =
    let lone : is_lone_literal g.row.KIND c.args.input.now ≡ true = search rules in
    lone_promised IsSyntax g.row.KIND c.args.input.now c.read_literal.result c.read_literal.new.input lone c.read_literal.ensures.reads
