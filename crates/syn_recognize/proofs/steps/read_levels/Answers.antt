use Rattle.std.proofs.Common.{ap}
use Rattle.syn_recognize.specs.Stops.{IsFault}
use Rattle.syn_recognize.specs.Steps.{todo}
use Rattle.syn_recognize.proofs.Ladder.{levels_end, levels_read}
use Rattle.syn_recognize.proofs.steps.read_levels.Goals as goal

pub returns-then-level-to : goal.returns-then-level-to
returns-then-level-to c =
    levels_read IsFault c.args.from c.args.to c.first_level-level.result c.first.result c.args.steps.now.items c.args.out.now c.read_level.new.out c.args.input.now c.read_level.new.input c.read_level.result c.read_level.new.steps.items
    c.first_level-level.ensures c.first.ensures c.read_level.ensures

pub returns : goal.returns
returns c =
    ap (todo c.args.steps.now.items) (levels_end c.args.from c.args.to c.first_level-level.result c.first.result c.args.out.now c.args.input.now c.first_level-level.ensures c.first.ensures c.if-level-to.false)
