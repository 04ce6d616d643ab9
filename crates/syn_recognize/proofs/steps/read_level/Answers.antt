use Rattle.std.proofs.Common.{◌≡◌, ◌+◌, [], ◌∷◌, ◌++◌, rules}
use Rattle.syn_recognize.specs.Stops.{IsFault}
use Rattle.syn_recognize.specs.Forms.{grammar_of}
use Rattle.syn_recognize.specs.declared.step.Step.TheVariants as Step-m
use Rattle.syn_recognize.proofs.Ladder.{level_read}
use Rattle.syn_recognize.proofs.steps.read_level.Goals as goal

pub returns : goal.returns
returns c =
    let pushed : c.push.new.self.items ≡ c.args.steps.now.items ++ Step-m.Levels (c.args.level + 1) c.args.to ∷ [] = search rules in
    level_read IsFault c.args.level c.args.to (grammar_of c.following.result.now) c.args.steps.now.items c.push.new.self.items c.args.out.now c.read_form.new.out c.args.input.now c.read_form.new.input c.read_form.result c.read_form.new.steps.items
    c.requires c.following.ensures pushed c.read_form.ensures
