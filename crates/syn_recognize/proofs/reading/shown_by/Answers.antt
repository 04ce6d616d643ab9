use Rattle.std.proofs.Common.{◌≡◌, false, rules}
use Rattle.syn_grammar.specs.Run.{parse_rule}
use Rattle.syn_recognize.specs.Names.{rule_of}
use Rattle.syn_recognize.specs.Stops.{IsFault}
use Rattle.syn_recognize.specs.Written.{blank}
use Rattle.syn_recognize.specs.Copies.{Reached, copied}
use Rattle.syn_recognize.proofs.Shown.{shows}
use Rattle.syn_recognize.proofs.reading.shown_by.Goals as goal

pub returns : goal.returns
returns c =
    let e : copied (blank false) (parse_rule (rule_of c.args.rule) c.args.input.now) ≡ Reached c.write_rule.new.out c.write_rule.new.input = search rules in
    shows IsFault (rule_of c.args.rule) c.write_rule.new.out c.args.input.now c.write_rule.new.input c.written.result e c.written.ensures.tokens c.written.ensures.left_open
