use Rattle.std.proofs.Common.{◌≡◌, true, rules}
use Rattle.syn_grammar.specs.Run.{parse_rule}
use Rattle.syn_recognize.specs.Names.{rule_of}
use Rattle.syn_recognize.specs.Written.{blank}
use Rattle.syn_recognize.specs.Copies.{Reached, copied}
use Rattle.syn_recognize.proofs.Shown.{printed_alone}
use Rattle.syn_recognize.proofs.reading.printed_by.Goals as goal

pub returns-clause-reads : goal.returns-clause-reads
returns-clause-reads c =
    let e : copied (blank true) (parse_rule (rule_of c.args.rule) c.args.input.now) ≡ Reached c.write_rule.new.out c.write_rule.new.input = search rules in
    printed_alone (rule_of c.args.rule) c.write_rule.new.out c.args.input.now c.write_rule.new.input c.in_ok-written.field-0 e c.in_ok-written.ensures.tokens
