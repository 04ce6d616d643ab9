use Rattle.std.proofs.Common.{◌≡◌, ◌+◌, [], ◌∷◌, ◌++◌, arith, rules}
use Rattle.syn_grammar.specs.Rules.{unary}
use Rattle.syn_recognize.specs.Forms.{grammar_of}
use Rattle.syn_recognize.specs.Names.{rule_of}
use Rattle.syn_recognize.specs.declared.step.Step.TheVariants as Step-m
use Rattle.syn_recognize.proofs.Opened.{started}
use Rattle.syn_recognize.proofs.steps.begin_rule.Goals as goal

pub returns-in_ok-push-in-Some : goal.returns-in_ok-push-in-Some
returns-in_ok-push-in-Some c =
    let pushed : c.push.new.self.items ≡ c.args.steps.now.items ++ Step-m.Levels 0 c.in-Some.height ∷ [] = search rules in
    let high : c.in-Some.height ≡ 0 + c.in-Some.height = omega arith in
    started c.args.steps.now.items c.push.new.self.items c.args.next unary (rule_of c.args.rule) 0 c.in-Some.height c.in-Some.height (grammar_of c.operand.result.now) c.args.out.now c.args.input.now c.in-Some.ensures high c.operand.ensures c.requires pushed
