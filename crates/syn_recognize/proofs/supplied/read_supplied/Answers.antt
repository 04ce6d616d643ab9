use Rattle.std.proofs.Common.{◌≡◌, true, false, rules, sym, ap, ◌∙◌}
use Rattle.syn_grammar.specs.Words.{colon}
use Rattle.syn_grammar.specs.Tokens.{Before_less}
use Rattle.syn_grammar.specs.Rules.{pattern}
use Rattle.syn_grammar.specs.Grammar.{at_unnamed, mark, rule}
use Rattle.syn_grammar.specs.Take.{sees}
use Rattle.syn_recognize.specs.Copies.{Reached, copy_form, next}
use Rattle.syn_recognize.specs.Forms.{grammar_of}
use Rattle.syn_recognize.specs.Steps.{todo}
use Rattle.syn_recognize.specs.Supplied.{Unnamed}
use Rattle.syn_recognize.proofs.SuppliedNames.{with_its_name, without_name}
use Rattle.syn_recognize.proofs.Todo.{push}
use Rattle.syn_recognize.proofs.supplied.read_supplied.Goals as goal

pub returns-then-at_unnamed : goal.returns-then-at_unnamed
unfolding Rattle.syn_recognize.specs.Names.rule_of Rattle.syn_recognize.specs.Parts.part_form
returns-then-at_unnamed c =
    let l = c.args.steps.now.items in
    let w = c.args.out.now in
    let v = c.write_unnamed.new.out in
    let ts = c.args.input.now in
    let h : sees (at_unnamed Before_less) ts ≡ true = search rules in
    let written : Unnamed w ts v = search rules in
    let pushed : todo l (copy_form (grammar_of c.typed.result.now) v ts) ≡ todo c.push.new.self.items (Reached v ts) = search (rules, push) in
    ap (todo l) (without_name c.args.nameless w v ts h written ∙ ap (λ g. copy_form g v ts) (sym c.typed.ensures)) ∙ pushed

pub returns : goal.returns
unfolding Rattle.syn_recognize.specs.Names.rule_of Rattle.syn_recognize.specs.Parts.part_form
returns c =
    let l = c.args.steps.now.items in
    let w = c.args.out.now in
    let ts = c.args.input.now in
    let h : sees (at_unnamed Before_less) ts ≡ false = search rules in
    let pushed : todo l (next (next (copy_form (rule pattern) w ts) (copy_form (mark false colon))) (copy_form (grammar_of c.typed-2.result.now))) ≡ todo c.push-4.new.self.items (Reached w ts) = search (rules, push) in
    ap (todo l) (with_its_name c.args.nameless w ts h ∙ ap (λ g. next (next (copy_form (rule pattern) w ts) (copy_form (mark false colon))) (copy_form g)) (sym c.typed-2.ensures)) ∙ pushed
