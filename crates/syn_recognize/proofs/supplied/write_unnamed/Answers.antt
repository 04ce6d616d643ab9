use Rattle.std.proofs.Common.{◌≡◌, true, false, rules, ap, ◌∙◌}
use Rattle.syn_grammar.specs.Words.{w_underscore}
use Rattle.syn_grammar.specs.Tokens.{Before_less, end, ident, leaf, punct}
use Rattle.syn_grammar.specs.Grammar.{at_unnamed}
use Rattle.syn_grammar.specs.Take.{sees}
use Rattle.syn_tokens.specs.Spans.{at}
use Rattle.syn_recognize.specs.Written.{adds}
use Rattle.syn_recognize.proofs.SuppliedNames.{unnamed_present}
use Rattle.syn_recognize.proofs.supplied.write_unnamed.Goals as goal

pub returns : goal.returns
unfolding Rattle.syn_recognize.specs.Names.rule_of Rattle.syn_recognize.specs.Parts.part_form
returns c =
    let s = c.span-span.result in
    let h : sees (at_unnamed Before_less) c.args.input.now ≡ true = search rules in
    let first : c.write_word.new.self ≡ adds c.args.out.now (leaf (ident w_underscore) (at s) end) = search rules in
    let second : c.write_punct.new.self ≡ adds c.write_word.new.self (punct 58 false (at s) end) = search rules in
    let present = unnamed_present c.args.input.now c.args.out.now s h c.span-span.ensures in
    (present.0, present.1, second ∙ ap (λ w. adds w (punct 58 false (at s) end)) first ∙ present.2)
