use Rattle.std.proofs.Common.{◌≡◌, ◌<◌, true, false, Some, rules, arith, refl, sym, ap, ◌∙◌}
use Rattle.syn_grammar.specs.Words.{pound}
use Rattle.syn_grammar.specs.Table.{at_pound}
use Rattle.syn_grammar.specs.Take.{left, sees, take_mark}
use Rattle.syn_grammar.proofs.Looks.{sees_one}
use Rattle.syn_grammar.proofs.Takes.{mark_less}
use Rattle.syn_parse.specs.Peeks.{past}
use Rattle.syn_recognize.proofs.Ordered.{attribute_after, no_attribute, no_brackets}
use Rattle.syn_recognize.proofs.Passed.{mark_passed}
use Rattle.syn_recognize.proofs.list.at_lifetime_parameter.Goals as goal

pub attributes-preserved : goal.attributes-preserved
unfolding Rattle.syn_recognize.specs.Names.rule_of Rattle.syn_recognize.specs.Parts.part_form
attributes-preserved c = λ b h.
    let ts = c.attributes.ahead in
    let e : sees at_pound ts ≡ true = search rules in
    let p = mark_passed 35 refl ts (sym (sees_one 35 ts) ∙ e) in
    let same : c.past-ahead.result ≡ past ts = search rules in
    let sign : take_mark pound ts ≡ Some (p.0, c.past-ahead.result) = p.1 ∙ ap (λ z. Some (p.0, z)) (sym same) in
    c.attributes.invariant b (attribute_after ts c.past-ahead.result p.0 _ b e sign c.in-Ok.ensures.reads h)

pub attributes-smaller : goal.attributes-smaller
attributes-smaller c =
    let ts = c.attributes.ahead in
    let e : sees at_pound ts ≡ true = search rules in
    let p = mark_passed 35 refl ts (sym (sees_one 35 ts) ∙ e) in
    let same : c.past-ahead.result ≡ past ts = search rules in
    let sign : take_mark pound ts ≡ Some (p.0, c.past-ahead.result) = p.1 ∙ ap (λ z. Some (p.0, z)) (sym same) in
    let one : left c.past-ahead.result < left ts = mark_less pound ts (p.0, c.past-ahead.result) sign in
    omega (arith, one, c.in-Ok.ensures.moved)

pub returns-in_default : goal.returns-in_default
unfolding Rattle.syn_recognize.specs.Names.rule_of Rattle.syn_recognize.specs.Parts.part_form
returns-in_default c =
    let ts = c.attributes.ahead in
    let e : sees at_pound ts ≡ true = search rules in
    let p = mark_passed 35 refl ts (sym (sees_one 35 ts) ∙ e) in
    let same : c.past-ahead.result ≡ past ts = search rules in
    let sign : take_mark pound ts ≡ Some (p.0, c.past-ahead.result) = p.1 ∙ ap (λ z. Some (p.0, z)) (sym same) in
    c.attributes.invariant false (no_brackets ts c.past-ahead.result p.0 false e sign (c.in_default.ensures.reads c.in_default.ensures.syntax))

pub returns : goal.returns
unfolding Rattle.syn_recognize.specs.Names.rule_of Rattle.syn_recognize.specs.Parts.part_form
returns c =
    let e : sees at_pound c.attributes.ahead ≡ false = search rules in
    c.attributes.invariant c.peek-2.result (no_attribute c.attributes.ahead c.peek-2.result e (sym c.peek-2.ensures))
