use Rattle.std.proofs.Common.{rules, tests, ◌∙◌}
use Rattle.std.proofs.lemmas.Iterator.{YieldsList-from_slice, YieldsList-from_zip}
use Rattle.std.proofs.lemmas.Iterator.Search.{all_from_yields_List}
use Rattle.syn_grammar.specs.Same.{same_syntax}
use Rattle.syn_tokens.proofs.Comparisons.{same_zipped}
use Rattle.syn_tokens.proofs.syntactic.compare.same_in_order.Goals as goal

pub returns-then-a-b : goal.returns-then-a-b
returns-then-a-b g c =
    let v = g.T.Syntactic.syntax in
    let each = all_from_yields_List (λ p. same_syntax (v p.0) (v p.1)) c.all.new.self _ c.all.result c.all.ensures.ran (YieldsList-from_zip (YieldsList-from_slice c.args.a.now cc) (YieldsList-from_slice c.args.b.now cc)) (λ x b q k. search (rules, tests)) in
    each ∙ same_zipped v c.args.a.now c.args.b.now c.if-a-b.true
