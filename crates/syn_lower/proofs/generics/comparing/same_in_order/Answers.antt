use Rattle.std.proofs.Common.{rules, tests, ◌∙◌}
use Rattle.std.proofs.lemmas.Iterator.{YieldsList-from_slice, YieldsList-from_zip}
use Rattle.std.proofs.lemmas.Iterator.Search.{all_from_yields_List}
use Rattle.syn_grammar.specs.Same.{same_syntax}
use Rattle.syn_tokens.proofs.Comparisons.{same_zipped}
use Rattle.syn_lower.specs.Generics.{param_of}
use Rattle.syn_lower.proofs.generics.comparing.same_in_order.Goals as goal

pub returns-then-params-others : goal.returns-then-params-others
returns-then-params-others c =
    let each = all_from_yields_List (λ p. same_syntax (param_of p.0) (param_of p.1)) c.all.new.self _ c.all.result c.all.ensures.ran (YieldsList-from_zip (YieldsList-from_slice c.args.params.now cc) (YieldsList-from_slice c.args.others.now cc)) (λ x b q k. search (rules, tests)) in
    each ∙ same_zipped param_of c.args.params.now c.args.others.now c.if-params-others.true
