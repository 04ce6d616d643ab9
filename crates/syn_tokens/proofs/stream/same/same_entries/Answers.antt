use Rattle.std.proofs.Common.{rules, tests, ◌∙◌}
use Rattle.std.proofs.lemmas.Iterator.{YieldsList-from_slice, YieldsList-from_zip}
use Rattle.std.proofs.lemmas.Iterator.Search.{all_from_yields_List}
use Rattle.syn_tokens.specs.SameEntries.{same_entry}
use Rattle.syn_tokens.proofs.SameEntries.{same_zipped}
use Rattle.syn_tokens.proofs.stream.same.same_entries.Goals as goal

pub returns-then-a-b : goal.returns-then-a-b
returns-then-a-b c =
    let each = all_from_yields_List (λ p. same_entry p.0 p.1) c.all.new.self _ c.all.result c.all.ensures.ran (YieldsList-from_zip (YieldsList-from_slice c.args.a.now cc) (YieldsList-from_slice c.args.b.now cc)) (λ x b q k. search (rules, tests)) in
    each ∙ same_zipped c.args.a.now c.args.b.now c.if-a-b.true
