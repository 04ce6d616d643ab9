use Rattle.std.proofs.Common.{ap, ◌∙◌, set, get_or}
use Rattle.std.proofs.lemmas.Result.{on_ok_weaker}
use Rattle.token_stats.specs.Counts.{nothing, table_of, with_token}
use Rattle.token_stats.proofs.Counts.{at_row}
use Rattle.token_stats.proofs.stats.Stats.add.Goals as goal

pub returns-clause-counted : goal.returns-clause-counted
returns-clause-counted c =
    let rows = table_of c.args.self.now in
    on_ok_weaker c.add.result
    (λ h. at_row c.args.self.now.rows c.line.result c.index-self-line.result c.add.new.self (with_token c.args.text.now) h
    ∙ ap (λ i. set rows i (with_token c.args.text.now (get_or rows i nothing))) c.line.ensures.number)
    c.add.ensures.counted
