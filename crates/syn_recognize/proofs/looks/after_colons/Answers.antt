use Rattle.std.proofs.Common.{◌≡◌, true, false, rules, sym, subst}
use Rattle.syn_grammar.specs.Take.{sees}
use Rattle.syn_grammar.specs.Table.{at_colons}
use Rattle.syn_parse.specs.Peeks.{past}
use Rattle.syn_recognize.proofs.PathLooks.{Begins, begins_here}
use Rattle.syn_recognize.proofs.Passed.{begins_past}
use Rattle.syn_recognize.proofs.looks.after_colons.Goals as goal

pub returns-then-peek : goal.returns-then-peek
returns-then-peek c =
    let seen : sees at_colons c.args.input.now ≡ true = search rules in
    let one : c.past.result ≡ past c.args.input.now = search rules in
    let two : c.past-then-peek.result ≡ past (past c.args.input.now) = search rules in
    subst (λ z. Begins c.args.input.now z) (sym two) (begins_past c.args.input.now seen)

pub returns-else-peek : goal.returns-else-peek
returns-else-peek c =
    let seen : sees at_colons c.args.input.now ≡ false = search rules in
    let same : c.fork.result ≡ c.args.input.now = search rules in
    subst (λ z. Begins c.args.input.now z) (sym same) (begins_here c.args.input.now seen)
