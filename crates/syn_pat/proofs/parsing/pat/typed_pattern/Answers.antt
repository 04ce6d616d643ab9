use Rattle.std.proofs.Common.{◌≡◌, false, Some, sym, ap, rules}
use Rattle.syn_grammar.specs.Rules.{pattern}
use Rattle.syn_grammar.specs.Table.{at_colon}
use Rattle.syn_grammar.specs.Take.{sees}
use Rattle.syn_grammar.specs.Run.{parse_rule}
use Rattle.syn_pat.specs.Patterns.{syntax_of_Pat}
use Rattle.syn_pat.proofs.PatternLists.{untyped}
use Rattle.syn_pat.proofs.parsing.pat.typed_pattern.Goals as goal

pub returns-clause-reads : goal.returns-clause-reads
returns-clause-reads c =
    let s = syntax_of_Pat c.in_ok-pat.pat in
    let read : parse_rule pattern c.args.input.now ≡ Some (s, c.read.new.self) = search rules in
    let none : sees at_colon c.read.new.self ≡ false = search rules in
    rw read (rw none (ap (λ z. Some (z, c.read.new.self)) (sym (untyped c.args.input.now s c.read.new.self read))))
