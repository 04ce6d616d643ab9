use Rattle.std.proofs.Common.{◌≡◌, ◌<◌, true, false, Some, ◌∙◌, ap, rules, arith}
use Rattle.syn_grammar.specs.Words.{comma}
use Rattle.syn_grammar.specs.Grammar.{at_row_comma, at_row_end}
use Rattle.syn_grammar.specs.Take.{left, sees, take_mark}
use Rattle.syn_tokens.specs.Kinds.{comma_syntax}
use Rattle.syn_lower.specs.Generics.{syntax_of_GenericParam}
use Rattle.syn_lower.proofs.ParameterRows.{one, row_end, row_last, row_more}
use Rattle.syn_lower.proofs.generics.parsing.parameters.Goals as goal

pub params-preserved : goal.params-preserved
params-preserved c =
    let x = c.in_ok-param.param in
    let less : left c.read.new.self < left c.params.input = search rules in
    let lesser : left c.read-in-params.new.self < left c.read.new.self = search rules in
    let seen : sees at_row_end c.params.input ≡ false = search rules in
    let got : one c.params.input ≡ Some (syntax_of_GenericParam x, c.read.new.self) = search rules in
    let more : sees at_row_comma c.read.new.self ≡ true = search rules in
    let sign : take_mark comma c.read.new.self ≡ Some (comma_syntax c.in_ok-comma.comma, c.read-in-params.new.self) = search rules in
    let pushed = c.in_ok-push_pair.ensures.ok in (
      omega (arith, c.params.invariant.0, less, lesser),
      ap (λ s. s.last) pushed,
      rw pushed (c.params.invariant.2 ∙ row_more c.params.input x c.read.new.self seen got c.params.params.pairs c.in_ok-comma.comma c.read-in-params.new.self more sign),
    )

pub returns-then-not-peek-clause-reads : goal.returns-then-not-peek-clause-reads
returns-then-not-peek-clause-reads c =
    let x = c.in_ok-param.param in
    let seen : sees at_row_end c.params.input ≡ false = search rules in
    let got : one c.params.input ≡ Some (syntax_of_GenericParam x, c.read.new.self) = search rules in
    let none : sees at_row_comma c.read.new.self ≡ false = search rules in
    rw c.in_ok-push_value.ensures.ok (c.params.invariant.2 ∙ row_last c.params.input x c.read.new.self seen got c.params.params.pairs none)

pub returns-clause-reads : goal.returns-clause-reads
returns-clause-reads c =
    let past : sees at_row_end c.params.input ≡ true = search rules in
    rw c.params.invariant.1 (c.params.invariant.2 ∙ row_end c.params.input c.params.params.pairs past)
