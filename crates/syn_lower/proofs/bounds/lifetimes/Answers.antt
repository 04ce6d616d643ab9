use Rattle.std.proofs.Common.{◌≡◌, ◌<◌, true, false, Some, ◌∙◌, ap, rules, arith}
use Rattle.syn_grammar.specs.Words.{plus}
use Rattle.syn_grammar.specs.Tokens.{at_lifetime}
use Rattle.syn_grammar.specs.Table.{at_plus}
use Rattle.syn_grammar.specs.Take.{left, sees, take_lifetime, take_mark}
use Rattle.syn_tokens.specs.Kinds.{plus_syntax}
use Rattle.syn_lower.specs.Types.{syntax_of_lifetime}
use Rattle.syn_lower.proofs.Lifetimes.{lifetimes_end, lifetimes_last, lifetimes_more}
use Rattle.syn_lower.proofs.bounds.lifetimes.Goals as goal

pub elements-preserved : goal.elements-preserved
elements-preserved c =
    let x = c.in_ok-lifetime.lifetime in
    let less : left c.read.new.self < left c.elements.input = search rules in
    let lesser : left c.read-in-elements.new.self < left c.read.new.self = search rules in
    let seen : sees at_lifetime c.elements.input ≡ true = search rules in
    let got : take_lifetime c.elements.input ≡ Some (syntax_of_lifetime x, c.read.new.self) = search rules in
    let more : sees at_plus c.read.new.self ≡ true = search rules in
    let sign : take_mark plus c.read.new.self ≡ Some (plus_syntax c.in_ok-plus.plus, c.read-in-elements.new.self) = search rules in
    let pushed = c.in_ok-push_pair.ensures.ok in (
      omega (arith, c.elements.invariant.0, less, lesser),
      ap (λ s. s.last) pushed,
      rw pushed (c.elements.invariant.2 ∙ lifetimes_more c.elements.input x c.read.new.self seen got c.elements.list.pairs c.in_ok-plus.plus c.read-in-elements.new.self more sign),
    )

pub returns-then-not-peek-clause-reads : goal.returns-then-not-peek-clause-reads
returns-then-not-peek-clause-reads c =
    let x = c.in_ok-lifetime.lifetime in
    let seen : sees at_lifetime c.elements.input ≡ true = search rules in
    let got : take_lifetime c.elements.input ≡ Some (syntax_of_lifetime x, c.read.new.self) = search rules in
    let none : sees at_plus c.read.new.self ≡ false = search rules in
    rw c.in_ok-push_value.ensures.ok (c.elements.invariant.2 ∙ lifetimes_last c.elements.input x c.read.new.self seen got c.elements.list.pairs none)

pub returns-clause-reads : goal.returns-clause-reads
returns-clause-reads c =
    let past : sees at_lifetime c.elements.input ≡ false = search rules in
    rw c.elements.invariant.1 (c.elements.invariant.2 ∙ lifetimes_end c.elements.input c.elements.list.pairs past)
