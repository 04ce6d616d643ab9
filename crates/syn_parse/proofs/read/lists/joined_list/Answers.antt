use Rattle.std.proofs.Common.{◌≡◌, ◌<◌, ◌+◌, ◌≤◌, true, Some, ◌∙◌, ap, rules, arith}
use Rattle.syn_grammar.specs.Take.{left}
use Rattle.syn_grammar.specs.Run.{parse_rule, wrap}
use Rattle.syn_parse.specs.Form.{meets, parse}
use Rattle.syn_tokens.specs.Listing.{onto, untagged}
use Rattle.syn_parse.proofs.Listing.{joined_more, onto_grows}
use Rattle.syn_parse.proofs.read.lists.joined_list.Goals as goal

pub elements-preserved : goal.elements-preserved
elements-preserved g c =
    let w = g.P.Syntactic.syntax in
    let sep = g.P.Read.form in
    let next = g.P.Peek.look in
    let less : left c.element.new.arg2 < left c.elements.input = search rules in
    let lesser : left c.read.new.self + g.P.Read.takes ≤ left c.element.new.arg2 = search rules in
    let pushed = c.in_ok-push_pair.ensures.ok in (
      omega (arith, c.elements.invariant.0, less, lesser),
      ap (λ s. s.last) pushed,
      λ k e v is d.
          let l = c.elements.invariant.2 k e v is d in
          let got : parse e c.elements.input ≡ Some (v c.in_ok-value.value, c.element.new.arg2) = search rules in
          let more : meets next c.element.new.arg2 ≡ true = search rules in
          let sign : parse sep c.element.new.arg2 ≡ Some (w c.in_ok-separator.separator, c.read.new.self) = search rules in
          rw pushed (l ∙ ap (wrap (onto untagged v w c.elements.list.pairs)) (joined_more v w k e next sep is c.elements.input c.in_ok-value.value c.in_ok-separator.separator c.element.new.arg2 c.read.new.self got more sign)
          ∙ onto_grows untagged v w c.elements.list.pairs (c.in_ok-value.value, c.in_ok-separator.separator) (parse_rule k c.read.new.self)),
    )
