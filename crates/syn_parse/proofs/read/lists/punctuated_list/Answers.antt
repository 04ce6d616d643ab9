use Rattle.std.proofs.Common.{◌≡◌, ◌<◌, ◌+◌, ◌≤◌, true, false, Some, ◌∙◌, ap, rules, arith}
use Rattle.syn_grammar.specs.Grammar.{Right}
use Rattle.syn_grammar.specs.Take.{left}
use Rattle.syn_grammar.specs.Run.{parse_rule, rows, wrap}
use Rattle.syn_parse.specs.Form.{meets, parse}
use Rattle.syn_tokens.specs.Listing.{onto}
use Rattle.syn_tokens.specs.Ordered.{member_of, ordered_onto}
use Rattle.syn_parse.proofs.Listing.{list_more, onto_grows}
use Rattle.syn_parse.proofs.RowsOf.{row_end, row_last, row_more, ordered_done, ordered_last, ordered_grows}
use Rattle.syn_parse.proofs.read.lists.punctuated_list.Goals as goal

pub elements-preserved : goal.elements-preserved
elements-preserved g c =
    let w = g.P.Syntactic.syntax in
    let sep = g.P.Read.form in
    let next = g.P.Peek.look in
    let less : left c.element.new.arg2 < left c.elements.input = search rules in
    let lesser : left c.read.new.self + g.P.Read.takes ≤ left c.element.new.arg2 = search rules in
    let pushed = c.in_ok-push_pair.ensures.ok in (
      omega (arith, c.elements.invariant.0, less, lesser),
      ap (λ s. s.last) pushed,
      (λ k e v is d.
          let l = c.elements.invariant.2 k e v is d in
          let stop : meets g.S.Peek.look c.elements.input ≡ false = search rules in
          let got : parse e c.elements.input ≡ Some (v c.in_ok-value.value, c.element.new.arg2) = search rules in
          let more : meets next c.element.new.arg2 ≡ true = search rules in
          let sign : parse sep c.element.new.arg2 ≡ Some (w c.in_ok-separator.separator, c.read.new.self) = search rules in
          rw pushed (l ∙ ap (wrap (onto Right v w c.elements.list.pairs)) (list_more v w k e g.S.Peek.look next sep is c.elements.input c.in_ok-value.value c.in_ok-separator.separator c.element.new.arg2 c.read.new.self stop got more sign)
          ∙ onto_grows Right v w c.elements.list.pairs (c.in_ok-value.value, c.in_ok-separator.separator) (parse_rule k c.read.new.self))),
      λ e first v is d.
          let l = c.elements.invariant.3 e first v is d in
          let stop : meets g.S.Peek.look c.elements.input ≡ false = search rules in
          let got : parse e c.elements.input ≡ Some (member_of first (v c.in_ok-value.value), c.element.new.arg2) = search rules in
          let more : meets next c.element.new.arg2 ≡ true = search rules in
          let sign : parse sep c.element.new.arg2 ≡ Some (w c.in_ok-separator.separator, c.read.new.self) = search rules in
          rw pushed (l ∙ ap (wrap (ordered_onto first v w c.elements.list.pairs)) (row_more first v w e g.S.Peek.look next sep is c.elements.input c.in_ok-value.value c.in_ok-separator.separator c.element.new.arg2 c.read.new.self stop got more sign)
          ∙ ordered_grows first v w c.elements.list.pairs (c.in_ok-value.value, c.in_ok-separator.separator) (rows (parse e) c.read.new.self)),
    )

pub returns-then-not-peek-clause-row : goal.returns-then-not-peek-clause-row
returns-then-not-peek-clause-row g c e first v is d =
    let w = g.P.Syntactic.syntax in
    let pairs = c.elements.list.pairs in
    let stop : meets g.S.Peek.look c.elements.input ≡ false = search rules in
    let got : parse e c.elements.input ≡ Some (member_of first (v c.in_ok-value.value), c.element.new.arg2) = search rules in
    let none : meets g.P.Peek.look c.element.new.arg2 ≡ false = search rules in
    rw (c.in_ok-push_value.ensures.ok) (c.elements.invariant.3 e first v is d
    ∙ ap (wrap (ordered_onto first v w pairs)) (row_last first v w e g.S.Peek.look g.P.Peek.look g.P.Read.form is c.elements.input c.in_ok-value.value c.element.new.arg2 stop got none)
    ∙ ap (λ s. Some (s, c.element.new.arg2)) (ordered_last first v w pairs c.in_ok-value.value))

pub returns-clause-row : goal.returns-clause-row
returns-clause-row g c e first v is d =
    let w = g.P.Syntactic.syntax in
    let pairs = c.elements.list.pairs in
    let stop : meets g.S.Peek.look c.elements.input ≡ true = search rules in
    rw (c.elements.invariant.1) (c.elements.invariant.3 e first v is d
    ∙ ap (wrap (ordered_onto first v w pairs)) (row_end first v w e g.S.Peek.look g.P.Peek.look g.P.Read.form is c.elements.input stop)
    ∙ ap (λ s. Some (s, c.elements.input)) (ordered_done first v w pairs))
