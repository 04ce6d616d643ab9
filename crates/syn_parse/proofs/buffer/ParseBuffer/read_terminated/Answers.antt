use Rattle.std.proofs.Common.{◌≡◌, ◌<◌, ◌+◌, ◌≤◌, false, Some, rules, arith}
use Rattle.syn_grammar.specs.Tokens.{ended}
use Rattle.syn_grammar.specs.Take.{left, sees}
use Rattle.syn_parse.specs.Form.{parse}
use Rattle.syn_parse.proofs.TerminatedLists.{terminated_grows, list_is}
use Rattle.syn_parse.proofs.buffer.ParseBuffer.read_terminated.Goals as goal

pub elements-init : goal.elements-init
elements-init g c = (omega arith, search rules, list_is g.T.Read.form g.P.Read.form g.met.T.Read.meaning g.met.P.Separator.reads_some, search rules)

pub elements-smaller : goal.elements-smaller
elements-smaller g c =
    let sign : parse g.P.Read.form c.read.new.self ≡ Some (g.P.Syntactic.syntax c.in_ok-separator.separator, c.read-in-elements.new.self) = search rules in
    let less : left c.read-in-elements.new.self < left c.read.new.self = g.met.P.Separator.reads_some c.read.new.self _ sign in
    let kept : left c.read.new.self + g.T.Read.takes ≤ left c.elements.self = search rules in
    omega (arith, less, kept)

pub elements-preserved : goal.elements-preserved
elements-preserved g c =
    let pushed = c.in_ok-push_pair.ensures.ok in
    let begun : sees ended c.elements.self ≡ false = search rules in
    let got : parse g.T.Read.form c.elements.self ≡ Some (g.T.Syntactic.syntax c.in_ok-value.value, c.read.new.self) = search rules in
    let more : sees ended c.read.new.self ≡ false = search rules in
    let sign : parse g.P.Read.form c.read.new.self ≡ Some (g.P.Syntactic.syntax c.in_ok-separator.separator, c.read-in-elements.new.self) = search rules in
    let less : left c.read-in-elements.new.self < left c.read.new.self = g.met.P.Separator.reads_some c.read.new.self _ sign in
    let kept : left c.read.new.self + g.T.Read.takes ≤ left c.elements.self = search rules in (
      omega (arith, c.elements.invariant.0, less, kept),
      search rules,
      c.elements.invariant.2,
      rw pushed (terminated_grows g.T.Syntactic.syntax g.P.Syntactic.syntax (parse g.T.Read.form) (parse g.P.Read.form) c.elements.invariant.2 c.args.self.now c.elements.self
          c.elements.list.pairs c.in_ok-value.value c.in_ok-separator.separator c.read.new.self c.read-in-elements.new.self c.elements.invariant.3 begun got more sign),
    )
