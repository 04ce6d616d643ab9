use Rattle.std.proofs.Common.{◌≡◌, ◌<◌, ◌≤◌, true, false, Some, ap, ◌∙◌, rules, arith}
use Rattle.syn_grammar.specs.Words.{comma}
use Rattle.syn_grammar.specs.Tokens.{at_mark, ended}
use Rattle.syn_grammar.specs.Rules.{expressions, whole_expression}
use Rattle.syn_grammar.specs.Grammar.{Node, Right}
use Rattle.syn_grammar.specs.Take.{left, sees, take_mark}
use Rattle.syn_grammar.specs.Run.{parse_rule}
use Rattle.syn_tokens.specs.Kinds.{comma_syntax}
use Rattle.syn_tokens.specs.Listing.{onto}
use Rattle.syn_parse.proofs.Listing.{onto_grows}
use Rattle.syn_expr_parse.proofs.Groups.{expressions_end, expressions_last, expressions_more, expressions_no_comma}
use Rattle.syn_expr_parse.proofs.parsing.groups.expressions.Goals as goal

pub returns-then-not-peek-clause-reads : goal.returns-then-not-peek-clause-reads
returns-then-not-peek-clause-reads g c =
    let v = λ (e : g.row.N-Trees-Expr.Denot). Node (g.N.Trees.Trees.expr_syntax e) in
    let ts = c.elements.input in
    let m = c.expr.new.input in
    let more : sees ended ts ≡ false = search rules in
    let got : parse_rule whole_expression ts ≡ Some (v c.unboxed-value.result, m) = search rules in
    let none : sees (at_mark comma) m ≡ false = search rules in
    rw (c.in_ok-push_value.ensures.ok) (c.elements.invariant.2 ∙ expressions_last (onto Right v comma_syntax c.elements.list.pairs) ts (v c.unboxed-value.result) m more got none)

pub returns-in_err-comma-clause-reads : goal.returns-in_err-comma-clause-reads
returns-in_err-comma-clause-reads g c =
    let v = λ (e : g.row.N-Trees-Expr.Denot). Node (g.N.Trees.Trees.expr_syntax e) in
    let ts = c.elements.input in
    let m = c.expr.new.input in
    let more : sees ended ts ≡ false = search rules in
    let got : parse_rule whole_expression ts ≡ Some (v c.unboxed-value.result, m) = search rules in
    let next : sees (at_mark comma) m ≡ true = search rules in
    search (rules, expressions_no_comma (onto Right v comma_syntax c.elements.list.pairs) ts (v c.unboxed-value.result) m more got next)

pub elements-preserved : goal.elements-preserved
elements-preserved g c =
    let v = λ (e : g.row.N-Trees-Expr.Denot). Node (g.N.Trees.Trees.expr_syntax e) in
    let f = onto Right v comma_syntax c.elements.list.pairs in
    let ts = c.elements.input in
    let m = c.expr.new.input in
    let x = c.unboxed-value.result in
    let q = c.in_ok-comma.comma in
    let less : left m < left ts = search rules in
    let lesser : left c.read.new.self ≤ left m = search rules in
    let pushed = c.in_ok-push_pair.ensures.ok in
    let more : sees ended ts ≡ false = search rules in
    let got : parse_rule whole_expression ts ≡ Some (v x, m) = search rules in
    let next : sees (at_mark comma) m ≡ true = search rules in
    let sign : take_mark comma m ≡ Some (comma_syntax q, c.read.new.self) = search rules in (
      omega (arith, c.elements.invariant.0, less, lesser),
      ap (λ s. s.last) pushed,
      rw pushed (c.elements.invariant.2 ∙ expressions_more f ts (v x) m more got q c.read.new.self next sign ∙ onto_grows Right v comma_syntax c.elements.list.pairs (x, q) (parse_rule expressions c.read.new.self)),
    )

pub returns-clause-reads : goal.returns-clause-reads
returns-clause-reads g c =
    let v = λ (e : g.row.N-Trees-Expr.Denot). Node (g.N.Trees.Trees.expr_syntax e) in
    let done : sees ended c.elements.input ≡ true = search rules in
    rw (c.elements.invariant.1) (c.elements.invariant.2 ∙ expressions_end (onto Right v comma_syntax c.elements.list.pairs) c.elements.input done)
