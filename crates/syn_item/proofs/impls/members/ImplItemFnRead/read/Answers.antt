use Rattle.std.proofs.Common.{◌≡◌, Some, rules}
use Rattle.syn_grammar.specs.Rules.{signature}
use Rattle.syn_grammar.specs.Run.{parse_form, parse_rule}
use Rattle.syn_lower.specs.Parsing.{IsSyntax}
use Rattle.syn_item.specs.ImplForms.{member_marks_form, member_marks_syntax}
use Rattle.syn_item.proofs.MemberReads.{function_read}
use Rattle.syn_item.proofs.impls.members.ImplItemFnRead.read.Goals as goal

pub returns-clause-reads : goal.returns-clause-reads
returns-clause-reads c =
    let marks = member_marks_syntax c.in_ok-marks.marks in
    let marks_read : parse_form member_marks_form c.args.input.now ≡ Some (marks, c.member_marks.new.input) = search rules in
    let signature_read : parse_rule signature c.member_marks.new.input ≡ Some (c.in_ok-sig.sig, c.read.new.self) = search rules in
    function_read IsSyntax c.args.input.now c.member_marks.new.input c.read.new.self _ _ _ _ marks_read signature_read c.impl_function.result c.impl_function.new.input c.impl_function.ensures.reads
