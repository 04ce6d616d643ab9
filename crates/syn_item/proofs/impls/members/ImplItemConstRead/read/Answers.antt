use Rattle.std.proofs.Common.{◌≡◌, Some, rules}
use Rattle.syn_grammar.specs.Run.{parse_form}
use Rattle.syn_lower.specs.Parsing.{IsSyntax}
use Rattle.syn_item.specs.ImplForms.{const_head_form, const_head_syntax, member_marks_form, member_marks_syntax}
use Rattle.syn_item.proofs.MemberReads.{const_read}
use Rattle.syn_item.proofs.impls.members.ImplItemConstRead.read.Goals as goal

pub returns-clause-reads : goal.returns-clause-reads
returns-clause-reads c =
    let marks = member_marks_syntax c.in_ok-marks.marks in
    let head = const_head_syntax c.in_ok-head.head in
    let marks_read : parse_form member_marks_form c.args.input.now ≡ Some (marks, c.member_marks.new.input) = search rules in
    let head_read : parse_form const_head_form c.member_marks.new.input ≡ Some (head, c.const_head.new.input) = search rules in
    const_read IsSyntax c.args.input.now c.member_marks.new.input c.const_head.new.input _ _ _ _ _ marks_read head_read c.impl_const_rest.result c.impl_const_rest.new.input c.impl_const_rest.ensures.reads
