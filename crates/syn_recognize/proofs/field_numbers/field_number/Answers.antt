use Rattle.std.proofs.Common.{rules, ◌≡◌, Some, slice_get, sym, subst}
use Rattle.syn_recognize.specs.FieldNumbers.{IsFieldNumber}
use Rattle.syn_recognize.proofs.Numbers.{number_read}
use Rattle.syn_recognize.proofs.field_numbers.field_number.Goals as goal

pub returns : goal.returns
returns c =
    let first : slice_get c.args.text.now 0 ≡ Some c.in_ok-first.field-0.now = search rules in
    subst (IsFieldNumber c.args.text.now) (sym c.ok.ensures.value) (number_read c.args.text.now c.in_ok-first.field-0.now c.parse.result c.parse.ensures.value.0 first c.if-first-eq43.false c.if-text-gt1.either)
