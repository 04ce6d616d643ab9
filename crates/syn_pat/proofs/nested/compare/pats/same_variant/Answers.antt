use Rattle.std.proofs.Common.{rules, ap}
use Rattle.syn_pat.specs.Patterns.{syntax_of_Pat}
use Rattle.syn_pat.proofs.PatternLists.{before_typed}
use Rattle.syn_pat.proofs.nested.compare.pats.same_variant.Goals as goal

pub returns-in-Ident-Ty : goal.returns-in-Ident-Ty
returns-in-Ident-Ty g c =
    let same = before_typed c.args.pat.now c.args.other.now c.in-Ident-Ty.b _ c.is_untyped.result (ap syntax_of_Pat c.in-Ident-Ty.is-0) (ap syntax_of_Pat c.in-Ident-Ty.is-1) c.is_untyped.ensures.turned in
    search (rules, same)

pub returns-in-Paren-Ty : goal.returns-in-Paren-Ty
returns-in-Paren-Ty g c =
    let same = before_typed c.args.pat.now c.args.other.now c.in-Paren-Ty.b _ c.is_untyped-in-Paren-Ty.result (ap syntax_of_Pat c.in-Paren-Ty.is-0) (ap syntax_of_Pat c.in-Paren-Ty.is-1) c.is_untyped-in-Paren-Ty.ensures.turned in
    search (rules, same)

pub returns-in-Path-Ty : goal.returns-in-Path-Ty
returns-in-Path-Ty g c =
    let same = before_typed c.args.pat.now c.args.other.now c.in-Path-Ty.b _ c.is_untyped-in-Path-Ty.result (ap syntax_of_Pat c.in-Path-Ty.is-0) (ap syntax_of_Pat c.in-Path-Ty.is-1) c.is_untyped-in-Path-Ty.ensures.turned in
    search (rules, same)

pub returns-in-Tuple-Ty : goal.returns-in-Tuple-Ty
returns-in-Tuple-Ty g c =
    let same = before_typed c.args.pat.now c.args.other.now c.in-Tuple-Ty.b _ c.is_untyped-in-Tuple-Ty.result (ap syntax_of_Pat c.in-Tuple-Ty.is-0) (ap syntax_of_Pat c.in-Tuple-Ty.is-1) c.is_untyped-in-Tuple-Ty.ensures.turned in
    search (rules, same)

pub returns-in-TupleStruct-Ty : goal.returns-in-TupleStruct-Ty
returns-in-TupleStruct-Ty g c =
    let same = before_typed c.args.pat.now c.args.other.now c.in-TupleStruct-Ty.b _ c.is_untyped-in-TupleStruct-Ty.result (ap syntax_of_Pat c.in-TupleStruct-Ty.is-0) (ap syntax_of_Pat c.in-TupleStruct-Ty.is-1) c.is_untyped-in-TupleStruct-Ty.ensures.turned in
    search (rules, same)

pub returns-in-Wild-Ty : goal.returns-in-Wild-Ty
returns-in-Wild-Ty g c =
    let same = before_typed c.args.pat.now c.args.other.now c.in-Wild-Ty.b _ c.is_untyped-in-Wild-Ty.result (ap syntax_of_Pat c.in-Wild-Ty.is-0) (ap syntax_of_Pat c.in-Wild-Ty.is-1) c.is_untyped-in-Wild-Ty.ensures.turned in
    search (rules, same)
