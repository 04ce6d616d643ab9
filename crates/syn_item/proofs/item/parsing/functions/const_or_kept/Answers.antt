use Rattle.std.proofs.Common.{◌≡◌, true, false, Some, rules}
use Rattle.syn_grammar.specs.Tokens.{Stream}
use Rattle.syn_grammar.specs.Words.{colon, equals, w_const}
use Rattle.syn_grammar.specs.Rules.{kept_item, type, whole_expression}
use Rattle.syn_grammar.specs.Forms.{punctuation}
use Rattle.syn_grammar.specs.Table.{at_equals, at_less, at_semicolon, item_word, name_or_underscore}
use Rattle.syn_grammar.specs.Take.{sees}
use Rattle.syn_grammar.specs.Run.{parse_form, parse_rule}
use Rattle.syn_grammar.specs.Plan.{run_plan}
use Rattle.syn_tokens.specs.Kinds.{colon_syntax, const_syntax, eq_syntax}
use Rattle.syn_tokens.specs.Leaves.{syntax_of_ident}
use Rattle.syn_lower.specs.Attributes.{attributes_syntax}
use Rattle.syn_lower.specs.Types.{syntax_of_Type}
use Rattle.syn_tree.specs.Restriction.{syntax_of_Visibility}
use Rattle.syn_item.specs.ItemTurns.{const_or_kept_turn}
use Rattle.syn_item.specs.Planned.{OnlyKept}
use Rattle.syn_item.proofs.ItemPlans.{clause_kept, generics_kept, value_kept}
use Rattle.syn_item.proofs.item.parsing.functions.const_or_kept.Goals as goal

pub returns-then-peek : goal.returns-then-peek
returns-then-peek c =
    let a = attributes_syntax c.args.begun.attrs.items in
    let v = syntax_of_Visibility c.args.begun.vis in
    let m = c.args.input.now in
    let k = const_syntax c.in_ok-const_token.const_token in
    let n = syntax_of_ident c.in_ok-ident.ident in
    let r = c.read.new.self in
    let q = c.name_or.new.input in
    let word_read : parse_form (item_word w_const) m ≡ Some (k, r) = search rules in
    let name_read : parse_form name_or_underscore r ≡ Some (n, q) = search rules in
    let here : sees at_less q ≡ true = search rules in
    let kept : (ts : Stream) → OnlyKept kept_item ts (run_plan (const_or_kept_turn a v) kept_item ts m) = λ ts. generics_kept kept_item ts a v k n m r q word_read name_read here in
    search (rules, kept)

pub returns-then-not-peek : goal.returns-then-not-peek
returns-then-not-peek c =
    let a = attributes_syntax c.args.begun.attrs.items in
    let v = syntax_of_Visibility c.args.begun.vis in
    let m = c.args.input.now in
    let k = const_syntax c.in_ok-const_token.const_token in
    let n = syntax_of_ident c.in_ok-ident.ident in
    let r = c.read.new.self in
    let q = c.name_or.new.input in
    let word_read : parse_form (item_word w_const) m ≡ Some (k, r) = search rules in
    let name_read : parse_form name_or_underscore r ≡ Some (n, q) = search rules in
    let s = colon_syntax c.in_ok-colon_token.colon_token in
    let t = syntax_of_Type c.in_ok-ty.ty.value in
    let q1 = c.read-2.new.self in
    let q2 = c.read-3.new.self in
    let no_less : sees at_less q ≡ false = search rules in
    let colon_read : parse_form (punctuation colon) q ≡ Some (s, q1) = search rules in
    let type_read : parse_rule type q1 ≡ Some (t, q2) = search rules in
    let no_value : sees at_equals q2 ≡ false = search rules in
    let kept : (ts : Stream) → OnlyKept kept_item ts (run_plan (const_or_kept_turn a v) kept_item ts m) = λ ts. value_kept kept_item ts a v k n m r q word_read name_read s t q1 q2 no_less colon_read type_read no_value in
    search (rules, kept)

pub returns-then-not-peek-2 : goal.returns-then-not-peek-2
returns-then-not-peek-2 c =
    let a = attributes_syntax c.args.begun.attrs.items in
    let v = syntax_of_Visibility c.args.begun.vis in
    let m = c.args.input.now in
    let k = const_syntax c.in_ok-const_token.const_token in
    let n = syntax_of_ident c.in_ok-ident.ident in
    let r = c.read.new.self in
    let q = c.name_or.new.input in
    let word_read : parse_form (item_word w_const) m ≡ Some (k, r) = search rules in
    let name_read : parse_form name_or_underscore r ≡ Some (n, q) = search rules in
    let s = colon_syntax c.in_ok-colon_token.colon_token in
    let t = syntax_of_Type c.in_ok-ty.ty.value in
    let q1 = c.read-2.new.self in
    let q2 = c.read-3.new.self in
    let no_less : sees at_less q ≡ false = search rules in
    let colon_read : parse_form (punctuation colon) q ≡ Some (s, q1) = search rules in
    let type_read : parse_rule type q1 ≡ Some (t, q2) = search rules in
    let x = eq_syntax c.in_ok-eq_token.eq_token in
    let q3 = c.read-4.new.self in
    let q4 = c.read-5.new.self in
    let here : sees at_equals q2 ≡ true = search rules in
    let equals_read : parse_form (punctuation equals) q2 ≡ Some (x, q3) = search rules in
    let value_read : parse_rule whole_expression q3 ≡ Some (c.in_ok-expr.expr, q4) = search rules in
    let no_end : sees at_semicolon q4 ≡ false = search rules in
    let kept : (ts : Stream) → OnlyKept kept_item ts (run_plan (const_or_kept_turn a v) kept_item ts m) = λ ts. clause_kept kept_item ts a v k n m r q word_read name_read s t q1 q2 no_less colon_read type_read x c.in_ok-expr.expr q3 q4 here equals_read value_read no_end in
    search (rules, kept)
