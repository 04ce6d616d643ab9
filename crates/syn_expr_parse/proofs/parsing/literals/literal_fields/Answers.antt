use Rattle.std.proofs.Common.{◌≡◌, ◌<◌, ◌≤◌, true, false, None, Some, ap, ◌∙◌, rules, arith}
use Rattle.syn_grammar.specs.Tokens.{ended}
use Rattle.syn_grammar.specs.Rules.{literal_field, literal_fields}
use Rattle.syn_grammar.specs.Grammar.{Nothing, Both, Left, Right, Node}
use Rattle.syn_grammar.specs.Table.{at_comma, at_dots}
use Rattle.syn_grammar.specs.Words.{comma}
use Rattle.syn_grammar.specs.Take.{left, sees, take_mark}
use Rattle.syn_grammar.specs.Run.{parse_form, parse_rule, wrap}
use Rattle.syn_tokens.specs.Kinds.{comma_syntax, dot_dot_syntax}
use Rattle.syn_expr_parse.specs.StructLiterals.{base_alone, base_form, fields_before}
use Rattle.syn_expr_parse.proofs.StructLiterals.{all_fields, fields_grow, literal_base, literal_end, literal_last, literal_more, literal_no_comma}
use Rattle.syn_expr_parse.proofs.parsing.literals.literal_fields.Goals as goal

pub returns-in_err-dot2_token-clause-reads : goal.returns-in_err-dot2_token-clause-reads
returns-in_err-dot2_token-clause-reads g c =
    let f = fields_before g.N.Trees.Trees.field_syntax comma_syntax c.fields.list.pairs in
    let ts = c.fields.input in
    let more : sees ended ts ≡ false = search rules in
    let dots : sees at_dots ts ≡ true = search rules in
    search (rules, literal_base f ts more dots)

pub returns-then-peek-clause-reads : goal.returns-then-peek-clause-reads
returns-then-peek-clause-reads g c =
    let v = g.N.Trees.Trees.field_syntax in
    let f = fields_before v comma_syntax c.fields.list.pairs in
    let ts = c.fields.input in
    let m = c.base.new.input in
    let d = dot_dot_syntax c.in_ok-dot2_token.dot2_token in
    let e = Node (g.N.Trees.Trees.expr_syntax c.in_ok-dot2_token.rest.value) in
    let more : sees ended ts ≡ false = search rules in
    let dots : sees at_dots ts ≡ true = search rules in
    let got : parse_form base_form ts ≡ Some (Both d e, m) = search rules in
    rw (c.fields.invariant.1) (c.fields.invariant.2 ∙ literal_base f ts more dots ∙ ap (wrap (λ s. f (base_alone s))) got ∙ ap (λ s. Some (s, m)) (all_fields v comma_syntax c.fields.list.pairs None (Left d) (Left e)))

pub returns-then-not-peek-clause-reads : goal.returns-then-not-peek-clause-reads
returns-then-not-peek-clause-reads g c =
    let v = g.N.Trees.Trees.field_syntax in
    let f = fields_before v comma_syntax c.fields.list.pairs in
    let ts = c.fields.input in
    let m = c.field.new.input in
    let x = c.in_ok-field.field in
    let more : sees ended ts ≡ false = search rules in
    let no_base : sees at_dots ts ≡ false = search rules in
    let got : parse_rule literal_field ts ≡ Some (v x, m) = search rules in
    let none : sees at_comma m ≡ false = search rules in
    rw (c.in_ok-push_value.ensures.ok) (c.fields.invariant.2 ∙ literal_last f ts more no_base (v x) m got none ∙ ap (λ s. Some (s, m)) (all_fields v comma_syntax c.fields.list.pairs (Some x) (Right Nothing) (Right Nothing)))

pub returns-in_err-comma-clause-reads : goal.returns-in_err-comma-clause-reads
returns-in_err-comma-clause-reads g c =
    let v = g.N.Trees.Trees.field_syntax in
    let f = fields_before v comma_syntax c.fields.list.pairs in
    let ts = c.fields.input in
    let m = c.field.new.input in
    let x = c.in_ok-field.field in
    let more : sees ended ts ≡ false = search rules in
    let no_base : sees at_dots ts ≡ false = search rules in
    let got : parse_rule literal_field ts ≡ Some (v x, m) = search rules in
    let next : sees at_comma m ≡ true = search rules in
    search (rules, literal_no_comma f ts more no_base (v x) m got next)

pub fields-preserved : goal.fields-preserved
fields-preserved g c =
    let v = g.N.Trees.Trees.field_syntax in
    let f = fields_before v comma_syntax c.fields.list.pairs in
    let ts = c.fields.input in
    let m = c.field.new.input in
    let x = c.in_ok-field.field in
    let q = c.in_ok-comma.comma in
    let n = c.read.new.self in
    let less : left m < left ts = search rules in
    let lesser : left n ≤ left m = search rules in
    let pushed = c.in_ok-push_pair.ensures.ok in
    let more : sees ended ts ≡ false = search rules in
    let no_base : sees at_dots ts ≡ false = search rules in
    let got : parse_rule literal_field ts ≡ Some (v x, m) = search rules in
    let next : sees at_comma m ≡ true = search rules in
    let sign : take_mark comma m ≡ Some (comma_syntax q, n) = search rules in (
      omega (arith, c.fields.invariant.0, less, lesser),
      ap (λ s. s.last) pushed,
      rw pushed (c.fields.invariant.2 ∙ literal_more f ts more no_base (v x) m got (comma_syntax q) n next sign ∙ fields_grow v comma_syntax c.fields.list.pairs (x, q) (parse_rule literal_fields n)),
    )

pub returns-clause-reads : goal.returns-clause-reads
returns-clause-reads g c =
    let v = g.N.Trees.Trees.field_syntax in
    let done : sees ended c.fields.input ≡ true = search rules in
    rw (c.fields.invariant.1)
    (c.fields.invariant.2 ∙ literal_end (fields_before v comma_syntax c.fields.list.pairs) c.fields.input done ∙ ap (λ s. Some (s, c.fields.input)) (all_fields v comma_syntax c.fields.list.pairs None (Right Nothing) (Right Nothing)))
