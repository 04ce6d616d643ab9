use Rattle.std.proofs.Common.{◌≡◌, ◌<◌, true, false, ◌∷◌, [], ◌++◌, Some, ◌∙◌, ap, rules, arith}
use Rattle.syn_grammar.specs.Rules.{inner_attributes}
use Rattle.syn_grammar.specs.Table.{at_inner_attribute}
use Rattle.syn_grammar.specs.Take.{left, sees}
use Rattle.syn_grammar.specs.Run.{parse_rule, parse_form, wrap}
use Rattle.syn_lower.specs.Attributes.{inner_form, is_inner, syntax_of_Attribute}
use Rattle.syn_lower.proofs.AttributeLists.{in_front, every_grows, read_grows, inner_more, inner_end}
use Rattle.syn_lower.proofs.attr.parsing.inner_attributes.Goals as goal

pub attributes-preserved : goal.attributes-preserved
attributes-preserved c =
    let attrs = c.attributes.attrs.items in
    let attr = c.in_ok-attr.attr in
    let less : left c.inner_attribute.new.input < left c.attributes.input = search rules in
    let seen : sees at_inner_attribute c.attributes.input ≡ true = search rules in
    let got : parse_form inner_form c.attributes.input ≡ Some (syntax_of_Attribute attr, c.inner_attribute.new.input) = search rules in
    let kind : is_inner (syntax_of_Attribute attr) ≡ true = search rules in
    let pushed : c.push.new.self.items ≡ attrs ++ attr ∷ [] = search rules in (
      omega (arith, c.attributes.invariant.0, less),
      rw pushed (every_grows is_inner attrs attr c.attributes.invariant.1 kind),
      rw pushed (c.attributes.invariant.2 ∙ ap (wrap (in_front attrs)) (inner_more c.attributes.input attr c.inner_attribute.new.input seen got) ∙ read_grows attrs attr (parse_rule inner_attributes c.inner_attribute.new.input)),
    )

pub returns-clause-reads : goal.returns-clause-reads
returns-clause-reads c =
    let past : sees at_inner_attribute c.attributes.input ≡ false = search rules in
    c.attributes.invariant.2 ∙ inner_end c.attributes.attrs.items c.attributes.input c.attributes.invariant.1 past
