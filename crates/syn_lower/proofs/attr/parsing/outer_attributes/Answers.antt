use Rattle.std.proofs.Common.{◌≡◌, ◌<◌, true, false, ◌∷◌, [], ◌++◌, Some, ◌∙◌, ap, rules, arith}
use Rattle.syn_grammar.specs.Rules.{attributes}
use Rattle.syn_grammar.specs.Table.{at_pound}
use Rattle.syn_grammar.specs.Take.{left, sees}
use Rattle.syn_grammar.specs.Run.{parse_rule, parse_form, wrap}
use Rattle.syn_lower.specs.Attributes.{outer_form, is_outer, syntax_of_Attribute}
use Rattle.syn_lower.proofs.AttributeLists.{in_front, every_grows, read_grows, outer_more, outer_end, all_outer}
use Rattle.syn_lower.proofs.attr.parsing.outer_attributes.Goals as goal

pub attributes-preserved : goal.attributes-preserved
attributes-preserved c =
    let attrs = c.attributes.attrs.items in
    let attr = c.in_ok-attr.attr in
    let less : left c.outer_attribute.new.input < left c.attributes.input = search rules in
    let seen : sees at_pound c.attributes.input ≡ true = search rules in
    let got : parse_form outer_form c.attributes.input ≡ Some (syntax_of_Attribute attr, c.outer_attribute.new.input) = search rules in
    let kind : is_outer (syntax_of_Attribute attr) ≡ true = search rules in
    let pushed : c.push.new.self.items ≡ attrs ++ attr ∷ [] = search rules in (
      omega (arith, c.attributes.invariant.0, less),
      rw pushed (every_grows is_outer attrs attr c.attributes.invariant.1 kind),
      rw pushed (c.attributes.invariant.2 ∙ ap (wrap (in_front attrs)) (outer_more c.attributes.input attr c.outer_attribute.new.input seen got) ∙ read_grows attrs attr (parse_rule attributes c.outer_attribute.new.input)),
    )

pub returns-clause-reads : goal.returns-clause-reads
returns-clause-reads c =
    let past : sees at_pound c.attributes.input ≡ false = search rules in
    c.attributes.invariant.2 ∙ outer_end c.attributes.attrs.items c.attributes.input c.attributes.invariant.1 past

pub returns-clause-all : goal.returns-clause-all
returns-clause-all c = all_outer c.attributes.attrs.items c.attributes.invariant.1
