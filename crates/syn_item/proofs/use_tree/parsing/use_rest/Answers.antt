use Rattle.std.proofs.Common.{◌≡◌, Some, sym, subst, rules}
use Rattle.syn_grammar.specs.Rules.{visibility}
use Rattle.syn_grammar.specs.Run.{parse_rule}
use Rattle.syn_lower.specs.Attributes.{attributes_syntax}
use Rattle.syn_lower.specs.Parsing.{Computes, IsSyntax, itself}
use Rattle.syn_tree.specs.Restriction.{syntax_of_Visibility}
use Rattle.syn_item.proofs.Uses.{after_visibility}
use Rattle.syn_item.proofs.use_tree.parsing.use_rest.Goals as goal

pub returns-clause-reads : goal.returns-clause-reads
returns-clause-reads c =
    let a = attributes_syntax c.args.attrs.items in
    let v = syntax_of_Visibility c.in_ok-vis.vis in
    let vis : parse_rule visibility c.args.input.now ≡ Some (v, c.read.new.self) = search rules in
    subst (λ o. Computes IsSyntax itself o c.use_item.result c.use_item.new.input) (sym (after_visibility a v c.args.input.now c.read.new.self vis)) c.use_item.ensures.reads
