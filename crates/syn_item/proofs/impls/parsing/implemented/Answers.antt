use Rattle.std.proofs.Common.{◌≡◌, false, Some, rules}
use Rattle.syn_grammar.specs.Tokens.{Stream}
use Rattle.syn_grammar.specs.Rules.{type}
use Rattle.syn_grammar.specs.Table.{at_exclamation, at_module_path}
use Rattle.syn_grammar.specs.Take.{Out, sees}
use Rattle.syn_grammar.specs.Run.{parse_rule, wrap}
use Rattle.syn_lower.specs.Types.{syntax_of_Type}
use Rattle.syn_item.specs.ImplForms.{types_then}
use Rattle.syn_item.specs.Impls.{inherent}
use Rattle.syn_item.proofs.OtherTypes.{other_read}
use Rattle.syn_item.proofs.impls.parsing.implemented.Goals as goal

pub returns-clause-reads : goal.returns-clause-reads
returns-clause-reads c =
    let m = c.args.input.now in
    let t = syntax_of_Type c.in_ok-self_ty.self_ty.value in
    let r = c.read.new.self in
    let no_bang : sees at_exclamation m ≡ false = search rules in
    let no_path : sees at_module_path m ≡ false = search rules in
    let type_read : parse_rule type m ≡ Some (t, r) = search rules in
    let made : (f : Stream → Out) → types_then f m ≡ wrap (inherent t) (f r) = λ f. other_read m no_bang no_path t r type_read f in
    search (rules, made)
