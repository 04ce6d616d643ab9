use Rattle.std.proofs.Common.{◌≡◌, true, false, Some, rules}
use Rattle.syn_grammar.specs.Words.{w_for}
use Rattle.syn_grammar.specs.Rules.{type, type_path}
use Rattle.syn_grammar.specs.Grammar.{Node, Right, word}
use Rattle.syn_grammar.specs.Table.{at_for}
use Rattle.syn_grammar.specs.Take.{sees, take_token}
use Rattle.syn_grammar.specs.Run.{parse_rule}
use Rattle.syn_tokens.specs.Kinds.{for_syntax}
use Rattle.syn_lower.specs.Types.{syntax_of_Type}
use Rattle.syn_item.proofs.FirstTypes.{plain_read_as, trait_read}
use Rattle.syn_item.proofs.impls.parsing.after_path.Goals as goal

pub returns-then-not-peek-clause-reads : goal.returns-then-not-peek-clause-reads
returns-then-not-peek-clause-reads c = λ f.
    let m = c.args.input.now in
    let q = c.read.new.self in
    let t = c.in_ok-path.path in
    let y = syntax_of_Type c.in_ok-boxed.boxed.value in
    let path : parse_rule type_path m ≡ Some (t, q) = search rules in
    let none : sees at_for q ≡ false = search rules in
    let plain : y ≡ Node (Right (Right (Right (Right (Right (Right (Node (Right t)))))))) = search rules in
    plain_read_as m t q path none y plain f

pub returns-clause-reads : goal.returns-clause-reads
returns-clause-reads c = λ f.
    let m = c.args.input.now in
    let q = c.read.new.self in
    let n = c.read-2.new.self in
    let z = c.read-3.new.self in
    let t = c.in_ok-path.path in
    let s = for_syntax c.in_ok-for_token.for_token in
    let y = syntax_of_Type c.in_ok-self_ty.self_ty.value in
    let path : parse_rule type_path m ≡ Some (t, q) = search rules in
    let here : sees at_for q ≡ true = search rules in
    let sign : take_token (word w_for) q ≡ Some (s, n) = search rules in
    let ty : parse_rule type n ≡ Some (y, z) = search rules in
    trait_read m t q path here s y n z sign ty f
