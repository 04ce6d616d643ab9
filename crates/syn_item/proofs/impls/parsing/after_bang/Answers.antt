use Rattle.std.proofs.Common.{◌≡◌, true, false, Some, rules}
use Rattle.syn_grammar.specs.Words.{exclamation, w_for}
use Rattle.syn_grammar.specs.Rules.{type, type_path}
use Rattle.syn_grammar.specs.Grammar.{word}
use Rattle.syn_grammar.specs.Table.{at_brace}
use Rattle.syn_grammar.specs.Take.{sees, take_mark, take_token}
use Rattle.syn_grammar.specs.Run.{parse_rule}
use Rattle.syn_tokens.specs.Kinds.{for_syntax, not_syntax}
use Rattle.syn_lower.specs.Types.{syntax_of_Type}
use Rattle.syn_item.proofs.FirstTypes.{negative_read}
use Rattle.syn_item.proofs.impls.parsing.after_bang.Goals as goal

pub returns-clause-reads : goal.returns-clause-reads
returns-clause-reads c = λ f.
    let m = c.args.input.now in
    let r = c.read.new.self in
    let q = c.read-2.new.self in
    let n = c.for_after_bang.new.input in
    let z = c.read-3.new.self in
    let x = not_syntax c.in_ok-bang_token.bang_token in
    let t = c.in_ok-path.path in
    let s = for_syntax c.in_ok-for_token.for_token in
    let y = syntax_of_Type c.in_ok-self_ty.self_ty.value in
    let bang : take_mark exclamation m ≡ Some (x, r) = search rules in
    let open_none : sees at_brace r ≡ false = search rules in
    let path : parse_rule type_path r ≡ Some (t, q) = search rules in
    let sign : take_token (word w_for) q ≡ Some (s, n) = search rules in
    let ty : parse_rule type n ≡ Some (y, z) = search rules in
    negative_read m x r bang open_none t q path s y n z sign ty f
