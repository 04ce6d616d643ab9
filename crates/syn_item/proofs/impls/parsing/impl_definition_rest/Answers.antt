use Rattle.std.proofs.Common.{◌≡◌, Some, rules}
use Rattle.syn_grammar.specs.Words.{w_const, w_default, w_impl, w_unsafe}
use Rattle.syn_grammar.specs.Grammar.{word}
use Rattle.syn_grammar.specs.Table.{optional_item_word}
use Rattle.syn_grammar.specs.Take.{take_token}
use Rattle.syn_grammar.specs.Run.{parse_form}
use Rattle.syn_tokens.specs.Kinds.{const_syntax, default_syntax, impl_syntax, unsafe_syntax}
use Rattle.syn_tokens.specs.Leaves.{maybe}
use Rattle.syn_lower.specs.Attributes.{attributes_syntax}
use Rattle.syn_lower.specs.Parsing.{IsSyntax}
use Rattle.syn_item.proofs.ImplReads.{definition_read}
use Rattle.syn_item.proofs.impls.parsing.impl_definition_rest.Goals as goal

pub returns-clause-reads : goal.returns-clause-reads
returns-clause-reads c =
    let m = c.args.input.now in
    let d = maybe default_syntax c.in_ok-defaultness.defaultness in
    let k = maybe const_syntax c.in_ok-constness.constness in
    let u = maybe unsafe_syntax c.in_ok-unsafety.unsafety in
    let i = impl_syntax c.in_ok-impl_token.impl_token in
    let m1 = c.read.new.self in
    let m2 = c.read-2.new.self in
    let m3 = c.read-3.new.self in
    let m4 = c.read-4.new.self in
    let default_read : parse_form (optional_item_word w_default) m ≡ Some (d, m1) = search rules in
    let const_read : parse_form (optional_item_word w_const) m1 ≡ Some (k, m2) = search rules in
    let unsafe_read : parse_form (optional_item_word w_unsafe) m2 ≡ Some (u, m3) = search rules in
    let word_read : take_token (word w_impl) m3 ≡ Some (i, m4) = search rules in
    definition_read IsSyntax (attributes_syntax c.args.attrs.items) d k u i m m1 m2 m3 m4 default_read const_read unsafe_read word_read c.after_impl.result c.after_impl.new.input c.after_impl.ensures.reads
