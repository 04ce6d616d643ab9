use Rattle.std.proofs.Common.{◌≡◌, Some, rules}
use Rattle.syn_grammar.specs.Rules.{signature}
use Rattle.syn_grammar.specs.Run.{parse_rule}
use Rattle.syn_lower.specs.Attributes.{attributes_syntax}
use Rattle.syn_lower.specs.Parsing.{IsSyntax}
use Rattle.syn_item.proofs.MemberReads.{bare_read}
use Rattle.syn_item.proofs.traits.parsing.trait_function.Goals as goal

pub returns-clause-reads : goal.returns-clause-reads
returns-clause-reads c =
    let read : parse_rule signature c.args.input.now ≡ Some (c.in_ok-sig.sig, c.read.new.self) = search rules in
    bare_read IsSyntax (attributes_syntax c.args.attrs.items) c.args.input.now c.in_ok-sig.sig c.read.new.self read c.after_trait_signature.result c.after_trait_signature.new.input c.after_trait_signature.ensures.reads
