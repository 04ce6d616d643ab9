use Rattle.std.proofs.Common.{◌≡◌, true, rules}
use Rattle.syn_grammar.specs.Tokens.{at_generics}
use Rattle.syn_grammar.specs.Take.{sees}
use Rattle.syn_lower.specs.Parsing.{IsSyntax}
use Rattle.syn_item.proofs.ImplReads.{generics_read}
use Rattle.syn_item.proofs.impls.parsing.impl_generics.Goals as goal

pub returns-then-at_generics-clause-reads : goal.returns-then-at_generics-clause-reads
returns-then-at_generics-clause-reads c =
    let here : sees at_generics c.args.input.now ≡ true = search rules in
    generics_read IsSyntax c.args.input.now c.read_params.result c.read_params.new.input here c.read_params.ensures.reads
