use Rattle.std.proofs.Common.{◌≡◌, false, sym, ap, ◌∙◌}
use Rattle.syn_grammar.specs.Grammar.{is_index}
use Rattle.syn_tokens.specs.Spans.{at}
use Rattle.syn_recognize.proofs.Numbers.{no_index_taken}
use Rattle.syn_recognize.proofs.token.copy_index.Goals as goal

pub returns : goal.returns
returns c r =
    let l = c.in_ok-literal.literal in
    let none : is_index l.text ≡ false = ap is_index (sym c.text.ensures) ∙ c.in-None.ensures in
    no_index_taken c.args.input.now l.kind l.text (at l.span) _ c.in_ok-literal.ensures.reads none
