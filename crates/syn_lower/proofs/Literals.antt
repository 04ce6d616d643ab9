-- Where a literal, `true` or `false` is next.
use Rattle.std.proofs.Common.{◌≡◌, ap, ◌∙◌}
use Rattle.syn_grammar.specs.Words.{w_true, w_false}
use Rattle.syn_grammar.specs.Tokens.{Stream, or, at_word, ◌or_else◌}
use Rattle.syn_grammar.specs.Take.{sees}
use Rattle.syn_grammar.specs.Table.{at_lit}
use Rattle.syn_grammar.proofs.Looks.{sees_or}
use Rattle.syn_parse.specs.FirstTokens.{at_any_literal}

pub literal_seen : (ts : Stream) → sees at_lit ts ≡ or (sees (at_word w_true) ts) (or (sees (at_word w_false) ts) (sees at_any_literal ts))
literal_seen ts =
    sees_or (at_word w_true) (at_word w_false or_else at_any_literal) ts
    ∙ ap (or (sees (at_word w_true) ts)) (sees_or (at_word w_false) at_any_literal ts)
