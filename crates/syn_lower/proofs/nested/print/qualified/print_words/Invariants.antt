use Rattle.std.proofs.Common.{◌≡◌, drop}
use Rattle.syn_grammar.specs.Grammar.{print}
use Rattle.syn_tokens.specs.Building.{added}
use Rattle.syn_tokens.specs.Kinds.{gt_syntax}
use Rattle.syn_lower.specs.QualifiedPrints.{words_row}
use Rattle.syn_lower.proofs.nested.print.qualified.print_words.Given as goal

abbrev pub invariant-loop-word : goal.invariant-loop-word
invariant-loop-word g l =
    (added l.out (words_row g.T.Syntactic.syntax g.P.Syntactic.syntax (print (gt_syntax l.gt_token)) l.left (drop l.word-index l.word-items) l.words.last)
    ≡ added l.initial.out (words_row g.T.Syntactic.syntax g.P.Syntactic.syntax (print (gt_syntax l.initial.gt_token)) l.initial.inside l.words.pairs l.words.last))
    × (l.out.before ≡ l.initial.out.before)
