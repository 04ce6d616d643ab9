use Rattle.std.proofs.Common.{◌≡◌, drop}
use Rattle.syn_grammar.specs.Tokens.{end}
use Rattle.syn_grammar.specs.Grammar.{spell}
use Rattle.syn_tokens.specs.Building.{added}
use Rattle.syn_tokens.specs.Leaves.{placed}
use Rattle.syn_tokens.proofs.token.custom.CustomPunctuationPrint.print_in.Given as goal

abbrev pub invariant-loop-i : goal.invariant-loop-i
invariant-loop-i g l =
    (added l.out (spell (drop l.i (placed g.K.CustomPunctuationKind.text l.self.spans)) end)
    ≡ added l.initial.out (spell (placed g.K.CustomPunctuationKind.text l.self.spans) end))
    × (l.out.before ≡ l.initial.out.before)
