use Rattle.std.specs.Str.Iter.{chars_rest}
use Rattle.syn_tokens.proofs.Names.{LooksOn}
use Rattle.syn_tokens.proofs.ident.identifier.all_continue.Given as goal

abbrev pub invariant-loop-character : goal.invariant-loop-character
invariant-loop-character l = LooksOn l.text (chars_rest l.character-iterator)
