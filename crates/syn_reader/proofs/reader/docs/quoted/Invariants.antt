use Rattle.std.proofs.Common.{◌≡◌, ◌++◌, codes, IsUtf8, chars, string_bytes}
use Rattle.std.specs.Str.Iter.{chars_rest}
use Rattle.syn_reader.specs.Docs.{all_escaped, quoted}
use Rattle.syn_reader.proofs.reader.docs.quoted.Given as goal

abbrev pub invariant-loop-character : goal.invariant-loop-character
invariant-loop-character l = IsUtf8 (chars_rest l.character-iterator)
    × (string_bytes l.literal ++ (all_escaped (chars (chars_rest l.character-iterator)) ++ codes "\"") ≡ quoted (chars l.text))
