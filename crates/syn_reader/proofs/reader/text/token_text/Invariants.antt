use Rattle.std.proofs.Common.{◌≡◌, ◌++◌, drop, string_bytes}
use Rattle.syn_reader.specs.Texts.{text_of}
use Rattle.syn_reader.specs.EntryTexts.{entries_text}
use Rattle.syn_reader.proofs.reader.text.token_text.Given as goal

abbrev pub invariant-loop-entry : goal.invariant-loop-entry
invariant-loop-entry l = string_bytes l.writer.text ++ entries_text l.writer.glued (drop l.entry-index l.entry-items) ≡ text_of l.tokens
