use Rattle.syn_reader.proofs.Scans.{byte_literal, byte_character}
use Rattle.syn_reader.proofs.reader.lexer.Lexer.byte.Goals as goal

pub character-requires-clause-begins : goal.character-requires-clause-begins
character-requires-clause-begins c = byte_character _ _ c.requires.begins c.step.ensures.rest

pub character-requires-clause-literal : goal.character-requires-clause-literal
character-requires-clause-literal c = byte_literal _ _ _ c.requires.past.2 c.requires.begins c.step.ensures.rest
