-- SHORT NAMES FOR FORMS, used in the table.
use Rattle.std.specs.Prelude.{false, true, [], ◌∷◌}
use Rattle.syn_grammar.specs.Words.{Text}
use Rattle.syn_grammar.specs.Tokens.{Fact, every_fact, at_word}
use Rattle.syn_grammar.specs.Grammar.{Kind, word, Grammar, empty, token, mark, when◌then◌else◌, one_of}

-- One token; no other form may test a fact of its lookahead.
abbrev pub plainly : Kind → Grammar
plainly k = token [] k

-- One token; other forms may test this fact of its lookahead.
abbrev pub telling : Fact → Kind → Grammar
telling n k = token (n ∷ []) k

-- One token; other forms may test every fact of its lookahead.
abbrev pub asking : Kind → Grammar
asking k = token every_fact k

-- A mark; no other form may test a fact of its lookahead.
abbrev pub punctuation : Text → Grammar
punctuation x = mark false x

-- A mark; other forms may test the facts of its last character's lookahead.
abbrev pub asking_punctuation : Text → Grammar
asking_punctuation x = mark true x

-- The form that reads no stream, not even the empty one: it refuses.
abbrev pub never : Grammar
never = one_of []

-- A word if it is next, or nothing; no other form may test a fact of its lookahead.
abbrev pub optional : Text → Grammar
optional x = when at_word x then plainly (word x) else empty
