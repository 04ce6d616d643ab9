-- The next token.
use Rattle.std.specs.Prelude.{◌≡◌, Bool, true, false, List, [], ◌∷◌, None}
use Rattle.syn_grammar.specs.Words.{Text, w_self, w_Self_type, w_super, w_crate}
use Rattle.syn_grammar.specs.Tokens.{Stream, Str, ByteStr, CStr, Byte, Char, Int, Float, Look, at_literal, ◌or_else◌}
use Rattle.syn_grammar.specs.Grammar.{Kind, name, identifier, word, name_or, literal_of, index}
use Rattle.syn_grammar.specs.Take.{Chars, take_token, take_chars, take_lifetime}

-- the keywords that are allowed in paths
abbrev pub path_words : List Text
path_words = w_self ∷ w_Self_type ∷ w_super ∷ w_crate ∷ []

-- the next token is a literal of some kind
abbrev pub at_any_literal : Look
at_any_literal = at_literal Str or_else at_literal ByteStr or_else at_literal CStr or_else at_literal Byte or_else at_literal Char or_else at_literal Int or_else at_literal Float

-- the characters of a mark, with their spans, and the tokens after them
unfoldable pub spelled : Text → Stream → Chars
spelled x ts = take_chars x ts

-- WHAT IS NOT NEXT

-- tokens of this kind are identifiers
abbrev pub is_of_idents : Kind → Bool
is_of_idents name = true
is_of_idents identifier = true
is_of_idents (word x) = true
is_of_idents (name_or l) = true
is_of_idents _ = false

abbrev pub is_of_literals : Kind → Bool
is_of_literals (literal_of l) = true
is_of_literals index = true
is_of_literals _ = false

-- not an identifier; not a literal; not a character of a mark
abbrev pub NoIdent : Stream → Type 0
NoIdent ts = (k : Kind) → is_of_idents k ≡ true → take_token k ts ≡ None

abbrev pub NoLiteral : Stream → Type 0
NoLiteral ts = (k : Kind) → is_of_literals k ≡ true → take_token k ts ≡ None

abbrev pub NoPunct : Stream → Type 0
NoPunct ts = ((x : Text) → spelled x ts ≡ None) × (take_lifetime ts ≡ None)
