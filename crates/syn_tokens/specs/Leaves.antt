-- Tokens as syntax.
use Rattle.std.specs.Prelude.{ℕ, Bool, List, [], ◌∷◌, ◌++◌, Option, Some, None}
use Rattle.syn_grammar.specs.Words.{Text, keywords, contextual}
use Rattle.syn_grammar.specs.Tokens.{Span, Leaf, ident, literal, one_of_texts}
use Rattle.syn_grammar.specs.Grammar.{Syntax, Nothing, Token, Mark, Lifetime, Left, Right}
use Rattle.syn_tokens.specs.Spans.{at}
use Rattle.syn_tokens.specs.Idents.{IdentValue}
use Rattle.syn_tokens.specs.Literals.{LiteralValue, kind_of}
use Rattle.syn_tokens.specs.declared.span.Span.{Span as T_Span}

abbrev pub ident_leaf : IdentValue → Leaf
ident_leaf i = ident i.text

abbrev pub literal_leaf : LiteralValue → Leaf
literal_leaf l = literal (kind_of l.kind) l.text

abbrev pub syntax_of_ident : IdentValue → Syntax
syntax_of_ident i = Token (ident_leaf i) (at i.span)

abbrev pub syntax_of_literal : LiteralValue → Syntax
syntax_of_literal l = Token (literal_leaf l) (at l.span)

abbrev pub syntax_of_word : Text → T_Span → Syntax
syntax_of_word x s = Token (ident x) (at s)

-- a `'` and an identifier
abbrev pub syntax_of_apostrophe : T_Span × IdentValue → Syntax
syntax_of_apostrophe p = Lifetime (at p.0) p.1.text (at p.1.span)

-- the characters of a mark, each with its span
abbrev pub placed : Text → List T_Span → List (ℕ × Span)
placed (c ∷ l) (s ∷ m) = (c, at s) ∷ placed l m
placed _ _ = []

abbrev pub syntax_of_mark : Text → List T_Span → Syntax
syntax_of_mark x l = Mark (placed x l)

-- a word that some rule may require
unfoldable pub is_known_word : Text → Bool
is_known_word x = one_of_texts x (keywords ++ contextual)

-- an optional part
abbrev pub maybe : {X : Type 0} → (X → Syntax) → Option X → Syntax
maybe v (Some x) = Left (v x)
maybe v None = Right Nothing
