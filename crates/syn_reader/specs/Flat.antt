-- A token stream as one list: its tokens at every depth, with the delimiters of its groups.
use Rattle.std.specs.Prelude.{ℕ, Bool, List, [], ◌∷◌, ◌++◌}
use Rattle.syn_grammar.specs.Tokens.{Span, Delimiter, Leaf, Stream, end, leaf, punct, group}

pub data Token : Type 0 where
  one : Leaf → Span → Token  -- an identifier or a literal
  punctuation : ℕ → Bool → Span → Token  -- a character of a mark, joint (true) or alone (false)
  opened : Delimiter → Span → Token
  closed : Delimiter → Span → Token

abbrev pub flat : Stream → List Token
flat end = []
flat (leaf x s m) = one x s ∷ flat m
flat (punct c j s m) = punctuation c j s ∷ flat m
flat (group d o c i m) = opened d o ∷ (flat i ++ (closed d c ∷ flat m))
