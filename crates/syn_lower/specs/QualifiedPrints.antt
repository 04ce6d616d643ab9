-- WHAT IS PRINTED OF THE WORDS OF A QUALIFIED PATH: some of them, `>` after the last of these, and the others.
use Rattle.std.specs.Prelude.{ℕ, ◌-◌, nat_eq, List, [], ◌∷◌, Option, Some, None}
use Rattle.syn_grammar.specs.Tokens.{Stream, end, ◌⧺◌, pick}
use Rattle.syn_grammar.specs.Grammar.{Syntax, print}

-- a word, and `>` after it where it is the last one inside
unfoldable pub word_part : {T : Type 0} → (T → Syntax) → Stream → ℕ → T → Stream
word_part view gt n t = print (view t) ⧺ pick (nat_eq n 1) gt end

module _ {T P : Type 0} (view : T → Syntax) (separator_view : P → Syntax) (gt : Stream) where
  -- so many words inside
  abbrev pub words_row : ℕ → List (T × P) → Option T → Stream
  words_row n [] None = end
  words_row n [] (Some t) = word_part view gt n t
  words_row n (x ∷ l) o = word_part view gt n x.0 ⧺ (print (separator_view x.1) ⧺ words_row (n - 1) l o)
