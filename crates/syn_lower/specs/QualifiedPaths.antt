-- THE SYNTAX OF A PATH WITH A TYPE IN `< >` BEFORE IT.
-- A Rust value holds the words of the trait and the words after `>` as one path, and says how many are inside of the `< >`.
use Rattle.std.specs.Prelude.{ℕ, zero, suc, [], ◌∷◌}
use Rattle.syn_grammar.specs.Tokens.{call_site}
use Rattle.syn_grammar.specs.Grammar.{Syntax, Nothing, Mark, Both, Left, Right, Node, Unshown}

-- a number that is never printed
abbrev pub count : ℕ → Syntax
count n = Unshown (Mark ((n, call_site) ∷ []))

-- by how many a position lies after the last word, which counts as it
abbrev pub surplus : ℕ → Syntax
surplus zero = Nothing
surplus (suc n) = count (suc n)

-- an optional part, without saying that it is one
abbrev pub part : Syntax → Syntax
part (Left s) = s
part (Right s) = s
part s = s

-- Words, each followed by the `::`: the first one and n more, or as many as there are; the `::` after them; the others.
abbrev pub words_in : ℕ → Syntax → Syntax
words_in zero (Node (Both s (Left (Both colons l)))) = Node (Both s (Right Nothing))
words_in (suc n) (Node (Both s (Left (Both colons Nothing)))) = Node (Both s (Right Nothing))
words_in (suc n) (Node (Both s (Left (Both colons l)))) = Node (Both s (Left (Both colons (words_in n l))))
words_in n s = s

abbrev pub separator_after : ℕ → Syntax → Syntax
separator_after zero (Node (Both s (Left (Both colons l)))) = colons
separator_after (suc n) (Node (Both s (Left (Both colons Nothing)))) = colons
separator_after (suc n) (Node (Both s (Left (Both colons l)))) = separator_after n l
separator_after n s = Nothing

abbrev pub words_after : ℕ → Syntax → Syntax
words_after zero (Node (Both s (Left (Both colons l)))) = l
words_after (suc n) (Node (Both s (Left (Both colons Nothing)))) = surplus (suc n)
words_after (suc n) (Node (Both s (Left (Both colons l)))) = words_after n l
words_after n s = surplus n

-- What follows the type: `as` and a path inside of the `< >`, `>`, `::` and words. Without a word inside no `as` is printed,
-- and the `::` is the one before the path.
abbrev pub qualified : ℕ → Syntax → Syntax → Syntax → Syntax → Syntax
qualified zero as_token gt leading words = Both (Right (Unshown (part as_token))) (Both gt (Both (part leading) words))
qualified (suc n) as_token gt leading Nothing = Both (Right (Unshown (part as_token))) (Both gt (Both (part leading) (surplus (suc n))))
qualified (suc n) as_token gt leading words = Both (Left (Both (part as_token) (Node (Both leading (words_in n words))))) (Both gt (Both (separator_after n words) (words_after n words)))

-- of what a value holds: the part in `< >`, and the path
abbrev pub after_type : Syntax → Syntax → Syntax
after_type (Both lt (Both ty (Both (Unshown (Mark ((n, sp) ∷ []))) (Both as_token gt)))) (Node (Both leading words)) = qualified n as_token gt leading words
after_type qself path = Both qself path

abbrev pub with_qself : Syntax → Syntax → Syntax
with_qself qself path = Node (Both (Left qself) path)

-- a path as a type, of what a value holds: perhaps a type in `< >`, and a path
abbrev pub syntax_of_TypePath : Syntax → Syntax
syntax_of_TypePath (Node (Both (Left (Both lt (Both ty (Both (Unshown (Mark ((n, sp) ∷ []))) (Both as_token gt))))) (Node (Both leading words)))) =
    Node (Left (Node (Both lt (Both ty (qualified n as_token gt leading words)))))
syntax_of_TypePath (Node (Both (Right Nothing) path)) = Node (Right path)
syntax_of_TypePath s = s
