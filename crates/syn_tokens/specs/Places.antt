-- The trees of a stream by their indices.
use Rattle.std.specs.Prelude.{ℕ, zero, suc}
use Rattle.syn_grammar.specs.Tokens.{Stream, end, leaf, punct, group}

-- the tree at this index, counted from 0; nothing if there is no such tree
abbrev pub place : ℕ → Stream → Stream
place n end = end
place zero (leaf x sp m) = leaf x sp end
place zero (punct c j sp m) = punct c j sp end
place zero (group d o c i m) = group d o c i end
place (suc n) (leaf x sp m) = place n m
place (suc n) (punct c j sp m) = place n m
place (suc n) (group d o c i m) = place n m

-- the trees after the first so many
abbrev pub after : ℕ → Stream → Stream
after zero ts = ts
after (suc n) end = end
after (suc n) (leaf x sp m) = after n m
after (suc n) (punct c j sp m) = after n m
after (suc n) (group d o c i m) = after n m
