-- THE TOKENS AFTER THE NEXT TREE; a lifetime counts as one tree.
use Rattle.std.specs.Prelude.{ℕ, Bool, true, false, nat_eq}
use Rattle.syn_grammar.specs.Tokens.{Stream, end, leaf, punct, group, ident, pick}

-- after a `'` that is joint to an identifier, that identifier is skipped too
abbrev pub past_joined : Stream → Stream
past_joined (leaf (ident x) sp m) = m
past_joined ts = ts

abbrev pub past_mark : ℕ → Bool → Stream → Stream
past_mark c true m = pick (nat_eq c 39) (past_joined m) m
past_mark c false m = m

abbrev pub past : Stream → Stream
past end = end
past (leaf x sp m) = m
past (punct c j sp m) = past_mark c j m
past (group d o c i m) = m
