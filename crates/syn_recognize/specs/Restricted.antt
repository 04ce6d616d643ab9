-- WHAT MAKES A VISIBILITY A RESTRICTED ONE: parentheses that hold one word alone, or begin with `in`.
use Rattle.std.specs.Prelude.{Bool, false, Option, Some, None}
use Rattle.syn_grammar.specs.Words.{w_in, w_crate, w_self, w_super}
use Rattle.syn_grammar.specs.Tokens.{Stream, or, and, ended, at_word}
use Rattle.syn_grammar.specs.Take.{sees}
use Rattle.syn_parse.specs.Peeks.{past}

-- `crate`, `self` or `super` alone
abbrev pub lone_word : Stream → Bool
lone_word i = and (or (sees (at_word w_crate) i) (or (sees (at_word w_self) i) (sees (at_word w_super) i))) (sees ended (past i))

-- an invisible group, if one is next, holds nothing
abbrev pub holds_nothing : Option Stream → Bool
holds_nothing (Some i) = sees ended i
holds_nothing None = false

-- a group in parentheses, if one is next, holds a restriction
abbrev pub restricts : Option Stream → Bool
restricts (Some i) = or (sees (at_word w_in) i) (lone_word i)
restricts None = false

-- the same, each by itself
abbrev pub begins_in : Option Stream → Bool
begins_in (Some i) = sees (at_word w_in) i
begins_in None = false

abbrev pub is_lone_word : Option Stream → Bool
is_lone_word (Some i) = lone_word i
is_lone_word None = false
