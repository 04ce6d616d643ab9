-- WHAT MAKES A VISIBILITY A RESTRICTED ONE: parentheses that hold one word alone, or begin with `in`.
use Rattle.std.specs.Prelude.{Bool, false, Option, Some, None}
use Rattle.syn_grammar.specs.Words.{w_in, w_crate, w_self, w_super}
use Rattle.syn_grammar.specs.Tokens.{Stream, or, and, ended, at_word}
use Rattle.syn_grammar.specs.Take.{sees}
use Rattle.syn_parse.specs.Peeks.{past}

-- `crate`, `self` or `super` alone
abbrev pub lone_word : Stream → Bool
lone_word i = and (or (sees (at_word w_crate) i) (or (sees (at_word w_self) i) (sees (at_word w_super) i))) (sees ended (past i))

-- of what an invisible group holds, where one is next: nothing
abbrev pub holds_nothing : Option Stream → Bool
holds_nothing (Some i) = sees ended i
holds_nothing None = false

-- of what a group in parentheses holds, where one is next
abbrev pub restricts : Option Stream → Bool
restricts (Some i) = or (sees (at_word w_in) i) (lone_word i)
restricts None = false
