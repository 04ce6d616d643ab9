-- WHETHER THE LAST OF SOME TOKEN TREES IS A GROUP IN BRACES.
use Rattle.std.specs.Prelude.{◌≡◌, Bool, true, false}
use Rattle.syn_grammar.specs.Tokens.{Delimiter, Brace, Stream, end, leaf, punct, group}
use Rattle.syn_grammar.specs.Grammar.{Syntax, show, print}
use Rattle.syn_tokens.specs.Delimiters.{delimiter_of}
use Rattle.syn_tokens.specs.declared.stream.cursor.TokenTreeRef.{TokenTreeRef}
use Rattle.syn_tokens.specs.declared.stream.cursor.TokenTreeRef.TheVariants as N

abbrev pub is_brace : Delimiter → Bool
is_brace Brace = true
is_brace _ = false

-- of trees after others, of which it is known whether they end with braces
abbrev pub ends_by : Bool → Stream → Bool
ends_by b end = b
ends_by b (leaf x sp m) = ends_by false m
ends_by b (punct c j sp m) = ends_by false m
ends_by b (group d o c i m) = ends_by (is_brace d) m

abbrev pub is_brace_group : TokenTreeRef → Bool
is_brace_group (N.Group g) = is_brace (delimiter_of g.delimiter)
is_brace_group _ = false

-- what is printed as it is shown
pub record IsLeaf (s : Syntax) : Type 0 where
  pub shown : print s ≡ show s
