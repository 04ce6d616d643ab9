-- THE TEXT OF A TOKEN STREAM: its trees and the delimiters of its groups, separated by one space, except after a joint
-- character of a mark.
use Rattle.std.specs.Prelude.{ℕ, Bool, true, false, List, [], ◌++◌, codes}
use Rattle.std.specs.Char.{encode_utf8}
use Rattle.syn_grammar.specs.Tokens.{Leaf, ident, literal, None, Stream, end, leaf, punct, group}
use Rattle.syn_reader.specs.Spelling.{opening_delimiter, closing_delimiter}

-- the text of an identifier or a literal
abbrev pub spelling_of_leaf : Leaf → List ℕ
spelling_of_leaf (ident x) = x
spelling_of_leaf (literal k x) = x

-- the text before a tree or a delimiter: one space, or nothing if it follows directly
abbrev pub gap : Bool → List ℕ
gap true = []
gap false = codes " "

-- Whether a tree after the stream follows directly: after a joint character of a mark, and after nothing else. A stream without
-- text leaves this unchanged.
abbrev pub follows_directly : Bool → Stream → Bool
follows_directly before end = before
follows_directly before (leaf x sp m) = follows_directly false m
follows_directly before (punct c joint sp m) = follows_directly joint m
follows_directly before (group None o c i m) = follows_directly (follows_directly before i) m
follows_directly before (group d o c i m) = follows_directly false m

-- The text of a stream, including the space before it; the flag says whether its first tree follows directly. A group is its
-- two delimiters with its content between them, an invisible group its content alone.
abbrev pub text_after : Bool → Stream → List ℕ
text_after direct end = []
text_after direct (leaf x sp m) = gap direct ++ (spelling_of_leaf x ++ text_after false m)
text_after direct (punct c joint sp m) = gap direct ++ (encode_utf8 c ++ text_after joint m)
text_after direct (group None o c i m) = text_after direct i ++ text_after (follows_directly direct i) m
text_after direct (group d o c i m) =
    gap direct ++ (opening_delimiter d ++ (text_after false i ++ (gap (follows_directly false i) ++ (closing_delimiter d ++ text_after false m))))

-- the whole text: there is no space before it
abbrev pub text_of : Stream → List ℕ
text_of stream = text_after true stream
