-- The results of a cursor.
use Rattle.std.specs.Prelude.{◌≡◌, ℕ, List, ◌∷◌, ◌++◌, length}
use Rattle.syn_grammar.specs.Tokens.{ident, literal, Stream, leaf, punct, group}
use Rattle.syn_tokens.specs.Spans.{at}
use Rattle.syn_tokens.specs.Delimiters.{delimiter_of}
use Rattle.syn_tokens.specs.Punct.{is_joint}
use Rattle.syn_tokens.specs.Literals.{kind_of}
use Rattle.syn_tokens.specs.declared.span.Span.{Span}
use Rattle.syn_tokens.specs.declared.stream.entry.Close.{Close as Closing}
use Rattle.syn_tokens.specs.declared.stream.entry.Token.{Token as Entry}
use Rattle.syn_tokens.specs.declared.stream.entry.Token.TheVariants as E
use Rattle.syn_tokens.specs.declared.stream.cursor.TokenTreeRef.{TokenTreeRef}
use Rattle.syn_tokens.specs.declared.stream.cursor.TokenTreeRef.TheVariants as N

-- a tree, and what follows it
abbrev pub before_next : TokenTreeRef → Stream → Stream
before_next (N.Ident i) r = leaf (ident i.text) (at i.span) r
before_next (N.Literal l) r = leaf (literal (kind_of l.kind) l.text) (at l.span) r
before_next (N.Punct p) r = punct p.character (is_joint p.spacing) (at p.span) r
before_next (N.Group g) r = group (delimiter_of g.delimiter) (at g.opening) (at g.closing) g.content r

-- the span of a tree
abbrev pub next_span : TokenTreeRef → Span
next_span (N.Ident i) = i.span
next_span (N.Literal l) = l.span
next_span (N.Punct p) = p.span
next_span (N.Group g) = g.opening

-- a closing delimiter follows after so many entries
pub record Closes (es : List Entry) (count : ℕ) : Type 0 where
  pub content : List Entry
  pub closing : Closing
  pub rest : List Entry
  pub is : es ≡ content ++ E.Close closing ∷ rest
  pub long : length content ≡ count
