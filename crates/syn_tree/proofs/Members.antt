-- The fields of a list in braces or parentheses, and where paths begin.
use Rattle.std.proofs.Common.{◌≡◌, List, [], ◌∷◌, ◌++◌, Option, Some, None, refl, ap, ◌∙◌, slice_get, length}
use Rattle.syn_grammar.specs.Shape.{untagged}
use Rattle.syn_grammar.specs.Grammar.{Syntax, Both, Shaped, print}
use Rattle.syn_tokens.specs.Idents.{IdentValue}
use Rattle.syn_tokens.specs.declared.span.Span.{Span}
use Rattle.syn_tokens.specs.Kinds.{Comma, PathSep, comma_syntax, path_sep_syntax}
use Rattle.syn_tokens.specs.Leaves.{syntax_of_ident}
use Rattle.syn_tokens.specs.Lists.{Sequence, firsts, listed, values}
use Rattle.syn_tokens.specs.Listing.{list_of, joined_of}
use Rattle.syn_grammar.specs.Promises.{itself}
use Rattle.syn_tree.specs.Members.{elements, first_place}

pub elements_listed : (l : List (Syntax × Comma)) (o : Option Syntax) → elements (list_of itself comma_syntax l o) ≡ firsts l ++ listed o
elements_listed [] None = refl
elements_listed [] (Some t) = refl
elements_listed (x ∷ l) o = ap (λ m. x.0 ∷ m) (elements_listed l o)

-- where a list begins, by its first value
abbrev begins : (Syntax → Syntax) → Option Syntax → Span
begins list None = record { start = 0; end = 0 }
begins list (Some s) = first_place (print (list s))

-- a path that begins with a word
pub words_begin : (l : List (Syntax × PathSep)) (o : Option Syntax) (i : IdentValue) (a : Syntax) → slice_get (firsts l ++ listed o) 0 ≡ Some (Shaped untagged (Both (syntax_of_ident i) a))
    → first_place (print (joined_of itself path_sep_syntax l o)) ≡ i.span
words_begin [] None i a e = absurd (cc e)
words_begin [] (Some t) i a e = ap (begins (λ s. joined_of itself path_sep_syntax [] (Some s))) e
words_begin (x ∷ l) o i a e = ap (begins (λ s. joined_of itself path_sep_syntax ((s, x.1) ∷ l) o)) e

-- a path without words
pub no_words_begin : (l : List (Syntax × PathSep)) (o : Option Syntax) → slice_get (firsts l ++ listed o) 0 ≡ None
    → first_place (print (joined_of itself path_sep_syntax l o)) ≡ record { start = 0; end = 0 }
no_words_begin [] None e = refl
no_words_begin [] (Some t) e = absurd (cc e)
no_words_begin (x ∷ l) o e = absurd (cc e)

-- a list of no length is empty
pub nothing_in : {X : Type 0} (l : List X) → length l ≡ 0 → l ≡ []
nothing_in [] e = refl
nothing_in (x ∷ l) e = absurd (cc e)
