-- HOW A LIST WITH SOME MEMBERS FIRST IS PRINTED in the order of its tokens, where those that follow some other member are known beforehand.
use Rattle.std.specs.Prelude.{Bool, true, false, List, [], ◌∷◌}
use Rattle.syn_grammar.specs.Tokens.{Span, call_site, Stream, end, punct, ◌⧺◌}
use Rattle.syn_grammar.specs.Grammar.{Syntax, Last, More, show, print}

-- a tree's tokens as they are shown, or as they are printed (true)
abbrev pub way : Bool → Syntax → Stream
way true s = print s
way false s = show s

-- a member and its comma, and what follows
abbrev pub with_comma : Stream → Span → Stream → Stream
with_comma i sp j = i ⧺ punct 44 false sp j

-- what is printed of the members of the first form, each with the span of its comma; the last, where it has none, gets one
abbrev pub firsts : Syntax → List (Stream × Span)
firsts (More true s sp t) = (print s, sp) ∷ firsts t
firsts (More false s sp t) = firsts t
firsts (Last true s) = (print s, call_site) ∷ []
firsts _ = []

abbrev pub print_firsts : List (Stream × Span) → Stream
print_firsts [] = end
print_firsts (p ∷ l) = with_comma p.0 p.1 (print_firsts l)

-- the other members
abbrev pub others_of : Bool → Syntax → Stream
others_of a (More true s sp t) = others_of a t
others_of a (More false s sp t) = with_comma (way a s) sp (others_of a t)
others_of a (Last true s) = end
others_of a t = way a t

-- a printed list: its members of the first form before all others; those that follow another; and the others
abbrev pub print_row : Syntax → Stream
print_row (More true s sp t) = with_comma (print s) sp (print_row t)
print_row (More false s sp t) = print_firsts (firsts t) ⧺ with_comma (print s) sp (others_of true t)
print_row t = print t

-- a list, as it is shown or printed
abbrev pub row_of : Bool → Syntax → Stream
row_of true t = print_row t
row_of false t = show t
