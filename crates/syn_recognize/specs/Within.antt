-- THE FORMS IN A FORM.
use Rattle.syn_grammar.specs.Grammar.{Grammar, ◌&◌, when◌then◌else◌, inside, either, shaped, ordered, vanishing, captured}

-- the first form that a form is made of, or the only one
abbrev pub first : Grammar → Grammar
first (g & h) = g
first (when c then g else h) = g
first (inside d g) = g
first (either g h) = g
first (shaped j g) = g
first (ordered g h) = g
first (vanishing b c g) = g
first (captured g) = g
first g = g

-- the second one
abbrev pub second : Grammar → Grammar
second (g & h) = h
second (when c then g else h) = h
second (either g h) = h
second (ordered g h) = h
second g = g
