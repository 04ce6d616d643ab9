-- ITEMS AS STATEMENTS are the items that the rule `item` reads of the same tokens.
use Rattle.std.specs.Prelude.{◌≡◌, true, false, Some}
use Rattle.syn_grammar.specs.Tokens.{Stream, ended}
use Rattle.syn_grammar.specs.Rules.{attributes, statement, statements, item}
use Rattle.syn_grammar.specs.Shape.{an_item}
use Rattle.syn_grammar.specs.Grammar.{Syntax, Both, Right, Node, Shaped}
use Rattle.syn_grammar.specs.Table.{at_semicolon, at_item}
use Rattle.syn_grammar.specs.Values.{listing}
use Rattle.syn_grammar.specs.Take.{sees}
use Rattle.syn_grammar.specs.Run.{wrap, and_then, parse_rule}

-- an item as a single statement
abbrev pub item_statement : Syntax → Syntax
item_statement s = Node (Shaped an_item s)

-- an item and the statements after it, as a list of statements
abbrev pub item_listed : Syntax → Syntax
item_listed (Both s l) = Node (Right (listing (Shaped an_item s) l))
item_listed s = s

-- If an item is next after the attributes, a statement is what `item` reads, with the attributes; and a list of statements is this and the
-- statements after it. Holds for every stream.
abbrev pub ItemStatements : Type 0
ItemStatements = (ts m : Stream) (a : Syntax) → parse_rule attributes ts ≡ Some (a, m) → sees at_item m ≡ true →
    (parse_rule statement ts ≡ wrap item_statement (parse_rule item ts))
    × (sees ended ts ≡ false → sees at_semicolon ts ≡ false → parse_rule statements ts ≡ wrap item_listed (and_then (parse_rule item ts) (parse_rule statements)))
