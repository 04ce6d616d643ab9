-- TREES OF A USE IN BRACES are read by two rules: `use_trees`, and `rooted_trees`, in which a tree may have `::` before it.
use Rattle.std.specs.Prelude.{◌≡◌, false, Some}
use Rattle.syn_grammar.specs.Tokens.{Stream}
use Rattle.syn_grammar.specs.Rules.{use_trees, rooted_trees, root_mark}
use Rattle.syn_grammar.specs.Grammar.{Syntax, Mark, Both, Left, Right, Node, Group, has_part}
use Rattle.syn_grammar.specs.Run.{parse_rule}

-- trees in braces, or one tree, with the structure that the second of these rules gives them
abbrev pub rooted : Syntax → Syntax
rooted (Right (Both (Node t) (Left (Both c (Node l))))) = Right (Both (Node (rooted t)) (Left (Both c (Node (rooted l)))))
rooted (Right (Both (Node t) (Right s))) = Right (Both (Node (rooted t)) (Right s))
rooted (Right (Left (Group d o c (Node l)))) = Right (Left (Group d o c (Node (rooted l))))
rooted (Right (Right s)) = Right (Right (Node (Right (Right s))))
rooted (Left (Mark xs)) = Right (Right (Node (Left (Mark xs))))
rooted s = s

-- and with the structure of the first one
abbrev pub unrooted : Syntax → Syntax
unrooted (Right (Both (Node t) (Left (Both c (Node l))))) = Right (Both (Node (unrooted t)) (Left (Both c (Node (unrooted l)))))
unrooted (Right (Both (Node t) (Right s))) = Right (Both (Node (unrooted t)) (Right s))
unrooted (Right (Left (Group d o c (Node l)))) = Right (Left (Group d o c (Node (unrooted l))))
unrooted (Right (Right (Node s))) = s
unrooted s = s

-- What the first rule reads, the second one reads too, as trees none of which has `::` before it; and what the second one reads of
-- such trees, the first one reads. Holds for every stream.
abbrev pub UseGroups : Type 0
UseGroups = (ts : Stream) (s : Syntax) (r : Stream) →
    (parse_rule use_trees ts ≡ Some (Node s, r) → (parse_rule rooted_trees ts ≡ Some (Node (rooted s), r)) × ((has_part root_mark (rooted s) ≡ false) × (unrooted (rooted s) ≡ s)))
    × (parse_rule rooted_trees ts ≡ Some (Node s, r) → has_part root_mark s ≡ false → (parse_rule use_trees ts ≡ Some (Node (unrooted s), r)) × (rooted (unrooted s) ≡ s))
