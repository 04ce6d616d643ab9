-- FILES THAT ARE JOINED FROM ITEMS. The laws hold for every stream.
use Rattle.std.specs.Prelude.{◌≡◌, true, List, [], ◌∷◌, map}
use Rattle.syn_grammar.specs.Tokens.{Stream, end, ◌⧺◌, visible}
use Rattle.syn_grammar.specs.Rules.{item, file}
use Rattle.syn_grammar.specs.Grammar.{Syntax, Both, Right, Node, vacant, print, normal}
use Rattle.syn_grammar.specs.Laws.{Derives}
use Rattle.syn_grammar.specs.Listed.{first_part, after_parts, of_rule}

-- the inner attributes of a file, which follow its first line and its frontmatter
abbrev pub attributes_of_file : Syntax → Syntax
attributes_of_file s = first_part (after_parts 2 (of_rule s))

-- items, in order
abbrev pub items_among : Syntax → List Syntax
items_among (Node (Right (Both s t))) = s ∷ items_among t
items_among _ = []

-- and its items, which follow them
abbrev pub items_of_file : Syntax → List Syntax
items_of_file s = items_among (after_parts 3 (of_rule s))

-- the concatenated prints of these trees
abbrev pub prints : List Syntax → Stream
prints [] = end
prints (s ∷ l) = print s ⧺ prints l

-- these streams are derived as items, in order, with these trees
abbrev pub AllDerived : List Stream → List Syntax → Type 0
AllDerived [] [] = Unit {0}
AllDerived (a ∷ l) (s ∷ m) = Derives item a s × AllDerived l m
AllDerived _ _ = ⊥

abbrev pub AllVisible : List Stream → Type 0
AllVisible [] = Unit {0}
AllVisible (a ∷ l) = (visible a ≡ true) × AllVisible l

-- a file is derived without attributes, and its items have the normal forms of these trees
pub record IsFileOf (p : Stream) (trees : List Syntax) : Type 0 where
  pub tree : Syntax
  pub derived : Derives file p tree
  pub no_attributes : vacant (attributes_of_file tree) ≡ true
  pub same_normal : map normal (items_of_file tree) ≡ map normal trees

-- The concatenated prints of items are such a file.
abbrev pub JoinedItems : Type 0
JoinedItems = (pieces : List Stream) (trees : List Syntax) → AllDerived pieces trees → IsFileOf (prints trees) trees

-- They are visible if the items were derived of visible streams.
abbrev pub JoinedIsVisible : Type 0
JoinedIsVisible = (pieces : List Stream) (trees : List Syntax) → AllVisible pieces → AllDerived pieces trees → visible (prints trees) ≡ true
