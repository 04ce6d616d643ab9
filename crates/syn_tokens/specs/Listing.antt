-- THE SYNTAX OF A LIST with separators: elements with their separators, and perhaps a last one without
use Rattle.std.specs.Prelude.{List, [], ◌∷◌, Option, Some, None}
use Rattle.syn_grammar.specs.Grammar.{Syntax, Nothing, Node, Right, Left, Both}
use Rattle.syn_tokens.specs.Lists.{Sequence}

module _ {T P : Type 0} (tag : Syntax → Syntax) (view : T → Syntax) (separator_view : P → Syntax) where
  -- the pairs of a list, followed by its other members
  abbrev pub onto : List (T × P) → Syntax → Syntax
  onto [] s = s
  onto (x ∷ l) s = Node (tag (Both (view x.0) (Left (Both (separator_view x.1) (onto l s)))))

  abbrev pub last_of : Syntax → Option T → Syntax
  last_of at_end None = at_end
  last_of at_end (Some t) = Node (tag (Both (view t) (Right Nothing)))

  abbrev pub listed : Syntax → List (T × P) → Option T → Syntax
  listed at_end l o = onto l (last_of at_end o)

abbrev pub untagged : Syntax → Syntax
untagged s = s

-- of a rule that may derive no element
abbrev pub list_of : {T P : Type 0} → (T → Syntax) → (P → Syntax) → List (T × P) → Option T → Syntax
list_of view separator_view = listed Right view separator_view (Node (Left Nothing))

-- of a rule that derives at least one element
abbrev pub joined_of : {T P : Type 0} → (T → Syntax) → (P → Syntax) → List (T × P) → Option T → Syntax
joined_of view separator_view = listed untagged view separator_view Nothing

-- a list by itself, whichever rule it belongs to: as of a rule that may derive no element
abbrev pub syntax_of_list : {T P : Type 0} → (T → Syntax) → (P → Syntax) → Sequence T P → Syntax
syntax_of_list view separator_view s = list_of view separator_view s.pairs s.last
