-- THE LIST OF A FILE: the kind and the name of each of its items.
use Rattle.std.specs.Prelude.{◌≡◌, ℕ, zero, suc, Bool, true, false, List, [], ◌∷◌, ◌++◌, Option, Some, None, nat_eq}
use Rattle.syn_grammar.specs.Words.{Text, w_const, w_crate, w_enum, w_fn, w_mod, w_mut, w_static, w_struct, w_trait, w_type, w_union}
use Rattle.syn_grammar.specs.Tokens.{Span, Leaf, ident, Stream, end, leaf, punct, group, pick, same_text, ended}
use Rattle.syn_grammar.specs.Rules.{Rule, structure, enumeration, union_item, function, const_item, static_item, extern_crate, module_item, trait_alias, type_item, macro_as_item, trait_definition, inner_attributes, item, items, file}
use Rattle.syn_grammar.specs.Grammar.{Syntax, Nothing, Token, Both, Left, Right, Node, Case, DerivesPrefix, rule}
use Rattle.syn_grammar.specs.Table.{table}
use Rattle.syn_grammar.specs.Laws.{Derives}
use Rattle.syn_grammar.specs.Promises.{Refused}
use Rattle.syn_grammar.specs.Take.{sees}
use Rattle.syn_grammar.specs.Run.{parse_rule}
use Rattle.syn_grammar.specs.EntryPoints.{IsKind}

-- an identifier and its span
abbrev pub Name : Type 0
Name = Text × Span

-- a kind of items, as its rule, and the name, if it has one
abbrev pub Listed : Type 0
Listed = Rule × Option Name

-- THE PLACE OF A NAME IN A TREE

-- of a sequence: its first part, and the parts after it
abbrev pub first_part : Syntax → Syntax
first_part (Both s t) = s
first_part _ = Nothing

abbrev pub other_parts : Syntax → Syntax
other_parts (Both s t) = t
other_parts _ = Nothing

-- the rest of a sequence after this many parts
abbrev pub after_parts : ℕ → Syntax → Syntax
after_parts zero s = s
after_parts (suc n) s = after_parts n (other_parts s)

-- a rule's tree without its Node
abbrev pub of_rule : Syntax → Syntax
of_rule (Node s) = s
of_rule _ = Nothing

-- the tree of a choice, without the side
abbrev pub of_choice : Syntax → Syntax
of_choice (Left s) = s
of_choice (Right s) = s
of_choice _ = Nothing

-- the identifier of a token
abbrev pub token_name : Syntax → Option Name
token_name (Token (ident x) sp) = Some (x, sp)
token_name _ = None

-- the part of a sequence after this many others, as an identifier
abbrev pub name_after : ℕ → Syntax → Option Name
name_after n s = token_name (first_part (after_parts n s))

-- the part after an item's attributes, without the Node of its rule
abbrev pub after_attributes : Syntax → Syntax
after_attributes s = of_rule (other_parts s)

-- THE NAME OF AN ITEM of this kind, from the part after its attributes: the part of its rule that is its name. An impl, a use, a
-- foreign module and verbatim items have none.
abbrev pub name_in : Rule → Syntax → Option Name
name_in structure s = name_after 2 s
name_in enumeration s = name_after 2 s
name_in union_item s = name_after 2 s
name_in const_item s = name_after 3 s
name_in static_item s = name_after 3 s
name_in extern_crate s = name_after 3 s
name_in module_item s = name_after 3 s
name_in type_item s = name_after 3 s
name_in trait_alias s = name_after 1 (of_rule (after_parts 1 s))
name_in trait_definition s = name_after 3 (of_rule (after_parts 2 s))
name_in function s = name_after 1 (of_rule (after_parts 4 (of_rule (first_part (after_parts 2 s)))))
name_in macro_as_item s = token_name (of_choice (first_part (after_parts 2 (of_rule (of_choice s)))))
name_in _ s = None

-- the list entry of an item of this kind
abbrev pub listed_as : Rule → Syntax → Listed
listed_as k s = (k, name_in k (after_attributes s))

-- the kind and the name of an item
abbrev pub listed_item : Syntax → Listed
listed_item (Node (Case k s)) = listed_as k s
listed_item _ = (item, None)

-- those of items, in order
abbrev pub listed_items : Syntax → List Listed
listed_items (Node (Right (Both s t))) = listed_item s ∷ listed_items t
listed_items _ = []

-- those of a file's items, which follow its first line, its frontmatter and its inner attributes
abbrev pub listed : Syntax → List Listed
listed s = listed_items (after_parts 3 (of_rule s))

-- A FILE HAS THIS LIST: it is derived as a tree whose items have these kinds and names.
abbrev pub FileLists : Stream → List Listed → Type 0
FileLists ts l = (tree : Syntax) × Derives file ts tree × (listed tree ≡ l)

-- The list of a stream up to this rest: if items are derived of the rest, a file is derived of the stream, and its list is this list
-- followed by theirs; and if a file is derived of the stream, items are derived of the rest.
pub record ListedSoFar (ts : Stream) (l : List Listed) (m : Stream) : Type 0 where
  pub onward : (t : Syntax) → Derives items m t → (tree : Syntax) × Derives file ts tree × (listed tree ≡ l ++ listed_items t)
  pub back : (tree : Syntax) → Derives file ts tree → (t : Syntax) × Derives items m t

-- THE PLACE OF A NAME AMONG THE TOKENS: after a word or a `!`, the first one that is in no group

pub data Marker : Type 0 where
  a_word : Text → Marker
  a_bang : Marker

abbrev pub marks_leaf : Marker → Leaf → Bool
marks_leaf (a_word w) (ident x) = same_text x w
marks_leaf _ x = false

abbrev pub marks_char : Marker → ℕ → Bool
marks_char a_bang c = nat_eq c 33
marks_char (a_word w) c = false

-- the tokens after the first marker; none if there is no marker
abbrev pub past : Marker → Stream → Stream
past m end = end
past m (leaf x sp r) = pick (marks_leaf m x) r (past m r)
past m (punct c j sp r) = pick (marks_char m c) r (past m r)
past m (group d o c i r) = past m r

-- the identifier that is next
abbrev pub name_next : Stream → Option Name
name_next (leaf (ident x) sp r) = Some (x, sp)
name_next _ = None

-- past `mut`, if it is next
abbrev pub past_mut : Stream → Stream
past_mut (leaf (ident x) sp r) = pick (same_text x w_mut) r (leaf (ident x) sp r)
past_mut ts = ts

abbrev pub name_past : Text → Stream → Option Name
name_past w ts = name_next (past (a_word w) ts)

-- the name of an item of this kind that begins here
abbrev pub name_ahead : Rule → Stream → Option Name
name_ahead structure ts = name_past w_struct ts
name_ahead enumeration ts = name_past w_enum ts
name_ahead union_item ts = name_past w_union ts
name_ahead const_item ts = name_past w_const ts
name_ahead static_item ts = name_next (past_mut (past (a_word w_static) ts))
name_ahead extern_crate ts = name_past w_crate ts
name_ahead module_item ts = name_past w_mod ts
name_ahead type_item ts = name_past w_type ts
name_ahead trait_alias ts = name_past w_trait ts
name_ahead trait_definition ts = name_past w_trait ts
name_ahead function ts = name_past w_fn ts
name_ahead macro_as_item ts = name_next (past a_bang ts)
name_ahead _ ts = None

-- The name of an item is at this place. Holds for every stream.
abbrev pub NamesAhead : Type 0
NamesAhead = (k : Rule) (ts : Stream) (s : Syntax) (r : Stream) → IsKind item k → DerivesPrefix table (rule k) (Node s) ts r → name_in k (after_attributes s) ≡ name_ahead k ts

-- A FILE'S LIST IS BUILT ITEM BY ITEM. Hold for every stream.

-- After inner attributes the list is empty.
abbrev pub ListingBegins : Type 0
ListingBegins = (ts : Stream) (a : Syntax) (m : Stream) → parse_rule inner_attributes ts ≡ Some (a, m) → ListedSoFar ts [] m

-- If the rule of a kind reads an item, the list grows by this kind and the name at its place among the tokens.
abbrev pub ListingContinues : Type 0
ListingContinues = (ts : Stream) (l : List Listed) (m : Stream) (k : Rule) (s : Syntax) (r : Stream) → ListedSoFar ts l m → sees ended m ≡ false → IsKind item k →
    parse_rule k m ≡ Some (s, r) → ListedSoFar ts (l ++ (k, name_ahead k m) ∷ []) r

-- If no tokens are left, the list is complete.
abbrev pub ListingEnds : Type 0
ListingEnds = (ts : Stream) (l : List Listed) (m : Stream) → ListedSoFar ts l m → sees ended m ≡ true → FileLists ts l

-- If tokens are left and no item is read, no file is derived; neither if inner attributes are refused.
abbrev pub ListingRefused : Type 0
ListingRefused = ((ts : Stream) (l : List Listed) (m : Stream) → ListedSoFar ts l m → sees ended m ≡ false → parse_rule item m ≡ None → Refused file ts)
    × ((ts : Stream) → parse_rule inner_attributes ts ≡ None → Refused file ts)
