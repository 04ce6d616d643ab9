-- A TREE IS SMALLER THAN THE ONE THAT HOLDS IT, in the families of types that lead back to themselves.
use Rattle.std.specs.Prelude.{ℕ, ◌+◌, ◌≤◌, max, List, [], ◌∷◌, Option, Some, None}
use Rattle.std.proofs.Common.{arith}
use denote.Param.Weighed.{most}
use Rattle.syn_grammar.specs.Grammar.{Syntax, Nothing, Both, Left, Right, Node, Group, Shaped, Unshown}
use Rattle.syn_grammar.specs.Tokens.{Paren}
use Rattle.syn_grammar.specs.Promises.{itself}
use Rattle.syn_tokens.specs.Kinds.{colon_syntax, comma_syntax, else_syntax, semi_syntax}
use Rattle.syn_tokens.specs.Leaves.{maybe}
use Rattle.syn_tokens.specs.Listing.{list_of}
use Rattle.syn_lower.specs.Sizes.{tree_size, above, above_falls, split, weight, split_last, weight_last, maybe_falls, list_falls}
use Rattle.syn_lower.specs.Attributes.{attributes_syntax}
use Rattle.syn_lower.specs.Types.{syntax_of_Type, tuple_elements}
use Rattle.syn_pat.specs.Patterns.{after_attributes, syntax_of_Pat, view_PatParen, view_PatTuple, view_PatTupleStruct, view_PatType}
use Rattle.syn_pat.specs.declared.pat.PatParen.TheDeep.{deep-Pat, deep-PatParen, deep-PatTuple, deep-PatTupleStruct, deep-PatType}
use Rattle.syn_pat.specs.declared.pat.Pat.TheVariants as Pat-m
use Rattle.syn_pat.specs.declared.pat.PatParen.TheInside as PatParen-in
use Rattle.syn_pat.specs.declared.pat.PatTuple.TheInside as PatTuple-in
use Rattle.syn_pat.specs.declared.pat.PatTupleStruct.TheInside as PatTupleStruct-in
use Rattle.syn_pat.specs.declared.pat.PatType.TheInside as PatType-in

pub falls_Pat : (x : Pat-m.the_data) → deep-Pat x ≤ tree_size (syntax_of_Pat x) + 1
falls_Pat (Pat-m.Ident p) = omega arith
falls_Pat (Pat-m.Paren p) = omega arith
falls_Pat (Pat-m.Path p) = omega arith
falls_Pat (Pat-m.Tuple p) = omega arith
falls_Pat (Pat-m.TupleStruct p) = omega arith
falls_Pat (Pat-m.Ty p) = omega arith
falls_Pat (Pat-m.Wild p) = omega arith

pub falls_PatParen : (a : PatParen-in.Inside) → deep-PatParen a ≤ tree_size (view_PatParen a)
falls_PatParen a = omega (arith, falls_Pat a.pat.value)

-- the elements of a tuple
module _ {T : Type 0} (v : T → Syntax) (d : T → ℕ) (falls : (t : T) → d t ≤ tree_size (v t) + 1) {P : Type 0} (w : P → Syntax) where
  abbrev list_deep : List (T × P) → Option T → ℕ
  list_deep l o = max (most (λ e. max (d e.0) 0) l) (weight_last d (split_last o))

  tuple_falls : (l : List (T × P)) (o : Option T) → list_deep l o ≤ tree_size (tuple_elements (list_of v w l o))
  tuple_falls [] None = omega arith
  tuple_falls [] (Some t) = omega (arith, falls t)
  tuple_falls (x ∷ l) o = list_falls v d falls w (x ∷ l) o

pub falls_PatTuple : (a : PatTuple-in.Inside) → deep-PatTuple a ≤ tree_size (view_PatTuple a)
falls_PatTuple a = omega (arith, tuple_falls syntax_of_Pat deep-Pat falls_Pat comma_syntax a.elems.pairs a.elems.last)

pub falls_PatTupleStruct : (a : PatTupleStruct-in.Inside) → deep-PatTupleStruct a ≤ tree_size (view_PatTupleStruct a)
falls_PatTupleStruct a = omega (arith, list_falls syntax_of_Pat deep-Pat falls_Pat comma_syntax a.elems.pairs a.elems.last)

attributes_size : (attrs s : Syntax) → tree_size s ≤ tree_size (after_attributes attrs s)
attributes_size (Node (Right (Unshown Nothing))) s = omega arith
attributes_size attrs s = omega arith

pub falls_PatType : (a : PatType-in.Inside) → deep-PatType a ≤ tree_size (view_PatType a)
falls_PatType a = omega (arith, falls_Pat a.pat.value, attributes_size (attributes_syntax a.attrs.items) (Both (syntax_of_Pat a.pat.value) (Left (Both (colon_syntax a.colon_token) (syntax_of_Type a.ty.value)))))
