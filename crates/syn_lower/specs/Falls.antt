-- A TREE IS SMALLER THAN THE ONE THAT HOLDS IT, in the family of types that lead back to themselves.
use Rattle.std.specs.Prelude.{ℕ, zero, suc, ◌+◌, ◌≤◌, max, List, [], ◌∷◌, Bool, Option, Some, None}
use Rattle.std.proofs.Common.{arith}
use denote.Param.Weighed.{most}
use Rattle.syn_grammar.specs.Grammar.{Syntax, Nothing, Mark, Both, Left, Right, Node, Unshown}
use Rattle.syn_grammar.specs.Promises.{itself}
use Rattle.syn_tokens.specs.Kinds.{Comma, comma_syntax, path_sep_syntax}
use Rattle.syn_tokens.specs.Listing.{list_of}
use Rattle.syn_lower.specs.Sizes.{tree_size, above, above_falls, split_last, weight_last, maybe_falls, list_falls, joined_falls}
use Rattle.syn_lower.specs.Ordered.{ordered_of}
use Rattle.syn_lower.specs.QualifiedPaths.{part, words_in, separator_after, words_after, qualified, syntax_of_TypePath}
use Rattle.syn_lower.specs.Types.{syntax_of_Type, tuple_elements, view_TypeArray, view_TypeGroup, view_TypeParen, view_TypePath, view_TypePtr, view_TypeReference, view_TypeSlice, view_TypeTuple}
use Rattle.syn_lower.specs.Paths.{syntax_of_PathArguments, syntax_of_GenericArgument, syntax_of_ReturnType, is_lifetime, view_PathSegment, view_AngleBracketedGenericArguments, view_ParenthesizedGenericArguments, view_AssocType, view_QSelf}
use Rattle.syn_lower.specs.Plain.{view_Path}
use Rattle.syn_lower.specs.declared.path.AngleBracketedGenericArguments.TheDeep.{deep-Path, deep-PathSegment, deep-PathArguments, deep-AngleBracketedGenericArguments, deep-ParenthesizedGenericArguments, deep-GenericArgument, deep-AssocType, deep-ReturnType, deep-QSelf, deep-Type, deep-TypeArray, deep-TypeGroup, deep-TypeParen, deep-TypePath, deep-TypePtr, deep-TypeReference, deep-TypeSlice, deep-TypeTuple}
use Rattle.syn_lower.specs.declared.path.Path.TheInside as Path-in
use Rattle.syn_lower.specs.declared.path.PathSegment.TheInside as PathSegment-in
use Rattle.syn_lower.specs.declared.path.PathArguments.TheVariants as PathArguments-m
use Rattle.syn_lower.specs.declared.path.AngleBracketedGenericArguments.TheInside as AngleBracketedGenericArguments-in
use Rattle.syn_lower.specs.declared.path.ParenthesizedGenericArguments.TheInside as ParenthesizedGenericArguments-in
use Rattle.syn_lower.specs.declared.path.GenericArgument.TheVariants as GenericArgument-m
use Rattle.syn_lower.specs.declared.path.AssocType.TheInside as AssocType-in
use Rattle.syn_lower.specs.declared.path.ReturnType.TheVariants as ReturnType-m
use Rattle.syn_lower.specs.declared.path.QSelf.TheInside as QSelf-in
use Rattle.syn_lower.specs.declared.ty.Type.TheVariants as Type-m
use Rattle.syn_lower.specs.declared.ty.TypeArray.TheInside as TypeArray-in
use Rattle.syn_lower.specs.declared.ty.TypeGroup.TheInside as TypeGroup-in
use Rattle.syn_lower.specs.declared.ty.TypeParen.TheInside as TypeParen-in
use Rattle.syn_lower.specs.declared.ty.TypePath.TheInside as TypePath-in
use Rattle.syn_lower.specs.declared.ty.TypePtr.TheInside as TypePtr-in
use Rattle.syn_lower.specs.declared.ty.TypeReference.TheInside as TypeReference-in
use Rattle.syn_lower.specs.declared.ty.TypeSlice.TheInside as TypeSlice-in
use Rattle.syn_lower.specs.declared.ty.TypeTuple.TheInside as TypeTuple-in

-- QUALIFIED PATHS: nothing that a value holds is lost in what it represents

part_size : (s : Syntax) → tree_size s ≤ tree_size (part s) + 1
part_size (Left s) = omega arith
part_size (Right s) = omega arith
part_size s = omega arith

words_size : (n : ℕ) (s : Syntax) → tree_size s ≤ tree_size (words_in n s) + tree_size (separator_after n s) + tree_size (words_after n s)
words_size zero (Node (Both s (Left (Both colons l)))) = omega arith
words_size (suc n) (Node (Both s (Left (Both colons Nothing)))) = omega arith
words_size (suc n) (Node (Both s (Left (Both colons l)))) = omega (arith, words_size n l)
words_size n s = omega arith

pub qualified_size : (n : ℕ) (as_token gt leading words : Syntax) →
    tree_size as_token + tree_size gt + tree_size leading + tree_size words + 3 ≤ tree_size (qualified n as_token gt leading words)
qualified_size zero as_token gt leading words = omega (arith, part_size as_token, part_size leading)
qualified_size (suc n) as_token gt leading Nothing = omega (arith, part_size as_token, part_size leading)
qualified_size (suc n) as_token gt leading words = omega (arith, part_size as_token, part_size leading, words_size n words)

type_path_size : (s : Syntax) → tree_size s ≤ tree_size (syntax_of_TypePath s) + 4
type_path_size (Node (Both (Left (Both lt (Both ty (Both (Unshown (Mark ((n, sp) ∷ []))) (Both as_token gt))))) (Node (Both leading words)))) =
    omega (arith, qualified_size n as_token gt leading words)
type_path_size (Node (Both (Right Nothing) path)) = omega arith
type_path_size s = omega arith

-- TYPES

pub falls_Type : (x : Type-m.the_data) → deep-Type x ≤ tree_size (syntax_of_Type x) + 1
falls_Type (Type-m.Array t) = omega arith
falls_Type (Type-m.Group t) = omega arith
falls_Type (Type-m.Never t) = omega arith
falls_Type (Type-m.Paren t) = omega arith
falls_Type (Type-m.Path t) = omega (arith, type_path_size t)
falls_Type (Type-m.Ptr t) = omega arith
falls_Type (Type-m.Reference t) = omega arith
falls_Type (Type-m.Slice t) = omega arith
falls_Type (Type-m.Tuple t) = omega arith
falls_Type (Type-m.Verbatim tokens) = omega arith

pub falls_TypeArray : (a : TypeArray-in.Inside) → deep-TypeArray a ≤ tree_size (view_TypeArray a)
falls_TypeArray a = omega (arith, falls_Type a.elem.value)

pub falls_TypeGroup : (a : TypeGroup-in.Inside) → deep-TypeGroup a ≤ tree_size (view_TypeGroup a)
falls_TypeGroup a = omega (arith, falls_Type a.elem.value)

pub falls_TypeParen : (a : TypeParen-in.Inside) → deep-TypeParen a ≤ tree_size (view_TypeParen a)
falls_TypeParen a = omega (arith, falls_Type a.elem.value)

pub falls_TypePath : (a : TypePath-in.Inside) → deep-TypePath a ≤ tree_size (view_TypePath a)
falls_TypePath a = omega (arith, maybe_falls itself above above_falls a.qself)

pub falls_TypePtr : (a : TypePtr-in.Inside) → deep-TypePtr a ≤ tree_size (view_TypePtr a)
falls_TypePtr a = omega (arith, falls_Type a.elem.value)

pub falls_TypeReference : (a : TypeReference-in.Inside) → deep-TypeReference a ≤ tree_size (view_TypeReference a)
falls_TypeReference a = omega (arith, falls_Type a.elem.value)

pub falls_TypeSlice : (a : TypeSlice-in.Inside) → deep-TypeSlice a ≤ tree_size (view_TypeSlice a)
falls_TypeSlice a = omega (arith, falls_Type a.elem.value)

module _ {P : Type 0} (w : P → Syntax) where
  abbrev tuple_deep : List (Type-m.the_data × P) → Option Type-m.the_data → ℕ
  tuple_deep l o = max (most (λ e. max (deep-Type e.0) 0) l) (weight_last deep-Type (split_last o))

  elements_fall : (l : List (Type-m.the_data × P)) (o : Option Type-m.the_data) → tuple_deep l o ≤ tree_size (tuple_elements (list_of syntax_of_Type w l o))
  elements_fall [] None = omega arith
  elements_fall [] (Some t) = omega (arith, falls_Type t)
  elements_fall (x ∷ l) o = list_falls syntax_of_Type deep-Type falls_Type w (x ∷ l) o

pub falls_TypeTuple : (a : TypeTuple-in.Inside) → deep-TypeTuple a ≤ tree_size (view_TypeTuple a)
falls_TypeTuple a = omega (arith, elements_fall comma_syntax a.elems.pairs a.elems.last)

-- PATHS

pub falls_Path : (a : Path-in.Inside) → deep-Path a ≤ tree_size (view_Path a)
falls_Path a = omega (arith, joined_falls itself above above_falls path_sep_syntax a.segments.pairs a.segments.last)

falls_PathArguments : (x : PathArguments-m.the_data) → deep-PathArguments x ≤ tree_size (syntax_of_PathArguments x) + 1
falls_PathArguments PathArguments-m.None = omega arith
falls_PathArguments (PathArguments-m.AngleBracketed a) = omega arith
falls_PathArguments (PathArguments-m.Parenthesized a) = omega arith

pub falls_PathSegment : (a : PathSegment-in.Inside) → deep-PathSegment a ≤ tree_size (view_PathSegment a)
falls_PathSegment a = omega (arith, falls_PathArguments a.arguments)

falls_GenericArgument : (x : GenericArgument-m.the_data) → deep-GenericArgument x ≤ tree_size (syntax_of_GenericArgument x) + 1
falls_GenericArgument (GenericArgument-m.Lifetime l) = omega arith
falls_GenericArgument (GenericArgument-m.Ty t) = omega (arith, falls_Type t)
falls_GenericArgument (GenericArgument-m.Const e) = omega arith
falls_GenericArgument (GenericArgument-m.AssocType a) = omega arith

module _ {P : Type 0} (w : P → Syntax) where
  abbrev arguments_deep : List (GenericArgument-m.the_data × P) → Option GenericArgument-m.the_data → ℕ
  arguments_deep l o = max (most (λ e. max (deep-GenericArgument e.0) 0) l) (weight_last deep-GenericArgument (split_last o))

  arguments_fall : (l : List (GenericArgument-m.the_data × P)) (o : Option GenericArgument-m.the_data) →
      arguments_deep l o ≤ tree_size (ordered_of is_lifetime (list_of syntax_of_GenericArgument w l o)) + 1
  arguments_fall [] None = omega arith
  arguments_fall [] (Some t) = omega (arith, falls_GenericArgument t)
  arguments_fall (x ∷ l) o = omega (arith, falls_GenericArgument x.0, arguments_fall l o)

pub falls_AngleBracketedGenericArguments : (a : AngleBracketedGenericArguments-in.Inside) → deep-AngleBracketedGenericArguments a ≤ tree_size (view_AngleBracketedGenericArguments a)
falls_AngleBracketedGenericArguments a = omega (arith, arguments_fall comma_syntax a.args.pairs a.args.last)

falls_ReturnType : (x : ReturnType-m.the_data) → deep-ReturnType x ≤ tree_size (syntax_of_ReturnType x) + 1
falls_ReturnType ReturnType-m.«Default» = omega arith
falls_ReturnType (ReturnType-m.Ty arrow ty) = omega (arith, falls_Type ty.value)

pub falls_ParenthesizedGenericArguments : (a : ParenthesizedGenericArguments-in.Inside) → deep-ParenthesizedGenericArguments a ≤ tree_size (view_ParenthesizedGenericArguments a)
falls_ParenthesizedGenericArguments a = omega (arith, list_falls syntax_of_Type deep-Type falls_Type comma_syntax a.inputs.pairs a.inputs.last, falls_ReturnType a.output)

pub falls_AssocType : (a : AssocType-in.Inside) → deep-AssocType a ≤ tree_size (view_AssocType a)
falls_AssocType a = omega (arith, falls_Type a.ty)

pub falls_QSelf : (a : QSelf-in.Inside) → deep-QSelf a ≤ tree_size (view_QSelf a)
falls_QSelf a = omega (arith, falls_Type a.ty.value)
