-- THE SYNTAX OF TYPES, one level at a time, every field.
-- A tree that a parser gives represents the derivation of its rule. Of other trees too everything is shown: what is never
-- printed is under `Unshown`, and a mark that is printed though the tree lacks it is `Added`.
use Rattle.std.specs.Prelude.{List, [], Option, Some}
use Rattle.syn_grammar.specs.Words.{comma}
use Rattle.syn_grammar.specs.Tokens.{Paren, Bracket, Stream, end}
use Rattle.syn_grammar.specs.Tokens as grammar
use Rattle.syn_grammar.specs.Grammar.{Syntax, Nothing, Both, Left, Right, Node, Captured, Added, added, spell}
use Rattle.syn_grammar.specs.Promises.{itself}
use Rattle.syn_tokens.specs.Leaves.{maybe, syntax_of_apostrophe}
use Rattle.syn_tokens.specs.Kinds.{and_syntax, comma_syntax, const_syntax, mut_syntax, not_syntax, semi_syntax, star_syntax}
use Rattle.syn_tokens.specs.Listing.{list_of}
use Rattle.syn_tokens.specs.declared.lifetime.Lifetime.{Lifetime}
use Rattle.syn_lower.specs.Parts.{or_else, group_syntax}
use Rattle.syn_lower.specs.QualifiedPaths.{syntax_of_TypePath}
use Rattle.syn_lower.specs.declared.ty.Type.TheVariants as Type-m
use Rattle.syn_lower.specs.declared.ty.TypeArray.TheInside as TypeArray-in
use Rattle.syn_lower.specs.declared.ty.TypeGroup.TheInside as TypeGroup-in
use Rattle.syn_lower.specs.declared.ty.TypeNever.TheInside as TypeNever-in
use Rattle.syn_lower.specs.declared.ty.TypeParen.TheInside as TypeParen-in
use Rattle.syn_lower.specs.declared.ty.TypePath.TheInside as TypePath-in
use Rattle.syn_lower.specs.declared.ty.TypePtr.TheInside as TypePtr-in
use Rattle.syn_lower.specs.declared.ty.TypeReference.TheInside as TypeReference-in
use Rattle.syn_lower.specs.declared.ty.TypeSlice.TheInside as TypeSlice-in
use Rattle.syn_lower.specs.declared.ty.TypeTuple.TheInside as TypeTuple-in

-- A type, by the alternatives of its rule; a type of a field named `_` is kept verbatim.
abbrev pub syntax_of_Type : Type-m.the_data → Syntax
syntax_of_Type (Type-m.Reference t) = Node (Left t)
syntax_of_Type (Type-m.Ptr t) = Node (Right (Left t))
syntax_of_Type (Type-m.Paren t) = Node (Right (Right (Left t)))
syntax_of_Type (Type-m.Tuple t) = Node (Right (Right (Left t)))
syntax_of_Type (Type-m.Slice t) = Node (Right (Right (Right (Left t))))
syntax_of_Type (Type-m.Array t) = Node (Right (Right (Right (Left t))))
syntax_of_Type (Type-m.Never t) = Node (Right (Right (Right (Right (Left t)))))
syntax_of_Type (Type-m.Group t) = Node (Right (Right (Right (Right (Right (Left t))))))
syntax_of_Type (Type-m.Path t) = Node (Right (Right (Right (Right (Right (Right (syntax_of_TypePath t)))))))
syntax_of_Type (Type-m.Verbatim tokens) = Node (Captured Nothing tokens)

abbrev pub syntax_of_lifetime : Lifetime → Syntax
syntax_of_lifetime l = syntax_of_apostrophe (l.apostrophe, l.ident)

abbrev pub view_TypeArray : TypeArray-in.Inside → Syntax
view_TypeArray a = group_syntax Bracket a.bracket_token (Both (syntax_of_Type a.elem.value) (Left (Both (semi_syntax a.semi_token) a.len)))

abbrev pub view_TypeGroup : TypeGroup-in.Inside → Syntax
view_TypeGroup a = group_syntax grammar.None a.group_token (syntax_of_Type a.elem.value)

abbrev pub view_TypeNever : TypeNever-in.Inside → Syntax
view_TypeNever a = not_syntax a.bang_token

abbrev pub view_TypeParen : TypeParen-in.Inside → Syntax
view_TypeParen a = group_syntax Paren a.paren_token (Node (Right (Both (syntax_of_Type a.elem.value) (Right Nothing))))

-- what it holds; `syntax_of_TypePath` is what that represents
abbrev pub view_TypePath : TypePath-in.Inside → Syntax
view_TypePath a = Node (Both (maybe itself a.qself) a.path)

-- `const` or `mut`; a tree made by hand may hold both, or none
abbrev pub pointer_words : Syntax → Syntax → Syntax
pointer_words (Left const_token) (Right Nothing) = Left const_token
pointer_words (Right Nothing) (Left mutability) = Right mutability
pointer_words const_token mutability = Both const_token mutability

abbrev pub view_TypePtr : TypePtr-in.Inside → Syntax
view_TypePtr a =
    Both (star_syntax a.star_token) (Both (pointer_words (maybe const_syntax a.const_token) (maybe mut_syntax a.mutability)) (syntax_of_Type a.elem.value))

abbrev pub view_TypeReference : TypeReference-in.Inside → Syntax
view_TypeReference a =
    Both (and_syntax a.and_token) (Both (maybe syntax_of_lifetime a.lifetime) (Both (maybe mut_syntax a.mutability) (syntax_of_Type a.elem.value)))

abbrev pub view_TypeSlice : TypeSlice-in.Inside → Syntax
view_TypeSlice a = group_syntax Bracket a.bracket_token (Both (syntax_of_Type a.elem.value) (Right Nothing))

-- The types of a tuple. After one alone a comma is printed in any case, as it would be a type in parentheses without.
abbrev pub tuple_elements : Syntax → Syntax
tuple_elements (Node (Right (Both s (Right Nothing)))) = Node (Right (Both s (Added comma)))
tuple_elements s = s

-- that comma, as it is printed
abbrev pub lone_comma : {T P : Type 0} → List (T × P) → Option T → Stream
lone_comma [] (Some t) = spell (added comma) end
lone_comma l o = end

abbrev pub view_TypeTuple : TypeTuple-in.Inside → Syntax
view_TypeTuple a = group_syntax Paren a.paren_token (tuple_elements (list_of syntax_of_Type comma_syntax a.elems.pairs a.elems.last))
