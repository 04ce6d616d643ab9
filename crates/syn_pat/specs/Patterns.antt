-- THE SYNTAX OF PATTERNS, one level at a time, every field.
use Rattle.std.specs.Prelude.{Option}
use Rattle.syn_grammar.specs.Tokens.{Paren}
use Rattle.syn_grammar.specs.Promises.{itself}
use Rattle.syn_grammar.specs.Grammar.{Syntax, Nothing, Both, Left, Right, Node, Unshown}
use Rattle.syn_tokens.specs.Leaves.{maybe, syntax_of_ident}
use Rattle.syn_tokens.specs.Kinds.{colon_syntax, comma_syntax, mut_syntax, ref_syntax, underscore_syntax}
use Rattle.syn_tokens.specs.Listing.{list_of}
use Rattle.syn_lower.specs.Attributes.{attributes_syntax}
use Rattle.syn_lower.specs.Parts.{group_syntax}
use Rattle.syn_lower.specs.QualifiedPaths.{syntax_of_TypePath}
use Rattle.syn_lower.specs.Types.{syntax_of_Type, tuple_elements}
use Rattle.syn_pat.specs.declared.pat.Pat.TheVariants as Pat-m
use Rattle.syn_pat.specs.declared.pat.PatIdent.TheInside as PatIdent-in
use Rattle.syn_pat.specs.declared.pat.PatParen.TheInside as PatParen-in
use Rattle.syn_pat.specs.declared.pat.PatPath.TheInside as PatPath-in
use Rattle.syn_pat.specs.declared.pat.PatTuple.TheInside as PatTuple-in
use Rattle.syn_pat.specs.declared.pat.PatTupleStruct.TheInside as PatTupleStruct-in
use Rattle.syn_pat.specs.declared.pat.PatType.TheInside as PatType-in
use Rattle.syn_pat.specs.declared.pat.PatWild.TheInside as PatWild-in

-- A pattern, by the alternatives of its rule. One with its type is only in a local, which determines its parts.
abbrev pub in_parentheses : Syntax → Syntax
in_parentheses s = Node (Right (Left s))

abbrev pub by_path : Syntax → Syntax
by_path s = Node (Right (Right (Left s)))

abbrev pub syntax_of_Pat : Pat-m.the_data → Syntax
syntax_of_Pat (Pat-m.Wild p) = Node (Left p)
syntax_of_Pat (Pat-m.Paren p) = in_parentheses p
syntax_of_Pat (Pat-m.Tuple p) = in_parentheses p
syntax_of_Pat (Pat-m.Path p) = by_path (Both p (Right Nothing))
syntax_of_Pat (Pat-m.TupleStruct p) = by_path p
syntax_of_Pat (Pat-m.Ident p) = Node (Right (Right (Right p)))
syntax_of_Pat (Pat-m.Ty p) = p

-- what follows attributes, which no parser gives a pattern
abbrev pub after_attributes : Syntax → Syntax → Syntax
after_attributes (Node (Right (Unshown Nothing))) s = s
after_attributes attrs s = Both attrs s

-- a name alone, or after `ref` or `mut`
abbrev pub bound_name : Syntax → Syntax → Syntax → Syntax
bound_name (Right Nothing) (Right Nothing) name = Right (Both name (Right Nothing))
bound_name by_ref mutability name = Left (Both by_ref (Both mutability name))

abbrev pub view_PatIdent : PatIdent-in.Inside → Syntax
view_PatIdent a = bound_name (maybe ref_syntax a.by_ref) (maybe mut_syntax a.mutability) (syntax_of_ident a.ident)

abbrev pub view_PatParen : PatParen-in.Inside → Syntax
view_PatParen a = group_syntax Paren a.paren_token (Node (Right (Both (syntax_of_Pat a.pat.value) (Right Nothing))))

-- a path, of what a value holds
abbrev pub path_of : Option Syntax → Syntax → Syntax
path_of qself path = syntax_of_TypePath (Node (Both (maybe itself qself) path))

abbrev pub view_PatPath : PatPath-in.Inside → Syntax
view_PatPath a = path_of a.qself a.path

abbrev pub view_PatTuple : PatTuple-in.Inside → Syntax
view_PatTuple a = group_syntax Paren a.paren_token (tuple_elements (list_of syntax_of_Pat comma_syntax a.elems.pairs a.elems.last))

abbrev pub view_PatTupleStruct : PatTupleStruct-in.Inside → Syntax
view_PatTupleStruct a = Both (path_of a.qself a.path) (Left (group_syntax Paren a.paren_token (list_of syntax_of_Pat comma_syntax a.elems.pairs a.elems.last)))

abbrev pub view_PatType : PatType-in.Inside → Syntax
view_PatType a = after_attributes (attributes_syntax a.attrs.items) (Both (syntax_of_Pat a.pat.value) (Left (Both (colon_syntax a.colon_token) (syntax_of_Type a.ty.value))))

abbrev pub view_PatWild : PatWild-in.Inside → Syntax
view_PatWild a = after_attributes (attributes_syntax a.attrs.items) (underscore_syntax a.underscore_token)

-- a pattern, with its type or without one
abbrev pub local_pattern : Syntax → Syntax
local_pattern (Node s) = Both (Node s) (Right Nothing)
local_pattern s = s
