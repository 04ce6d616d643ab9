-- THE SYNTAX OF PATHS AND THEIR ARGUMENTS, one level at a time, every field.
use Rattle.std.specs.Prelude.{Bool, true, false, []}
use Rattle.std.proofs.Common.{◌≡◌, refl, sym, true≢false}
use Rattle.syn_grammar.specs.Shape.{untagged}
use Rattle.syn_grammar.specs.Tokens.{Paren}
use Rattle.syn_grammar.specs.Grammar.{Grammar, token, name_or, ◌&◌, shaped, Syntax, Nothing, Lifetime, Both, Left, Right, Node, Shaped, Order}
use Rattle.syn_grammar.specs.Run.{marks_of}
use Rattle.syn_grammar.specs.Same.{same_syntax}
use Rattle.syn_grammar.specs.Table.{no_arguments}
use Rattle.syn_tokens.specs.Leaves.{maybe, syntax_of_ident}
use Rattle.syn_tokens.specs.Kinds.{as_syntax, comma_syntax, eq_syntax, gt_syntax, lt_syntax, path_sep_syntax, r_arrow_syntax}
use Rattle.syn_tokens.specs.Listing.{list_of}
use Rattle.syn_parse.specs.FirstTokens.{path_words}
use Rattle.syn_lower.specs.Parts.{group_syntax}
use Rattle.syn_lower.specs.Ordered.{ordered_of}
use Rattle.syn_lower.specs.QualifiedPaths.{count}
use Rattle.syn_lower.specs.Types.{syntax_of_lifetime, syntax_of_Type}
use Rattle.syn_lower.specs.declared.path.PathSegment.TheInside as PathSegment-in
use Rattle.syn_lower.specs.declared.path.PathArguments.TheVariants as PathArguments-m
use Rattle.syn_lower.specs.declared.path.AngleBracketedGenericArguments.TheInside as AngleBracketedGenericArguments-in
use Rattle.syn_lower.specs.declared.path.ParenthesizedGenericArguments.TheInside as ParenthesizedGenericArguments-in
use Rattle.syn_lower.specs.declared.path.GenericArgument.TheVariants as GenericArgument-m
use Rattle.syn_lower.specs.declared.path.AssocType.TheInside as AssocType-in
use Rattle.syn_lower.specs.declared.path.ReturnType.TheVariants as ReturnType-m
use Rattle.syn_lower.specs.declared.path.QSelf.TheInside as QSelf-in

-- a word of a path in module style
abbrev pub segment_form : Grammar
segment_form = shaped untagged (token [] (name_or path_words) & no_arguments)

abbrev pub syntax_of_PathArguments : PathArguments-m.the_data → Syntax
syntax_of_PathArguments PathArguments-m.None = Shaped untagged Nothing
syntax_of_PathArguments (PathArguments-m.Parenthesized a) = Shaped untagged (Node (Left a))
syntax_of_PathArguments (PathArguments-m.AngleBracketed a) = Shaped untagged (Node (Right a))

-- a path's word and its arguments
abbrev pub view_PathSegment : PathSegment-in.Inside → Syntax
view_PathSegment a = Shaped untagged (Both (syntax_of_ident a.ident) (syntax_of_PathArguments a.arguments))

abbrev pub syntax_of_GenericArgument : GenericArgument-m.the_data → Syntax
syntax_of_GenericArgument (GenericArgument-m.Lifetime l) = syntax_of_lifetime l
syntax_of_GenericArgument (GenericArgument-m.AssocType a) = Node (Left a)
syntax_of_GenericArgument (GenericArgument-m.Const e) = Node (Right (Left e))
syntax_of_GenericArgument (GenericArgument-m.Ty t) = Node (Right (Right (syntax_of_Type t)))

abbrev pub view_AssocType : AssocType-in.Inside → Syntax
view_AssocType a = Both (syntax_of_ident a.ident) (Both (eq_syntax a.eq_token) (syntax_of_Type a.ty))

-- of generic arguments, lifetimes are printed first
abbrev pub is_lifetime : Syntax → Bool
is_lifetime (Lifetime sp x sq) = true
is_lifetime s = false

pub lifetimes_apart : (s t : Syntax) → same_syntax s t ≡ true → is_lifetime s ≡ is_lifetime t
lifetimes_apart (Lifetime sp x sq) (Lifetime so y sr) h = refl
lifetimes_apart (Lifetime sp x sq) t h = absurd (true≢false (sym h))
lifetimes_apart s (Lifetime so y sr) h = absurd (true≢false (sym h))
lifetimes_apart s t h = refl

abbrev pub view_AngleBracketedGenericArguments : AngleBracketedGenericArguments-in.Inside → Syntax
view_AngleBracketedGenericArguments a =
    Both (maybe path_sep_syntax a.colon2_token)
    (Node (Order (marks_of (lt_syntax a.lt_token)) (ordered_of is_lifetime (list_of syntax_of_GenericArgument comma_syntax a.args.pairs a.args.last)) (marks_of (gt_syntax a.gt_token))))

abbrev pub syntax_of_ReturnType : ReturnType-m.the_data → Syntax
syntax_of_ReturnType ReturnType-m.«Default» = Node (Right Nothing)
syntax_of_ReturnType (ReturnType-m.Ty arrow ty) = Node (Left (Both (r_arrow_syntax arrow) (syntax_of_Type ty.value)))

abbrev pub view_ParenthesizedGenericArguments : ParenthesizedGenericArguments-in.Inside → Syntax
view_ParenthesizedGenericArguments a =
    Both (group_syntax Paren a.paren_token (list_of syntax_of_Type comma_syntax a.inputs.pairs a.inputs.last)) (syntax_of_ReturnType a.output)

-- what it holds: the number of the words in `< >` is under a mark that is never printed
abbrev pub view_QSelf : QSelf-in.Inside → Syntax
view_QSelf a = Both (lt_syntax a.lt_token) (Both (syntax_of_Type a.ty.value) (Both (count a.position) (Both (maybe as_syntax a.as_token) (gt_syntax a.gt_token))))
