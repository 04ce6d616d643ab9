-- THE SYNTAX OF BOUNDS, one level at a time, every field.
use Rattle.std.specs.Prelude.{[], Option, Some, None}
use Rattle.syn_grammar.specs.Words.{colon}
use Rattle.syn_grammar.specs.Tokens.{Paren, pick}
use Rattle.syn_grammar.specs.Grammar.{Syntax, Nothing, Both, Left, Right, Node, Group, Added, bare}
use Rattle.syn_grammar.specs.Promises.{itself}
use Rattle.syn_tokens.specs.Kinds.{Paren as ParenToken, comma_syntax, for_syntax, gt_syntax, lt_syntax, question_syntax}
use Rattle.syn_tokens.specs.Leaves.{maybe}
use Rattle.syn_tokens.specs.Listing.{list_of}
use Rattle.syn_lower.specs.Parts.{group_syntax, or_added}
use Rattle.syn_lower.specs.Types.{syntax_of_lifetime}
use Rattle.syn_lower.specs.declared.bounds.BoundLifetimes.TheInside as BoundLifetimes-in
use Rattle.syn_lower.specs.declared.bounds.TypeParamBound.TheVariants as TypeParamBound-m
use Rattle.syn_lower.specs.declared.bounds.TraitBound.TheInside as TraitBound-in
use Rattle.syn_lower.specs.declared.bounds.TraitBoundModifier.TheVariants as TraitBoundModifier-m

-- LISTS OF BOUNDS

-- a list that continues where one of its members is next, and not up to what ends it: the sides of its choice are the other way
-- round
abbrev pub turned : Syntax → Syntax
turned (Node (Left Nothing)) = Node (Right Nothing)
turned (Node (Right (Both s (Right Nothing)))) = Node (Left (Both s (Right Nothing)))
turned (Node (Right (Both s (Left (Both separator l))))) = Node (Left (Both s (Left (Both separator (turned l)))))
turned s = s

-- A list that is printed with what is before it wherever it has a member, also where its members show nothing, as only paths
-- without words do.
unfoldable pub solid : Syntax → Syntax
solid (Node (Left Nothing)) = Node (Left Nothing)
solid l = pick (bare l) (Both (Added []) l) l

-- a parameter's colon and bounds: neither; or bounds, before which a colon is printed though there is none
abbrev pub after_colon : Syntax → Syntax → Syntax
after_colon (Right s) (Node (Left Nothing)) = Right Nothing
after_colon (Right s) (Node (Right Nothing)) = Right Nothing
after_colon colon_token bounds = Left (Both (or_added colon colon_token) bounds)

-- A BOUND

abbrev pub view_BoundLifetimes : BoundLifetimes-in.Inside → Syntax
view_BoundLifetimes a = Both (for_syntax a.for_token) (Node (Both (lt_syntax a.lt_token) (Both (list_of itself comma_syntax a.lifetimes.pairs a.lifetimes.last) (gt_syntax a.gt_token))))

abbrev pub syntax_of_TraitBoundModifier : TraitBoundModifier-m.the_data → Syntax
syntax_of_TraitBoundModifier TraitBoundModifier-m.None = Right Nothing
syntax_of_TraitBoundModifier (TraitBoundModifier-m.Maybe m) = Left (question_syntax m)

-- a trait, without parentheses around it
abbrev pub trait_syntax : TraitBoundModifier-m.the_data × Option Syntax × Syntax → Syntax
trait_syntax p = Node (Both (syntax_of_TraitBoundModifier p.0) (Both (maybe itself p.1) p.2))

-- in parentheses or not
abbrev pub perhaps_grouped : Option ParenToken → Syntax → Syntax
perhaps_grouped (Some p) s = Left (group_syntax Paren p s)
perhaps_grouped None s = Right s

abbrev pub view_TraitBound : TraitBound-in.Inside → Syntax
view_TraitBound a = perhaps_grouped a.paren_token (trait_syntax (a.modifier, a.lifetimes, a.path))

abbrev pub syntax_of_TypeParamBound : TypeParamBound-m.the_data → Syntax
syntax_of_TypeParamBound (TypeParamBound-m.Lifetime l) = Node (Left (syntax_of_lifetime l))
syntax_of_TypeParamBound (TypeParamBound-m.Trait t) = Node (Right t)

-- of a bound in parentheses or not, what is inside
abbrev pub inner : Syntax → Syntax
inner (Left (Group d o c s)) = s
inner (Right s) = s
inner s = s
