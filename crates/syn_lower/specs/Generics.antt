-- THE SYNTAX OF GENERICS, one level at a time, every field.
use Rattle.std.specs.Prelude.{◌≡◌, ℕ, Bool, true, false, List, [], ◌∷◌, Option, Some, None}
use Rattle.syn_grammar.specs.Tokens.{Span}
use Rattle.syn_grammar.specs.Grammar.{Syntax, Nothing, Both, Left, Right, Node, Vanishing, Unshown, Done, Order}
use Rattle.syn_grammar.specs.Promises.{itself}
use Rattle.syn_grammar.specs.Run.{last, marks_of, more, span_of}
use Rattle.syn_tokens.specs.Kinds.{Colon, Comma, Gt, Lt, Plus, colon_syntax, comma_syntax, const_syntax, eq_syntax, gt_syntax, lt_syntax, plus_syntax}
use Rattle.syn_tokens.specs.Leaves.{maybe, syntax_of_ident}
use Rattle.syn_tokens.specs.Listing.{list_of}
use Rattle.syn_tokens.specs.Lists.{Sequence}
use Rattle.syn_tokens.specs.declared.lifetime.Lifetime.{Lifetime}
use Rattle.syn_lower.specs.Attributes.{attributes_syntax}
use Rattle.syn_lower.specs.Bounds.{after_colon, solid, syntax_of_TypeParamBound, turned}
use Rattle.syn_lower.specs.Parts.{or_else}
use Rattle.syn_lower.specs.Types.{syntax_of_Type, syntax_of_lifetime}
use Rattle.syn_lower.specs.declared.bounds.TypeParamBound.TheVariants as TypeParamBound-m
use Rattle.syn_lower.specs.declared.generics.LifetimeParam.TheInside as LifetimeParam-in
use Rattle.syn_lower.specs.declared.generics.TypeParam.TheInside as TypeParam-in
use Rattle.syn_lower.specs.declared.generics.ConstParam.TheInside as ConstParam-in
use Rattle.syn_lower.specs.declared.generics.GenericParam.TheVariants as GenericParam-m
use Rattle.syn_lower.specs.declared.generics.Generics.TheInside as Generics-in

-- PARAMETERS

-- a colon and lifetimes, where there are some
abbrev pub lifetime_bounds_syntax : Option Colon × Sequence Lifetime Plus → Syntax
lifetime_bounds_syntax p = Vanishing false (after_colon (maybe colon_syntax p.0) (turned (list_of syntax_of_lifetime plus_syntax p.1.pairs p.1.last)))

abbrev pub view_LifetimeParam : LifetimeParam-in.Inside → Syntax
view_LifetimeParam a = Node (Both (attributes_syntax a.attrs.items) (Both (syntax_of_lifetime a.lifetime) (lifetime_bounds_syntax (a.colon_token, a.bounds))))

-- a parameter's `=` and default: neither, one of them, or both
abbrev pub default_of : Syntax → Syntax → Syntax
default_of (Right s) (Right t) = Right Nothing
default_of (Left sign) (Right t) = Left sign
default_of sign (Left value) = Left (Both (or_else Nothing sign) value)
default_of s t = Both s t

-- a colon and bounds, where there are some
abbrev pub bounds_syntax : Option Colon × Sequence TypeParamBound-m.the_data Plus → Syntax
bounds_syntax p = Vanishing false (after_colon (maybe colon_syntax p.0) (solid (list_of syntax_of_TypeParamBound plus_syntax p.1.pairs p.1.last)))

abbrev pub view_TypeParam : TypeParam-in.Inside → Syntax
view_TypeParam a =
    Both (attributes_syntax a.attrs.items)
    (Right (Both (syntax_of_ident a.ident) (Both (bounds_syntax (a.colon_token, a.bounds)) (default_of (maybe eq_syntax a.eq_token) (maybe syntax_of_Type a.default)))))

abbrev pub view_ConstParam : ConstParam-in.Inside → Syntax
view_ConstParam a =
    Both (attributes_syntax a.attrs.items)
    (Left (Both (const_syntax a.const_token) (Both (syntax_of_ident a.ident) (Both (colon_syntax a.colon_token) (Both (syntax_of_Type a.ty) (default_of (maybe eq_syntax a.eq_token) (maybe itself a.default)))))))

-- a lifetime is of the first of the two forms of a parameter, all others are of the second
abbrev pub syntax_of_GenericParam : GenericParam-m.the_data → Syntax
syntax_of_GenericParam (GenericParam-m.Lifetime p) = Left p
syntax_of_GenericParam (GenericParam-m.Ty p) = Right p
syntax_of_GenericParam (GenericParam-m.Const p) = Right p

-- a parameter, without the comma after it
abbrev pub param_of : GenericParam-m.the_data × Comma → Syntax
param_of x = syntax_of_GenericParam x.0

-- GENERICS

-- a list of such members, as lists are read of which those of the first form are printed first
abbrev pub as_row : Syntax → Syntax
as_row (Node (Left Nothing)) = Done
as_row (Node (Right (Both s (Right Nothing)))) = last s
as_row (Node (Right (Both s (Left (Both comma l))))) = more s (span_of comma) (as_row l)
as_row s = s

-- the characters of a sign, none where it is absent
abbrev pub sign_of : Syntax → List (ℕ × Span)
sign_of (Left sign) = marks_of sign
sign_of s = []

-- it has some character
abbrev pub is_written : List (ℕ × Span) → Bool
is_written [] = false
is_written (x ∷ l) = true

abbrev pub present : {X : Type 0} → Option X → Bool
present None = false
present (Some x) = true

-- a sign that is there is written
abbrev pub LtPresent : Option Lt → Type 0
LtPresent lt_token = is_written (sign_of (maybe lt_syntax lt_token)) ≡ present lt_token

abbrev pub GtPresent : Option Gt → Type 0
GtPresent gt_token = is_written (sign_of (maybe gt_syntax gt_token)) ≡ present gt_token

abbrev pub no_parameters : Syntax
no_parameters = Node (Vanishing false (Right Nothing))

-- `<`, parameters and `>`
abbrev pub parameters_of : Syntax → Syntax → Syntax → Syntax
parameters_of (Right s) (Node (Left Nothing)) (Right t) = no_parameters
parameters_of lt_token params gt_token = Node (Vanishing false (Left (Order (sign_of lt_token) (as_row params) (sign_of gt_token))))

-- a where clause, which isn't printed with the parameters
abbrev pub clause_aside : Syntax → Syntax
clause_aside (Left clause) = Unshown (Left clause)
clause_aside s = Unshown Nothing

abbrev pub view_Generics : Generics-in.Inside → Syntax
view_Generics a =
    Both (parameters_of (maybe lt_syntax a.lt_token) (list_of syntax_of_GenericParam comma_syntax a.params.pairs a.params.last) (maybe gt_syntax a.gt_token)) (clause_aside (maybe itself a.where_clause))

-- THE WHERE CLAUSE OF AN ITEM, which is separate from its generics

abbrev pub no_clause : Syntax
no_clause = Node (Vanishing false (Right Nothing))

abbrev pub where_part : Option Syntax → Syntax
where_part clause = or_else no_clause (maybe itself clause)

-- the where clause that generics hold
abbrev pub clause_of : Syntax → Syntax
clause_of (Both params (Unshown Nothing)) = no_clause
clause_of (Both params (Unshown (Left clause))) = clause
clause_of s = s
