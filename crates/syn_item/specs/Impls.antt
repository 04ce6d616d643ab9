-- THE SYNTAX OF IMPLS AND THEIR MEMBERS, one level at a time, every field.
use Rattle.std.specs.Prelude.{Bool, false, true}
use Rattle.syn_grammar.specs.Tokens.{Brace, or, pick}
use Rattle.syn_grammar.specs.Rules.{impl_const, impl_function, impl_macro_as_item, impl_type, kept_impl_item, self_type}
use Rattle.syn_grammar.specs.Shape.{untagged}
use Rattle.syn_grammar.specs.Grammar.{Syntax, Nothing, Both, Left, Right, Node, Vanishing, Case, Captured, Shaped, Impl, led_part, renew}
use Rattle.syn_grammar.specs.Promises.{itself}
use Rattle.syn_tokens.specs.InOrder.{pair_of}
use Rattle.syn_tokens.specs.Kinds.{colon_syntax, const_syntax, default_syntax, eq_syntax, for_syntax, impl_syntax, not_syntax, semi_syntax, type_syntax, unsafe_syntax}
use Rattle.syn_tokens.specs.Leaves.{maybe, syntax_of_ident}
use Rattle.syn_lower.specs.Attributes.{attributes_syntax}
use Rattle.syn_lower.specs.Bodies.{attributes_before_body, attributes_in_body, body}
use Rattle.syn_lower.specs.Generics.{clause_of}
use Rattle.syn_lower.specs.Parts.{first, group_syntax}
use Rattle.syn_lower.specs.Types.{syntax_of_Type}
use Rattle.syn_tree.specs.Modifiers.{syntax_of_ConstModifiers, syntax_of_FnModifiers, syntax_of_TypeModifiers}
use Rattle.syn_tree.specs.Restriction.{syntax_of_Visibility}
use Rattle.syn_item.specs.Macros.{among_members}
use Rattle.syn_item.specs.Parts.{generics_aside, members_of}
use Rattle.syn_item.specs.declared.impls.ImplItem.TheVariants as ImplItem-m
use Rattle.syn_item.specs.declared.impls.ImplItemConst.TheInside as ImplItemConst-in
use Rattle.syn_item.specs.declared.impls.ImplItemFn.TheInside as ImplItemFn-in
use Rattle.syn_item.specs.declared.impls.ImplItemType.TheInside as ImplItemType-in
use Rattle.syn_item.specs.declared.impls.ItemImpl.TheInside as ItemImpl-in

-- MEMBERS

abbrev pub syntax_of_ImplItem : ImplItem-m.the_data → Syntax
syntax_of_ImplItem (ImplItem-m.Const t) = Node (Case impl_const t)
syntax_of_ImplItem (ImplItem-m.Fn t) = Node (Case impl_function t)
syntax_of_ImplItem (ImplItem-m.Ty t) = Node (Case impl_type t)
syntax_of_ImplItem (ImplItem-m.Macro t) = Node (Case impl_macro_as_item (among_members t))
syntax_of_ImplItem (ImplItem-m.Verbatim tokens) = Node (Case kept_impl_item (Captured Nothing tokens))

-- generics are never printed
abbrev pub view_ImplItemConst : ImplItemConst-in.Inside → Syntax
view_ImplItemConst a =
    Both (attributes_syntax a.attrs.items) (Both (syntax_of_Visibility a.vis)
    (Both (syntax_of_ConstModifiers a.modifiers) (Both (const_syntax a.const_token) (Both (syntax_of_ident a.ident) (Both (generics_aside a.generics)
    (Both (colon_syntax a.colon_token) (Both (syntax_of_Type a.ty) (Both (eq_syntax a.eq_token) (Both a.expr (semi_syntax a.semi_token))))))))))

abbrev pub syntax_of_ImplItemConst : Syntax → Syntax
syntax_of_ImplItemConst = Node

abbrev pub view_ImplItemFn : ImplItemFn-in.Inside → Syntax
view_ImplItemFn a =
    Both (attributes_before_body a.attrs.items) (Both (syntax_of_Visibility a.vis) (Both (syntax_of_FnModifiers a.modifiers) (Both a.sig (body a.attrs.items a.block))))

abbrev pub syntax_of_ImplItemFn : Syntax → Syntax
syntax_of_ImplItemFn = Node

abbrev pub view_ImplItemType : ImplItemType-in.Inside → Syntax
view_ImplItemType a =
    Both (attributes_syntax a.attrs.items) (Both (syntax_of_Visibility a.vis)
    (Both (syntax_of_TypeModifiers a.modifiers) (Both (type_syntax a.type_token) (Both (syntax_of_ident a.ident) (Both (first a.generics)
    (Both (eq_syntax a.eq_token) (Both (syntax_of_Type a.ty) (Both (clause_of a.generics) (semi_syntax a.semi_token)))))))))

abbrev pub syntax_of_ImplItemType : Syntax → Syntax
syntax_of_ImplItemType = Node

-- IMPLS

-- generics without the mark that they aren't printed where they are empty: before an impl's self type they may be
abbrev pub kept_list : Syntax → Syntax
kept_list (Node (Vanishing b s)) = s
kept_list s = s

-- A part in which no self type is, as that is looked for: a path, a type and a where clause hold none. (Of their syntax alone that isn't
-- known. What looks marked already is marked once more, so that no two parts become the same.)
abbrev pub is_shaped : Syntax → Bool
is_shaped (Shaped j s) = true
is_shaped s = false

abbrev pub without_self_type : Syntax → Syntax
without_self_type s = pick (or (is_shaped s) (led_part (renew s))) (Shaped untagged s) s

-- `for` and the self type
abbrev pub for_type : Syntax → Syntax → Syntax
for_type for_token ty = Node (Both for_token (Case self_type (without_self_type ty)))

-- an impl without a trait, after its generics: the never type, a plain path or another type, and the rest
abbrev pub inherent : Syntax → Syntax → Syntax
inherent (Node (Right (Right (Right (Right (Left bang)))))) rest = Left (Both (without_self_type bang) (Left rest))
inherent (Node (Right (Right (Right (Right (Right (Right (Node (Right path))))))))) rest = Right (Left (Both (without_self_type path) (Both (Right Nothing) rest)))
inherent ty rest = Right (Right (Both (without_self_type ty) rest))

-- what follows an impl's generics. (Without a trait no `!` is read.)
abbrev pub implemented : Syntax → Syntax → Syntax → Syntax → Syntax
implemented (Right Nothing) (Right Nothing) ty rest = inherent ty rest
implemented (Right Nothing) (Left (Both path for_token)) ty rest = Right (Left (Both (without_self_type path) (Both (Left (for_type for_token ty)) rest)))
implemented (Left bang) (Left (Both path for_token)) ty rest = Left (Both bang (Right (Both (without_self_type path) (Both (for_type for_token ty) rest))))
implemented (Left bang) s ty rest = Left (Both bang (Both (without_self_type ty) rest))
implemented polarity trait_path ty rest = Both polarity (Both trait_path (Both ty rest))

abbrev pub view_ItemImpl : ItemImpl-in.Inside → Syntax
view_ItemImpl a =
    Both (attributes_before_body a.attrs.items)
    (Node (Both (maybe default_syntax a.modifiers.defaultness) (Both (maybe const_syntax a.modifiers.constness) (Both (maybe unsafe_syntax a.unsafety) (Both (impl_syntax a.impl_token)
    (Impl (kept_list (first a.generics)) (implemented (maybe not_syntax a.modifiers.polarity) (maybe (pair_of itself for_syntax) a.trait_) (syntax_of_Type a.self_ty.value)
    (Node (Both (without_self_type (clause_of a.generics)) (group_syntax Brace a.brace_token (Both (attributes_in_body a.attrs.items) (members_of syntax_of_ImplItem a.items.items))))))))))))

abbrev pub syntax_of_ItemImpl : Syntax → Syntax
syntax_of_ItemImpl = Node

-- of an impl, the generics and what follows them; and that alone
abbrev pub after_impl : Syntax → Syntax
after_impl (Both attrs (Node (Both defaultness (Both constness (Both unsafety (Both impl_token s)))))) = s
after_impl s = s

abbrev pub after_list : Syntax → Syntax
after_list (Impl l s) = s
after_list s = s

abbrev pub after_generics : Syntax → Syntax
after_generics s = after_list (after_impl s)
