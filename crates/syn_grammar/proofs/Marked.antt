-- The marks of the plans are in the right places.
use Rattle.std.proofs.Common.{false, refl}
use Rattle.syn_grammar.specs.Grammar.{Syntax}
use Rattle.syn_grammar.specs.Plan.{Marked}
use Rattle.syn_grammar.specs.ItemPlan.{public, unwritten, plain, inherited, kept_end, function_end, signature_end, abi_and_signature, struct_plan, enum_plan, union_plan, type_plan, static_plan, use_plan, module_plan, trait_end, trait_plan, trait_or_alias, const_trait_or_alias, const_plan, definition_plan, kept_impl, impl_types, impl_generics, impl_plan, visible_impl, const_impl_plan, extern_plan, extern_crate_plan, restricted_end, bare_impl_plan, unsafe_plan, following_const, macro_plan, other_plan, after_visibility, item_after, item_plan}
use Rattle.syn_grammar.specs.MemberPlans.{function_after_const, kept_const, kept_function, marked_plan, trait_function_end, trait_const_plan, trait_item_plan, impl_function_end, impl_const_plan, impl_type_plan, impl_const_or_function, impl_member_plan, impl_macro_plan, impl_item_plan, foreign_function_end, foreign_static_plan, foreign_type_plan, safety_plan, foreign_member_plan, foreign_macro_plan, foreign_item_plan, PlansMarked}

public_marked : (a v : Syntax) → Marked false (after_visibility public a v)
unfolding kept_end function_end signature_end abi_and_signature struct_plan enum_plan union_plan type_plan static_plan use_plan module_plan trait_end trait_plan trait_or_alias const_trait_or_alias const_plan definition_plan kept_impl impl_types impl_generics impl_plan visible_impl const_impl_plan extern_plan extern_crate_plan restricted_end bare_impl_plan unsafe_plan following_const macro_plan other_plan after_visibility
public_marked a v = (λ k. λ n. λ g. λ b. refl, (λ k. λ n. λ g. λ w. λ b. refl, (λ k. λ n. λ g. λ w. λ b. refl, (λ k. λ n. λ g. ((refl, λ c. λ b. λ t. λ z. refl), λ w. (λ q. λ t. λ x. (λ z. refl, tt), (refl, λ z. refl))), (λ k. λ u. λ n. (λ c. λ t. (λ q. λ e. λ z. refl, (refl, λ z. refl)), (refl, λ q. λ e. λ z. refl)), (λ k. (λ t. ((refl, λ z. refl), λ z. refl), λ c. λ t. λ z. refl), (λ k. λ n. (λ z. refl, λ b. refl), (λ k. λ n. λ g. (λ q. λ b. λ w. λ z. refl, λ b. λ w. λ m. refl), (λ o. λ k. λ n. λ g. λ b. λ w. λ m. refl, ((refl, λ k. λ n. λ p. λ b. refl), (λ s. ((refl, λ z. refl), λ b. refl), (λ e. (λ k. λ n. λ r. λ z. refl, λ l. λ s. ((refl, λ z. refl), λ b. refl)), (λ u. (λ k. λ n. (λ z. refl, λ b. refl), (λ o. λ k. λ n. λ g. λ b. λ w. λ m. refl, (λ e. λ l. λ s. ((refl, λ z. refl), λ b. refl), λ s. ((refl, λ z. refl), λ b. refl)))), (λ c. (λ u. (λ o. λ k. λ n. λ g. λ b. λ w. λ m. refl, ((refl, λ k. λ g. (λ x. (λ b. refl, λ t. λ f. λ b. refl), λ t. λ f. λ b. refl)), λ e. λ s. ((refl, λ z. refl), λ b. refl))), (λ k. λ n. λ g. ((refl, λ q. λ b. λ w. λ z. refl), λ b. λ w. λ m. refl), (λ o. λ k. λ n. λ g. λ b. λ w. λ m. refl, ((refl, λ k. λ g. (λ x. (λ b. refl, λ t. λ f. λ b. refl), λ t. λ f. λ b. refl)), (λ y. λ u. λ e. λ s. ((refl, λ z. refl), λ b. refl), λ n. ((refl, λ g. λ c. λ t. λ e. λ w. λ z. refl), λ c. λ t. (λ q. λ e. (λ z. refl, (refl, λ w. λ z. refl)), (refl, λ w. λ z. refl)))))))), ((refl, λ k. (λ r. λ c. λ t. refl, (λ t. λ c. λ t. refl, tt))), tt)))))))))))))))

unwritten_marked : (a v : Syntax) → Marked false (after_visibility unwritten a v)
unfolding kept_end function_end signature_end abi_and_signature struct_plan enum_plan union_plan type_plan static_plan use_plan module_plan trait_end trait_plan trait_or_alias const_trait_or_alias const_plan definition_plan kept_impl impl_types impl_generics impl_plan visible_impl const_impl_plan extern_plan extern_crate_plan restricted_end bare_impl_plan unsafe_plan following_const macro_plan other_plan after_visibility
unwritten_marked a v = (λ k. λ n. λ g. λ b. refl, (λ k. λ n. λ g. λ w. λ b. refl, (λ k. λ n. λ g. λ w. λ b. refl, (λ k. λ n. λ g. ((refl, λ c. λ b. λ t. λ z. refl), λ w. (λ q. λ t. λ x. (λ z. refl, tt), (refl, λ z. refl))), (λ k. λ u. λ n. (λ c. λ t. (λ q. λ e. λ z. refl, (refl, λ z. refl)), (refl, λ q. λ e. λ z. refl)), (λ k. (λ t. ((refl, λ z. refl), λ z. refl), λ c. λ t. λ z. refl), (λ k. λ n. (λ z. refl, λ b. refl), (λ k. λ n. λ g. (λ q. λ b. λ w. λ z. refl, λ b. λ w. λ m. refl), (λ o. λ k. λ n. λ g. λ b. λ w. λ m. refl, ((refl, λ k. λ n. λ p. λ b. refl), (λ s. ((refl, λ z. refl), λ b. refl), (λ e. (λ k. λ n. λ r. λ z. refl, λ l. λ s. ((refl, λ z. refl), λ b. refl)), (λ u. (λ k. λ n. (λ z. refl, λ b. refl), (λ o. λ k. λ n. λ g. λ b. λ w. λ m. refl, (λ e. λ l. λ s. ((refl, λ z. refl), λ b. refl), λ s. ((refl, λ z. refl), λ b. refl)))), (λ c. (λ u. (λ o. λ k. λ n. λ g. λ b. λ w. λ m. refl, (tt, λ e. λ s. ((refl, λ z. refl), λ b. refl))), (λ k. λ n. λ g. ((refl, λ q. λ b. λ w. λ z. refl), λ b. λ w. λ m. refl), (λ o. λ k. λ n. λ g. λ b. λ w. λ m. refl, (tt, (λ y. λ u. λ e. λ s. ((refl, λ z. refl), λ b. refl), λ n. ((refl, λ g. λ c. λ t. λ e. λ w. λ z. refl), λ c. λ t. (λ q. λ e. (λ z. refl, (refl, λ w. λ z. refl)), (refl, λ w. λ z. refl)))))))), ((refl, λ k. (λ r. λ c. λ t. refl, (λ t. λ c. λ t. refl, tt))), tt)))))))))))))))

plain_marked : (a v : Syntax) → Marked false (after_visibility plain a v)
unfolding kept_end function_end signature_end abi_and_signature struct_plan enum_plan union_plan type_plan static_plan use_plan module_plan trait_end trait_plan trait_or_alias const_trait_or_alias const_plan definition_plan kept_impl impl_types impl_generics impl_plan visible_impl const_impl_plan extern_plan extern_crate_plan restricted_end bare_impl_plan unsafe_plan following_const macro_plan other_plan after_visibility
plain_marked a v = (λ k. λ n. λ g. λ b. refl, (λ k. λ n. λ g. λ w. λ b. refl, (λ k. λ n. λ g. λ w. λ b. refl, (λ k. λ n. λ g. ((refl, λ c. λ b. λ t. λ z. refl), λ w. (λ q. λ t. λ x. (λ z. refl, tt), (refl, λ z. refl))), (λ k. λ u. λ n. (λ c. λ t. (λ q. λ e. λ z. refl, (refl, λ z. refl)), (refl, λ q. λ e. λ z. refl)), (λ k. (λ t. ((refl, λ z. refl), λ z. refl), λ c. λ t. λ z. refl), (λ k. λ n. (λ z. refl, λ b. refl), (λ k. λ n. λ g. (λ q. λ b. λ w. λ z. refl, λ b. λ w. λ m. refl), (λ o. λ k. λ n. λ g. λ b. λ w. λ m. refl, ((refl, λ k. λ n. λ p. λ b. refl), (λ s. ((refl, λ z. refl), λ b. refl), (λ e. (λ k. λ n. λ r. λ z. refl, λ l. (λ b. refl, λ s. ((refl, λ z. refl), λ b. refl))), (λ u. (λ k. λ n. (λ z. refl, λ b. refl), (λ o. λ k. λ n. λ g. λ b. λ w. λ m. refl, (λ k. (λ g. (λ x. (λ b. refl, (λ t. λ f. λ b. refl, (refl, λ t. λ f. λ b. refl))), (λ t. λ f. λ b. refl, λ t. ((refl, λ f. λ b. refl), λ b. refl))), (λ x. (λ b. refl, (λ t. λ f. λ b. refl, (refl, λ t. λ f. λ b. refl))), (λ t. λ f. λ b. refl, λ t. ((refl, λ f. λ b. refl), λ b. refl)))), (λ e. λ l. (λ b. refl, λ s. ((refl, λ z. refl), λ b. refl)), λ s. ((refl, λ z. refl), λ b. refl))))), (λ c. (λ u. (λ o. λ k. λ n. λ g. λ b. λ w. λ m. refl, (λ k. (λ g. (λ x. (λ b. refl, (λ t. λ f. λ b. refl, (refl, λ t. λ f. λ b. refl))), (λ t. λ f. λ b. refl, λ t. ((refl, λ f. λ b. refl), λ b. refl))), (λ x. (λ b. refl, (λ t. λ f. λ b. refl, (refl, λ t. λ f. λ b. refl))), (λ t. λ f. λ b. refl, λ t. ((refl, λ f. λ b. refl), λ b. refl)))), λ e. λ s. ((refl, λ z. refl), λ b. refl))), (λ k. λ n. λ g. ((refl, λ q. λ b. λ w. λ z. refl), λ b. λ w. λ m. refl), (λ o. λ k. λ n. λ g. λ b. λ w. λ m. refl, (λ k. (λ g. (λ x. (λ b. refl, (λ t. λ f. λ b. refl, (refl, λ t. λ f. λ b. refl))), (λ t. λ f. λ b. refl, λ t. ((refl, λ f. λ b. refl), λ b. refl))), (λ x. (λ b. refl, (λ t. λ f. λ b. refl, (refl, λ t. λ f. λ b. refl))), (λ t. λ f. λ b. refl, λ t. ((refl, λ f. λ b. refl), λ b. refl)))), (λ y. λ u. λ e. λ s. ((refl, λ z. refl), λ b. refl), λ n. ((refl, λ g. λ c. λ t. λ e. λ w. λ z. refl), λ c. λ t. (λ q. λ e. (λ z. refl, (refl, λ w. λ z. refl)), (refl, λ w. λ z. refl)))))))), (λ k. ((refl, λ r. λ c. λ t. refl), (λ t. ((refl, λ f. λ b. refl), (λ b. refl, (refl, λ c. λ t. refl))), (λ g. (λ x. (λ b. refl, (λ t. λ f. λ b. refl, (refl, λ t. λ f. λ b. refl))), (λ t. λ f. λ b. refl, λ t. ((refl, λ f. λ b. refl), λ b. refl))), (λ x. (λ b. refl, (λ t. λ f. λ b. refl, (refl, λ t. λ f. λ b. refl))), (λ t. λ f. λ b. refl, λ t. ((refl, λ f. λ b. refl), λ b. refl)))))), (((tt, λ p. λ x. λ n. λ g. refl), λ d. λ c. λ u. λ k. (λ g. (λ x. (λ b. refl, (λ t. λ f. λ b. refl, (refl, λ t. λ f. λ b. refl))), (λ t. λ f. λ b. refl, λ t. ((refl, λ f. λ b. refl), λ b. refl))), (λ x. (λ b. refl, (λ t. λ f. λ b. refl, (refl, λ t. λ f. λ b. refl))), (λ t. λ f. λ b. refl, λ t. ((refl, λ f. λ b. refl), λ b. refl))))), (tt, λ p. λ x. λ n. λ g. refl)))))))))))))))))

item_marked : Marked false item_plan
unfolding item_plan item_after
item_marked a = ((λ v. public_marked a v), ((λ v. unwritten_marked a v), plain_marked a inherited))

trait_marked : Marked false trait_item_plan
unfolding kept_end function_after_const kept_const kept_function marked_plan trait_function_end trait_const_plan trait_item_plan impl_function_end impl_const_plan impl_type_plan impl_const_or_function impl_member_plan impl_macro_plan impl_item_plan foreign_function_end foreign_static_plan foreign_type_plan safety_plan foreign_member_plan foreign_macro_plan foreign_item_plan
trait_marked = λ a. ((refl, λ v. λ d. (λ k. λ n. λ g. λ b. λ t. λ w. λ z. refl, (λ c. (λ y. λ u. λ e. λ s. (λ z. refl, λ b. refl), λ n. λ g. λ c. λ t. λ e. λ w. λ z. refl), λ s. (λ z. refl, λ b. refl)))), ((refl, λ v. (λ d. (λ k. λ n. λ g. λ b. λ t. λ w. λ z. refl, (λ c. (λ y. λ u. λ e. λ s. (λ z. refl, λ b. refl), λ n. λ g. λ c. λ t. λ e. λ w. λ z. refl), λ s. (λ z. refl, λ b. refl))), λ k. λ n. (λ g. λ c. λ t. λ e. λ w. λ z. refl, λ c. λ t. λ e. λ w. λ z. refl))), ((refl, λ d. (λ k. λ n. λ g. λ b. λ t. λ w. λ z. refl, (λ c. (λ y. λ u. λ e. λ s. (λ z. refl, λ b. refl), λ n. λ g. λ c. λ t. λ e. λ w. λ z. refl), λ s. (λ z. refl, λ b. refl)))), (λ k. λ n. λ g. λ b. λ t. λ w. λ z. refl, (λ c. (λ y. λ u. λ e. λ s. (λ z. refl, λ b. refl), λ n. ((refl, λ g. λ c. λ t. λ e. λ w. λ z. refl), λ c. λ t. λ e. (λ z. refl, (refl, λ w. λ z. refl)))), (λ s. (λ z. refl, λ b. refl), (tt, λ p. λ x. λ g. refl)))))))

impl_marked : Marked false impl_item_plan
unfolding kept_end function_after_const kept_const kept_function marked_plan trait_function_end trait_const_plan trait_item_plan impl_function_end impl_const_plan impl_type_plan impl_const_or_function impl_member_plan impl_macro_plan impl_item_plan foreign_function_end foreign_static_plan foreign_type_plan safety_plan foreign_member_plan foreign_macro_plan foreign_item_plan
impl_marked = λ a. (λ v. λ d. (λ k. λ n. λ g. (λ q. λ t. λ w. λ z. refl, (refl, (λ c. λ b. λ t. λ w. λ z. refl, λ w. λ z. refl))), (λ c. (λ y. λ u. λ e. λ s. ((refl, λ z. refl), λ b. refl), λ n. ((refl, λ g. λ c. λ t. λ e. λ w. λ z. refl), λ c. λ t. (λ q. λ e. (λ z. refl, (refl, λ w. λ z. refl)), (refl, λ w. λ z. refl)))), λ s. ((refl, λ z. refl), λ b. refl))), (((tt, λ p. λ x. λ g. refl), λ d. (λ k. λ n. λ g. (λ q. λ t. λ w. λ z. refl, (refl, (λ c. λ b. λ t. λ w. λ z. refl, λ w. λ z. refl))), (λ c. (λ y. λ u. λ e. λ s. ((refl, λ z. refl), λ b. refl), λ n. ((refl, λ g. λ c. λ t. λ e. λ w. λ z. refl), λ c. λ t. (λ q. λ e. (λ z. refl, (refl, λ w. λ z. refl)), (refl, λ w. λ z. refl)))), λ s. ((refl, λ z. refl), λ b. refl)))), (λ k. λ n. λ g. (λ q. λ t. λ w. λ z. refl, (refl, (λ c. λ b. λ t. λ w. λ z. refl, λ w. λ z. refl))), (λ c. (λ y. λ u. λ e. λ s. ((refl, λ z. refl), λ b. refl), λ n. ((refl, λ g. λ c. λ t. λ e. λ w. λ z. refl), λ c. λ t. (λ q. λ e. (λ z. refl, (refl, λ w. λ z. refl)), (refl, λ w. λ z. refl)))), (λ s. ((refl, λ z. refl), λ b. refl), (tt, λ p. λ x. λ g. refl))))))

foreign_marked : Marked false foreign_item_plan
unfolding kept_end function_after_const kept_const kept_function marked_plan trait_function_end trait_const_plan trait_item_plan impl_function_end impl_const_plan impl_type_plan impl_const_or_function impl_member_plan impl_macro_plan impl_item_plan foreign_function_end foreign_static_plan foreign_type_plan safety_plan foreign_member_plan foreign_macro_plan foreign_item_plan
foreign_marked = λ a. (λ v. (λ f. (λ k. λ u. λ n. λ c. λ t. (λ z. refl, (refl, λ q. λ e. λ z. refl)), λ e. λ s. (λ z. refl, (refl, λ b. refl))), (λ k. λ n. λ g. ((refl, λ c. λ b. λ t. λ z. refl), (λ w. (λ z. refl, (refl, λ q. λ t. λ z. refl)), (λ z. refl, (refl, λ q. λ t. λ w. λ z. refl)))), (λ k. λ u. λ n. λ c. λ t. (λ z. refl, (refl, λ q. λ e. λ z. refl)), (λ f. (λ k. λ u. λ n. λ c. λ t. (λ z. refl, (refl, λ q. λ e. λ z. refl)), λ e. λ s. (λ z. refl, (refl, λ b. refl))), (λ s. (λ z. refl, (refl, λ b. refl)), tt))))), (((tt, λ p. λ x. λ g. refl), ((tt, λ p. λ x. λ g. refl), λ f. (λ k. λ u. λ n. λ c. λ t. (λ z. refl, (refl, λ q. λ e. λ z. refl)), λ e. λ s. (λ z. refl, (refl, λ b. refl))))), (λ k. λ n. λ g. ((refl, λ c. λ b. λ t. λ z. refl), (λ w. (λ z. refl, (refl, λ q. λ t. λ z. refl)), (λ z. refl, (refl, λ q. λ t. λ w. λ z. refl)))), (λ k. λ u. λ n. λ c. λ t. (λ z. refl, (refl, λ q. λ e. λ z. refl)), (λ f. (λ k. λ u. λ n. λ c. λ t. (λ z. refl, (refl, λ q. λ e. λ z. refl)), λ e. λ s. (λ z. refl, (refl, λ b. refl))), (λ s. (λ z. refl, (refl, λ b. refl)), (tt, λ p. λ x. λ g. refl)))))))

pub plans_marked : PlansMarked
plans_marked = (item_marked, (trait_marked, (impl_marked, foreign_marked)))
