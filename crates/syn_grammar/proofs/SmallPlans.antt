-- The plans of the input of a derive and of a local's value read what their forms read.
use Rattle.std.proofs.Common.{◌≡◌, List, [], ◌∷◌, map, Some, None, refl, ap, ◌∙◌}
use Rattle.syn_grammar.specs.Words.{w_else}
use Rattle.syn_grammar.specs.Tokens.{Stream, at_word}
use Rattle.syn_grammar.specs.Rules.{Rule, whole_expression, structure, enumeration, union_item, kept_item, derive_input}
use Rattle.syn_grammar.specs.Shape.{untagged}
use Rattle.syn_grammar.specs.Grammar.{word, trailing_brace, no_trailing_brace, empty, ◌&◌, when◌then◌else◌, rule, such, shaped, Node, Case, Left, Right}
use Rattle.syn_grammar.specs.Forms.{plainly}
use Rattle.syn_grammar.specs.Table.{table, no_else, else_block}
use Rattle.syn_grammar.specs.Values.{untag}
use Rattle.syn_grammar.specs.Take.{Out}
use Rattle.syn_grammar.specs.Run.{wrap, first_of, named, first_rule, parse_rule, parse_form}
use Rattle.syn_grammar.specs.ItemPlan.{struct_plan, enum_plan, union_plan}
use Rattle.syn_grammar.specs.SmallPlans.{derive_input_plan, local_value_plan, DeriveInputPlan, LocalValuePlan}
use Rattle.syn_grammar.proofs.Run.{parse_rule_is}
use Rattle.syn_grammar.proofs.Threads.{in_left, in_right, in_shape, reading, of_kind, Thread, first, answer_all, Fits, fits_is}
use Rattle.syn_grammar.proofs.Starts.{kind_thread, named_kind}

abbrev derive_kinds : List Rule
derive_kinds = structure ∷ enumeration ∷ union_item ∷ []

derive_fits : Fits derive_input_plan [] (map kind_thread derive_kinds)
unfolding derive_input_plan struct_plan enum_plan union_plan
derive_fits = λ a. λ v. (λ k. λ n. λ g. λ b. refl, (λ k. λ n. λ g. λ w. λ b. refl, λ k. λ n. λ g. λ w. λ b. refl))

kinds_alone : (ts : Stream) (ks : List Rule) → wrap Node (first_rule parse_rule ks ts) ≡ answer_all kept_item ts (map kind_thread ks) ts
kinds_alone ts [] = refl
kinds_alone ts (k ∷ ks) =
    ap (λ z. wrap Node (named k z (first_rule parse_rule ks ts))) (parse_rule_is k ts) ∙ named_kind kept_item ts k (parse_form (table k) ts) (first_rule parse_rule ks ts)
    ∙ ap (first (wrap Node (wrap (Case k) (parse_form (table k) ts)))) (kinds_alone ts ks)

pub derive_input_plan_is : DeriveInputPlan
derive_input_plan_is ts = parse_rule_is derive_input ts ∙ kinds_alone ts derive_kinds ∙ fits_is derive_input_plan [] (map kind_thread derive_kinds) kept_item ts ts derive_fits tt

abbrev values : List Thread
values =
    of_kind (reading (such trailing_brace (rule whole_expression) & no_else) (in_left ∷ in_shape untagged ∷ []))
    ∷ of_kind (reading (such no_trailing_brace (rule whole_expression) & shaped untagged (when at_word w_else then plainly (word w_else) & else_block else empty)) (in_right ∷ in_shape untagged ∷ [])) ∷ []

value_fits : Fits local_value_plan [] values
unfolding local_value_plan
value_fits = λ e. (((refl, refl), ((refl, refl), tt)), (refl, (λ k. λ b. refl, refl)))

of_two : (o q : Out) → wrap untag (first_of o q) ≡ first (wrap untag (wrap Left o)) (first (wrap untag (wrap Right q)) None)
of_two (Some x) q = refl
of_two None (Some x) = refl
of_two None None = refl

pub local_value_plan_is : LocalValuePlan
local_value_plan_is ts = of_two _ _ ∙ fits_is local_value_plan [] values kept_item ts ts value_fits tt
