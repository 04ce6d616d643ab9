-- STAGES OF THE PLANS: what is left of a plan after the attributes, and where a word says what continues.
use Rattle.syn_grammar.specs.Words.{w_const}
use Rattle.syn_grammar.specs.Grammar.{Syntax, rule, word}
use Rattle.syn_grammar.specs.Rules.{foreign_signature, safe_or_unsafe}
use Rattle.syn_grammar.specs.Forms.{plainly}
use Rattle.syn_grammar.specs.Plan.{Plan, reads}
use Rattle.syn_grammar.specs.ItemPlan.{impl_types}
use Rattle.syn_grammar.specs.MemberPlans.{foreign_function_end, foreign_item_plan, foreign_static_plan, foreign_type_plan, impl_const_plan, impl_item_plan, trait_const_plan, trait_item_plan}
use Rattle.syn_tokens.specs.Kinds.{const_syntax, default_syntax, impl_syntax, unsafe_syntax}
use Rattle.syn_tokens.specs.Leaves.{maybe}
use Rattle.syn_lower.specs.Attributes.{attributes_syntax}
use Rattle.syn_item.specs.Impls.{kept_list}
use Rattle.syn_item.specs.declared.impls.parsing.ImplMarks.{ImplMarks}

-- a plan that begins by reading something, after what it reads
abbrev pub after_first : Plan → Syntax → Plan
after_first (reads g f) s = f s
after_first p s = p

-- members after their attributes
unfoldable pub trait_item_plan_after : Syntax → Plan
unfolding trait_item_plan
trait_item_plan_after = after_first trait_item_plan

unfoldable pub impl_item_plan_after : Syntax → Plan
unfolding impl_item_plan
impl_item_plan_after = after_first impl_item_plan

unfoldable pub foreign_item_plan_after : Syntax → Plan
unfolding foreign_item_plan
foreign_item_plan_after = after_first foreign_item_plan

-- a constant of a trait, from `const` on
abbrev pub trait_const_or_kept : Syntax → Plan
trait_const_or_kept a = reads (plainly (word w_const)) (trait_const_plan a)

-- a constant of an impl, from `const` on
abbrev pub impl_const_or_kept : Syntax → Syntax → Syntax → Plan
impl_const_or_kept a v d = reads (plainly (word w_const)) (impl_const_plan a v d)

-- an impl after its generics, of what is before these
abbrev pub impl_types_after : ImplMarks → Syntax → Plan
impl_types_after m g =
    impl_types (attributes_syntax m.attrs.items) (maybe default_syntax m.defaultness) (maybe const_syntax m.constness) (maybe unsafe_syntax m.unsafety) (impl_syntax m.impl_token) (kept_list g)

-- foreign members after their visibility
abbrev pub foreign_type_or_kept : Syntax → Syntax → Plan
foreign_type_or_kept = foreign_type_plan

unfoldable pub foreign_static_or_kept : Syntax → Syntax → Plan
foreign_static_or_kept a v = reads (rule safe_or_unsafe) (foreign_static_plan a v)

unfoldable pub foreign_function_or_kept : Syntax → Syntax → Plan
foreign_function_or_kept a v = reads (rule foreign_signature) (foreign_function_end a v)
