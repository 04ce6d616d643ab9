-- THE PLANS OF MEMBERS of traits, impls and foreign modules: the rules `trait_item`, `impl_item` and `foreign_item` without a union.
use Rattle.std.specs.Prelude.{◌≡◌, false, List, [], ◌∷◌}
use Rattle.syn_grammar.specs.Words.{w_async, w_const, w_fn, w_mut, w_pub, w_Self_type, w_static, w_type, w_unsafe, w_default, w_safe, semicolon, colon, equals, exclamation}
use Rattle.syn_grammar.specs.Tokens.{Stream, end, Before_macro, Before_colons, Look, at_word, at_empty_group, ahead, ◌or_else◌}
use Rattle.syn_grammar.specs.Rules.{Rule, attributes, visibility, type, generics, where_clause, type_bounds, body, whole_expression, abi, unsafe_only, safe_or_unsafe, signature, signature_rest, foreign_signature, macro_end, module_path, trait_const, trait_function, trait_type, trait_macro_as_item, kept_trait_item, trait_item, impl_const, impl_function, impl_type, impl_macro_as_item, kept_impl_item, impl_item, foreign_function, foreign_static, foreign_type, foreign_macro_as_item, kept_foreign_item, foreign_item, item}
use Rattle.syn_grammar.specs.Grammar.{name, word, empty, ◌&◌, when◌then◌else◌, vanishing, rule, Syntax, Both, Left, Right, Node, Vanishing, Case}
use Rattle.syn_grammar.specs.Forms.{plainly, asking_punctuation, punctuation, never, optional}
use Rattle.syn_grammar.specs.Table.{at_colon, at_equals, at_semicolon, at_less, at_bang, at_extern, at_where, at_visibility, at_no_macro_item, at_no_trait_macro, optional_item_word, name_or_underscore, optional_value, optional_type, kept_where_clause, optional_where_clause, kept_generics, type_and_clause}
use Rattle.syn_grammar.specs.Run.{parse_rule}
use Rattle.syn_grammar.specs.Plan.{Plan, reads, turns, keeps, ends, done, fails, run_plan, show_plan, shown_out, Marked}
use Rattle.syn_grammar.specs.ItemPlan.{parts, item_of, absent, hidden, inherited, kept_end, item_plan}

-- a member of a kind of its own, whose parts form one sequence
abbrev pub member_of : Rule → List Syntax → Syntax
member_of k l = Node (Case k (parts l))

-- no where clause
abbrev pub no_clause : Syntax
no_clause = Node (Vanishing false absent)

-- The next token continues a signature after `const`: `async`, `unsafe`, `extern` or `fn`.
abbrev pub at_function : Look
at_function = at_word w_async or_else at_word w_unsafe or_else at_extern or_else at_word w_fn

-- The rest of a signature after `const`, and the part after the signature.
unfoldable pub function_after_const : (Syntax → Plan) → Syntax → Plan
function_after_const f c =
    reads (optional_item_word w_async) λ y. reads (rule unsafe_only) λ u. reads (when at_extern then rule abi else empty) λ e. reads (rule signature_rest) λ s. f (Node (parts (c ∷ y ∷ u ∷ e ∷ s ∷ [])))

-- A constant that is stored verbatim, after `const`.
unfoldable pub kept_const : Plan
kept_const =
    reads name_or_underscore λ n. reads (when at_less then kept_generics else empty) λ g. reads (punctuation colon) λ c. reads (rule type) λ t. reads optional_value λ e. reads optional_where_clause λ w. kept_end

-- A function that is stored verbatim, after its signature: `;` or a body.
unfoldable pub kept_function : Syntax → Plan
kept_function s =
    turns at_semicolon kept_end
    (reads (rule body) λ b. done)

-- A member of a trait after a visibility or `default`; it is stored verbatim.
unfoldable pub marked_plan : Plan
marked_plan =
    turns (at_word w_type) (reads (plainly (word w_type)) λ k. reads (plainly name) λ n. reads (rule generics) λ g. reads (vanishing false at_colon (punctuation colon & rule type_bounds)) λ b. reads optional_type λ t. reads (rule where_clause) λ w. kept_end)
    (turns (at_word w_const) (reads (plainly (word w_const)) λ c.
    turns at_function (function_after_const kept_function (Left c))
    kept_const)
    (reads (rule signature) λ s. kept_function s))

-- A function of a trait, after its signature.
unfoldable pub trait_function_end : Syntax → Syntax → Plan
trait_function_end a s =
    turns at_semicolon (reads (punctuation semicolon) λ z. ends (item_of trait_function a (parts (hidden ∷ s ∷ Left z ∷ []))))
    (reads (rule body) λ b. ends (item_of trait_function a (parts (hidden ∷ s ∷ Right (Both hidden b) ∷ []))))

-- A constant of a trait, after `const`: it is stored verbatim if it has generics or a where clause.
unfoldable pub trait_const_plan : Syntax → Syntax → Plan
trait_const_plan a k =
    reads name_or_underscore λ n.
    turns at_less (keeps (reads kept_generics λ g. reads (punctuation colon) λ c. reads (rule type) λ t. reads optional_value λ e. reads optional_where_clause λ w. kept_end))
    (reads (punctuation colon) λ c. reads (rule type) λ t. reads optional_value λ e.
    turns at_semicolon (reads (punctuation semicolon) λ z. ends (member_of trait_const (a ∷ hidden ∷ k ∷ n ∷ hidden ∷ c ∷ t ∷ e ∷ z ∷ [])))
    (keeps (reads kept_where_clause λ w. kept_end)))

-- A MEMBER OF A TRAIT.
unfoldable pub trait_item_plan : Plan
trait_item_plan =
    reads (rule attributes) λ a.
    turns (at_word w_pub) (keeps (reads (rule visibility) λ v. reads (optional w_default) λ d. marked_plan))
    (turns at_empty_group (keeps (reads (rule visibility) λ v.
    turns (at_word w_default) (reads (plainly (word w_default)) λ d. marked_plan)
    (reads (plainly (word w_const)) λ k. reads name_or_underscore λ n.
    turns at_less (reads kept_generics λ g. reads (punctuation colon) λ c. reads (rule type) λ t. reads optional_value λ e. reads optional_where_clause λ w. kept_end)
    (reads (punctuation colon) λ c. reads (rule type) λ t. reads optional_value λ e. reads kept_where_clause λ w. kept_end))))
    (turns (at_word w_default) (keeps (reads (plainly (word w_default)) λ d. marked_plan))
    (turns (at_word w_type) (reads (plainly (word w_type)) λ k. reads (plainly name) λ n. reads (rule generics) λ g. reads (vanishing false at_colon (punctuation colon & rule type_bounds)) λ b. reads optional_type λ t. reads (rule where_clause) λ w. reads (punctuation semicolon) λ z. ends (item_of trait_type a (parts (hidden ∷ k ∷ n ∷ g ∷ b ∷ t ∷ w ∷ z ∷ []))))
    (turns (at_word w_const) (reads (plainly (word w_const)) λ c.
    turns at_function (function_after_const (trait_function_end a) (Left c))
    (trait_const_plan a c))
    (turns at_function (reads (rule signature) λ s. trait_function_end a s)
    (turns at_no_trait_macro fails
    (reads (rule module_path) λ p. reads (when at_bang then asking_punctuation exclamation else never) λ x. reads (rule macro_end) λ g. ends (member_of trait_macro_as_item (a ∷ Right (Node (parts (p ∷ x ∷ g ∷ []))) ∷ [])))))))))

-- A function of an impl, after its signature: it is stored verbatim if it has no body.
unfoldable pub impl_function_end : Syntax → Syntax → Syntax → Syntax → Plan
impl_function_end a v d s =
    turns at_semicolon (keeps kept_end)
    (reads (rule body) λ b. ends (member_of impl_function (a ∷ v ∷ d ∷ s ∷ b ∷ [])))

-- A constant of an impl, after `const`: it is stored verbatim if it has generics or a where clause, or no value.
unfoldable pub impl_const_plan : Syntax → Syntax → Syntax → Syntax → Plan
impl_const_plan a v d k =
    reads name_or_underscore λ n.
    turns at_less (keeps (reads kept_generics λ g. reads (punctuation colon) λ c. reads (rule type) λ t. reads optional_value λ e. reads optional_where_clause λ w. kept_end))
    (reads (punctuation colon) λ c. reads (rule type) λ t.
    turns at_equals (reads (punctuation equals) λ q. reads (rule whole_expression) λ e.
    turns at_semicolon (reads (punctuation semicolon) λ z. ends (member_of impl_const (a ∷ v ∷ d ∷ k ∷ n ∷ hidden ∷ c ∷ t ∷ q ∷ e ∷ z ∷ [])))
    (keeps (reads kept_where_clause λ w. kept_end)))
    (keeps (reads optional_where_clause λ w. kept_end)))

-- A type of an impl: it is stored verbatim if no `=` follows its generics.
unfoldable pub impl_type_plan : Syntax → Syntax → Syntax → Plan
impl_type_plan a v d =
    reads (plainly (word w_type)) λ k. reads (plainly name) λ n. reads (rule generics) λ g.
    turns at_equals (reads (punctuation equals) λ q. reads (rule type) λ t. reads (rule where_clause) λ w. reads (punctuation semicolon) λ z. ends (member_of impl_type (a ∷ v ∷ d ∷ k ∷ n ∷ g ∷ q ∷ t ∷ w ∷ z ∷ [])))
    (keeps (turns at_colon (reads (punctuation colon) λ c. reads (rule type_bounds) λ b. reads optional_type λ t. reads optional_where_clause λ w. kept_end)
    (reads optional_where_clause λ w. kept_end)))

-- A member of an impl that begins with `const`.
unfoldable pub impl_const_or_function : Syntax → Syntax → Syntax → Plan
impl_const_or_function a v d =
    reads (plainly (word w_const)) λ c.
    turns at_function (function_after_const (impl_function_end a v d) (Left c))
    (impl_const_plan a v d c)

-- A member of an impl that is no macro, after its visibility and `default`.
unfoldable pub impl_member_plan : Syntax → Syntax → Syntax → Plan
impl_member_plan a v d =
    turns (at_word w_type) (impl_type_plan a v d)
    (turns (at_word w_const) (impl_const_or_function a v d)
    (reads (rule signature) λ s. impl_function_end a v d s))

-- A macro in an impl.
unfoldable pub impl_macro_plan : Syntax → Plan
impl_macro_plan a =
    turns at_no_macro_item fails
    (reads (rule module_path) λ p. reads (when at_bang then asking_punctuation exclamation else never) λ x. reads (rule macro_end) λ g. ends (member_of impl_macro_as_item (a ∷ Right (Node (parts (p ∷ x ∷ g ∷ []))) ∷ [])))

-- A MEMBER OF AN IMPL.
unfoldable pub impl_item_plan : Plan
impl_item_plan =
    reads (rule attributes) λ a.
    turns at_visibility (reads (rule visibility) λ v. reads (optional w_default) λ d. impl_member_plan a v d)
    (turns (at_word w_default) (turns (ahead Before_macro) (impl_macro_plan a)
    (reads (plainly (word w_default)) λ d. impl_member_plan a inherited (Left d)))
    (turns (at_word w_type) (impl_type_plan a inherited absent)
    (turns (at_word w_const) (impl_const_or_function a inherited absent)
    (turns at_function (reads (rule signature) λ s. impl_function_end a inherited absent s)
    (impl_macro_plan a)))))

-- A foreign function, after its signature: it is stored verbatim if it has a body.
unfoldable pub foreign_function_end : Syntax → Syntax → Syntax → Plan
foreign_function_end a v s =
    turns at_semicolon (reads (punctuation semicolon) λ z. ends (member_of foreign_function (a ∷ v ∷ hidden ∷ s ∷ z ∷ [])))
    (keeps (reads (rule body) λ b. done))

-- A foreign static, after `safe` or `unsafe`: it is stored verbatim if it has a value.
unfoldable pub foreign_static_plan : Syntax → Syntax → Syntax → Plan
foreign_static_plan a v f =
    reads (plainly (word w_static)) λ k. reads (optional w_mut) λ u. reads (plainly name) λ n. reads (punctuation colon) λ c. reads (rule type) λ t.
    turns at_semicolon (reads (punctuation semicolon) λ z. ends (member_of foreign_static (a ∷ v ∷ Node (parts (f ∷ k ∷ u ∷ n ∷ c ∷ t ∷ [])) ∷ z ∷ [])))
    (keeps (reads (punctuation equals) λ q. reads (rule whole_expression) λ e. kept_end))

-- A foreign type: it is stored verbatim if it has a colon or `=`.
unfoldable pub foreign_type_plan : Syntax → Syntax → Plan
foreign_type_plan a v =
    reads (plainly (word w_type)) λ k. reads (plainly name) λ n. reads (rule generics) λ g.
    turns at_colon (keeps (reads (punctuation colon) λ c. reads (rule type_bounds) λ b. reads type_and_clause λ t. kept_end))
    (turns at_where (reads (rule where_clause) λ w.
    turns at_semicolon (reads (punctuation semicolon) λ z. ends (member_of foreign_type (a ∷ v ∷ hidden ∷ k ∷ n ∷ g ∷ w ∷ z ∷ [])))
    (keeps (reads (punctuation equals) λ q. reads (rule type) λ t. kept_end)))
    (turns at_semicolon (reads (punctuation semicolon) λ z. ends (member_of foreign_type (a ∷ v ∷ hidden ∷ k ∷ n ∷ g ∷ no_clause ∷ z ∷ [])))
    (keeps (reads (punctuation equals) λ q. reads (rule type) λ t. reads optional_where_clause λ w. kept_end))))

-- A foreign member that begins with `safe` or `unsafe`: a static or a function.
unfoldable pub safety_plan : Syntax → Syntax → Plan
safety_plan a v =
    reads (rule safe_or_unsafe) λ f.
    turns (at_word w_static) (foreign_static_plan a v f)
    (reads (when at_extern then rule abi else empty) λ e. reads (rule signature_rest) λ s. foreign_function_end a v (Node (parts (absent ∷ absent ∷ f ∷ e ∷ s ∷ []))))

-- A foreign member after its visibility that doesn't begin with `safe`, or this other plan.
unfoldable pub foreign_member_plan : Syntax → Syntax → Plan → Plan
foreign_member_plan a v m =
    turns (at_word w_type) (foreign_type_plan a v)
    (turns (at_word w_static) (foreign_static_plan a v (Node absent))
    (turns (at_word w_unsafe) (safety_plan a v)
    (turns (at_word w_const or_else at_word w_async or_else at_extern or_else at_word w_fn) (reads (rule foreign_signature) λ s. foreign_function_end a v s)
    m)))

-- A macro in a foreign module.
unfoldable pub foreign_macro_plan : Syntax → Plan
foreign_macro_plan a =
    turns (at_word w_Self_type) fails
    (reads (rule module_path) λ p. reads (when at_bang then asking_punctuation exclamation else never) λ x. reads (rule macro_end) λ g. ends (member_of foreign_macro_as_item (a ∷ Right (Node (parts (p ∷ x ∷ g ∷ []))) ∷ [])))

-- A FOREIGN MEMBER.
unfoldable pub foreign_item_plan : Plan
foreign_item_plan =
    reads (rule attributes) λ a.
    turns at_visibility (reads (rule visibility) λ v.
    turns (at_word w_safe) (safety_plan a v)
    (foreign_member_plan a v fails))
    (turns (at_word w_safe) (turns (ahead Before_macro) (foreign_macro_plan a)
    (turns (ahead Before_colons) (foreign_macro_plan a)
    (safety_plan a inherited)))
    (foreign_member_plan a inherited (foreign_macro_plan a)))

-- The plans read exactly what the rules read, with the same values. Hold for every stream.
abbrev pub TraitItemPlan : Type 0
TraitItemPlan = (ts : Stream) → parse_rule trait_item ts ≡ run_plan trait_item_plan kept_trait_item ts ts

abbrev pub ImplItemPlan : Type 0
ImplItemPlan = (ts : Stream) → parse_rule impl_item ts ≡ run_plan impl_item_plan kept_impl_item ts ts

abbrev pub ForeignItemPlan : Type 0
ForeignItemPlan = (ts : Stream) → parse_rule foreign_item ts ≡ run_plan foreign_item_plan kept_foreign_item ts ts

-- In the four plans, every end after `keeps` is verbatim or refuses, and every other end is of a kind or refuses.
abbrev pub PlansMarked : Type 0
PlansMarked = Marked false item_plan × (Marked false trait_item_plan × (Marked false impl_item_plan × Marked false foreign_item_plan))

-- These plans write exactly the tokens (`show`) of the values that the rules read. Holds for every stream.
abbrev pub PlansShow : Type 0
PlansShow = (ts : Stream) →
    (show_plan item_plan ts end ts ≡ shown_out (parse_rule item ts)) × ((show_plan trait_item_plan ts end ts ≡ shown_out (parse_rule trait_item ts))
    × ((show_plan impl_item_plan ts end ts ≡ shown_out (parse_rule impl_item ts)) × (show_plan foreign_item_plan ts end ts ≡ shown_out (parse_rule foreign_item ts))))
