-- THE PLAN OF AN ITEM: the rule `item` without a union. It reads attributes and visibility once; then the next words decide the kind of
-- item, and after the last part that several forms share, it branches on the token that distinguishes them.
use Rattle.std.specs.Prelude.{◌≡◌, true, false, List, [], ◌∷◌}
use Rattle.syn_grammar.specs.Words.{w_as, w_async, w_const, w_crate, w_enum, w_extern, w_fn, w_impl, w_macro, w_mod, w_mut, w_pub, w_self, w_static, w_struct, w_trait, w_try, w_type, w_unsafe, w_use, w_union, w_auto, w_default, semicolon, colon, equals, exclamation, colons}
use Rattle.syn_grammar.specs.Tokens.{Stream, Paren, Brace, Str, Begins_item, Before_macro, Begins_in, Lone_word, Look, at_word, at_literal, at_empty_group, ahead, ◌or_else◌, ◌and_also◌, at_generics}
use Rattle.syn_grammar.specs.Rules.{Rule, attributes, inner_attributes, visibility, restriction, type_path, type, generics, where_clause, fields_named, variants, structure, structure_body, enumeration, union_item, body, whole_expression, abi, unsafe_only, signature, signature_rest, function, const_item, static_item, extern_crate, use_tree, root_mark, rooted_trees, use_item, module_item, alias_bounds, type_bounds, trait_alias, type_item, macro_end, macro_as_item, supertraits, bare_trait, trait_definition, for_self_type, impl_body, impl_definition, foreign_module, trait_items, foreign_items, module_path, kept_item, item, items}
use Rattle.syn_grammar.specs.Grammar.{name, word, name_or, literal_of, has, one_where, empty, ◌&◌, when◌then◌else◌, vanishing, inside, raw, rule, Syntax, Nothing, Both, Left, Right, Node, Vanishing, Case, Such, Unshown, Impl}
use Rattle.syn_grammar.specs.Forms.{plainly, asking_punctuation, punctuation, never, optional}
use Rattle.syn_grammar.specs.Table.{at_colon, at_colons, at_equals, at_semicolon, at_brace, at_paren, at_less, at_bang, at_exclamation, at_module_path, at_extern, at_where, at_for, at_macro_name, at_no_macro_item, item_word, optional_item_word, name_or_underscore, optional_value, kept_where_clause, optional_where_clause, kept_generics, type_and_clause}
use Rattle.syn_grammar.specs.Values.{untag}
use Rattle.syn_grammar.specs.Run.{parse_rule}
use Rattle.syn_grammar.specs.Plan.{Plan, reads, turns, tests, keeps, ends, done, fails, run_plan}

-- parts in order, nested as a sequence nests them
abbrev pub parts : List Syntax → Syntax
parts [] = Nothing
parts (s ∷ []) = s
parts (s ∷ t ∷ l) = Both s (parts (t ∷ l))

-- an item of a kind of its own: attributes, and the value of the rest
abbrev pub item_of : Rule → Syntax → Syntax → Syntax
item_of k a s = Node (Case k (Both a (Node s)))

-- an impl: the parts before `impl`, its generics, and the parts after them
abbrev pub impl_of : Syntax → Syntax → Syntax → Syntax → Syntax → Syntax → Syntax → Syntax
impl_of a d c u k g s = item_of impl_definition a (parts (d ∷ c ∷ u ∷ k ∷ Impl g s ∷ []))

-- an absent optional part
abbrev pub absent : Syntax
absent = Right Nothing

-- a part that is never printed
abbrev pub hidden : Syntax
hidden = Unshown Nothing

-- the value of an omitted visibility
abbrev pub inherited : Syntax
inherited = Node (Right (Vanishing true absent))

-- how an item, after its attributes, begins: with `pub`; with an invisible group, which represents an omitted visibility; or without
-- a visibility
pub data Place : Type 0 where
  public unwritten plain : Place

-- Parentheses that begin with `in` are next: after `impl` they are a restriction.
abbrev pub at_in_restriction : Look
at_in_restriction = at_paren and_also ahead Begins_in

-- Parentheses that hold `crate`, `self` or `super` alone are next: after `impl` they are a restriction or a type.
abbrev pub at_lone_word : Look
at_lone_word = at_paren and_also ahead Lone_word

-- The semicolon at the end of a form that is stored verbatim.
unfoldable pub kept_end : Plan
kept_end =
    reads (punctuation semicolon) λ z. done

-- After a signature: `;`, and the function is stored verbatim; or a body.
unfoldable pub function_end : Syntax → Syntax → Syntax → Plan
function_end a v s =
    turns at_semicolon (keeps kept_end)
    (reads (rule body) λ b. ends (item_of function a (parts (v ∷ hidden ∷ s ∷ b ∷ []))))

-- A function after the modifiers of its signature: `const`, `async`, `unsafe` and an ABI, all optional.
unfoldable pub signature_end : Syntax → Syntax → Syntax → Syntax → Syntax → Syntax → Plan
signature_end a v c y u e =
    reads (rule signature_rest) λ s. function_end a v (Node (parts (c ∷ y ∷ u ∷ e ∷ s ∷ [])))

-- The same before the ABI.
unfoldable pub abi_and_signature : Syntax → Syntax → Syntax → Syntax → Syntax → Plan
abi_and_signature a v c y u =
    reads (when at_extern then rule abi else empty) λ e. signature_end a v c y u e

-- A struct.
unfoldable pub struct_plan : Syntax → Syntax → Plan
struct_plan a v =
    reads (plainly (word w_struct)) λ k. reads (plainly name) λ n. reads (rule generics) λ g. reads (rule structure_body) λ b. ends (item_of structure a (parts (v ∷ k ∷ n ∷ g ∷ b ∷ [])))

-- An enum.
unfoldable pub enum_plan : Syntax → Syntax → Plan
enum_plan a v =
    reads (plainly (word w_enum)) λ k. reads (plainly name) λ n. reads (rule generics) λ g. reads (rule where_clause) λ w. reads (inside Brace (rule variants)) λ b. ends (item_of enumeration a (parts (v ∷ k ∷ n ∷ g ∷ w ∷ b ∷ [])))

-- A union.
unfoldable pub union_plan : Syntax → Syntax → Plan
union_plan a v =
    reads (item_word w_union) λ k. reads (plainly name) λ n. reads (rule generics) λ g. reads (rule where_clause) λ w. reads (rule fields_named) λ b. ends (item_of union_item a (parts (v ∷ k ∷ n ∷ g ∷ w ∷ b ∷ [])))

-- A type alias. It is stored verbatim if a colon follows its generics, or if no `=` follows the generics and the where clause.
unfoldable pub type_plan : Syntax → Syntax → Plan
type_plan a v =
    reads (plainly (word w_type)) λ k. reads (plainly name) λ n. reads (rule generics) λ g.
    turns at_colon (keeps (reads (punctuation colon) λ c. reads (rule type_bounds) λ b. reads type_and_clause λ t. kept_end))
    (reads (rule where_clause) λ w.
    turns at_equals (reads (punctuation equals) λ q. reads (rule type) λ t. reads (rule where_clause) λ x.
    tests one_where (parts (w ∷ q ∷ t ∷ x ∷ [])) (reads (punctuation semicolon) λ z. ends (item_of type_item a (parts (v ∷ hidden ∷ k ∷ n ∷ g ∷ hidden ∷ Such (parts (w ∷ q ∷ t ∷ x ∷ [])) ∷ z ∷ []))))
    fails)
    (keeps kept_end))

-- A static. It is stored verbatim if it has no type, or no value.
unfoldable pub static_plan : Syntax → Syntax → Plan
static_plan a v =
    reads (item_word w_static) λ k. reads (optional w_mut) λ u. reads (plainly name) λ n.
    turns at_colon (reads (punctuation colon) λ c. reads (rule type) λ t.
    turns at_equals (reads (punctuation equals) λ q. reads (rule whole_expression) λ e. reads (punctuation semicolon) λ z. ends (item_of static_item a (parts (v ∷ k ∷ u ∷ n ∷ c ∷ t ∷ q ∷ e ∷ z ∷ []))))
    (keeps kept_end))
    (keeps (reads (punctuation equals) λ q. reads (rule whole_expression) λ e. kept_end))

-- A use. It is stored verbatim if a tree in its braces has `::` before it.
unfoldable pub use_plan : Syntax → Syntax → Plan
use_plan a v =
    reads (plainly (word w_use)) λ k.
    turns at_brace (reads (inside Brace (rule rooted_trees)) λ t.
    tests (has root_mark) t (keeps kept_end)
    (reads (punctuation semicolon) λ z. ends (item_of use_item a (parts (v ∷ k ∷ Left (Such t) ∷ z ∷ [])))))
    (reads (when at_colons then punctuation colons else empty) λ c. reads (rule use_tree) λ t. reads (punctuation semicolon) λ z. ends (item_of use_item a (parts (v ∷ k ∷ Right (Both c t) ∷ z ∷ []))))

-- A module, after an optional `unsafe`.
unfoldable pub module_plan : Syntax → Syntax → Syntax → Plan
module_plan a v u =
    reads (plainly (word w_mod)) λ k. reads (plainly (name_or (w_try ∷ []))) λ n.
    turns at_semicolon (reads (punctuation semicolon) λ z. ends (item_of module_item a (parts (v ∷ u ∷ k ∷ n ∷ Left z ∷ []))))
    (reads (inside Brace (rule inner_attributes & rule items)) λ b. ends (item_of module_item a (parts (v ∷ u ∷ k ∷ n ∷ Right (Both hidden b) ∷ []))))

-- A trait after its generics; `const`, `unsafe` and `auto` before `trait` are optional.
unfoldable pub trait_end : Syntax → Syntax → Syntax → Syntax → Syntax → Syntax → Syntax → Syntax → Plan
trait_end a v c u o k n g =
    reads (vanishing false at_colon (punctuation colon & rule supertraits)) λ b. reads (rule where_clause) λ w. reads (inside Brace (rule inner_attributes & rule trait_items)) λ m. ends (item_of trait_definition a (parts (v ∷ c ∷ Node (parts (u ∷ o ∷ k ∷ n ∷ g ∷ b ∷ w ∷ m ∷ [])) ∷ [])))

-- A trait that is no alias, before `auto`.
unfoldable pub trait_plan : Syntax → Syntax → Syntax → Syntax → Plan
trait_plan a v c u =
    reads (optional_item_word w_auto) λ o. reads (plainly (word w_trait)) λ k. reads (plainly name) λ n. reads (rule generics) λ g. trait_end a v c u o k n g

-- A trait or a trait alias; the next word is `trait`.
unfoldable pub trait_or_alias : Syntax → Syntax → Plan
trait_or_alias a v =
    reads (plainly (word w_trait)) λ k. reads (plainly name) λ n. reads (rule generics) λ g.
    turns at_equals (reads (punctuation equals) λ q. reads (rule alias_bounds) λ b. reads (rule where_clause) λ w. reads (punctuation semicolon) λ z. ends (item_of trait_alias a (parts (v ∷ Node (parts (k ∷ n ∷ g ∷ q ∷ b ∷ w ∷ z ∷ [])) ∷ []))))
    (trait_end a v absent absent absent k n g)

-- The same after `const`: an alias is stored verbatim.
unfoldable pub const_trait_or_alias : Syntax → Syntax → Syntax → Plan
const_trait_or_alias a v c =
    reads (plainly (word w_trait)) λ k. reads (plainly name) λ n. reads (rule generics) λ g.
    turns at_equals (keeps (reads (punctuation equals) λ q. reads (rule alias_bounds) λ b. reads (rule where_clause) λ w. kept_end))
    (trait_end a v c absent absent k n g)

-- A constant after `const`. It is stored verbatim if it has generics or a where clause, or no value.
unfoldable pub const_plan : Syntax → Syntax → Syntax → Plan
const_plan a v k =
    reads name_or_underscore λ n.
    turns at_less (keeps (reads kept_generics λ g. reads (punctuation colon) λ c. reads (rule type) λ t. reads optional_value λ e. reads optional_where_clause λ w. kept_end))
    (reads (punctuation colon) λ c. reads (rule type) λ t.
    turns at_equals (reads (punctuation equals) λ q. reads (rule whole_expression) λ e.
    turns at_semicolon (reads (punctuation semicolon) λ z. ends (item_of const_item a (parts (v ∷ hidden ∷ k ∷ n ∷ hidden ∷ c ∷ t ∷ q ∷ e ∷ z ∷ []))))
    (keeps (reads kept_where_clause λ w. kept_end)))
    (keeps (reads optional_where_clause λ w. kept_end)))

-- A definition by `macro`, which is stored verbatim.
unfoldable pub definition_plan : Plan
definition_plan =
    keeps (reads (plainly (word w_macro)) λ k. reads (plainly name) λ n. reads (when at_paren then raw Paren else empty) λ p. reads (raw Brace) λ b. done)

-- An impl after its first type, which is no plain path, at `for`: it is stored verbatim.
unfoldable pub kept_impl : Plan
kept_impl =
    keeps (reads (rule for_self_type) λ f. reads (rule impl_body) λ b. done)

-- An impl after its generics: the next token decides whether the first type is a plain path.
unfoldable pub impl_types : Syntax → Syntax → Syntax → Syntax → Syntax → Syntax → Plan
impl_types a d c u k g =
    turns at_exclamation (reads (punctuation exclamation) λ x.
    turns at_brace (reads (rule impl_body) λ b. ends (impl_of a d c u k g (Left (Both x (Left b)))))
    (turns at_module_path (reads (rule type_path) λ t. reads (rule for_self_type) λ f. reads (rule impl_body) λ b. ends (impl_of a d c u k g (Left (Both x (Right (parts (t ∷ f ∷ b ∷ [])))))))
    (keeps (reads (rule type) λ t. reads (rule for_self_type) λ f. reads (rule impl_body) λ b. done))))
    (turns at_module_path (reads (rule type_path) λ t. reads (when at_for then rule for_self_type else empty) λ f. reads (rule impl_body) λ b. ends (impl_of a d c u k g (Right (Left (parts (t ∷ f ∷ b ∷ []))))))
    (reads (rule type) λ t.
    turns at_for kept_impl
    (reads (rule impl_body) λ b. ends (impl_of a d c u k g (Right (Right (Both t b)))))))

-- An impl after `impl`.
unfoldable pub impl_generics : Syntax → Syntax → Syntax → Syntax → Syntax → Plan
impl_generics a d c u k =
    turns at_generics (reads kept_generics λ g. impl_types a d c u k (Left g))
    (impl_types a d c u k absent)

-- An impl after the optional `default`, `const` and `unsafe` before `impl`.
unfoldable pub impl_plan : Syntax → Syntax → Syntax → Syntax → Plan
impl_plan a d c u =
    reads (plainly (word w_impl)) λ k. impl_generics a d c u k

-- An impl after a visibility and `const`, which is stored verbatim.
unfoldable pub visible_impl : Plan
visible_impl =
    keeps (reads (plainly (word w_impl)) λ k. reads (when at_generics then kept_generics else empty) λ g.
    turns at_exclamation (reads (punctuation exclamation) λ x.
    turns at_brace (reads (rule impl_body) λ b. done)
    (reads (rule type) λ t. reads (rule for_self_type) λ f. reads (rule impl_body) λ b. done))
    (reads (rule type) λ t. reads (when at_for then rule for_self_type else empty) λ f. reads (rule impl_body) λ b. done))

-- An impl after `const` and an optional `unsafe`.
unfoldable pub const_impl_plan : Place → Syntax → Syntax → Syntax → Plan
const_impl_plan public a c u =
    visible_impl
const_impl_plan unwritten a c u =
    fails
const_impl_plan plain a c u =
    impl_plan a absent c u

-- After an optional `unsafe` (in two forms: of a foreign module and of a signature) and `extern`: an optional literal, and a foreign module or a function.
unfoldable pub extern_plan : Place → Syntax → Syntax → Syntax → Syntax → Syntax → Plan
extern_plan plain a v m u e =
    reads (when at_literal Str then plainly (literal_of (Str ∷ [])) else empty) λ l.
    turns at_brace (reads (inside Brace (rule inner_attributes & rule foreign_items)) λ b. ends (item_of foreign_module a (parts (m ∷ Node (Both e l) ∷ b ∷ []))))
    (signature_end a v absent absent u (Left (Node (Both e l))))
extern_plan p a v m u e =
    reads (when at_literal Str then plainly (literal_of (Str ∷ [])) else empty) λ l. signature_end a v absent absent u (Left (Node (Both e l)))

-- An extern crate after `extern`.
unfoldable pub extern_crate_plan : Syntax → Syntax → Syntax → Plan
extern_crate_plan a v e =
    reads (plainly (word w_crate)) λ k. reads (plainly (name_or (w_self ∷ []))) λ n. reads (when at_word w_as then plainly (word w_as) & name_or_underscore else empty) λ r. reads (punctuation semicolon) λ z. ends (item_of extern_crate a (parts (v ∷ e ∷ k ∷ n ∷ r ∷ z ∷ [])))

-- A trait after `impl` and a restriction in parentheses, which is stored verbatim.
unfoldable pub restricted_end : Plan
restricted_end =
    reads (optional w_const) λ c. reads (rule bare_trait) λ t. done

-- `impl`, after an optional visibility: a trait with a restriction, or an impl, which has no visibility.
-- Parentheses with one word inside are read by the rule of types; if `for`, `where` or braces follow them, it is an impl.
unfoldable pub bare_impl_plan : Place → Syntax → Plan
bare_impl_plan plain a =
    reads (plainly (word w_impl)) λ k.
    turns at_in_restriction (keeps (reads (inside Paren (rule restriction)) λ r. restricted_end))
    (turns at_lone_word (reads (rule type) λ t.
    turns at_for kept_impl
    (turns (at_where or_else at_brace) (reads (rule impl_body) λ b. ends (impl_of a absent absent absent k absent (Right (Right (Both t b)))))
    (keeps restricted_end)))
    (impl_generics a absent absent absent k))
bare_impl_plan p a =
    keeps (reads (plainly (word w_impl)) λ k.
    turns at_in_restriction (reads (inside Paren (rule restriction)) λ r. restricted_end)
    (turns at_lone_word (reads (rule type) λ t. restricted_end)
    fails))

-- After `unsafe`: neither a module nor a trait.
unfoldable pub unsafe_plan : Place → Syntax → Syntax → Syntax → Plan
unsafe_plan plain a v u =
    turns (at_word w_impl) (impl_plan a absent absent (Left u))
    (turns at_extern (reads (plainly (word w_extern)) λ e. extern_plan plain a v (Left u) (Node (Left (untag u))) e)
    (signature_end a v absent absent (Node (Left (untag u))) absent))
unsafe_plan p a v u =
    turns at_extern (reads (plainly (word w_extern)) λ e. extern_plan p a v (Left u) (Node (Left (untag u))) e)
    (signature_end a v absent absent (Node (Left (untag u))) absent)

-- After `const`.
unfoldable pub following_const : Place → Syntax → Syntax → Syntax → Plan
following_const p a v c =
    turns (at_word w_unsafe) (reads (item_word w_unsafe) λ u.
    turns (at_word w_trait or_else at_word w_auto) (trait_plan a v (Left c) (Left u))
    (turns (at_word w_impl) (const_impl_plan p a (Left c) (Left u))
    (abi_and_signature a v (Left c) absent (Node (Left (untag u))))))
    (turns (at_word w_trait) (const_trait_or_alias a v (Left c))
    (turns (at_word w_auto and_also ahead Begins_item) (trait_plan a v (Left c) absent)
    (turns (at_word w_impl) (const_impl_plan p a (Left c) absent)
    (turns (at_word w_async or_else at_extern or_else at_word w_fn) (reads (optional_item_word w_async) λ y. reads (rule unsafe_only) λ u. abi_and_signature a v (Left c) y u)
    (const_plan a v c)))))

-- A macro: no other item begins with these tokens.
unfoldable pub macro_plan : Syntax → Plan
macro_plan a =
    turns at_no_macro_item fails
    (reads (rule module_path) λ p. reads (when at_bang then asking_punctuation exclamation else never) λ x. reads (when at_macro_name then plainly (name_or (w_try ∷ [])) else empty) λ n. reads (rule macro_end) λ g. ends (item_of macro_as_item a (Right (Node (parts (p ∷ x ∷ n ∷ g ∷ []))))))

-- The remaining items: an impl with `default`, unless `default` is the path of a macro; or a macro.
unfoldable pub other_plan : Place → Syntax → Plan
other_plan plain a =
    turns (at_word w_default) (turns (ahead Before_macro) (macro_plan a)
    (reads (item_word w_default) λ d. reads (optional_item_word w_const) λ c. reads (optional_item_word w_unsafe) λ u. impl_plan a (Left d) c u))
    (macro_plan a)
other_plan p a =
    fails

-- AN ITEM after its attributes and its visibility: the next words decide which kinds of item are possible.
unfoldable pub after_visibility : Place → Syntax → Syntax → Plan
after_visibility p a v =
    turns (at_word w_struct) (struct_plan a v)
    (turns (at_word w_enum) (enum_plan a v)
    (turns (at_word w_union and_also ahead Begins_item) (union_plan a v)
    (turns (at_word w_type) (type_plan a v)
    (turns (at_word w_static) (static_plan a v)
    (turns (at_word w_use) (use_plan a v)
    (turns (at_word w_mod) (module_plan a v absent)
    (turns (at_word w_trait) (trait_or_alias a v)
    (turns (at_word w_auto and_also ahead Begins_item) (trait_plan a v absent absent)
    (turns (at_word w_macro) definition_plan
    (turns (at_word w_fn or_else at_word w_async) (reads (rule signature) λ s. function_end a v s)
    (turns at_extern (reads (plainly (word w_extern)) λ e.
    turns (at_word w_crate) (extern_crate_plan a v e)
    (extern_plan p a v absent (Node absent) e))
    (turns (at_word w_unsafe) (reads (item_word w_unsafe) λ u.
    turns (at_word w_mod) (module_plan a v (Left u))
    (turns (at_word w_trait or_else at_word w_auto) (trait_plan a v absent (Left u))
    (unsafe_plan p a v u)))
    (turns (at_word w_const) (reads (item_word w_const) λ c. following_const p a v c)
    (turns (at_word w_impl) (bare_impl_plan p a)
    (other_plan p a)))))))))))))))

-- AN ITEM after its attributes: its visibility and the rest.
unfoldable pub item_after : Syntax → Plan
item_after a =
    turns (at_word w_pub) (reads (rule visibility) λ v. after_visibility public a v)
    (turns at_empty_group (reads (rule visibility) λ v. after_visibility unwritten a v)
    (after_visibility plain a inherited))

-- AN ITEM: its attributes and the rest.
unfoldable pub item_plan : Plan
item_plan =
    reads (rule attributes) λ a. item_after a

-- The plan reads exactly what the rule reads, with the same value. Holds for every stream.
abbrev pub ItemPlan : Type 0
ItemPlan = (ts : Stream) → parse_rule item ts ≡ run_plan item_plan kept_item ts ts
