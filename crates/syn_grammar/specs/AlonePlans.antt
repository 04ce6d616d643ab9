-- THE PLANS OF RULES WITHOUT ALTERNATIVES: a use, a type alias and an impl after their attributes, where nothing else is possible. Each is one
-- form, with a test of a value after the value, or with generics whose print depends on later parts.
use Rattle.std.specs.Prelude.{◌≡◌, [], ◌∷◌}
use Rattle.syn_grammar.specs.Words.{w_const, w_default, w_impl, w_type, w_unsafe, w_use, semicolon, equals, exclamation, colons}
use Rattle.syn_grammar.specs.Tokens.{Stream, Brace, at_generics}
use Rattle.syn_grammar.specs.Rules.{visibility, type_path, type, generics, where_clause, use_tree, root_mark, rooted_trees, use_item_rest, type_item_rest, for_self_type, impl_body, impl_definition_rest, kept_item}
use Rattle.syn_grammar.specs.Grammar.{name, word, has, one_where, empty, when◌then◌else◌, inside, rule, Syntax, Both, Left, Right, Node, Such, Impl}
use Rattle.syn_grammar.specs.Forms.{plainly, punctuation}
use Rattle.syn_grammar.specs.Table.{at_colons, at_brace, at_exclamation, at_module_path, at_for, kept_generics, optional_item_word}
use Rattle.syn_grammar.specs.Run.{parse_rule}
use Rattle.syn_grammar.specs.Plan.{Plan, reads, turns, tests, ends, fails, run_plan}
use Rattle.syn_grammar.specs.ItemPlan.{parts, absent, hidden}

-- A use: it is refused if a tree in its braces has `::` before it.
unfoldable pub use_alone : Plan
use_alone =
    reads (rule visibility) λ v. reads (plainly (word w_use)) λ k.
    turns at_brace (reads (inside Brace (rule rooted_trees)) λ t.
    tests (has root_mark) t fails
    (reads (punctuation semicolon) λ z. ends (Node (parts (v ∷ k ∷ Left (Such t) ∷ z ∷ [])))))
    (reads (when at_colons then punctuation colons else empty) λ c. reads (rule use_tree) λ t. reads (punctuation semicolon) λ z. ends (Node (parts (v ∷ k ∷ Right (Both c t) ∷ z ∷ []))))

-- A type alias: it is refused if it has two where clauses.
unfoldable pub type_alone : Plan
type_alone =
    reads (rule visibility) λ v. reads (plainly (word w_type)) λ k. reads (plainly name) λ n. reads (rule generics) λ g. reads (rule where_clause) λ w. reads (punctuation equals) λ q.
    reads (rule type) λ t. reads (rule where_clause) λ x.
    tests one_where (parts (w ∷ q ∷ t ∷ x ∷ [])) (reads (punctuation semicolon) λ z. ends (Node (parts (v ∷ hidden ∷ k ∷ n ∷ g ∷ hidden ∷ Such (parts (w ∷ q ∷ t ∷ x ∷ [])) ∷ z ∷ []))))
    fails

-- an impl: the parts before `impl`, its generics, and the parts after them
abbrev pub impl_rest_of : Syntax → Syntax → Syntax → Syntax → Syntax → Syntax → Syntax
impl_rest_of d c u k g s = Node (parts (d ∷ c ∷ u ∷ k ∷ Impl g s ∷ []))

-- An impl after its generics.
unfoldable pub plain_types : Syntax → Syntax → Syntax → Syntax → Syntax → Plan
plain_types d c u k g =
    turns at_exclamation (reads (punctuation exclamation) λ x.
    turns at_brace (reads (rule impl_body) λ b. ends (impl_rest_of d c u k g (Left (Both x (Left b)))))
    (reads (rule type_path) λ t. reads (rule for_self_type) λ f. reads (rule impl_body) λ b. ends (impl_rest_of d c u k g (Left (Both x (Right (parts (t ∷ f ∷ b ∷ []))))))))
    (turns at_module_path (reads (rule type_path) λ t. reads (when at_for then rule for_self_type else empty) λ f. reads (rule impl_body) λ b. ends (impl_rest_of d c u k g (Right (Left (parts (t ∷ f ∷ b ∷ []))))))
    (reads (rule type) λ t. reads (rule impl_body) λ b. ends (impl_rest_of d c u k g (Right (Right (Both t b))))))

-- An impl.
unfoldable pub impl_alone : Plan
impl_alone =
    reads (optional_item_word w_default) λ d. reads (optional_item_word w_const) λ c. reads (optional_item_word w_unsafe) λ u. reads (plainly (word w_impl)) λ k.
    turns at_generics (reads kept_generics λ g. plain_types d c u k (Left g))
    (plain_types d c u k absent)

-- The plans read exactly what the rules read, with the same value. (They store nothing verbatim, so the rule given is arbitrary.) Hold for every stream.
abbrev pub UseAlone : Type 0
UseAlone = (ts : Stream) → parse_rule use_item_rest ts ≡ run_plan use_alone kept_item ts ts

abbrev pub TypeAlone : Type 0
TypeAlone = (ts : Stream) → parse_rule type_item_rest ts ≡ run_plan type_alone kept_item ts ts

abbrev pub ImplAlone : Type 0
ImplAlone = (ts : Stream) → parse_rule impl_definition_rest ts ≡ run_plan impl_alone kept_item ts ts
