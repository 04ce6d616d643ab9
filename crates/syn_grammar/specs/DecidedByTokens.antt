-- THE TESTS OF PLANS, ON TOKENS: a program that follows a plan without storing values counts words and looks for marks among the tokens read.
use Rattle.std.specs.Prelude.{◌≡◌, ℕ, Bool, true, false, List, [], ◌∷◌, Some, nat_eq}
use Rattle.syn_grammar.specs.Words.{Text, w_where, w_use, equals}
use Rattle.syn_grammar.specs.Tokens.{Leaf, ident, literal, Stream, end, leaf, punct, group, or, and, no, pick, same_text, Brace, Word, mem}
use Rattle.syn_grammar.specs.Rules.{Rule, type, attributes, visibility, rooted_trees, root_mark, meta, meta_value, where_clause, structure, structure_rest, structure_body, enumeration, enumeration_rest, union_item, union_item_rest, derive_input, statements, statement_rest, after_block, after_expression, statement, signature, signature_rest, function, function_rest, alias, trait_alias, trait_alias_rest, type_item, type_item_rest, bodiless_function, odd_const, odd_type, bare_trait, trait_definition, trait_definition_rest, const_alias, restricted_trait, impl_body, impl_definition, impl_definition_rest, odd_impl, visible_const_impl, bare_trait_function, bare_trait_type, trait_function, trait_type, any_const, marked_member, odd_trait_const, kept_trait_item, trait_item, trait_items, impl_function, impl_type, bodiless_impl_function, odd_impl_const, odd_impl_type, kept_impl_item, impl_item, impl_items, foreign_signature, foreign_function, foreign_type, foreign_body, odd_foreign_type, kept_foreign_item, foreign_item, foreign_items, kept_item_rest, kept_item, kept_in_block, item_rest, item, items, file}
use Rattle.syn_grammar.specs.RuleNumbers.{same_rule}
use Rattle.syn_grammar.specs.Grammar.{word, terminals, has, one_where, holds, among, Grammar, empty, token, mark, lifetime, ◌&◌, when◌then◌else◌, vanishing, inside, raw, rest_after, either, one_of, rule, such, captured, unshown, supplied, row, ordered, shaped, generics_before, Syntax}
use Rattle.syn_grammar.specs.Forms.{plainly, punctuation}
use Rattle.syn_grammar.specs.Take.{before}
use Rattle.syn_grammar.specs.Run.{parse_form}
use Rattle.syn_grammar.specs.Alone.{all_of}
use Rattle.syn_grammar.specs.ItemPlan.{parts}

-- the token is the identifier of this text
abbrev pub is_text : Text → Leaf → Bool
is_text x (ident y) = same_text x y
is_text x (literal k y) = false

-- a `'` that is joined to the next token: if that is an identifier, it belongs to a lifetime
abbrev pub opens_lifetime : ℕ → Bool → Bool
opens_lifetime c j = and j (nat_eq c 39)

-- the word occurs at most once, not counting groups and lifetimes; q: a `'` is joined to the next token, b: the word
-- has occurred before
abbrev pub once_at_most : Text → Bool → Bool → Stream → Bool
once_at_most x q b end = true
once_at_most x q b (leaf y sp m) = pick (and (no q) (is_text x y)) (and (no b) (once_at_most x false true m)) (once_at_most x false b m)
once_at_most x q b (punct c j sp m) = once_at_most x (opens_lifetime c j) b m
once_at_most x q b (group d o c i m) = once_at_most x false b m

-- `where` occurs at most once, not counting groups and lifetimes
abbrev pub has_one_where : Stream → Bool
has_one_where i = once_at_most w_where false false i

-- in groups, a tree has `:` before it: at the beginning of a group or after a comma (b: this is such a place)
abbrev pub roots : Bool → Stream → Bool
roots b end = false
roots b (leaf x sp m) = roots false m
roots b (punct c j sp m) = or (and b (nat_eq c 58)) (roots (nat_eq c 44) m)
roots b (group d o c i m) = or (roots true i) (roots false m)

-- the same for the groups after the first `use`
abbrev pub use_roots : Stream → Bool
use_roots end = false
use_roots (leaf x sp m) = pick (is_text w_use x) (roots false m) (use_roots m)
use_roots (punct c j sp m) = use_roots m
use_roots (group d o c i m) = use_roots m

-- RULES THAT READ `where` outside of groups, or any tokens. No other rule does.
abbrev pub worded : List Rule
worded = meta ∷ meta_value ∷ where_clause ∷ structure ∷ structure_rest ∷ structure_body ∷ enumeration ∷ enumeration_rest ∷ union_item ∷ union_item_rest ∷ derive_input ∷ statements ∷ statement_rest ∷ after_block ∷ after_expression ∷ statement ∷ signature ∷ signature_rest ∷ function ∷ function_rest ∷ alias ∷ trait_alias ∷ trait_alias_rest ∷ type_item ∷ type_item_rest ∷ bodiless_function ∷ odd_const ∷ odd_type ∷ bare_trait ∷ trait_definition ∷ trait_definition_rest ∷ const_alias ∷ restricted_trait ∷ impl_body ∷ impl_definition ∷ impl_definition_rest ∷ odd_impl ∷ visible_const_impl ∷ bare_trait_function ∷ bare_trait_type ∷ trait_function ∷ trait_type ∷ any_const ∷ marked_member ∷ odd_trait_const ∷ kept_trait_item ∷ trait_item ∷ trait_items ∷ impl_function ∷ impl_type ∷ bodiless_impl_function ∷ odd_impl_const ∷ odd_impl_type ∷ kept_impl_item ∷ impl_item ∷ impl_items ∷ foreign_signature ∷ foreign_function ∷ foreign_type ∷ foreign_body ∷ odd_foreign_type ∷ kept_foreign_item ∷ foreign_item ∷ foreign_items ∷ kept_item_rest ∷ kept_item ∷ kept_in_block ∷ item_rest ∷ item ∷ items ∷ file ∷ []

abbrev pub wordless : Rule → Bool
wordless k = no (among k worded)

-- rules that may come before `use`: they read no lifetime and no `use` outside of groups
abbrev pub opening : Rule → Bool
opening k = or (same_rule k attributes) (same_rule k visibility)

abbrev pub no_quote : Text → Bool
no_quote [] = true
no_quote (c ∷ l) = and (no (nat_eq c 39)) (no_quote l)

-- A FORM THAT DOESN'T READ THIS WORD outside of groups, given a test of rules; nor a lifetime, if a is false. No mark ends with
-- `'`, so lifetimes are complete.
abbrev pub spares : Bool → (Rule → Bool) → Text → Grammar → Bool
spares a said x empty = true
spares a said x (token b k) = no (mem (Word x) (terminals k))
spares a said x (mark b cs) = no_quote cs
spares a said x lifetime = a
spares a said x (g & h) = and (spares a said x g) (spares a said x h)
spares a said x (when c then g else h) = and (spares a said x g) (spares a said x h)
spares a said x (vanishing b c g) = spares a said x g
spares a said x (inside d g) = true
spares a said x (raw d) = true
spares a said x (rest_after cs) = false
spares a said x (either g h) = and (spares a said x g) (spares a said x h)
spares a said x (one_of ks) = all_of said ks
spares a said x (rule k) = said k
spares a said x (such q g) = spares a said x g
spares a said x (shaped j g) = spares a said x g
spares a said x (captured g) = spares a said x g
spares a said x unshown = true
spares a said x (supplied n g h) = and (spares a said x g) (spares a said x h)
spares a said x (generics_before g h f) = and (spares a said x g) (and (spares a said x h) (spares a said x f))
spares a said x (row g h) = and (spares a said x g) (spares a said x h)
spares a said x (ordered g h) = and (spares a said x g) (spares a said x h)

-- THE PARTS READ from the one stream to the other: forms and their values, the last one first
abbrev pub Piece : Type 0
Piece = Grammar × Syntax

abbrev pub WasRead : List Piece → Stream → Stream → Type 0
WasRead [] b m = b ≡ m
WasRead (p ∷ l) b m = (n : Stream) × WasRead l b n × (parse_form p.0 n ≡ Some (p.1, m))

abbrev pub all_spare : Bool → (Rule → Bool) → Text → List Piece → Bool
all_spare a said x [] = true
all_spare a said x (p ∷ l) = and (spares a said x p.0) (all_spare a said x l)

-- A TYPE ALIAS, after parts without `where`: a where clause, `=`, a type and a where clause pass the test `one_where` if and only if `where`
-- occurs at most once among all tokens read. Holds for every stream.
abbrev pub OneWhereKnown : Type 0
OneWhereKnown = (l : List Piece) (b m : Stream) (w q t x : Syntax) → all_spare true wordless w_where l ≡ true →
    WasRead ((rule where_clause, x) ∷ (rule type, t) ∷ (punctuation equals, q) ∷ (rule where_clause, w) ∷ l) b m → has_one_where (before b m) ≡ holds one_where (parts (w ∷ q ∷ t ∷ x ∷ []))

-- A USE, after attributes and a visibility, both optional: a tree in its braces has `::` before it if and only if such a `:` occurs among the tokens.
-- Holds for every stream.
abbrev pub RootMarkKnown : Type 0
RootMarkKnown = (l : List Piece) (b m : Stream) (k t : Syntax) → all_spare false opening w_use l ≡ true →
    WasRead ((inside Brace (rule rooted_trees), t) ∷ (plainly (word w_use), k) ∷ l) b m → use_roots (before b m) ≡ holds (has root_mark) t
