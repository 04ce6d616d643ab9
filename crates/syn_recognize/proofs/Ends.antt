-- Whether token trees end with a group in braces: the forms whose syntax tree decides it.
use Rattle.std.proofs.Common.{◌≡◌, Bool, true, false, List, [], ◌∷◌, refl, sym, ap, ◌∙◌, true≢false, ◌⊎◌, inl, inr}
use Rattle.syn_grammar.specs.Tokens.{Span, Delimiter, Paren, Brace, Bracket, None as Invisible, Stream, end, leaf, punct, group, ◌⧺◌, and}
use Rattle.syn_grammar.specs.Rules.{Rule, attributes, module_path, module_words, type_path, type_words, type_arguments, return_type, generic_arguments, qualified_path, path_as_type, type, expression_path, expression_words, qualified_expression_path, path_as_expression, macro_invocation, pattern, block, body, primary, block_like, if_expression, loop_expression, postfixes, member, unary, casts, cast, products, product, sums, sum, shifts, shift, bit_ands, bit_and, bit_xors, bit_xor, bit_ors, bit_or, compared, comparison, conjunctions, conjunction, disjunctions, disjunction, assigned, whole_expression, plain_body, more_type_words, whole_expression_head, disjunction_head, assigned_head, conjunction_head, disjunctions_head, comparison_head, conjunctions_head, bit_or_head, compared_head, bit_xor_head, bit_ors_head, bit_and_head, bit_xors_head, shift_head, bit_ands_head, sum_head, shifts_head, product_head, sums_head, cast_head, products_head, unary_head, primary_head}
use Rattle.syn_grammar.specs.RuleNumbers.{same_rule}
use Rattle.syn_grammar.specs.Grammar.{Syntax, Group, Raw, ends_brace, Grammar, empty, token, mark, lifetime, ◌&◌, when◌then◌else◌, inside, raw, either, one_of, rule, such, shaped, unshown, ordered, among}
use Rattle.syn_grammar.specs.Table.{table}
use Rattle.syn_grammar.proofs.RuleLemmas.{same_rule_eq}
use Rattle.syn_grammar.proofs.Sets.{or_split, and_left, and_right}
use Rattle.syn_recognize.specs.Trailing.{is_brace, ends_by}

pub ends_append : (b : Bool) (i j : Stream) → ends_by b (i ⧺ j) ≡ ends_by (ends_by b i) j
ends_append b end j = refl
ends_append b (leaf x sp m) j = ends_append false m j
ends_append b (punct c k sp m) j = ends_append false m j
ends_append b (group d o c i m) j = ends_append (is_brace d) m j

-- THE FORMS of which this holds, where it holds of these rules: none is stored verbatim, left out, or a row by itself
abbrev pub known : List Rule
known =
    attributes ∷ module_path ∷ module_words ∷ type_path ∷ type_words ∷ type_arguments ∷ return_type ∷ generic_arguments ∷ qualified_path ∷ path_as_type ∷ type
    ∷ expression_path ∷ expression_words ∷ qualified_expression_path ∷ path_as_expression ∷ macro_invocation ∷ pattern ∷ block ∷ body ∷ plain_body ∷ primary ∷ block_like
    ∷ if_expression ∷ loop_expression ∷ postfixes ∷ member ∷ unary ∷ casts ∷ cast ∷ products ∷ product ∷ sums ∷ sum ∷ shifts ∷ shift ∷ bit_ands ∷ bit_and ∷ bit_xors
    ∷ bit_xor ∷ bit_ors ∷ bit_or ∷ compared ∷ comparison ∷ conjunctions ∷ conjunction ∷ disjunctions ∷ disjunction ∷ assigned ∷ whole_expression
    ∷ more_type_words ∷ whole_expression_head ∷ disjunction_head ∷ assigned_head ∷ conjunction_head ∷ disjunctions_head ∷ comparison_head ∷ conjunctions_head ∷ bit_or_head ∷ compared_head ∷ bit_xor_head ∷ bit_ors_head ∷ bit_and_head ∷ bit_xors_head ∷ shift_head ∷ bit_ands_head ∷ sum_head ∷ shifts_head ∷ product_head ∷ sums_head ∷ cast_head ∷ products_head ∷ unary_head ∷ primary_head ∷ []

abbrev pub known_of : List Rule → Bool
known_of [] = true
known_of (k ∷ ks) = and (among k known) (known_of ks)

abbrev pub settles : Grammar → Bool
settles empty = true
settles (token b k) = true
settles (mark b cs) = true
settles lifetime = true
settles (g & h) = and (settles g) (settles h)
settles (when c then g else h) = and (settles g) (settles h)
settles (inside d g) = true
settles (raw d) = true
settles (either g h) = and (settles g) (settles h)
settles (one_of ks) = known_of ks
settles (rule k) = among k known
settles (such q g) = settles g
settles (shaped j g) = settles g
settles unshown = true
settles (ordered g h) = true
settles _ = false

abbrev all_settle : List Rule → Bool
all_settle [] = true
all_settle (k ∷ ks) = and (settles (table k)) (all_settle ks)

in_list : (ks : List Rule) (k : Rule) → among k ks ≡ true → all_settle ks ≡ true → settles (table k) ≡ true
in_list [] k e h = absurd (true≢false (sym e))
in_list (l ∷ ks) k e h = go (or_split (same_rule k l) (among k ks) e) (in_list ks k)
  where
    go : (same_rule k l ≡ true) ⊎ (among k ks ≡ true) → (among k ks ≡ true → all_settle ks ≡ true → settles (table k) ≡ true) → settles (table k) ≡ true
    go (inl s) more = ap (λ z. settles (table z)) (same_rule_eq k l s) ∙ and_left (settles (table l)) _ h
    go (inr s) more = more s (and_right (settles (table l)) _ h)

pub known_settles : (k : Rule) → among k known ≡ true → settles (table k) ≡ true
known_settles k e = in_list known k e refl

pub named : (ks : List Rule) (k : Rule) → among k ks ≡ true → known_of ks ≡ true → among k known ≡ true
named [] k e h = absurd (true≢false (sym e))
named (l ∷ ks) k e h = go (or_split (same_rule k l) (among k ks) e) (named ks k)
  where
    go : (same_rule k l ≡ true) ⊎ (among k ks ≡ true) → (among k ks ≡ true → known_of ks ≡ true → among k known ≡ true) → among k known ≡ true
    go (inl s) more = ap (λ z. among z known) (same_rule_eq k l s) ∙ and_left (among l known) _ h
    go (inr s) more = more s (and_right (among l known) _ h)

pub brace_is : (d : Delimiter) (o c : Span) (s : Syntax) → is_brace d ≡ ends_brace (Group d o c s)
brace_is Paren o c s = refl
brace_is Brace o c s = refl
brace_is Bracket o c s = refl
brace_is Invisible o c s = refl

pub raw_is : (d : Delimiter) (o c : Span) (i : Stream) → is_brace d ≡ ends_brace (Raw d o c i)
raw_is Paren o c i = refl
raw_is Brace o c i = refl
raw_is Bracket o c i = refl
raw_is Invisible o c i = refl
