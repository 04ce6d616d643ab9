-- The name of an item follows the word of its kind.
use Rattle.std.proofs.Common.{◌≡◌, ℕ, Bool, true, false, None, refl, sym, ap, ap₂, ◌∙◌, subst, true≢false, ◌⊎◌, inl, inr}
use Rattle.std.specs.Prelude.{List, [], ◌∷◌, ◌++◌, map, nat_eq}
use Rattle.syn_grammar.specs.Words.{Text, keywords, contextual, w_async, w_auto, w_const, w_crate, w_enum, w_extern, w_fn, w_mod, w_mut, w_static, w_struct, w_trait, w_try, w_type, w_union, w_unsafe, exclamation, semicolon}
use Rattle.syn_grammar.specs.Tokens.{Span, Delimiter, Paren, Brace, Bracket, Fact, Leaf, ident, literal, LitKind, Stream, end, leaf, punct, group, and, or, no, pick, same_text, one_of_texts, Name as NameT, Word, Literal, mem, Look, at_word, present}
use Rattle.syn_grammar.specs.Rules.{Rule, attributes, visibility, unsafe_only, abi, alias, bare_trait, signature, signature_rest, macro_item_rest, macro_end, macro_as_item_rest, module_path, module_words, structure, enumeration, union_item, function, const_item, static_item, extern_crate, module_item, trait_alias, type_item, macro_as_item, trait_definition, item}
use Rattle.syn_grammar.specs.RuleNumbers.{same_rule}
use Rattle.syn_grammar.specs.Grammar.{Kind, word, name_or, literal_of, fits, Grammar, empty, token, mark, ◌&◌, when◌then◌else◌, vanishing, inside, raw, rule, shaped, unshown, Syntax, Nothing, Token, Mark, Both, Left, Right, Node, Vanishing, Group, Raw, Case, one_of, Shaped, Unshown, DerivesPrefix, Spelled, chars, among}
use Rattle.syn_grammar.specs.Table.{at_paren, at_bracket, at_no_macro_item, at_bang, at_extern, at_macro_name, optional_item_word, table}
use Rattle.syn_grammar.specs.Forms.{plainly, punctuation, asking_punctuation, never, optional}
use Rattle.syn_grammar.specs.EntryPoints.{kinds_of}
use Rattle.syn_grammar.specs.Listed.{first_part, other_parts, after_parts, of_rule, of_choice, token_name, name_after, after_attributes, name_in, Marker, a_word, a_bang, marks_leaf, marks_char, past, name_next, past_mut, name_past, name_ahead, NamesAhead}
use Rattle.std.proofs.lemmas.Bool.{eq-eqb}
use Rattle.syn_grammar.proofs.RuleLemmas.{same_rule_eq}
use Rattle.syn_grammar.proofs.Sets.{and_left, and_right, same_text_eq}

-- ---- parts of a derivation
pub in_sequence : (g h : Grammar) (s : Syntax) (ts r : Stream) → DerivesPrefix table (g & h) s ts r → (m : Stream) × DerivesPrefix table g (first_part s) ts m × DerivesPrefix table h (other_parts s) m r
in_sequence g h (Both s t) ts r d = d
in_sequence g h _ ts r d = elim d [ ]

pub in_rule : (k : Rule) (s : Syntax) (ts r : Stream) → DerivesPrefix table (rule k) s ts r → DerivesPrefix table (table k) (of_rule s) ts r
in_rule k (Node s) ts r d = d
in_rule k _ ts r d = elim d [ ]

in_token : (b : List Fact) (k : Kind) (s : Syntax) (ts r : Stream) → DerivesPrefix table (token b k) s ts r → (x : Leaf) × (sp : Span) × (s ≡ Token x sp) × (fits k x ≡ true) × (ts ≡ leaf x sp r)
in_token b k (Token x sp) ts r d = (x, sp, refl, d.0, d.1)
in_token b k _ ts r d = elim d [ ]

pub in_choice : (c : Look) (g h : Grammar) (s : Syntax) (ts r : Stream) → DerivesPrefix table (when c then g else h) s ts r →
    ((present c ts ≡ true) × DerivesPrefix table g (of_choice s) ts r) ⊎ ((present c ts ≡ false) × DerivesPrefix table h (of_choice s) ts r)
in_choice c g h (Left s) ts r d = inl d
in_choice c g h (Right s) ts r d = inr d
in_choice c g h _ ts r d = elim d [ ]

-- ---- what a token is
one_word : (x : Leaf) (w : Text) → fits (word w) x ≡ true → x ≡ ident w
one_word (ident t) w e = go (one_of_texts t (keywords ++ contextual)) e
  where
    either : (b : Bool) → or b false ≡ true → b ≡ true
    either true e = refl
    either false e = e

    go : (b : Bool) → mem (pick b (Word t) NameT) (Word w ∷ []) ≡ true → ident t ≡ ident w
    go true e = ap ident (same_text_eq t w (either (same_text t w) e))
    go false e = absurd (true≢false (sym e))
one_word (literal k t) w e = absurd (true≢false (sym e))

no_ident : (ks : List LitKind) (t : Text) → fits (literal_of ks) (ident t) ≡ false
no_ident ks t = go (one_of_texts t (keywords ++ contextual)) ks
  where
    go : (b : Bool) (ks : List LitKind) → mem (pick b (Word t) NameT) (map Literal ks) ≡ false
    go true [] = refl
    go false [] = refl
    go true (k ∷ ks) = go true ks
    go false (k ∷ ks) = go false ks

-- ---- WHAT HOLDS NO MARKER outside of groups
-- the token is none
abbrev kind_passes : Marker → Kind → Bool
kind_passes a_bang k = true
kind_passes (a_word w) (word x) = no (same_text x w)
kind_passes (a_word w) (literal_of ks) = true
kind_passes (a_word w) _ = false

leaf_passes : (m : Marker) (k : Kind) (x : Leaf) → kind_passes m k ≡ true → fits k x ≡ true → marks_leaf m x ≡ false
leaf_passes a_bang k x p e = refl
leaf_passes (a_word w) (word v) x p e = ap (marks_leaf (a_word w)) (one_word x v e) ∙ go (same_text v w) p
  where
    go : (b : Bool) → no b ≡ true → b ≡ false
    go true e = sym e
    go false e = refl
leaf_passes (a_word w) (literal_of ks) (ident t) p e = absurd (true≢false (sym e ∙ no_ident ks t))
leaf_passes (a_word w) (literal_of ks) (literal k t) p e = refl
leaf_passes (a_word w) _ x p e = absurd (true≢false (sym p))

-- the mark's characters are none
abbrev chars_pass : Marker → Text → Bool
chars_pass m [] = true
chars_pass m (c ∷ l) = and (no (marks_char m c)) (chars_pass m l)

mark_passes : (m : Marker) (xs : List (ℕ × Span)) (ts r : Stream) → chars_pass m (chars xs) ≡ true → Spelled xs ts r → past m ts ≡ past m r
mark_passes m [] ts r p h = absurd h
mark_passes m (x ∷ []) ts r p (j, e) = ap (past m) e ∙ go (marks_char m x.0) (and_left (no (marks_char m x.0)) true p)
  where
    go : (b : Bool) → no b ≡ true → pick b r (past m r) ≡ past m r
    go true e = absurd (true≢false (sym e))
    go false e = refl
mark_passes m (x ∷ y ∷ l) ts r p (n, e, h) =
    ap (past m) e ∙ go (marks_char m x.0) (and_left (no (marks_char m x.0)) _ p) ∙ mark_passes m (y ∷ l) n r (and_right (no (marks_char m x.0)) _ p) h
  where
    go : (b : Bool) → no b ≡ true → pick b n (past m n) ≡ past m n
    go true e = absurd (true≢false (sym e))
    go false e = refl

-- the form reads none, where these rules don't
abbrev passes : (Rule → Bool) → Marker → Grammar → Bool
passes S m empty = true
passes S m (token b k) = kind_passes m k
passes S m (mark b cs) = chars_pass m cs
passes S m (g & h) = and (passes S m g) (passes S m h)
passes S m (when c then g else h) = and (passes S m g) (passes S m h)
passes S m (vanishing b c g) = passes S m g
passes S m (inside d g) = true
passes S m (raw d) = true
passes S m (rule k) = S k
passes S m (shaped j g) = passes S m g
passes S m unshown = true
passes S m _ = false

with_true : (b : Bool) → b ≡ true → and b true ≡ true
with_true true e = refl
with_true false e = e

module _ (S : Rule → Bool) (m : Marker) (law : (k : Rule) → S k ≡ true → passes S m (table k) ≡ true) where
  passed : (g : Grammar) (s : Syntax) (ts r : Stream) → passes S m g ≡ true → DerivesPrefix table g s ts r → past m ts ≡ past m r
  passed empty Nothing ts r p d = ap (past m) d
  passed empty _ ts r p d = elim d [ ]
  passed (token b k) (Token x sp) ts r p (f, e) = ap (past m) e ∙ ap (λ b. pick b r (past m r)) (leaf_passes m k x p f)
  passed (token b k) _ ts r p d = elim d [ ]
  passed (mark b cs) (Mark xs) ts r p (e, h) = mark_passes m xs ts r (ap (chars_pass m) e ∙ p) h
  passed (mark b cs) _ ts r p d = elim d [ ]
  passed (g & h) (Both s t) ts r p (n, a, b) = passed g s ts n (and_left (passes S m g) _ p) a ∙ passed h t n r (and_right (passes S m g) _ p) b
  passed (g & h) _ ts r p d = elim d [ ]
  passed (when c then g else h) (Left s) ts r p d = passed g s ts r (and_left (passes S m g) _ p) d.1
  passed (when c then g else h) (Right s) ts r p d = passed h s ts r (and_right (passes S m g) _ p) d.1
  passed (when c then g else h) _ ts r p d = elim d [ ]
  passed (vanishing b c g) (Vanishing b' s) ts r p d = passed (when c then g else empty) s ts r (with_true (passes S m g) p) d.1
  passed (vanishing b c g) _ ts r p d = elim d [ ]
  passed (inside d g) (Group d' o c s) ts r p (q, i, e, a) = ap (past m) e
  passed (inside d g) _ ts r p e = elim e [ ]
  passed (raw d) (Raw d' o c i) ts r p (q, e) = ap (past m) e
  passed (raw d) _ ts r p e = elim e [ ]
  passed (rule k) (Node s) ts r p d = passed (table k) s ts r (law k p) d
  passed (rule k) _ ts r p d = elim d [ ]
  passed (shaped j g) (Shaped j' s) ts r p d = passed g s ts r p d.1
  passed (shaped j g) _ ts r p d = elim d [ ]
  passed unshown (Unshown s) ts r p d = ap (past m) d.1
  passed unshown _ ts r p d = elim d [ ]
  passed _ s ts r p d = absurd (true≢false (sym p))

-- ---- THE RULES THAT STAND BEFORE A NAME
abbrev All : (Rule → Type 0) → List Rule → Type 0
All P [] = Unit {0}
All P (k ∷ ks) = P k × All P ks

one_of_all : (P : Rule → Type 0) (ks : List Rule) → All P ks → (k : Rule) → among k ks ≡ true → P k
one_of_all P [] a k i = absurd (true≢false (sym i))
one_of_all P (l ∷ ks) a k i = go (same_rule k l) refl (one_of_all P ks a.1 k) i
  where
    go : (b : Bool) → same_rule k l ≡ b → (among k ks ≡ true → P k) → or b (among k ks) ≡ true → P k
    go true e others i = subst P (sym (same_rule_eq k l e)) a.0
    go false e others i = others i

abbrev before_words : List Rule
before_words = attributes ∷ visibility ∷ unsafe_only ∷ abi ∷ []

abbrev before_bang : List Rule
before_bang = attributes ∷ module_path ∷ module_words ∷ []

-- no rule among them reads this marker
abbrev Clear : List Rule → Marker → Type 0
Clear ks m = All (λ k. passes (λ l. among l ks) m (table k) ≡ true) ks

module _ (ks : List Rule) (m : Marker) (clear : Clear ks m) where
  -- past the first part of a sequence
  skip : (g h : Grammar) (s : Syntax) (ts r : Stream) → passes (λ l. among l ks) m g ≡ true → DerivesPrefix table (g & h) s ts r →
      (n : Stream) × (past m ts ≡ past m n) × DerivesPrefix table h (other_parts s) n r
  skip g h s ts r p d =
      let (n, a, b) = in_sequence g h s ts r d in
      (n, passed (λ l. among l ks) m (one_of_all (λ k. passes (λ l. among l ks) m (table k) ≡ true) ks clear) g (first_part s) ts n p a, b)

same_text_self : (w : Text) → same_text w w ≡ true
same_text_self [] = refl
same_text_self (c ∷ w) = ap₂ and (eq-eqb c c refl) (same_text_self w)

-- past the word
land : (w : Text) (b : List Fact) (h : Grammar) (s : Syntax) (ts r : Stream) → DerivesPrefix table (token b (word w) & h) s ts r →
    (n : Stream) × (past (a_word w) ts ≡ n) × DerivesPrefix table h (other_parts s) n r
land w b h s ts r d =
    let (n, a, c) = in_sequence (token b (word w)) h s ts r d in
    let (x, sp, e, f, q) = in_token b (word w) (first_part s) ts n a in
    (n, ap (past (a_word w)) (q ∙ ap (λ y. leaf y sp n) (one_word x w f)) ∙ ap (λ z. pick z n (past (a_word w) n)) (same_text_self w), c)

-- the name
name_present : (b : List Fact) (k : Kind) (s : Syntax) (ts r : Stream) → DerivesPrefix table (token b k) s ts r → name_next ts ≡ token_name s
name_present b k s ts r d = let (x, sp, e, f, q) = in_token b k s ts r d in ap name_next q ∙ go x sp r ∙ ap token_name (sym e)
  where
    go : (x : Leaf) (sp : Span) (r : Stream) → name_next (leaf x sp r) ≡ token_name (Token x sp)
    go (ident t) sp r = refl
    go (literal k t) sp r = refl

named : (b : List Fact) (k : Kind) (h : Grammar) (s : Syntax) (ts r : Stream) → DerivesPrefix table (token b k & h) s ts r → name_next ts ≡ token_name (first_part s)
named b k h s ts r d = let (n, a, c) = in_sequence (token b k) h s ts r d in name_present b k (first_part s) ts n a

abbrev Ahead : Rule → Type 0
Ahead k = (ts : Stream) (s : Syntax) (r : Stream) → DerivesPrefix table (table k) s ts r → name_in k (after_attributes s) ≡ name_ahead k ts

-- no rule that may come before a name reads this word
abbrev ClearOf : Text → Type 0
ClearOf w = Clear before_words (a_word w)

module _ (w : Text) (clear : ClearOf w) where
  -- past the first part, which is no such word
  pass : (g h : Grammar) (s : Syntax) (ts r : Stream) → passes (λ l. among l before_words) (a_word w) g ≡ true → DerivesPrefix table (g & h) s ts r →
      (n : Stream) × (past (a_word w) ts ≡ past (a_word w) n) × DerivesPrefix table h (other_parts s) n r
  pass = skip before_words (a_word w) clear

  -- attributes, and a visibility
  pass_both : (k : Rule) (h : Grammar) (s : Syntax) (ts r : Stream) → table k ≡ (rule visibility & h) → DerivesPrefix table (rule attributes & rule k) s ts r →
      (n : Stream) × (past (a_word w) ts ≡ past (a_word w) n) × DerivesPrefix table h (other_parts (after_attributes s)) n r
  pass_both k h s ts r q d =
      let (n, e, a) = pass (rule attributes) (rule k) s ts r refl d in
      let b = subst (λ g. DerivesPrefix table g (after_attributes s) n r) q (in_rule k (other_parts s) n r a) in
      let (m, f, c) = pass (rule visibility) h (after_attributes s) n r refl b in
      (m, e ∙ f, c)

  -- the word and the name
  word_named : (b c : List Fact) (k : Kind) (h : Grammar) (s : Syntax) (ts r : Stream) → DerivesPrefix table (token b (word w) & token c k & h) s ts r →
      name_past w ts ≡ token_name (first_part (other_parts s))
  word_named b c k h s ts r d =
      let (n, e, a) = land w b (token c k & h) s ts r d in
      ap name_next e ∙ named c k h (other_parts s) n r a

structure_named : Ahead structure
structure_named ts s r d =
    let (n, e, a) = pass_both w_struct (refl, (refl, (refl, (refl, tt)))) _ _ s ts r refl d in
    sym (ap name_next e ∙ word_named w_struct (refl, (refl, (refl, (refl, tt)))) _ _ _ _ _ n r a)

enumeration_named : Ahead enumeration
enumeration_named ts s r d =
    let (n, e, a) = pass_both w_enum (refl, (refl, (refl, (refl, tt)))) _ _ s ts r refl d in
    sym (ap name_next e ∙ word_named w_enum (refl, (refl, (refl, (refl, tt)))) _ _ _ _ _ n r a)

union_named : Ahead union_item
union_named ts s r d =
    let (n, e, a) = pass_both w_union (refl, (refl, (refl, (refl, tt)))) _ _ s ts r refl d in
    sym (ap name_next e ∙ word_named w_union (refl, (refl, (refl, (refl, tt)))) _ _ _ _ _ n r a)

const_named : Ahead const_item
const_named ts s r d =
    let (n, e, a) = pass_both w_const (refl, (refl, (refl, (refl, tt)))) _ _ s ts r refl d in
    let (m, f, b) = pass w_const (refl, (refl, (refl, (refl, tt)))) unshown _ _ n r refl a in
    sym (ap name_next (e ∙ f) ∙ word_named w_const (refl, (refl, (refl, (refl, tt)))) _ _ _ _ _ m r b)

type_named : Ahead type_item
type_named ts s r d =
    let (n, e, a) = pass_both w_type (refl, (refl, (refl, (refl, tt)))) _ _ s ts r refl d in
    let (m, f, b) = pass w_type (refl, (refl, (refl, (refl, tt)))) unshown _ _ n r refl a in
    sym (ap name_next (e ∙ f) ∙ word_named w_type (refl, (refl, (refl, (refl, tt)))) _ _ _ _ _ m r b)

crate_named : Ahead extern_crate
crate_named ts s r d =
    let (n, e, a) = pass_both w_crate (refl, (refl, (refl, (refl, tt)))) _ _ s ts r refl d in
    let (m, f, b) = pass w_crate (refl, (refl, (refl, (refl, tt)))) (token [] (word w_extern)) _ _ n r refl a in
    sym (ap name_next (e ∙ f) ∙ word_named w_crate (refl, (refl, (refl, (refl, tt)))) _ _ _ _ _ m r b)

module_named : Ahead module_item
module_named ts s r d =
    let (n, e, a) = pass_both w_mod (refl, (refl, (refl, (refl, tt)))) _ _ s ts r refl d in
    let (m, f, b) = pass w_mod (refl, (refl, (refl, (refl, tt)))) (optional_item_word w_unsafe) _ _ n r refl a in
    sym (ap name_next (e ∙ f) ∙ word_named w_mod (refl, (refl, (refl, (refl, tt)))) _ _ _ _ _ m r b)

alias_named : Ahead trait_alias
alias_named ts s r d =
    let (n, e, a) = pass_both w_trait (refl, (refl, (refl, (refl, tt)))) _ _ s ts r refl d in
    sym (ap name_next e ∙ word_named w_trait (refl, (refl, (refl, (refl, tt)))) _ _ _ _ _ n r (in_rule alias _ n r a))

trait_named : Ahead trait_definition
trait_named ts s r d =
    let (n, e, a) = pass_both w_trait (refl, (refl, (refl, (refl, tt)))) _ _ s ts r refl d in
    let (m, f, b) = pass w_trait (refl, (refl, (refl, (refl, tt)))) (optional_item_word w_const) _ _ n r refl a in
    let (o, g, c) = pass w_trait (refl, (refl, (refl, (refl, tt)))) (optional_item_word w_unsafe) _ _ m r refl (in_rule bare_trait _ m r b) in
    let (q, h, i) = pass w_trait (refl, (refl, (refl, (refl, tt)))) (optional_item_word w_auto) _ _ o r refl c in
    sym (ap name_next (e ∙ f ∙ g ∙ h) ∙ word_named w_trait (refl, (refl, (refl, (refl, tt)))) _ _ _ _ _ q r i)

-- a signature's name
signature_named : (s : Syntax) (ts r : Stream) → DerivesPrefix table (table signature) s ts r → name_past w_fn ts ≡ name_after 1 (of_rule (after_parts 4 s))
signature_named s ts r d =
    let (n, e, a) = pass w_fn (refl, (refl, (refl, (refl, tt)))) (optional_item_word w_const) _ s ts r refl d in
    let (m, f, b) = pass w_fn (refl, (refl, (refl, (refl, tt)))) (optional_item_word w_async) _ _ n r refl a in
    let (o, g, c) = pass w_fn (refl, (refl, (refl, (refl, tt)))) (rule unsafe_only) _ _ m r refl b in
    let (q, h, i) = pass w_fn (refl, (refl, (refl, (refl, tt)))) (when at_extern then rule abi else empty) _ _ o r refl c in
    ap name_next (e ∙ f ∙ g ∙ h) ∙ word_named w_fn (refl, (refl, (refl, (refl, tt)))) _ _ _ _ _ q r (in_rule signature_rest _ q r i)

function_named : Ahead function
function_named ts s r d =
    let (n, e, a) = pass_both w_fn (refl, (refl, (refl, (refl, tt)))) _ _ s ts r refl d in
    let (m, f, b) = pass w_fn (refl, (refl, (refl, (refl, tt)))) unshown _ _ n r refl a in
    let (o, g, c) = in_sequence (rule signature) _ _ m r b in
    sym (ap name_next (e ∙ f) ∙ signature_named _ m o (in_rule signature _ m o g))

-- past `mut` or not
mut_passed : (s : Syntax) (ts r : Stream) → DerivesPrefix table (optional w_mut) s ts r → past_mut ts ≡ r
mut_passed s ts r d = go (in_choice (at_word w_mut) (token [] (word w_mut)) empty s ts r d)
  where
    nothing : (t : Syntax) → DerivesPrefix table empty t ts r → ts ≡ r
    nothing Nothing e = e
    nothing _ e = elim e [ ]

    unlike : (ts : Stream) → present (at_word w_mut) ts ≡ false → past_mut ts ≡ ts
    unlike end e = refl
    unlike (leaf (literal k x) sp m) e = refl
    unlike (punct c j sp m) e = refl
    unlike (group d o c i m) e = refl
    unlike (leaf (ident x) sp m) e = as_text (same_text x w_mut) refl
      where
        as_text : (b : Bool) → same_text x w_mut ≡ b → pick b m (leaf (ident x) sp m) ≡ leaf (ident x) sp m
        as_text true q = absurd (true≢false (ap (λ y. present (at_word w_mut) (leaf (ident y) sp m)) (sym (same_text_eq x w_mut q)) ∙ e))
        as_text false q = refl

    go : ((present (at_word w_mut) ts ≡ true) × DerivesPrefix table (token [] (word w_mut)) (of_choice s) ts r) ⊎ ((present (at_word w_mut) ts ≡ false) × DerivesPrefix table empty (of_choice s) ts r) → past_mut ts ≡ r
    go (inl (e, d)) = let (x, sp, f, g, q) = in_token [] (word w_mut) (of_choice s) ts r d in ap past_mut (q ∙ ap (λ y. leaf y sp r) (one_word x w_mut g))
    go (inr (e, d)) = unlike ts e ∙ nothing (of_choice s) d

static_named : Ahead static_item
static_named ts s r d =
    let (n, e, a) = pass_both w_static (refl, (refl, (refl, (refl, tt)))) _ _ s ts r refl d in
    let (m, f, b) = land w_static _ _ _ n r a in
    let (o, g, c) = in_sequence (optional w_mut) _ _ m r b in
    sym (ap (λ z. name_next (past_mut z)) (e ∙ f) ∙ ap name_next (mut_passed _ m o g) ∙ named _ _ _ _ o r c)

-- a group is no name
no_name_group : (d : Delimiter) (s : Syntax) (ts r : Stream) → DerivesPrefix table (raw d) s ts r → name_next ts ≡ None
no_name_group d (Raw d' o c i) ts r a = ap name_next a.1
no_name_group d _ ts r a = elim a [ ]

never_read : {A : Type 0} (s : Syntax) (ts r : Stream) → DerivesPrefix table (one_of []) s ts r → A
never_read (Case k s) ts r d = absurd (true≢false (sym d.0))
never_read _ ts r d = elim d [ ]

no_name_at_end : (s : Syntax) (ts r : Stream) → DerivesPrefix table (table macro_end) s ts r → name_next ts ≡ None
no_name_at_end s ts r d = by_paren (in_choice at_paren (raw Paren & punctuation semicolon) (when at_bracket then raw Bracket & punctuation semicolon else raw Brace) s ts r d)
  where
    marked : (d : Delimiter) (t : Syntax) → DerivesPrefix table (raw d & punctuation semicolon) t ts r → name_next ts ≡ None
    marked d t a = let (n, b, c) = in_sequence (raw d) (punctuation semicolon) t ts r a in no_name_group d (first_part t) ts n b

    by_bracket : (t : Syntax) → ((present at_bracket ts ≡ true) × DerivesPrefix table (raw Bracket & punctuation semicolon) (of_choice t) ts r) ⊎ ((present at_bracket ts ≡ false) × DerivesPrefix table (raw Brace) (of_choice t) ts r) → name_next ts ≡ None
    by_bracket t (inl (e, a)) = marked Bracket (of_choice t) a
    by_bracket t (inr (e, a)) = no_name_group Brace (of_choice t) ts r a

    by_paren : ((present at_paren ts ≡ true) × DerivesPrefix table (raw Paren & punctuation semicolon) (of_choice s) ts r)
        ⊎ ((present at_paren ts ≡ false) × DerivesPrefix table (when at_bracket then raw Bracket & punctuation semicolon else raw Brace) (of_choice s) ts r) → name_next ts ≡ None
    by_paren (inl (e, a)) = marked Paren (of_choice s) a
    by_paren (inr (e, a)) = by_bracket (of_choice s) (in_choice at_bracket (raw Bracket & punctuation semicolon) (raw Brace) (of_choice s) ts r a)

-- past the `!`
bang_passed : (s : Syntax) (ts r : Stream) → DerivesPrefix table (when at_bang then asking_punctuation exclamation else never) s ts r → past a_bang ts ≡ r
bang_passed s ts r d = go (in_choice at_bang (asking_punctuation exclamation) never s ts r d)
  where
    spelled : (xs : List (ℕ × Span)) → chars xs ≡ exclamation → Spelled xs ts r → past a_bang ts ≡ r
    spelled [] e h = absurd h
    spelled (x ∷ []) e (j, q) = let a : x.0 ≡ 33 = cc e in ap (past a_bang) q ∙ ap (λ n. pick (nat_eq n 33) r (past a_bang r)) a
    spelled (x ∷ y ∷ l) e h = absurd (cc e)

    bang : (t : Syntax) → DerivesPrefix table (asking_punctuation exclamation) t ts r → past a_bang ts ≡ r
    bang (Mark xs) (e, h) = spelled xs e h
    bang _ d = elim d [ ]

    go : ((present at_bang ts ≡ true) × DerivesPrefix table (asking_punctuation exclamation) (of_choice s) ts r) ⊎ ((present at_bang ts ≡ false) × DerivesPrefix table never (of_choice s) ts r) → past a_bang ts ≡ r
    go (inl (e, d)) = bang (of_choice s) d
    go (inr (e, d)) = never_read (of_choice s) ts r d

-- the name of a macro, where there is one before its group
macro_name_present : (s : Syntax) (ts r : Stream) → DerivesPrefix table ((when at_macro_name then plainly (name_or (w_try ∷ [])) else empty) & rule macro_end) s ts r →
    name_next ts ≡ token_name (of_choice (first_part s))
macro_name_present s ts r d =
    let (n, a, b) = in_sequence (when at_macro_name then plainly (name_or (w_try ∷ [])) else empty) (rule macro_end) s ts r d in
    go n b (in_choice at_macro_name (plainly (name_or (w_try ∷ []))) empty (first_part s) ts n a)
  where
    nothing : (t : Syntax) (n : Stream) → DerivesPrefix table empty t ts n → (ts ≡ n) × (token_name t ≡ None)
    nothing Nothing n e = (e, refl)
    nothing _ n e = elim e [ ]

    go : (n : Stream) → DerivesPrefix table (rule macro_end) (other_parts s) n r →
        ((present at_macro_name ts ≡ true) × DerivesPrefix table (plainly (name_or (w_try ∷ []))) (of_choice (first_part s)) ts n) ⊎ ((present at_macro_name ts ≡ false) × DerivesPrefix table empty (of_choice (first_part s)) ts n) →
        name_next ts ≡ token_name (of_choice (first_part s))
    go n b (inl (e, a)) = name_present [] (name_or (w_try ∷ [])) (of_choice (first_part s)) ts n a
    go n b (inr (e, a)) =
        let (f, g) = nothing (of_choice (first_part s)) n a in
        ap name_next f ∙ no_name_at_end (of_rule (other_parts s)) n r (in_rule macro_end (other_parts s) n r b) ∙ sym g

macro_named : Ahead macro_as_item
macro_named ts s r d =
    let clear : Clear before_bang a_bang = (refl, (refl, (refl, tt))) in
    let (n, e, a) = skip before_bang a_bang clear (rule attributes) _ s ts r refl d in
    go clear n e (in_choice at_no_macro_item never (rule macro_item_rest) (after_attributes s) n r (in_rule macro_as_item_rest _ n r a))
  where
    go : Clear before_bang a_bang → (n : Stream) → past a_bang ts ≡ past a_bang n →
        ((present at_no_macro_item n ≡ true) × DerivesPrefix table never (of_choice (after_attributes s)) n r) ⊎ ((present at_no_macro_item n ≡ false) × DerivesPrefix table (rule macro_item_rest) (of_choice (after_attributes s)) n r) →
        name_in macro_as_item (after_attributes s) ≡ name_ahead macro_as_item ts
    go clear n e (inl (q, a)) = never_read (of_choice (after_attributes s)) n r a
    go clear n e (inr (q, a)) =
        let (m, f, b) = skip before_bang a_bang clear (rule module_path) _ _ n r refl (in_rule macro_item_rest _ n r a) in
        let (o, g, c) = in_sequence (when at_bang then asking_punctuation exclamation else never) _ _ m r b in
        sym (ap name_next (e ∙ f ∙ bang_passed _ m o g) ∙ macro_name_present _ o r c)

pub names_ahead : NamesAhead
names_ahead k ts s r i d = one_of_all Ahead (kinds_of (table item)) all k i ts s r d
  where
    all : All Ahead (kinds_of (table item))
    all = (structure_named, (enumeration_named, (union_named, (function_named, (const_named, (static_named, (crate_named, (λ ts s r d. refl, (module_named, (alias_named, (type_named, (macro_named, (trait_named, (λ ts s r d. refl, (λ ts s r d. refl, (λ ts s r d. refl, tt))))))))))))))))
