-- Whether two forms are spelled the same, and whether two tests of trees are opposite.
use Rattle.std.proofs.Common.{◌≡◌, ℕ, Bool, true, false, List, [], ◌∷◌, nat_eq, refl, sym, ap, ◌∙◌, ap₂, subst, true≢false}
use Rattle.std.proofs.lemmas.Bool.{eqb-true}
use Rattle.syn_grammar.specs.Words.{Text, comma}
use Rattle.syn_grammar.specs.Shape.{Shape, shape_number, shape_at, shape_back, same_shape}
use Rattle.syn_grammar.specs.Tokens.{Span, Delimiter, LitKind, Stream, end, leaf, punct, group, and, lookahead, present, same_text, kind_number, same_fact, delimiter_number, Terminal, Punctuation, starts_mark, join}
use Rattle.syn_grammar.specs.Rules.{Rule}
use Rattle.syn_grammar.specs.RuleNumbers.{same_rule}
use Rattle.syn_grammar.specs.Grammar.{Syntax, chars, Spelled, Kind, name, identifier, word, name_or, literal_of, Grammar, empty, token, mark, lifetime, ◌&◌, when◌then◌else◌, vanishing, inside, raw, rest_after, either, one_of, rule, such, captured, unshown, supplied, generics_before, holds, Test, trailing_brace, no_trailing_brace, has, has_no, one_where, has_part, ends_brace, row, ordered, at_row_comma, index, shaped}
use Rattle.syn_grammar.proofs.RuleLemmas.{same_rule_eq}
use Rattle.syn_grammar.proofs.Sets.{and_left, and_right, no_true, same_text_eq, same_kind_eq, same_fact_eq, same_delimiter_eq, same_look, same_look_eq}
use Rattle.syn_grammar.proofs.Again.{same_facts, same_facts_eq}

abbrev pub same_texts : List Text → List Text → Bool
same_texts [] [] = true
same_texts (x ∷ l) (y ∷ m) = and (same_text x y) (same_texts l m)
same_texts _ _ = false

same_texts_eq : (l m : List Text) → same_texts l m ≡ true → l ≡ m
same_texts_eq [] [] e = refl
same_texts_eq (x ∷ l) (y ∷ m) e = ap₂ ◌∷◌ (same_text_eq x y (and_left (same_text x y) _ e)) (same_texts_eq l m (and_right (same_text x y) _ e))
same_texts_eq _ _ e = absurd (true≢false (sym e))

abbrev pub same_kinds : List LitKind → List LitKind → Bool
same_kinds [] [] = true
same_kinds (x ∷ l) (y ∷ m) = and (nat_eq (kind_number x) (kind_number y)) (same_kinds l m)
same_kinds _ _ = false

same_kinds_eq : (l m : List LitKind) → same_kinds l m ≡ true → l ≡ m
same_kinds_eq [] [] e = refl
same_kinds_eq (x ∷ l) (y ∷ m) e = ap₂ ◌∷◌ (same_kind_eq x y (and_left (nat_eq (kind_number x) (kind_number y)) _ e)) (same_kinds_eq l m (and_right (nat_eq (kind_number x) (kind_number y)) _ e))
same_kinds_eq _ _ e = absurd (true≢false (sym e))

abbrev pub same_rules : List Rule → List Rule → Bool
same_rules [] [] = true
same_rules (x ∷ l) (y ∷ m) = and (same_rule x y) (same_rules l m)
same_rules _ _ = false

same_rules_eq : (l m : List Rule) → same_rules l m ≡ true → l ≡ m
same_rules_eq [] [] e = refl
same_rules_eq (x ∷ l) (y ∷ m) e = ap₂ ◌∷◌ (same_rule_eq x y (and_left (same_rule x y) _ e)) (same_rules_eq l m (and_right (same_rule x y) _ e))
same_rules_eq _ _ e = absurd (true≢false (sym e))

abbrev pub same_choice : Kind → Kind → Bool
same_choice name name = true
same_choice identifier identifier = true
same_choice (word a) (word b) = same_text a b
same_choice (name_or a) (name_or b) = same_texts a b
same_choice (literal_of a) (literal_of b) = same_kinds a b
same_choice index index = true
same_choice _ _ = false

pub same_choice_eq : (k l : Kind) → same_choice k l ≡ true → k ≡ l
same_choice_eq name name e = refl
same_choice_eq identifier identifier e = refl
same_choice_eq (word a) (word b) e = ap word (same_text_eq a b e)
same_choice_eq (name_or a) (name_or b) e = ap name_or (same_texts_eq a b e)
same_choice_eq index index e = refl
same_choice_eq (literal_of a) (literal_of b) e = ap literal_of (same_kinds_eq a b e)
same_choice_eq _ _ e = absurd (true≢false (sym e))

abbrev pub same_bool : Bool → Bool → Bool
same_bool true true = true
same_bool false false = true
same_bool _ _ = false

pub same_bool_eq : (a b : Bool) → same_bool a b ≡ true → a ≡ b
same_bool_eq true true e = refl
same_bool_eq false false e = refl
same_bool_eq _ _ e = absurd (true≢false (sym e))

abbrev pub same_test : Test → Test → Bool
same_test trailing_brace trailing_brace = true
same_test no_trailing_brace no_trailing_brace = true
same_test (has k) (has l) = same_rule k l
same_test (has_no k) (has_no l) = same_rule k l
same_test one_where one_where = true
same_test _ _ = false

pub same_test_eq : (p q : Test) → same_test p q ≡ true → p ≡ q
same_test_eq trailing_brace trailing_brace e = refl
same_test_eq no_trailing_brace no_trailing_brace e = refl
same_test_eq (has k) (has l) e = ap has (same_rule_eq k l e)
same_test_eq (has_no k) (has_no l) e = ap has_no (same_rule_eq k l e)
same_test_eq one_where one_where e = refl
same_test_eq _ _ e = absurd (true≢false (sym e))

-- no tree has both properties
abbrev pub opposite : Test → Test → Bool
opposite trailing_brace no_trailing_brace = true
opposite no_trailing_brace trailing_brace = true
opposite (has k) (has_no l) = same_rule k l
opposite (has_no k) (has l) = same_rule k l
opposite _ _ = false

pub opposite_sound : (p q : Test) (s : Syntax) → opposite p q ≡ true → holds p s ≡ true → holds q s ≡ true → ⊥
opposite_sound trailing_brace no_trailing_brace s e a b = true≢false (sym a ∙ no_true (ends_brace s) b)
opposite_sound no_trailing_brace trailing_brace s e a b = true≢false (sym b ∙ no_true (ends_brace s) a)
opposite_sound (has k) (has_no l) s e a b = true≢false (sym a ∙ ap (λ z. has_part z s) (same_rule_eq k l e) ∙ no_true (has_part l s) b)
opposite_sound (has_no k) (has l) s e a b = true≢false (sym b ∙ ap (λ z. has_part z s) (sym (same_rule_eq k l e)) ∙ no_true (has_part k s) a)
opposite_sound _ _ s e a b = true≢false (sym e)

-- are two forms spelled the same
abbrev pub same_delimiter : Delimiter → Delimiter → Bool
same_delimiter a b = nat_eq (delimiter_number a) (delimiter_number b)

pub same_shape_eq : (a b : Shape) → same_shape a b ≡ true → a ≡ b
same_shape_eq a b e =
    let n = shape_number a in
    let m = shape_number b in
    sym (shape_back a) ∙ ap₂ (λ u v. shape_at (u, v)) (eqb-true n.0 m.0 (and_left (nat_eq n.0 m.0) _ e)) (eqb-true n.1 m.1 (and_right (nat_eq n.0 m.0) _ e)) ∙ shape_back b

abbrev pub same : Grammar → Grammar → Bool
same empty empty = true
same (token b k) (token c l) = and (same_facts b c) (same_choice k l)
same (mark b l) (mark c m) = and (same_bool b c) (same_text l m)
same (rest_after l) (rest_after m) = same_text l m
same lifetime lifetime = true
same (g & h) (g' & h') = and (same g g') (same h h')
same (when c then g else h) (when c' then g' else h') = and (same_look c c') (and (same g g') (same h h'))
same (vanishing b c g) (vanishing b' c' g') = and (same_bool b b') (and (same_look c c') (same g g'))
same (inside d g) (inside d' g') = and (same_delimiter d d') (same g g')
same (raw d) (raw d') = same_delimiter d d'
same (either g h) (either g' h') = and (same g g') (same h h')
same (one_of k) (one_of l) = same_rules k l
same (rule k) (rule l) = same_rule k l
same (such p g) (such q h) = and (same_test p q) (same g h)
same (shaped i g) (shaped j h) = and (same_shape i j) (same g h)
same (captured g) (captured h) = same g h
same unshown unshown = true
same (supplied n p t) (supplied n' p' t') = and (same_fact n n') (and (same p p') (same t t'))
same (generics_before x y h) (generics_before x' y' h') = and (same x x') (and (same y y') (same h h'))
same (row g h) (row g' h') = and (same g g') (same h h')
same (ordered g h) (ordered g' h') = and (same g g') (same h h')
same _ _ = false

pub same_eq : (g h : Grammar) → same g h ≡ true → g ≡ h
same_eq empty empty e = refl
same_eq (token b k) (token c l) e = ap₂ token (same_facts_eq b c (and_left (same_facts b c) _ e)) (same_choice_eq k l (and_right (same_facts b c) _ e))
same_eq (mark b l) (mark c m) e = ap₂ mark (same_bool_eq b c (and_left (same_bool b c) _ e)) (same_text_eq l m (and_right (same_bool b c) _ e))
same_eq (rest_after l) (rest_after m) e = ap rest_after (same_text_eq l m e)
same_eq lifetime lifetime e = refl
same_eq (g & h) (g' & h') e = ap₂ ◌&◌ (same_eq g g' (and_left (same g g') _ e)) (same_eq h h' (and_right (same g g') _ e))
same_eq (when c then g else h) (when c' then g' else h') e =
    let p = same_look_eq c c' (and_left (same_look c c') _ e) in
    let q = and_right (same_look c c') _ e in
    ap (λ v. when v then g else h) p ∙ ap₂ (λ v w. when c' then v else w) (same_eq g g' (and_left (same g g') _ q)) (same_eq h h' (and_right (same g g') _ q))
same_eq (vanishing b c g) (vanishing b' c' g') e =
    let p = same_bool_eq b b' (and_left (same_bool b b') _ e) in
    let q = and_right (same_bool b b') _ e in
    ap (λ v. vanishing v c g) p ∙ ap₂ (vanishing b') (same_look_eq c c' (and_left (same_look c c') _ q)) (same_eq g g' (and_right (same_look c c') _ q))
same_eq (inside d g) (inside d' g') e = ap₂ inside (same_delimiter_eq d d' (and_left (same_delimiter d d') _ e)) (same_eq g g' (and_right (same_delimiter d d') _ e))
same_eq (raw d) (raw d') e = ap raw (same_delimiter_eq d d' e)
same_eq (either g h) (either g' h') e = ap₂ either (same_eq g g' (and_left (same g g') _ e)) (same_eq h h' (and_right (same g g') _ e))
same_eq (one_of k) (one_of l) e = ap one_of (same_rules_eq k l e)
same_eq (rule k) (rule l) e = ap rule (same_rule_eq k l e)
same_eq (such p g) (such q h) e = ap₂ such (same_test_eq p q (and_left (same_test p q) _ e)) (same_eq g h (and_right (same_test p q) _ e))
same_eq (shaped i g) (shaped j h) e = ap₂ shaped (same_shape_eq i j (and_left (same_shape i j) _ e)) (same_eq g h (and_right (same_shape i j) _ e))
same_eq (captured g) (captured h) e = ap captured (same_eq g h e)
same_eq unshown unshown e = refl
same_eq (supplied n p t) (supplied n' p' t') e =
    let q = and_right (same_fact n n') _ e in
    ap (λ v. supplied v p t) (same_fact_eq n n' (and_left (same_fact n n') _ e)) ∙ ap₂ (supplied n') (same_eq p p' (and_left (same p p') _ q)) (same_eq t t' (and_right (same p p') _ q))
same_eq (generics_before x y h) (generics_before x' y' h') e =
    let q = and_right (same x x') _ e in
    ap (λ v. generics_before v y h) (same_eq x x' (and_left (same x x') _ e)) ∙ ap₂ (generics_before x') (same_eq y y' (and_left (same y y') _ q)) (same_eq h h' (and_right (same y y') _ q))
same_eq (row g h) (row g' h') e = ap₂ row (same_eq g g' (and_left (same g g') _ e)) (same_eq h h' (and_right (same g g') _ e))
same_eq (ordered g h) (ordered g' h') e = ap₂ ordered (same_eq g g' (and_left (same g g') _ e)) (same_eq h h' (and_right (same g g') _ e))
same_eq _ _ e = absurd (true≢false (sym e))

-- it reads one token tree
abbrev pub single : Grammar → Bool
single (token b k) = true
single (raw d) = true
single (inside d g) = true
single _ = false

abbrev pub tail : Stream → Stream
tail end = end
tail (leaf x sp m) = m
tail (punct c j sp m) = m
tail (group d o c i m) = m

abbrev pub all_forms : (Grammar → Bool) → List Grammar → Bool
all_forms p [] = true
all_forms p (g ∷ l) = and (p g) (all_forms p l)

abbrev pub all_rules : (Rule → Bool) → List Rule → Bool
all_rules p [] = true
all_rules p (k ∷ l) = and (p k) (all_rules p l)

abbrev pub some_form : List Grammar → Bool
some_form [] = false
some_form (g ∷ l) = true

pub spelled_same : (xs ys : List (ℕ × Span)) (ts r r' : Stream) → chars xs ≡ chars ys → Spelled xs ts r → Spelled ys ts r' → (xs ≡ ys) × (r ≡ r')
spelled_same [] ys ts r r' e h k = elim h [ ]
spelled_same (x ∷ []) (y ∷ []) ts r r' e h k = let p = sym h.1 ∙ k.1 in let a : x.0 ≡ y.0 = cc (p) in let b : x.1 ≡ y.1 = cc (p) in (ap₂ (λ u v. (u, v) ∷ []) a b, cc (p))
spelled_same (x ∷ x' ∷ l) (y ∷ y' ∷ l') ts r r' e h k =
    let p = sym h.1 ∙ k.1 in
    let q : h.0 ≡ k.0 = cc (p) in
    let e' : chars (x' ∷ l) ≡ chars (y' ∷ l') = cc (e) in
    let f0 : x.0 ≡ y.0 = cc (p) in
    let f1 : x.1 ≡ y.1 = cc (p) in
    let f : x ≡ y = ap₂ (λ u v. (u, v)) f0 f1 in
    let (a, b) = spelled_same (x' ∷ l) (y' ∷ l') h.0 r r' e' h.2 (subst (λ t. Spelled (y' ∷ l') t r') (sym q) k.2) in
    (ap₂ ◌∷◌ f a, b)
spelled_same (x ∷ []) [] ts r r' e h k = elim k [ ]
spelled_same (x ∷ x' ∷ l) [] ts r r' e h k = elim k [ ]
spelled_same (x ∷ []) (y ∷ y' ∷ l') ts r r' e h k = cc (e)
spelled_same (x ∷ x' ∷ l) (y ∷ []) ts r r' e h k = cc (e)

pub comma_present : (j : Bool) (sp : Span) (m : Stream) → present at_row_comma (punct 44 j sp m) ≡ true
comma_present true sp m = go (lookahead m).terminal
  where
    go : (f : Terminal) → starts_mark comma (join 44 f) ≡ true
    go (Punctuation l) = refl
    go _ = refl
comma_present false sp m = refl
