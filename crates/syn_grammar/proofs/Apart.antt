-- The test of unions: two forms are apart if no stream is read by both.
use Rattle.std.proofs.Common.{◌≡◌, ℕ, zero, suc, Bool, true, false, List, [], ◌∷◌, sym, ap, ◌∙◌, true≢false, ◌⊎◌, inl, inr}
use Rattle.syn_grammar.specs.Tokens.{Span, Stream, punct, or, and, no, Look, ended, present, at_generics}
use Rattle.syn_grammar.specs.Rules.{Rule}
use Rattle.syn_grammar.specs.RuleNumbers.{same_rule}
use Rattle.syn_grammar.specs.Grammar.{Syntax, Token, Group, Raw, DerivesPrefix, Grammar, empty, token, ◌&◌, when◌then◌else◌, vanishing, inside, raw, either, one_of, rule, such, captured, unshown, supplied, generics_before, opt_generics, row, ordered, among, at_row_comma, shaped}
use Rattle.syn_grammar.proofs.RuleLemmas.{same_rule_eq}
use Rattle.syn_grammar.proofs.Sets.{or_split, and_left, and_right, apart_sets, every, same_look}
use Rattle.syn_grammar.proofs.FirstSets.{Start, nullable, first_set}
use Rattle.syn_grammar.proofs.Again.{excluded}
use Rattle.syn_grammar.proofs.NeverFollow.{never_follow}
use Rattle.syn_grammar.proofs.FormEquality.{opposite, same, single, tail, all_forms, all_rules, some_form, comma_present}

abbrev pub shared : Grammar → Grammar → Bool
shared (a & k) (b & l) = or (same a b) (and (single a) (single b))
shared _ _ = false

-- both begin with the same form, where its tree has opposite properties
abbrev pub opposed : Grammar → Grammar → Bool
opposed (such p g & k) (such q h & l) = and (opposite p q) (same g h)
opposed _ _ = false

abbrev pub rest : Grammar → Grammar
rest (a & k) = k
rest g = g

-- both end with the same rule, and the part before it reads no list in either
abbrev pub trailed : Grammar → Grammar → Bool
trailed (a & rule j) (b & rule k) = same_rule j k
trailed _ _ = false

abbrev pub first : Grammar → Grammar
first (a & k) = a
first g = g

-- what is left of one of two forms that share a beginning or an end (true: a beginning)
abbrev pub part_of : Bool → Grammar → Grammar
part_of true g = rest g
part_of false g = first g

-- it turns by a condition at its front: that condition, and the forms on each side
abbrev pub turns : Grammar → Bool
turns (when c then a else b) = true
turns ((when c then a else b) & k) = true
turns (generics_before x y h) = true
turns (generics_before x y h & k) = true
turns _ = false

abbrev pub turn_of : Grammar → Look
turn_of (when c then a else b) = c
turn_of ((when c then a else b) & k) = c
turn_of (generics_before x y h) = at_generics
turn_of (generics_before x y h & k) = at_generics
turn_of _ = ended

abbrev pub on_side : Bool → Grammar → Grammar
on_side true (when c then a else b) = a
on_side false (when c then a else b) = b
on_side true ((when c then a else b) & k) = a & k
on_side false ((when c then a else b) & k) = b & k
on_side true (generics_before x y h) = ordered x y & h
on_side false (generics_before x y h) = h
on_side true (generics_before x y h & k) = ordered x y & (h & k)
on_side false (generics_before x y h & k) = h & k
on_side _ g = g

abbrev pub turned : Grammar → Grammar → Bool
turned g h = and (and (turns g) (turns h)) (same_look (turn_of g) (turn_of h))

pub all_rules_at : (p : Rule → Bool) (ks : List Rule) (k : Rule) → among k ks ≡ true → all_rules p ks ≡ true → p k ≡ true
all_rules_at p [] k a e = absurd (true≢false (sym a))
all_rules_at p (l ∷ ks) k a e = go (or_split (same_rule k l) (among k ks) a) (all_rules_at p ks k)
  where
    go : (same_rule k l ≡ true) ⊎ (among k ks ≡ true) → (among k ks ≡ true → all_rules p ks ≡ true → p k ≡ true) → p k ≡ true
    go (inl q) ih = ap p (same_rule_eq k l q) ∙ and_left (p l) _ e
    go (inr q) ih = ih q (and_right (p l) _ e)

pub on_left : {A A' B : Type 0} → (A → A') → A ⊎ B → A' ⊎ B
on_left f (inl a) = inl (f a)
on_left f (inr b) = inr b

pub on_right : {A B B' : Type 0} → (B → B') → A ⊎ B → A ⊎ B'
on_right f (inl a) = inl a
on_right f (inr b) = inr (f b)

pub comma_lookahead : (j : Bool) (sp : Span) (m m' : Stream) → m ≡ punct 44 j sp m' → present at_row_comma m ≡ true
comma_lookahead j sp m m' e = ap (present at_row_comma) e ∙ comma_present j sp m'

module _ (table : Rule → Grammar) (said : Rule → Start) where
  abbrev pub each_form : List Rule → List Grammar
  each_form [] = []
  each_form (k ∷ ks) = table k ∷ each_form ks

  abbrev pub each_seq : List Rule → Grammar → List Grammar
  each_seq [] g = []
  each_seq (k ∷ ks) g = (table k & g) ∷ each_seq ks g

  -- the forms that a form comes to, one step further
  abbrev pub open_seq : Grammar → Grammar → List Grammar
  open_seq empty k = k ∷ []
  open_seq (g & h) k = (g & (h & k)) ∷ []
  open_seq (when c then g else h) k = (g & k) ∷ (h & k) ∷ []
  open_seq (either g h) k = (g & k) ∷ (h & k) ∷ []
  open_seq (vanishing b c g) k = ((when c then g else empty) & k) ∷ []
  open_seq (rule n) k = (table n & k) ∷ []
  open_seq (one_of ks) k = each_seq ks k
  open_seq (such q g) k = (g & k) ∷ []
  open_seq (shaped j g) k = (g & k) ∷ []
  open_seq unshown k = k ∷ []
  open_seq (generics_before x y h) k = (opt_generics x y & (h & k)) ∷ []
  open_seq (captured g) k = (g & k) ∷ []
  open_seq _ k = []

  abbrev pub open_form : Grammar → List Grammar
  open_form (g & k) = open_seq g k
  open_form (when c then g else h) = g ∷ h ∷ []
  open_form (either g h) = g ∷ h ∷ []
  open_form (rule n) = table n ∷ []
  open_form (one_of ks) = each_form ks
  open_form (such q g) = g ∷ []
  open_form (shaped j g) = g ∷ []
  open_form (generics_before x y h) = (opt_generics x y & h) ∷ []
  open_form (captured g) = g ∷ []
  open_form _ = []

  -- where the first reads nothing, the second doesn't begin
  abbrev pub clears : Grammar → Grammar → Bool
  clears g h = or (no (nullable said g)) (every (excluded (never_follow said [] g)) (first_set said h))

  -- no list begins with both, since their FIRST sets differ
  abbrev pub disjoint : Grammar → Grammar → Bool
  disjoint g h = and (no (and (nullable said g) (nullable said h))) (and (and (clears g h) (clears h g)) (apart_sets (first_set said g) (first_set said h)))

  -- No list is read by both, seen in this many steps: they begin apart, or with the same form and go on apart, or end with
  -- the same rule and are apart before it, or each of the forms that one comes to is apart from the other (or both turn by one condition and are apart on each side).
  abbrev pub apart : ℕ → Grammar → Grammar → Bool
  apart zero g h = false
  apart (suc n) g h = elim (or (opposed g h) (disjoint g h)) [
    | true ↦ true
    | false ↦ elim (or (shared g h) (trailed g h)) [
      | true ↦ apart n (part_of (shared g h) g) (part_of (shared g h) h)
      | false ↦
          elim (turned g h) [
            | true ↦ and (apart n (on_side true g) (on_side true h)) (apart n (on_side false g) (on_side false h))
            | false ↦
                elim (some_form (open_form g)) [
                  | true ↦ all_forms (λ x. apart n x h) (open_form g)
                  | false ↦
                      and (some_form (open_form h)) (all_forms (λ x. apart n g x) (open_form h))
                ]
          ]
    ]
  ]

  -- how far forms are followed
  abbrev pub steps : ℕ
  steps = 400

  abbrev pub each_apart : List Rule → Bool
  each_apart [] = true
  each_apart (k ∷ ks) = and (all_rules (λ l. apart steps (table k) (table l)) ks) (each_apart ks)

  -- the forms of each union in it are apart
  abbrev pub sound : Grammar → Bool
  sound (g & h) = and (sound g) (sound h)
  sound (when c then g else h) = and (sound g) (sound h)
  sound (vanishing b c g) = sound g
  sound (inside d g) = sound g
  sound (such q g) = sound g
  sound (shaped j g) = sound g
  sound (captured g) = sound g
  sound (generics_before x y h) = and (and (and (apart steps x y) (and (sound x) (sound y))) true) (sound h)
  sound (supplied n p t) = and (sound p) (sound t)
  sound (one_of ks) = each_apart ks
  sound (row g h) = and (apart steps g h) (and (sound g) (sound h))
  sound (ordered g h) = and (apart steps g h) (and (sound g) (sound h))
  sound (either g h) = and (apart steps g h) (and (sound g) (sound h))
  sound _ = true

  pub each_form_at : (p : Grammar → Bool) (ks : List Rule) (k : Rule) → among k ks ≡ true → all_forms p (each_form ks) ≡ true → p (table k) ≡ true
  each_form_at p [] k a e = absurd (true≢false (sym a))
  each_form_at p (l ∷ ks) k a e = go (or_split (same_rule k l) (among k ks) a) (each_form_at p ks k)
    where
      go : (same_rule k l ≡ true) ⊎ (among k ks ≡ true) → (among k ks ≡ true → all_forms p (each_form ks) ≡ true → p (table k) ≡ true) → p (table k) ≡ true
      go (inl q) ih = ap (λ z. p (table z)) (same_rule_eq k l q) ∙ and_left (p (table l)) _ e
      go (inr q) ih = ih q (and_right (p (table l)) _ e)

  pub each_seq_at : (p : Grammar → Bool) (ks : List Rule) (g : Grammar) (k : Rule) → among k ks ≡ true → all_forms p (each_seq ks g) ≡ true → p (table k & g) ≡ true
  each_seq_at p [] g k a e = absurd (true≢false (sym a))
  each_seq_at p (l ∷ ks) g k a e = go (or_split (same_rule k l) (among k ks) a) (each_seq_at p ks g k)
    where
      go : (same_rule k l ≡ true) ⊎ (among k ks ≡ true) → (among k ks ≡ true → all_forms p (each_seq ks g) ≡ true → p (table k & g) ≡ true) → p (table k & g) ≡ true
      go (inl q) ih = ap (λ z. p (table z & g)) (same_rule_eq k l q) ∙ and_left (p (table l & g)) _ e
      go (inr q) ih = ih q (and_right (p (table l & g)) _ e)

  pub single_tail : (g : Grammar) (s : Syntax) (ts r : Stream) → single g ≡ true → DerivesPrefix table g s ts r → r ≡ tail ts
  single_tail (token b k) (Token x sp) ts r e a = ap tail (sym a.1)
  single_tail (raw d) (Raw d' o c i) ts r e a = ap tail (sym a.1)
  single_tail (inside d g) (Group d' o c s) ts r e a = ap tail (sym a.2)
  single_tail (token b k) _ ts r e a = elim a [ ]
  single_tail (raw d) _ ts r e a = elim a [ ]
  single_tail (inside d g) _ ts r e a = elim a [ ]
  single_tail _ s ts r e a = absurd (true≢false (sym e))
