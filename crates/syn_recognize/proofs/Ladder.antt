-- Levels of operators: what an expression is made of, and where a level reads nothing.
use Rattle.std.proofs.Common.{◌≡◌, ℕ, zero, suc, ◌+◌, ◌-◌, ◌<◌, ◌≤◌, Bool, true, false, List, [], ◌∷◌, ◌++◌, length, Result, nat_eq, ◌⊎◌, inl, inr, refl, sym, ap, subst, ◌∙◌, true≢false, arith}
use Rattle.std.proofs.lemmas.Bool.{eqb-true}
use Rattle.syn_grammar.specs.Tokens.{Stream, and, no, or, pick}
use Rattle.syn_grammar.proofs.Sets.{no_true, and_left, and_right, or_split}
use Rattle.syn_grammar.specs.Rules.{Rule, unary, cast, product, sum, shift, bit_and, bit_xor, bit_or, comparison, conjunction, disjunction, whole_expression, unary_head, cast_head, product_head, sum_head, shift_head, bit_and_head, bit_xor_head, bit_or_head, comparison_head, conjunction_head, disjunction_head, whole_expression_head}
use Rattle.syn_grammar.specs.Shape.{chain}
use Rattle.syn_grammar.specs.Grammar.{Grammar, empty, unshown, vanishing, ◌&◌, when◌then◌else◌, rule, shaped}
use Rattle.syn_grammar.specs.Table.{table}
use Rattle.syn_grammar.specs.Take.{Parser}
use Rattle.syn_grammar.specs.Run.{parse_form}
use Rattle.syn_recognize.specs.Written.{Written}
use Rattle.syn_recognize.specs.Copies.{Copy, Reached, Refused, Stuck, copied, next, copy_form}
use Rattle.syn_recognize.specs.Ladder.{Rail, by, done, ladder, on_rail, at_level, finished, level, level_form, climb, loud, ends, Rung, Passes}
use Rattle.syn_parse.specs.Firsts.{Begins}
use Rattle.syn_parse.specs.declared.buffer.first.First.{First}
use Rattle.syn_parse.specs.declared.buffer.first.First.TheVariants as F
use Rattle.syn_tokens.specs.declared.delimiter.Delimiter.TheVariants as D
use Rattle.syn_recognize.specs.May.{may}
use Rattle.syn_recognize.proofs.Copied.{rule_is, shaped_is, then_is, when_is, empty_is, unshown_is}
use Rattle.syn_recognize.proofs.WrittenAside.{hidden_absent}
use Rattle.syn_recognize.specs.Steps.{todo, Leading, Proceeds}
use Rattle.syn_recognize.specs.declared.step.Step.{Step}
use Rattle.syn_recognize.specs.declared.step.Step.TheVariants as Step-m
use Rattle.syn_recognize.proofs.Todo.{push, goes_first, goes_back, goes_read}
use Rattle.syn_recognize.proofs.May.{never, or_left, or_right}

next_next : (o : Copy) (p q : Written → Stream → Copy) → next (next o p) q ≡ next o (λ w ts. next (p w ts) q)
next_next (Reached w ts) p q = refl
next_next Refused p q = refl
next_next Stuck p q = refl

next_same : (o : Copy) (p q : Written → Stream → Copy) → ((w : Written) (ts : Stream) → p w ts ≡ q w ts) → next o p ≡ next o q
next_same (Reached w ts) p q e = e w ts
next_same Refused p q e = refl
next_same Stuck p q e = refl

next_none : (o : Copy) → next o (λ w ts. Reached w ts) ≡ o
next_none (Reached w ts) = refl
next_none Refused = refl
next_none Stuck = refl

-- one level more
climb_more : (k n m : ℕ) → m ≡ k + n → (w : Written) (ts : Stream) → climb (suc k) n w ts ≡ next (climb k n w ts) (copy_form (level m))
climb_more zero n m e w ts = let s : n ≡ m = omega (arith, e) in next_none (copy_form (level n) w ts) ∙ ap (λ i. copy_form (level i) w ts) s
climb_more (suc k) n m e w ts =
    next_same (copy_form (level n) w ts) (climb (suc k) (suc n)) (λ v r. next (climb k (suc n) v r) (copy_form (level m))) (climb_more k (suc n) m (omega (arith, e)))
    ∙ sym (next_next (copy_form (level n) w ts) (climb k (suc n)) (copy_form (level m)))

-- WHAT AN EXPRESSION IS MADE OF

first_rung : (u : Rule) (b : ℕ) → Rung u b u 0
unfolding Rung
first_rung u b w ts = sym (next_none (copy_form (rule u) w ts))

-- after what one rule reads, one level more
onto : (u : Rule) (b : ℕ) (k : Rule) (j m : ℕ) → m ≡ j + b → Rung u b k j → (w : Written) (ts : Stream) → next (copy_form (rule k) w ts) (copy_form (level m)) ≡ next (copy_form (rule u) w ts) (climb (suc j) b)
unfolding Rung
onto u b k j m e h w ts =
    ap (λ o. next o (copy_form (level m))) (h w ts) ∙ next_next (copy_form (rule u) w ts) (climb j b) (copy_form (level m))
    ∙ next_same (copy_form (rule u) w ts) (λ v r. next (climb j b v r) (copy_form (level m))) (climb (suc j) b) (λ v r. sym (climb_more j b m e v r))

rung : (u : Rule) (b : ℕ) (k l : Rule) (j : ℕ) (g : Grammar) → table l ≡ shaped chain (rule k & g) → g ≡ level (j + b) → Rung u b k j → Rung u b l (suc j)
unfolding Rung
rung u b k l j g e f h w ts =
    rule_is l (table l) w ts refl ∙ ap (λ z. copy_form z w ts) e ∙ shaped_is chain (rule k & g) w ts ∙ then_is (rule k) g w ts
    ∙ ap (λ z. next (copy_form (rule k) w ts) (copy_form z)) f ∙ onto u b k j (j + b) refl h w ts

pub cast_rung : Rung unary 0 cast 1
unfolding level
cast_rung = rung unary 0 unary cast 0 _ refl refl (first_rung unary 0)

pub product_rung : Rung unary 0 product 2
unfolding level
product_rung = rung unary 0 cast product 1 _ refl refl cast_rung

pub sum_rung : Rung unary 0 sum 3
unfolding level
sum_rung = rung unary 0 product sum 2 _ refl refl product_rung

pub shift_rung : Rung unary 0 shift 4
unfolding level
shift_rung = rung unary 0 sum shift 3 _ refl refl sum_rung

pub bit_and_rung : Rung unary 0 bit_and 5
unfolding level
bit_and_rung = rung unary 0 shift bit_and 4 _ refl refl shift_rung

pub bit_xor_rung : Rung unary 0 bit_xor 6
unfolding level
bit_xor_rung = rung unary 0 bit_and bit_xor 5 _ refl refl bit_and_rung

pub bit_or_rung : Rung unary 0 bit_or 7
unfolding level
bit_or_rung = rung unary 0 bit_xor bit_or 6 _ refl refl bit_xor_rung

pub comparison_rung : Rung unary 0 comparison 8
unfolding level
comparison_rung = rung unary 0 bit_or comparison 7 _ refl refl bit_or_rung

pub conjunction_rung : Rung unary 0 conjunction 9
unfolding level
conjunction_rung = rung unary 0 comparison conjunction 8 _ refl refl comparison_rung

pub disjunction_rung : Rung unary 0 disjunction 10
unfolding level
disjunction_rung = rung unary 0 conjunction disjunction 9 _ refl refl conjunction_rung

pub whole_rung : Rung unary 0 whole_expression 12
unfolding level Rung
whole_rung w ts =
    rule_is whole_expression (table whole_expression) w ts refl ∙ shaped_is chain _ w ts ∙ then_is (rule disjunction) _ w ts
    ∙ next_same (copy_form (rule disjunction) w ts) _ (λ v r. next (copy_form (level 10) v r) (copy_form (level 11))) (λ v r. then_is (level 10) (level 11) v r)
    ∙ sym (next_next (copy_form (rule disjunction) w ts) (copy_form (level 10)) (copy_form (level 11)))
    ∙ ap (λ o. next o (copy_form (level 11))) (onto unary 0 disjunction 10 10 refl disjunction_rung w ts)
    ∙ next_next (copy_form (rule unary) w ts) (climb 11 0) (copy_form (level 11))
    ∙ next_same (copy_form (rule unary) w ts) (λ v r. next (climb 11 0 v r) (copy_form (level 11))) (climb 12 0) (λ v r. sym (climb_more 11 0 11 refl v r))

-- and in heads

pub cast_head_rung : Rung unary_head 12 cast_head 1
unfolding level
cast_head_rung = rung unary_head 12 unary_head cast_head 0 _ refl refl (first_rung unary_head 12)

pub product_head_rung : Rung unary_head 12 product_head 2
unfolding level
product_head_rung = rung unary_head 12 cast_head product_head 1 _ refl refl cast_head_rung

pub sum_head_rung : Rung unary_head 12 sum_head 3
unfolding level
sum_head_rung = rung unary_head 12 product_head sum_head 2 _ refl refl product_head_rung

pub shift_head_rung : Rung unary_head 12 shift_head 4
unfolding level
shift_head_rung = rung unary_head 12 sum_head shift_head 3 _ refl refl sum_head_rung

pub bit_and_head_rung : Rung unary_head 12 bit_and_head 5
unfolding level
bit_and_head_rung = rung unary_head 12 shift_head bit_and_head 4 _ refl refl shift_head_rung

pub bit_xor_head_rung : Rung unary_head 12 bit_xor_head 6
unfolding level
bit_xor_head_rung = rung unary_head 12 bit_and_head bit_xor_head 5 _ refl refl bit_and_head_rung

pub bit_or_head_rung : Rung unary_head 12 bit_or_head 7
unfolding level
bit_or_head_rung = rung unary_head 12 bit_xor_head bit_or_head 6 _ refl refl bit_xor_head_rung

pub comparison_head_rung : Rung unary_head 12 comparison_head 8
unfolding level
comparison_head_rung = rung unary_head 12 bit_or_head comparison_head 7 _ refl refl bit_or_head_rung

pub conjunction_head_rung : Rung unary_head 12 conjunction_head 9
unfolding level
conjunction_head_rung = rung unary_head 12 comparison_head conjunction_head 8 _ refl refl comparison_head_rung

pub disjunction_head_rung : Rung unary_head 12 disjunction_head 10
unfolding level
disjunction_head_rung = rung unary_head 12 conjunction_head disjunction_head 9 _ refl refl conjunction_head_rung

pub whole_head_rung : Rung unary_head 12 whole_expression_head 12
unfolding level Rung
whole_head_rung w ts =
    rule_is whole_expression_head (table whole_expression_head) w ts refl ∙ shaped_is chain _ w ts ∙ then_is (rule disjunction_head) _ w ts
    ∙ next_same (copy_form (rule disjunction_head) w ts) _ (λ v r. next (copy_form (level 22) v r) (copy_form (level 23))) (λ v r. then_is (level 22) (level 23) v r)
    ∙ sym (next_next (copy_form (rule disjunction_head) w ts) (copy_form (level 22)) (copy_form (level 23)))
    ∙ ap (λ o. next o (copy_form (level 23))) (onto unary_head 12 disjunction_head 10 22 refl disjunction_head_rung w ts)
    ∙ next_next (copy_form (rule unary_head) w ts) (climb 11 12) (copy_form (level 23))
    ∙ next_same (copy_form (rule unary_head) w ts) (λ v r. next (climb 11 12 v r) (copy_form (level 23))) (climb 12 12) (λ v r. sym (climb_more 11 12 23 refl v r))

-- by what a unary level is read as
pub climbs : (l : Rule) (b : ℕ) (k : Rule) (j : ℕ) (u : Grammar) (w : Written) (ts : Stream) → Rung l b k j → copy_form (rule l) w ts ≡ copy_form u w ts → copy_form (rule k) w ts ≡ next (copy_form u w ts) (climb j b)
unfolding Rung
climbs l b k j u w ts h e = h w ts ∙ ap (λ o. next o (climb j b)) e

-- WHERE A LEVEL READS NOTHING

level_is : (ks : List Rail) (n : ℕ) (w : Written) (ts : Stream) → copy_form (at_level rule ks n) w ts ≡ copy_form (at_level table ks n) w ts
level_is [] n w ts = refl
level_is (by k ∷ ks) zero w ts = rule_is k (table k) w ts refl
level_is (done ∷ ks) zero w ts = refl
level_is (k ∷ ks) (suc n) w ts = level_is ks n w ts

-- a level's form, in place of its rule
pub of_level : (n : ℕ) (g : Grammar) → parse_form g ≡ parse_form (level_form n) → (w : Written) (ts : Stream) → copy_form (level n) w ts ≡ copy_form g w ts
unfolding level level_form copy_form
of_level n g e w ts = level_is ladder n w ts ∙ sym (ap (λ (p : Parser). copied w (p ts)) e)

pub silent : (g : Grammar) (f : First) (w : Written) (ts : Stream) → Begins f ts → loud g f ≡ false → copy_form g w ts ≡ Reached w ts
silent empty f w ts b e = empty_is w ts
silent unshown f w ts b e = unshown_is w ts
silent (vanishing true c g) f w ts b e = hidden_absent c g w ts (never c f ts b e)
silent (when c then g else h) f w ts b e =
    when_is c g h w ts ∙ ap (λ v. pick v (copy_form g w ts) (copy_form h w ts)) (never c f ts b (or_left (may c f) (loud h f) e))
    ∙ silent h f w ts b (or_right (may c f) (loud h f) e)
silent g f w ts b e = absurd (true≢false e)

-- the first of some levels
pub begun : (n k : ℕ) (g : Grammar) (w : Written) (ts : Stream) → n < k → parse_form g ≡ parse_form (level_form n) → climb (k - n) n w ts ≡ next (copy_form g w ts) (climb (k - (n + 1)) (n + 1))
begun n k g w ts l e =
    let s : k - n ≡ suc (k - (n + 1)) = omega arith in
    let t : suc n ≡ n + 1 = omega arith in
    ap (λ i. climb i n w ts) s
    ∙ ap (λ o. next o (climb (k - (n + 1)) (suc n))) (of_level n g e w ts)
    ∙ ap (λ i. next (copy_form g w ts) (climb (k - (n + 1)) i)) t

-- it is left out where it reads nothing
pub passed : (n k : ℕ) (f : First) (w : Written) (ts : Stream) → n < k → Begins f ts → loud (level_form n) f ≡ false → climb (k - n) n w ts ≡ climb (k - (n + 1)) (n + 1) w ts
passed n k f w ts l b e = begun n k (level_form n) w ts l refl ∙ ap (λ o. next o (climb (k - (n + 1)) (n + 1))) (silent (level_form n) f w ts b e)

-- none is left
none_left : (n k : ℕ) (w : Written) (ts : Stream) → k ≤ n → climb (k - n) n w ts ≡ Reached w ts
none_left n k w ts l = let s : k - n ≡ 0 = omega arith in ap (λ i. climb i n w ts) s

pub passes_none : (n k : ℕ) (f : First) → Passes n k n f
unfolding Passes
passes_none n k f = λ w ts b. refl

pub passes_more : (n k m : ℕ) (f : First) → Passes n k m f → m < k → loud (level_form m) f ≡ false → Passes n k (m + 1) f
unfolding Passes
passes_more n k m f h l e = λ w ts b. h w ts b ∙ passed m k f w ts l b e

pub passes_all : (n k m : ℕ) (f : First) → Passes n k m f → k ≤ m → Passes n k k f
unfolding Passes
passes_all n k m f h l = λ w ts b. h w ts b ∙ none_left m k w ts l ∙ sym (none_left k k w ts (omega arith))

-- where no level reads anything
abbrev quiet : List Rail → First → Bool
quiet [] f = no (loud finished f)
quiet (k ∷ ks) f = and (no (loud (on_rail table k) f)) (quiet ks f)

each_quiet : (ks : List Rail) (f : First) → quiet ks f ≡ true → (n : ℕ) → loud (at_level table ks n) f ≡ false
each_quiet [] f e n = no_true (loud finished f) e
each_quiet (k ∷ ks) f e zero = no_true (loud (on_rail table k) f) (and_left (no (loud (on_rail table k) f)) (quiet ks f) e)
each_quiet (k ∷ ks) f e (suc n) = each_quiet ks f (and_right (no (loud (on_rail table k) f)) (quiet ks f) e) n

mark_quiet : (c : ℕ) → or (nat_eq c 44) (nat_eq c 59) ≡ true → quiet ladder (F.Mark c) ≡ true
mark_quiet c e = go (or_split (nat_eq c 44) (nat_eq c 59) e)
  where
    go : (nat_eq c 44 ≡ true) ⊎ (nat_eq c 59 ≡ true) → quiet ladder (F.Mark c) ≡ true
    go (inl h) = subst (λ d. quiet ladder (F.Mark d) ≡ true) (sym (eqb-true c 44 h)) refl
    go (inr h) = subst (λ d. quiet ladder (F.Mark d) ≡ true) (sym (eqb-true c 59 h)) refl

all_quiet : (f : First) → ends f ≡ true → quiet ladder f ≡ true
all_quiet F.Ended e = refl
all_quiet F.Name e = refl
all_quiet F.Literal e = refl
all_quiet F.Keyword e = absurd (true≢false (sym e))
all_quiet (F.Mark c) e = mark_quiet c e
all_quiet (F.Group D.Brace) e = refl
all_quiet (F.Group D.Paren) e = absurd (true≢false (sym e))
all_quiet (F.Group D.Bracket) e = absurd (true≢false (sym e))
all_quiet (F.Group D.None) e = absurd (true≢false (sym e))

nothing_after : (k n : ℕ) (f : First) (w : Written) (ts : Stream) → Begins f ts → ends f ≡ true → climb k n w ts ≡ Reached w ts
unfolding level_form
nothing_after zero n f w ts b e = refl
nothing_after (suc k) n f w ts b e =
    ap (λ o. next o (climb k (suc n))) (of_level n (level_form n) refl w ts ∙ silent (level_form n) f w ts b (each_quiet ladder f (all_quiet f e) n))
    ∙ nothing_after k (suc n) f w ts b e

pub passes_ended : (n k : ℕ) (f : First) → ends f ≡ true → Passes n k k f
unfolding Passes
passes_ended n k f e = λ w ts b. nothing_after (k - n) n f w ts b e ∙ sym (none_left k k w ts (omega arith))

-- THERE ARE 24 LEVELS: after them nothing is read
beyond : (h : Rule → Grammar) (ks : List Rail) (n : ℕ) → length ks ≤ n → at_level h ks n ≡ finished
beyond h [] n e = refl
beyond h (k ∷ ks) zero e = absurd (more_than_none (length ks) e)
  where
    more_than_none : (m : ℕ) → suc m ≤ 0 → ⊥
    more_than_none m e = omega (arith, e)
beyond h (k ∷ ks) (suc n) e = beyond h ks n (omega (arith, e))

pub level_past : (n : ℕ) → 24 ≤ n → level_form n ≡ finished
unfolding level_form
level_past n e = beyond table ladder n e

-- WHAT IS READ BY LEVELS

pub levels_read : {E : Type 0} (refusal : E → Type 0) (n k m : ℕ) (f : First) (l : List Step) (w v : Written) (ts r : Stream) (x : Result (Unit {0}) E) (i : List Step) → Passes n k m f → Begins f ts →
    Leading refusal l (climb (k - m) m w ts) x i v r → Leading refusal l (climb (k - n) n w ts) x i v r
unfolding Passes
levels_read refusal n k m f l w v ts r x i h b s = subst (λ o. Leading refusal l o x i v r) (sym (h w ts b)) s

pub levels_end : (n k m : ℕ) (f : First) (w : Written) (ts : Stream) → Passes n k m f → Begins f ts → k ≤ m → climb (k - n) n w ts ≡ Reached w ts
unfolding Passes
levels_end n k m f w ts h b l = h w ts b ∙ none_left m k w ts l

pub level_read : {E : Type 0} (refusal : E → Type 0) (n k : ℕ) (g : Grammar) (l m : List Step) (w v : Written) (ts r : Stream) (x : Result (Unit {0}) E) (i : List Step) → n < k → parse_form g ≡ parse_form (level_form n) →
    m ≡ l ++ Step-m.Levels (n + 1) k ∷ [] → Leading refusal m (copy_form g w ts) x i v r → Leading refusal l (climb (k - n) n w ts) x i v r
level_read refusal n k g l m w v ts r x i h e p s =
    goes_read refusal l m i (climb (k - n) n w ts) g w v ts r x
    (subst (λ j. Proceeds l (climb (k - n) n w ts) j g w ts) (sym p) (goes_first l (Step-m.Levels (n + 1) k) (climb (k - n) n w ts) g w ts (begun n k g w ts h e))) s

-- deferred levels continue with the first one that may read something
pub goes_up : (l m : List Step) (n k j : ℕ) (f : First) (g : Grammar) (w : Written) (ts : Stream) → Passes n k j f → Begins f ts → j < k → parse_form g ≡ parse_form (level_form j) → m ≡ l ++ Step-m.Levels (j + 1) k ∷ [] →
    Proceeds (l ++ Step-m.Levels n k ∷ []) (Reached w ts) m g w ts
unfolding Passes
goes_up l m n k j f g w ts h b i e p =
    subst (λ (x : List Step). Proceeds (l ++ Step-m.Levels n k ∷ []) (Reached w ts) x g w ts) (sym p)
    (record {
      same =
          push l (Step-m.Levels n k) (Reached w ts) ∙ ap (todo l) (h w ts b)
          ∙ (goes_first l (Step-m.Levels (j + 1) k) (climb (k - j) j w ts) g w ts (begun j k g w ts i e)).same;
    })

-- by none
pub goes_past : (l : List Step) (n k j : ℕ) (f : First) (w : Written) (ts : Stream) → Passes n k j f → Begins f ts → k ≤ j → Proceeds (l ++ Step-m.Levels n k ∷ []) (Reached w ts) l empty w ts
goes_past l n k j f w ts h b i = goes_back l (Step-m.Levels n k) (Reached w ts) empty w ts (levels_end n k j f w ts h b i ∙ sym (empty_is w ts))
