-- Conditions that never hold of what follows a form.
use Rattle.std.proofs.Common.{◌≡◌, Bool, true, false, List, [], ◌∷◌, refl, sym, true≢false, subst, ◌⊎◌, inl, inr}
use Rattle.syn_grammar.specs.Tokens.{Stream, Look, Lookahead, lookahead, pick}
use Rattle.syn_grammar.specs.Rules.{Rule}
use Rattle.syn_grammar.specs.RuleNumbers.{same_rule}
use Rattle.syn_grammar.specs.Grammar.{Syntax, Nothing, Mark, Both, Left, Right, Node, Vanishing, Case, Captured, Unshown, Impl, Such, DerivesPrefix, Grammar, empty, token, mark, lifetime, ◌&◌, when◌then◌else◌, vanishing, inside, raw, rest_after, either, one_of, rule, such, captured, unshown, supplied, generics_before, row, ordered, among, Shaped, shaped}
use Rattle.syn_grammar.proofs.RuleLemmas.{same_rule_eq}
use Rattle.syn_grammar.proofs.Sets.{or_split}
use Rattle.syn_grammar.proofs.FirstSets.{Start}
use Rattle.syn_grammar.proofs.Again.{Off, sub_looks, off_sub, common, off_common_left, off_common_right}

-- it reads nothing at all, not even no tokens
abbrev derives_none : Grammar → Bool
derives_none (one_of []) = true
derives_none _ = false

none_read : (table : Rule → Grammar) (g : Grammar) (s : Syntax) (ts r : Stream) → derives_none g ≡ true → DerivesPrefix table g s ts r → ⊥
none_read table (one_of []) (Case k s) ts r e a = true≢false (sym a.0)
none_read table (one_of []) _ ts r e a = elim a [ ]
none_read table _ s ts r e a = true≢false (sym e)

module _ (said : Rule → Start) where
  abbrev pub one_never_follow : List Rule → List Look
  one_never_follow [] = []
  one_never_follow (k ∷ []) = (said k).never_follow
  one_never_follow (k ∷ l ∷ ks) = common (said k).never_follow (one_never_follow (l ∷ ks))

  -- conditions that what follows never meets, where those of A are false at the front
  abbrev pub never_follow : List Look → Grammar → List Look
  never_follow A empty = A
  never_follow A (g & h) = never_follow [] h
  never_follow A (when c then g else h) = pick (derives_none g) (never_follow (c ∷ A) h) (common (never_follow [] g) (never_follow (c ∷ A) h))
  never_follow A (vanishing b c g) = common (never_follow [] g) (c ∷ A)
  never_follow A (either g h) = common (never_follow A g) (never_follow A h)
  never_follow A (one_of ks) = one_never_follow ks
  never_follow A (rule k) = (said k).never_follow
  never_follow A (such q g) = never_follow A g
  never_follow A (shaped j g) = never_follow A g
  never_follow A (captured g) = never_follow A g
  never_follow A unshown = A
  never_follow A (generics_before x y h) = never_follow [] h
  never_follow A (supplied n p t) = never_follow [] t
  never_follow A _ = []

  one_off : (ks : List Rule) (k : Rule) (a : Lookahead) → among k ks ≡ true → Off (said k).never_follow a → Off (one_never_follow ks) a
  one_off [] k a e h = tt
  one_off (l ∷ []) k a e h = go (or_split (same_rule k l) false e)
    where
      go : (same_rule k l ≡ true) ⊎ (false ≡ true) → Off (said l).never_follow a
      go (inl q) = subst (λ z. Off (said z).never_follow a) (same_rule_eq k l q) h
      go (inr q) = absurd (true≢false (sym q))
  one_off (l ∷ l' ∷ ks) k a e h = go (or_split (same_rule k l) (among k (l' ∷ ks)) e) (one_off (l' ∷ ks) k a)
    where
      go : (same_rule k l ≡ true) ⊎ (among k (l' ∷ ks) ≡ true) → (among k (l' ∷ ks) ≡ true → Off (said k).never_follow a → Off (one_never_follow (l' ∷ ks)) a) → Off (common (said l).never_follow (one_never_follow (l' ∷ ks))) a
      go (inl q) ih = off_common_left (said l).never_follow (one_never_follow (l' ∷ ks)) a (subst (λ z. Off (said z).never_follow a) (same_rule_eq k l q) h)
      go (inr q) ih = off_common_right (said l).never_follow (one_never_follow (l' ∷ ks)) a (ih q h)

  -- what holds of the rules holds of their forms
  abbrev pub IsOff : (Rule → Grammar) → Type 0
  IsOff table = (k : Rule) → sub_looks (said k).never_follow (never_follow [] (table k)) ≡ true

  module _ (table : Rule → Grammar) (law : IsOff table) where
    pub ended_off : (A : List Look) (g : Grammar) (s : Syntax) (ts r : Stream) → Off A (lookahead ts) → DerivesPrefix table g s ts r → Off (never_follow A g) (lookahead r)
    ended_off A empty Nothing ts r o a = subst (λ z. Off A (lookahead z)) a o
    ended_off A (g & h) (Both s t) ts r o (m, a, b) = ended_off [] h t m r tt b
    ended_off A (when c then g else h) (Left s) ts r o (e, a) = go (derives_none g) refl (ended_off [] g s ts r tt a)
      where
        go : (v : Bool) → derives_none g ≡ v → Off (never_follow [] g) (lookahead r) → Off (pick v (never_follow (c ∷ A) h) (common (never_follow [] g) (never_follow (c ∷ A) h))) (lookahead r)
        go true n x = absurd (none_read table g s ts r n a)
        go false n x = off_common_left (never_follow [] g) (never_follow (c ∷ A) h) (lookahead r) x
    ended_off A (when c then g else h) (Right s) ts r o (e, a) = go (derives_none g) (ended_off (c ∷ A) h s ts r (e, o) a)
      where
        go : (v : Bool) → Off (never_follow (c ∷ A) h) (lookahead r) → Off (pick v (never_follow (c ∷ A) h) (common (never_follow [] g) (never_follow (c ∷ A) h))) (lookahead r)
        go true x = x
        go false x = off_common_right (never_follow [] g) (never_follow (c ∷ A) h) (lookahead r) x
    ended_off A (vanishing b c g) (Vanishing b' (Left s)) ts r o (w, h) = off_common_left (never_follow [] g) (c ∷ A) (lookahead r) (ended_off [] g s ts r tt h.1)
    ended_off A (vanishing b c g) (Vanishing b' (Right Nothing)) ts r o (w, h) = off_common_right (never_follow [] g) (c ∷ A) (lookahead r) (subst (λ z. Off (c ∷ A) (lookahead z)) h.1 (h.0, o))
    ended_off A (either g h) (Left s) ts r o a = off_common_left (never_follow A g) (never_follow A h) (lookahead r) (ended_off A g s ts r o a)
    ended_off A (either g h) (Right s) ts r o a = off_common_right (never_follow A g) (never_follow A h) (lookahead r) (ended_off A h s ts r o a)
    ended_off A (one_of ks) (Case k s) ts r o (e, a) = one_off ks k (lookahead r) e (off_sub (said k).never_follow (never_follow [] (table k)) (lookahead r) (law k) (ended_off [] (table k) s ts r tt a))
    ended_off A (rule k) (Node s) ts r o a = off_sub (said k).never_follow (never_follow [] (table k)) (lookahead r) (law k) (ended_off [] (table k) s ts r tt a)
    ended_off A (such q g) (Such s) ts r o (e, a) = ended_off A g s ts r o a
    ended_off A (shaped j g) (Shaped i s) ts r o (e, a) = ended_off A g s ts r o a
    ended_off A (captured g) (Captured s i) ts r o (e, a) = ended_off A g s ts r o a
    ended_off A unshown (Unshown s) ts r o a = subst (λ z. Off A (lookahead z)) a.1 o
    ended_off A (generics_before x y h) (Impl l s) ts r o (m, a, b) = ended_off [] h s m r tt b
    ended_off A (supplied n p t) (Both a (Both (Mark xs) s)) ts r o (inl (w, x, sp, c, e, pa, f, q)) = ended_off [] t s ts r tt q
    ended_off A (supplied n p t) (Both a (Both (Mark xs) s)) ts r o (inr (w, m, pa, f, m', d, q)) = ended_off [] t s m' r tt q
    ended_off A (token b k) s ts r o a = tt
    ended_off A lifetime s ts r o a = tt
    ended_off A (mark b cs) s ts r o a = tt
    ended_off A (rest_after cs) s ts r o a = tt
    ended_off A (inside d g) s ts r o a = tt
    ended_off A (raw d) s ts r o a = tt
    ended_off A (row g h) s ts r o a = tt
    ended_off A (ordered g h) s ts r o a = tt
    ended_off A (vanishing b c g) (Vanishing b' (Right s)) ts r o (w, h) = elim h.1 [ ]
    ended_off A (vanishing b c g) (Vanishing b' s) ts r o (w, h) = elim h [ ]
    ended_off A _ s ts r o a = elim a [ ]
