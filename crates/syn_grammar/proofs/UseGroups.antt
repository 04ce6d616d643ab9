-- The two rules for the trees of a use in braces agree where no tree begins with `::`.
use Rattle.std.proofs.Common.{◌≡◌, Bool, true, false, Some, refl, sym, ap, ap₂, ◌∙◌, true≢false, ◌⊎◌, inl, inr}
use Rattle.syn_grammar.specs.Tokens.{Stream, end, or, and, present, lookahead}
use Rattle.syn_grammar.specs.Rules.{Rule, use_tree, use_trees, rooted_tree, rooted_trees, root_mark}
use Rattle.syn_grammar.specs.RuleNumbers.{same_rule}
use Rattle.syn_grammar.specs.Grammar.{Grammar, Syntax, Nothing, Token, Mark, Both, Left, Right, Node, Case, Group, DerivesPrefix, empty, token, mark, ◌&◌, when◌then◌else◌, inside, rule, has, has_part}
use Rattle.syn_grammar.specs.Table.{table, at_colons, at_brace, at_star}
use Rattle.syn_grammar.specs.Run.{wrap, value_of, parse_rule}
use Rattle.syn_grammar.specs.UseGroups.{rooted, unrooted, UseGroups}
use Rattle.syn_grammar.proofs.RuleLemmas.{same_rule_eq}
use Rattle.syn_grammar.proofs.Sets.{or_split, and_left, and_right}
use Rattle.syn_grammar.proofs.Run.{parse_rule_is}
use Rattle.syn_grammar.proofs.Takes.{sees_present}
use Rattle.syn_grammar.proofs.Alone.{of_every_rule, implies, by_implied}
use Rattle.syn_grammar.proofs.Begins.{not_here}
use Rattle.syn_grammar.proofs.Means.{holds_value, parse_rule_known, parse_rule_found}
use Rattle.syn_grammar.proofs.Grows.{brace_terminal}

-- no tree begins with `::`
not_colons : (s : Syntax) (ts r : Stream) → DerivesPrefix table (table use_tree) s ts r → present at_colons ts ≡ false
not_colons s ts r d = go (present at_colons ts) refl
  where
    go : (v : Bool) → present at_colons ts ≡ v → v ≡ false
    go false e = refl
    go true e = absurd (cc (sym (parse_rule_found use_tree ts (Node s) r d) ∙ parse_rule_is use_tree ts ∙ ap (wrap Node) (not_here at_colons (table use_tree) refl ts (sees_present at_colons ts ∙ e))))

-- a brace group is no mark
no_star : (ts : Stream) → present at_brace ts ≡ true → present at_star ts ≡ false
no_star ts e = let (v, f) = brace_terminal (lookahead ts).terminal e in cc (f)

no_brace : (ts : Stream) → present at_star ts ≡ true → present at_brace ts ≡ false
no_brace ts e = go (present at_brace ts) refl
  where
    go : (v : Bool) → present at_brace ts ≡ v → v ≡ false
    go false q = refl
    go true q = absurd (true≢false (sym e ∙ no_star ts q))

-- no tree that the first rule reads has such a `::` before braces
abbrev of_trees : Grammar → Bool
of_trees empty = true
of_trees (token b k) = true
of_trees (mark b cs) = true
of_trees (g & h) = and (of_trees g) (of_trees h)
of_trees (when c then g else h) = and (of_trees g) (of_trees h)
of_trees (inside d g) = of_trees g
of_trees (rule k) = or (same_rule k use_tree) (same_rule k use_trees)
of_trees _ = false

rules_of_trees : (k : Rule) → or (same_rule k use_tree) (same_rule k use_trees) ≡ true → of_trees (table k) ≡ true
rules_of_trees k = by_implied (or (same_rule k use_tree) (same_rule k use_trees)) _ (of_every_rule (λ k. implies (or (same_rule k use_tree) (same_rule k use_trees)) (of_trees (table k))) refl refl k)

bare : (g : Grammar) (s : Syntax) (ts r : Stream) → of_trees g ≡ true → DerivesPrefix table g s ts r → has_part root_mark s ≡ false
bare empty Nothing ts r e x = refl
bare empty _ ts r e x = elim x [ ]
bare (token b k) (Token y sp) ts r e x = refl
bare (token b k) _ ts r e x = elim x [ ]
bare (mark b cs) (Mark xs) ts r e x = refl
bare (mark b cs) _ ts r e x = elim x [ ]
bare (g & h) (Both s t) ts r e (m, x, y) = ap₂ or (bare g s ts m (and_left (of_trees g) _ e) x) (bare h t m r (and_right (of_trees g) _ e) y)
bare (g & h) _ ts r e x = elim x [ ]
bare (when c then g else h) (Left s) ts r e (v, x) = bare g s ts r (and_left (of_trees g) _ e) x
bare (when c then g else h) (Right s) ts r e (v, x) = bare h s ts r (and_right (of_trees g) _ e) x
bare (when c then g else h) _ ts r e x = elim x [ ]
bare (inside d g) (Group d' o c s) ts r e (p, i, q, x) = bare g s i end e x
bare (inside d g) _ ts r e x = elim x [ ]
bare (rule k) (Node s) ts r e x = bare (table k) s ts r (rules_of_trees k e) x
bare (rule k) _ ts r e x = elim x [ ]
bare _ s ts r e x = absurd (true≢false (sym e))

pub bare_parts : (s : Syntax) (ts r : Stream) → DerivesPrefix table (table use_tree) s ts r → has_part root_mark s ≡ false
bare_parts s ts r x = bare (table use_tree) s ts r refl x

bare_tree : (s : Syntax) (ts r : Stream) → DerivesPrefix table (table use_tree) s ts r → has_part root_mark (value_of s) ≡ false
bare_tree s ts r x = holds_value (has root_mark) s ∙ bare (table use_tree) s ts r refl x

-- what is read by the first rule
abbrev Rooted : Syntax → Type 0
Rooted s = (value_of (rooted s) ≡ rooted (value_of s)) × ((has_part root_mark (rooted (value_of s)) ≡ false) × (unrooted (rooted (value_of s)) ≡ value_of s))

mutual
  up : (s : Syntax) (ts r : Stream) → DerivesPrefix table (table use_tree) s ts r → DerivesPrefix table (table rooted_tree) (rooted s) ts r × Rooted s
  up (Left (Mark xs)) ts r (v, x) = ((not_colons (Left (Mark xs)) ts r (v, x), (no_brace ts v, (v, x))), (refl, (refl, refl)))
  up (Left _) ts r (v, x) = elim x [ ]
  up (Right (Left (Group d o c (Node l)))) ts r (v, (w, (p, i, q, x))) =
      let u = ups l i end x in (
        (not_colons (Right (Left (Group d o c (Node l)))) ts r (v, (w, (p, i, q, x))), (w, (p, i, q, u.0))),
        (ap (λ z. Right (Left (Group d o c (Node z)))) u.1.0, (u.1.1.0, ap (λ z. Right (Left (Group d o c (Node z)))) u.1.1.1)),
      )
  up (Right (Left (Group d o c _))) ts r (v, (w, (p, i, q, x))) = elim x [ ]
  up (Right (Left _)) ts r (v, (w, x)) = elim x [ ]
  up (Right (Right s)) ts r (v, (w, h)) = ((not_colons (Right (Right s)) ts r (v, (w, h)), (w, (v, (w, h)))), (refl, (bare_tree (Right (Right s)) ts r (v, (w, h)), refl)))
  up (Right _) ts r (v, x) = elim x [ ]
  up _ ts r x = elim x [ ]

  ups : (s : Syntax) (ts r : Stream) → DerivesPrefix table (table use_trees) s ts r → DerivesPrefix table (table rooted_trees) (rooted s) ts r × Rooted s
  ups (Left Nothing) ts r (v, x) = ((v, x), (refl, (refl, refl)))
  ups (Left _) ts r (v, x) = elim x [ ]
  ups (Right (Both (Node t) (Left (Both (Mark xs) (Node l))))) ts r (v, (m, x, (w, (m', a, b)))) =
      let p = up t ts m x in
      let q = ups l m' r b in (
        (v, (m, p.0, (w, (m', a, q.0)))),
        (ap₂ (λ y z. Right (Both (Node y) (Left (Both (Mark xs) (Node z))))) p.1.0 q.1.0, (ap₂ or p.1.1.0 q.1.1.0, ap₂ (λ y z. Right (Both (Node y) (Left (Both (Mark xs) (Node z))))) p.1.1.1 q.1.1.1)),
      )
  ups (Right (Both (Node t) (Left (Both (Mark xs) _)))) ts r (v, (m, x, (w, (m', a, b)))) = elim b [ ]
  ups (Right (Both (Node t) (Left (Both _ l)))) ts r (v, (m, x, (w, (m', a, b)))) = elim a [ ]
  ups (Right (Both (Node t) (Left _))) ts r (v, (m, x, (w, a))) = elim a [ ]
  ups (Right (Both (Node t) (Right Nothing))) ts r (v, (m, x, y)) =
      let p = up t ts m x in
      ((v, (m, p.0, y)), (ap (λ z. Right (Both (Node z) (Right Nothing))) p.1.0, (ap₂ or p.1.1.0 refl, ap (λ z. Right (Both (Node z) (Right Nothing))) p.1.1.1)))
  ups (Right (Both (Node t) (Right _))) ts r (v, (m, x, (w, y))) = elim y [ ]
  ups (Right (Both (Node t) _)) ts r (v, (m, x, y)) = elim y [ ]
  ups (Right (Both _ z)) ts r (v, (m, x, y)) = elim x [ ]
  ups (Right _) ts r (v, x) = elim x [ ]
  ups _ ts r x = elim x [ ]

-- neither of the two
off_left : (a b : Bool) → or a b ≡ false → a ≡ false
off_left false b e = refl
off_left true b e = absurd (true≢false e)

off_right : (a b : Bool) → or a b ≡ false → b ≡ false
off_right false b e = e
off_right true b e = absurd (true≢false e)

-- and by the second
abbrev Unrooted : Syntax → Type 0
Unrooted s = (value_of (unrooted s) ≡ unrooted (value_of s)) × (rooted (unrooted (value_of s)) ≡ value_of s)

mutual
  down : (s : Syntax) (ts r : Stream) → DerivesPrefix table (table rooted_tree) s ts r → has_part root_mark (value_of s) ≡ false → DerivesPrefix table (table use_tree) (unrooted s) ts r × Unrooted s
  down (Left (Both (Case k c) t)) ts r (v, (m, (n, x), y)) e =
      let q = same_rule_eq k root_mark (one (or_split (same_rule k root_mark) false n)) in
      absurd (true≢false (ap (λ z. or (or (same_rule root_mark z) (has_part root_mark (value_of c))) (has_part root_mark (value_of t))) (sym q) ∙ e))
    where
      one : (same_rule k root_mark ≡ true) ⊎ (false ≡ true) → same_rule k root_mark ≡ true
      one (inl q) = q
      one (inr q) = absurd (true≢false (sym q))
  down (Left (Both _ t)) ts r (v, (m, x, y)) e = elim x [ ]
  down (Left _) ts r (v, x) e = elim x [ ]
  down (Right (Left (Group d o c (Node l)))) ts r (v, (w, (p, i, q, x))) e =
      let u = downs l i end x e in
      ((no_star ts w, (w, (p, i, q, u.0))), (ap (λ z. Right (Left (Group d o c (Node z)))) u.1.0, ap (λ z. Right (Left (Group d o c (Node z)))) u.1.1))
  down (Right (Left (Group d o c _))) ts r (v, (w, (p, i, q, x))) e = elim x [ ]
  down (Right (Left _)) ts r (v, (w, x)) e = elim x [ ]
  down (Right (Right (Node (Left (Mark xs))))) ts r (v, (w, h)) e = (h, (refl, refl))
  down (Right (Right (Node (Left _)))) ts r (v, (w, (a, b))) e = elim b [ ]
  down (Right (Right (Node (Right (Left g))))) ts r (v, (w, (a, (b, h)))) e = absurd (true≢false (sym b ∙ w))
  down (Right (Right (Node (Right (Right s))))) ts r (v, (w, h)) e = (h, (refl, refl))
  down (Right (Right (Node (Right _)))) ts r (v, (w, (a, h))) e = elim h [ ]
  down (Right (Right (Node _))) ts r (v, (w, h)) e = elim h [ ]
  down (Right (Right _)) ts r (v, (w, h)) e = elim h [ ]
  down (Right _) ts r (v, x) e = elim x [ ]
  down _ ts r x e = elim x [ ]

  downs : (s : Syntax) (ts r : Stream) → DerivesPrefix table (table rooted_trees) s ts r → has_part root_mark (value_of s) ≡ false → DerivesPrefix table (table use_trees) (unrooted s) ts r × Unrooted s
  downs (Left Nothing) ts r (v, x) e = ((v, x), (refl, refl))
  downs (Left _) ts r (v, x) e = elim x [ ]
  downs (Right (Both (Node t) (Left (Both (Mark xs) (Node l))))) ts r (v, (m, x, (w, (m', a, b)))) e =
      let p = down t ts m x (off_left (has_part root_mark (value_of t)) (has_part root_mark (value_of l)) e) in
      let q = downs l m' r b (off_right (has_part root_mark (value_of t)) (has_part root_mark (value_of l)) e) in (
        (v, (m, p.0, (w, (m', a, q.0)))),
        (ap₂ (λ y z. Right (Both (Node y) (Left (Both (Mark xs) (Node z))))) p.1.0 q.1.0, ap₂ (λ y z. Right (Both (Node y) (Left (Both (Mark xs) (Node z))))) p.1.1 q.1.1),
      )
  downs (Right (Both (Node t) (Left (Both (Mark xs) _)))) ts r (v, (m, x, (w, (m', a, b)))) e = elim b [ ]
  downs (Right (Both (Node t) (Left (Both _ l)))) ts r (v, (m, x, (w, (m', a, b)))) e = elim a [ ]
  downs (Right (Both (Node t) (Left _))) ts r (v, (m, x, (w, a))) e = elim a [ ]
  downs (Right (Both (Node t) (Right Nothing))) ts r (v, (m, x, y)) e =
      let p = down t ts m x (off_left (has_part root_mark (value_of t)) false e) in
      ((v, (m, p.0, y)), (ap (λ z. Right (Both (Node z) (Right Nothing))) p.1.0, ap (λ z. Right (Both (Node z) (Right Nothing))) p.1.1))
  downs (Right (Both (Node t) (Right _))) ts r (v, (m, x, (w, y))) e = elim y [ ]
  downs (Right (Both (Node t) _)) ts r (v, (m, x, y)) e = elim y [ ]
  downs (Right (Both _ z)) ts r (v, (m, x, y)) e = elim x [ ]
  downs (Right _) ts r (v, x) e = elim x [ ]
  downs _ ts r x e = elim x [ ]

pub use_groups : UseGroups
use_groups ts s r = (first, second)
  where
    first : parse_rule use_trees ts ≡ Some (Node s, r) → (parse_rule rooted_trees ts ≡ Some (Node (rooted s), r)) × ((has_part root_mark (rooted s) ≡ false) × (unrooted (rooted s) ≡ s))
    first e = let (t, d, h) = parse_rule_known use_trees ts (Node s, r) e in go t d h
      where
        go : (t : Syntax) → DerivesPrefix table (rule use_trees) t ts r → value_of t ≡ Node s → (parse_rule rooted_trees ts ≡ Some (Node (rooted s), r)) × ((has_part root_mark (rooted s) ≡ false) × (unrooted (rooted s) ≡ s))
        go (Node t) d h =
            let i : value_of t ≡ s = cc (h) in
            let u = ups t ts r d in (
              parse_rule_found rooted_trees ts (Node (rooted t)) r u.0 ∙ ap (λ z. Some (Node z, r)) (u.1.0 ∙ ap rooted i),
              (ap (λ z. has_part root_mark (rooted z)) (sym i) ∙ u.1.1.0, ap (λ z. unrooted (rooted z)) (sym i) ∙ u.1.1.1 ∙ i),
            )
        go _ d h = elim d [ ]

    second : parse_rule rooted_trees ts ≡ Some (Node s, r) → has_part root_mark s ≡ false → (parse_rule use_trees ts ≡ Some (Node (unrooted s), r)) × (rooted (unrooted s) ≡ s)
    second e w = let (t, d, h) = parse_rule_known rooted_trees ts (Node s, r) e in go t d h
      where
        go : (t : Syntax) → DerivesPrefix table (rule rooted_trees) t ts r → value_of t ≡ Node s → (parse_rule use_trees ts ≡ Some (Node (unrooted s), r)) × (rooted (unrooted s) ≡ s)
        go (Node t) d h =
            let i : value_of t ≡ s = cc (h) in
            let u = downs t ts r d (ap (has_part root_mark) i ∙ w) in (
              parse_rule_found use_trees ts (Node (unrooted t)) r u.0 ∙ ap (λ z. Some (Node z, r)) (u.1.0 ∙ ap unrooted i),
              ap (λ z. rooted (unrooted z)) (sym i) ∙ u.1.1 ∙ i,
            )
        go _ d h = elim d [ ]
