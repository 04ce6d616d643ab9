-- A form reads the same tokens without the rest after them; and tokens that differ only in spans give values that differ only in spans.
use Rattle.std.proofs.Common.{◌≡◌, ℕ, zero, suc, Bool, true, false, List, [], ◌∷◌, Some, refl, sym, ap, ap₂, ◌∙◌, subst, true≢false, ◌⊎◌, inl, inr}
use Rattle.syn_grammar.specs.Words.{w_true, w_false}
use Rattle.syn_grammar.specs.Tokens.{Stream, end, leaf, group, ◌⧺◌, or, and, no, Lookahead, Look, ended, at_name, at_word, at_mark, at_literal, at_group, at_empty_group, ahead, ◌or_else◌, ◌and_also◌, ◌but_not◌, lookahead, answers, is_ended, is_name, is_word, starts_mark, is_literal, is_group, is_empty_group}
use Rattle.syn_grammar.specs.Rules.{Rule}
use Rattle.syn_grammar.specs.RuleNumbers.{place, same_rule, rules, at_place, back}
use Rattle.syn_grammar.specs.Grammar.{Syntax, Nothing, Token, Mark, Both, Left, Right, Node, Group, Raw, Case, Such, Shaped, Unshown, word, any_literal, Grammar, DerivesPrefix, empty, token, mark, ◌&◌, when◌then◌else◌, inside, raw, either, one_of, rule, such, shaped, unshown, among, plain_syntax}
use Rattle.syn_grammar.specs.Table.{table}
use Rattle.syn_grammar.specs.Run.{parse_rule, value_of}
use Rattle.syn_grammar.specs.Alone.{all_of, self_delimiting, asks_fact, reads_anywhere, rule_reads_anywhere, is_empty, reads_at_end, rule_reads_at_end, reads_alone, ReadAlone, ValuesForgetSpans}
use Rattle.syn_grammar.proofs.RuleLemmas.{same_rule_eq}
use Rattle.syn_grammar.proofs.Sets.{or_split, and_left, and_right, no_true}
use Rattle.syn_grammar.proofs.Streams.{append_append, append_end, spelled_alone}
use Rattle.syn_grammar.proofs.Extend.{alone}
use Rattle.syn_grammar.proofs.Proved.{one_tree, spans}
use Rattle.syn_grammar.proofs.Said.{closed_of, closed_hold}
use Rattle.syn_grammar.proofs.Takes.{before_is}
use Rattle.syn_grammar.proofs.Means.{parse_rule_known, parse_rule_found}
use Rattle.syn_grammar.proofs.PlainValues.{value_plain}

-- ---- the test of all rules holds of each rule
abbrev pub every_rule : (Rule → Bool) → List Rule → Bool
every_rule p [] = true
every_rule p (k ∷ ks) = and (p k) (every_rule p ks)

at_each_place : (p : Rule → Bool) (ks : List Rule) (n : ℕ) → p (at_place [] 0) ≡ true → every_rule p ks ≡ true → p (at_place ks n) ≡ true
at_each_place p [] n d e = d
at_each_place p (k ∷ ks) zero d e = and_left (p k) _ e
at_each_place p (k ∷ ks) (suc n) d e = at_each_place p ks n d (and_right (p k) _ e)

pub of_every_rule : (p : Rule → Bool) → p (at_place [] 0) ≡ true → every_rule p rules ≡ true → (k : Rule) → p k ≡ true
of_every_rule p d e k = subst (λ z. p z ≡ true) (back k) (at_each_place p rules (place k) d e)

-- a rule that passes one test passes the other
abbrev pub implies : Bool → Bool → Bool
implies a b = or (no a) b

pub by_implied : (a b : Bool) → implies a b ≡ true → a ≡ true → b ≡ true
by_implied true b e h = e
by_implied false b e h = absurd (true≢false (sym h))

-- rules that pass the specifications' test of ending by themselves also pass that of the laws
self_closed : (k : Rule) → self_delimiting k ≡ true → closed_of k ≡ true
self_closed k = by_implied (self_delimiting k) (closed_of k) (of_every_rule (λ k. implies (self_delimiting k) (closed_of k)) refl refl k)

-- every rule that ends by itself passes the test
pub closed_reads_alone : (k : Rule) → closed_of k ≡ true → reads_alone k ≡ true
closed_reads_alone k = by_implied (closed_of k) (reads_alone k) (of_every_rule (λ k. implies (closed_of k) (reads_alone k)) refl refl k)

-- a rule of constants would pass it: a choice of single tokens
constants_read_alone : reads_at_end (rule_reads_anywhere 4) (rule_reads_at_end 3) false (when at_word w_true then token [] (word w_true) else when at_word w_false then token [] (word w_false) else token [] any_literal) ≡ true
constants_read_alone = refl

-- ---- forms that read the same before every rest
abbrev Derived : Grammar → Syntax → Stream → Stream → Type 0
Derived g s ts r = DerivesPrefix table g s ts r

abbrev SameTerminal : Stream → Stream → Type 0
SameTerminal a b = (lookahead a).terminal ≡ (lookahead b).terminal

-- the tokens that were read are read before every rest, and the terminal is the same
abbrev Anywhere : Grammar → Syntax → Stream → Stream → Type 0
Anywhere g s ts r = (c : Stream) × (ts ≡ c ⧺ r) × ((r' : Stream) → Derived g s (c ⧺ r') r' × SameTerminal (c ⧺ r') ts)

-- they are read at the end
abbrev AtEnd : Bool → Grammar → Syntax → Stream → Stream → Type 0
AtEnd a g s ts r = (c : Stream) × (ts ≡ c ⧺ r) × Derived g s c end × (a ≡ true → SameTerminal c ts)

terminal_of : (a b : Stream) → a ≡ b → SameTerminal a b
terminal_of a b e = ap (λ z. (lookahead z).terminal) e

neither_left : (a b : Bool) → or a b ≡ false → a ≡ false
neither_left true b e = e
neither_left false b e = refl

neither_right : (a b : Bool) → or a b ≡ false → b ≡ false
neither_right true b e = absurd (true≢false e)
neither_right false b e = e

false_true : false ≡ true → ⊥
false_true e = true≢false (sym e)

-- one of these rules
pub one_said : (said : Rule → Bool) (k : Rule) (ks : List Rule) → among k ks ≡ true → all_of said ks ≡ true → said k ≡ true
one_said said k [] e w = absurd (true≢false (sym e))
one_said said k (l ∷ ks) e w = go (or_split (same_rule k l) (among k ks) e) (one_said said k ks)
  where
    go : (same_rule k l ≡ true) ⊎ (among k ks ≡ true) → (among k ks ≡ true → all_of said ks ≡ true → said k ≡ true) → said k ≡ true
    go (inl q) ih = ap said (same_rule_eq k l q) ∙ and_left (said l) _ w
    go (inr q) ih = ih q (and_right (said l) _ w)

-- a look that tests no fact tests the terminal alone
pub by_terminal : (c : Look) (a b : Lookahead) → asks_fact c ≡ false → a.terminal ≡ b.terminal → answers c a ≡ answers c b
by_terminal ended a b w e = ap is_ended e
by_terminal at_name a b w e = ap is_name e
by_terminal (at_word x) a b w e = ap (is_word x) e
by_terminal (at_mark x) a b w e = ap (starts_mark x) e
by_terminal (at_literal k) a b w e = ap (is_literal k) e
by_terminal (at_group d) a b w e = ap (is_group d) e
by_terminal at_empty_group a b w e = ap is_empty_group e
by_terminal (ahead n) a b w e = absurd (true≢false w)
by_terminal (c or_else d) a b w e = ap₂ or (by_terminal c a b (neither_left (asks_fact c) _ w) e) (by_terminal d a b (neither_right (asks_fact c) _ w) e)
by_terminal (c and_also d) a b w e = ap₂ and (by_terminal c a b (neither_left (asks_fact c) _ w) e) (by_terminal d a b (neither_right (asks_fact c) _ w) e)
by_terminal (c but_not d) a b w e = ap₂ (λ x y. and x (no y)) (by_terminal c a b (neither_left (asks_fact c) _ w) e) (by_terminal d a b (neither_right (asks_fact c) _ w) e)

module _ (said : Rule → Bool) (law : (k : Rule) (s : Syntax) (ts r : Stream) → said k ≡ true → Derived (rule k) s ts r → Anywhere (rule k) s ts r) where
  anywhere : (g : Grammar) (s : Syntax) (ts r : Stream) → reads_anywhere said g ≡ true → Derived g s ts r → Anywhere g s ts r
  anywhere (token b k) (Token x sp) ts r w a = (leaf x sp end, a.1, λ r'. ((a.0, refl), terminal_of (leaf x sp r) ts (sym a.1)))
  anywhere (inside d g) (Group d' o c s) ts r w (e, i, f, a) = (group d' o c i end, f, λ r'. ((e, i, refl, a), terminal_of (group d' o c i r) ts (sym f)))
  anywhere (raw d) (Raw d' o c i) ts r w (e, f) = (group d' o c i end, f, λ r'. ((e, refl), terminal_of (group d' o c i r) ts (sym f)))
  anywhere (g & h) (Both s t) ts r w (m, a, b) =
      let (c, e, k) = anywhere g s ts m (and_left (reads_anywhere said g) _ w) a in
      let (d, f, l) = anywhere h t m r (and_right (reads_anywhere said g) _ w) b in (
        c ⧺ d,
        e ∙ ap (λ z. c ⧺ z) f ∙ sym (append_append c d r),
        λ r'. subst (λ z. Derived (g & h) (Both s t) z r' × SameTerminal z ts) (sym (append_append c d r')) ((d ⧺ r', (k (d ⧺ r')).0, (l r').0), (k (d ⧺ r')).1),
      )
  anywhere (when l then g else h) (Left s) ts r w (v, a) =
      let (c, e, k) = anywhere g s ts r (and_left (reads_anywhere said g) _ (and_right (no (asks_fact l)) _ w)) a in
      (c, e, λ r'. let q = k r' in ((by_terminal l (lookahead (c ⧺ r')) (lookahead ts) (no_true (asks_fact l) (and_left (no (asks_fact l)) _ w)) q.1 ∙ v, q.0), q.1))
  anywhere (when l then g else h) (Right s) ts r w (v, a) =
      let (c, e, k) = anywhere h s ts r (and_right (reads_anywhere said g) _ (and_right (no (asks_fact l)) _ w)) a in
      (c, e, λ r'. let q = k r' in ((by_terminal l (lookahead (c ⧺ r')) (lookahead ts) (no_true (asks_fact l) (and_left (no (asks_fact l)) _ w)) q.1 ∙ v, q.0), q.1))
  anywhere (either g h) (Left s) ts r w a = anywhere g s ts r (and_left (reads_anywhere said g) _ w) a
  anywhere (either g h) (Right s) ts r w a = anywhere h s ts r (and_right (reads_anywhere said g) _ w) a
  anywhere (one_of ks) (Case n s) ts r w (v, a) =
      let (c, e, k) = law n (Node s) ts r (one_said said n ks v w) a in
      (c, e, λ r'. ((v, (k r').0), (k r').1))
  anywhere (rule n) s ts r w a = law n s ts r w a
  anywhere (such q g) (Such s) ts r w (v, a) =
      let (c, e, k) = anywhere g s ts r w a in
      (c, e, λ r'. ((v, (k r').0), (k r').1))
  anywhere (shaped j g) (Shaped i s) ts r w (v, a) =
      let (c, e, k) = anywhere g s ts r w a in
      (c, e, λ r'. ((v, (k r').0), (k r').1))
  anywhere _ _ ts r w a = search false_true

  module _ (last : Bool → Rule → Bool) (last_law : (a : Bool) (k : Rule) (s : Syntax) (ts r : Stream) → last a k ≡ true → Derived (rule k) s ts r → AtEnd a (rule k) s ts r) where
    at_end : (a : Bool) (g : Grammar) (s : Syntax) (ts r : Stream) → reads_at_end said last a g ≡ true → Derived g s ts r → AtEnd a g s ts r
    at_end a (token b k) (Token x sp) ts r w h = (leaf x sp end, h.1, (h.0, refl), λ i. terminal_of (leaf x sp r) ts (sym h.1))
    at_end a (inside d g) (Group d' o c s) ts r w (e, i, f, h) = (group d' o c i end, f, (e, i, refl, h), λ j. terminal_of (group d' o c i r) ts (sym f))
    at_end a (raw d) (Raw d' o c i) ts r w (e, f) = (group d' o c i end, f, (e, refl), λ j. terminal_of (group d' o c i r) ts (sym f))
    at_end a empty Nothing ts r w h = (end, h, refl, λ i. absurd (true≢false (sym i ∙ no_true a w)))
    at_end a unshown (Unshown s) ts r w h = (end, h.1, (h.0, refl), λ i. absurd (true≢false (sym i ∙ no_true a w)))
    at_end a (mark b cs) (Mark xs) ts r w h =
        let (c, e, k) = spelled_alone xs ts r h.1 in
        (c, e, subst (λ z. Derived (mark b cs) (Mark xs) z end) (append_end c) (h.0, k end), λ i. absurd (true≢false (sym i ∙ no_true a w)))
    at_end a (g & h) (Both s t) ts r w (m, x, y) =
        let (c, e, k) = anywhere g s ts m (and_left (reads_anywhere said g) _ w) x in
        let (d, f, z, n) = at_end false h t m r (and_right (reads_anywhere said g) _ w) y in
        (c ⧺ d, e ∙ ap (λ z. c ⧺ z) f ∙ sym (append_append c d r), (d, (k d).0, z), λ i. (k d).1)
    at_end a (when l then g else h) (Left s) ts r w (v, x) =
        let (c, e, z, n) = at_end true g s ts r (and_left (reads_at_end said last true g) _ (and_right (no (asks_fact l)) _ w)) x in
        (c, e, (by_terminal l (lookahead c) (lookahead ts) (no_true (asks_fact l) (and_left (no (asks_fact l)) _ w)) (n refl) ∙ v, z), λ i. n refl)
    at_end a (when l then g else h) (Right s) ts r w (v, x) =
        go (or_split (reads_at_end said last true h) _ (and_right (reads_at_end said last true g) _ (and_right (no (asks_fact l)) _ w))) (λ w. at_end true h s ts r w x)
      where
        nothing : (h : Grammar) (s : Syntax) → is_empty h ≡ true → no a ≡ true → answers l (lookahead end) ≡ false → Derived h s ts r → AtEnd a (when l then g else h) (Right s) ts r
        nothing empty Nothing p q u x = (end, x, (u, refl), λ i. absurd (true≢false (sym i ∙ no_true a q)))
        nothing empty _ p q u x = elim x [ ]
        nothing _ s p q u x = absurd (true≢false (sym p))

        go : (reads_at_end said last true h ≡ true) ⊎ (and (no a) (and (is_empty h) (no (answers l (lookahead end)))) ≡ true) → (reads_at_end said last true h ≡ true → AtEnd true h s ts r) → AtEnd a (when l then g else h) (Right s) ts r
        go (inl p) ih =
            let (c, e, z, n) = ih p in
            (c, e, (by_terminal l (lookahead c) (lookahead ts) (no_true (asks_fact l) (and_left (no (asks_fact l)) _ w)) (n refl) ∙ v, z), λ i. n refl)
        go (inr p) ih =
            let q = and_right (no a) _ p in
            nothing h s (and_left (is_empty h) _ q) (and_left (no a) _ p) (no_true (answers l (lookahead end)) (and_right (is_empty h) _ q)) x
    at_end a (either g h) (Left s) ts r w x = at_end a g s ts r (and_left (reads_at_end said last a g) _ w) x
    at_end a (either g h) (Right s) ts r w x = at_end a h s ts r (and_right (reads_at_end said last a g) _ w) x
    at_end a (one_of ks) (Case n s) ts r w (v, x) =
        let (c, e, z, u) = last_law a n (Node s) ts r (one_said (last a) n ks v w) x in
        (c, e, (v, z), u)
    at_end a (rule n) s ts r w x = last_law a n s ts r w x
    at_end a (such q g) (Such s) ts r w (v, x) =
        let (c, e, z, u) = at_end a g s ts r w x in
        (c, e, (v, z), u)
    at_end a (shaped j g) (Shaped i s) ts r w (v, x) =
        let (c, e, z, u) = at_end a g s ts r w x in
        (c, e, (v, z), u)
    at_end a _ _ ts r w x = search false_true

-- ---- the rules
self_anywhere : (k : Rule) (s : Syntax) (ts r : Stream) → self_delimiting k ≡ true → Derived (rule k) s ts r → Anywhere (rule k) s ts r
self_anywhere k s ts r w a =
    let (c, e, l) = alone closed_of table closed_hold (rule k) s ts r (self_closed k w) a in
    (c, e, λ r'. ((l r').0, ap (λ z. z.terminal) (l r').1))

rule_anywhere : (n : ℕ) (k : Rule) (s : Syntax) (ts r : Stream) → rule_reads_anywhere n k ≡ true → Derived (rule k) s ts r → Anywhere (rule k) s ts r
rule_anywhere zero k s ts r w a = self_anywhere k s ts r w a
rule_anywhere (suc n) k (Node s) ts r w a = go (or_split (self_delimiting k) _ w) (λ q. anywhere (rule_reads_anywhere n) (rule_anywhere n) (table k) s ts r q a)
  where
    go : (self_delimiting k ≡ true) ⊎ (reads_anywhere (rule_reads_anywhere n) (table k) ≡ true) → (reads_anywhere (rule_reads_anywhere n) (table k) ≡ true → Anywhere (table k) s ts r) → Anywhere (rule k) (Node s) ts r
    go (inl q) ih = self_anywhere k (Node s) ts r q a
    go (inr q) ih = ih q
rule_anywhere (suc n) k _ ts r w a = elim a [ ]

self_at_end : (a : Bool) (k : Rule) (s : Syntax) (ts r : Stream) → self_delimiting k ≡ true → Derived (rule k) s ts r → AtEnd a (rule k) s ts r
self_at_end a k s ts r w x =
    let (c, e, l) = self_anywhere k s ts r w x in
    let y : Derived (rule k) s c end × SameTerminal c ts = subst (λ z. Derived (rule k) s z end × SameTerminal z ts) (append_end c) (l end) in
    (c, e, y.0, λ i. y.1)

rule_at_end : (n : ℕ) (a : Bool) (k : Rule) (s : Syntax) (ts r : Stream) → rule_reads_at_end n a k ≡ true → Derived (rule k) s ts r → AtEnd a (rule k) s ts r
rule_at_end zero a k s ts r w x = self_at_end a k s ts r w x
rule_at_end (suc n) a k (Node s) ts r w x = go (or_split (self_delimiting k) _ w) (λ q. at_end (rule_reads_anywhere 4) (rule_anywhere 4) (rule_reads_at_end n) (rule_at_end n) a (table k) s ts r q x)
  where
    go : (self_delimiting k ≡ true) ⊎ (reads_at_end (rule_reads_anywhere 4) (rule_reads_at_end n) a (table k) ≡ true) → (reads_at_end (rule_reads_anywhere 4) (rule_reads_at_end n) a (table k) ≡ true → AtEnd a (table k) s ts r) → AtEnd a (rule k) (Node s) ts r
    go (inl q) ih = self_at_end a k (Node s) ts r q x
    go (inr q) ih = ih q
rule_at_end (suc n) a k _ ts r w x = elim x [ ]

-- ---- THE LAWS
pub read_alone : ReadAlone
read_alone k w ts s r e =
    let (t, a, h) = parse_rule_known k ts (s, r) e in
    let (c, q, b, i) = rule_at_end 4 false k t ts r w a in
    ap (parse_rule k) (before_is ts c r q) ∙ parse_rule_found k c t end b ∙ ap (λ z. Some (z, end)) h

pub like_values : ValuesForgetSpans
like_values k a b s t e f g =
    let (x, d, h) = parse_rule_known k a (s, end) f in
    let (y, c, i) = parse_rule_known k b (t, end) g in
    let (u, w, j) = spans k a b x e d in
    let m : u ≡ y = (one_tree k b u y end end w c).0 in
    let n : plain_syntax y ≡ plain_syntax x = ap plain_syntax (sym m) ∙ j in
    ap plain_syntax (sym h) ∙ value_plain x ∙ ap value_of (sym n) ∙ sym (value_plain y) ∙ ap plain_syntax i
