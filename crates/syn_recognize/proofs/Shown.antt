-- What was written of a whole rule.
use Rattle.std.proofs.Common.{◌≡◌, Result, Ok, Err, IfOk, OnErr, Some, None, refl, sym, ap, ◌∙◌, ◌≤◌, Bool, true, false, ◌+◌, arith, true≢false}
use Rattle.syn_grammar.specs.Tokens.{Stream}
use Rattle.syn_grammar.specs.Rules.{Rule}
use Rattle.syn_grammar.specs.Grammar.{Syntax, show, print}
use Rattle.syn_grammar.specs.Take.{Out, left}
use Rattle.syn_grammar.specs.Run.{parse_rule}
use Rattle.syn_grammar.proofs.Run.{Less, parse_rule_less}
use Rattle.syn_grammar.proofs.Said.{start_of}
use Rattle.syn_tokens.specs.Building.{added}
use Rattle.syn_recognize.specs.Printed.{Shows}
use Rattle.syn_recognize.specs.PrintedRows.{way}
use Rattle.syn_recognize.specs.Written.{Written, adds, blank, closed, stream_of}
use Rattle.syn_recognize.specs.Copies.{Copy, Reached, Refused, copied, least, least_of}

-- what is left
rest_of : Stream → Copy → Stream
rest_of r (Reached w ts) = ts
rest_of r _ = r

-- what was written
written_of : Written → Copy → Written
written_of v (Reached w ts) = w
written_of v _ = v

is_read : Copy → Bool
is_read (Reached w ts) = true
is_read _ = false

-- the tree that was read, and what was written of it
abbrev Tree : Written → Rule → Stream → Written → Stream → Type 0
Tree u k ts w r = (s : Syntax) × (parse_rule k ts ≡ Some (s, r)) × (w ≡ adds u (way u.printing s))

tree_of : (u : Written) (k : Rule) (w : Written) (ts r : Stream) → copied u (parse_rule k ts) ≡ Reached w r → Tree u k ts w r
unfolding rest_of written_of is_read
tree_of u k w ts r e = go (parse_rule k ts) refl e
  where
    go : (o : Out) → parse_rule k ts ≡ o → copied u o ≡ Reached w r → Tree u k ts w r
    go None q e = absurd (true≢false (sym (ap is_read e)))
    go (Some p) q e = (p.0, q ∙ ap (λ i. Some (p.0, i)) (ap (rest_of r) e), sym (ap (written_of u) e))

pub shown : (a : Bool) (k : Rule) (w : Written) (ts r i : Stream) → copied (blank a) (parse_rule k ts) ≡ Reached w r → i ≡ stream_of w → (s : Syntax) × (parse_rule k ts ≡ Some (s, r)) × (i ≡ way a s)
unfolding adds added
shown a k w ts r i e f = let (s, q, v) = tree_of (blank a) k w ts r e in (s, q, f ∙ ap stream_of v)

-- a tree was read, whatever is written of it
pub read : (u : Written) (k : Rule) (w : Written) (ts r : Stream) → copied u (parse_rule k ts) ≡ Reached w r → (s : Syntax) × (parse_rule k ts ≡ Some (s, r))
read u k w ts r e = let (s, q, v) = tree_of u k w ts r e in (s, q)

pub not_read : (w : Written) (o : Out) → copied w o ≡ Refused → o ≡ None
unfolding is_read
not_read w None e = refl
not_read w (Some p) e = absurd (true≢false (ap is_read e))

-- at least so many tokens fewer are left
pub moved : (u : Written) (k : Rule) (w : Written) (ts r : Stream) → copied u (parse_rule k ts) ≡ Reached w r → left r + least k ≤ left ts
moved u k w ts r e = let (s, q) = read u k w ts r e in go (start_of k).nullable (parse_rule_less k ts (s, r) q)
  where
    go : (b : Bool) → Less b ts r → left r + least_of b ≤ left ts
    go true h = omega (arith, h)
    go false h = omega (arith, h)

pub kept : (u : Written) (k : Rule) (w : Written) (ts r : Stream) → copied u (parse_rule k ts) ≡ Reached w r → left r ≤ left ts
kept u k w ts r e = let m = moved u k w ts r e in omega (arith, m)

-- no group is left open
pub left_open : (a : Bool) (k : Rule) (w : Written) (ts r : Stream) → copied (blank a) (parse_rule k ts) ≡ Reached w r → closed w ≡ false → ⊥
unfolding adds added
left_open a k w ts r e f = let (s, q, v) = tree_of (blank a) k w ts r e in true≢false (sym (ap closed v) ∙ f)

-- in both ways it's one tree
abbrev pub In : (Syntax → Stream) → Rule → Stream → Stream → Stream → Type 0
In f k ts r i = (s : Syntax) × (parse_rule k ts ≡ Some (s, r)) × (i ≡ f s)

-- the tokens as they are shown, and as they are printed
pub shown_alone : (k : Rule) (w : Written) (ts r i : Stream) → copied (blank false) (parse_rule k ts) ≡ Reached w r → i ≡ stream_of w → In show k ts r i
shown_alone = shown false

pub printed_alone : (k : Rule) (w : Written) (ts r i : Stream) → copied (blank true) (parse_rule k ts) ≡ Reached w r → i ≡ stream_of w → In print k ts r i
printed_alone = shown true

pub shows : {E : Type 0} (refusal : E → Type 0) (k : Rule) (w : Written) (ts r : Stream) (x : Result Stream E) → copied (blank false) (parse_rule k ts) ≡ Reached w r →
    IfOk x (λ i. i ≡ stream_of w) → OnErr x (closed w ≡ false) → Shows refusal k ts x r
shows refusal k w ts r (Ok i) e f g = shown_alone k w ts r i e f
shows refusal k w ts r (Err x) e f g = λ s. absurd (left_open false k w ts r e g)

pub both : (k : Rule) (ts q r i j : Stream) → In show k ts q i → In print k ts r j → (s : Syntax) × (parse_rule k ts ≡ Some (s, r)) × (i ≡ show s) × (j ≡ print s)
both k ts q r i j (s, d, x) (t, c, y) = (t, c, x ∙ ap show (tree_is (sym d ∙ c)), y)
  where
    tree_from : Syntax → Out → Syntax
    tree_from s (Some p) = p.0
    tree_from s None = s

    tree_is : {s t : Syntax} {q r : Stream} → ◌≡◌ {A = Out} (Some (s, q)) (Some (t, r)) → s ≡ t
    tree_is {s} z = ap (tree_from s) z
