-- What is read of a bound or of a predicate is never bare, so a list of such that was read is bare only where it is empty.
use Rattle.std.proofs.Common.{◌≡◌, ℕ, zero, suc, Bool, true, false, Some, refl, sym, ap, ◌∙◌}
use Rattle.syn_grammar.specs.Words.{colon}
use Rattle.syn_grammar.specs.Tokens.{Stream, and, or, no, same_text}
use Rattle.syn_grammar.specs.Rules.{Rule}
use Rattle.syn_grammar.specs.Shape.{untagged}
use Rattle.syn_grammar.specs.Grammar.{Grammar, mark, lifetime, ◌&◌, when◌then◌else◌, inside, rule, shaped, Syntax, Left, Right, Node, bare}
use Rattle.syn_grammar.specs.Table.{table}
use Rattle.syn_grammar.specs.Take.{Out, sees, take_group}
use Rattle.syn_grammar.specs.Values.{untag}
use Rattle.syn_grammar.specs.Run.{branch, parse_rule, parse_form}
use Rattle.syn_grammar.proofs.Run.{inv_wrap, inv_then, inv_within, parse_rule_is}
use Rattle.syn_grammar.proofs.Sets.{and_left, and_right}
use Rattle.syn_grammar.proofs.Takes.{TreeAndRest, lifetime_known, mark_known}

-- WHAT A FORM READS IS NEVER BARE, by its parts alone and by what rules read
abbrev pub shows : (Rule → Bool) → Grammar → Bool
shows P (mark b cs) = no (same_text cs colon)
shows P lifetime = true
shows P (g & h) = or (shows P g) (shows P h)
shows P (when c then g else h) = and (shows P g) (shows P h)
shows P (inside d g) = true
shows P (rule k) = P k
shows P (shaped untagged g) = true
shows P g = false

-- so many rules deep
abbrev pub shown : ℕ → Rule → Bool
shown zero k = false
shown (suc n) k = shows (shown n) (table k)

abbrev pub NeverBare : Out → Type 0
NeverBare o = (x : TreeAndRest) → o ≡ Some x → bare x.0 ≡ false

bare_untagged : (s : Syntax) → bare (untag s) ≡ false
bare_untagged (Left s) = refl
bare_untagged (Right s) = refl
bare_untagged _ = refl

not : (b : Bool) → no b ≡ true → b ≡ false
not false h = refl
not true h = absurd (cc h)

-- of two, one is never bare
one_of : (x y a b : Bool) → or a b ≡ true → (a ≡ true → x ≡ false) → (b ≡ true → y ≡ false) → and x y ≡ false
one_of x y true b w h k = ap (λ z. and z y) (h refl)
one_of true y false b w h k = k w
one_of false y false b w h k = refl

on_either : (b : Bool) (o p : Out) → NeverBare o → NeverBare p → NeverBare (branch b o p)
on_either true o p h k x e = let z = inv_wrap Left o x e in ap (λ (y : TreeAndRest). bare y.0) z.2 ∙ h z.0 z.1
on_either false o p h k x e = let z = inv_wrap Right p x e in ap (λ (y : TreeAndRest). bare y.0) z.2 ∙ k z.0 z.1

module _ (P : Rule → Bool) (by_rule : (k : Rule) → P k ≡ true → (ts : Stream) → NeverBare (parse_rule k ts)) where
  pub never_bare : (g : Grammar) → shows P g ≡ true → (ts : Stream) → NeverBare (parse_form g ts)
  never_bare (mark b cs) w ts x e = let z = mark_known cs ts x e in ap bare z.1 ∙ ap (λ l. same_text l colon) z.2 ∙ not (same_text cs colon) w
  never_bare lifetime w ts x e = let z = lifetime_known ts x e in ap bare z.3
  never_bare (g & h) w ts x e =
      let z = inv_then (parse_form g ts) (parse_form h) x e in
      ap (λ (y : TreeAndRest). bare y.0) z.4 ∙ one_of (bare z.0.0) (bare z.1.0) (shows P g) (shows P h) w (λ a. never_bare g a ts z.0 z.2) (λ a. never_bare h a z.0.1 z.1 z.3)
  never_bare (when c then g else h) w ts x e =
      on_either (sees c ts) (parse_form g ts) (parse_form h ts) (never_bare g (and_left (shows P g) _ w) ts) (never_bare h (and_right (shows P g) _ w) ts) x e
  never_bare (inside d g) w ts x e = let z = inv_within d (take_group d ts) (parse_form g) x e in ap (λ (y : TreeAndRest). bare y.0) z.5
  never_bare (rule k) w ts x e = by_rule k w ts x e
  never_bare (shaped untagged g) w ts x e = let z = inv_wrap untag (parse_form g ts) x e in ap (λ (y : TreeAndRest). bare y.0) z.2 ∙ bare_untagged z.0.0
  never_bare _ w ts x e = absurd (cc w)

pub rule_never_bare : (n : ℕ) (k : Rule) → shown n k ≡ true → (ts : Stream) (x : Syntax × Stream) → parse_rule k ts ≡ Some x → bare x.0 ≡ false
rule_never_bare zero k w ts x e = absurd (cc w)
rule_never_bare (suc n) k w ts x e =
    let z = inv_wrap Node (parse_form (table k) ts) x (sym (parse_rule_is k ts) ∙ e) in
    ap (λ (y : TreeAndRest). bare y.0) z.2 ∙ never_bare (shown n) (rule_never_bare n) (table k) w ts z.0 z.1
