-- Where a plan has come to its mark: what it reads from there is kept verbatim, or it reads nothing.
use Rattle.std.proofs.Common.{◌≡◌, Bool, true, false, Some, None, refl, ap, ◌∙◌, true≢false}
use Rattle.syn_grammar.specs.Tokens.{Stream}
use Rattle.syn_grammar.specs.Rules.{Rule}
use Rattle.syn_grammar.specs.Grammar.{Syntax, holds}
use Rattle.syn_grammar.specs.Take.{Out, sees}
use Rattle.syn_grammar.specs.Run.{parse_form}
use Rattle.syn_grammar.specs.Plan.{Plan, reads, turns, tests, keeps, ends, done, fails, Marked, by_test, follow, kept_as, run_plan}
use Rattle.syn_item.specs.Planned.{OnlyKept}

module _ (k : Rule) (ts : Stream) where
  by_answer : (b : Bool) (o p : Out) → OnlyKept k ts o → OnlyKept k ts p → OnlyKept k ts (by_test b o p)
  by_answer true o p g h = g
  by_answer false o p g h = h

  after : (f : Syntax → Stream → Out) (o : Out) → ((s : Syntax) (r : Stream) → OnlyKept k ts (f s r)) → OnlyKept k ts (follow f o)
  after f (Some p) h = h p.0 p.1
  after f None h = tt

  pub only_kept : (p : Plan) (m : Stream) → Marked true p → OnlyKept k ts (run_plan p k ts m)
  only_kept (reads g f) m h = after (λ s r. run_plan (f s) k ts r) (parse_form g m) (λ s r. only_kept (f s) r (h s))
  only_kept (turns c p q) m h = by_answer (sees c m) (run_plan p k ts m) (run_plan q k ts m) (only_kept p m h.0) (only_kept q m h.1)
  only_kept (tests t s p q) m h = by_answer (holds t s) (run_plan p k ts m) (run_plan q k ts m) (only_kept p m h.0) (only_kept q m h.1)
  only_kept (keeps p) m h = absurd (true≢false h.0)
  only_kept (ends s) m h = absurd (true≢false h)
  only_kept done m h = refl
  only_kept fails m h = tt

-- what is read as a whole then is kept as these tokens
pub kept_whole : (k : Rule) (ts : Stream) (o : Out) (s : Syntax) (r : Stream) → OnlyKept k ts o → o ≡ Some (s, r) → o ≡ Some (kept_as k ts r, r)
kept_whole k ts (Some p) s r h e = go p h e
  where
    go : (p : Syntax × Stream) → p.0 ≡ kept_as k ts p.1 → ◌≡◌ {A = Out} (Some p) (Some (s, r)) → ◌≡◌ {A = Out} (Some p) (Some (kept_as k ts r, r))
    go (t, q) h e =
        let i : ◌≡◌ {A = Syntax × Stream} (t, q) (s, r) = cc e in
        let j : q ≡ r = ap (λ (y : Syntax × Stream). y.1) i in
        cc (h, j)
kept_whole k ts None s r h e = absurd (cc e)
