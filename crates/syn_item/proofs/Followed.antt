-- How far a plan was followed, for who reads by one: what is left of it is kept verbatim, has ended, is refused, or is read on.
use Rattle.std.proofs.Common.{◌≡◌, true, List, Some, None, refl, sym, ap, subst, ◌∙◌}
use Rattle.std.specs.Prelude.{Option, Result, Err}
use Rattle.syn_grammar.specs.Tokens.{Stream}
use Rattle.syn_grammar.specs.Rules.{Rule}
use Rattle.syn_grammar.specs.Grammar.{Syntax}
use Rattle.syn_grammar.specs.Take.{Out}
use Rattle.syn_grammar.specs.Plan.{Plan, ends, Marked, run_plan}
use Rattle.syn_grammar.proofs.PlanSteps.{Event, Happens, Refuses, after_all, happened, left_over, refused_there}
use Rattle.syn_item.specs.Planned.{Follows, OnlyKept}
use Rattle.syn_item.proofs.Kept.{only_kept}

module _ (k : Rule) (ts : Stream) (l : List Event) (p : Plan) (m : Stream) (h : Happens l p m) where
  pub is_kept : Marked true (left_over l p) → OnlyKept k ts (run_plan p k ts m)
  is_kept marks = subst (OnlyKept k ts) (sym (happened k ts l p m h)) (only_kept k ts (left_over l p) (after_all l m) marks)

  pub is_ended : (s : Syntax) (r : Stream) → left_over l p ≡ ends s → after_all l m ≡ r → run_plan p k ts m ≡ Some (s, r)
  is_ended s r e q = happened k ts l p m h ∙ ap (λ (z : Plan). run_plan z k ts (after_all l m)) e ∙ ap (λ (z : Stream). Some (s, z)) q

  pub is_refused : Refuses k ts (left_over l p) (after_all l m) → run_plan p k ts m ≡ None
  is_refused f = happened k ts l p m h ∙ refused_there k ts (left_over l p) (after_all l m) f

  pub proceeds : {X E : Type 0} (refusal : E → Type 0) (view : X → Syntax) (x : Result (Option X) E) (new : Stream) →
      Follows refusal view k ts (run_plan (left_over l p) k ts (after_all l m)) x new → Follows refusal view k ts (run_plan p k ts m) x new
  proceeds refusal view x new f = subst (λ (o : Out). Follows refusal view k ts o x new) (sym (happened k ts l p m h)) f

-- where a call that a plan continues by is refused, so is the plan
pub refused_by : {X E : Type 0} (refusal : E → Type 0) (view : X → Syntax) (k : Rule) (ts : Stream) (out : Out) (x : Result (Option X) E) (new : Stream) (e : E) → x ≡ Err e → (refusal e → out ≡ None) → Follows refusal view k ts out x new
refused_by refusal view k ts out x new e i h = subst (λ y. Follows refusal view k ts out y new) (sym i) h
