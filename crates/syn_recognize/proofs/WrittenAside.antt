-- Reading without writing in place.
use Rattle.std.proofs.Common.{◌≡◌, Bool, true, false, Some, None, refl, sym, ap, ◌∙◌}
use Rattle.syn_grammar.specs.Tokens.{Stream, Look, end, pick}
use Rattle.syn_grammar.specs.Grammar.{Nothing, Right, Vanishing, Captured, Grammar, vanishing, captured}
use Rattle.syn_grammar.specs.Take.{Out, before, sees}
use Rattle.syn_grammar.specs.Run.{branch, caught, parse_form, vanish}
use Rattle.syn_recognize.specs.PrintedRows.{way}
use Rattle.syn_recognize.specs.Written.{Written, adds, closed, drops, stream_of, unwritten}
use Rattle.syn_recognize.specs.Copies.{Reached, Refused, copied, copy_form, next, forgetting, capturing, joining}
use Rattle.syn_recognize.proofs.Copied.{nothing}
use Rattle.syn_recognize.proofs.Writes.{adds_nothing}

gone : (a : Bool) → way a (Vanishing true (Right Nothing)) ≡ end
gone true = refl
gone false = refl

pub hidden_absent : (c : Look) (g : Grammar) (w : Written) (ts : Stream) → sees c ts ≡ false → copy_form (vanishing true c g) w ts ≡ Reached w ts
unfolding copy_form
hidden_absent c g w ts e = ap (λ a. copied w (vanish true (branch a (parse_form g ts) (Some (Nothing, ts))))) e ∙ nothing w _ ts (gone w.printing)

pub hidden_is : (c : Look) (g : Grammar) (w : Written) (ts : Stream) → sees c ts ≡ true → copy_form (vanishing true c g) w ts ≡ next (copy_form g unwritten ts) (forgetting w)
unfolding copy_form
hidden_is c g w ts e = ap (λ a. copied w (vanish true (branch a (parse_form g ts) (Some (Nothing, ts))))) e ∙ go (parse_form g ts)
  where
    go : (o : Out) → copied w (vanish true (branch true o (Some (Nothing, ts)))) ≡ next (copied unwritten o) (forgetting w)
    go None = refl
    go (Some p) = nothing w _ p.1 (gone w.printing)

way_captured : (a : Bool) (i : Stream) → way a (Captured Nothing i) ≡ i
way_captured true i = refl
way_captured false i = refl

pub captured_is : (g : Grammar) (w : Written) (ts : Stream) → copy_form (captured g) w ts ≡ next (copy_form g unwritten ts) (capturing w ts)
unfolding copy_form
captured_is g w ts = go (parse_form g ts)
  where
    go : (o : Out) → copied w (caught ts o) ≡ next (copied unwritten o) (capturing w ts)
    go None = refl
    go (Some p) = ap (λ i. Reached (adds w i) p.1) (way_captured w.printing (before ts p.1))

-- where all is dropped
pub dropped_is : (g : Grammar) (w : Written) (ts : Stream) → drops w ≡ true → copy_form g w ts ≡ next (copy_form g unwritten ts) (forgetting w)
unfolding copy_form
dropped_is g w ts e = go (parse_form g ts)
  where
    go : (o : Out) → copied w o ≡ next (copied unwritten o) (forgetting w)
    go None = refl
    go (Some p) = ap (λ v. Reached v p.1) (adds_nothing w (way w.printing p.0) e)

-- what was written aside is appended, where no group is open
pub joined : (u w : Written) (i ts : Stream) → closed w ≡ true → i ≡ stream_of w → joining u w ts ≡ Reached (adds u i) ts
joined u w i ts e f = ap (λ c. pick c (Reached (adds u (stream_of w)) ts) Refused) e ∙ ap (λ j. Reached (adds u j) ts) (sym f)

pub not_joined : (u w : Written) (ts : Stream) → closed w ≡ false → joining u w ts ≡ Refused
not_joined u w ts e = ap (λ c. pick c (Reached (adds u (stream_of w)) ts) Refused) e
