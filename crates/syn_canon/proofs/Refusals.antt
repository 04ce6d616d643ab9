-- What an error of the library implies for a stream, and what a failure implies for a run.
use Rattle.std.proofs.Common.{◌≡◌, ◌⊎◌, ℕ, Bool, true, false, List, [], ◌∷◌, refl, sym, ◌∙◌, inl, inr}
use Rattle.std.specs.Prelude.{Option, String}
use Rattle.std.specs.declared.alloc.Global.{Global}
use Rattle.syn_grammar.specs.Tokens.{Stream}
use Rattle.syn_grammar.specs.Rules.{Rule}
use Rattle.syn_grammar.specs.Promises.{Refused}
use Rattle.syn_tokens.specs.Faults.{ErrorValue, syntax_error, too_deep, out_of_memory, IsSyntaxError}
use Rattle.syn_canon.specs.Statuses.{failure_of, is_decided, status_of}
use Rattle.syn_canon.specs.Answers.{IsDecided, IsNoAnswer, IsUnderived, IsUndone}
use Rattle.syn_canon.specs.declared.failure.Failure.{Failure}
use Rattle.syn_canon.specs.declared.failure.Failure.TheVariants as failures

pub underived : (rule : Rule) (stream : Stream) (error : ErrorValue) → (IsSyntaxError error → Refused rule stream) → IsUnderived rule stream (failure_of error)
underived rule stream out_of_memory refused = tt
underived rule stream (too_deep span) refused = tt
underived rule stream (syntax_error faults) refused = (tt, refused tt)

no_answer_of : (words : List (String Global)) (known : Option (List ℕ)) (failure : Failure) → is_decided failure ≡ true → IsUndone words known failure → IsNoAnswer words known failure
no_answer_of words known failures.Usage d u = u
no_answer_of words known failures.NotUtf8 d u = u
no_answer_of words known (failures.Refused e) d u = u
no_answer_of words known failures.ReadFailed d u = u
no_answer_of words known failures.WriteFailed d u = absurd (cc d)
no_answer_of words known failures.OutOfMemory d u = u

-- a run that words and text decide has no output for this reason
pub decided_of : (words : List (String Global)) (known : Option (List ℕ)) (failure : Failure) (status : ℕ) (b : Bool) → b ≡ is_decided failure → status ≡ status_of failure → IsUndone words known failure → b ≡ true → IsDecided words known status
decided_of words known failure status b e f u d =
    let here : is_decided failure ≡ true = sym e ∙ d in
    record { failure = failure; decided = here; is_no_answer = no_answer_of words known failure here u; is_status = f }

aside_status : (failure : Failure) → is_decided failure ≡ false → (status_of failure ≡ 1) ⊎ (status_of failure ≡ 3)
aside_status failures.Usage d = absurd (cc d)
aside_status failures.NotUtf8 d = absurd (cc d)
aside_status (failures.Refused e) d = absurd (cc d)
aside_status failures.ReadFailed d = inl refl
aside_status failures.WriteFailed d = inl refl
aside_status failures.OutOfMemory d = inr refl

-- of any other run the status is 1 or 3
pub aside_of : (failure : Failure) (status : ℕ) (b : Bool) → b ≡ is_decided failure → status ≡ status_of failure → b ≡ false → (status ≡ 1) ⊎ (status ≡ 3)
aside_of failure status b e f d = either (aside_status failure (sym e ∙ d))
  where
    either : (status_of failure ≡ 1) ⊎ (status_of failure ≡ 3) → (status ≡ 1) ⊎ (status ≡ 3)
    either (inl p) = inl (f ∙ p)
    either (inr p) = inr (f ∙ p)
