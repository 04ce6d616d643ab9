-- Faults at defaults.
use Rattle.std.proofs.Common.{◌≡◌, List, subst, sym}
use Rattle.std.specs.Prelude.{Result, Err}
use Rattle.syn_grammar.specs.Tokens.{Stream}
use Rattle.syn_parse.specs.Refusals.{IsSyntax, IsRefusedAs}
use Rattle.syn_tokens.specs.Faults.{ErrorValue, IsSyntaxError}
use Rattle.syn_parse.specs.Nexts.{RefusedNext, HasFaultNext}
use Rattle.syn_parse.specs.declared.read.refusal.Refusal.{Refusal}
use Rattle.syn_parse.proofs.Refused.{refused_by_syntax, refused_next}
use Rattle.syn_tree.specs.Defaults.{HasDefault, RefusesDefault, no_default}

-- what was refused as a default is a fault there
pub default_fault : {X : Type 0} (ts : Stream) (result : Result X ErrorValue) (e : ErrorValue) (r : Refusal) → result ≡ Err e → IsRefusedAs r e
    → ((default : Stream) → HasDefault ts default → IsSyntax r → RefusedNext default no_default r) → RefusesDefault ts IsSyntaxError HasFaultNext result
default_fault {X} ts result e r is refused h =
    subst (λ (answer : Result X ErrorValue). RefusesDefault ts IsSyntaxError HasFaultNext answer) (sym is)
    (λ default there s. refused_next default no_default r e refused (h default there (refused_by_syntax r e refused s)))
