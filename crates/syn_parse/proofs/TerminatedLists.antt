-- Lists up to the end: what one iteration of a loop parses, and the contracts of callers.
use Rattle.std.proofs.Common.{◌≡◌, true, false, List, [], ◌∷◌, ◌++◌, Option, Some, None, Result, Ok, Err, ap, ◌∙◌, subst}
use Rattle.std.specs.Result.{IsErrAnd}
use Rattle.syn_grammar.specs.Tokens.{Stream, ended, visible}
use Rattle.syn_grammar.specs.Grammar.{Syntax, Right}
use Rattle.syn_grammar.specs.Take.{Parser, sees}
use Rattle.syn_grammar.specs.Run.{wrap}
use Rattle.syn_tokens.specs.Lists.{Sequence}
use Rattle.syn_tokens.specs.Listing.{list_of, onto}
use Rattle.syn_parse.specs.Terminated.{terminated, DerivesList}
use Rattle.syn_parse.specs.Form.{Form, parse, Derives, Meaning, ParsesSome, NotDerivedList, ListOutcome}
use Rattle.syn_parse.specs.TerminatedLists.{IsTerminated, terminated_is, terminated_more, list_known, list_unread}
use Rattle.syn_parse.specs.Meanings.{law_by}
use Rattle.syn_parse.proofs.Listing.{onto_grows}

-- after the parsed elements, an element with its separator, and the others
pub terminated_grows : {T P : Type 0} (v : T → Syntax) (w : P → Syntax) (p q : Parser) → IsTerminated p q → (all ts : Stream) (l : List (T × P)) (x : T) (y : P) (m n : Stream) →
    terminated p q all ≡ wrap (onto Right v w l) (terminated p q ts) →
    sees ended ts ≡ false → p ts ≡ Some (v x, m) → sees ended m ≡ false → q m ≡ Some (w y, n) →
    terminated p q all ≡ wrap (onto Right v w (l ++ (x, y) ∷ [])) (terminated p q n)
terminated_grows v w p q law all ts l x y m n e a b c d =
    e ∙ ap (wrap (onto Right v w l)) (terminated_more v w p q law ts x y m n a b c d) ∙ onto_grows Right v w l (x, y) (terminated p q n)

-- LISTS UP TO THE END, from the meaning of their elements and separators
pub list_is : (f g : Form) → Meaning f → ParsesSome g → IsTerminated (parse f) (parse g)
list_is f g m short = terminated_is (parse f) (parse g) (λ ts x e. m.kept ts x.0 x.1 e) short

-- a parsed list is such a list
pub form_list_known : (f g : Form) → Meaning f → Meaning g → ParsesSome g → {T P : Type 0} (v : T → Syntax) (w : P → Syntax) (l : List (T × P)) (o : Option T) (ts r : Stream) →
    visible ts ≡ true → terminated (parse f) (parse g) ts ≡ Some (list_of v w l o, r) → DerivesList (Derives f) (Derives g) v w l o ts
form_list_known f g m n short v w l o ts r k e =
    list_known (parse f) (parse g) (Derives f) (Derives g) (law_by f m) (law_by g n) (list_is f g m short) v w l o ts r k e

-- if nothing is parsed, nothing is such a list
pub form_list_unread : (f g : Form) → Meaning f → Meaning g → ParsesSome g → (ts : Stream) → visible ts ≡ true → terminated (parse f) (parse g) ts ≡ None → NotDerivedList f g ts
form_list_unread f g m n short ts k e = list_unread (parse f) (parse g) (Derives f) (Derives g) (law_by f m) (law_by g n) (list_is f g m short) short ts k e

-- an error that is propagated
pub list_err : {T P E : Type 0} (refusal : E → Type 0) (v : T → Syntax) (w : P → Syntax) (f g : Form) (ts : Stream) (r : Result (Sequence T P) E) (e : E) →
    IsErrAnd r (λ f. f ≡ e) → (visible ts ≡ true → refusal e → NotDerivedList f g ts) → ListOutcome refusal v w f g ts r
list_err refusal v w g h ts (Ok l) e i u = absurd i
list_err refusal v w g h ts (Err f) e i u = λ k s. u k (subst refusal i s)
