-- WHEN AN IMPL NEEDS EMPTY GENERICS: whether the part after its generics, or its self type after `for`, would be parsed as generics. For empty
-- generics the print tests this on the printed tree (`led`); a parser of impls sees it in the tokens.
use Rattle.std.specs.Prelude.{◌≡◌, Bool, false, [], ◌∷◌, Some, None}
use Rattle.syn_grammar.specs.Words.{w_for, exclamation}
use Rattle.syn_grammar.specs.Tokens.{Stream, ◌⧺◌, or, at_generics, present}
use Rattle.syn_grammar.specs.Rules.{type, type_path, for_self_type, impl_body}
use Rattle.syn_grammar.specs.Grammar.{word, print, renew, led, Grammar, rule, empty, when◌then◌else◌, Syntax, Both, Left, Right}
use Rattle.syn_grammar.specs.Forms.{punctuation}
use Rattle.syn_grammar.specs.Table.{at_for}
use Rattle.syn_grammar.specs.Take.{Out, sees, take_token}
use Rattle.syn_grammar.specs.Run.{parse_rule, parse_form}
use Rattle.syn_grammar.specs.ItemPlan.{parts}

-- generics follow the `for` that is next
abbrev pub generics_after : Out → Bool
generics_after (Some p) = sees at_generics p.1
generics_after None = false

abbrev pub leads_on : Stream → Bool
leads_on ts = generics_after (take_token (word w_for) ts)

-- this form reads this value here
abbrev pub Reads : Grammar → Stream → Syntax → Stream → Type 0
Reads g m s r = parse_form g m ≡ Some (s, r)

-- The print of a type, before anything, would be parsed as generics if and only if its tokens would be.
abbrev pub TypeLeads : Type 0
TypeLeads = (m r q : Stream) (t : Syntax) → parse_rule type m ≡ Some (t, r) → present at_generics (print t ⧺ q) ≡ sees at_generics m

-- AN IMPL after its generics, by the next tokens: `!` and braces; `!`, a path and `for` with a type; a path, with an optional `for` and type;
-- any other type. The test of the print (`led`) agrees with the tokens. Hold for every stream.
abbrev pub NeverLed : Type 0
NeverLed = (m n r : Stream) (x b : Syntax) → Reads (punctuation exclamation) m x n → Reads (rule impl_body) n b r → led (renew (Left (Both x (Left b)))) ≡ sees at_generics m

abbrev pub NotLed : Type 0
NotLed = (m n p q r : Stream) (x t f b : Syntax) → Reads (punctuation exclamation) m x n → Reads (rule type_path) n t p → Reads (rule for_self_type) p f q → Reads (rule impl_body) q b r →
    led (renew (Left (Both x (Right (parts (t ∷ f ∷ b ∷ [])))))) ≡ or (sees at_generics m) (leads_on p)

abbrev pub PathLed : Type 0
PathLed = (m p q r : Stream) (t f b : Syntax) → Reads (rule type_path) m t p → Reads (when at_for then rule for_self_type else empty) p f q → Reads (rule impl_body) q b r →
    led (renew (Right (Left (parts (t ∷ f ∷ b ∷ []))))) ≡ or (sees at_generics m) (leads_on p)

abbrev pub TypeLed : Type 0
TypeLed = (m p r : Stream) (t b : Syntax) → Reads (rule type) m t p → Reads (rule impl_body) p b r → led (renew (Right (Right (Both t b)))) ≡ sees at_generics m

abbrev pub ImplLed : Type 0
ImplLed = NeverLed × (NotLed × (PathLed × TypeLed))
