-- Defaults of fields without names, which are refused.
use Rattle.std.specs.Prelude.{◌≡◌, ℕ, true, List, Some, codes, Result, Ok, Err}
use Rattle.syn_grammar.specs.Tokens.{Stream}
use Rattle.syn_grammar.specs.Rules.{attributes, visibility, type}
use Rattle.syn_grammar.specs.Grammar.{Syntax}
use Rattle.syn_grammar.specs.Take.{sees}
use Rattle.syn_grammar.specs.Run.{parse_rule}
use Rattle.syn_grammar.specs.Table.{at_equals}
use Rattle.syn_parse.specs.Peeks.{past}

-- attributes, a visibility and a type are there, and after them `=` and a default
pub record HasDefault (ts default : Stream) : Type 0 where
  pub attrs : Syntax
  pub after_attrs : Stream
  pub vis : Syntax
  pub after_vis : Stream
  pub ty : Syntax
  pub after_type : Stream
  pub reads_attrs : parse_rule attributes ts ≡ Some (attrs, after_attrs)
  pub reads_vis : parse_rule visibility after_attrs ≡ Some (vis, after_vis)
  pub reads_type : parse_rule type after_vis ≡ Some (ty, after_type)
  pub equals : sees at_equals after_type ≡ true
  pub is : default ≡ past after_type

abbrev pub no_default : List ℕ
no_default = codes "field default value is only supported in structs with named fields"

-- where there is a default, nothing is read, and with enough memory this is the reason
abbrev pub RefusesDefault : {X E : Type 0} → Stream → (E → Type 0) → (Stream → List ℕ → E → Type 0) → Result X E → Type 0
RefusesDefault ts refusal reason (Ok x) = (default : Stream) → HasDefault ts default → ⊥
RefusesDefault ts refusal reason (Err e) = (default : Stream) → HasDefault ts default → refusal e → reason default no_default e
