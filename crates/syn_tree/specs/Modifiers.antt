-- THE MODIFIERS OF FIELDS AND ITEMS: what syntax they represent, and the faults of those that nobody expects.
use Rattle.std.specs.Prelude.{◌≡◌, ℕ, List, [], ◌∷◌, ◌++◌, Option, Some, None, Result, Ok, Err, codes, slice_index_or}
use Rattle.syn_grammar.specs.Grammar.{Syntax, Nothing, Both}
use Rattle.syn_tokens.specs.Faults.{FaultValue, ErrorValue, syntax_error}
use Rattle.syn_tokens.specs.Kinds.{Not, auto_syntax, const_syntax, default_syntax, not_syntax}
use Rattle.syn_tokens.specs.Leaves.{maybe}
use Rattle.syn_tokens.specs.declared.span.Span.{Span}
use Rattle.syn_tokens.specs.declared.token.word.Word.{Word}
use Rattle.syn_tree.specs.declared.data.FieldModifiers.{FieldModifiers}
use Rattle.syn_tree.specs.declared.item.modifiers.ConstModifiers.{ConstModifiers}
use Rattle.syn_tree.specs.declared.item.modifiers.FnModifiers.{FnModifiers}
use Rattle.syn_tree.specs.declared.item.modifiers.TypeModifiers.{TypeModifiers}
use Rattle.syn_tree.specs.declared.item.modifiers.ImplModifiers.{ImplModifiers}
use Rattle.syn_tree.specs.declared.item.modifiers.TraitModifiers.{TraitModifiers}

-- there are none
abbrev pub syntax_of_FieldModifiers : FieldModifiers → Syntax
syntax_of_FieldModifiers m = Nothing

abbrev pub syntax_of_ConstModifiers : ConstModifiers → Syntax
syntax_of_ConstModifiers m = maybe default_syntax m.defaultness

abbrev pub syntax_of_FnModifiers : FnModifiers → Syntax
syntax_of_FnModifiers m = maybe default_syntax m.defaultness

abbrev pub syntax_of_TypeModifiers : TypeModifiers → Syntax
syntax_of_TypeModifiers m = maybe default_syntax m.defaultness

abbrev pub syntax_of_ImplModifiers : ImplModifiers → Syntax
syntax_of_ImplModifiers m = Both (maybe default_syntax m.defaultness) (Both (maybe const_syntax m.constness) (maybe not_syntax m.polarity))

abbrev pub syntax_of_TraitModifiers : TraitModifiers → Syntax
syntax_of_TraitModifiers m = Both (maybe const_syntax m.constness) (maybe auto_syntax m.auto_token)

-- WHAT IS REPORTED

abbrev pub HasFault : List FaultValue → Type 0
HasFault [] = ⊥
HasFault (f ∷ fs) = Unit {0}

-- Ok where there are no faults, and else an error of just these
abbrev pub Reports : {X : Type 0} → List FaultValue → Result X ErrorValue → Type 0
Reports faults (Ok x) = faults ≡ []
Reports faults (Err e) = (e ≡ syntax_error faults) × HasFault faults

-- a fault at this place, if there is one
abbrev pub unexpected : List ℕ → Option Span → List FaultValue
unexpected text None = []
unexpected text (Some place) = (place, text) ∷ []

abbrev pub word_place : {K : Type 0} → Option (Word K) → Option Span
word_place None = None
word_place (Some w) = Some w.span

-- the span of the first character of a mark
abbrev pub mark_place : Option Not → Option Span
mark_place None = None
mark_place (Some m) = Some (slice_index_or m.spans 0 (record { start = 0; end = 0 }))

abbrev pub const_faults : ConstModifiers → List FaultValue
const_faults m = unexpected (codes "unexpected const item modifier") (word_place m.defaultness)

abbrev pub fn_faults : FnModifiers → List FaultValue
fn_faults m = unexpected (codes "unexpected function modifier") (word_place m.defaultness)

abbrev pub type_faults : TypeModifiers → List FaultValue
type_faults m = unexpected (codes "unexpected type alias modifier") (word_place m.defaultness)

-- `default` before `!`, and `const` after both
abbrev pub impl_faults : ImplModifiers → List FaultValue
impl_faults m =
    unexpected (codes "unexpected impl modifier") (word_place m.defaultness)
    ++ unexpected (codes "unexpected impl modifier") (mark_place m.polarity)
    ++ unexpected (codes "unexpected impl modifier") (word_place m.constness)

-- `auto` before `const`
abbrev pub trait_faults : TraitModifiers → List FaultValue
trait_faults m = unexpected (codes "unexpected trait modifier") (word_place m.auto_token) ++ unexpected (codes "unexpected trait modifier") (word_place m.constness)
