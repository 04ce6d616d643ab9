-- INTEGERS, AND THE NUMBER OF A FIELD, as its digits write it.
use Rattle.std.specs.Prelude.{◌≡◌, ℕ, Bool, true, false, Option, decimal, MatchOption}
use Rattle.syn_grammar.specs.Words.{Text}
use Rattle.syn_grammar.specs.Grammar.{is_index}
use Rattle.syn_tokens.specs.declared.literal.LitKind.{LitKind}
use Rattle.syn_tokens.specs.declared.literal.LitKind.TheVariants as Kind-v

abbrev pub is_integer : LitKind → Bool
is_integer Kind-v.Int = true
is_integer _ = false

-- the number of a field whose decimal digits the text is; none where it is that of no field
abbrev pub IsFieldNumber : Text → Option ℕ → Type 0
IsFieldNumber x r = MatchOption r (is_index x ≡ false) (λ n. (is_index x ≡ true) × (decimal n ≡ x))
