-- STRINGS among literals.
use Rattle.std.specs.Prelude.{Bool, true, false}
use Rattle.syn_tokens.specs.declared.literal.LitKind.{LitKind}
use Rattle.syn_tokens.specs.declared.literal.LitKind.TheVariants as Kind-v

abbrev pub is_string : LitKind → Bool
is_string Kind-v.Str = true
is_string _ = false
