-- Shared texts of tokens.
use Rattle.std.specs.Prelude.{List, ℕ, string_bytes}
use Rattle.syn_tokens.specs.declared.text.Shared.TheVariants as Shared-m

-- its bytes
abbrev pub bytes_of : Shared-m.the_data → List ℕ
bytes_of (Shared-m.Short text) = text.bytes
bytes_of (Shared-m.Long text) = string_bytes text
