-- LISTS IN `< >` whose members of one form are printed first.
pub use Rattle.syn_tokens.specs.Ordered.{place_of, ordered_of}
