-- Identifiers.
use Rattle.std.specs.Prelude.{ℕ, Bool, false, ◌&&◌, ◌||◌, ◌==◌, List, [], ◌∷◌, drop, codes, if◌then◌else◌}
use Rattle.std.specs.List.{list_all}
use Rattle.std.specs.Str.{chars}
use Rattle.unicode_ident.specs.Ident.{is_xid_start, is_xid_continue}
use Rattle.syn_grammar.specs.Words.{Text, keywords}
use Rattle.syn_grammar.specs.Tokens.{one_of_texts, begins_text}
use Rattle.syn_tokens.specs.declared.span.Span.{Span}

-- an identifier, as callers see it
pub record IdentValue : Type 0 where
  pub text : Text
  pub span : Span

-- the text is a keyword
unfoldable pub is_keyword : Text → Bool
is_keyword x = one_of_texts x keywords

-- `_`, or a character that may start an identifier
abbrev pub may_start : ℕ → Bool
may_start c = c == 95 || is_xid_start c

-- characters that spell a name: one that may start it, followed by such as may continue it
unfoldable pub is_name : List ℕ → Bool
is_name [] = false
is_name (c ∷ cs) = may_start c && list_all is_xid_continue cs

-- the text after `r#`, if the text starts with that
unfoldable pub without_raw : Text → Text
without_raw x = if begins_text (codes "r#") x then drop 2 x else x

-- the text is an identifier: a name, optionally with `r#` before it
unfoldable pub is_identifier : Text → Bool
is_identifier x = is_name (chars (without_raw x))
