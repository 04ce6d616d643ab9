-- A string is a literal of the kind that an ABI asks for.
use Rattle.std.proofs.Common.{◌≡◌, true, [], ◌∷◌, Some, refl, sym, ap, ◌∙◌}
use Rattle.syn_grammar.specs.Words.{Text}
use Rattle.syn_grammar.specs.Tokens.{Span, LitKind, Str, ByteStr, CStr, Byte, Char, Int, Float, ident, literal, Stream, end, leaf, punct, group, at_literal}
use Rattle.syn_grammar.specs.Grammar.{any_literal, literal_of, Token}
use Rattle.syn_grammar.specs.Take.{sees, take_token, taken}
use Rattle.syn_grammar.proofs.Looks.{sees_literal}
use Rattle.syn_parse.proofs.FirstTokens.{no_literal_at_ident}
use Rattle.syn_parse.proofs.Words.{take_literal}

-- where one is next, it is what any literal is read as
string_at : (k : LitKind) (x : Text) (sp : Span) (r : Stream) → taken (take_token (literal_of (Str ∷ [])) (leaf (literal k x) sp r)) ≡ true →
    take_token (literal_of (Str ∷ [])) (leaf (literal k x) sp r) ≡ Some (Token (literal k x) sp, r)
unfolding take_token
string_at Str x sp r e = refl
string_at ByteStr x sp r e = absurd (cc e)
string_at CStr x sp r e = absurd (cc e)
string_at Byte x sp r e = absurd (cc e)
string_at Char x sp r e = absurd (cc e)
string_at Int x sp r e = absurd (cc e)
string_at Float x sp r e = absurd (cc e)

as_any : (ts : Stream) → taken (take_token (literal_of (Str ∷ [])) ts) ≡ true → take_token (literal_of (Str ∷ [])) ts ≡ take_token any_literal ts
unfolding take_token
as_any end e = absurd (cc e)
as_any (leaf (ident y) sq m) e = absurd (cc (sym (ap taken (no_literal_at_ident y sq m (literal_of (Str ∷ [])) refl)) ∙ e))
as_any (leaf (literal k y) sq m) e = string_at k y sq m e ∙ sym (take_literal k y sq m)
as_any (punct c j sq m) e = absurd (cc e)
as_any (group d o c i m) e = absurd (cc e)

pub string_taken : (ts : Stream) → sees (at_literal Str) ts ≡ true → take_token (literal_of (Str ∷ [])) ts ≡ take_token any_literal ts
string_taken ts e = as_any ts (sym (sees_literal Str ts) ∙ e)
