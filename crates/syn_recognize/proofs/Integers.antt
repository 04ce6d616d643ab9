-- Where an integer is next.
use Rattle.std.proofs.Common.{◌≡◌, ℕ, Bool, true, false, [], ◌∷◌, None, refl, sym, ap, ◌∙◌}
use Rattle.syn_grammar.specs.Words.{Text}
use Rattle.syn_grammar.specs.Tokens.{Span, Delimiter, LitKind, Str, ByteStr, CStr, Byte, Char, Int, Float, ident, literal, Stream, end, leaf, punct, group, at_literal}
use Rattle.syn_grammar.specs.Grammar.{any_literal, literal_of}
use Rattle.syn_grammar.specs.Take.{sees, lookahead_at, take_token, taken}
use Rattle.syn_grammar.proofs.Looks.{sees_literal}
use Rattle.syn_tokens.specs.Literals.{kind_of}
use Rattle.syn_tokens.specs.declared.literal.LitKind.{LitKind as LiteralKind}
use Rattle.syn_tokens.specs.declared.literal.LitKind.TheVariants as Kind-v
use Rattle.syn_recognize.specs.FieldNumbers.{is_integer}
use Rattle.syn_parse.proofs.FirstTokens.{no_literal_at_ident}
use Rattle.syn_parse.proofs.Words.{take_literal}

abbrev is_int : LitKind → Bool
is_int Int = true
is_int _ = false

kind_seen : (k : LitKind) (x : Text) (sp : Span) (r : Stream) → sees (at_literal Int) (leaf (literal k x) sp r) ≡ is_int k
unfolding sees lookahead_at
kind_seen Str x sp r = refl
kind_seen ByteStr x sp r = refl
kind_seen CStr x sp r = refl
kind_seen Byte x sp r = refl
kind_seen Char x sp r = refl
kind_seen Int x sp r = refl
kind_seen Float x sp r = refl

pub integer_seen : (k : LiteralKind) (x : Text) (sp : Span) (r : Stream) → sees (at_literal Int) (leaf (literal (kind_of k) x) sp r) ≡ is_integer k
integer_seen k x sp r = kind_seen (kind_of k) x sp r ∙ go k
  where
    go : (k : LiteralKind) → is_int (kind_of k) ≡ is_integer k
    go Kind-v.Str = refl
    go Kind-v.ByteStr = refl
    go Kind-v.CStr = refl
    go Kind-v.Byte = refl
    go Kind-v.Char = refl
    go Kind-v.Int = refl
    go Kind-v.Float = refl

-- another token tree is next, or none
no_literal_taken : (ts : Stream) → take_token any_literal ts ≡ None → take_token (literal_of (Int ∷ [])) ts ≡ None
unfolding take_token
no_literal_taken end e = refl
no_literal_taken (leaf (ident y) sq m) e = no_literal_at_ident y sq m (literal_of (Int ∷ [])) refl
no_literal_taken (leaf (literal j y) sq m) e = absurd (cc (sym e ∙ take_literal j y sq m))
no_literal_taken (punct c j sq m) e = refl
no_literal_taken (group d o c i m) e = refl

no_literal_seen : (ts : Stream) → take_token any_literal ts ≡ None → sees (at_literal Int) ts ≡ false
no_literal_seen ts e = sees_literal Int ts ∙ ap taken (no_literal_taken ts e)

no_literal_at_end : take_token any_literal end ≡ None
unfolding take_token
no_literal_at_end = refl

pub integer_not_at_end : sees (at_literal Int) end ≡ false
integer_not_at_end = no_literal_seen end no_literal_at_end

pub integer_not_at_ident : (x : Text) (sp : Span) (r : Stream) → sees (at_literal Int) (leaf (ident x) sp r) ≡ false
integer_not_at_ident x sp r = no_literal_seen (leaf (ident x) sp r) (no_literal_at_ident x sp r any_literal refl)

no_literal_at_punct : (c : ℕ) (j : Bool) (sp : Span) (r : Stream) → take_token any_literal (punct c j sp r) ≡ None
unfolding take_token
no_literal_at_punct c j sp r = refl

pub integer_not_at_punct : (c : ℕ) (j : Bool) (sp : Span) (r : Stream) → sees (at_literal Int) (punct c j sp r) ≡ false
integer_not_at_punct c j sp r = no_literal_seen (punct c j sp r) (no_literal_at_punct c j sp r)

no_literal_at_group : (d : Delimiter) (o c : Span) (i r : Stream) → take_token any_literal (group d o c i r) ≡ None
unfolding take_token
no_literal_at_group d o c i r = refl

pub integer_not_at_group : (d : Delimiter) (o c : Span) (i r : Stream) → sees (at_literal Int) (group d o c i r) ≡ false
integer_not_at_group d o c i r = no_literal_seen (group d o c i r) (no_literal_at_group d o c i r)
