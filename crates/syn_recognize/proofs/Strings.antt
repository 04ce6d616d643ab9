-- Where a string is next.
use Rattle.std.proofs.Common.{◌≡◌, ℕ, Bool, true, false, [], ◌∷◌, Some, None, refl, sym, ap, ◌∙◌}
use Rattle.syn_grammar.specs.Words.{Text}
use Rattle.syn_grammar.specs.Tokens.{Span, Delimiter, LitKind, Str, ByteStr, CStr, Byte, Char, Int, Float, ident, literal, Stream, end, leaf, punct, group, at_literal}
use Rattle.syn_grammar.specs.Grammar.{Syntax, any_literal, literal_of, Token}
use Rattle.syn_grammar.specs.Take.{Out, sees, take_token, taken, only}
use Rattle.syn_grammar.proofs.Looks.{sees_literal}
use Rattle.syn_tokens.specs.Literals.{kind_of}
use Rattle.syn_tokens.specs.declared.literal.LitKind.{LitKind as LiteralKind}
use Rattle.syn_tokens.specs.declared.literal.LitKind.TheVariants as Kind-v
use Rattle.syn_recognize.specs.Strings.{is_string}
use Rattle.syn_parse.proofs.FirstTokens.{no_literal_at_ident}
use Rattle.syn_parse.proofs.Words.{take_literal}

abbrev is_str : LitKind → Bool
is_str Str = true
is_str _ = false

-- the result of a literal, by its kind
abbrev again : Out → Out
again (Some (Token (literal k x) sp, r)) = only (is_str k) (Some (Token (literal k x) sp, r))
again _ = None

of_kind : (k : LitKind) (x : Text) (sp : Span) (r : Stream) → take_token (literal_of (Str ∷ [])) (leaf (literal k x) sp r) ≡ only (is_str k) (Some (Token (literal k x) sp, r))
unfolding take_token
of_kind Str x sp r = refl
of_kind ByteStr x sp r = refl
of_kind CStr x sp r = refl
of_kind Byte x sp r = refl
of_kind Char x sp r = refl
of_kind Int x sp r = refl
of_kind Float x sp r = refl

literal_taken : (ts : Stream) (k : LitKind) (x : Text) (sp : Span) (r : Stream) → take_token any_literal ts ≡ Some (Token (literal k x) sp, r) → take_token (literal_of (Str ∷ [])) ts ≡ only (is_str k) (Some (Token (literal k x) sp, r))
unfolding take_token
literal_taken end k x sp r e = absurd (cc e)
literal_taken (leaf (ident y) sq m) k x sp r e = absurd (cc (sym (no_literal_at_ident y sq m any_literal refl) ∙ e))
literal_taken (leaf (literal j y) sq m) k x sp r e = of_kind j y sq m ∙ ap again (sym (take_literal j y sq m) ∙ e)
literal_taken (punct c j sq m) k x sp r e = absurd (cc e)
literal_taken (group d o c i m) k x sp r e = absurd (cc e)

is_so : (k : LiteralKind) → is_str (kind_of k) ≡ is_string k
is_so Kind-v.Str = refl
is_so Kind-v.ByteStr = refl
is_so Kind-v.CStr = refl
is_so Kind-v.Byte = refl
is_so Kind-v.Char = refl
is_so Kind-v.Int = refl
is_so Kind-v.Float = refl

-- it is one, or another literal
pub string_taken : (ts : Stream) (k : LiteralKind) (x : Text) (sp : Span) (r : Stream) → take_token any_literal ts ≡ Some (Token (literal (kind_of k) x) sp, r) → is_string k ≡ true
    → take_token (literal_of (Str ∷ [])) ts ≡ Some (Token (literal (kind_of k) x) sp, r)
string_taken ts k x sp r e i = literal_taken ts (kind_of k) x sp r e ∙ ap (λ b. only b (Some (Token (literal (kind_of k) x) sp, r))) (is_so k ∙ i)

pub no_string_taken : (ts : Stream) (k : LiteralKind) (x : Text) (sp : Span) (r : Stream) → take_token any_literal ts ≡ Some (Token (literal (kind_of k) x) sp, r) → is_string k ≡ false
    → take_token (literal_of (Str ∷ [])) ts ≡ None
no_string_taken ts k x sp r e i = literal_taken ts (kind_of k) x sp r e ∙ ap (λ b. only b (Some (Token (literal (kind_of k) x) sp, r))) (is_so k ∙ i)

-- no literal is next
pub no_literal_taken : (ts : Stream) → take_token any_literal ts ≡ None → take_token (literal_of (Str ∷ [])) ts ≡ None
unfolding take_token
no_literal_taken end e = refl
no_literal_taken (leaf (ident y) sq m) e = no_literal_at_ident y sq m (literal_of (Str ∷ [])) refl
no_literal_taken (leaf (literal j y) sq m) e = absurd (cc (sym e ∙ take_literal j y sq m))
no_literal_taken (punct c j sq m) e = refl
no_literal_taken (group d o c i m) e = refl

-- WHETHER ONE IS NEXT
string_seen : (ts : Stream) (k : LiteralKind) (x : Text) (sp : Span) (r : Stream) → take_token any_literal ts ≡ Some (Token (literal (kind_of k) x) sp, r) → sees (at_literal Str) ts ≡ is_string k
string_seen ts k x sp r e = sees_literal Str ts ∙ ap taken (literal_taken ts (kind_of k) x sp r e) ∙ of_only (is_str (kind_of k)) ∙ is_so k
  where
    of_only : (b : Bool) → taken {A = Syntax × Stream} (only b (Some (Token (literal (kind_of k) x) sp, r))) ≡ b
    of_only true = refl
    of_only false = refl

no_string_seen : (ts : Stream) → take_token any_literal ts ≡ None → sees (at_literal Str) ts ≡ false
no_string_seen ts e = sees_literal Str ts ∙ ap taken (no_literal_taken ts e)

-- by the first token tree
pub string_next : (k : LiteralKind) (x : Text) (sp : Span) (r : Stream) → sees (at_literal Str) (leaf (literal (kind_of k) x) sp r) ≡ is_string k
string_next k x sp r = string_seen (leaf (literal (kind_of k) x) sp r) k x sp r (take_literal (kind_of k) x sp r)

no_literal_at_end : take_token any_literal end ≡ None
unfolding take_token
no_literal_at_end = refl

pub string_not_at_end : sees (at_literal Str) end ≡ false
string_not_at_end = no_string_seen end no_literal_at_end

pub string_not_at_ident : (x : Text) (sp : Span) (r : Stream) → sees (at_literal Str) (leaf (ident x) sp r) ≡ false
string_not_at_ident x sp r = no_string_seen (leaf (ident x) sp r) (no_literal_at_ident x sp r any_literal refl)

no_literal_at_punct : (c : ℕ) (j : Bool) (sp : Span) (r : Stream) → take_token any_literal (punct c j sp r) ≡ None
unfolding take_token
no_literal_at_punct c j sp r = refl

pub string_not_at_punct : (c : ℕ) (j : Bool) (sp : Span) (r : Stream) → sees (at_literal Str) (punct c j sp r) ≡ false
string_not_at_punct c j sp r = no_string_seen (punct c j sp r) (no_literal_at_punct c j sp r)

no_literal_at_group : (d : Delimiter) (o c : Span) (i r : Stream) → take_token any_literal (group d o c i r) ≡ None
unfolding take_token
no_literal_at_group d o c i r = refl

pub string_not_at_group : (d : Delimiter) (o c : Span) (i r : Stream) → sees (at_literal Str) (group d o c i r) ≡ false
string_not_at_group d o c i r = no_string_seen (group d o c i r) (no_literal_at_group d o c i r)
