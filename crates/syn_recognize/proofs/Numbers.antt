-- Which literals are the number of a field.
use Rattle.std.proofs.Common.{◌≡◌, ℕ, ◌<◌, ◌≤◌, ◌^◌, ◌⊎◌, inl, inr, Bool, true, false, decimal, [], ◌∷◌, Option, Some, None, Result, Ok, Err, refl, sym, ap, ◌∙◌, length, get_or, arith, nat_eq, nat_le, true≢false, slice_get}
use Rattle.std.specs.Str.Parse.{ParsesUnsigned}
use Rattle.std.specs.Result.{OkIff, result_ok}
use Rattle.std.proofs.lemmas.Bool.{eq-eqb, leb-true, le-leb, ne_eqb}
use Rattle.std.proofs.lemmas.Fmt.{decimal-digits_value}
use Rattle.std.proofs.lemmas.Str.Parse.{IsNumeralModel, IsDigitsTest, numerals_by_fold, parse_plain}
use Rattle.syn_grammar.specs.Words.{Text}
use Rattle.syn_grammar.specs.Tokens.{Span, LitKind, kind_number, ident, literal, Stream, end, leaf, punct, group, and, or, no}
use Rattle.syn_grammar.specs.Grammar.{any_literal, index, is_digit, all_digits, number_after, leads_well, is_index, Token}
use Rattle.syn_grammar.specs.Take.{Out, only, take_token}
use Rattle.syn_grammar.proofs.Sets.{and_left, and_right}
use Rattle.syn_tokens.specs.Literals.{kind_of}
use Rattle.syn_tokens.specs.declared.literal.LitKind.{LitKind as LiteralKind}
use Rattle.syn_tokens.specs.declared.literal.LitKind.TheVariants as Kind-v
use Rattle.syn_parse.proofs.FirstTokens.{no_literal_at_ident}
use Rattle.syn_parse.proofs.Words.{take_literal}
use Rattle.syn_recognize.specs.FieldNumbers.{IsFieldNumber}

-- both hold, or one doesn't
both_true : (a b : Bool) → a ≡ true → b ≡ true → and a b ≡ true
both_true true b p q = q
both_true false b p q = absurd (true≢false (sym p))

not_true : (b : Bool) → (b ≡ true → ⊥) → b ≡ false
not_true true n = absurd (n refl)
not_true false n = refl

-- the grammar's words for numerals say what std's do
settles_all_digits : IsDigitsTest (λ ds. all_digits ds ≡ true)
settles_all_digits = record {
  empty = refl;
  parts = λ c cs e. let k = and_left (is_digit c) _ e in ((leb-true 48 c (and_left (nat_le 48 c) _ k), leb-true c 57 (and_right (nat_le 48 c) _ k)), and_right (is_digit c) _ e);
  more = λ c cs k e. both_true (is_digit c) (all_digits cs) (both_true (nat_le 48 c) (nat_le c 57) (le-leb 48 c k.0) (le-leb c 57 k.1)) e;
}

own : IsNumeralModel (λ ds. all_digits ds ≡ true) (number_after 0)
own = numerals_by_fold _ settles_all_digits number_after (record { empty = λ n. refl; more = λ n c cs k. refl })

-- no zero leads but `0` itself
leading : (x : Text) → leads_well x ≡ true → get_or x 0 0 ≡ 48 → length x ≡ 1
leading [] w e = absurd (cc w)
leading (c ∷ []) w e = refl
leading (c ∷ d ∷ l) w e = absurd (true≢false (sym w ∙ ap no (eq-eqb c 48 e)))

leads : (x : Text) → 0 < length x → (get_or x 0 0 ≡ 48 → length x ≡ 1) → leads_well x ≡ true
leads [] some h = absurd (omega arith)
leads (c ∷ []) some h = refl
leads (c ∷ d ∷ l) some h = ap no (ne_eqb c 48 (λ e. omega (arith, h e)))

-- a text is read as the number of a field where it begins with no plus, and with no zero but `0` itself
pub number_read : {E : Type 0} (x : Text) (c : ℕ) (r : Result ℕ E) → ParsesUnsigned 32 10 x r → slice_get x 0 ≡ Some c → (c ≡ 43 → ⊥) → ((c ≡ 48) × (length x ≤ 1)) ⊎ (c ≡ 48 → ⊥) → IsFieldNumber x (result_ok r)
number_read [] c r h s plus zeros = absurd (cc s)
number_read {E} (d ∷ l) c r h s plus zeros = go r (parse_plain own 32 (d ∷ l) r h (λ e. plus (sym is ∙ e)))
  where
    some_of : Option ℕ → ℕ
    some_of (Some n) = n
    some_of None = 0

    is : d ≡ c
    is = ap some_of s

    lone : ((c ≡ 48) × (length (d ∷ l) ≤ 1)) ⊎ (c ≡ 48 → ⊥) → d ≡ 48 → length (d ∷ l) ≡ 1
    lone (inl (e, k)) z = omega (arith, k)
    lone (inr n) z = absurd (n (sym is ∙ z))

    reported : is_index (d ∷ l) ≡ true → (all_digits (d ∷ l) ≡ true) × (0 < length (d ∷ l)) × (number_after 0 (d ∷ l) < 2 ^ 32)
    reported i =
        let k = leb-true (number_after 0 (d ∷ l)) 4294967295 (and_right (leads_well (d ∷ l)) _ (and_right (all_digits (d ∷ l)) _ i)) in
        (and_left (all_digits (d ∷ l)) _ i, omega arith, omega (arith, k))

    go : (r : Result ℕ E) → OkIff r ((all_digits (d ∷ l) ≡ true) × (0 < length (d ∷ l)) × (number_after 0 (d ∷ l) < 2 ^ 32)) (number_after 0 (d ∷ l)) → IsFieldNumber (d ∷ l) (result_ok r)
    go (Ok n) ((h, some, k), e) = (
      both_true (all_digits (d ∷ l)) _ h (both_true (leads_well (d ∷ l)) _ (leads (d ∷ l) some (lone zeros)) (le-leb (number_after 0 (d ∷ l)) 4294967295 (omega (arith, k)))),
      ap decimal e ∙ decimal-digits_value own (d ∷ l) h some (lone zeros) (omega (arith, k)),
    )
    go (Err e) n = not_true (is_index (d ∷ l)) (λ i. n (reported i))

-- no text that begins otherwise is a field's number
pub no_number : (x : Text) (c : ℕ) → slice_get x 0 ≡ Some c → (c ≡ 43) ⊎ ((c ≡ 48) × (1 < length x)) → is_index x ≡ false
no_number [] c s h = absurd (cc s)
no_number (d ∷ l) c s h = not_true (is_index (d ∷ l)) (λ i. go i h)
  where
    some_of : Option ℕ → ℕ
    some_of (Some n) = n
    some_of None = 0

    is : d ≡ c
    is = ap some_of s

    go : is_index (d ∷ l) ≡ true → (c ≡ 43) ⊎ ((c ≡ 48) × (1 < length (d ∷ l))) → ⊥
    go i (inl e) = let k = (settles_all_digits.parts d l (and_left (all_digits (d ∷ l)) _ i)).0 in omega (arith, is, e, k)
    go i (inr (e, k)) = omega (arith, k, leading (d ∷ l) (and_left (leads_well (d ∷ l)) _ (and_right (all_digits (d ∷ l)) _ i)) (is ∙ e))

-- TOKENS: a literal is the number of a field where it is an integer with such a text

-- the result where the literal is no such integer
abbrev if_index : LitKind → Text → Out → Out
if_index k x o = only (and (is_index x) (or (nat_eq (kind_number k) 5) false)) o

-- the result of a literal, by its kind
abbrev again : Out → Out
again (Some (Token (literal k x) sp, r)) = if_index k x (Some (Token (literal k x) sp, r))
again _ = None

literal_taken : (ts : Stream) (k : LitKind) (x : Text) (sp : Span) (r : Stream) → take_token any_literal ts ≡ Some (Token (literal k x) sp, r) → take_token index ts ≡ if_index k x (Some (Token (literal k x) sp, r))
unfolding take_token
literal_taken end k x sp r e = absurd (cc e)
literal_taken (leaf (ident y) sq m) k x sp r e = absurd (cc (sym (no_literal_at_ident y sq m any_literal refl) ∙ e))
literal_taken (leaf (literal j y) sq m) k x sp r e = ap again (sym (take_literal j y sq m) ∙ e)
literal_taken (punct c j sq m) k x sp r e = absurd (cc e)
literal_taken (group d o c i m) k x sp r e = absurd (cc e)

-- it is one
pub index_taken : (ts : Stream) (k : LiteralKind) (x : Text) (sp : Span) (r : Stream) → take_token any_literal ts ≡ Some (Token (literal (kind_of k) x) sp, r) → k ≡ Kind-v.Int → is_index x ≡ true
    → take_token index ts ≡ Some (Token (literal (kind_of k) x) sp, r)
index_taken ts k x sp r e is i =
    literal_taken ts (kind_of k) x sp r e ∙ ap (λ j. only (and (is_index x) (or (nat_eq (kind_number (kind_of j)) 5) false)) (Some (Token (literal (kind_of k) x) sp, r))) is
    ∙ ap (λ b. only (and b true) (Some (Token (literal (kind_of k) x) sp, r))) i

-- it is an integer with another text
pub no_index_taken : (ts : Stream) (k : LiteralKind) (x : Text) (sp : Span) (r : Stream) → take_token any_literal ts ≡ Some (Token (literal (kind_of k) x) sp, r) → is_index x ≡ false → take_token index ts ≡ None
no_index_taken ts k x sp r e i = literal_taken ts (kind_of k) x sp r e ∙ ap (λ b. only (and b (or (nat_eq (kind_number (kind_of k)) 5) false)) (Some (Token (literal (kind_of k) x) sp, r))) i

-- it is no integer
pub no_integer_taken : (ts : Stream) (k : LiteralKind) (x : Text) (sp : Span) (r : Stream) → take_token any_literal ts ≡ Some (Token (literal (kind_of k) x) sp, r) → (k ≡ Kind-v.Int → ⊥) → take_token index ts ≡ None
no_integer_taken ts k x sp r e n = literal_taken ts (kind_of k) x sp r e ∙ go k n
  where
    never : (b : Bool) (p : Out) → only (and b false) p ≡ None
    never true p = refl
    never false p = refl

    go : (k : LiteralKind) → (k ≡ Kind-v.Int → ⊥) → if_index (kind_of k) x (Some (Token (literal (kind_of k) x) sp, r)) ≡ None
    go Kind-v.Str n = never (is_index x) _
    go Kind-v.ByteStr n = never (is_index x) _
    go Kind-v.CStr n = never (is_index x) _
    go Kind-v.Byte n = never (is_index x) _
    go Kind-v.Char n = never (is_index x) _
    go Kind-v.Int n = absurd (n refl)
    go Kind-v.Float n = never (is_index x) _

-- no literal is next
pub no_literal_taken : (ts : Stream) → take_token any_literal ts ≡ None → take_token index ts ≡ None
unfolding take_token
no_literal_taken end e = refl
no_literal_taken (leaf (ident y) sq m) e = no_literal_at_ident y sq m index refl
no_literal_taken (leaf (literal j y) sq m) e = absurd (cc (sym e ∙ take_literal j y sq m))
no_literal_taken (punct c j sq m) e = refl
no_literal_taken (group d o c i m) e = refl
