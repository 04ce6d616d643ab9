-- The characters of a text, one after another.
use Rattle.std.proofs.Common.{◌≡◌, ℕ, true, false, ◌&&◌, List, [], ◌∷◌, ◌++◌, length, refl, sym, ap, ◌∙◌, arith}
use Rattle.std.specs.List.{list_all}
use Rattle.std.specs.Str.{chars, IsUtf8}
use Rattle.std.specs.Char.{encode_utf8}
use Rattle.std.proofs.lemmas.Str.{chars_past_char, IsUtf8-past_char, chars-nil}
use Rattle.unicode_ident.specs.Ident.{is_xid_continue}
use Rattle.syn_tokens.specs.Idents.{may_start, is_name}

-- the remaining characters decide the result
pub record LooksOn (text rest : List ℕ) : Type 0 where
  pub utf8 : IsUtf8 rest
  pub same : list_all is_xid_continue (chars rest) ≡ list_all is_xid_continue (chars text)

pub all_left : (text : List ℕ) → IsUtf8 text → LooksOn text text
all_left text u = record { utf8 = u; same = refl }

next_is : (rest next : List ℕ) (c : ℕ) → IsUtf8 rest → rest ≡ encode_utf8 c ++ next → list_all is_xid_continue (chars rest) ≡ (is_xid_continue c && list_all is_xid_continue (chars next))
next_is rest next c u e = ap (list_all is_xid_continue) (chars_past_char rest next c u e)

pub one_less : {text : List ℕ} (rest next : List ℕ) (c : ℕ) → LooksOn text rest → rest ≡ encode_utf8 c ++ next → is_xid_continue c ≡ true → LooksOn text next
one_less {text} rest next c h e t = record {
  utf8 = IsUtf8-past_char rest next c h.utf8 e;
  same = sym (next_is rest next c h.utf8 e ∙ ap (λ b. b && list_all is_xid_continue (chars next)) t) ∙ h.same;
}

pub it_stops : {text : List ℕ} (rest next : List ℕ) (c : ℕ) → LooksOn text rest → rest ≡ encode_utf8 c ++ next → is_xid_continue c ≡ false → false ≡ list_all is_xid_continue (chars text)
it_stops {text} rest next c h e t = sym (next_is rest next c h.utf8 e ∙ ap (λ b. b && list_all is_xid_continue (chars next)) t) ∙ h.same

empty : (rest : List ℕ) → length rest ≡ 0 → rest ≡ []
empty [] h = refl
empty (x ∷ l) h = absurd (omega arith)

pub it_ends : {text : List ℕ} (rest : List ℕ) → LooksOn text rest → length rest ≡ 0 → true ≡ list_all is_xid_continue (chars text)
it_ends {text} rest h e = sym (ap (λ l. list_all is_xid_continue (chars l)) (empty rest e) ∙ ap (list_all is_xid_continue) chars-nil) ∙ h.same

pub name_is : (text rest : List ℕ) (c : ℕ) → IsUtf8 text → text ≡ encode_utf8 c ++ rest → is_name (chars text) ≡ (may_start c && list_all is_xid_continue (chars rest))
unfolding is_name
name_is text rest c u e = ap is_name (chars_past_char text rest c u e)

pub no_name : (text : List ℕ) → length text ≡ 0 → is_name (chars text) ≡ false
unfolding is_name
no_name text e = ap (λ l. is_name (chars l)) (empty text e) ∙ ap is_name chars-nil
