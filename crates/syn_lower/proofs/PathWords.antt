-- The words of a path in a type: whether arguments may follow one is known before it is read.
use Rattle.std.proofs.Common.{◌≡◌, Bool, true, false, List, [], ◌∷◌, Some, refl, sym, ap, ap₂, ◌∙◌, true≢false}
use Rattle.syn_grammar.specs.Words.{Text, w_crate, w_Self_type, w_self, w_super}
use Rattle.syn_grammar.specs.Tokens.{Span, Stream, end, leaf, punct, group, ident, literal, or, no, same_text, at_name, at_word}
use Rattle.syn_grammar.specs.Grammar.{name, word, name_or, fits, Syntax, Token}
use Rattle.syn_grammar.specs.Take.{Out, only, sees, take_token, taken}
use Rattle.syn_grammar.specs.Table.{at_named_word}
use Rattle.syn_grammar.proofs.Looks.{sees_name, sees_or, sees_word}
use Rattle.syn_tokens.specs.Idents.{is_keyword}
use Rattle.syn_tokens.specs.Leaves.{is_known_word}
use Rattle.syn_parse.specs.FirstTokens.{path_words}
use Rattle.syn_parse.proofs.Words.{fits_name, fits_name_or, fits_word}

known : is_known_word w_Self_type ≡ true
unfolding is_known_word
known = refl

abbrev is_named : Text → Bool
is_named x = or (no (is_keyword x)) (same_text x w_Self_type)

-- an identifier that is no keyword, or `Self`, is next
named_seen : (x : Text) (sp : Span) (r : Stream) → sees at_named_word (leaf (ident x) sp r) ≡ is_named x
unfolding take_token
named_seen x sp r =
    sees_or at_name (at_word w_Self_type) (leaf (ident x) sp r)
    ∙ ap₂ or
    (sees_name (leaf (ident x) sp r) ∙ only_taken (fits name (ident x)) ∙ fits_name x)
    (sees_word w_Self_type (leaf (ident x) sp r) ∙ only_taken (fits (word w_Self_type) (ident x)) ∙ fits_word w_Self_type x known)
  where
    only_taken : (b : Bool) → taken {A = Syntax × Stream} (only b (Some (Token (ident x) sp, r))) ≡ b
    only_taken true = refl
    only_taken false = refl

-- of these flags: no keyword, `self`, `Self`, `super`, `crate`
where_named : (n a s b c : Bool) → or n s ≡ true → or n (or a (or s (or b (or c false)))) ≡ or n (or s false)
where_named true a s b c e = refl
where_named false true true b c e = refl
where_named false false true b c e = refl
where_named false a false b c e = absurd (true≢false (sym e))

where_not : (n a s b c : Bool) → or n s ≡ false → or n (or a (or s (or b (or c false)))) ≡ or n (or a (or b (or c false)))
where_not true a s b c e = absurd (true≢false e)
where_not false a true b c e = absurd (true≢false e)
where_not false a false b c e = refl

abbrev only_word : Text → Span → Stream → Bool → Out
only_word x sp r b = only b (Some (Token (ident x) sp, r))

-- if such a word is next, no other keyword of paths is
pub named_word : (ts : Stream) → sees at_named_word ts ≡ true → take_token (name_or path_words) ts ≡ take_token (name_or (w_Self_type ∷ [])) ts
unfolding take_token
named_word end e = refl
named_word (leaf (ident x) sp r) e =
    ap (only_word x sp r) (fits_name_or path_words x
    ∙ where_named (no (is_keyword x)) (same_text x w_self) (same_text x w_Self_type) (same_text x w_super) (same_text x w_crate) (sym (named_seen x sp r) ∙ e)
    ∙ sym (fits_name_or (w_Self_type ∷ []) x))
named_word (leaf (literal k x) sp r) e = refl
named_word (punct c j sp m) e = refl
named_word (group d o c i m) e = refl

-- where none does, `self`, `super` and `crate` are left
pub other_word : (ts : Stream) → sees at_named_word ts ≡ false → take_token (name_or path_words) ts ≡ take_token (name_or (w_self ∷ w_super ∷ w_crate ∷ [])) ts
unfolding take_token
other_word end e = refl
other_word (leaf (ident x) sp r) e =
    ap (only_word x sp r) (fits_name_or path_words x
    ∙ where_not (no (is_keyword x)) (same_text x w_self) (same_text x w_Self_type) (same_text x w_super) (same_text x w_crate) (sym (named_seen x sp r) ∙ e)
    ∙ sym (fits_name_or (w_self ∷ w_super ∷ w_crate ∷ []) x))
other_word (leaf (literal k x) sp r) e = refl
other_word (punct c j sp m) e = refl
other_word (group d o c i m) e = refl
