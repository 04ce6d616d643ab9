-- A token that was seen is taken, and the tokens after it are those after the next tree.
use Rattle.std.proofs.Common.{◌≡◌, ℕ, Bool, true, false, [], ◌∷◌, nat_eq, Some, None, refl, sym, ap, ◌∙◌, true≢false}
use Rattle.std.proofs.lemmas.Bool.{eqb-true}
use Rattle.syn_grammar.specs.Words.{colons}
use Rattle.syn_grammar.specs.Tokens.{Stream, end, leaf, punct, group, at_path_word}
use Rattle.syn_grammar.specs.Grammar.{name_or, Syntax, Mark}
use Rattle.syn_grammar.specs.Take.{Out, sees, take_mark, take_token, taken, only, marked}
use Rattle.syn_grammar.specs.Table.{at_colons}
use Rattle.syn_grammar.proofs.Looks.{sees_mark}
use Rattle.syn_parse.specs.FirstTokens.{path_words}
use Rattle.syn_parse.specs.Peeks.{past, past_mark}
use Rattle.syn_recognize.proofs.PathLooks.{Begins, Colons, begins_after, colons_left, word_left, word_read}

-- a mark of one character, other than `'`
no_quote : (n c : ℕ) → nat_eq n 39 ≡ false → nat_eq c n ≡ true → nat_eq c 39 ≡ false
no_quote n c q e = ap (λ z. nat_eq z 39) (eqb-true c n e) ∙ q

after_mark : (c : ℕ) (j : Bool) (m : Stream) → nat_eq c 39 ≡ false → past_mark c j m ≡ m
after_mark c true m q = rw q refl
after_mark c false m q = refl

pub mark_passed : (n : ℕ) → nat_eq n 39 ≡ false → (ts : Stream) → taken (take_mark (n ∷ []) ts) ≡ true → (s : Syntax) × (take_mark (n ∷ []) ts ≡ Some (s, past ts))
unfolding take_mark
mark_passed n q end t = absurd (true≢false (sym t))
mark_passed n q (leaf x sp m) t = absurd (true≢false (sym t))
mark_passed n q (group d o c i m) t = absurd (true≢false (sym t))
mark_passed n q (punct c j sp m) t = go (nat_eq c n) refl t
  where
    go : (b : Bool) → nat_eq c n ≡ b → taken (marked (only b (Some ((c, sp) ∷ [], m)))) ≡ true → (s : Syntax) × (marked (only b (Some ((c, sp) ∷ [], m))) ≡ Some (s, past_mark c j m))
    go true e t = (Mark ((c, sp) ∷ []), ap (λ z. Some (Mark ((c, sp) ∷ []), z)) (sym (after_mark c j m (no_quote n c q e))))
    go false e t = absurd (true≢false (sym t))

-- `::`
pub colons_passed : (ts : Stream) → sees at_colons ts ≡ true → (s : Syntax) × (take_mark colons ts ≡ Some (s, past (past ts)))
colons_passed ts h = go (take_mark colons ts) refl (sym (sees_mark colons refl ts) ∙ h)
  where
    following : (m : Stream) → Colons ts m → m ≡ past (past ts)
    following m (sp, j, sq, e) = sym (ap (λ z. past (past z)) e ∙ after_mark 58 j m refl)

    go : (o : Out) → take_mark colons ts ≡ o → taken o ≡ true → (s : Syntax) × (take_mark colons ts ≡ Some (s, past (past ts)))
    go (Some p) e t = (p.0, e ∙ ap (λ z. Some (p.0, z)) (following p.1 (colons_left ts p.0 p.1 e)))
    go None e t = absurd (true≢false (sym t))

pub begins_past : (ts : Stream) → sees at_colons ts ≡ true → Begins ts (past (past ts))
begins_past ts h = let p = colons_passed ts h in begins_after ts p.0 (past (past ts)) h p.1

-- a word of a path
pub word_passed : (ts : Stream) → sees at_path_word ts ≡ true → (s : Syntax) × (take_token (name_or path_words) ts ≡ Some (s, past ts))
word_passed ts h = go (take_token (name_or path_words) ts) refl
  where
    go : (o : Out) → take_token (name_or path_words) ts ≡ o → (s : Syntax) × (take_token (name_or path_words) ts ≡ Some (s, past ts))
    go (Some p) e = (p.0, e ∙ ap (λ z. Some (p.0, z)) (sym (word_left (name_or path_words) ts p.0 p.1 e)))
    go None e = absurd (word_read ts h e)
