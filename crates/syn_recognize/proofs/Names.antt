-- Identifiers that are no keywords, or some keywords.
use Rattle.std.proofs.Common.{◌≡◌, true, false, List, Some, None, refl, sym, ap, ◌∙◌, subst}
use Rattle.syn_grammar.specs.Words.{Text}
use Rattle.syn_grammar.specs.Tokens.{Span, Stream, end, leaf, punct, group, ident, literal, or, no, one_of_texts}
use Rattle.syn_grammar.specs.Grammar.{Syntax, identifier, name_or, Token}
use Rattle.syn_grammar.specs.Take.{Out, take_token}
use Rattle.syn_tokens.specs.Idents.{is_keyword}
use Rattle.syn_parse.proofs.Words.{take_identifier, take_name_or, take_no_name_or}
use Rattle.syn_parse.proofs.FirstTokens.{no_ident_at_literal}

leaf_from : Syntax → Stream → Stream
leaf_from (Token x sp) r = leaf x sp r
leaf_from s r = end

as_leaf : Out → Stream
as_leaf (Some p) = leaf_from p.0 p.1
as_leaf None = end

same : (y x : Text) (sq sp : Span) (m r : Stream) → ◌≡◌ {A = Out} (Some (Token (ident y) sq, m)) (Some (Token (ident x) sp, r)) → leaf (ident y) sq m ≡ leaf (ident x) sp r
unfolding as_leaf leaf_from
same y x sq sp m r d = ap as_leaf d

some_none : (x : Syntax × Stream) → ◌≡◌ {A = Out} (Some x) None → ⊥
some_none x d = cc d

leaf_of : (ts r : Stream) (x : Text) (sp : Span) → take_token identifier ts ≡ Some (Token (ident x) sp, r) → ts ≡ leaf (ident x) sp r
unfolding take_token
leaf_of end r x sp e = absurd (cc e)
leaf_of (leaf (ident y) sq m) r x sp e = same y x sq sp m r (sym (take_identifier y sq m) ∙ e)
leaf_of (leaf (literal k y) sq m) r x sp e = absurd (cc e)
leaf_of (punct c j sq m) r x sp e = absurd (cc e)
leaf_of (group d o c i m) r x sp e = absurd (cc e)

pub no_name_or : (l : List Text) (ts : Stream) → take_token identifier ts ≡ None → take_token (name_or l) ts ≡ None
unfolding take_token
no_name_or l end e = refl
no_name_or l (leaf (ident y) sq m) e = absurd (some_none _ (sym (take_identifier y sq m) ∙ e))
no_name_or l (leaf (literal k y) sq m) e = no_ident_at_literal k y sq m (name_or l) refl
no_name_or l (punct c j sq m) e = refl
no_name_or l (group d o c i m) e = refl

pub name_or_read : (l : List Text) (ts r : Stream) (x : Text) (sp : Span) → take_token identifier ts ≡ Some (Token (ident x) sp, r) → or (no (is_keyword x)) (one_of_texts x l) ≡ true → take_token (name_or l) ts ≡ Some (Token (ident x) sp, r)
name_or_read l ts r x sp e h = subst (λ t. take_token (name_or l) t ≡ Some (Token (ident x) sp, r)) (sym (leaf_of ts r x sp e)) (take_name_or l x sp r h)

pub name_or_refused : (l : List Text) (ts r : Stream) (x : Text) (sp : Span) → take_token identifier ts ≡ Some (Token (ident x) sp, r) → or (no (is_keyword x)) (one_of_texts x l) ≡ false → take_token (name_or l) ts ≡ None
name_or_refused l ts r x sp e h = subst (λ t. take_token (name_or l) t ≡ None) (sym (leaf_of ts r x sp e)) (take_no_name_or l x sp r h)
