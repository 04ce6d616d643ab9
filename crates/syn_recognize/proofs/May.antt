-- What the next token tree alone decides of lookaheads.
use Rattle.std.proofs.Common.{◌≡◌, ℕ, Bool, true, false, List, [], ◌∷◌, ◌++◌, nat_eq, refl, sym, ap, ap₂, ◌∙◌, subst, true≢false}
use Rattle.std.proofs.lemmas.Bool.{eqb-true}
use Rattle.syn_grammar.specs.Words.{Text, keywords, contextual, long_marks, lifetime_mark}
use Rattle.syn_grammar.specs.Tokens.{LitKind, Stream, end, leaf, ident, literal, punct, group, or, and, no, pick, same_text, one_of_texts, begins_text, starts_mark, longest, char_terminal, Terminal, Ended, Name, Word, Punctuation, Literal, Delimited, answers, lookahead, lookahead_with, Look, ended, at_name, at_word, at_mark, at_literal, at_group, at_empty_group, ahead, ◌or_else◌, ◌and_also◌, ◌but_not◌}
use Rattle.syn_grammar.specs.Tokens as grammar
use Rattle.syn_grammar.specs.Take.{sees, lookahead_at, taken}
use Rattle.syn_grammar.proofs.Looks.{sees_name}
use Rattle.syn_grammar.proofs.Sets.{same_text_eq, no_true, and_left, and_right}
use Rattle.syn_tokens.specs.Idents.{is_keyword}
use Rattle.syn_tokens.specs.Delimiters.{delimiter_of}
use Rattle.syn_parse.specs.Firsts.{Begins}
use Rattle.syn_parse.specs.declared.buffer.first.First.{First}
use Rattle.syn_parse.specs.declared.buffer.first.First.TheVariants as F
use Rattle.syn_recognize.specs.May.{sure, head_of, is_literal, is_mark, is_one, is_word, may, may_hold, settles}
use Rattle.syn_recognize.specs.Names.{look_of, mark_text}
use Rattle.syn_recognize.specs.declared.look.Look as look
use Rattle.syn_recognize.specs.declared.look.Look.TheVariants as Look-m
use Rattle.syn_parse.proofs.Words.{take_name}
use Rattle.syn_grammar.specs.Table.{at_any_literal}
use Rattle.syn_recognize.proofs.Known.{known_mark}

-- THE TERMINALS OF THE NEXT TOKEN

-- none of those that it may have passes the test
abbrev None : First → (Terminal → Bool) → Type 0
None F.Ended p = p Ended ≡ false
None F.Name p = (p Name ≡ false) × ((x : Text) → one_of_texts x keywords ≡ false → p (Word x) ≡ false)
None F.Keyword p = (x : Text) → one_of_texts x keywords ≡ true → p (Word x) ≡ false
None F.Literal p = (k : LitKind) → p (Literal k) ≡ false
None (F.Mark c) p = (l : Text) → p (Punctuation (c ∷ l)) ≡ false
None (F.Group d) p = (v : Bool) → p (Delimited (delimiter_of d) v) ≡ false

abbrev full_marks : List Text → Bool
full_marks [] = true
full_marks ([] ∷ l) = false
full_marks ((x ∷ m) ∷ l) = full_marks l

longest_head : (c : ℕ) (p : Terminal → Bool) → ((l : Text) → p (Punctuation (c ∷ l)) ≡ false) → (ms : List Text) (l : Text) → full_marks ms ≡ true → p (Punctuation (longest ms (c ∷ l) (c ∷ []))) ≡ false
longest_head c p h [] l w = h []
longest_head c p h ([] ∷ ms) l w = absurd (true≢false (sym w))
longest_head c p h ((x ∷ m) ∷ ms) l w = go (longest_head c p h ms l w) (and (nat_eq x c) (begins_text m l)) refl
  where
    go : p (Punctuation (longest ms (c ∷ l) (c ∷ []))) ≡ false → (v : Bool) → and (nat_eq x c) (begins_text m l) ≡ v → p (Punctuation (pick v (x ∷ m) (longest ms (c ∷ l) (c ∷ [])))) ≡ false
    go i true e = subst (λ d. p (Punctuation (d ∷ m)) ≡ false) (sym (eqb-true x c (and_left _ _ e))) (h m)
    go i false e = i

before_name : (c : ℕ) (p : Terminal → Bool) → ((l : Text) → p (Punctuation (c ∷ l)) ≡ false) → p (Punctuation (pick (nat_eq c 39) lifetime_mark (c ∷ []))) ≡ false
before_name c p h = go (nat_eq c 39) refl
  where
    go : (v : Bool) → nat_eq c 39 ≡ v → p (Punctuation (pick v lifetime_mark (c ∷ []))) ≡ false
    go true e = subst (λ d. p (Punctuation (d ∷ 97 ∷ [])) ≡ false) (eqb-true c 39 e) (h (97 ∷ []))
    go false e = h []

mark_head : (c : ℕ) (p : Terminal → Bool) → ((l : Text) → p (Punctuation (c ∷ l)) ≡ false) → (j : Bool) (t : Terminal) → p (char_terminal c j t) ≡ false
mark_head c p h false t = h []
mark_head c p h true (Punctuation l) = longest_head c p h long_marks l refl
mark_head c p h true Name = before_name c p h
mark_head c p h true (Word x) = before_name c p h
mark_head c p h true Ended = h []
mark_head c p h true (Literal k) = h []
mark_head c p h true (Delimited d v) = h []

listed : (x : Text) (l m : List Text) → one_of_texts x l ≡ true → one_of_texts x (l ++ m) ≡ true
listed x [] m e = absurd (true≢false (sym e))
listed x (y ∷ l) m e = go (listed x l m) (same_text x y) e
  where
    go : (one_of_texts x l ≡ true → one_of_texts x (l ++ m) ≡ true) → (b : Bool) → or b (one_of_texts x l) ≡ true → or b (one_of_texts x (l ++ m)) ≡ true
    go i true e = refl
    go i false e = i e

at_front : (f : First) (ts : Stream) (p : Terminal → Bool) → Begins f ts → None f p → p (lookahead ts).terminal ≡ false
unfolding is_keyword
at_front F.Ended end p b h = h
at_front F.Name (leaf (ident x) sp m) p b h = go (one_of_texts x (keywords ++ contextual))
  where
    go : (v : Bool) → p (pick v (Word x) Name) ≡ false
    go true = h.1 x b
    go false = h.0
at_front F.Keyword (leaf (ident x) sp m) p b h = ap (λ v. p (pick v (Word x) Name)) (listed x keywords contextual b) ∙ h x b
at_front F.Literal (leaf (literal k x) sp m) p b h = h k
at_front (F.Mark c) (punct d j sp m) p b h = subst (λ e. p (char_terminal e j (lookahead m).terminal) ≡ false) (sym b) (mark_head c p h j (lookahead m).terminal)
at_front (F.Group d) (group e o c i m) p b h = subst (λ g. p (Delimited g (grammar.holds_nothing g (lookahead i).terminal)) ≡ false) (sym b) (h _)
at_front f ts p b h = elim b [ ]

-- ONE LOOKAHEAD

no_ended : (f : First) → may ended f ≡ false → None f grammar.is_ended
no_ended F.Ended m = absurd (true≢false m)
no_ended F.Name m = (refl, λ x h. refl)
no_ended F.Keyword m = λ x h. refl
no_ended F.Literal m = λ k. refl
no_ended (F.Mark c) m = λ l. refl
no_ended (F.Group d) m = λ v. refl

abbrev none_known : List Text → Bool
none_known [] = true
none_known (w ∷ ws) = and (no (one_of_texts w keywords)) (none_known ws)

apart : (ws : List Text) (x : Text) → none_known ws ≡ true → one_of_texts x keywords ≡ true → one_of_texts x ws ≡ false
apart [] x n k = refl
apart (w ∷ ws) x n k = go (apart ws x (and_right (no (one_of_texts w keywords)) _ n) k) (same_text x w) refl
  where
    go : one_of_texts x ws ≡ false → (b : Bool) → same_text x w ≡ b → or b (one_of_texts x ws) ≡ false
    go i true s = absurd (true≢false (sym k ∙ ap (λ y. one_of_texts y keywords) (same_text_eq x w s) ∙ no_true (one_of_texts w keywords) (and_left _ _ n)))
    go i false s = i

no_contextual : none_known contextual ≡ true
no_contextual = refl

no_name : (f : First) → may at_name f ≡ false → None f grammar.is_name
no_name F.Ended m = refl
no_name F.Name m = absurd (true≢false m)
no_name F.Keyword m = λ x h. apart contextual x no_contextual h
no_name F.Literal m = λ k. refl
no_name (F.Mark c) m = λ l. refl
no_name (F.Group d) m = λ v. refl

-- a keyword's text isn't another's
other : (x y : Text) (a b : Bool) → one_of_texts x keywords ≡ a → one_of_texts y keywords ≡ b → (a ≡ b → ⊥) → same_text x y ≡ false
other x y a b p q n = go (same_text x y) refl
  where
    go : (v : Bool) → same_text x y ≡ v → v ≡ false
    go true s = absurd (n (sym p ∙ ap (λ z. one_of_texts z keywords) (same_text_eq x y s) ∙ q))
    go false s = refl

no_word : (w : Text) (f : First) → may (at_word w) f ≡ false → None f (grammar.is_word w)
no_word w F.Ended m = refl
no_word w F.Name m = (refl, λ x h. go (one_of_texts w keywords) refl m x h)
  where
    go : (a : Bool) → one_of_texts w keywords ≡ a → is_word a F.Name ≡ false → (x : Text) → one_of_texts x keywords ≡ false → same_text w x ≡ false
    go true e m x h = other w x true false e h true≢false
    go false e m x h = absurd (true≢false m)
no_word w F.Keyword m = λ x h. go (one_of_texts w keywords) refl m x h
  where
    go : (a : Bool) → one_of_texts w keywords ≡ a → is_word a F.Keyword ≡ false → (x : Text) → one_of_texts x keywords ≡ true → same_text w x ≡ false
    go true e m x h = absurd (true≢false m)
    go false e m x h = other w x false true e h (λ z. true≢false (sym z))
no_word w F.Literal m = λ k. refl
no_word w (F.Mark c) m = λ l. refl
no_word w (F.Group d) m = λ v. refl

no_mark : (x : Text) (f : First) → may (at_mark x) f ≡ false → None f (starts_mark x)
no_mark x F.Ended m = refl
no_mark x F.Name m = (refl, λ y h. refl)
no_mark x F.Keyword m = λ y h. refl
no_mark x F.Literal m = λ k. refl
no_mark [] (F.Mark c) m = absurd (true≢false m)
no_mark (e ∷ x) (F.Mark c) m = λ l. ap (λ z. and z (begins_text x l)) m
no_mark x (F.Group d) m = λ v. refl

no_literal : (k : LitKind) (f : First) → may (at_literal k) f ≡ false → None f (grammar.is_literal k)
no_literal k F.Ended m = refl
no_literal k F.Name m = (refl, λ x h. refl)
no_literal k F.Keyword m = λ x h. refl
no_literal k F.Literal m = absurd (true≢false m)
no_literal k (F.Mark c) m = λ l. refl
no_literal k (F.Group d) m = λ v. refl

no_group : (e : grammar.Delimiter) (f : First) → may (at_group e) f ≡ false → None f (grammar.is_group e)
no_group e F.Ended m = refl
no_group e F.Name m = (refl, λ x h. refl)
no_group e F.Keyword m = λ x h. refl
no_group e F.Literal m = λ k. refl
no_group e (F.Mark c) m = λ l. refl
no_group e (F.Group d) m = λ v. m

no_empty_group : (f : First) → may at_empty_group f ≡ false → None f grammar.is_empty_group
no_empty_group F.Ended m = refl
no_empty_group F.Name m = (refl, λ x h. refl)
no_empty_group F.Keyword m = λ x h. refl
no_empty_group F.Literal m = λ k. refl
no_empty_group (F.Mark c) m = λ l. refl
no_empty_group (F.Group d) m = absurd (true≢false m)

pub or_left : (a b : Bool) → or a b ≡ false → a ≡ false
or_left true b e = e
or_left false b e = refl

pub or_right : (a b : Bool) → or a b ≡ false → b ≡ false
or_right true b e = absurd (true≢false e)
or_right false b e = e

-- ANY LOOKAHEAD that the next token excludes doesn't hold
pub never : (c : Look) (f : First) (ts : Stream) → Begins f ts → may c f ≡ false → sees c ts ≡ false
unfolding sees lookahead_at
never ended f ts b m = at_front f ts grammar.is_ended b (no_ended f m)
never at_name f ts b m = at_front f ts grammar.is_name b (no_name f m)
never (at_word x) f ts b m = at_front f ts (grammar.is_word x) b (no_word x f m)
never (at_mark x) f ts b m = at_front f ts (starts_mark x) b (no_mark x f m)
never (at_literal k) f ts b m = at_front f ts (grammar.is_literal k) b (no_literal k f m)
never (at_group d) f ts b m = at_front f ts (grammar.is_group d) b (no_group d f m)
never at_empty_group f ts b m = at_front f ts grammar.is_empty_group b (no_empty_group f m)
never (ahead n) f ts b m = absurd (true≢false m)
never (c or_else d) f ts b m = ap₂ or (never c f ts b (or_left (may c f) (may d f) m)) (never d f ts b (or_right (may c f) (may d f) m))
never (c and_also d) f ts b m = ap (λ z. and z (sees d ts)) (never c f ts b m)
never (c but_not d) f ts b m = ap (λ z. and z (no (sees d ts))) (never c f ts b m)

-- LOOKAHEADS AS DATA

covers : (l : look.Look) (f : First) → may_hold l f ≡ false → may (look_of l) f ≡ false
covers Look-m.Ended f m = m
covers Look-m.Name f m = m
covers (Look-m.Word w) f m = m
covers (Look-m.Mark k) f m = ap (λ b. or b (is_mark (head_of (mark_text k)) f)) (known_mark k) ∙ m
covers (Look-m.Group d) f m = m
covers (Look-m.Or' p c q d) f m = ap₂ or (covers c f (or_left (may_hold c f) (may_hold d f) m)) (covers d f (or_right (may_hold c f) (may_hold d f) m))
covers (Look-m.But' p c q d) f m = covers c f m
covers Look-m.Integer f m = m
covers Look-m.AnyLiteral F.Literal m = absurd (true≢false m)
covers Look-m.AnyLiteral F.Ended m = refl
covers Look-m.AnyLiteral F.Name m = refl
covers Look-m.AnyLiteral F.Keyword m = refl
covers Look-m.AnyLiteral (F.Mark c) m = refl
covers Look-m.AnyLiteral (F.Group d) m = refl
covers Look-m.Lifetime f m = m
covers Look-m.InnerAttribute f m = m
covers Look-m.Arguments f m = m
covers Look-m.Association f m = m
covers Look-m.Turbofish f m = m
covers Look-m.PathWord F.Ended m = refl
covers Look-m.PathWord F.Name m = absurd (true≢false m)
covers Look-m.PathWord F.Keyword m = absurd (true≢false m)
covers Look-m.PathWord F.Literal m = refl
covers Look-m.PathWord (F.Mark c) m = refl
covers Look-m.PathWord (F.Group d) m = refl
covers Look-m.PatternPath F.Ended m = refl
covers Look-m.PatternPath F.Name m = absurd (true≢false m)
covers Look-m.PatternPath F.Keyword m = absurd (true≢false m)
covers Look-m.PatternPath F.Literal m = refl
covers Look-m.PatternPath (F.Mark c) m = m
covers Look-m.PatternPath (F.Group d) m = refl
covers Look-m.Macro F.Ended m = refl
covers Look-m.Macro F.Name m = absurd (true≢false m)
covers Look-m.Macro F.Keyword m = absurd (true≢false m)
covers Look-m.Macro F.Literal m = refl
covers Look-m.Macro (F.Mark c) m = m
covers Look-m.Macro (F.Group d) m = refl
covers Look-m.BraceMacro F.Ended m = refl
covers Look-m.BraceMacro F.Name m = absurd (true≢false m)
covers Look-m.BraceMacro F.Keyword m = absurd (true≢false m)
covers Look-m.BraceMacro F.Literal m = refl
covers Look-m.BraceMacro (F.Mark c) m = m
covers Look-m.BraceMacro (F.Group d) m = refl
covers Look-m.LoneCrate f m = m
covers Look-m.CrateMacro f m = m
covers Look-m.Bang f m = m
covers Look-m.PostfixMark f m = m
covers Look-m.BlockLike F.Ended m = refl
covers Look-m.BlockLike F.Name m = refl
covers Look-m.BlockLike F.Keyword m = absurd (true≢false m)
covers Look-m.BlockLike F.Literal m = refl
covers Look-m.BlockLike (F.Mark c) m = ap (λ b. or b false) (or_left _ _ m)
covers Look-m.BlockLike (F.Group d) m = ap (λ b. or b false) (or_left _ _ m)
covers Look-m.WholeExpression f m = absurd (true≢false m)
covers Look-m.Unfinished f m = m
covers Look-m.EmptyGroup f m = m
covers Look-m.Restriction f m = m
covers Look-m.NamelessFields f m = m
covers Look-m.ParameterEnd f m = m
covers Look-m.PredicateEnd f m = m
covers Look-m.Item F.Ended m = refl
covers Look-m.Item F.Name m = absurd (true≢false m)
covers Look-m.Item F.Keyword m = absurd (true≢false m)
covers Look-m.Item F.Literal m = refl
covers Look-m.Item (F.Mark c) m = m
covers Look-m.Item (F.Group d) m = refl
covers Look-m.Receiver F.Ended m = refl
covers Look-m.Receiver F.Name m = refl
covers Look-m.Receiver F.Keyword m = absurd (true≢false m)
covers Look-m.Receiver F.Literal m = refl
covers Look-m.Receiver (F.Mark c) m = m
covers Look-m.Receiver (F.Group d) m = refl
covers Look-m.Generics f m = m
covers Look-m.NoMacroItem f m = m
covers Look-m.StrLiteral f m = m
covers Look-m.BeforeColons f m = absurd (true≢false m)
covers Look-m.BeforeMacro f m = absurd (true≢false m)
covers Look-m.MarkedUnion f m = m
covers Look-m.MarkedAuto f m = m
covers Look-m.InRestriction f m = m
covers Look-m.LoneWord f m = m

pub look_not : (l : look.Look) (f : First) (ts : Stream) → Begins f ts → may_hold l f ≡ false → sees (look_of l) ts ≡ false
look_not l f ts b m = never (look_of l) f ts b (covers l f m)

-- WHAT HOLDS FOR SURE

no_false : (a : Bool) → no a ≡ false → a ≡ true
no_false true e = refl
no_false false e = absurd (true≢false e)

front_sure : (f : First) (ts : Stream) (p : Terminal → Bool) → Begins f ts → None f (λ t. no (p t)) → p (lookahead ts).terminal ≡ true
front_sure f ts p b h = no_false (p (lookahead ts).terminal) (at_front f ts (λ t. no (p t)) b h)

or_true : (a : Bool) → or a true ≡ true
or_true true = refl
or_true false = refl

or_sure : (a d x y : Bool) → (a ≡ true → x ≡ true) → (d ≡ true → y ≡ true) → or a d ≡ true → or x y ≡ true
or_sure true d x y h k m = ap (λ z. or z y) (h refl)
or_sure false d x y h k m = ap (or x) (k m) ∙ or_true x

not_so : {X : Type 0} → false ≡ true → X
not_so e = absurd (true≢false (sym e))

ended_sure : (f : First) → may ended f ≡ true → None f (λ t. no (grammar.is_ended t))
ended_sure F.Ended m = refl
ended_sure F.Name m = not_so m
ended_sure F.Keyword m = not_so m
ended_sure F.Literal m = not_so m
ended_sure (F.Mark c) m = not_so m
ended_sure (F.Group d) m = not_so m

name_sure : (f : First) (ts : Stream) → Begins f ts → may at_name f ≡ true → sees at_name ts ≡ true
name_sure F.Name (leaf (ident x) sp r) b m = sees_name (leaf (ident x) sp r) ∙ ap taken (take_name x sp r b)
name_sure F.Name (leaf (literal k x) sp r) b m = absurd b
name_sure F.Name end b m = absurd b
name_sure F.Name (punct c j sp r) b m = absurd b
name_sure F.Name (group d o c i r) b m = absurd b
name_sure F.Ended ts b m = not_so m
name_sure F.Keyword ts b m = not_so m
name_sure F.Literal ts b m = not_so m
name_sure (F.Mark c) ts b m = not_so m
name_sure (F.Group d) ts b m = not_so m

group_sure : (e : grammar.Delimiter) (f : First) → may (at_group e) f ≡ true → None f (λ t. no (grammar.is_group e t))
group_sure e (F.Group d) m = λ v. ap no m
group_sure e F.Ended m = not_so m
group_sure e F.Name m = not_so m
group_sure e F.Keyword m = not_so m
group_sure e F.Literal m = not_so m
group_sure e (F.Mark c) m = not_so m

-- ANY LOOKAHEAD that the next token confirms holds
pub surely : (c : Look) (f : First) (ts : Stream) → Begins f ts → sure c f ≡ true → sees c ts ≡ true
unfolding sees lookahead_at
surely ended f ts b m = front_sure f ts grammar.is_ended b (ended_sure f m)
surely at_name f ts b m = name_sure f ts b m
surely (at_group d) f ts b m = front_sure f ts (grammar.is_group d) b (group_sure d f m)
surely (c or_else d) f ts b m = or_sure (sure c f) (sure d f) (sees c ts) (sees d ts) (surely c f ts b) (surely d f ts b) m
surely c f ts b m = not_so m

any_literal : Terminal → Bool
any_literal t = answers at_any_literal (lookahead_with t [])

literal_sure : (f : First) → is_literal f ≡ true → None f (λ t. no (any_literal t))
unfolding any_literal
literal_sure F.Literal m = each
  where
    each : (k : LitKind) → no (any_literal (Literal k)) ≡ false
    each grammar.Str = refl
    each grammar.ByteStr = refl
    each grammar.CStr = refl
    each grammar.Byte = refl
    each grammar.Char = refl
    each grammar.Int = refl
    each grammar.Float = refl
literal_sure F.Ended m = not_so m
literal_sure F.Name m = not_so m
literal_sure F.Keyword m = not_so m
literal_sure (F.Mark c) m = not_so m
literal_sure (F.Group d) m = not_so m

mark_sure : (x : Text) (f : First) → is_one x ≡ true → is_mark (head_of x) f ≡ true → None f (λ t. no (starts_mark x t))
mark_sure (e ∷ []) (F.Mark c) o m = λ l. ap (λ z. no (and z true)) m
mark_sure x F.Ended o m = not_so m
mark_sure x F.Name o m = not_so m
mark_sure x F.Keyword o m = not_so m
mark_sure x F.Literal o m = not_so m
mark_sure x (F.Group d) o m = not_so m
mark_sure [] (F.Mark c) o m = not_so o
mark_sure (e ∷ g ∷ l) (F.Mark c) o m = not_so o

pub look_sure : (l : look.Look) (f : First) (ts : Stream) → Begins f ts → may_hold l f ≡ true → settles l ≡ true → sees (look_of l) ts ≡ true
unfolding sees lookahead_at any_literal
look_sure Look-m.Ended f ts b m t = front_sure f ts grammar.is_ended b (ended_sure f m)
look_sure Look-m.Name f ts b m t = name_sure f ts b m
look_sure Look-m.AnyLiteral f ts b m t = front_sure f ts any_literal b (literal_sure f m)
look_sure (Look-m.Group d) f ts b m t = front_sure f ts (grammar.is_group (delimiter_of d)) b (group_sure (delimiter_of d) f m)
look_sure (Look-m.Mark k) f ts b m t = front_sure f ts (starts_mark (mark_text k)) b (mark_sure (mark_text k) f t m)
look_sure l f ts b m t = not_so t
