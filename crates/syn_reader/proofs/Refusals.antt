-- Refusals of texts.
use Rattle.std.proofs.Common.{◌≡◌, ℕ, List, [], ◌∷◌, ◌++◌, length, refl, sym, ap, ◌∙◌, subst, append_assoc, append-nil}
use Rattle.syn_grammar.specs.Tokens.{Span, Stream, end, leaf, punct, group}
use Rattle.syn_tokens.specs.Spans.{at}
use Rattle.syn_tokens.specs.Delimiters.{delimiter_of}
use Rattle.syn_tokens.specs.Faults.{FaultValue, ErrorValue, syntax_error, too_deep, out_of_memory}
use Rattle.syn_tokens.specs.declared.delimiter.Delimiter.{Delimiter}
use Rattle.syn_tokens.specs.declared.delimiter.Delimiter.TheVariants as D
use Rattle.syn_tokens.specs.declared.span.Span.{Span as TokenSpan}
use Rattle.syn_tokens.specs.Building.{OpenGroup, Building, NotOpen, IsUnbalanced}
use Rattle.syn_reader.specs.declared.reader.trees.TreeBuilder.{TreeBuilder}
use Rattle.syn_reader.specs.Flat.{Token, opened, closed, flat}
use Rattle.syn_reader.specs.Spelling.{closing, IsBlank, IsPieceAt, IsFaultWithin}
use Rattle.syn_reader.specs.Building.{tokens_around, Builds, IsOutermost}
use Rattle.syn_reader.specs.Refusals.{Opening, Leaves, IsReadTo, Flaw, unexpected, open_literal, open_comment, stray_closing, open_group, IsLexicalFlaw, FollowsAsFault, NotInnermost, IsFlaw, IsRefusal}
use Rattle.syn_reader.proofs.Spelling.{cut_blank}

-- THE OPEN GROUPS

-- a stream closes what it opens
leaves_flat : (s : Stream) (ts : List Token) (around after : List Opening) → Leaves ts around after → Leaves (flat s ++ ts) around after
leaves_flat end ts around after h = h
leaves_flat (leaf x p m) ts around after h = leaves_flat m ts around after h
leaves_flat (punct c j p m) ts around after h = leaves_flat m ts around after h
leaves_flat (group d o c i m) ts around after h =
    subst (λ (l : List Token). Leaves l ((d, o) ∷ around) after) (sym (append_assoc (flat i) (closed d c ∷ flat m) ts))
    (leaves_flat i (closed d c ∷ (flat m ++ ts)) ((d, o) ∷ around) after (refl, leaves_flat m ts around after h))

-- the opening delimiters of these groups, the innermost first, before those of the groups around them
abbrev pub signs : List OpenGroup → List Opening → List Opening
signs [] around = around
signs (g ∷ gs) around = signs gs ((delimiter_of g.delimiter, at g.opening) ∷ around)

leaves_around : (gs : List OpenGroup) (s : Stream) (around : List Opening) → Leaves (tokens_around gs ++ flat s) around (signs gs around)
leaves_around [] s around =
    subst (λ (l : List Token). Leaves l around around) (append-nil (flat s)) (leaves_flat s [] around around refl)
leaves_around (g ∷ gs) s around =
    subst (λ (l : List Token). Leaves l around (signs (g ∷ gs) around))
    (sym (append_assoc (flat g.outer) (opened (delimiter_of g.delimiter) (at g.opening) ∷ tokens_around gs) (flat s)))
    (leaves_flat g.outer (opened (delimiter_of g.delimiter) (at g.opening) ∷ (tokens_around gs ++ flat s)) around (signs (g ∷ gs) around)
    (leaves_around gs s ((delimiter_of g.delimiter, at g.opening) ∷ around)))

-- the tokens that were built so far are those that were read
pub builds_read : (text : List ℕ) (b : TreeBuilder) (i : ℕ) → Builds text b i → IsReadTo text i (signs b.inner.open_groups [])
builds_read text b i (pieces, cut, same, within) =
    (pieces, cut, subst (λ (l : List Token). Leaves l [] (signs b.inner.open_groups [])) same (leaves_around b.inner.open_groups b.inner.stream []))

pub read_blank : (text : List ℕ) (i j : ℕ) (around : List Opening) → IsReadTo text i around → IsBlank text i j → IsReadTo text j around
read_blank text i j around (pieces, cut, leaves) blank = (pieces, cut_blank text 0 pieces i j cut blank, leaves)

-- the outermost is the last
signs_outside : (gs : List OpenGroup) (around : List Opening) → signs gs around ≡ signs gs [] ++ around
signs_outside [] around = refl
signs_outside (g ∷ gs) around =
    let o : Opening = (delimiter_of g.delimiter, at g.opening) in
    signs_outside gs (o ∷ around) ∙ (sym (append_assoc (signs gs []) (o ∷ []) around) ∙ ap (λ l. l ++ around) (sym (signs_outside gs (o ∷ []))))

-- and the innermost the first
signs_inside : (gs : List OpenGroup) (g : OpenGroup) (around : List Opening) → signs (gs ++ g ∷ []) around ≡ (delimiter_of g.delimiter, at g.opening) ∷ signs gs around
signs_inside [] g around = refl
signs_inside (x ∷ gs) g around = signs_inside gs g ((delimiter_of x.delimiter, at x.opening) ∷ around)

-- the last of some groups
data Last (gs : List OpenGroup) : Type 0 where
  nothing : gs ≡ [] → Last gs
  innermost : (before : List OpenGroup) (g : OpenGroup) → gs ≡ before ++ g ∷ [] → Last gs

last_more : (x : OpenGroup) (gs : List OpenGroup) → Last gs → Last (x ∷ gs)
last_more x gs (nothing e) = innermost [] x (ap (λ l. x ∷ l) e)
last_more x gs (innermost before g e) = innermost (x ∷ before) g (ap (λ l. x ∷ l) e)

last_of : (gs : List OpenGroup) → Last gs
last_of [] = nothing refl
last_of (g ∷ gs) = last_more g gs (last_of gs)

delimiter_same : (d e : Delimiter) → delimiter_of d ≡ delimiter_of e → d ≡ e
delimiter_same D.Paren D.Paren h = refl
delimiter_same D.Brace D.Brace h = refl
delimiter_same D.Bracket D.Bracket h = refl
delimiter_same D.None D.None h = refl
delimiter_same D.Paren D.Brace h = cc
delimiter_same D.Paren D.Bracket h = cc
delimiter_same D.Paren D.None h = cc
delimiter_same D.Brace D.Paren h = cc
delimiter_same D.Brace D.Bracket h = cc
delimiter_same D.Brace D.None h = cc
delimiter_same D.Bracket D.Paren h = cc
delimiter_same D.Bracket D.Brace h = cc
delimiter_same D.Bracket D.None h = cc
delimiter_same D.None D.Paren h = cc
delimiter_same D.None D.Brace h = cc
delimiter_same D.None D.Bracket h = cc

not_last : (d : Delimiter) (b : Building) → NotOpen d b → Last b.open_groups → NotInnermost (delimiter_of d) (signs b.open_groups [])
not_last d b h (nothing e) = subst (λ gs. NotInnermost (delimiter_of d) (signs gs [])) (sym e) tt
not_last d b h (innermost before g e) =
    subst (λ gs. NotInnermost (delimiter_of d) (signs gs [])) (sym e)
    (subst (λ (l : List Opening). NotInnermost (delimiter_of d) l) (sym (signs_inside before g [])) (λ same. h before g e (delimiter_same g.delimiter d same)))

-- REFUSALS

-- no piece starts after the tokens that were built so far
pub lexical_refusal : (text : List ℕ) (b : TreeBuilder) (i : ℕ) (e : List FaultValue) → Builds text b i → FollowsAsFault text i e → IsRefusal text (syntax_error e)
lexical_refusal text b i [] builds h = absurd h
lexical_refusal text b i (f ∷ []) builds (blank, (starts, some, inside, (flaw, words, is))) =
    let read = read_blank text i (at f.0).start _ (builds_read text b i builds) blank in
    (flaw, words, placed text (signs b.inner.open_groups []) flaw (at f.0) read is)
  where
    placed : (text : List ℕ) (around : List Opening) (flaw : Flaw) (s : Span) → IsReadTo text s.start around → IsLexicalFlaw text flaw s.start s.stop → IsFlaw text flaw s
    placed text around unexpected s read is = (around, read, is)
    placed text around open_literal s read is = (around, read, is)
    placed text around open_comment s read is = (around, read, is)
    placed text around stray_closing s read is = absurd is
    placed text around open_group s read is = absurd is
lexical_refusal text b i (f ∷ g ∷ fs) builds (blank, h) = absurd h

-- a closing delimiter that doesn't match the innermost open group
pub closing_refusal : (text : List ℕ) (b : TreeBuilder) (i j : ℕ) (d : Delimiter) (s : TokenSpan) (e : ErrorValue) → Builds text b i → IsBlank text i s.start
    → IsPieceAt text (closing (delimiter_of d)) s.start j → s.end ≡ j → IsUnbalanced s (NotOpen d b.inner) e → IsRefusal text e
closing_refusal text b i j d s out_of_memory builds blank piece ends h = tt
closing_refusal text b i j d s (too_deep t) builds blank piece ends h = absurd h
closing_refusal text b i j d s (syntax_error fs) builds blank piece ends (is, alone) =
    let read = read_blank text i s.start _ (builds_read text b i builds) blank in
    let there = subst (λ n. IsPieceAt text (closing (delimiter_of d)) s.start n) (sym ends) piece in
    subst (IsRefusal text) (sym is) (stray_closing, refl, (delimiter_of d, signs b.inner.open_groups [], read, there, not_last d b.inner alone (last_of b.inner.open_groups)))

-- a group that is open at the end of the text
pub open_refusal : (text : List ℕ) (b : TreeBuilder) (i : ℕ) (e : ErrorValue) → Builds text b i → IsBlank text i (length text)
    → IsOutermost b e → IsRefusal text e
open_refusal text b i e builds blank (g, gs, groups, is) =
    let read = read_blank text i (length text) _ (builds_read text b i builds) blank in
    let outermost = ap (λ l. signs l []) groups ∙ signs_outside gs ((delimiter_of g.delimiter, at g.opening) ∷ []) in
    subst (IsRefusal text) (sym is) (open_group, refl, (delimiter_of g.delimiter, signs gs [], subst (IsReadTo text (length text)) outermost read))

-- a lexical fault is within the text
pub lexical_within : (text : List ℕ) (i : ℕ) (e : List FaultValue) → FollowsAsFault text i e → IsFaultWithin (length text) (syntax_error e)
lexical_within text i [] h = absurd h
lexical_within text i (f ∷ []) (blank, (starts, some, inside, flaw)) = (some, inside)
lexical_within text i (f ∷ g ∷ fs) (blank, h) = absurd h

-- `]` closes a group that was opened by `[`
pub closes_opened : (d : Delimiter) (s o : TokenSpan) (b : Building) (gs : List OpenGroup) (e : ErrorValue)
    → ((outer : Stream) × (b.open_groups ≡ gs ++ record { delimiter = d; opening = o; outer = outer } ∷ [])) → IsUnbalanced s (NotOpen d b) e → e ≡ out_of_memory
closes_opened d s o b gs out_of_memory was h = refl
closes_opened d s o b gs (too_deep t) was h = absurd h
closes_opened d s o b gs (syntax_error fs) (outer, is) (same, alone) = absurd (alone gs _ is refl)

pub memory_refusal : (text : List ℕ) (e : ErrorValue) → e ≡ out_of_memory → IsRefusal text e
memory_refusal text e is = subst (IsRefusal text) (sym is) tt
