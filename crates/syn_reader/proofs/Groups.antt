-- Open groups, and the tokens that were added so far.
use Rattle.std.proofs.Common.{◌≡◌, ℕ, ◌<◌, ◌≤◌, List, [], ◌∷◌, ◌++◌, length, refl, ap, sym, ◌∙◌, subst, append_assoc, append-nil}
use Rattle.std.specs.Prelude.{Result, Ok, Err, IfOk, IfErr, OnOk, MatchResult}
use Rattle.syn_grammar.specs.Tokens.{Span, Stream, end, group}
use Rattle.syn_tokens.specs.Spans.{at}
use Rattle.syn_tokens.specs.Delimiters.{delimiter_of}
use Rattle.syn_tokens.specs.Faults.{ErrorValue, syntax_error, too_deep, out_of_memory}
use Rattle.syn_tokens.specs.declared.delimiter.Delimiter.{Delimiter}
use Rattle.syn_tokens.specs.declared.span.Span.{Span as TokenSpan}
use Rattle.syn_tokens.specs.Building.{OpenGroup, Building, Closes, IsUnbalanced, unbalanced}
use Rattle.syn_reader.specs.declared.reader.trees.TreeBuilder.{TreeBuilder}
use Rattle.syn_reader.specs.Flat.{Token, opened, closed, flat}
use Rattle.syn_reader.specs.Spelling.{Piece, IsBlank, IsPieceAt, IsCut, tokens_of, Spells, IsFaultWithin}
use Rattle.syn_reader.specs.Building.{tokens_around, tokens_so_far, AllWithin, Builds}
use Rattle.syn_reader.proofs.Flattened.{flat_append}
use Rattle.syn_reader.proofs.Spelling.{cut_more, cut_blank, tokens_more, present_within}

-- the tokens around one more group
around_more : (os : List OpenGroup) (o : OpenGroup)
    → tokens_around (os ++ (o ∷ [])) ≡ tokens_around os ++ (flat o.outer ++ (opened (delimiter_of o.delimiter) (at o.opening) ∷ []))
around_more [] o = refl
around_more (x ∷ os) o =
    ap (λ l. flat x.outer ++ (opened (delimiter_of x.delimiter) (at x.opening) ∷ l)) (around_more os o)
    ∙ sym (append_assoc (flat x.outer) (opened (delimiter_of x.delimiter) (at x.opening) ∷ tokens_around os) (flat o.outer ++ (opened (delimiter_of o.delimiter) (at o.opening) ∷ [])))

-- a group is opened: its delimiter comes after the tokens that were added
pub opened_more : (os : List OpenGroup) (o : OpenGroup)
    → tokens_around (os ++ (o ∷ [])) ++ [] ≡ (tokens_around os ++ flat o.outer) ++ (opened (delimiter_of o.delimiter) (at o.opening) ∷ [])
opened_more os o =
    append-nil (tokens_around (os ++ (o ∷ [])))
    ∙ (around_more os o ∙ sym (append_assoc (tokens_around os) (flat o.outer) (opened (delimiter_of o.delimiter) (at o.opening) ∷ [])))

regroup : (a b : List Token) (t : Token) (c d : List Token) → (a ++ b) ++ (t ∷ (c ++ d)) ≡ ((a ++ (b ++ (t ∷ []))) ++ c) ++ d
regroup a b t c d =
    sym (append_assoc (a ++ b) (t ∷ []) (c ++ d))
    ∙ (ap (λ l. l ++ (c ++ d)) (append_assoc a b (t ∷ [])) ∙ sym (append_assoc (a ++ (b ++ (t ∷ []))) c d))

-- the innermost group is closed: its content and the closing delimiter come after the tokens before it
pub closed_more : (os : List OpenGroup) (o : OpenGroup) (content last : List Token)
    → (tokens_around os ++ flat o.outer) ++ (opened (delimiter_of o.delimiter) (at o.opening) ∷ (content ++ last)) ≡ (tokens_around (os ++ (o ∷ [])) ++ content) ++ last
closed_more os o content last =
    regroup (tokens_around os) (flat o.outer) (opened (delimiter_of o.delimiter) (at o.opening)) content last
    ∙ ap (λ l. (l ++ content) ++ last) (sym (around_more os o))

close_tokens : (d : Delimiter) (s : TokenSpan) (old new : Building) → Closes d s old new
    → tokens_around new.open_groups ++ flat new.stream ≡ (tokens_around old.open_groups ++ flat old.stream) ++ (closed (delimiter_of d) (at s) ∷ [])
close_tokens d s old new h =
    let last : List Token = closed (delimiter_of d) (at s) ∷ [] in
    let More : Delimiter → Type 0 = λ e. (tokens_around h.around ++ flat h.innermost.outer) ++ (opened (delimiter_of e) (at h.innermost.opening) ∷ (flat old.stream ++ last))
    ≡ (tokens_around (h.around ++ (h.innermost ∷ [])) ++ flat old.stream) ++ last in
    let more = subst More h.delimits (closed_more h.around h.innermost (flat old.stream) last) in
    rw (h.is, h.was)
    (ap (λ l. tokens_around h.around ++ l) (flat_append h.innermost.outer (group (delimiter_of d) (at h.innermost.opening) (at s) old.stream end))
    ∙ (sym (append_assoc (tokens_around h.around) (flat h.innermost.outer) (opened (delimiter_of d) (at h.innermost.opening) ∷ (flat old.stream ++ last))) ∙ more))

pub closes_tokens : {E : Type 0} (r : Result (Unit {0}) E) (d : Delimiter) (s : TokenSpan) (old new : Building) → OnOk r (Closes d s old new)
    → IfOk r (λ x. tokens_around new.open_groups ++ flat new.stream ≡ (tokens_around old.open_groups ++ flat old.stream) ++ (closed (delimiter_of d) (at s) ∷ []))
closes_tokens (Ok x) d s old new h = close_tokens d s old new h
closes_tokens (Err e) d s old new h = tt

pub within_fewer : (n : ℕ) (os : List OpenGroup) (o : OpenGroup) → AllWithin n (os ++ (o ∷ [])) → AllWithin n os
within_fewer n [] o h = tt
within_fewer n (x ∷ os) o h = (h.0, h.1, within_fewer n os o h.2)

fault_within : (n : ℕ) (s : TokenSpan) (reason : Type 0) (e : ErrorValue) → s.start < s.end → s.end ≤ n → IsUnbalanced s reason e → IsFaultWithin n e
fault_within n s reason out_of_memory l m h = tt
fault_within n s reason (too_deep t) l m h = absurd h
fault_within n s reason (syntax_error fs) l m h = subst (IsFaultWithin n) (sym h.0) (l, m)

pub closes_within : (r : Result (Unit {0}) ErrorValue) (n : ℕ) (d : Delimiter) (s : TokenSpan) (old new : Building) (reason : Type 0) → OnOk r (Closes d s old new)
    → IfErr r (IsUnbalanced s reason) → AllWithin n old.open_groups → s.start < s.end → s.end ≤ n → MatchResult r (λ x. AllWithin n new.open_groups) (IsFaultWithin n)
closes_within (Ok x) n d s old new reason h e w l m = rw h.is (within_fewer n h.around h.innermost (subst (AllWithin n) h.was w))
closes_within (Err e) n d s old new reason h f w l m = fault_within n s reason e l m f

-- no group is open
pub finishes : (r : Result Stream ErrorValue) (n : ℕ) (b : Building) → AllWithin n b.open_groups
    → MatchResult r (λ stream. (b.open_groups ≡ []) × (b.stream ≡ stream)) (λ e. (g : OpenGroup) × (gs : List OpenGroup) × (b.open_groups ≡ g ∷ gs) × (e ≡ unbalanced g.opening))
    → MatchResult r (λ stream. flat stream ≡ tokens_around b.open_groups ++ flat b.stream) (IsFaultWithin n)
finishes (Ok stream) n b w h = rw (h.0, h.1) refl
finishes (Err e) n b w (g, gs, h, f) = let inside = subst (AllWithin n) h w in subst (IsFaultWithin n) (sym f) (inside.0, inside.1)

pub within_more : (n : ℕ) (os : List OpenGroup) (o : OpenGroup) → AllWithin n os → o.opening.start < o.opening.end → o.opening.end ≤ n → AllWithin n (os ++ (o ∷ []))
within_more n [] o h l m = (l, m, tt)
within_more n (x ∷ os) o h l m = (h.0, h.1, within_more n os o h.2 l m)

-- more tokens after more tokens
pub joined : (s t u x y : List Token) → t ≡ s ++ x → u ≡ t ++ y → u ≡ s ++ (x ++ y)
joined s t u x y e f = f ∙ (ap (λ l. l ++ y) e ∙ append_assoc s x y)

pub same_added : (t u x y : List Token) → u ≡ t ++ x → x ≡ y → u ≡ t ++ y
same_added t u x y e f = e ∙ ap (λ l. t ++ l) f

-- six times
pub six_joined : (s t1 t2 t3 t4 t5 t6 x1 : List Token) (x2 x3 x4 x5 : Token) (x6 : List Token) → t1 ≡ s ++ x1 → t2 ≡ t1 ++ (x2 ∷ []) → t3 ≡ t2 ++ (x3 ∷ [])
    → t4 ≡ t3 ++ (x4 ∷ []) → t5 ≡ t4 ++ (x5 ∷ []) → t6 ≡ t5 ++ x6 → t6 ≡ s ++ (x1 ++ (x2 ∷ x3 ∷ x4 ∷ x5 ∷ x6))
six_joined s t1 t2 t3 t4 t5 t6 x1 x2 x3 x4 x5 x6 e1 e2 e3 e4 e5 e6 =
    joined s t1 t6 x1 (x2 ∷ x3 ∷ x4 ∷ x5 ∷ x6) e1
    (joined t1 t2 t6 (x2 ∷ []) (x3 ∷ x4 ∷ x5 ∷ x6) e2 (joined t2 t3 t6 (x3 ∷ []) (x4 ∷ x5 ∷ x6) e3 (joined t3 t4 t6 (x4 ∷ []) (x5 ∷ x6) e4 (joined t4 t5 t6 (x5 ∷ []) x6 e5 e6))))

pub then_ok : {T E : Type 0} (r : Result T E) (A B : Type 0) → IfOk r (λ x. A) → (A → B) → IfOk r (λ x. B)
then_ok (Ok x) A B a f = f a
then_ok (Err e) A B a f = tt

-- a piece starts before the position where it ends
pub piece_starts : (text : List ℕ) (p : Piece) (i j k : ℕ) → IsPieceAt text p i j → k ≡ j → i < k
piece_starts text p i j k h e = rw e h.1

pub piece_ends : (text : List ℕ) (p : Piece) (i j k : ℕ) → IsPieceAt text p i j → k ≡ j → k ≤ length text
piece_ends text p i j k h e = rw e (present_within h.0 h.1)

-- one more piece was added
pub builds_more : (text : List ℕ) (old new : TreeBuilder) (i j : ℕ) (p : Piece) (s : Span) → Builds text old i → IsBlank text i s.start → IsPieceAt text p s.start j → s.stop ≡ j
    → tokens_so_far new ≡ tokens_so_far old ++ tokens_of p s → AllWithin (length text) new.inner.open_groups → Builds text new j
builds_more text old new i j p s (pieces, cut, same, within) blank piece e added after =
    let At : ℕ → Type 0 = λ n. IsPieceAt text p s.start n in
    let To : ℕ → Type 0 = λ n. IsCut text 0 (pieces ++ ((p, s) ∷ [])) n in (
      pieces ++ ((p, s) ∷ []),
      subst To e (cut_more text 0 pieces i p s cut blank (subst At (sym e) piece)),
      added ∙ (ap (λ l. l ++ tokens_of p s) same ∙ sym (tokens_more pieces p s)),
      after,
    )

-- the same for a step that may fail
pub builds_or_fault : {T : Type 0} (r : Result T ErrorValue) (text : List ℕ) (old new : TreeBuilder) (i j : ℕ) (p : Piece) (s : Span) → Builds text old i → IsBlank text i s.start
    → IsPieceAt text p s.start j → s.stop ≡ j → IfOk r (λ x. tokens_so_far new ≡ tokens_so_far old ++ tokens_of p s)
    → MatchResult r (λ x. AllWithin (length text) new.inner.open_groups) (IsFaultWithin (length text)) → MatchResult r (λ x. Builds text new j) (IsFaultWithin (length text))
builds_or_fault (Ok x) text old new i j p s builds blank piece e added after = builds_more text old new i j p s builds blank piece e added after
builds_or_fault (Err f) text old new i j p s builds blank piece e added after = after

-- only white space remains
pub builds_spelled : (text : List ℕ) (b : TreeBuilder) (i : ℕ) → Builds text b i → IsBlank text i (length text) → (stream : Stream) → flat stream ≡ tokens_so_far b → Spells text stream
builds_spelled text b i (pieces, cut, same, within) blank stream e = (pieces, cut_blank text 0 pieces i (length text) cut blank, e ∙ same)
