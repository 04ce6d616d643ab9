-- What writes that follow each other leave.
use Rattle.std.proofs.Common.{◌≡◌, ℕ, Bool, true, false, Option, Some, None, List, [], ◌∷◌, refl, sym, ap, ◌∙◌, true≢false}
use Rattle.syn_grammar.specs.Words.{Text}
use Rattle.syn_grammar.specs.Tokens.{Span, Delimiter, Stream, end, ident, leaf, punct, group, ◌⧺◌}
use Rattle.syn_grammar.specs.Grammar.{Syntax, Mark, print}
use Rattle.syn_tokens.specs.Building.{Building, Closes, OpenGroup, added, closed_in, into_group, is_open, is_open_in, out_of_group}
use Rattle.syn_tokens.specs.Delimiters.{delimiter_of}
use Rattle.syn_tokens.specs.Leaves.{syntax_of_word}
use Rattle.syn_tokens.specs.Spans.{at}
use Rattle.syn_tokens.specs.declared.delimiter.Delimiter.{Delimiter as Delimiter-t}
use Rattle.syn_tokens.specs.declared.span.Span.{Span as Span-t}
use Rattle.syn_tokens.proofs.Builders.{closed_last}
use Rattle.syn_tokens.proofs.Prints.{added_more, added_none, added_group}
use Rattle.syn_recognize.specs.Trailing.{IsLeaf}
use Rattle.syn_recognize.specs.PrintedRows.{way}
use Rattle.syn_recognize.specs.Written.{Written, adds, changed, closed, closed_in as closed_out, drops_in, enters, leaves, none_open}
use Rattle.syn_recognize.proofs.Ways.{way_leaf}

abbrev into : Bool → Option Building → Written
into a o = record { printing = a; out = o }

pub adds_more : (w : Written) (i j : Stream) → adds (adds w i) j ≡ adds w (i ⧺ j)
unfolding adds
adds_more w i j = ap (into w.printing) (go w.out)
  where
    go : (o : Option Building) → changed (λ b. added b j) (changed (λ b. added b i) o) ≡ changed (λ b. added b (i ⧺ j)) o
    go None = refl
    go (Some b) = ap Some (added_more b i j)

pub adds_none : (w : Written) → adds w end ≡ w
unfolding adds
adds_none w = ap (into w.printing) (go w.out)
  where
    go : (o : Option Building) → changed (λ b. added b end) o ≡ o
    go None = refl
    go (Some b) = ap Some (added_none b)

pub adds_group : (d : Delimiter) (o c : Span) (w : Written) (i : Stream) → leaves c (adds (enters d o w) i) ≡ adds w (group d o c i end)
unfolding adds enters leaves
adds_group d o c w i = ap (into w.printing) (go w.out)
  where
    go : (p : Option Building) → changed (out_of_group c) (changed (λ b. added b i) (changed (into_group d o) p)) ≡ changed (λ b. added b (group d o c i end)) p
    go None = refl
    go (Some b) = ap Some (added_group d o c b i)

-- where what is written is dropped
pub adds_nothing : (w : Written) (i : Stream) → drops_in w.out ≡ true → adds w i ≡ w
unfolding adds
adds_nothing w i e = ap (into w.printing) (go w.out e)
  where
    go : (o : Option Building) → drops_in o ≡ true → changed (λ b. added b i) o ≡ o
    go None e = refl
    go (Some b) e = absurd (true≢false (sym e))

-- of the fields

pub adds_is : (a : Bool) (o : Option Building) (i : Stream) → adds (record { printing = a; out = o }) i ≡ record { printing = a; out = changed (λ b. added b i) o }
unfolding adds
adds_is a o i = refl

pub enters_is : (d : Delimiter) (c : Span) (a : Bool) (o : Option Building) → enters d c (record { printing = a; out = o }) ≡ record { printing = a; out = changed (into_group d c) o }
unfolding enters
enters_is d c a o = refl

pub leaves_is : (c : Span) (a : Bool) (o : Option Building) → leaves c (record { printing = a; out = o }) ≡ record { printing = a; out = changed (out_of_group c) o }
unfolding leaves
leaves_is c a o = refl

-- a token
pub leaf_is : (a : Bool) (o : Option Building) (s : Syntax) → IsLeaf s → adds (record { printing = a; out = o }) (way a s) ≡ record { printing = a; out = changed (λ b. added b (print s)) o }
unfolding adds
leaf_is a o s l = ap (λ i. record { printing = a; out = changed (λ b. added b i) o }) (way_leaf a s l ∙ sym l.shown)

-- a group that ends
pub group_closed : (d : Delimiter-t) (c : Span-t) (b a : Building) → Closes d c b a → a ≡ out_of_group (at c) b
unfolding out_of_group
group_closed d c b a k =
    k.is ∙ ap (λ z. record b { open_groups = k.around; stream = k.innermost.outer ⧺ group (delimiter_of z) (at k.innermost.opening) (at c) b.stream end }) (sym k.delimits)
    ∙ sym (ap (λ gs. closed_in b.before gs (at c) b.stream) k.was ∙ closed_last b.before k.around k.innermost (at c) b.stream)

pub adds_printing : (w : Written) (i : Stream) → (adds w i).printing ≡ w.printing
unfolding adds
adds_printing w i = refl

-- A WORD, and the characters of a mark

pub word_is : (a : Bool) (x : Text) (s : Span-t) → way a (syntax_of_word x s) ≡ leaf (ident x) (at s) end
word_is true x s = refl
word_is false x s = refl

pub one_is : (a : Bool) (c : ℕ) (s : Span-t) → way a (Mark ((c, at s) ∷ [])) ≡ punct c false (at s) end
one_is true c s = refl
one_is false c s = refl

pub two_are : (w : Written) (c d : ℕ) (s t : Span-t) →
    adds (adds w (punct c true (at s) end)) (punct d false (at t) end) ≡ adds w (way w.printing (Mark ((c, at s) ∷ (d, at t) ∷ [])))
two_are w c d s t = adds_more w _ _ ∙ ap (adds w) (go w.printing)
  where
    go : (a : Bool) → punct c true (at s) (punct d false (at t) end) ≡ way a (Mark ((c, at s) ∷ (d, at t) ∷ []))
    go true = refl
    go false = refl

pub three_are : (w : Written) (c d e : ℕ) (s t u : Span-t) →
    adds (adds (adds w (punct c true (at s) end)) (punct d true (at t) end)) (punct e false (at u) end) ≡ adds w (way w.printing (Mark ((c, at s) ∷ (d, at t) ∷ (e, at u) ∷ [])))
three_are w c d e s t u = ap (λ z. adds z (punct e false (at u) end)) (adds_more w _ _) ∙ adds_more w _ _ ∙ ap (adds w) (go w.printing)
  where
    go : (a : Bool) → punct c true (at s) (punct d true (at t) (punct e false (at u) end)) ≡ way a (Mark ((c, at s) ∷ (d, at t) ∷ (e, at u) ∷ []))
    go true = refl
    go false = refl

-- no group is open: nothing ends
pub none_left : (c : Span) (b : Building) → is_open b ≡ false → out_of_group c b ≡ b
unfolding out_of_group is_open
none_left c b e = of b.open_groups refl e
  where
    of : (gs : List OpenGroup) → b.open_groups ≡ gs → is_open_in gs ≡ false → closed_in b.before b.open_groups c b.stream ≡ b
    of [] q e = ap (λ gs. closed_in b.before gs c b.stream) q ∙ sym (ap (λ gs. record b { open_groups = gs }) q)
    of (g ∷ gs) q e = absurd (true≢false e)

-- no group is open
pub none_is_open : (gs : List OpenGroup) → none_open gs ≡ true → gs ≡ []
none_is_open [] e = refl
none_is_open (g ∷ gs) e = absurd (true≢false (sym e))

-- a group is open after what was written is added as before
pub closed_still : (w : Written) (i : Stream) → closed (adds w i) ≡ closed w
unfolding adds added
closed_still w i = go w.out
  where
    go : (o : Option Building) → closed_out (changed (λ b. added b i) o) ≡ closed_out o
    go None = refl
    go (Some b) = refl
