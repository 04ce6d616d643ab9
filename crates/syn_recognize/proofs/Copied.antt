-- What is written of a form, by what is written of its parts.
use Rattle.std.proofs.Common.{◌≡◌, ℕ, Bool, true, false, List, [], ◌∷◌, Some, None, refl, sym, ap, ap₂, ◌∙◌}
use Rattle.syn_grammar.specs.Words.{Text, less, greater}
use Rattle.syn_grammar.specs.Tokens.{Span, Stream, end, punct, Delimiter, Look, ◌⧺◌, pick, no, ended}
use Rattle.syn_grammar.specs.Rules.{Rule}
use Rattle.syn_grammar.specs.Shape.{Shape}
use Rattle.syn_grammar.specs.Grammar.{Syntax, Nothing, Both, Node, Case, Left, Right, Group, Rest, Order, spell, Grammar, empty, ◌&◌, when◌then◌else◌, inside, raw, rest_after, one_of, rule, shaped, unshown, ordered}
use Rattle.syn_grammar.specs.Table.{table}
use Rattle.syn_grammar.specs.Take.{Out, Parser, Opened, is_end, only, sees, take_group, take_mark}
use Rattle.syn_grammar.specs.Values.{shape}
use Rattle.syn_grammar.specs.Run.{wrap, and_then, branch, close, named, within, raw_of, rest_of, marks_of, parse_form, rows, close_row, row_closed, row_opened}
use Rattle.syn_grammar.proofs.Looks.{sees_ended}
use Rattle.syn_grammar.proofs.Run.{parse_rule_is}
use Rattle.syn_grammar.proofs.Streams.{append_append}
use Rattle.syn_grammar.proofs.Takes.{mark_known}
use Rattle.syn_recognize.specs.declared.list.List as list
use Rattle.syn_recognize.specs.Ordered.{first_form, other_form, member}
use Rattle.syn_recognize.specs.PrintedRows.{way, row_of}
use Rattle.syn_recognize.specs.Written.{Written, adds, enters, leaves}
use Rattle.syn_recognize.specs.Copies.{Copy, Reached, Refused, copied, copied_row, next, closing, copy_form, copy_row}
use Rattle.syn_recognize.proofs.Ways.{way_nothing, way_unshown, way_both, way_left, way_right, way_node, way_shape, way_group, way_raw, way_mark, way_rest, way_order}
use Rattle.syn_recognize.proofs.Writes.{adds_more, adds_none, adds_group}

-- THE RESULT OF A PARSE

-- of a tree that was put into another of the same tokens
pub wrapped : (f : Syntax → Syntax) → ((a : Bool) (s : Syntax) → way a (f s) ≡ way a s) → (w : Written) (o : Out) → copied w (wrap f o) ≡ copied w o
wrapped f h w None = refl
wrapped f h w (Some p) = ap (λ i. Reached (adds w i) p.1) (h w.printing p.0)

-- after what was written before
pub following : (i : Stream) (f : Syntax → Syntax) (w : Written) → ((s : Syntax) → way w.printing (f s) ≡ i ⧺ way w.printing s) → (o : Out) → copied w (wrap f o) ≡ copied (adds w i) o
unfolding adds
following i f w h None = refl
following i f w h (Some p) = ap (λ j. Reached (adds w j) p.1) (h p.0) ∙ ap (λ v. Reached v p.1) (sym (adds_more w i (way w.printing p.0)))

-- where no token was read
pub nothing : (w : Written) (i ts : Stream) → i ≡ end → Reached (adds w i) ts ≡ Reached w ts
nothing w i ts e = ap (λ j. Reached (adds w j) ts) e ∙ ap (λ v. Reached v ts) (adds_none w)

-- FORMS

pub empty_is : (w : Written) (ts : Stream) → copy_form empty w ts ≡ Reached w ts
unfolding copy_form
empty_is w ts = nothing w (way w.printing Nothing) ts (way_nothing w.printing)

pub unshown_is : (w : Written) (ts : Stream) → copy_form unshown w ts ≡ Reached w ts
unfolding copy_form
unshown_is w ts = nothing w _ ts (way_unshown w.printing)

pub then_is : (g h : Grammar) (w : Written) (ts : Stream) → copy_form (g & h) w ts ≡ next (copy_form g w ts) (copy_form h)
unfolding copy_form
then_is g h w ts = go (parse_form g ts)
  where
    go : (o : Out) → copied w (and_then o (parse_form h)) ≡ next (copied w o) (λ v r. copied v (parse_form h r))
    go None = refl
    go (Some p) = following (way w.printing p.0) (Both p.0) w (way_both w.printing p.0) (parse_form h p.1)

pub when_is : (c : Look) (g h : Grammar) (w : Written) (ts : Stream) → copy_form (when c then g else h) w ts ≡ pick (sees c ts) (copy_form g w ts) (copy_form h w ts)
unfolding copy_form
when_is c g h w ts = go (sees c ts)
  where
    go : (a : Bool) → copied w (branch a (parse_form g ts) (parse_form h ts)) ≡ pick a (copied w (parse_form g ts)) (copied w (parse_form h ts))
    go true = wrapped Left way_left w (parse_form g ts)
    go false = wrapped Right way_right w (parse_form h ts)

pub inside_is : (d : Delimiter) (g : Grammar) (w : Written) (ts : Stream) (opening ending : Span) (content rest : Stream) → take_group d ts ≡ Some (record { opening = opening; closing = ending; content = content; rest = rest }) →
    copy_form (inside d g) w ts ≡ next (copy_form g (enters d opening w) content) (closing ending rest)
unfolding copy_form enters
inside_is d g w ts opening ending content rest e = ap (λ p. copied w (within d p (parse_form g))) e ∙ read (parse_form g content)
  where
    o : Opened
    o = record { opening = opening; closing = ending; content = content; rest = rest }

    closed : (s : Syntax) (a : Bool) → copied w (only a (Some (Group d o.opening o.closing s, o.rest))) ≡ pick a (Reached (leaves o.closing (adds (enters d o.opening w) (way w.printing s))) o.rest) Refused
    closed s true = ap (λ i. Reached (adds w i) o.rest) (way_group w.printing d o.opening o.closing s) ∙ ap (λ v. Reached v o.rest) (sym (adds_group d o.opening o.closing w (way w.printing s)))
    closed s false = refl

    read : (p : Out) → copied w (close d o p) ≡ next (copied (enters d o.opening w) p) (closing o.closing o.rest)
    read None = refl
    read (Some p) = closed p.0 (is_end p.1)

pub not_inside : (d : Delimiter) (g : Grammar) (w : Written) (ts : Stream) → take_group d ts ≡ None → copy_form (inside d g) w ts ≡ Refused
unfolding copy_form
not_inside d g w ts e = ap (λ p. copied w (within d p (parse_form g))) e

pub raw_is : (d : Delimiter) (w : Written) (ts : Stream) (opening ending : Span) (content rest : Stream) → take_group d ts ≡ Some (record { opening = opening; closing = ending; content = content; rest = rest }) →
    copy_form (raw d) w ts ≡ Reached (leaves ending (adds (enters d opening w) content)) rest
unfolding copy_form
raw_is d w ts opening ending content rest e =
    ap (λ p. copied w (raw_of d p)) e ∙ ap (λ i. Reached (adds w i) rest) (way_raw w.printing d opening ending content) ∙ ap (λ v. Reached v rest) (sym (adds_group d opening ending w content))

pub not_raw : (d : Delimiter) (w : Written) (ts : Stream) → take_group d ts ≡ None → copy_form (raw d) w ts ≡ Refused
unfolding copy_form
not_raw d w ts e = ap (λ p. copied w (raw_of d p)) e

-- a mark
spelled : (xs : List (ℕ × Span)) (i : Stream) → spell xs i ≡ spell xs end ⧺ i
spelled [] i = refl
spelled (x ∷ []) i = refl
spelled (x ∷ y ∷ l) i = ap (punct x.0 true x.1) (spelled (y ∷ l) i)

abbrev IsMark : Bool → Out → Type 0
IsMark a o = (p : Syntax × Stream) → o ≡ Some p → spell (marks_of p.0) end ≡ way a p.0

is_mark : (a : Bool) (x : Text) (ts : Stream) → IsMark a (take_mark x ts)
is_mark a x ts p e = let (xs, i, q, h) = mark_known x ts p e in ap (λ t. spell (marks_of t) end) i ∙ sym (way_mark a xs) ∙ sym (ap (way a) i)

abbrev all_written : Written → Stream → Copy
all_written v r = pick (no (is_end r)) (Reached (adds v r) end) Refused

pub rest_is : (x : Text) (w : Written) (ts : Stream) → copy_form (rest_after x) w ts ≡ next (copied w (take_mark x ts)) all_written
unfolding copy_form
rest_is x w ts = go (take_mark x ts) (is_mark w.printing x ts)
  where
    reported : (xs : List (ℕ × Span)) (r : Stream) (b : Bool) → copied w (only b (Some (Rest xs r, end))) ≡ pick b (Reached (adds (adds w (spell xs end)) r) end) Refused
    reported xs r true = ap (λ i. Reached (adds w i) end) (way_rest w.printing xs r ∙ spelled xs r) ∙ ap (λ v. Reached v end) (sym (adds_more w (spell xs end) r))
    reported xs r false = refl

    go : (o : Out) → IsMark w.printing o → copied w (rest_of o) ≡ next (copied w o) all_written
    go None h = refl
    go (Some p) h = reported (marks_of p.0) p.1 (no (is_end p.1)) ∙ ap (λ i. all_written (adds w i) p.1) (h p refl)

pub rest_more : (x : Text) (w v : Written) (ts r : Stream) → copied w (take_mark x ts) ≡ Reached v r → sees ended r ≡ false → copy_form (rest_after x) w ts ≡ Reached (adds v r) end
rest_more x w v ts r e h = rest_is x w ts ∙ ap (λ o. next o all_written) e ∙ ap (λ a. pick (no a) (Reached (adds v r) end) Refused) (sym (sees_ended r) ∙ h)

pub rest_none : (x : Text) (w v : Written) (ts r : Stream) → copied w (take_mark x ts) ≡ Reached v r → sees ended r ≡ true → copy_form (rest_after x) w ts ≡ Refused
rest_none x w v ts r e h = rest_is x w ts ∙ ap (λ o. next o all_written) e ∙ ap (λ a. pick (no a) (Reached (adds v r) end) Refused) (sym (sees_ended r) ∙ h)

pub rest_not : (x : Text) (w : Written) (ts : Stream) → take_mark x ts ≡ None → copy_form (rest_after x) w ts ≡ Refused
rest_not x w ts e = rest_is x w ts ∙ ap (λ o. next (copied w o) all_written) e

pub rule_is : (k : Rule) (g : Grammar) (w : Written) (ts : Stream) → parse_form g ≡ parse_form (table k) → copy_form (rule k) w ts ≡ copy_form g w ts
unfolding copy_form
rule_is k g w ts e = ap (copied w) (parse_rule_is k ts) ∙ wrapped Node way_node w (parse_form (table k) ts) ∙ sym (ap (λ (p : Parser). copied w (p ts)) e)

-- a union of one rule
pub only_is : (k : Rule) (g : Grammar) (w : Written) (ts : Stream) → parse_form g ≡ parse_form (table k) → copy_form (one_of (k ∷ [])) w ts ≡ copy_form g w ts
unfolding copy_form
only_is k g w ts e = ap (λ o. copied w (named k o None)) (parse_rule_is k ts) ∙ go (parse_form (table k) ts) ∙ sym (ap (λ (p : Parser). copied w (p ts)) e)
  where
    same : (a : Bool) (s : Syntax) → way a (Case k s) ≡ way a s
    same true s = refl
    same false s = refl

    go : (o : Out) → copied w (named k (wrap Node o) None) ≡ copied w o
    go None = refl
    go (Some p) = ap (λ i. Reached (adds w i) p.1) (same w.printing p.0)

pub shaped_is : (j : Shape) (g : Grammar) (w : Written) (ts : Stream) → copy_form (shaped j g) w ts ≡ copy_form g w ts
unfolding copy_form
shaped_is j g w ts = wrapped (shape j) (way_shape j) w (parse_form g ts)

-- a list in `< >`
pub ordered_is : (k : list.List) (w : Written) (ts : Stream) → copy_form (ordered (first_form k) (other_form k)) w ts ≡ next (next (copied w (take_mark less ts)) (copy_row k)) (λ v r. copied v (take_mark greater r))
unfolding copy_form copy_row adds
ordered_is k w ts = go (take_mark less ts) (is_mark a less ts)
  where
    a : Bool
    a = w.printing

    l : Parser
    l = rows (member k)

    -- of the opening and the closing mark and the list between them
    reported : (x s y : Syntax) (r : Stream) → spell (marks_of x) end ≡ way a x → spell (marks_of y) end ≡ way a y →
        copied w (Some (Order (marks_of x) s (marks_of y), r)) ≡ Reached (adds (adds (adds w (way a x)) (row_of a s)) (way a y)) r
    reported x s y r e f =
        ap (λ i. Reached (adds w i) r) (way_order a (marks_of x) s (marks_of y) ∙ spelled (marks_of x) (row_of a s ⧺ spell (marks_of y) end) ∙ ap₂ (λ i j. i ⧺ (row_of a s ⧺ j)) e f ∙ sym (append_append (way a x) (row_of a s) (way a y)))
        ∙ ap (λ v. Reached v r) (sym (adds_more w (way a x ⧺ row_of a s) (way a y)) ∙ ap (λ v. adds v (way a y)) (sym (adds_more w (way a x) (row_of a s))))

    ended : (x s : Syntax) (o : Out) → spell (marks_of x) end ≡ way a x → IsMark a o → copied w (close_row x s o) ≡ copied (adds (adds w (way a x)) (row_of a s)) o
    ended x s None e h = refl
    ended x s (Some y) e h = reported x s y.0 y.1 e (h y refl)

    listed : (x : Syntax) (o : Out) → spell (marks_of x) end ≡ way a x → copied w (row_closed x o) ≡ next (copied_row (adds w (way a x)) o) (λ v r. copied v (take_mark greater r))
    listed x None e = refl
    listed x (Some p) e = ended x p.0 (take_mark greater p.1) e (is_mark a greater p.1)

    go : (o : Out) → IsMark a o → copied w (row_opened o l) ≡ next (next (copied w o) (λ v r. copied_row v (l r))) (λ v r. copied v (take_mark greater r))
    go None h = refl
    go (Some p) h = listed p.0 (l p.1) (h p refl)
