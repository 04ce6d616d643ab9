-- What is written of a list in `< >`, member by member.
use Rattle.std.proofs.Common.{◌≡◌, ℕ, Bool, true, false, List, [], ◌∷◌, Some, None, refl, sym, ap, ◌∙◌, true≢false}
use Rattle.syn_grammar.specs.Words.{comma}
use Rattle.syn_grammar.specs.Tokens.{Span, call_site, Stream, end, punct, ◌⧺◌, pick}
use Rattle.syn_grammar.specs.Grammar.{Syntax, Mark, Left, Right, Done, Last, More, chars, at_row_end, at_row_comma, print}
use Rattle.syn_grammar.specs.Take.{Out, Parser, sees, take_mark}
use Rattle.syn_grammar.specs.Run.{wrap, parse_form, rows, row_from, row_member, row_after, row_comma, last, more, span_of}
use Rattle.syn_grammar.proofs.Run.{row_is}
use Rattle.syn_grammar.proofs.Streams.{append_append}
use Rattle.syn_grammar.proofs.Takes.{mark_known}
use Rattle.syn_tokens.specs.Spans.{at}
use Rattle.syn_tokens.specs.Building.{added}
use Rattle.syn_tokens.specs.Leaves.{syntax_of_mark}
use Rattle.syn_tokens.specs.declared.span.Span.{Span as T_Span}
use Rattle.syn_recognize.specs.declared.list.List as list
use Rattle.syn_recognize.specs.Ordered.{first_form, other_form, member, Settles}
use Rattle.syn_recognize.specs.PrintedRows.{way, with_comma, firsts, print_firsts, others_of, row_of}
use Rattle.syn_recognize.specs.Written.{Written, adds, blank}
use Rattle.syn_recognize.specs.Copies.{Copy, Reached, Refused, copied, copied_row, copied_others, late_of, next, joining, copy_form, copy_row, copy_others, after_member, after_other, after_late}
use Rattle.syn_recognize.proofs.Ways.{way_mark, row_done_is, row_more_is, row_last_is, others_done_is, others_last_is}
use Rattle.syn_recognize.proofs.Writes.{adds_more, adds_none}
use Rattle.syn_recognize.proofs.Copied.{nothing}

-- A COMMA

comma_is : (a : Bool) (ts : Stream) (p : Syntax × Stream) → take_mark comma ts ≡ Some p → way a p.0 ≡ punct 44 false (span_of p.0) end
comma_is a ts p e = let (xs, i, q, h) = mark_known comma ts p e in go xs p.0 q i
  where
    go : (xs : List (ℕ × Span)) (s : Syntax) → chars xs ≡ comma → s ≡ Mark xs → way a s ≡ punct 44 false (span_of s) end
    go [] s q i = absurd (cc q)
    go (x ∷ []) s q i = ap (way a) i ∙ way_mark a (x ∷ []) ∙ ap (λ n. punct n false x.1 end) (cc q) ∙ sym (ap (λ t. punct 44 false (span_of t) end) i)
    go (x ∷ y ∷ l) s q i = absurd (cc q)

-- a member and its comma, after what was written, and what follows
commas : (w : Written) (s : Stream) (sp : Span) (i : Stream) → adds w (with_comma s sp i) ≡ adds (adds (adds w s) (punct 44 false sp end)) i
commas w s sp i = sym (ap (λ v. adds v i) (adds_more w s (punct 44 false sp end)) ∙ adds_more w (s ⧺ punct 44 false sp end) i ∙ ap (adds w) (append_append s (punct 44 false sp end) i))

-- A LIST, by its first member

module _ (k : list.List) where
  abbrev members : Parser
  members = rows (member k)

  pub none_present : (ts : Stream) → sees at_row_end ts ≡ true → members ts ≡ Some (Done, ts)
  none_present ts e = row_is (first_form k) (other_form k) ts ∙ ap (λ a. row_from a (member k) members ts) e

  pub one_present : (ts : Stream) → sees at_row_end ts ≡ false → members ts ≡ row_member (member k ts) members
  one_present ts e = row_is (first_form k) (other_form k) ts ∙ ap (λ a. row_from a (member k) members ts) e

  first_present : (ts : Stream) → sees at_row_end ts ≡ false → Settles k ts true → members ts ≡ row_member (wrap Left (parse_form (first_form k) ts)) members
  first_present ts e h = one_present ts e ∙ ap (λ o. row_member o members) h.is

  other_present : (ts : Stream) → sees at_row_end ts ≡ false → Settles k ts false → members ts ≡ row_member (wrap Right (parse_form (other_form k) ts)) members
  other_present ts e h = one_present ts e ∙ ap (λ o. row_member o members) h.is

-- A MEMBER is written, and then its comma and what follows, or nothing; in one way of writing lists, by what it does with one member
module _ (write : Written → Out → Copy) (finish : Written → Stream → Copy) (none : (w : Written) → write w None ≡ Refused) (l : Parser) (w : Written) where
  abbrev proceeds : Written → Stream → Copy
  proceeds v r = pick (sees at_row_comma r) (next (copied v (take_mark comma r)) (λ v r. write v (l r))) (finish v r)

  member_is : (f : Syntax → Syntax) →
      ((s : Syntax) (sp : Span) (o : Out) → write w (wrap (more (f s) sp) o) ≡ write (adds (adds w (way w.printing s)) (punct 44 false sp end)) o) →
      ((s : Syntax) (r : Stream) → write w (Some (last (f s), r)) ≡ finish (adds w (way w.printing s)) r) →
      (o : Out) → write w (row_member (wrap f o) l) ≡ next (copied w o) proceeds
  unfolding adds
  member_is f m n None = none w
  member_is f m n (Some p) = go (sees at_row_comma p.1)
    where
      s : Syntax
      s = p.0

      v : Written
      v = adds w (way w.printing s)

      read : (o : Out) → ((c : Syntax × Stream) → o ≡ Some c → way w.printing c.0 ≡ punct 44 false (span_of c.0) end) → write w (row_comma (f s) o l) ≡ next (copied v o) (λ v r. write v (l r))
      read None h = none w
      read (Some c) h = m s (span_of c.0) (l c.1) ∙ ap (λ i. write (adds v i) (l c.1)) (sym (h c refl))

      go : (b : Bool) → write w (row_after b (f s) p.1 l) ≡ pick b (next (copied v (take_mark comma p.1)) (λ v r. write v (l r))) (finish v p.1)
      go true = read (take_mark comma p.1) (comma_is w.printing p.1)
      go false = n s p.1

-- A WHOLE LIST

pub row_done : (k : list.List) (w : Written) (ts : Stream) → sees at_row_end ts ≡ true → copy_row k w ts ≡ Reached w ts
unfolding copy_row
row_done k w ts e = ap (copied_row w) (none_present k ts e) ∙ nothing w _ ts (row_done_is w.printing)

-- a first member before all others is written as it is read
pub row_first : (k : list.List) (w : Written) (ts : Stream) → sees at_row_end ts ≡ false → Settles k ts true → copy_row k w ts ≡ next (copy_form (first_form k) w ts) (after_member k)
unfolding copy_row copy_form adds
row_first k w ts e h = ap (copied_row w) (first_present k ts e h) ∙ member_is copied_row Reached (λ v. refl) (members k) w Left reported (λ s r. ap (λ i. Reached (adds w i) r) (row_last_is w.printing s)) (parse_form (first_form k) ts)
  where
    reported : (s : Syntax) (sp : Span) (o : Out) → copied_row w (wrap (More true s sp) o) ≡ copied_row (adds (adds w (way w.printing s)) (punct 44 false sp end)) o
    reported s sp None = refl
    reported s sp (Some p) = ap (λ i. Reached (adds w i) p.1) (row_more_is w.printing s sp p.0) ∙ ap (λ v. Reached v p.1) (commas w (way w.printing s) sp (row_of w.printing p.0))

-- so is each other member, where lists are shown
pub row_other : (k : list.List) (w : Written) (ts : Stream) → sees at_row_end ts ≡ false → Settles k ts false → w.printing ≡ false → copy_row k w ts ≡ next (copy_form (other_form k) w ts) (after_member k)
unfolding copy_row copy_form adds
row_other k w ts e h shown = ap (copied_row w) (other_present k ts e h) ∙ member_is copied_row Reached (λ v. refl) (members k) w Right reported ended (parse_form (other_form k) ts)
  where
    more_is : (a : Bool) → a ≡ false → (s : Syntax) (sp : Span) (t : Syntax) → row_of a (More false s sp t) ≡ with_comma (way a s) sp (row_of a t)
    more_is true k s sp t = absurd (true≢false k)
    more_is false k s sp t = refl

    last_is : (a : Bool) → a ≡ false → (s : Syntax) → row_of a (Last false s) ≡ way a s
    last_is true k s = absurd (true≢false k)
    last_is false k s = refl

    reported : (s : Syntax) (sp : Span) (o : Out) → copied_row w (wrap (More false s sp) o) ≡ copied_row (adds (adds w (way w.printing s)) (punct 44 false sp end)) o
    reported s sp None = refl
    reported s sp (Some p) = ap (λ i. Reached (adds w i) p.1) (more_is w.printing shown s sp p.0) ∙ ap (λ v. Reached v p.1) (commas w (way w.printing s) sp (row_of w.printing p.0))

    ended : (s : Syntax) (r : Stream) → copied_row w (Some (Last false s, r)) ≡ Reached (adds w (way w.printing s)) r
    ended s r = ap (λ i. Reached (adds w i) r) (last_is w.printing shown s)

-- FROM ITS FIRST OTHER MEMBER ON, WHERE IT IS PRINTED: the others are written aside

-- an other member, and what follows it
others_right : (k : list.List) (u w : Written) (o : Out) → copied_others u w (row_member (wrap Right o) (members k)) ≡ next (copied w o) (after_other k u)
unfolding copy_others adds
others_right k u w o = member_is (copied_others u) (joining u) (λ v. refl) (members k) w Right reported ended o
  where
    reported : (s : Syntax) (sp : Span) (o : Out) → copied_others u w (wrap (More false s sp) o) ≡ copied_others u (adds (adds w (way w.printing s)) (punct 44 false sp end)) o
    reported s sp None = refl
    reported s sp (Some p) = ap (λ v. joining (adds u (late_of u.printing p.0)) v p.1) (commas w (way w.printing s) sp (others_of w.printing p.0))

    ended : (s : Syntax) (r : Stream) → copied_others u w (Some (Last false s, r)) ≡ joining u (adds w (way w.printing s)) r
    ended s r = ap (λ v. joining v (adds w (others_of w.printing (Last false s))) r) (adds_none u) ∙ ap (λ i. joining u (adds w i) r) (others_last_is w.printing s)

pub others_other : (k : list.List) (u w : Written) (ts : Stream) → sees at_row_end ts ≡ false → Settles k ts false → copy_others k u w ts ≡ next (copy_form (other_form k) w ts) (after_other k u)
unfolding copy_others copy_form
others_other k u w ts e h = ap (copied_others u w) (other_present k ts e h) ∙ others_right k u w (parse_form (other_form k) ts)

-- a member of the first form, and what follows it
pub others_late : (k : list.List) (u w : Written) (ts : Stream) → sees at_row_end ts ≡ false → Settles k ts true → copy_others k u w ts ≡ next (copy_form (first_form k) u ts) (after_late k w)
unfolding copy_others copy_form adds
others_late k u w ts e h =
    ap (copied_others u w) (first_present k ts e h)
    ∙ member_is (λ v o. copied_others v w o) (λ v r. joining (adds v (punct 44 false call_site end)) w r) (λ v. refl) (members k) u Left reported ended (parse_form (first_form k) ts)
  where
    reported : (s : Syntax) (sp : Span) (o : Out) → copied_others u w (wrap (More true s sp) o) ≡ copied_others (adds (adds u (way u.printing s)) (punct 44 false sp end)) w o
    reported s sp None = refl
    reported s sp (Some p) = ap (λ v. joining v (adds w (others_of w.printing p.0)) p.1) (commas u (way u.printing s) sp (late_of u.printing p.0))

    ended : (s : Syntax) (r : Stream) → copied_others u w (Some (Last true s, r)) ≡ joining (adds (adds u (way u.printing s)) (punct 44 false call_site end)) w r
    ended s r = ap (λ v. joining (adds u (with_comma (way u.printing s) call_site end)) v r) (adds_none w) ∙ ap (λ v. joining v w r) (commas u (way u.printing s) call_site end ∙ adds_none (adds (adds u (way u.printing s)) (punct 44 false call_site end)))

-- no member is left
pub others_done : (k : list.List) (u w : Written) (ts : Stream) → sees at_row_end ts ≡ true → copy_others k u w ts ≡ joining u w ts
unfolding copy_others
others_done k u w ts e =
    ap (copied_others u w) (none_present k ts e) ∙ ap (λ v. joining v (adds w (others_of w.printing Done)) ts) (adds_none u)
    ∙ ap (λ i. joining u (adds w i) ts) (others_done_is w.printing) ∙ ap (λ v. joining u v ts) (adds_none w)

-- the first other member
late_is : (t : Syntax) → late_of true t ≡ print_firsts (firsts t)
late_is (More true s sp t) = ap (with_comma (print s) sp) (late_is t)
late_is (More false s sp t) = late_is t
late_is (Last true s) = refl
late_is (Last false s) = refl
late_is _ = refl

split : (l : Parser) (w : Written) → w.printing ≡ true → (o : Out) → copied_row w (row_member (wrap Right o) l) ≡ copied_others w (blank true) (row_member (wrap Right o) l)
unfolding adds added
split l w q None = refl
split l w q (Some p) = go (sees at_row_comma p.1)
  where
    s : Syntax
    s = p.0

    more_is : (sp : Span) (t : Syntax) (r : Stream) → copied_row w (Some (More false s sp t, r)) ≡ copied_others w (blank true) (Some (More false s sp t, r))
    more_is sp t r =
        ap (λ a. Reached (adds w (row_of a (More false s sp t))) r) q ∙ ap (λ i. Reached (adds w (i ⧺ with_comma (print s) sp (others_of true t))) r) (sym (late_is t))
        ∙ ap (λ v. Reached v r) (sym (adds_more w (late_of true t) (with_comma (print s) sp (others_of true t)))) ∙ ap (λ a. Reached (adds (adds w (late_of a t)) (with_comma (print s) sp (others_of true t))) r) (sym q)

    last_is : (r : Stream) → copied_row w (Some (Last false s, r)) ≡ copied_others w (blank true) (Some (Last false s, r))
    last_is r = ap (λ a. Reached (adds w (row_of a (Last false s))) r) q ∙ ap (λ v. Reached (adds v (print (Last false s))) r) (sym (adds_none w))

    after_comma : (sp : Span) (o : Out) → copied_row w (wrap (More false s sp) o) ≡ copied_others w (blank true) (wrap (More false s sp) o)
    after_comma sp None = refl
    after_comma sp (Some x) = more_is sp x.0 x.1

    comma_read : (o : Out) → copied_row w (row_comma (Right s) o l) ≡ copied_others w (blank true) (row_comma (Right s) o l)
    comma_read None = refl
    comma_read (Some c) = after_comma (span_of c.0) (l c.1)

    go : (b : Bool) → copied_row w (row_after b (Right s) p.1 l) ≡ copied_others w (blank true) (row_after b (Right s) p.1 l)
    go true = comma_read (take_mark comma p.1)
    go false = last_is p.1

pub row_split : (k : list.List) (w : Written) (ts : Stream) → w.printing ≡ true → sees at_row_end ts ≡ false → Settles k ts false → copy_row k w ts ≡ next (copy_form (other_form k) (blank true) ts) (after_other k w)
unfolding copy_row copy_form
row_split k w ts q e h =
    ap (copied_row w) (other_present k ts e h) ∙ split (members k) w q (parse_form (other_form k) ts) ∙ others_right k w (blank true) (parse_form (other_form k) ts)

-- a comma that is supplied
pub comma_written : (a : Bool) (c : T_Span) → way a (syntax_of_mark (44 ∷ []) (c ∷ [])) ≡ punct 44 false (at c) end
comma_written true c = refl
comma_written false c = refl
