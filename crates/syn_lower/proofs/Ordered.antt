-- Lists in `< >` print as rows: those that are printed first, and the others.
use Rattle.std.proofs.Common.{◌≡◌, ℕ, ◌+◌, ◌<◌, ◌≤◌, Bool, true, false, ◌||◌, List, [], ◌∷◌, length, drop, get_or, Option, Some, None, refl, sym, ap, ◌∙◌}
use Rattle.std.proofs.lemmas.List.{at_drop_more, drop_all}
use Rattle.std.specs.List.{list_any}
use Rattle.std.specs.Prelude.{not}
use Rattle.syn_grammar.specs.Tokens.{Span, call_site, Stream, end, punct, ◌⧺◌, pick, and}
use Rattle.syn_grammar.specs.Grammar.{Syntax, Done, Last, More, Order, print, show, renew, sort, following, spell}
use Rattle.syn_grammar.specs.Same.{same_bool}
use Rattle.syn_grammar.proofs.Streams.{append_end, append_append, append_spell}
use Rattle.syn_tokens.specs.Listing.{list_of}
use Rattle.syn_lower.specs.Ordered.{place_of, ordered_of}
use Rattle.syn_lower.specs.OrderedPrints.{sorted_print, comma_at, pair_part, last_part, part_row, comma_between, ordered_row}

-- what follows all members that are printed first
put : (Syntax → Syntax) → Syntax → Syntax
put z (More true s sp t) = More true s sp (put z t)
put z (Last true s) = More true s call_site (z Done)
put z t = z t

after_put : (s : Syntax) (sp : Span) (t : Syntax) → following s sp t ≡ put (More false s sp) t
unfolding put
after_put s sp (More true x q u) = ap (More true x q) (after_put s sp u)
after_put s sp (Last true x) = refl
after_put s sp t = refl

put_after : (z : Syntax → Syntax) (s : Syntax) (sp : Span) (t : Syntax) → put z (put (More false s sp) t) ≡ put (λ u. z (More false s sp u)) t
unfolding put
put_after z s sp (More true x q u) = ap (More true x q) (put_after z s sp u)
put_after z s sp (Last true x) = refl
put_after z s sp t = refl

and_yes : (b : Bool) → and b true ≡ b
and_yes true = refl
and_yes false = refl

regroup : (a c r q : Stream) → ((a ⧺ c) ⧺ r) ⧺ q ≡ a ⧺ (c ⧺ (r ⧺ q))
regroup a c r q = append_append (a ⧺ c) r q ∙ append_append a c (r ⧺ q)

after_part : (a s : Stream) (p : Span) (u : Stream) → a ⧺ (s ⧺ punct 44 false p u) ≡ (a ⧺ (s ⧺ comma_at p)) ⧺ u
after_part a s p u = ap (λ r. a ⧺ r) (sym (append_append s (comma_at p) u)) ∙ sym (append_append a (s ⧺ comma_at p) u)

-- a member with its comma: put into place, and at the beginning of a list
put_more : (z : Syntax → Syntax) (zs : Stream) (b : Bool) (s : Syntax) (p : Span) (m : Syntax) (firsts others c : Stream)
    → show (put z (sort m)) ≡ firsts ⧺ (c ⧺ (zs ⧺ others))
    → show (put (λ u. z (More false s p u)) (sort m)) ≡ firsts ⧺ (c ⧺ ((zs ⧺ (show s ⧺ comma_at p)) ⧺ others))
    → show (put z (sort (More b s p m))) ≡ (pick (same_bool true b) (show s ⧺ comma_at p) end ⧺ firsts) ⧺ (c ⧺ (zs ⧺ (pick (same_bool false b) (show s ⧺ comma_at p) end ⧺ others)))
unfolding put
put_more z zs true s p m firsts others c first other = ap (λ u. show s ⧺ punct 44 false p u) first ∙ sym (regroup (show s) (comma_at p) firsts (c ⧺ (zs ⧺ others)))
put_more z zs false s p m firsts others c first other =
    ap (λ u. show (put z u)) (after_put s p (sort m)) ∙ ap show (put_after z s p (sort m)) ∙ other ∙ ap (λ r. firsts ⧺ (c ⧺ r)) (append_append zs (show s ⧺ comma_at p) others)

sorted_more : (b : Bool) (s : Syntax) (p : Span) (m : Syntax) (firsts others c : Stream)
    → (b ≡ true → show (sort m) ≡ firsts ⧺ (c ⧺ others))
    → (b ≡ false → show (put (More false s p) (sort m)) ≡ firsts ⧺ (c ⧺ ((show s ⧺ comma_at p) ⧺ others)))
    → show (sort (More b s p m)) ≡ (pick (same_bool true b) (show s ⧺ comma_at p) end ⧺ firsts) ⧺ (c ⧺ (pick (same_bool false b) (show s ⧺ comma_at p) end ⧺ others))
sorted_more true s p m firsts others c first other = ap (λ u. show s ⧺ punct 44 false p u) (first refl) ∙ sym (regroup (show s) (comma_at p) firsts (c ⧺ others))
sorted_more false s p m firsts others c first other = ap show (after_put s p (sort m)) ∙ other refl

module _ {T P : Type 0} (f : Syntax → Bool) (v : T → Syntax) (w : P → Syntax) where
  -- a list, as it is printed
  abbrev sorted : List (T × P) → Option T → Syntax
  sorted l o = sort (renew (ordered_of f (list_of v w l o)))

  -- the comma after the last member, if it is printed first and others follow it then
  abbrev last_comma : Option T → Stream
  last_comma None = end
  last_comma (Some t) = pick (f (v t)) (comma_at call_site) end

  comma_before_other : (x : T × P) (l : List (T × P)) (o : Option T) → f (v x.0) ≡ false → comma_between f v w (x ∷ l) o ≡ last_comma o
  comma_before_other x l None e = refl
  comma_before_other x l (Some t) e = ap (λ b. pick (and (f (v t)) (not b || list_any (λ (y : T × P). not (f (v y.0))) l)) (comma_at call_site) end) e ∙ ap (λ b. pick b (comma_at call_site) end) (and_yes (f (v t)))

  comma_before_first : (x : T × P) (l : List (T × P)) (o : Option T) → f (v x.0) ≡ true → comma_between f v w (x ∷ l) o ≡ comma_between f v w l o
  comma_before_first x l None e = refl
  comma_before_first x l (Some t) e = ap (λ b. pick (and (f (v t)) (not b || list_any (λ (y : T × P). not (f (v y.0))) l)) (comma_at call_site) end) e

  -- what is put after all members that are printed first is before the others
  put_row : (z : Syntax → Syntax) (zs : Stream) → ((t : Syntax) → show (z t) ≡ zs ⧺ show t) → (l : List (T × P)) (o : Option T) →
      show (put z (sorted l o)) ≡ part_row f v w true l o ⧺ (last_comma o ⧺ (zs ⧺ part_row f v w false l o))
  unfolding put pair_part last_part
  put_row z zs h [] None = h Done
  put_row z zs h [] (Some t) = go (f (v t))
    where
      go : (b : Bool) → show (put z (sort (Last b (renew (v t))))) ≡ pick (same_bool true b) (print (v t)) end ⧺ (pick b (comma_at call_site) end ⧺ (zs ⧺ pick (same_bool false b) (print (v t)) end))
      go true = ap (λ u. print (v t) ⧺ punct 44 false call_site u) (h Done)
      go false = h (Last false (renew (v t)))
  put_row z zs h (x ∷ l) o =
      put_more z zs (f (v x.0)) (renew (v x.0)) (place_of (w x.1)) (renew (ordered_of f (list_of v w l o))) _ _ _ (put_row z zs h l o)
      (put_row (λ u. z (More false (renew (v x.0)) (place_of (w x.1)) u)) (zs ⧺ (print (v x.0) ⧺ comma_at (place_of (w x.1))))
      (λ u. h (More false (renew (v x.0)) (place_of (w x.1)) u) ∙ after_part zs (print (v x.0)) (place_of (w x.1)) (show u)) l o)

  pub sorted_row : (l : List (T × P)) (o : Option T) → sorted_print (ordered_of f (list_of v w l o)) ≡ ordered_row f v w l o
  unfolding pair_part last_part
  sorted_row [] None = refl
  sorted_row [] (Some t) = go (f (v t))
    where
      go : (b : Bool) → show (sort (Last b (renew (v t)))) ≡ pick (same_bool true b) (print (v t)) end ⧺ (pick (and b false) (comma_at call_site) end ⧺ pick (same_bool false b) (print (v t)) end)
      go true = sym (append_end (print (v t)))
      go false = refl
  sorted_row (x ∷ l) o =
      sorted_more (f (v x.0)) (renew (v x.0)) (place_of (w x.1)) (renew (ordered_of f (list_of v w l o))) _ _ _
      (λ e. sorted_row l o ∙ ap (λ c. part_row f v w true l o ⧺ (c ⧺ part_row f v w false l o)) (sym (comma_before_first x l o e)))
      (λ e. put_row (More false (renew (v x.0)) (place_of (w x.1))) (print (v x.0) ⧺ comma_at (place_of (w x.1)))
      (λ u. sym (append_append (print (v x.0)) (comma_at (place_of (w x.1))) (show u))) l o
      ∙ ap (λ c. part_row f v w true l o ⧺ (c ⧺ ((print (v x.0) ⧺ comma_at (place_of (w x.1))) ⧺ part_row f v w false l o))) (sym (comma_before_other x l o e)))

  -- what is left of a list, one step on
  pub part_step : (b : Bool) (l : List (T × P)) (o : Option T) (i : ℕ) (d : T × P) → i < length l →
      part_row f v w b (drop i l) o ≡ pair_part f v w b (get_or l i d) ⧺ part_row f v w b (drop (i + 1) l) o
  part_step b l o i d h = at_drop_more (λ m. part_row f v w b m o) l i d h

  pub part_done : (b : Bool) (l : List (T × P)) (o : Option T) (i : ℕ) → length l ≤ i → part_row f v w b (drop i l) o ≡ last_part f v b o
  part_done b l o i h = ap (λ m. part_row f v w b m o) (drop_all i l h)

pub no_last : {T : Type 0} (f : Syntax → Bool) (v : T → Syntax) (b : Bool) → last_part f v b None ≡ end
unfolding last_part
no_last f v b = refl

-- `<`, a list, and `>`
pub print_order : (xs : List (ℕ × Span)) (l : Syntax) (ys : List (ℕ × Span)) → print (Order xs l ys) ≡ spell xs end ⧺ (sorted_print l ⧺ spell ys end)
print_order xs l ys = sym (append_spell xs end (sorted_print l ⧺ spell ys end))
