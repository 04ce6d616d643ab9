-- Rows from the left: what one iteration of a loop parses.
use Rattle.std.proofs.Common.{◌≡◌, Bool, true, false, List, [], ◌∷◌, ◌++◌, Some, None, refl, sym, ap, ◌∙◌}
use Rattle.syn_grammar.specs.Words.{comma}
use Rattle.syn_grammar.specs.Tokens.{Stream, pick}
use Rattle.syn_grammar.specs.Grammar.{Syntax, Grammar, either, mark, Mark, Done, Left, Right, Last, More, at_row_end, at_row_comma}
use Rattle.syn_grammar.specs.Take.{Out, Parser, sees, take_mark}
use Rattle.syn_grammar.specs.Run.{wrap, last, more, span_of, row_from, row_member, row_after, row_comma, rows}
use Rattle.syn_grammar.proofs.Run.{row_is}
use Rattle.syn_parse.specs.Form.{Condition, by, meets, Form, of, parse}
use Rattle.syn_tokens.specs.Listing.{list_of}
use Rattle.syn_tokens.specs.Ordered.{place_of, ordered_of, member_of, ordered_onto}
use Rattle.syn_parse.specs.Listing.{IsRowOf, member_and_others}
use Rattle.syn_parse.proofs.Listing.{wrap_wrap, wrap_same}

-- the row of a form `ordered` or `row`
pub row_of : (g h : Grammar) → IsRowOf (of (either g h)) (by at_row_end) (by at_row_comma) (of (mark false comma))
row_of g h = record { is = λ ts. row_is g h ts ∙ from (sees at_row_end ts) ts }
  where
    P : Parser
    P = parse (of (either g h))

    others : Parser
    others = rows P

    after : (b : Bool) (s : Syntax) (r : Stream) → row_after b s r others ≡ pick b (row_comma s (take_mark comma r) others) (Some (last s, r))
    after true s r = refl
    after false s r = refl

    member : (o : Out) → row_member o others ≡ member_and_others (by at_row_comma) (of (mark false comma)) others o
    member None = refl
    member (Some p) = after (sees at_row_comma p.1) p.0 p.1

    from : (b : Bool) (ts : Stream) → row_from b P others ts ≡ pick b (Some (Done, ts)) (member_and_others (by at_row_comma) (of (mark false comma)) others (P ts))
    from true ts = refl
    from false ts = member (P ts)

-- the last member
pub last_member : (first : Syntax → Bool) (s : Syntax) → last (member_of first s) ≡ Last (first s) s
last_member first s = go (first s)
  where
    go : (b : Bool) → last (pick b (Left s) (Right s)) ≡ Last b s
    go true = refl
    go false = refl

place : (c : Syntax) → span_of c ≡ place_of c
place (Mark []) = refl
place (Mark ((c, sp) ∷ [])) = refl
place (Mark (x ∷ y ∷ l)) = refl
place _ = refl

-- a member with others after it
pub more_member : (first : Syntax → Bool) (s c t : Syntax) → more (member_of first s) (span_of c) t ≡ More (first s) s (place_of c) t
more_member first s c t = go (first s)
  where
    go : (b : Bool) → more (pick b (Left s) (Right s)) (span_of c) t ≡ More b s (place_of c) t
    go true = ap (λ sp. More true s sp t) (place c)
    go false = ap (λ sp. More false s sp t) (place c)

module _ {T P : Type 0} (first : Syntax → Bool) (v : T → Syntax) (w : P → Syntax) where
  ordered_more : (l : List (T × P)) (x : T × P) (s : Syntax) → ordered_onto first v w (l ++ x ∷ []) s ≡ ordered_onto first v w l (More (first (v x.0)) (v x.0) (place_of (w x.1)) s)
  ordered_more [] x s = refl
  ordered_more (y ∷ l) x s = ap (More (first (v y.0)) (v y.0) (place_of (w y.1))) (ordered_more l x s)

  -- one more member with its comma is parsed
  pub ordered_grows : (l : List (T × P)) (x : T × P) (o : Out) →
      wrap (ordered_onto first v w l) (wrap (More (first (v x.0)) (v x.0) (place_of (w x.1))) o) ≡ wrap (ordered_onto first v w (l ++ x ∷ [])) o
  ordered_grows l x o =
      wrap_wrap (ordered_onto first v w l) (More (first (v x.0)) (v x.0) (place_of (w x.1))) o
      ∙ wrap_same _ _ (λ s. sym (ordered_more l x s)) o

  -- members, and one without a comma; or no member
  pub ordered_last : (l : List (T × P)) (t : T) → ordered_onto first v w l (Last (first (v t)) (v t)) ≡ ordered_of first (list_of v w l (Some t))
  ordered_last [] t = refl
  ordered_last (y ∷ l) t = ap (More (first (v y.0)) (v y.0) (place_of (w y.1))) (ordered_last l t)

  pub ordered_done : (l : List (T × P)) → ordered_onto first v w l Done ≡ ordered_of first (list_of v w l None)
  ordered_done [] = refl
  ordered_done (y ∷ l) = ap (More (first (v y.0)) (v y.0) (place_of (w y.1))) (ordered_done l)

module _ {T P : Type 0} (first : Syntax → Bool) (v : T → Syntax) (w : P → Syntax) (e : Form) (stop next : Condition) (sep : Form) (is : IsRowOf e stop next sep) (ts : Stream) where
  pub row_end : meets stop ts ≡ true → rows (parse e) ts ≡ Some (Done, ts)
  row_end h = is.is ts ∙ rw h refl

  pub row_refused : meets stop ts ≡ false → parse e ts ≡ None → rows (parse e) ts ≡ None
  row_refused h a = is.is ts ∙ rw (h, a) refl

  -- a member without a comma
  pub row_last : (x : T) (m : Stream) → meets stop ts ≡ false → parse e ts ≡ Some (member_of first (v x), m) → meets next m ≡ false → rows (parse e) ts ≡ Some (Last (first (v x)) (v x), m)
  row_last x m h a b = is.is ts ∙ rw (h, a) (rw b (ap (λ s. Some (s, m)) (last_member first (v x))))

  pub row_no_separator : (x : T) (m : Stream) → meets stop ts ≡ false → parse e ts ≡ Some (member_of first (v x), m) → meets next m ≡ true → parse sep m ≡ None → rows (parse e) ts ≡ None
  row_no_separator x m h a b c = is.is ts ∙ rw (h, a) (rw (b, c) refl)

  -- a member with its comma, and the others
  pub row_more : (x : T) (q : P) (m n : Stream) → meets stop ts ≡ false → parse e ts ≡ Some (member_of first (v x), m) → meets next m ≡ true → parse sep m ≡ Some (w q, n) →
      rows (parse e) ts ≡ wrap (More (first (v x)) (v x) (place_of (w q))) (rows (parse e) n)
  row_more x q m n h a b c = is.is ts ∙ rw (h, a) (rw (b, c) (wrap_same _ _ (λ s. more_member first (v x) (w q) s) (rows (parse e) n)))
