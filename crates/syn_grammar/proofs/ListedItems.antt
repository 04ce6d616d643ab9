-- A file is listed item by item.
use Rattle.std.proofs.Common.{◌≡◌, true, false, None, refl, sym, ap, ◌∙◌, subst, true≢false, ◌⊎◌, inl, inr}
use Rattle.std.specs.Prelude.{List, [], ◌∷◌, ◌++◌}
use Rattle.std.proofs.lemmas.List.{append-nil, append_assoc}
use Rattle.syn_grammar.specs.Tokens.{Stream, end, ended, present}
use Rattle.syn_grammar.specs.Rules.{Rule, inner_attributes, item, items, file}
use Rattle.syn_grammar.specs.Grammar.{rule, ◌&◌, empty, unshown, Syntax, Nothing, Node, Case, Both, Left, Right, Unshown, DerivesPrefix}
use Rattle.syn_grammar.specs.Table.{table}
use Rattle.syn_grammar.specs.Laws.{Derives}
use Rattle.syn_grammar.specs.Promises.{Refused}
use Rattle.syn_grammar.specs.Take.{sees}
use Rattle.syn_grammar.specs.Run.{parse_rule}
use Rattle.syn_grammar.specs.EntryPoints.{IsKind}
use Rattle.syn_grammar.specs.Listed.{Listed, first_part, other_parts, of_rule, of_choice, listed_item, listed_items, ListedSoFar, name_ahead, ListingBegins, ListingContinues, ListingEnds, ListingRefused}
use Rattle.syn_grammar.proofs.Means.{means, refused}
use Rattle.syn_grammar.proofs.Takes.{sees_present}
use Rattle.syn_grammar.proofs.Proved.{one_tree}
use Rattle.syn_grammar.proofs.Streams.{lookahead_end}
use Rattle.syn_grammar.proofs.Listed.{in_sequence, in_rule, in_choice, names_ahead}

-- A FILE: what is never printed, inner attributes and items
abbrev file_of : Syntax → Syntax → Syntax
file_of a t = Node (Both (Unshown Nothing) (Both (Unshown Nothing) (Both a t)))

in_unshown : (s : Syntax) (ts r : Stream) → DerivesPrefix table unshown s ts r → ts ≡ r
in_unshown (Unshown s) ts r d = d.1
in_unshown _ ts r d = elim d [ ]

-- its inner attributes, and what follows them
in_file : (tree : Syntax) (ts : Stream) → Derives file ts tree → (a t : Syntax) × (m : Stream) × DerivesPrefix table (rule inner_attributes) a ts m × Derives items m t
in_file tree ts d =
    let s = of_rule tree in
    let t = other_parts s in
    let a = first_part (other_parts t) in
    let (n, u, e) = in_sequence unshown (unshown & rule inner_attributes & rule items) s ts end (in_rule file tree ts end d) in
    let (o, v, f) = in_sequence unshown (rule inner_attributes & rule items) t n end e in
    let (m, b, c) = in_sequence (rule inner_attributes) (rule items) (other_parts t) o end f in
    (a, other_parts (other_parts t), m, subst (λ z. DerivesPrefix table (rule inner_attributes) a z m) (sym (in_unshown (first_part s) ts n u ∙ in_unshown (first_part t) n o v)) b, c)

of_file : (a t : Syntax) (ts m : Stream) → DerivesPrefix table (rule inner_attributes) a ts m → Derives items m t → Derives file ts (file_of a t)
of_file a t ts m b c = (ts, (refl, refl), (ts, (refl, refl), (m, b, c)))

-- an item, and the items after it
in_items : (t : Syntax) (m : Stream) → present ended m ≡ false → Derives items m t → (s u : Syntax) × (r : Stream) × DerivesPrefix table (rule item) s m r × Derives items r u
in_items t m e d = go (in_choice ended empty (rule item & rule items) (of_rule t) m end (in_rule items t m end d))
  where
    go : ((present ended m ≡ true) × DerivesPrefix table empty (of_choice (of_rule t)) m end) ⊎ ((present ended m ≡ false) × DerivesPrefix table (rule item & rule items) (of_choice (of_rule t)) m end) →
        (s u : Syntax) × (r : Stream) × DerivesPrefix table (rule item) s m r × Derives items r u
    go (inl (f, a)) = absurd (true≢false (sym f ∙ e))
    go (inr (f, a)) = let (r, b, c) = in_sequence (rule item) (rule items) (of_choice (of_rule t)) m end a in (first_part (of_choice (of_rule t)), other_parts (of_choice (of_rule t)), r, b, c)

-- a node of a kind
as_item : (k : Rule) (t : Syntax) (m r : Stream) → IsKind item k → DerivesPrefix table (rule k) t m r → (s : Syntax) × DerivesPrefix table (rule item) (Node (Case k s)) m r × (listed_item (Node (Case k s)) ≡ (k, name_ahead k m))
as_item k (Node s) m r i d = (s, (i, d), ap (λ n. (k, n)) (names_ahead k m s r i d))
as_item k _ m r i d = elim d [ ]

pub listing_begins : ListingBegins
listing_begins ts a m e =
    let (b, d, v) = (means inner_attributes ts a m).0 e in
    record {
      onward = λ t c. (file_of b t, of_file b t ts m d c, refl);
      back = λ tree f. let (b', t, m', d', c) = in_file tree ts f in (t, subst (λ z. Derives items z t) (one_tree inner_attributes ts b' b m' m d' d).1 c);
    }

pub listing_continues : ListingContinues
listing_continues ts l m k s r so_far e i p =
    let (t, d, v) = (means k m s r).0 p in
    let (u, b, q) = as_item k t m r i d in
    let n = sym (sees_present ended m) ∙ e in
    record {
      onward = λ t' c.
          let (tree, f, g) = so_far.onward (Node (Right (Both (Node (Case k u)) t'))) (n, (r, b, c)) in
          (tree, f, g ∙ ap (λ x. l ++ x ∷ listed_items t') q ∙ sym (append_assoc l ((k, name_ahead k m) ∷ []) (listed_items t')));
      back = λ tree f.
          let (t', c) = so_far.back tree f in
          let (w, x, r', b', c') = in_items t' m n c in
          (x, subst (λ z. Derives items z x) (one_tree item m w (Node (Case k u)) r' r b' b).1 c');
    }

-- at the end the items are none
no_items : (m : Stream) → sees ended m ≡ true → Derives items m (Node (Left Nothing))
no_items m e = (sym (sees_present ended m) ∙ e, lookahead_end m (sym (sees_present ended m) ∙ e))

pub listing_ends : ListingEnds
listing_ends ts l m so_far e =
    let (tree, f, g) = so_far.onward (Node (Left Nothing)) (no_items m e) in
    (tree, f, g ∙ append-nil l)

pub listing_refused : ListingRefused
listing_refused = (no_item, no_attributes)
  where
    no_item : (ts : Stream) (l : List Listed) (m : Stream) → ListedSoFar ts l m → sees ended m ≡ false → parse_rule item m ≡ None → Refused file ts
    no_item ts l m so_far e p tree f =
        let (t, c) = so_far.back tree f in
        let (s, u, r, a, b) = in_items t m (sym (sees_present ended m) ∙ e) c in
        refused item m p s r a

    no_attributes : (ts : Stream) → parse_rule inner_attributes ts ≡ None → Refused file ts
    no_attributes ts p tree f = let (a, t, m, b, c) = in_file tree ts f in refused inner_attributes ts p a m b
