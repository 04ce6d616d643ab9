-- The prints of items, one after the other, are a file of them.
use Rattle.std.proofs.Common.{◌≡◌, Bool, true, false, Some, None, refl, sym, ap, ap₂, ◌∙◌, ◌⊎◌, inl, inr, arith, ◌<◌}
use Rattle.std.specs.Prelude.{List, [], ◌∷◌, map}
use Rattle.syn_grammar.specs.Words.{pound}
use Rattle.syn_grammar.specs.Tokens.{Span, Delimiter, Bracket, Stream, punct, group, ◌⧺◌, and, ended, present, has_fact, Before_bang, lookahead}
use Rattle.syn_grammar.specs.Rules.{attributes, meta, item, items}
use Rattle.syn_grammar.specs.Grammar.{rule, ◌&◌, inside, unshown, Syntax, Nothing, Mark, Group, Node, Both, Left, Right, Unshown, DerivesPrefix, print, normal}
use Rattle.syn_grammar.specs.Forms.{asking_punctuation}
use Rattle.syn_grammar.specs.Table.{table, at_pound, at_inner_attribute}
use Rattle.syn_grammar.specs.Laws.{Derives}
use Rattle.syn_grammar.specs.Take.{Out, left}
use Rattle.syn_grammar.specs.Run.{parse_rule, value_of}
use Rattle.syn_grammar.specs.Plan.{follow, run_plan}
use Rattle.syn_grammar.specs.ItemPlan.{item_plan, item_after}
use Rattle.syn_grammar.specs.Rules.{kept_item}
use Rattle.syn_grammar.specs.Listed.{first_part, other_parts, of_rule, of_choice}
use Rattle.syn_grammar.specs.Joined.{items_among, prints, AllDerived, JoinedItems, JoinedIsVisible}
use Rattle.syn_grammar.proofs.Means.{means, parse_rule_found}
use Rattle.syn_grammar.proofs.Run.{parse_rule_less}
use Rattle.syn_grammar.proofs.Takes.{TreeAndRest}
use Rattle.syn_grammar.proofs.Proved.{print_is_read, print_is_visible, item_ends}
use Rattle.syn_grammar.proofs.ItemPlan.{item_plan_is}
use Rattle.syn_grammar.proofs.Streams.{lookahead_end, visible_append}
use Rattle.syn_grammar.proofs.Listed.{in_sequence, in_rule, in_choice}

-- ---- what begins with attributes begins with no inner one
no_bang : (j : Bool) (d : Delimiter) (sp o c : Span) (i r : Stream) → present at_inner_attribute (punct 35 j sp (group d o c i r)) ≡ false
no_bang false d sp o c i r = refl
no_bang true d sp o c i r = refl

grouped : (s : Syntax) (ts r : Stream) → DerivesPrefix table (inside Bracket (rule meta)) s ts r → (d : Delimiter) × (o c : Span) × (i : Stream) × (ts ≡ group d o c i r)
grouped (Group d o c s) ts r (e, i, q, a) = (d, o, c, i, q)
grouped _ ts r a = elim a [ ]

marked : (s : Syntax) (ts r : Stream) → DerivesPrefix table (asking_punctuation pound) s ts r → (j : Bool) × (sp : Span) × (ts ≡ punct 35 j sp r)
marked (Mark []) ts r (e, h) = absurd h
marked (Mark (x ∷ [])) ts r (e, (j, q)) = let a : x.0 ≡ 35 = cc e in (j, x.1, q ∙ ap (λ n. punct n j x.1 r) a)
marked (Mark (x ∷ y ∷ l)) ts r (e, h) = absurd (cc e)
marked _ ts r d = elim d [ ]

not_inner : (s : Syntax) (ts r : Stream) → DerivesPrefix table (rule attributes) s ts r → present at_inner_attribute ts ≡ false
not_inner s ts r d = go (in_choice at_pound ((asking_punctuation pound & inside Bracket (rule meta)) & rule attributes) unshown (of_rule s) ts r (in_rule attributes s ts r d))
  where
    go : ((present at_pound ts ≡ true) × DerivesPrefix table ((asking_punctuation pound & inside Bracket (rule meta)) & rule attributes) (of_choice (of_rule s)) ts r)
        ⊎ ((present at_pound ts ≡ false) × DerivesPrefix table unshown (of_choice (of_rule s)) ts r) → present at_inner_attribute ts ≡ false
    go (inl (e, a)) =
        let t = of_choice (of_rule s) in
        let (m, b, c) = in_sequence (asking_punctuation pound & inside Bracket (rule meta)) (rule attributes) t ts r a in
        let (n, x, y) = in_sequence (asking_punctuation pound) (inside Bracket (rule meta)) (first_part t) ts m b in
        let (j, sp, q) = marked (first_part (first_part t)) ts n x in
        let (g, o, k, i, p) = grouped (other_parts (first_part t)) n m y in
        ap (present at_inner_attribute) (q ∙ ap (punct 35 j sp) p) ∙ no_bang j g sp o k i m
    go (inr (e, a)) = ap (λ b. and b (has_fact Before_bang (lookahead ts).facts)) e

-- an item begins with attributes
begins_with : (ts : Stream) (x : TreeAndRest) → parse_rule item ts ≡ Some x → (a : TreeAndRest) × (parse_rule attributes ts ≡ Some a)
unfolding item_plan
begins_with ts x e = go (parse_rule attributes ts) refl (sym (item_plan_is ts) ∙ e)
  where
    go : (o : Out) → parse_rule attributes ts ≡ o → follow (λ s r. run_plan (item_after s) kept_item ts r) o ≡ Some x → (a : TreeAndRest) × (parse_rule attributes ts ≡ Some a)
    go (Some a) q f = (a, q)
    go None q f = absurd (cc f)

item_not_inner : (s : Syntax) (ts r : Stream) → DerivesPrefix table (rule item) s ts r → present at_inner_attribute ts ≡ false
item_not_inner s ts r d =
    let (a, e) = begins_with ts (value_of s, r) (parse_rule_found item ts s r d) in
    let (t, b, v) = (means attributes ts a.0 a.1).0 e in
    not_inner t ts a.1 b

-- something is left where an item is read
item_not_ended : (s : Syntax) (ts r : Stream) → DerivesPrefix table (rule item) s ts r → present ended ts ≡ false
unfolding left
item_not_ended s ts r d = go (present ended ts) refl (parse_rule_less item ts (value_of s, r) (parse_rule_found item ts s r d))
  where
    go : (b : Bool) → present ended ts ≡ b → left r < left ts → b ≡ false
    go false e h = refl
    go true e h = let q = ap left (lookahead_end ts e) in absurd (omega (arith, h, q))

-- ---- items, one after the other
abbrev Row : Stream → List Syntax → Type 0
Row p trees = (t : Syntax) × Derives items p t × (map normal (items_among t) ≡ map normal trees)

row_of : (pieces : List Stream) (trees : List Syntax) → AllDerived pieces trees → Row (prints trees) trees
row_of [] [] d = (Node (Left Nothing), (refl, refl), refl)
row_of (a ∷ l) (s ∷ m) (d, ds) =
    let (t, e, n) = row_of l m ds in
    let (u, b, q) = print_is_read item a s d in
    let c = item_ends (print s) (prints m) u b in
    (Node (Right (Both u t)), (item_not_ended u (print s ⧺ prints m) (prints m) c, (prints m, c, e)), ap₂ ◌∷◌ q n)
row_of [] (s ∷ m) d = absurd d
row_of (a ∷ l) [] d = absurd d

first_not_inner : (pieces : List Stream) (trees : List Syntax) → AllDerived pieces trees → present at_inner_attribute (prints trees) ≡ false
first_not_inner [] [] d = refl
first_not_inner (a ∷ l) (s ∷ m) (d, ds) =
    let (u, b, q) = print_is_read item a s d in
    item_not_inner u (print s ⧺ prints m) (prints m) (item_ends (print s) (prints m) u b)
first_not_inner [] (s ∷ m) d = absurd d
first_not_inner (a ∷ l) [] d = absurd d

pub joined_items : JoinedItems
joined_items pieces trees d =
    let p = prints trees in
    let (t, e, n) = row_of pieces trees d in
    let none = Node (Right (Unshown Nothing)) in
    record {
      tree = Node (Both (Unshown Nothing) (Both (Unshown Nothing) (Both none t)));
      derived = (p, (refl, refl), (p, (refl, refl), (p, (first_not_inner pieces trees d, (refl, refl)), e)));
      no_attributes = refl;
      same_normal = n;
    }

pub joined_is_visible : JoinedIsVisible
joined_is_visible [] [] v d = refl
joined_is_visible (a ∷ l) (s ∷ m) (v, vs) (d, ds) = visible_append (print s) (prints m) ∙ ap₂ and (print_is_visible item a s v d) (joined_is_visible l m vs ds)
joined_is_visible [] (s ∷ m) v d = absurd d
joined_is_visible (a ∷ l) [] v d = absurd d
