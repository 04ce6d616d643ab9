-- Parts that aren't printed where their list is empty.
use Rattle.std.proofs.Common.{◌≡◌, Bool, true, false, Some, None, refl, sym, ap, ap₂, ◌∙◌, subst, true≢false}
use Rattle.syn_grammar.specs.Words.{colon, comma, less, greater, w_where}
use Rattle.syn_grammar.specs.Tokens.{Stream, Look, Leaf, ident, literal, end, and, no, pick, same_text}
use Rattle.syn_grammar.specs.Rules.{lifetimes, parameter_bounds, predicates, supertraits, type_bounds, lifetime_parameter}
use Rattle.syn_grammar.specs.Grammar.{Syntax, Nothing, Both, Left, Right, Node, Vanishing, Order, Done, Last, More, bare, bare_leaf, word, fits, show, renew, at_row_comma, Grammar, ◌&◌, rule, ordered, vanishing, at_row_end}
use Rattle.syn_grammar.specs.Table.{table, parameter, at_parameter_end, at_predicate_end, at_supertraits_end, at_type_bounds_end}
use Rattle.syn_grammar.specs.Take.{Out, sees, take_mark}
use Rattle.syn_grammar.specs.Run.{and_then, branch, first_of, parse_form, parse_rule, vanish, wrap, rows, row_opened, row_closed, close_row, row_member, row_after, row_comma, marks_of, span_of}
use Rattle.syn_grammar.proofs.Each.{lifetimes_is, parameter_bounds_is, predicates_is, supertraits_is, type_bounds_is}
use Rattle.syn_grammar.proofs.Run.{inv_wrap, inv_then}
use Rattle.syn_grammar.proofs.Takes.{TreeAndRest, mark_known, token_known}
use Rattle.syn_tokens.specs.Leaves.{is_known_word}
use Rattle.syn_parse.proofs.Words.{fits_word}
use Rattle.syn_recognize.specs.declared.fading.Fading as fading
use Rattle.syn_recognize.specs.declared.fading.Fading.TheVariants as Fading-m
use Rattle.syn_recognize.specs.declared.list.List.TheVariants as List-m
use Rattle.syn_recognize.specs.Within.{first, second}
use Rattle.syn_recognize.specs.Ordered.{member, first_form, other_form}
use Rattle.syn_recognize.specs.Fading.{head_form, fading_look, list_rule, fading_form, begins_list}
use Rattle.syn_recognize.specs.PrintedRows.{way}
use Rattle.syn_recognize.specs.Written.{Written, adds}
use Rattle.syn_recognize.specs.Copies.{Reached, Refused, copied, copy_form, next}
use Rattle.syn_recognize.proofs.Copied.{nothing, then_is}
use Rattle.syn_recognize.proofs.Solid.{NeverBare, never_bare, rule_never_bare, shown, shows}
use Rattle.syn_recognize.proofs.Lists.{none_present, one_present}

-- WHAT IS STORED OF SUCH A PART

gone : (a : Bool) → way a (Vanishing false (Right Nothing)) ≡ end
gone true = refl
gone false = refl

kept_shown : (w : Written) (o : Out) → w.printing ≡ false → copied w (vanish false (wrap Left o)) ≡ copied w o
kept_shown w None p = refl
kept_shown w (Some x) p = ap (λ i. Reached (adds w i) x.1) (is w.printing p)
  where
    is : (a : Bool) → a ≡ false → way a (Vanishing false (Left x.0)) ≡ way a x.0
    is true e = absurd (true≢false e)
    is false e = refl

kept_printed : (w : Written) (o : Out) → NeverBare o → copied w (vanish false (wrap Left o)) ≡ copied w o
kept_printed w None n = refl
kept_printed w (Some x) n = ap (λ i. Reached (adds w i) x.1) (is w.printing)
  where
    is : (a : Bool) → way a (Vanishing false (Left x.0)) ≡ way a x.0
    is true = ap (λ b. print_of b) (n x refl)
      where
        print_of : Bool → Stream
        print_of b = show (pick b (Right Nothing) (Left (renew x.0)))
    is false = refl

bare_gone : (w : Written) (s : Syntax) (r : Stream) → w.printing ≡ true → bare s ≡ true → copied w (vanish false (wrap Left (Some (s, r)))) ≡ Reached w r
bare_gone w s r p e = nothing w _ r (is w.printing p)
  where
    is : (a : Bool) → a ≡ true → way a (Vanishing false (Left s)) ≡ end
    is true q = ap (λ b. show (pick b (Right Nothing) (Left (renew s)))) e
    is false q = absurd (true≢false (sym q))

module _ (c : Look) (g : Grammar) (w : Written) (ts : Stream) where
  absent : sees c ts ≡ false → copy_form (vanishing false c g) w ts ≡ Reached w ts
  unfolding copy_form
  absent e = ap (λ a. copied w (vanish false (branch a (parse_form g ts) (Some (Nothing, ts))))) e ∙ nothing w _ ts (gone w.printing)

  present : sees c ts ≡ true → copy_form (vanishing false c g) w ts ≡ copied w (vanish false (wrap Left (parse_form g ts)))
  unfolding copy_form
  present e = ap (λ a. copied w (vanish false (branch a (parse_form g ts) (Some (Nothing, ts))))) e

  as_shown : sees c ts ≡ true → w.printing ≡ false → copy_form (vanishing false c g) w ts ≡ copy_form g w ts
  unfolding copy_form
  as_shown e p = present e ∙ kept_shown w (parse_form g ts) p

  as_printed : sees c ts ≡ true → NeverBare (parse_form g ts) → copy_form (vanishing false c g) w ts ≡ copy_form g w ts
  unfolding copy_form
  as_printed e n = present e ∙ kept_printed w (parse_form g ts) n

-- A LIST AFTER A COLON OR A WORD

not : (b : Bool) → no b ≡ true → b ≡ false
not false h = refl
not true h = absurd (cc h)

yes : (b : Bool) → no b ≡ false → b ≡ true
yes true h = refl
yes false h = absurd (cc h)

head_bare : (k : fading.Fading) (ts : Stream) (x : TreeAndRest) → parse_form (head_form k) ts ≡ Some x → bare x.0 ≡ true
unfolding is_known_word
head_bare Fading-m.Lifetimes ts x e = let z = mark_known colon ts x e in ap bare z.1 ∙ ap (λ l. same_text l colon) z.2
head_bare Fading-m.Bounds ts x e = let z = mark_known colon ts x e in ap bare z.1 ∙ ap (λ l. same_text l colon) z.2
head_bare Fading-m.Supertraits ts x e = let z = mark_known colon ts x e in ap bare z.1 ∙ ap (λ l. same_text l colon) z.2
head_bare Fading-m.TypeBounds ts x e = let z = mark_known colon ts x e in ap bare z.1 ∙ ap (λ l. same_text l colon) z.2
head_bare Fading-m.Predicates ts x e = let (y, sp, i, f, j) = token_known (word w_where) ts x e in ap bare i ∙ go y f
  where
    go : (y : Leaf) → fits (word w_where) y ≡ true → bare_leaf y ≡ true
    go (ident z) f = sym (fits_word w_where z refl) ∙ f
    go (literal k z) f = absurd (cc f)

-- the list has no member
abbrev Empty : fading.Fading → Stream → Type 0
Empty k ts = (t : Syntax) × (parse_rule (list_rule k) ts ≡ Some (t, ts)) × (bare t ≡ true)

list_empty : (k : fading.Fading) (ts : Stream) → begins_list k ts ≡ false → Empty k ts
list_empty Fading-m.Lifetimes ts e = (Node (Right Nothing), lifetimes_is ts ∙ ap (λ a. wrap Node (branch a (parse_form (first (table lifetimes)) ts) (Some (Nothing, ts)))) e, refl)
list_empty Fading-m.Bounds ts e = (Node (Left Nothing), parameter_bounds_is ts ∙ ap (λ a. wrap Node (branch a (Some (Nothing, ts)) (parse_form (second (table parameter_bounds)) ts))) (yes (sees at_parameter_end ts) e), refl)
list_empty Fading-m.Predicates ts e = (Node (Left Nothing), predicates_is ts ∙ ap (λ a. wrap Node (branch a (Some (Nothing, ts)) (parse_form (second (table predicates)) ts))) (yes (sees at_predicate_end ts) e), refl)
list_empty Fading-m.Supertraits ts e = (Node (Left Nothing), supertraits_is ts ∙ ap (λ a. wrap Node (branch a (Some (Nothing, ts)) (parse_form (second (table supertraits)) ts))) (yes (sees at_supertraits_end ts) e), refl)
list_empty Fading-m.TypeBounds ts e = (Node (Left Nothing), type_bounds_is ts ∙ ap (λ a. wrap Node (branch a (Some (Nothing, ts)) (parse_form (second (table type_bounds)) ts))) (yes (sees at_type_bounds_end ts) e), refl)

-- it has one
wrapped_never : (f : Syntax → Syntax) → ((s : Syntax) → bare (f s) ≡ bare s) → (o : Out) → NeverBare o → NeverBare (wrap f o)
wrapped_never f h o n x e = let z = inv_wrap f o x e in ap (λ (y : TreeAndRest). bare y.0) z.2 ∙ h z.0.0 ∙ n z.0 z.1

member_never : (g : Grammar) → shows (shown 6) g ≡ true → (ts : Stream) → NeverBare (parse_form g ts)
member_never g e ts = never_bare (shown 6) (rule_never_bare 6) g e ts

list_begun : (k : fading.Fading) (ts : Stream) → begins_list k ts ≡ true → NeverBare (parse_rule (list_rule k) ts)
list_begun Fading-m.Lifetimes ts e =
    subst NeverBare (sym (lifetimes_is ts ∙ ap (λ a. wrap Node (branch a (parse_form (first (table lifetimes)) ts) (Some (Nothing, ts)))) e))
    (wrapped_never Node (λ s. refl) _ (wrapped_never Left (λ s. refl) _ (member_never (first (table lifetimes)) refl ts)))
list_begun Fading-m.Bounds ts e =
    subst NeverBare (sym (parameter_bounds_is ts ∙ ap (λ a. wrap Node (branch a (Some (Nothing, ts)) (parse_form (second (table parameter_bounds)) ts))) (not (sees at_parameter_end ts) e)))
    (wrapped_never Node (λ s. refl) _ (wrapped_never Right (λ s. refl) _ (member_never (second (table parameter_bounds)) refl ts)))
list_begun Fading-m.Predicates ts e =
    subst NeverBare (sym (predicates_is ts ∙ ap (λ a. wrap Node (branch a (Some (Nothing, ts)) (parse_form (second (table predicates)) ts))) (not (sees at_predicate_end ts) e)))
    (wrapped_never Node (λ s. refl) _ (wrapped_never Right (λ s. refl) _ (member_never (second (table predicates)) refl ts)))
list_begun Fading-m.Supertraits ts e =
    subst NeverBare (sym (supertraits_is ts ∙ ap (λ a. wrap Node (branch a (Some (Nothing, ts)) (parse_form (second (table supertraits)) ts))) (not (sees at_supertraits_end ts) e)))
    (wrapped_never Node (λ s. refl) _ (wrapped_never Right (λ s. refl) _ (member_never (second (table supertraits)) refl ts)))
list_begun Fading-m.TypeBounds ts e =
    subst NeverBare (sym (type_bounds_is ts ∙ ap (λ a. wrap Node (branch a (Some (Nothing, ts)) (parse_form (second (table type_bounds)) ts))) (not (sees at_type_bounds_end ts) e)))
    (wrapped_never Node (λ s. refl) _ (wrapped_never Right (λ s. refl) _ (member_never (second (table type_bounds)) refl ts)))

module _ (k : fading.Fading) (w : Written) (ts : Stream) where
  pub fading_absent : sees (fading_look k) ts ≡ false → copy_form (fading_form k) w ts ≡ Reached w ts
  fading_absent e = absent (fading_look k) (head_form k & rule (list_rule k)) w ts e

  pub fading_shown : sees (fading_look k) ts ≡ true → w.printing ≡ false → copy_form (fading_form k) w ts ≡ next (copy_form (head_form k) w ts) (copy_form (rule (list_rule k)))
  fading_shown e p = as_shown (fading_look k) (head_form k & rule (list_rule k)) w ts e p ∙ then_is (head_form k) (rule (list_rule k)) w ts

  pub fading_refused : sees (fading_look k) ts ≡ true → parse_form (head_form k) ts ≡ None → copy_form (fading_form k) w ts ≡ Refused
  fading_refused e h = present (fading_look k) (head_form k & rule (list_rule k)) w ts e ∙ ap (λ o. copied w (vanish false (wrap Left (and_then o (parse_rule (list_rule k)))))) h

  pub fading_bare : (x : Syntax) (m : Stream) → sees (fading_look k) ts ≡ true → w.printing ≡ true → parse_form (head_form k) ts ≡ Some (x, m) → begins_list k m ≡ false → copy_form (fading_form k) w ts ≡ Reached w m
  fading_bare x m e p h b =
      let (t, q, i) = list_empty k m b in
      present (fading_look k) (head_form k & rule (list_rule k)) w ts e
      ∙ ap (λ o. copied w (vanish false (wrap Left (and_then o (parse_rule (list_rule k)))))) h
      ∙ ap (λ o. copied w (vanish false (wrap Left (wrap (Both x) o)))) q
      ∙ bare_gone w (Both x t) m p (ap₂ and (head_bare k ts (x, m) h) i)

  pub fading_kept : (x : Syntax) (m : Stream) → sees (fading_look k) ts ≡ true → parse_form (head_form k) ts ≡ Some (x, m) → begins_list k m ≡ true → copy_form (fading_form k) w ts ≡ next (copy_form (head_form k) w ts) (copy_form (rule (list_rule k)))
  fading_kept x m e h b = as_printed (fading_look k) (head_form k & rule (list_rule k)) w ts e never ∙ then_is (head_form k) (rule (list_rule k)) w ts
    where
      both : (a b : Bool) → b ≡ false → and a b ≡ false
      both true b f = f
      both false b f = refl

      never : NeverBare (parse_form (head_form k & rule (list_rule k)) ts)
      never y f =
          let z = inv_then (parse_form (head_form k) ts) (parse_rule (list_rule k)) y f in
          let same : z.0.1 ≡ m = rest_is (sym z.2 ∙ h) in
          ap (λ (y : TreeAndRest). bare y.0) z.4 ∙ both (bare z.0.0) (bare z.1.0) (list_begun k m b z.1 (ap (parse_rule (list_rule k)) (sym same) ∙ z.3))
        where
          rest_from : Stream → Out → Stream
          rest_from r (Some p) = p.1
          rest_from r None = r

          rest_is : {p q : TreeAndRest} → ◌≡◌ {A = Out} (Some p) (Some q) → p.1 ≡ q.1
          rest_is {p} i = ap (rest_from p.1) i

-- GENERICS

abbrev pub parameters : Grammar
parameters = ordered (rule lifetime_parameter) parameter

-- of at least one parameter
pub parameters_never : (x : Syntax) (m ts : Stream) → take_mark less ts ≡ Some (x, m) → sees at_row_end m ≡ false → NeverBare (parse_form parameters ts)
parameters_never x m ts h s = subst NeverBare (sym (ap (λ o. row_opened o (rows (member List-m.Parameters))) h)) (listed (rows (member List-m.Parameters) m) some)
  where
    listed : (o : Out) → NeverBare o → NeverBare (row_closed x o)
    listed None n = λ y i. absurd (cc i)
    listed (Some p) n = closing (take_mark greater p.1)
      where
        tree_bare : Out → Bool
        tree_bare (Some t) = bare t.0
        tree_bare None = false

        closing : (o : Out) → NeverBare (close_row x p.0 o)
        closing None = λ y i. absurd (cc i)
        closing (Some z) = λ y i. ap tree_bare (sym i) ∙ n p refl

    some : NeverBare (rows (member List-m.Parameters) m)
    some = subst NeverBare (sym (one_present List-m.Parameters m s)) (one (parse_form (first_form List-m.Parameters) m) (parse_form (other_form List-m.Parameters) m))
      where
        bare_in : Out → Bool
        bare_in (Some t) = bare t.0
        bare_in None = false

        ended : (s : Syntax) (r : Stream) → bare s ≡ false → NeverBare (Some (s, r))
        ended s r f y i = ap bare_in (sym i) ∙ f

        more_of : (f : Syntax → Syntax) → ((s : Syntax) → bare (f s) ≡ false) → (o : Out) → NeverBare (wrap f o)
        more_of f g o y i = let z = inv_wrap f o y i in ap (λ (y : TreeAndRest). bare y.0) z.2 ∙ g z.0.0

        after_left : (b : Bool) (s : Syntax) (r : Stream) → NeverBare (row_after b (Left s) r (rows (member List-m.Parameters)))
        after_left false s r = ended (Last true s) r refl
        after_left true s r = comma_left (take_mark comma r)
          where
            comma_left : (o : Out) → NeverBare (row_comma (Left s) o (rows (member List-m.Parameters)))
            comma_left None = λ y i. absurd (cc i)
            comma_left (Some c) = more_of (More true s (span_of c.0)) (λ t. refl) (rows (member List-m.Parameters) c.1)

        after_right : (b : Bool) (s : Syntax) (r : Stream) → NeverBare (row_after b (Right s) r (rows (member List-m.Parameters)))
        after_right false s r = ended (Last false s) r refl
        after_right true s r = comma_right (take_mark comma r)
          where
            comma_right : (o : Out) → NeverBare (row_comma (Right s) o (rows (member List-m.Parameters)))
            comma_right None = λ y i. absurd (cc i)
            comma_right (Some c) = more_of (More false s (span_of c.0)) (λ t. refl) (rows (member List-m.Parameters) c.1)

        one : (o p : Out) → NeverBare (row_member (first_of o p) (rows (member List-m.Parameters)))
        one (Some z) p = after_left (sees at_row_comma z.1) z.0 z.1
        one None (Some z) = after_right (sees at_row_comma z.1) z.0 z.1
        one None None = λ y i. absurd (cc i)

-- (by the lookahead under which they are read)
module _ (c : Look) (w : Written) (ts : Stream) where
  pub generics_absent : sees c ts ≡ false → copy_form (vanishing false c parameters) w ts ≡ Reached w ts
  generics_absent e = absent c parameters w ts e

  pub generics_shown : sees c ts ≡ true → w.printing ≡ false → copy_form (vanishing false c parameters) w ts ≡ copy_form parameters w ts
  generics_shown e p = as_shown c parameters w ts e p

  pub generics_refused : sees c ts ≡ true → take_mark less ts ≡ None → copy_form (vanishing false c parameters) w ts ≡ Refused
  generics_refused e h = present c parameters w ts e ∙ ap (λ o. copied w (vanish false (wrap Left (row_opened o (rows (member List-m.Parameters)))))) h

  opened : (x : Syntax) (m : Stream) → sees c ts ≡ true → take_mark less ts ≡ Some (x, m) → copy_form (vanishing false c parameters) w ts ≡ copied w (vanish false (wrap Left (row_closed x (rows (member List-m.Parameters) m))))
  opened x m e h = present c parameters w ts e ∙ ap (λ o. copied w (vanish false (wrap Left (row_opened o (rows (member List-m.Parameters)))))) h

  pub generics_bare : (x y : Syntax) (m r : Stream) → sees c ts ≡ true → w.printing ≡ true → take_mark less ts ≡ Some (x, m) → sees at_row_end m ≡ true → take_mark greater m ≡ Some (y, r) → copy_form (vanishing false c parameters) w ts ≡ Reached w r
  generics_bare x y m r e p h s g =
      opened x m e h ∙ ap (λ o. copied w (vanish false (wrap Left (row_closed x o)))) (none_present List-m.Parameters m s)
      ∙ ap (λ o. copied w (vanish false (wrap Left (close_row x Done o)))) g ∙ bare_gone w (Order (marks_of x) Done (marks_of y)) r p refl

  pub generics_open : (x : Syntax) (m : Stream) → sees c ts ≡ true → take_mark less ts ≡ Some (x, m) → sees at_row_end m ≡ true → take_mark greater m ≡ None → copy_form (vanishing false c parameters) w ts ≡ Refused
  generics_open x m e h s g =
      opened x m e h ∙ ap (λ o. copied w (vanish false (wrap Left (row_closed x o)))) (none_present List-m.Parameters m s)
      ∙ ap (λ o. copied w (vanish false (wrap Left (close_row x Done o)))) g

  pub generics_kept : (x : Syntax) (m : Stream) → sees c ts ≡ true → take_mark less ts ≡ Some (x, m) → sees at_row_end m ≡ false → copy_form (vanishing false c parameters) w ts ≡ copy_form parameters w ts
  generics_kept x m e h s = as_printed c parameters w ts e (parameters_never x m ts h s)
