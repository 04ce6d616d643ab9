-- A type that begins neither with `!` nor as a path in module style is neither the never type nor a plain path.
use Rattle.std.proofs.Common.{◌≡◌, Bool, true, false, List, [], ◌∷◌, Some, None, refl, sym, ap, ap₂, subst, ◌∙◌, true≢false}
use Rattle.std.specs.Prelude.{Result, Ok, Err}
use Rattle.syn_grammar.specs.Words.{Text, ampersand, colons, exclamation, semicolon, star, w_Self_type, w_const, w_crate, w_mut, w_self, w_super}
use Rattle.syn_grammar.specs.Tokens.{Stream, Paren, Bracket, None as Invisible, Terminal, answers, at_lifetime, at_path_word, at_word, leaf_terminal, lookahead_with, or, present}
use Rattle.syn_grammar.specs.Rules.{more_type_words, qualified_path, type, type_arguments, type_path, type_words, types, whole_expression}
use Rattle.syn_grammar.specs.Shape.{untagged}
use Rattle.syn_grammar.specs.Grammar.{Grammar, Kind, Syntax, Nothing, Both, Left, Right, Node, empty, inside, lifetime, name_or, rule, shaped, suits, word, terminals, when◌then◌else◌, ◌&◌}
use Rattle.syn_grammar.specs.Forms.{asking_punctuation, optional, plainly, punctuation}
use Rattle.syn_grammar.specs.Table.{at_ampersand, at_arguments, at_bracket, at_colons, at_exclamation, at_invisible, at_less, at_module_path, at_named_word, at_paren, at_semicolon, at_star, no_arguments}
use Rattle.syn_grammar.specs.Take.{Out, Parser, sees, take_mark, take_token}
use Rattle.syn_grammar.specs.Values.{shape}
use Rattle.syn_grammar.specs.Run.{and_then, branch, parse_form, parse_rule, wrap}
use Rattle.syn_grammar.proofs.Each.{path_as_type_is, type_is, type_path_is, type_words_is}
use Rattle.syn_grammar.proofs.Known.{or_off}
use Rattle.syn_grammar.proofs.Looks.{sees_or}
use Rattle.syn_grammar.proofs.Sets.{and_right, every, every_at}
use Rattle.syn_grammar.proofs.Takes.{TreeAndRest, sees_present, token_known}
use Rattle.syn_item.specs.ImplForms.{ReadsBefore, bang_then, path_then, types_then}
use Rattle.syn_item.specs.Impls.{inherent, without_self_type}
use Rattle.syn_item.proofs.FirstTypes.{at_bang_first, at_path_first, at_type_first, read_alike}
use Rattle.syn_item.proofs.NoSelfTypes.{left_as_read}

-- A PATH begins with one of its words, or with `::`

abbrev word_at : Terminal → Bool
word_at t = answers at_path_word (lookahead_with t [])

word_seen : (l : List Text) (ts : Stream) (p : Syntax × Stream) → every word_at (terminals (name_or l)) ≡ true → take_token (name_or l) ts ≡ Some p → sees at_path_word ts ≡ true
word_seen l ts p w e =
    let (y, sp, a, b, c) = token_known (name_or l) ts p e in
    sees_present at_path_word ts ∙ ap (present at_path_word) c ∙ every_at word_at (leaf_terminal y) (terminals (name_or l)) w (and_right (suits (name_or l) y) _ b)

no_take : (l : List Text) (ts : Stream) → every word_at (terminals (name_or l)) ≡ true → sees at_path_word ts ≡ false → take_token (name_or l) ts ≡ None
no_take l ts w h = go (take_token (name_or l) ts) refl
  where
    go : (o : Out) → take_token (name_or l) ts ≡ o → take_token (name_or l) ts ≡ None
    go None e = e
    go (Some p) e = absurd (true≢false (sym (word_seen l ts p w e) ∙ h))

no_words : (m : Stream) → sees at_path_word m ≡ false → parse_rule type_words m ≡ None
no_words m h =
    type_words_is m
    ∙ ap₂ by_words (no_take (w_Self_type ∷ []) m refl h) (no_take (w_self ∷ w_super ∷ w_crate ∷ []) m refl h)
    ∙ go (sees at_named_word m)
  where
    by_words : Out → Out → Out
    by_words o p =
        wrap Node (and_then (wrap (shape untagged) (branch (sees at_named_word m) (and_then o (parse_form (shaped untagged (when at_arguments then rule type_arguments else empty)))) (and_then p (parse_form no_arguments))))
        (parse_form (when at_colons then asking_punctuation colons & rule more_type_words else empty)))

    go : (b : Bool) →
        wrap Node (and_then (wrap (shape untagged) (branch b (and_then None (parse_form (shaped untagged (when at_arguments then rule type_arguments else empty)))) (and_then None (parse_form no_arguments))))
        (parse_form (when at_colons then asking_punctuation colons & rule more_type_words else empty))) ≡ None
    go true = refl
    go false = refl

no_path : (m : Stream) → sees at_module_path m ≡ false → parse_rule type_path m ≡ None
no_path m h =
    let (w, c) = or_off (sees at_path_word m) (sees at_colons m) (sym (sees_or at_path_word at_colons m) ∙ h) in
    type_path_is m
    ∙ ap (λ b. wrap Node (and_then (branch b (take_mark colons m) (Some (Nothing, m))) (parse_rule type_words))) c
    ∙ ap (λ o. wrap Node (wrap (Both (Right Nothing)) o)) (no_words m w)

-- ANOTHER TYPE

abbrev Other : Syntax → Type 0
Other t = (rest : Syntax) → inherent t rest ≡ Right (Right (Both (without_self_type t) rest))

tree_of : (a b : Syntax) (m r : Stream) → ◌≡◌ {A = Out} (Some (a, m)) (Some (b, r)) → a ≡ b
tree_of a b m r e =
    let i : ◌≡◌ {A = TreeAndRest} (a, m) (b, r) = cc e in
    ap (λ (y : TreeAndRest). y.0) i

-- of seven kinds of types the sixth isn't read, nor a path alone
by_kind : (c1 c2 c3 c4 c6 l : Bool) (A B C D E F Q : Out) (t : Syntax) (r : Stream) →
    wrap Node (branch c1 A (branch c2 B (branch c3 C (branch c4 D (branch false E (branch c6 F (wrap Node (branch l Q None)))))))) ≡ Some (t, r) → Other t
by_kind true c2 c3 c4 c6 l (Some a) B C D E F Q t r e = subst Other (tree_of (Node (Left a.0)) t a.1 r e) (λ rest. refl)
by_kind true c2 c3 c4 c6 l None B C D E F Q t r e = absurd (cc e)
by_kind false true c3 c4 c6 l A (Some a) C D E F Q t r e = subst Other (tree_of (Node (Right (Left a.0))) t a.1 r e) (λ rest. refl)
by_kind false true c3 c4 c6 l A None C D E F Q t r e = absurd (cc e)
by_kind false false true c4 c6 l A B (Some a) D E F Q t r e = subst Other (tree_of (Node (Right (Right (Left a.0)))) t a.1 r e) (λ rest. refl)
by_kind false false true c4 c6 l A B None D E F Q t r e = absurd (cc e)
by_kind false false false true c6 l A B C (Some a) E F Q t r e = subst Other (tree_of (Node (Right (Right (Right (Left a.0))))) t a.1 r e) (λ rest. refl)
by_kind false false false true c6 l A B C None E F Q t r e = absurd (cc e)
by_kind false false false false true l A B C D E (Some a) Q t r e = subst Other (tree_of (Node (Right (Right (Right (Right (Right (Left a.0))))))) t a.1 r e) (λ rest. refl)
by_kind false false false false true l A B C D E None Q t r e = absurd (cc e)
by_kind false false false false false true A B C D E F (Some a) t r e = subst Other (tree_of (Node (Right (Right (Right (Right (Right (Right (Node (Left a.0))))))))) t a.1 r e) (λ rest. refl)
by_kind false false false false false true A B C D E F None t r e = absurd (cc e)
by_kind false false false false false false A B C D E F Q t r e = absurd (cc e)

abbrev reference : Grammar
reference = punctuation ampersand & (when at_lifetime then lifetime else empty) & optional w_mut & rule type

abbrev pointer : Grammar
pointer = punctuation star & (when at_word w_const then plainly (word w_const) else plainly (word w_mut)) & rule type

abbrev in_parens : Grammar
in_parens = inside Paren (rule types)

abbrev in_brackets : Grammar
in_brackets = inside Bracket (rule type & (when at_semicolon then punctuation semicolon & rule whole_expression else empty))

abbrev in_nothing : Grammar
in_nothing = inside Invisible (rule type)

-- by what a path is read as, or whether a `!` is next and a plain path is read
abbrev by_path : Stream → Bool → Out → Out
by_path m b o =
    wrap Node (branch (sees at_ampersand m) (parse_form reference m) (branch (sees at_star m) (parse_form pointer m) (branch (sees at_paren m) (parse_form in_parens m) (branch (sees at_bracket m) (parse_form in_brackets m)
    (branch b (parse_form (punctuation exclamation) m) (branch (sees at_invisible m) (parse_form in_nothing m) o))))))

abbrev by_plain_path : Stream → Bool → Out → Out
by_plain_path m b o = by_path m b (wrap Node (branch (sees at_less m) (parse_rule qualified_path m) o))

type_by_path : (m : Stream) → parse_rule type m ≡ by_plain_path m (sees at_exclamation m) (parse_rule type_path m)
type_by_path m = type_is m ∙ ap (by_path m (sees at_exclamation m)) (path_as_type_is m)

pub other_type : (m : Stream) (t : Syntax) (r : Stream) → sees at_exclamation m ≡ false → sees at_module_path m ≡ false → parse_rule type m ≡ Some (t, r) → Other t
other_type m t r h i e =
    by_kind (sees at_ampersand m) (sees at_star m) (sees at_paren m) (sees at_bracket m) (sees at_invisible m) (sees at_less m)
    (parse_form reference m) (parse_form pointer m) (parse_form in_parens m) (parse_form in_brackets m) (parse_form (punctuation exclamation) m) (parse_form in_nothing m) (parse_rule qualified_path m) t r
    (sym (ap₂ (by_plain_path m) h (no_path m i)) ∙ sym (type_by_path m) ∙ e)

pub other_refused : (m : Stream) → sees at_exclamation m ≡ false → sees at_module_path m ≡ false → parse_rule type m ≡ None → (f : Stream → Out) → types_then f m ≡ None
other_refused m h i e f = at_type_first m h i f ∙ ap (λ o. wrap Right (wrap Right (and_then o f))) e

pub other_read : (m : Stream) → sees at_exclamation m ≡ false → sees at_module_path m ≡ false → (t : Syntax) (r : Stream) → parse_rule type m ≡ Some (t, r) → (f : Stream → Out) → types_then f m ≡ wrap (inherent t) (f r)
other_read m h i t r e f = at_type_first m h i f ∙ ap (λ o. wrap Right (wrap Right (and_then o f))) e ∙ go (f r)
  where
    go : (o : Out) → wrap Right (wrap Right (wrap (Both t) o)) ≡ wrap (inherent t) o
    go None = refl
    go (Some p) = ap (λ (z : Syntax). Some (z, p.1)) (sym (other_type m t r h i e p.0 ∙ ap (λ (z : Syntax). Right (Right (Both z p.0))) (left_as_read (rule type) m r t refl e)))

module _ {X E : Type 0} (refusal : E → Type 0) (v : X → Syntax → Syntax) (m : Stream) (x : Result X E) (new : Stream) where
  pub bang_before : sees at_exclamation m ≡ true → ReadsBefore refusal v (λ f. wrap Left (bang_then f m)) x new → ReadsBefore refusal v (λ f. types_then f m) x new
  bang_before h = read_alike refusal v (λ f. types_then f m) (λ f. wrap Left (bang_then f m)) x new (at_bang_first m h)

  pub path_before : sees at_exclamation m ≡ false → sees at_module_path m ≡ true → ReadsBefore refusal v (λ f. wrap Right (wrap Left (path_then f m))) x new → ReadsBefore refusal v (λ f. types_then f m) x new
  path_before h i = read_alike refusal v (λ f. types_then f m) (λ f. wrap Right (wrap Left (path_then f m))) x new (at_path_first m h i)
