-- Qualified paths are the same where what they hold is: what a value represents commutes with forgetting spans, and determines the value.
use Rattle.std.proofs.Common.{◌≡◌, ℕ, zero, suc, ◌+◌, Bool, true, false, List, [], ◌∷◌, Option, Some, None, refl, sym, ap, ap₂, ◌∙◌, arith}
use Rattle.syn_grammar.specs.Tokens.{and}
use Rattle.syn_grammar.specs.Grammar.{Syntax, Nothing, Mark, Both, Left, Right, Node, Unshown, plain_syntax}
use Rattle.syn_grammar.specs.Same.{same_syntax}
use Rattle.syn_tokens.specs.Leaves.{maybe}
use Rattle.syn_tokens.specs.Kinds.{As, PathSep, as_syntax, gt_syntax, lt_syntax, path_sep_syntax}
use Rattle.syn_tokens.specs.Listing.{joined_of}
use Rattle.syn_lower.specs.Types.{syntax_of_Type}
use Rattle.syn_lower.specs.Paths.{view_QSelf}
use Rattle.syn_lower.specs.Plain.{view_Path}
use Rattle.syn_lower.specs.QualifiedPaths.{count, surplus, part, words_in, separator_after, words_after, qualified, with_qself, syntax_of_TypePath}
use Rattle.syn_lower.specs.declared.path.Path.TheInside as Path-in
use Rattle.syn_lower.specs.declared.path.QSelf.TheInside as QSelf-in
use Rattle.syn_lower.proofs.Compared.{reported}

-- WITHOUT SPANS

module _ {T P : Type 0} (v : T → Syntax) (w : P → Syntax) where
  abbrev plain_words : List (T × P) → Option T → Syntax
  plain_words = joined_of (λ t. plain_syntax (v t)) (λ p. plain_syntax (w p))

  plain_joined : (l : List (T × P)) (o : Option T) → plain_syntax (joined_of v w l o) ≡ plain_words l o
  plain_joined [] None = refl
  plain_joined [] (Some t) = refl
  plain_joined (x ∷ l) o = ap (λ s. Node (Both (plain_syntax (v x.0)) (Left (Both (plain_syntax (w x.1)) s)))) (plain_joined l o)

  plain_in : (n : ℕ) (l : List (T × P)) (o : Option T) → plain_syntax (words_in n (joined_of v w l o)) ≡ words_in n (plain_words l o)
  plain_in zero [] None = refl
  plain_in (suc n) [] None = refl
  plain_in zero [] (Some t) = refl
  plain_in (suc n) [] (Some t) = refl
  plain_in zero (x ∷ l) o = refl
  plain_in (suc n) (x ∷ []) None = refl
  plain_in (suc n) (x ∷ []) (Some t) = ap (λ s. Node (Both (plain_syntax (v x.0)) (Left (Both (plain_syntax (w x.1)) s)))) (plain_in n [] (Some t))
  plain_in (suc n) (x ∷ y ∷ l) o = ap (λ s. Node (Both (plain_syntax (v x.0)) (Left (Both (plain_syntax (w x.1)) s)))) (plain_in n (y ∷ l) o)

  plain_separator : (n : ℕ) (l : List (T × P)) (o : Option T) → plain_syntax (separator_after n (joined_of v w l o)) ≡ separator_after n (plain_words l o)
  plain_separator zero [] None = refl
  plain_separator (suc n) [] None = refl
  plain_separator zero [] (Some t) = refl
  plain_separator (suc n) [] (Some t) = refl
  plain_separator zero (x ∷ l) o = refl
  plain_separator (suc n) (x ∷ []) None = refl
  plain_separator (suc n) (x ∷ []) (Some t) = plain_separator n [] (Some t)
  plain_separator (suc n) (x ∷ y ∷ l) o = plain_separator n (y ∷ l) o

  plain_after : (n : ℕ) (l : List (T × P)) (o : Option T) → plain_syntax (words_after n (joined_of v w l o)) ≡ words_after n (plain_words l o)
  plain_after zero [] None = refl
  plain_after (suc n) [] None = refl
  plain_after zero [] (Some t) = refl
  plain_after (suc n) [] (Some t) = refl
  plain_after zero (x ∷ l) o = plain_joined l o
  plain_after (suc n) (x ∷ []) None = refl
  plain_after (suc n) (x ∷ []) (Some t) = plain_after n [] (Some t)
  plain_after (suc n) (x ∷ y ∷ l) o = plain_after n (y ∷ l) o

  -- `as` and the mark before the path are optional parts
  module _ (a g c : Syntax) (as_part : plain_syntax (part a) ≡ part (plain_syntax a)) (mark_part : plain_syntax (part c) ≡ part (plain_syntax c)) where
    none_inside : (s t : Syntax) → plain_syntax s ≡ t → plain_syntax (Both (Right (Unshown (part a))) (Both g (Both (part c) s))) ≡ Both (Right (Unshown (part (plain_syntax a)))) (Both (plain_syntax g) (Both (part (plain_syntax c)) t))
    none_inside s t e = ap₂ (λ x y. Both (Right (Unshown x)) (Both (plain_syntax g) y)) as_part (ap₂ Both mark_part e)

    some_inside : (n : ℕ) (l : List (T × P)) (o : Option T) →
        plain_syntax (Both (Left (Both (part a) (Node (Both c (words_in n (joined_of v w l o)))))) (Both g (Both (separator_after n (joined_of v w l o)) (words_after n (joined_of v w l o)))))
        ≡ Both (Left (Both (part (plain_syntax a)) (Node (Both (plain_syntax c) (words_in n (plain_words l o)))))) (Both (plain_syntax g) (Both (separator_after n (plain_words l o)) (words_after n (plain_words l o))))
    some_inside n l o =
        ap₂ (λ x y. Both x (Both (plain_syntax g) y)) (ap₂ (λ x y. Left (Both x (Node (Both (plain_syntax c) y)))) as_part (plain_in n l o)) (ap₂ Both (plain_separator n l o) (plain_after n l o))

    plain_qualified : (n : ℕ) (l : List (T × P)) (o : Option T) → plain_syntax (qualified n a g c (joined_of v w l o)) ≡ qualified n (plain_syntax a) (plain_syntax g) (plain_syntax c) (plain_words l o)
    plain_qualified zero l o = none_inside (joined_of v w l o) (plain_words l o) (plain_joined l o)
    plain_qualified (suc n) [] None = none_inside (surplus (suc n)) (surplus (suc n)) refl
    plain_qualified (suc n) [] (Some t) = some_inside n [] (Some t)
    plain_qualified (suc n) (x ∷ l) o = some_inside n (x ∷ l) o

-- WHAT THE VALUE WAS

optional : Syntax → Syntax
optional Nothing = Right Nothing
optional s = Left s

tail_of : Syntax → Syntax → Syntax
tail_of Nothing s = Right Nothing
tail_of m s = Left (Both m s)

surplus_of : Syntax → ℕ
surplus_of (Unshown (Mark ((n, sp) ∷ []))) = n
surplus_of s = 0

strip : Syntax → Syntax
strip (Unshown s) = Nothing
strip s = s

number_of : Syntax → ℕ
number_of (Node (Both s (Left (Both c l)))) = suc (number_of l)
number_of s = 0

join : Syntax → Syntax → Syntax → Syntax
join (Node (Both s (Left (Both c l)))) m rest = Node (Both s (Left (Both c (join l m rest))))
join (Node (Both s t)) m rest = Node (Both s (tail_of m (strip rest)))
join s m rest = s

abbrev held : Syntax → Syntax → ℕ → Syntax → Syntax → Syntax → Syntax → Syntax
held lt ty n a g c words = Node (Both (Left (Both lt (Both ty (Both (count n) (Both a g))))) (Node (Both c words)))

rebuilt : Syntax → Syntax → Syntax → Syntax
rebuilt lt ty (Both (Right (Unshown a)) (Both g (Both c words))) = held lt ty (surplus_of words) (optional a) g (optional c) (strip words)
rebuilt lt ty (Both (Left (Both a (Node (Both c inside)))) (Both g (Both m rest))) = held lt ty (suc (number_of inside + surplus_of rest)) (optional a) g c (join inside m rest)
rebuilt lt ty s = s

parts : Syntax → Syntax
parts (Node (Left (Node (Both lt (Both ty s))))) = rebuilt lt ty s
parts s = s

surplus_back : (n : ℕ) → surplus_of (surplus n) ≡ n
unfolding surplus_of
surplus_back zero = refl
surplus_back (suc n) = refl

zero_plus : (n : ℕ) → 0 + n ≡ n
zero_plus n = omega (arith)

suc_plus : (m n : ℕ) → suc m + n ≡ suc (m + n)
suc_plus m n = omega (arith)

strip_surplus : (n : ℕ) → strip (surplus n) ≡ Nothing
unfolding strip
strip_surplus zero = refl
strip_surplus (suc n) = refl

module _ {T P : Type 0} (v : T → Syntax) (w : P → Syntax) (marks : (p : P) (s : Syntax) → tail_of (w p) s ≡ Left (Both (w p) s)) where
  no_surplus : (l : List (T × P)) (o : Option T) → surplus_of (joined_of v w l o) ≡ 0
  unfolding surplus_of
  no_surplus [] None = refl
  no_surplus [] (Some t) = refl
  no_surplus (x ∷ l) o = refl

  unstripped : (l : List (T × P)) (o : Option T) → strip (joined_of v w l o) ≡ joined_of v w l o
  unfolding strip
  unstripped [] None = refl
  unstripped [] (Some t) = refl
  unstripped (x ∷ l) o = refl

  -- there is a word
  numbers_last : (n : ℕ) (t : T) → number_of (words_in n (joined_of v w [] (Some t))) + surplus_of (words_after n (joined_of v w [] (Some t))) ≡ n
  unfolding number_of surplus_of
  numbers_last zero t = refl
  numbers_last (suc n) t = zero_plus (suc n)

  numbers : (n : ℕ) (x : T × P) (l : List (T × P)) (o : Option T) → number_of (words_in n (joined_of v w (x ∷ l) o)) + surplus_of (words_after n (joined_of v w (x ∷ l) o)) ≡ n
  unfolding number_of surplus_of
  numbers zero x l o = zero_plus (surplus_of (joined_of v w l o)) ∙ no_surplus l o
  numbers (suc n) x [] None = zero_plus (suc n)
  numbers (suc n) x [] (Some t) =
      suc_plus (number_of (words_in n (joined_of v w [] (Some t)))) (surplus_of (words_after n (joined_of v w [] (Some t)))) ∙ ap suc (numbers_last n t)
  numbers (suc n) x (y ∷ l) o =
      suc_plus (number_of (words_in n (joined_of v w (y ∷ l) o))) (surplus_of (words_after n (joined_of v w (y ∷ l) o))) ∙ ap suc (numbers n y l o)

  joins_last : (n : ℕ) (t : T) → join (words_in n (joined_of v w [] (Some t))) (separator_after n (joined_of v w [] (Some t))) (words_after n (joined_of v w [] (Some t))) ≡ joined_of v w [] (Some t)
  unfolding join tail_of
  joins_last zero t = refl
  joins_last (suc n) t = refl

  joins : (n : ℕ) (x : T × P) (l : List (T × P)) (o : Option T) → join (words_in n (joined_of v w (x ∷ l) o)) (separator_after n (joined_of v w (x ∷ l) o)) (words_after n (joined_of v w (x ∷ l) o)) ≡ joined_of v w (x ∷ l) o
  unfolding join
  joins zero x l o = ap (λ s. Node (Both (v x.0) s)) (marks x.1 _ ∙ ap (λ s. Left (Both (w x.1) s)) (unstripped l o))
  joins (suc n) x [] None = ap (λ s. Node (Both (v x.0) s)) (marks x.1 _ ∙ ap (λ s. Left (Both (w x.1) s)) (strip_surplus (suc n)))
  joins (suc n) x [] (Some t) = ap (λ s. Node (Both (v x.0) (Left (Both (w x.1) s)))) (joins_last n t)
  joins (suc n) x (y ∷ l) o = ap (λ s. Node (Both (v x.0) (Left (Both (w x.1) s)))) (joins n y l o)

  module _ (lt ty a g c : Syntax) (as_back : optional (part a) ≡ a) (mark_back : optional (part c) ≡ c) where
    back : (n : ℕ) (l : List (T × P)) (o : Option T) → rebuilt lt ty (qualified n a g c (joined_of v w l o)) ≡ held lt ty n a g c (joined_of v w l o)
    unfolding rebuilt
    back zero l o = ap₂ (λ x y. held lt ty x y g (optional (part c)) (strip (joined_of v w l o))) (no_surplus l o) as_back ∙ ap₂ (λ y z. held lt ty 0 a g y z) mark_back (unstripped l o)
    back (suc n) [] None = ap₂ (λ x y. held lt ty x y g (optional (part c)) (strip (surplus (suc n)))) (surplus_back (suc n)) as_back ∙ ap₂ (λ y z. held lt ty (suc n) a g y z) mark_back (strip_surplus (suc n))
    back (suc n) [] (Some t) = ap₂ (λ x y. held lt ty (suc x) y g c (join (words_in n (joined_of v w [] (Some t))) (separator_after n (joined_of v w [] (Some t))) (words_after n (joined_of v w [] (Some t))))) (numbers_last n t) as_back ∙ ap (held lt ty (suc n) a g c) (joins_last n t)
    back (suc n) (x ∷ l) o = ap₂ (λ y z. held lt ty (suc y) z g c (join (words_in n (joined_of v w (x ∷ l) o)) (separator_after n (joined_of v w (x ∷ l) o)) (words_after n (joined_of v w (x ∷ l) o)))) (numbers n x l o) as_back ∙ ap (held lt ty (suc n) a g c) (joins n x l o)

-- AT THE VIEWS

as_plain : (o : Option As) → plain_syntax (part (maybe as_syntax o)) ≡ part (plain_syntax (maybe as_syntax o))
as_plain None = refl
as_plain (Some x) = refl

mark_plain : (o : Option PathSep) → plain_syntax (part (maybe path_sep_syntax o)) ≡ part (plain_syntax (maybe path_sep_syntax o))
mark_plain None = refl
mark_plain (Some x) = refl

as_optional : (o : Option As) → optional (part (plain_syntax (maybe as_syntax o))) ≡ plain_syntax (maybe as_syntax o)
unfolding optional
as_optional None = refl
as_optional (Some x) = refl

mark_optional : (o : Option PathSep) → optional (part (plain_syntax (maybe path_sep_syntax o))) ≡ plain_syntax (maybe path_sep_syntax o)
unfolding optional
mark_optional None = refl
mark_optional (Some x) = refl

marks_tail : (p : PathSep) (s : Syntax) → tail_of (plain_syntax (path_sep_syntax p)) s ≡ Left (Both (plain_syntax (path_sep_syntax p)) s)
unfolding tail_of
marks_tail p s = refl

abbrev form : QSelf-in.Inside → Path-in.Inside → Syntax
form a p = syntax_of_TypePath (with_qself (view_QSelf a) (view_Path p))

plain_form : (a : QSelf-in.Inside) (p : Path-in.Inside) → plain_syntax (form a p) ≡ syntax_of_TypePath (plain_syntax (with_qself (view_QSelf a) (view_Path p)))
plain_form a p =
    ap (λ s. Node (Left (Node (Both (plain_syntax (lt_syntax a.lt_token)) (Both (plain_syntax (syntax_of_Type a.ty.value)) s)))))
    (plain_qualified (λ s. s) path_sep_syntax (maybe as_syntax a.as_token) (gt_syntax a.gt_token) (maybe path_sep_syntax p.leading_colon) (as_plain a.as_token) (mark_plain p.leading_colon) a.position p.segments.pairs p.segments.last
    ∙ ap (qualified a.position (plain_syntax (maybe as_syntax a.as_token)) (plain_syntax (gt_syntax a.gt_token)) (plain_syntax (maybe path_sep_syntax p.leading_colon))) (sym (plain_joined (λ s. s) path_sep_syntax p.segments.pairs p.segments.last)))

known_form : (a : QSelf-in.Inside) (p : Path-in.Inside) → parts (plain_syntax (form a p)) ≡ plain_syntax (with_qself (view_QSelf a) (view_Path p))
unfolding parts
known_form a p =
    ap (rebuilt (plain_syntax (lt_syntax a.lt_token)) (plain_syntax (syntax_of_Type a.ty.value)))
    (plain_qualified (λ s. s) path_sep_syntax (maybe as_syntax a.as_token) (gt_syntax a.gt_token) (maybe path_sep_syntax p.leading_colon) (as_plain a.as_token) (mark_plain p.leading_colon) a.position p.segments.pairs p.segments.last)
    ∙ back (λ s. plain_syntax s) (λ c. plain_syntax (path_sep_syntax c)) marks_tail _ _ _ (plain_syntax (gt_syntax a.gt_token)) _ (as_optional a.as_token) (mark_optional p.leading_colon) a.position p.segments.pairs p.segments.last
    ∙ ap (held (plain_syntax (lt_syntax a.lt_token)) (plain_syntax (syntax_of_Type a.ty.value)) a.position (plain_syntax (maybe as_syntax a.as_token)) (plain_syntax (gt_syntax a.gt_token)) (plain_syntax (maybe path_sep_syntax p.leading_colon)))
    (sym (plain_joined (λ s. s) path_sep_syntax p.segments.pairs p.segments.last))

same_qualified_paths : (a b : QSelf-in.Inside) (p q : Path-in.Inside) →
    same_syntax (syntax_of_TypePath (with_qself (view_QSelf a) (view_Path p))) (syntax_of_TypePath (with_qself (view_QSelf b) (view_Path q)))
    ≡ and (same_syntax (view_QSelf a) (view_QSelf b)) (same_syntax (view_Path p) (view_Path q))
same_qualified_paths a b p q = reported syntax_of_TypePath parts (form a p) (form b q) (with_qself (view_QSelf a) (view_Path p)) (with_qself (view_QSelf b) (view_Path q)) (plain_form a p) (plain_form b q) (known_form a p) (known_form b q)

pub same_qualified_values : (a b : QSelf-in.Inside) (p q : Path-in.Inside) (s t u v : Syntax) → view_QSelf a ≡ s → view_QSelf b ≡ t → view_Path p ≡ u → view_Path q ≡ v →
    same_syntax (syntax_of_TypePath (with_qself s u)) (syntax_of_TypePath (with_qself t v)) ≡ and (same_syntax s t) (same_syntax u v)
same_qualified_values a b p q s t u v d e g h =
    ap₂ same_syntax (ap₂ (λ x y. syntax_of_TypePath (with_qself x y)) (sym d) (sym g)) (ap₂ (λ x y. syntax_of_TypePath (with_qself x y)) (sym e) (sym h))
    ∙ same_qualified_paths a b p q
    ∙ ap₂ and (ap₂ same_syntax d e) (ap₂ same_syntax g h)

-- where the types in `< >` are the same, the paths decide; else they are not the same
pub values_then : (a b : QSelf-in.Inside) (p q : Path-in.Inside) (s t u v : Syntax) → view_QSelf a ≡ s → view_QSelf b ≡ t → view_Path p ≡ u → view_Path q ≡ v →
    (r : Bool) → same_syntax s t ≡ true → r ≡ same_syntax u v → r ≡ same_syntax (syntax_of_TypePath (with_qself s u)) (syntax_of_TypePath (with_qself t v))
values_then a b p q s t u v d e g h r i k = k ∙ sym (same_qualified_values a b p q s t u v d e g h ∙ ap (λ z. and z (same_syntax u v)) i)

pub values_else : (a b : QSelf-in.Inside) (p q : Path-in.Inside) (s t u v : Syntax) → view_QSelf a ≡ s → view_QSelf b ≡ t → view_Path p ≡ u → view_Path q ≡ v →
    same_syntax s t ≡ false → false ≡ same_syntax (syntax_of_TypePath (with_qself s u)) (syntax_of_TypePath (with_qself t v))
values_else a b p q s t u v d e g h i = sym (same_qualified_values a b p q s t u v d e g h ∙ ap (λ z. and z (same_syntax u v)) i)

-- a path without a type in `< >` is another tree

pub qualified_no_path : (q p r : Syntax) → same_syntax (syntax_of_TypePath (with_qself q p)) (Node (Right r)) ≡ false
qualified_no_path (Both lt (Both ty (Both (Unshown (Mark ((n, sp) ∷ []))) (Both a g)))) (Node (Both c words)) r = refl
qualified_no_path q p r = refl

pub path_no_qualified : (q p r : Syntax) → same_syntax (Node (Right r)) (syntax_of_TypePath (with_qself q p)) ≡ false
path_no_qualified (Both lt (Both ty (Both (Unshown (Mark ((n, sp) ∷ []))) (Both a g)))) (Node (Both c words)) r = refl
path_no_qualified q p r = refl
