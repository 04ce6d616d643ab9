-- Generics are compared part by part.
use Rattle.std.proofs.Common.{◌≡◌, ℕ, ◌⊎◌, inl, inr, Bool, true, false, List, [], ◌∷◌, Option, Some, None, refl, sym, ap, ap₂, ◌∙◌}
use Rattle.std.proofs.lemmas.Bool.{eq-eqb}
use Rattle.syn_grammar.specs.Words.{colon}
use Rattle.syn_grammar.specs.Tokens.{Span, and, pick}
use Rattle.syn_grammar.specs.Grammar.{Syntax, Nothing, Both, Left, Right, Node, Vanishing, Added, Done, Order, bare, plain_syntax}
use Rattle.syn_grammar.specs.Promises.{itself}
use Rattle.syn_grammar.specs.Run.{more, span_of}
use Rattle.syn_grammar.specs.Same.{same_bool, same_mark, same_syntax}
use Rattle.syn_grammar.proofs.Plain.{bare_plain}
use Rattle.syn_grammar.proofs.Same.{and_false, and_true, same_syntax_refl}
use Rattle.syn_tokens.specs.InOrder.{in_order}
use Rattle.syn_tokens.specs.Kinds.{Colon, Comma, Eq, Gt, Lt, Plus, colon_syntax, comma_syntax, eq_syntax, gt_syntax, lt_syntax, plus_syntax}
use Rattle.syn_tokens.specs.Leaves.{maybe, placed}
use Rattle.syn_tokens.specs.Listing.{list_of}
use Rattle.syn_tokens.specs.declared.span.Span.{Span as TokenSpan}
use Rattle.syn_lower.specs.Parts.{or_added}
use Rattle.syn_lower.specs.Bounds.{after_colon, solid, turned}
use Rattle.syn_lower.specs.Generics.{GtPresent, LtPresent, as_row, clause_aside, default_of, is_written, no_parameters, param_of, parameters_of, sign_of, present, syntax_of_GenericParam}
use Rattle.syn_lower.specs.declared.generics.GenericParam.TheVariants as GenericParam-m
use Rattle.syn_lower.proofs.Compared.{reported}
use Rattle.syn_lower.proofs.GenericPrints.{after_solid}

-- LISTS

module _ {T P : Type 0} (v : T → Syntax) (w : P → Syntax) where
  -- the sides of a list's choice don't count
  pub same_turned : (l m : List (T × P)) (o q : Option T) → same_syntax (turned (list_of v w l o)) (turned (list_of v w m q)) ≡ same_syntax (list_of v w l o) (list_of v w m q)
  same_turned [] [] None None = refl
  same_turned [] [] None (Some u) = refl
  same_turned [] [] (Some t) None = refl
  same_turned [] [] (Some t) (Some u) = refl
  same_turned [] (y ∷ m) None q = refl
  same_turned [] (y ∷ m) (Some t) q = refl
  same_turned (x ∷ l) [] o None = refl
  same_turned (x ∷ l) [] o (Some u) = refl
  same_turned (x ∷ l) (y ∷ m) o q = ap (λ b. and (same_syntax (v x.0) (v y.0)) (and (same_syntax (w x.1) (w y.1)) b)) (same_turned l m o q)

-- what is in a list that was made solid
abbrev inside : Syntax → Syntax
inside (Both a s) = s
inside s = s

-- lists are under a Node
module _ (s : Syntax) where
  abbrev made : Bool → Syntax
  made b = pick b (Both (Added []) (Node (Right s))) (Node (Right s))

  solid_is : solid (Node (Right s)) ≡ made (bare s)
  unfolding solid
  solid_is = refl

  inside_made : (b : Bool) → inside (plain_syntax (made b)) ≡ plain_syntax (Node (Right s))
  inside_made true = refl
  inside_made false = refl

plain_made : (s : Syntax) (b : Bool) → plain_syntax (made s b) ≡ made (plain_syntax s) b
plain_made s true = refl
plain_made s false = refl

plain_solid : (s : Syntax) → plain_syntax (solid (Node (Right s))) ≡ solid (Node (Right (plain_syntax s)))
plain_solid s = ap plain_syntax (solid_is s) ∙ plain_made s (bare s) ∙ ap (made (plain_syntax s)) (sym (bare_plain s)) ∙ sym (solid_is (plain_syntax s))

solid_none : solid (Node (Left Nothing)) ≡ Node (Left Nothing)
unfolding solid
solid_none = refl

-- two solid lists with members
same_solid_members : (s t : Syntax) → same_syntax (solid (Node (Right s))) (solid (Node (Right t))) ≡ same_syntax s t
same_solid_members s t =
    reported solid inside (solid (Node (Right s))) (solid (Node (Right t))) (Node (Right s)) (Node (Right t)) (plain_solid s) (plain_solid t)
    (ap (λ z. inside (plain_syntax z)) (solid_is s) ∙ inside_made s (bare s)) (ap (λ z. inside (plain_syntax z)) (solid_is t) ∙ inside_made t (bare t))

-- one with members, and one without
same_solid_none : (s : Syntax) → same_syntax (solid (Node (Right s))) (Node (Left Nothing)) ≡ false
same_solid_none s = ap (λ z. same_syntax z (Node (Left Nothing))) (solid_is s) ∙ go (bare s)
  where
    go : (b : Bool) → same_syntax (made s b) (Node (Left Nothing)) ≡ false
    go true = refl
    go false = refl

same_none_solid : (s : Syntax) → same_syntax (Node (Left Nothing)) (solid (Node (Right s))) ≡ false
same_none_solid s = ap (λ z. same_syntax (Node (Left Nothing)) z) (solid_is s) ∙ go (bare s)
  where
    go : (b : Bool) → same_syntax (Node (Left Nothing)) (made s b) ≡ false
    go true = refl
    go false = refl

module _ {T P : Type 0} (v : T → Syntax) (w : P → Syntax) where
  -- without its members under a Node
  abbrev members : List (T × P) → Option T → Syntax
  members [] None = Nothing
  members [] (Some t) = Both (v t) (Right Nothing)
  members (x ∷ l) o = Both (v x.0) (Left (Both (w x.1) (list_of v w l o)))

  pub same_solid : (l m : List (T × P)) (o q : Option T) → same_syntax (solid (list_of v w l o)) (solid (list_of v w m q)) ≡ same_syntax (list_of v w l o) (list_of v w m q)
  same_solid [] [] None None = ap₂ same_syntax solid_none solid_none
  same_solid [] [] None (Some u) = ap (λ z. same_syntax z (solid (list_of v w [] (Some u)))) solid_none ∙ same_none_solid (members [] (Some u))
  same_solid [] [] (Some t) None = ap (same_syntax (solid (list_of v w [] (Some t)))) solid_none ∙ same_solid_none (members [] (Some t))
  same_solid [] [] (Some t) (Some u) = same_solid_members (members [] (Some t)) (members [] (Some u))
  same_solid [] (y ∷ m) None q = ap (λ z. same_syntax z (solid (list_of v w (y ∷ m) q))) solid_none ∙ same_none_solid (members (y ∷ m) q)
  same_solid [] (y ∷ m) (Some t) q = same_solid_members (members [] (Some t)) (members (y ∷ m) q)
  same_solid (x ∷ l) [] o None = ap (same_syntax (solid (list_of v w (x ∷ l) o))) solid_none ∙ same_solid_none (members (x ∷ l) o)
  same_solid (x ∷ l) [] o (Some u) = same_solid_members (members (x ∷ l) o) (members [] (Some u))
  same_solid (x ∷ l) (y ∷ m) o q = same_solid_members (members (x ∷ l) o) (members (y ∷ m) q)

-- A COLON AND BOUNDS

-- bounds that are no empty list
abbrev Present : Syntax → Type 0
Present s = (c : Option Colon) → after_colon (maybe colon_syntax c) s ≡ Left (Both (or_added colon (maybe colon_syntax c)) s)

abbrev both_colons : Option Colon → Option Colon → Bool
both_colons c d = same_syntax (maybe colon_syntax c) (maybe colon_syntax d)

abbrev same_parts : Option Colon → Syntax → Option Colon → Syntax → Bool
same_parts c s d t = same_syntax (after_colon (maybe colon_syntax c) s) (after_colon (maybe colon_syntax d) t)

some_some : (s t : Syntax) → Present s → Present t → (c d : Option Colon) → same_parts c s d t ≡ and (both_colons c d) (same_syntax s t)
some_some s t h k c d = ap₂ same_syntax (h c) (k d) ∙ go c d
  where
    go : (c d : Option Colon) → same_syntax (Left (Both (or_added colon (maybe colon_syntax c)) s)) (Left (Both (or_added colon (maybe colon_syntax d)) t)) ≡ and (both_colons c d) (same_syntax s t)
    go None None = refl
    go None (Some n) = refl
    go (Some m) None = refl
    go (Some m) (Some n) = refl

-- of the empty list
module _ (none : Syntax) (absent : after_colon (Right Nothing) none ≡ Right Nothing) where
  none_none : (c d : Option Colon) → same_parts c none d none ≡ and (both_colons c d) (same_syntax none none)
  none_none None None = ap₂ same_syntax absent absent ∙ sym (same_syntax_refl none)
  none_none None (Some n) = ap (λ z. same_syntax z (Left (Both (colon_syntax n) none))) absent
  none_none (Some m) None = ap (same_syntax (Left (Both (colon_syntax m) none))) absent
  none_none (Some m) (Some n) = refl

  none_some : (s : Syntax) → Present s → same_syntax none s ≡ false → (c d : Option Colon) → same_parts c none d s ≡ and (both_colons c d) (same_syntax none s)
  none_some s h e c d = ap (same_syntax (after_colon (maybe colon_syntax c) none)) (h d) ∙ go c ∙ sym (ap (and (both_colons c d)) e ∙ and_false (both_colons c d))
    where
      go : (c : Option Colon) → same_syntax (after_colon (maybe colon_syntax c) none) (Left (Both (or_added colon (maybe colon_syntax d)) s)) ≡ false
      go None = ap (λ z. same_syntax z (Left (Both (or_added colon (maybe colon_syntax d)) s))) absent
      go (Some m) = ap (and (same_syntax (colon_syntax m) (or_added colon (maybe colon_syntax d)))) e ∙ and_false (same_syntax (colon_syntax m) (or_added colon (maybe colon_syntax d)))

  some_none : (s : Syntax) → Present s → same_syntax s none ≡ false → (c d : Option Colon) → same_parts c s d none ≡ and (both_colons c d) (same_syntax s none)
  some_none s h e c d = ap (λ z. same_syntax z (after_colon (maybe colon_syntax d) none)) (h c) ∙ go d ∙ sym (ap (and (both_colons c d)) e ∙ and_false (both_colons c d))
    where
      go : (d : Option Colon) → same_syntax (Left (Both (or_added colon (maybe colon_syntax c)) s)) (after_colon (maybe colon_syntax d) none) ≡ false
      go None = ap (same_syntax (Left (Both (or_added colon (maybe colon_syntax c)) s))) absent
      go (Some m) = ap (and (same_syntax (or_added colon (maybe colon_syntax c)) (colon_syntax m))) e ∙ and_false (same_syntax (or_added colon (maybe colon_syntax c)) (colon_syntax m))

-- of a type
module _ {T : Type 0} (v : T → Syntax) where
  abbrev listing : List (T × Plus) → Option T → Syntax
  listing l o = solid (list_of v plus_syntax l o)

  none_absent : after_colon (Right Nothing) (listing [] None) ≡ Right Nothing
  none_absent = ap (after_colon (Right Nothing)) solid_none

  one_present : (t : T) → Present (listing [] (Some t))
  one_present t = after_solid (v t) (Right Nothing)

  more_present : (x : T × Plus) (l : List (T × Plus)) (o : Option T) → Present (listing (x ∷ l) o)
  more_present x l o = after_solid (v x.0) (Left (Both (plus_syntax x.1) (list_of v plus_syntax l o)))

  after_same : (c d : Option Colon) (l m : List (T × Plus)) (o q : Option T) → same_parts c (listing l o) d (listing m q) ≡ and (both_colons c d) (same_syntax (listing l o) (listing m q))
  after_same c d [] [] None None = none_none (listing [] None) none_absent c d
  after_same c d [] [] None (Some u) = none_some (listing [] None) none_absent (listing [] (Some u)) (one_present u) (same_solid v plus_syntax [] [] None (Some u)) c d
  after_same c d [] [] (Some t) None = some_none (listing [] None) none_absent (listing [] (Some t)) (one_present t) (same_solid v plus_syntax [] [] (Some t) None) c d
  after_same c d [] [] (Some t) (Some u) = some_some (listing [] (Some t)) (listing [] (Some u)) (one_present t) (one_present u) c d
  after_same c d [] (y ∷ m) None q = none_some (listing [] None) none_absent (listing (y ∷ m) q) (more_present y m q) (same_solid v plus_syntax [] (y ∷ m) None q) c d
  after_same c d [] (y ∷ m) (Some t) q = some_some (listing [] (Some t)) (listing (y ∷ m) q) (one_present t) (more_present y m q) c d
  after_same c d (x ∷ l) [] o None = some_none (listing [] None) none_absent (listing (x ∷ l) o) (more_present x l o) (same_solid v plus_syntax (x ∷ l) [] o None) c d
  after_same c d (x ∷ l) [] o (Some u) = some_some (listing (x ∷ l) o) (listing [] (Some u)) (more_present x l o) (one_present u) c d
  after_same c d (x ∷ l) (y ∷ m) o q = some_some (listing (x ∷ l) o) (listing (y ∷ m) q) (more_present x l o) (more_present y m q) c d

  pub same_bounds : (c d : Option Colon) (l m : List (T × Plus)) (o q : Option T) → same_parts c (listing l o) d (listing m q) ≡ and (both_colons c d) (same_syntax (list_of v plus_syntax l o) (list_of v plus_syntax m q))
  same_bounds c d l m o q = after_same c d l m o q ∙ ap (and (both_colons c d)) (same_solid v plus_syntax l m o q)

-- of a lifetime
module _ {T : Type 0} (v : T → Syntax) where
  abbrev outlived : List (T × Plus) → Option T → Syntax
  outlived l o = turned (list_of v plus_syntax l o)

  one_outlives : (t : T) → Present (outlived [] (Some t))
  one_outlives t None = refl
  one_outlives t (Some m) = refl

  more_outlive : (x : T × Plus) (l : List (T × Plus)) (o : Option T) → Present (outlived (x ∷ l) o)
  more_outlive x l o None = refl
  more_outlive x l o (Some m) = refl

  after_outlived : (c d : Option Colon) (l m : List (T × Plus)) (o q : Option T) → same_parts c (outlived l o) d (outlived m q) ≡ and (both_colons c d) (same_syntax (outlived l o) (outlived m q))
  after_outlived c d [] [] None None = none_none (Node (Right Nothing)) refl c d
  after_outlived c d [] [] None (Some u) = none_some (Node (Right Nothing)) refl (outlived [] (Some u)) (one_outlives u) refl c d
  after_outlived c d [] [] (Some t) None = some_none (Node (Right Nothing)) refl (outlived [] (Some t)) (one_outlives t) refl c d
  after_outlived c d [] [] (Some t) (Some u) = some_some (outlived [] (Some t)) (outlived [] (Some u)) (one_outlives t) (one_outlives u) c d
  after_outlived c d [] (y ∷ m) None q = none_some (Node (Right Nothing)) refl (outlived (y ∷ m) q) (more_outlive y m q) refl c d
  after_outlived c d [] (y ∷ m) (Some t) q = some_some (outlived [] (Some t)) (outlived (y ∷ m) q) (one_outlives t) (more_outlive y m q) c d
  after_outlived c d (x ∷ l) [] o None = some_none (Node (Right Nothing)) refl (outlived (x ∷ l) o) (more_outlive x l o) refl c d
  after_outlived c d (x ∷ l) [] o (Some u) = some_some (outlived (x ∷ l) o) (outlived [] (Some u)) (more_outlive x l o) (one_outlives u) c d
  after_outlived c d (x ∷ l) (y ∷ m) o q = some_some (outlived (x ∷ l) o) (outlived (y ∷ m) q) (more_outlive x l o) (more_outlive y m q) c d

  pub same_outlived : (c d : Option Colon) (l m : List (T × Plus)) (o q : Option T) → same_parts c (outlived l o) d (outlived m q) ≡ and (both_colons c d) (same_syntax (list_of v plus_syntax l o) (list_of v plus_syntax m q))
  same_outlived c d l m o q = after_outlived c d l m o q ∙ ap (and (both_colons c d)) (same_turned v plus_syntax l m o q)

-- A DEFAULT
pub same_default : {T : Type 0} (v : T → Syntax) (a b : Option Eq) (c d : Option T) →
    same_syntax (default_of (maybe eq_syntax a) (maybe v c)) (default_of (maybe eq_syntax b) (maybe v d)) ≡ and (same_syntax (maybe eq_syntax a) (maybe eq_syntax b)) (same_syntax (maybe v c) (maybe v d))
same_default v None None None None = refl
same_default v None None None (Some d) = refl
same_default v None None (Some c) None = refl
same_default v None None (Some c) (Some d) = refl
same_default v None (Some b) None None = refl
same_default v None (Some b) None (Some d) = refl
same_default v None (Some b) (Some c) None = refl
same_default v None (Some b) (Some c) (Some d) = refl
same_default v (Some a) None None None = refl
same_default v (Some a) None None (Some d) = refl
same_default v (Some a) None (Some c) None = refl
same_default v (Some a) None (Some c) (Some d) = refl
same_default v (Some a) (Some b) None None = sym (and_true (same_syntax (eq_syntax a) (eq_syntax b)))
same_default v (Some a) (Some b) None (Some d) = sym (and_false (same_syntax (eq_syntax a) (eq_syntax b)))
same_default v (Some a) (Some b) (Some c) None = sym (and_false (same_syntax (eq_syntax a) (eq_syntax b)))
same_default v (Some a) (Some b) (Some c) (Some d) = refl

-- PARAMETERS

abbrev Param : Type 0
Param = GenericParam-m.the_data

abbrev one_row : List (Param × Comma) → Option Param → Syntax
one_row l o = as_row (list_of syntax_of_GenericParam comma_syntax l o)

abbrev same_values : List (Param × Comma) → List (Param × Comma) → Option Param → Option Param → Bool
same_values l m o q = and (same_syntax (in_order param_of l) (in_order param_of m)) (same_syntax (maybe syntax_of_GenericParam o) (maybe syntax_of_GenericParam q))

regroup : (a b c : Bool) → and a (and b c) ≡ and (and a b) c
regroup true b c = refl
regroup false b c = refl

same_last : (p q : Param) → same_syntax (one_row [] (Some p)) (one_row [] (Some q)) ≡ same_syntax (syntax_of_GenericParam p) (syntax_of_GenericParam q)
same_last (GenericParam-m.Lifetime p) (GenericParam-m.Lifetime q) = refl
same_last (GenericParam-m.Lifetime p) (GenericParam-m.Ty q) = refl
same_last (GenericParam-m.Lifetime p) (GenericParam-m.Const q) = refl
same_last (GenericParam-m.Ty p) (GenericParam-m.Lifetime q) = refl
same_last (GenericParam-m.Ty p) (GenericParam-m.Ty q) = refl
same_last (GenericParam-m.Ty p) (GenericParam-m.Const q) = refl
same_last (GenericParam-m.Const p) (GenericParam-m.Lifetime q) = refl
same_last (GenericParam-m.Const p) (GenericParam-m.Ty q) = refl
same_last (GenericParam-m.Const p) (GenericParam-m.Const q) = refl

same_more : (p q : Param) (sp sq : Span) (s t : Syntax) → same_syntax (more (syntax_of_GenericParam p) sp s) (more (syntax_of_GenericParam q) sq t) ≡ and (same_syntax (syntax_of_GenericParam p) (syntax_of_GenericParam q)) (same_syntax s t)
same_more (GenericParam-m.Lifetime p) (GenericParam-m.Lifetime q) sp sq s t = refl
same_more (GenericParam-m.Lifetime p) (GenericParam-m.Ty q) sp sq s t = refl
same_more (GenericParam-m.Lifetime p) (GenericParam-m.Const q) sp sq s t = refl
same_more (GenericParam-m.Ty p) (GenericParam-m.Lifetime q) sp sq s t = refl
same_more (GenericParam-m.Ty p) (GenericParam-m.Ty q) sp sq s t = refl
same_more (GenericParam-m.Ty p) (GenericParam-m.Const q) sp sq s t = refl
same_more (GenericParam-m.Const p) (GenericParam-m.Lifetime q) sp sq s t = refl
same_more (GenericParam-m.Const p) (GenericParam-m.Ty q) sp sq s t = refl
same_more (GenericParam-m.Const p) (GenericParam-m.Const q) sp sq s t = refl

-- lists of different shapes
none_last : (p : Param) → same_syntax (one_row [] None) (one_row [] (Some p)) ≡ false
none_last (GenericParam-m.Lifetime p) = refl
none_last (GenericParam-m.Ty p) = refl
none_last (GenericParam-m.Const p) = refl

last_none : (p : Param) → same_syntax (one_row [] (Some p)) (one_row [] None) ≡ false
last_none (GenericParam-m.Lifetime p) = refl
last_none (GenericParam-m.Ty p) = refl
last_none (GenericParam-m.Const p) = refl

none_more : (q : Param) (sp : Span) (t : Syntax) → same_syntax (one_row [] None) (more (syntax_of_GenericParam q) sp t) ≡ false
none_more (GenericParam-m.Lifetime q) sp t = refl
none_more (GenericParam-m.Ty q) sp t = refl
none_more (GenericParam-m.Const q) sp t = refl

more_none : (q : Param) (sp : Span) (t : Syntax) → same_syntax (more (syntax_of_GenericParam q) sp t) (one_row [] None) ≡ false
more_none (GenericParam-m.Lifetime q) sp t = refl
more_none (GenericParam-m.Ty q) sp t = refl
more_none (GenericParam-m.Const q) sp t = refl

last_more : (p q : Param) (sp : Span) (t : Syntax) → same_syntax (one_row [] (Some p)) (more (syntax_of_GenericParam q) sp t) ≡ false
last_more (GenericParam-m.Lifetime p) (GenericParam-m.Lifetime q) sp t = refl
last_more (GenericParam-m.Lifetime p) (GenericParam-m.Ty q) sp t = refl
last_more (GenericParam-m.Lifetime p) (GenericParam-m.Const q) sp t = refl
last_more (GenericParam-m.Ty p) (GenericParam-m.Lifetime q) sp t = refl
last_more (GenericParam-m.Ty p) (GenericParam-m.Ty q) sp t = refl
last_more (GenericParam-m.Ty p) (GenericParam-m.Const q) sp t = refl
last_more (GenericParam-m.Const p) (GenericParam-m.Lifetime q) sp t = refl
last_more (GenericParam-m.Const p) (GenericParam-m.Ty q) sp t = refl
last_more (GenericParam-m.Const p) (GenericParam-m.Const q) sp t = refl

more_last : (p q : Param) (sp : Span) (t : Syntax) → same_syntax (more (syntax_of_GenericParam q) sp t) (one_row [] (Some p)) ≡ false
more_last (GenericParam-m.Lifetime p) (GenericParam-m.Lifetime q) sp t = refl
more_last (GenericParam-m.Lifetime p) (GenericParam-m.Ty q) sp t = refl
more_last (GenericParam-m.Lifetime p) (GenericParam-m.Const q) sp t = refl
more_last (GenericParam-m.Ty p) (GenericParam-m.Lifetime q) sp t = refl
more_last (GenericParam-m.Ty p) (GenericParam-m.Ty q) sp t = refl
more_last (GenericParam-m.Ty p) (GenericParam-m.Const q) sp t = refl
more_last (GenericParam-m.Const p) (GenericParam-m.Lifetime q) sp t = refl
more_last (GenericParam-m.Const p) (GenericParam-m.Ty q) sp t = refl
more_last (GenericParam-m.Const p) (GenericParam-m.Const q) sp t = refl

-- commas don't count
pub same_rows : (l m : List (Param × Comma)) (o q : Option Param) → same_syntax (one_row l o) (one_row m q) ≡ same_values l m o q
same_rows [] [] None None = refl
same_rows [] [] None (Some u) = none_last u
same_rows [] [] (Some t) None = last_none t
same_rows [] [] (Some t) (Some u) = same_last t u
same_rows [] (y ∷ m) None q = none_more y.0 (span_of (comma_syntax y.1)) (one_row m q)
same_rows [] (y ∷ m) (Some t) q = last_more t y.0 (span_of (comma_syntax y.1)) (one_row m q)
same_rows (x ∷ l) [] o None = more_none x.0 (span_of (comma_syntax x.1)) (one_row l o)
same_rows (x ∷ l) [] o (Some u) = more_last u x.0 (span_of (comma_syntax x.1)) (one_row l o)
same_rows (x ∷ l) (y ∷ m) o q =
    same_more x.0 y.0 (span_of (comma_syntax x.1)) (span_of (comma_syntax y.1)) (one_row l o) (one_row m q)
    ∙ ap (and (same_syntax (param_of x) (param_of y))) (same_rows l m o q)
    ∙ regroup (same_syntax (param_of x) (param_of y)) (same_syntax (in_order param_of l) (in_order param_of m)) (same_syntax (maybe syntax_of_GenericParam o) (maybe syntax_of_GenericParam q))

-- THE SIGNS

-- the characters of a sign that is written, and of one that is absent
unlike_none : (c : ℕ) (l : List TokenSpan) → is_written (placed (c ∷ []) l) ≡ true → same_mark [] (placed (c ∷ []) l) ≡ false
unlike_none c [] h = absurd (cc h)
unlike_none c (x ∷ l) h = refl

none_unlike : (c : ℕ) (l : List TokenSpan) → is_written (placed (c ∷ []) l) ≡ true → same_mark (placed (c ∷ []) l) [] ≡ false
none_unlike c [] h = absurd (cc h)
none_unlike c (x ∷ l) h = refl

alike : (c : ℕ) (l r : List TokenSpan) → is_written (placed (c ∷ []) l) ≡ true → is_written (placed (c ∷ []) r) ≡ true → same_mark (placed (c ∷ []) l) (placed (c ∷ []) r) ≡ true
alike c [] r h k = absurd (cc h)
alike c (x ∷ l) [] h k = absurd (cc k)
alike c (x ∷ l) (y ∷ r) h k = ap (λ b. and b true) (eq-eqb c c refl)

same_lt : (a b : Option Lt) → LtPresent a → LtPresent b → same_mark (sign_of (maybe lt_syntax a)) (sign_of (maybe lt_syntax b)) ≡ same_bool (present a) (present b)
same_lt None None h k = refl
same_lt None (Some n) h k = unlike_none 60 n.spans k
same_lt (Some m) None h k = none_unlike 60 m.spans h
same_lt (Some m) (Some n) h k = alike 60 m.spans n.spans h k

same_gt : (a b : Option Gt) → GtPresent a → GtPresent b → same_mark (sign_of (maybe gt_syntax a)) (sign_of (maybe gt_syntax b)) ≡ same_bool (present a) (present b)
same_gt None None h k = refl
same_gt None (Some n) h k = unlike_none 62 n.spans k
same_gt (Some m) None h k = none_unlike 62 m.spans h
same_gt (Some m) (Some n) h k = alike 62 m.spans n.spans h k

-- WITH THEIR SIGNS

abbrev whole : Option Lt → List (Param × Comma) → Option Param → Option Gt → Syntax
whole a l o c = parameters_of (maybe lt_syntax a) (list_of syntax_of_GenericParam comma_syntax l o) (maybe gt_syntax c)

abbrev in_signs : Option Lt → List (Param × Comma) → Option Param → Option Gt → Syntax
in_signs a l o c = Node (Vanishing false (Left (Order (sign_of (maybe lt_syntax a)) (one_row l o) (sign_of (maybe gt_syntax c)))))

-- they are like none at all
abbrev like_none : Option Lt → List (Param × Comma) → Option Param → Option Gt → Bool
like_none a l o c = and (same_bool false (present a)) (and (same_bool false (present c)) (same_syntax Done (one_row l o)))

abbrev none_like : Option Lt → List (Param × Comma) → Option Param → Option Gt → Bool
none_like a l o c = and (same_bool (present a) false) (and (same_bool (present c) false) (same_syntax (one_row l o) Done))

-- there is neither a sign nor a parameter; or there is something
abbrev Shape : Option Lt → List (Param × Comma) → Option Param → Option Gt → Type 0
Shape a l o c =
    ((whole a l o c ≡ no_parameters) × (present a ≡ false) × (present c ≡ false) × (one_row l o ≡ Done))
    ⊎ ((whole a l o c ≡ in_signs a l o c) × (like_none a l o c ≡ false) × (none_like a l o c ≡ false))

no_row : (b d r : Bool) → r ≡ false → and b (and d r) ≡ false
no_row b d r h = ap (λ z. and b (and d z)) h ∙ ap (and b) (and_false d) ∙ and_false b

shape : (a : Option Lt) (l : List (Param × Comma)) (o : Option Param) (c : Option Gt) → Shape a l o c
shape (Some m) l o c = inr (refl, refl, refl)
shape None [] None None = inl (refl, refl, refl, refl)
shape None [] None (Some n) = inr (refl, refl, refl)
shape None [] (Some p) c = inr (refl, no_row true (same_bool false (present c)) _ (none_last p), no_row true (same_bool (present c) false) _ (last_none p))
shape None (x ∷ l) o c = inr (refl, no_row true (same_bool false (present c)) _ (none_more x.0 (span_of (comma_syntax x.1)) (one_row l o)), no_row true (same_bool (present c) false) _ (more_none x.0 (span_of (comma_syntax x.1)) (one_row l o)))

swap : (x y z : Bool) → and x (and z y) ≡ and x (and y z)
swap x true z = ap (and x) (and_true z)
swap x false z = ap (and x) (and_false z)

pub same_parameters : (a b : Option Lt) (l m : List (Param × Comma)) (o q : Option Param) (c d : Option Gt) → LtPresent a → LtPresent b → GtPresent c → GtPresent d →
    same_syntax (whole a l o c) (whole b m q d) ≡ and (same_bool (present a) (present b)) (and (same_bool (present c) (present d)) (same_syntax (one_row l o) (one_row m q)))
same_parameters a b l m o q c d ha hb hc hd = go (shape a l o c) (shape b m q d)
  where
    both : Bool
    both = and (same_bool (present a) (present b)) (and (same_bool (present c) (present d)) (same_syntax (one_row l o) (one_row m q)))

    go : Shape a l o c → Shape b m q d → same_syntax (whole a l o c) (whole b m q d) ≡ both
    go (inl (x, xa, xc, xl)) (inl (y, yb, yd, ym)) =
        ap₂ same_syntax x y ∙ sym (ap₂ (λ s t. and s t) (ap₂ same_bool xa yb) (ap₂ (λ s t. and s t) (ap₂ same_bool xc yd) (ap₂ same_syntax xl ym)))
    go (inl (x, xa, xc, xl)) (inr (y, yn, yt)) =
        ap₂ same_syntax x y ∙ sym yn ∙ sym (ap₂ (λ s t. and s t) (ap (λ s. same_bool s (present b)) xa) (ap₂ (λ s t. and s t) (ap (λ s. same_bool s (present d)) xc) (ap (λ s. same_syntax s (one_row m q)) xl)))
    go (inr (x, xn, xt)) (inl (y, yb, yd, ym)) =
        ap₂ same_syntax x y ∙ sym xt ∙ sym (ap₂ (λ s t. and s t) (ap (same_bool (present a)) yb) (ap₂ (λ s t. and s t) (ap (same_bool (present c)) yd) (ap (same_syntax (one_row l o)) ym)))
    go (inr (x, xn, xt)) (inr (y, yn, yt)) =
        ap₂ same_syntax x y
        ∙ ap₂ (λ s t. and s (and (same_syntax (one_row l o) (one_row m q)) t)) (same_lt a b ha hb) (same_gt c d hc hd)
        ∙ swap (same_bool (present a) (present b)) (same_bool (present c) (present d)) (same_syntax (one_row l o) (one_row m q))

-- A WHERE CLAUSE ASIDE
pub same_aside : (c d : Option Syntax) → same_syntax (clause_aside (maybe itself c)) (clause_aside (maybe itself d)) ≡ same_syntax (maybe itself c) (maybe itself d)
same_aside None None = refl
same_aside None (Some d) = refl
same_aside (Some c) None = refl
same_aside (Some c) (Some d) = refl
