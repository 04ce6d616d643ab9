-- Trees and streams pass the tests of sameness exactly where they are equal with every span 0 to 0.
use Rattle.std.proofs.Common.{◌≡◌, ℕ, Bool, true, false, ◌&&◌, List, [], ◌∷◌, refl, sym, ap, ap₂, ◌∙◌, true≢false}
use Rattle.std.specs.Prelude.{◌↔◌, nat_eq}
use Rattle.std.specs.Str.{bytes_eq}
use Rattle.std.proofs.lemmas.Bool.{eqb-true, eq-eqb}
use Rattle.syn_grammar.specs.Words.{Text}
use Rattle.syn_grammar.specs.Tokens.{Span, call_site, Leaf, ident, literal, Stream, end, leaf, punct, group, plain, and, same_text}
use Rattle.syn_grammar.specs.Shape.{Shape, shape_number, shape_at, shape_back, same_shape}
use Rattle.syn_grammar.specs.Grammar.{Syntax, Nothing, Token, Mark, Lifetime, Both, Left, Right, Node, Vanishing, Group, Raw, Rest, Case, Such, Shaped, Captured, Unshown, Added, Impl, Done, Last, More, Order, plain_mark, plain_syntax}
use Rattle.syn_grammar.specs.Same.{same_bool, same_delimiter, same_leaf, same_stream, same_mark, same_syntax}
use Rattle.syn_grammar.specs.RuleNumbers.{same_rule}
use Rattle.syn_grammar.proofs.Sets.{and_left, and_right, same_text_eq, same_text_refl, same_delimiter_eq, same_kind_eq}
use Rattle.syn_grammar.proofs.RuleLemmas.{same_rule_eq}

-- COMPARISONS PUT TOGETHER

pub and_both : {a b : Bool} → a ≡ true → b ≡ true → and a b ≡ true
and_both h k = ap₂ and h k

pub and_true : (b : Bool) → and b true ≡ b
and_true true = refl
and_true false = refl

pub and_false : (b : Bool) → and b false ≡ false
and_false true = refl
and_false false = refl

pub and_assoc : (a b c : Bool) → and a (and b c) ≡ and (and a b) c
and_assoc true b c = refl
and_assoc false b c = refl

-- EQUAL PARTS

same_bool_eq : (j k : Bool) → same_bool j k ≡ true → j ≡ k
same_bool_eq true k h = sym h
same_bool_eq false true h = absurd (true≢false (sym h))
same_bool_eq false false h = refl

same_bool_refl : (j : Bool) → same_bool j j ≡ true
same_bool_refl true = refl
same_bool_refl false = refl

same_number_refl : (n : ℕ) → nat_eq n n ≡ true
same_number_refl n = eq-eqb n n refl

same_shape_eq : (j k : Shape) → same_shape j k ≡ true → j ≡ k
same_shape_eq j k h =
    let a : (shape_number j).0 ≡ (shape_number k).0 = eqb-true _ _ (and_left _ _ h) in
    let b : (shape_number j).1 ≡ (shape_number k).1 = eqb-true _ _ (and_right _ _ h) in
    sym (shape_back j) ∙ ap₂ (λ (x : ℕ) (y : ℕ). shape_at (x, y)) a b ∙ shape_back k

same_shape_refl : (j : Shape) → same_shape j j ≡ true
same_shape_refl j = and_both (same_number_refl (shape_number j).0) (same_number_refl (shape_number j).1)

same_leaf_eq : (x y : Leaf) → same_leaf x y ≡ true → x ≡ y
same_leaf_eq (ident x) (ident y) h = ap ident (same_text_eq x y h)
same_leaf_eq (literal k x) (literal l y) h = ap₂ literal (same_kind_eq k l (and_left _ _ h)) (same_text_eq x y (and_right _ _ h))
same_leaf_eq _ _ h = absurd (true≢false (sym h))

same_leaf_refl : (x : Leaf) → same_leaf x x ≡ true
same_leaf_refl (ident x) = same_text_refl x
same_leaf_refl (literal k x) = and_both (same_number_refl _) (same_text_refl x)

-- the test that `==` of two texts makes
pub bytes_same_text : (x y : Text) → bytes_eq x y ≡ same_text x y
bytes_same_text [] [] = refl
bytes_same_text [] (y ∷ m) = refl
bytes_same_text (x ∷ l) [] = refl
bytes_same_text (x ∷ l) (y ∷ m) = go (nat_eq x y) (bytes_same_text l m)
  where
    go : (b : Bool) {u v : Bool} → u ≡ v → (b && u) ≡ and b v
    go true e = e
    go false e = refl

-- STREAMS

stream_to : (a b : Stream) → same_stream a b ≡ true → plain a ≡ plain b
stream_to end end h = refl
stream_to (leaf x sp m) (leaf y sq n) h = ap₂ (λ v z. leaf v call_site z) (same_leaf_eq x y (and_left _ _ h)) (stream_to m n (and_right _ _ h))
stream_to (punct c j sp m) (punct d k sq n) h =
    let t = and_right _ _ h in
    ap (λ v. punct v j call_site (plain m)) (eqb-true c d (and_left _ _ h)) ∙ ap₂ (λ v z. punct d v call_site z) (same_bool_eq j k (and_left _ _ t)) (stream_to m n (and_right _ _ t))
stream_to (group d o c i m) (group e p q j n) h =
    let t = and_right _ _ h in
    ap (λ v. group v call_site call_site (plain i) (plain m)) (same_delimiter_eq d e (and_left _ _ h)) ∙ ap₂ (group e call_site call_site) (stream_to i j (and_left _ _ t)) (stream_to m n (and_right _ _ t))
stream_to _ _ h = absurd (true≢false (sym h))

pub same_stream_refl : (a : Stream) → same_stream a a ≡ true
same_stream_refl end = refl
same_stream_refl (leaf x sp m) = and_both (same_leaf_refl x) (same_stream_refl m)
same_stream_refl (punct c j sp m) = and_both (same_number_refl c) (and_both (same_bool_refl j) (same_stream_refl m))
same_stream_refl (group d o c i m) = and_both (same_number_refl _) (and_both (same_stream_refl i) (same_stream_refl m))

-- spans don't count
pub same_plain_stream : (a b : Stream) → same_stream (plain a) (plain b) ≡ same_stream a b
same_plain_stream end end = refl
same_plain_stream (leaf x sp m) (leaf y sq n) = ap (and (same_leaf x y)) (same_plain_stream m n)
same_plain_stream (punct c j sp m) (punct d k sq n) = ap (λ z. and (nat_eq c d) (and (same_bool j k) z)) (same_plain_stream m n)
same_plain_stream (group d o c i m) (group e p q j n) = ap₂ (λ y z. and (same_delimiter d e) (and y z)) (same_plain_stream i j) (same_plain_stream m n)
same_plain_stream _ _ = refl

stream_from : (a b : Stream) → plain a ≡ plain b → same_stream a b ≡ true
stream_from a b e = sym (same_plain_stream a b) ∙ ap (λ z. same_stream z (plain b)) e ∙ same_stream_refl (plain b)

pub same_stream_plain : (a b : Stream) → (same_stream a b ≡ true) ↔ (plain a ≡ plain b)
same_stream_plain a b = (stream_to a b, stream_from a b)

pub same_stream_sym : (a b : Stream) → same_stream a b ≡ true → same_stream b a ≡ true
same_stream_sym a b h = stream_from b a (sym (stream_to a b h))

pub same_stream_trans : (a b c : Stream) → same_stream a b ≡ true → same_stream b c ≡ true → same_stream a c ≡ true
same_stream_trans a b c h k = stream_from a c (stream_to a b h ∙ stream_to b c k)

-- TREES

mark_to : (l m : List (ℕ × Span)) → same_mark l m ≡ true → plain_mark l ≡ plain_mark m
mark_to [] [] h = refl
mark_to (x ∷ l) (y ∷ m) h = ap₂ (λ v z. (v, call_site) ∷ z) (eqb-true x.0 y.0 (and_left _ _ h)) (mark_to l m (and_right _ _ h))
mark_to _ _ h = absurd (true≢false (sym h))

same_mark_refl : (l : List (ℕ × Span)) → same_mark l l ≡ true
same_mark_refl [] = refl
same_mark_refl (x ∷ l) = and_both (same_number_refl x.0) (same_mark_refl l)

same_plain_mark : (l m : List (ℕ × Span)) → same_mark (plain_mark l) (plain_mark m) ≡ same_mark l m
same_plain_mark [] [] = refl
same_plain_mark (x ∷ l) (y ∷ m) = ap (and (nat_eq x.0 y.0)) (same_plain_mark l m)
same_plain_mark _ _ = refl

tree_to : (s t : Syntax) → same_syntax s t ≡ true → plain_syntax s ≡ plain_syntax t
tree_to Nothing Nothing h = refl
tree_to (Token x sp) (Token y sq) h = ap (λ v. Token v call_site) (same_leaf_eq x y h)
tree_to (Mark xs) (Mark ys) h = ap Mark (mark_to xs ys h)
tree_to (Lifetime sp x sq) (Lifetime so y sr) h = ap (λ v. Lifetime call_site v call_site) (same_text_eq x y h)
tree_to (Both a b) (Both c d) h = ap₂ Both (tree_to a c (and_left _ _ h)) (tree_to b d (and_right _ _ h))
tree_to (Left a) (Left b) h = ap Left (tree_to a b h)
tree_to (Right a) (Right b) h = ap Right (tree_to a b h)
tree_to (Node a) (Node b) h = ap Node (tree_to a b h)
tree_to (Vanishing j a) (Vanishing k b) h = ap₂ Vanishing (same_bool_eq j k (and_left _ _ h)) (tree_to a b (and_right _ _ h))
tree_to (Group d o c a) (Group e p q b) h = ap₂ (λ v z. Group v call_site call_site z) (same_delimiter_eq d e (and_left _ _ h)) (tree_to a b (and_right _ _ h))
tree_to (Raw d o c i) (Raw e p q j) h = ap₂ (λ v z. Raw v call_site call_site z) (same_delimiter_eq d e (and_left _ _ h)) (stream_to i j (and_right _ _ h))
tree_to (Rest xs i) (Rest ys j) h = ap₂ Rest (mark_to xs ys (and_left _ _ h)) (stream_to i j (and_right _ _ h))
tree_to (Case k a) (Case l b) h = ap₂ Case (same_rule_eq k l (and_left _ _ h)) (tree_to a b (and_right _ _ h))
tree_to (Such a) (Such b) h = ap Such (tree_to a b h)
tree_to (Shaped j a) (Shaped k b) h = ap₂ Shaped (same_shape_eq j k (and_left _ _ h)) (tree_to a b (and_right _ _ h))
tree_to (Captured a i) (Captured b j) h = ap₂ Captured (tree_to a b (and_left _ _ h)) (stream_to i j (and_right _ _ h))
tree_to (Unshown a) (Unshown b) h = ap Unshown (tree_to a b h)
tree_to (Added x) (Added y) h = ap Added (same_text_eq x y h)
tree_to (Impl a b) (Impl c d) h = ap₂ Impl (tree_to a c (and_left _ _ h)) (tree_to b d (and_right _ _ h))
tree_to Done Done h = refl
tree_to (Last j a) (Last k b) h = ap₂ Last (same_bool_eq j k (and_left _ _ h)) (tree_to a b (and_right _ _ h))
tree_to (More j a sp b) (More k c sq d) h =
    let t = and_right _ _ h in
    ap (λ v. More v (plain_syntax a) call_site (plain_syntax b)) (same_bool_eq j k (and_left _ _ h)) ∙ ap₂ (λ y z. More k y call_site z) (tree_to a c (and_left _ _ t)) (tree_to b d (and_right _ _ t))
tree_to (Order xs a ys) (Order zs b ws) h =
    let t = and_right _ _ h in
    ap (λ v. Order v (plain_syntax a) (plain_mark ys)) (mark_to xs zs (and_left _ _ h)) ∙ ap₂ (Order (plain_mark zs)) (tree_to a b (and_left _ _ t)) (mark_to ys ws (and_right _ _ t))
tree_to _ _ h = absurd (true≢false (sym h))

pub same_syntax_refl : (s : Syntax) → same_syntax s s ≡ true
same_syntax_refl Nothing = refl
same_syntax_refl (Token x sp) = same_leaf_refl x
same_syntax_refl (Mark xs) = same_mark_refl xs
same_syntax_refl (Lifetime sp x sq) = same_text_refl x
same_syntax_refl (Both a b) = and_both (same_syntax_refl a) (same_syntax_refl b)
same_syntax_refl (Left a) = same_syntax_refl a
same_syntax_refl (Right a) = same_syntax_refl a
same_syntax_refl (Node a) = same_syntax_refl a
same_syntax_refl (Vanishing j a) = and_both (same_bool_refl j) (same_syntax_refl a)
same_syntax_refl (Group d o c a) = and_both (same_number_refl _) (same_syntax_refl a)
same_syntax_refl (Raw d o c i) = and_both (same_number_refl _) (same_stream_refl i)
same_syntax_refl (Rest xs i) = and_both (same_mark_refl xs) (same_stream_refl i)
same_syntax_refl (Case k a) = and_both (same_number_refl _) (same_syntax_refl a)
same_syntax_refl (Such a) = same_syntax_refl a
same_syntax_refl (Shaped j a) = and_both (same_shape_refl j) (same_syntax_refl a)
same_syntax_refl (Captured a i) = and_both (same_syntax_refl a) (same_stream_refl i)
same_syntax_refl (Unshown a) = same_syntax_refl a
same_syntax_refl (Added x) = same_text_refl x
same_syntax_refl (Impl a b) = and_both (same_syntax_refl a) (same_syntax_refl b)
same_syntax_refl Done = refl
same_syntax_refl (Last j a) = and_both (same_bool_refl j) (same_syntax_refl a)
same_syntax_refl (More j a sp b) = and_both (same_bool_refl j) (and_both (same_syntax_refl a) (same_syntax_refl b))
same_syntax_refl (Order xs a ys) = and_both (same_mark_refl xs) (and_both (same_syntax_refl a) (same_mark_refl ys))

-- spans don't count
pub same_plain_syntax : (s t : Syntax) → same_syntax (plain_syntax s) (plain_syntax t) ≡ same_syntax s t
same_plain_syntax Nothing Nothing = refl
same_plain_syntax (Token x sp) (Token y sq) = refl
same_plain_syntax (Mark xs) (Mark ys) = same_plain_mark xs ys
same_plain_syntax (Lifetime sp x sq) (Lifetime so y sr) = refl
same_plain_syntax (Both a b) (Both c d) = ap₂ and (same_plain_syntax a c) (same_plain_syntax b d)
same_plain_syntax (Left a) (Left b) = same_plain_syntax a b
same_plain_syntax (Right a) (Right b) = same_plain_syntax a b
same_plain_syntax (Node a) (Node b) = same_plain_syntax a b
same_plain_syntax (Vanishing j a) (Vanishing k b) = ap (and (same_bool j k)) (same_plain_syntax a b)
same_plain_syntax (Group d o c a) (Group e p q b) = ap (and (same_delimiter d e)) (same_plain_syntax a b)
same_plain_syntax (Raw d o c i) (Raw e p q j) = ap (and (same_delimiter d e)) (same_plain_stream i j)
same_plain_syntax (Rest xs i) (Rest ys j) = ap₂ and (same_plain_mark xs ys) (same_plain_stream i j)
same_plain_syntax (Case k a) (Case l b) = ap (and (same_rule k l)) (same_plain_syntax a b)
same_plain_syntax (Such a) (Such b) = same_plain_syntax a b
same_plain_syntax (Shaped j a) (Shaped k b) = ap (and (same_shape j k)) (same_plain_syntax a b)
same_plain_syntax (Captured a i) (Captured b j) = ap₂ and (same_plain_syntax a b) (same_plain_stream i j)
same_plain_syntax (Unshown a) (Unshown b) = same_plain_syntax a b
same_plain_syntax (Added x) (Added y) = refl
same_plain_syntax (Impl a b) (Impl c d) = ap₂ and (same_plain_syntax a c) (same_plain_syntax b d)
same_plain_syntax Done Done = refl
same_plain_syntax (Last j a) (Last k b) = ap (and (same_bool j k)) (same_plain_syntax a b)
same_plain_syntax (More j a sp b) (More k c sq d) = ap₂ (λ y z. and (same_bool j k) (and y z)) (same_plain_syntax a c) (same_plain_syntax b d)
same_plain_syntax (Order xs a ys) (Order zs b ws) =
    ap (λ z. and z (and (same_syntax (plain_syntax a) (plain_syntax b)) (same_mark (plain_mark ys) (plain_mark ws)))) (same_plain_mark xs zs)
    ∙ ap₂ (λ y z. and (same_mark xs zs) (and y z)) (same_plain_syntax a b) (same_plain_mark ys ws)
same_plain_syntax _ _ = refl

tree_from : (s t : Syntax) → plain_syntax s ≡ plain_syntax t → same_syntax s t ≡ true
tree_from s t e = sym (same_plain_syntax s t) ∙ ap (λ z. same_syntax z (plain_syntax t)) e ∙ same_syntax_refl (plain_syntax t)

pub same_syntax_plain : (s t : Syntax) → (same_syntax s t ≡ true) ↔ (plain_syntax s ≡ plain_syntax t)
same_syntax_plain s t = (tree_to s t, tree_from s t)

pub same_syntax_sym : (s t : Syntax) → same_syntax s t ≡ true → same_syntax t s ≡ true
same_syntax_sym s t h = tree_from t s (sym (tree_to s t h))

pub same_syntax_trans : (s t u : Syntax) → same_syntax s t ≡ true → same_syntax t u ≡ true → same_syntax s u ≡ true
same_syntax_trans s t u h k = tree_from s u (tree_to s t h ∙ tree_to t u k)

-- LISTS

-- A list whose pairs are compared in turn is compared by its pairs, and then by the last element. Its view takes both.
module _ {X O : Type 0} (view : List X → O → Syntax) (none : O) (one : X → X → Bool)
    (each : (x y : X) (l m : List X) (o q : O) → same_syntax (view (x ∷ l) o) (view (y ∷ m) q) ≡ and (one x y) (same_syntax (view l o) (view m q)))
    (shorter : (y : X) (m : List X) (o q : O) → same_syntax (view [] o) (view (y ∷ m) q) ≡ false)
    (longer : (x : X) (l : List X) (o q : O) → same_syntax (view (x ∷ l) o) (view [] q) ≡ false) where
  pub same_ends : (l m : List X) (o q : O) → same_syntax (view l o) (view m q) ≡ and (same_syntax (view l none) (view m none)) (same_syntax (view [] o) (view [] q))
  same_ends [] [] o q = ap (λ z. and z (same_syntax (view [] o) (view [] q))) (sym (same_syntax_refl (view [] none)))
  same_ends [] (y ∷ m) o q = shorter y m o q ∙ ap (λ z. and z (same_syntax (view [] o) (view [] q))) (sym (shorter y m none none))
  same_ends (x ∷ l) [] o q = longer x l o q ∙ ap (λ z. and z (same_syntax (view [] o) (view [] q))) (sym (longer x l none none))
  same_ends (x ∷ l) (y ∷ m) o q =
      each x y l m o q ∙ ap (and (one x y)) (same_ends l m o q) ∙ and_assoc (one x y) (same_syntax (view l none) (view m none)) _
      ∙ ap (λ z. and z (same_syntax (view [] o) (view [] q))) (sym (each x y l m none none))
