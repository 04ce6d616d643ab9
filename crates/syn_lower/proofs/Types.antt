-- The odd ones among types: pointers and tuples.
use Rattle.std.proofs.Common.{◌≡◌, Bool, false, List, [], ◌∷◌, Option, Some, None, refl, sym, ap, ◌∙◌}
use Rattle.syn_grammar.specs.Tokens.{◌⧺◌, and}
use Rattle.syn_grammar.specs.Grammar.{Syntax, Nothing, Node, Right, Both, print}
use Rattle.syn_grammar.specs.Same.{same_syntax}
use Rattle.syn_grammar.proofs.Same.{and_false}
use Rattle.syn_grammar.proofs.Streams.{append_end}
use Rattle.syn_tokens.specs.Leaves.{maybe}
use Rattle.syn_tokens.specs.Kinds.{Const, Mut, const_syntax, mut_syntax}
use Rattle.syn_tokens.specs.Listing.{list_of}
use Rattle.syn_lower.specs.Types.{pointer_words, tuple_elements, lone_comma}

pub print_pointer_words : (c : Option Const) (m : Option Mut) →
    print (pointer_words (maybe const_syntax c) (maybe mut_syntax m)) ≡ print (maybe const_syntax c) ⧺ print (maybe mut_syntax m)
print_pointer_words (Some c) (Some m) = refl
print_pointer_words (Some c) None = refl
print_pointer_words None (Some m) = refl
print_pointer_words None None = refl

module _ {T P : Type 0} (v : T → Syntax) (w : P → Syntax) where
  pub print_elements : (l : List (T × P)) (o : Option T) → print (tuple_elements (list_of v w l o)) ≡ print (list_of v w l o) ⧺ lone_comma l o
  print_elements [] None = refl
  print_elements [] (Some t) = ap (λ s. s ⧺ lone_comma {T = T} {P = P} [] (Some t)) (sym (append_end (print (v t))))
  print_elements (x ∷ l) o = sym (append_end (print (list_of v w (x ∷ l) o)))

  pub same_elements : (l m : List (T × P)) (o q : Option T) → same_syntax (tuple_elements (list_of v w l o)) (tuple_elements (list_of v w m q)) ≡ same_syntax (list_of v w l o) (list_of v w m q)
  same_elements [] [] None None = refl
  same_elements [] [] None (Some u) = refl
  same_elements [] [] (Some t) None = refl
  same_elements [] [] (Some t) (Some u) = refl
  same_elements [] (y ∷ m) None q = refl
  same_elements [] (y ∷ m) (Some t) q = refl
  same_elements (x ∷ l) [] o None = refl
  same_elements (x ∷ l) [] o (Some u) = refl
  same_elements (x ∷ l) (y ∷ m) o q = refl

  -- a type in parentheses is no tuple
  pub paren_no_tuple : (s : Syntax) (l : List (T × P)) (o : Option T) → same_syntax (Node (Right (Both s (Right Nothing)))) (tuple_elements (list_of v w l o)) ≡ false
  paren_no_tuple s [] None = refl
  paren_no_tuple s [] (Some t) = and_false (same_syntax s (v t))
  paren_no_tuple s (x ∷ l) o = and_false (same_syntax s (v x.0))

  pub tuple_no_paren : (s : Syntax) (l : List (T × P)) (o : Option T) → same_syntax (tuple_elements (list_of v w l o)) (Node (Right (Both s (Right Nothing)))) ≡ false
  tuple_no_paren s [] None = refl
  tuple_no_paren s [] (Some t) = and_false (same_syntax (v t) s)
  tuple_no_paren s (x ∷ l) o = and_false (same_syntax (v x.0) s)

pub same_pointer_words : (c d : Option Const) (m n : Option Mut) →
    same_syntax (pointer_words (maybe const_syntax c) (maybe mut_syntax m)) (pointer_words (maybe const_syntax d) (maybe mut_syntax n))
    ≡ and (same_syntax (maybe const_syntax c) (maybe const_syntax d)) (same_syntax (maybe mut_syntax m) (maybe mut_syntax n))
same_pointer_words (Some c) (Some d) (Some m) (Some n) = refl
same_pointer_words (Some c) (Some d) (Some m) None = refl
same_pointer_words (Some c) (Some d) None (Some n) = refl
same_pointer_words (Some c) (Some d) None None = refl
same_pointer_words (Some c) None (Some m) (Some n) = refl
same_pointer_words (Some c) None (Some m) None = refl
same_pointer_words (Some c) None None (Some n) = refl
same_pointer_words (Some c) None None None = refl
same_pointer_words None (Some d) (Some m) (Some n) = refl
same_pointer_words None (Some d) (Some m) None = refl
same_pointer_words None (Some d) None (Some n) = refl
same_pointer_words None (Some d) None None = refl
same_pointer_words None None (Some m) (Some n) = refl
same_pointer_words None None (Some m) None = refl
same_pointer_words None None None (Some n) = refl
same_pointer_words None None None None = refl
