-- Lists from the left: what one iteration of a loop parses.
use Rattle.std.proofs.Common.{◌≡◌, true, false, List, [], ◌∷◌, ◌++◌, Some, None, refl, sym, ap, ◌∙◌}
use Rattle.syn_grammar.specs.Tokens.{Stream}
use Rattle.syn_grammar.specs.Rules.{Rule}
use Rattle.syn_grammar.specs.Grammar.{Syntax, Nothing, Node, Right, Left, Both}
use Rattle.syn_grammar.specs.Take.{Out}
use Rattle.syn_grammar.specs.Run.{parse_rule, wrap}
use Rattle.syn_parse.specs.Form.{Condition, meets, Form, parse}
use Rattle.syn_tokens.specs.Listing.{onto}
use Rattle.syn_parse.specs.Listing.{IsList, IsJoined}

pub wrap_wrap : (f g : Syntax → Syntax) (o : Out) → wrap f (wrap g o) ≡ wrap (λ s. f (g s)) o
wrap_wrap f g None = refl
wrap_wrap f g (Some p) = refl

pub wrap_same : (f g : Syntax → Syntax) → ((s : Syntax) → f s ≡ g s) → (o : Out) → wrap f o ≡ wrap g o
wrap_same f g h None = refl
wrap_same f g h (Some p) = ap (λ s. Some (s, p.1)) (h p.0)

module _ {T P : Type 0} (tag : Syntax → Syntax) (v : T → Syntax) (w : P → Syntax) where
  pub onto_more : (l : List (T × P)) (x : T × P) (s : Syntax) → onto tag v w (l ++ x ∷ []) s ≡ onto tag v w l (Node (tag (Both (v x.0) (Left (Both (w x.1) s)))))
  onto_more [] x s = refl
  onto_more (y ∷ l) x s = ap (λ z. Node (tag (Both (v y.0) (Left (Both (w y.1) z))))) (onto_more l x s)

  -- one more element with its separator is parsed
  pub onto_grows : (l : List (T × P)) (x : T × P) (o : Out) →
      wrap (onto tag v w l) (wrap (λ s. Node (tag (Both (v x.0) (Left (Both (w x.1) s))))) o) ≡ wrap (onto tag v w (l ++ x ∷ [])) o
  onto_grows l x o =
      wrap_wrap (onto tag v w l) (λ s. Node (tag (Both (v x.0) (Left (Both (w x.1) s))))) o
      ∙ wrap_same _ _ (λ s. sym (onto_more l x s)) o

module _ {T P : Type 0} (v : T → Syntax) (w : P → Syntax) (k : Rule) (e : Form) (stop next : Condition) (sep : Form) (is : IsList k e stop next sep) (ts : Stream) where
  -- the stop is next
  pub list_end : meets stop ts ≡ true → parse_rule k ts ≡ Some (Node (Left Nothing), ts)
  list_end h = is.is ts ∙ rw h refl

  pub list_refused : meets stop ts ≡ false → parse e ts ≡ None → parse_rule k ts ≡ None
  list_refused h a = is.is ts ∙ rw (h, a) refl

  -- an element without a separator
  pub list_last : (x : T) (m : Stream) → meets stop ts ≡ false → parse e ts ≡ Some (v x, m) → meets next m ≡ false → parse_rule k ts ≡ Some (Node (Right (Both (v x) (Right Nothing))), m)
  list_last x m h a b = is.is ts ∙ rw (h, a) (rw b refl)

  pub list_no_separator : (x : T) (m : Stream) → meets stop ts ≡ false → parse e ts ≡ Some (v x, m) → meets next m ≡ true → parse sep m ≡ None → parse_rule k ts ≡ None
  list_no_separator x m h a b c = is.is ts ∙ rw (h, a) (rw (b, c) refl)

  -- an element with its separator, and the others
  pub list_more : (x : T) (q : P) (m n : Stream) → meets stop ts ≡ false → parse e ts ≡ Some (v x, m) → meets next m ≡ true → parse sep m ≡ Some (w q, n) →
      parse_rule k ts ≡ wrap (λ s. Node (Right (Both (v x) (Left (Both (w q) s))))) (parse_rule k n)
  list_more x q m n h a b c = is.is ts ∙ rw (h, a) (rw (b, c) (go (parse_rule k n)))
    where
      go : (o : Out) → wrap Node (wrap Right (wrap (Both (v x)) (wrap Left (wrap (Both (w q)) o)))) ≡ wrap (λ s. Node (Right (Both (v x) (Left (Both (w q) s))))) o
      go None = refl
      go (Some p) = refl

module _ {T P : Type 0} (v : T → Syntax) (w : P → Syntax) (k : Rule) (e : Form) (next : Condition) (sep : Form) (is : IsJoined k e next sep) (ts : Stream) where
  pub joined_refused : parse e ts ≡ None → parse_rule k ts ≡ None
  joined_refused a = is.is ts ∙ rw a refl

  pub joined_last : (x : T) (m : Stream) → parse e ts ≡ Some (v x, m) → meets next m ≡ false → parse_rule k ts ≡ Some (Node (Both (v x) (Right Nothing)), m)
  joined_last x m a b = is.is ts ∙ rw a (rw b refl)

  pub joined_no_separator : (x : T) (m : Stream) → parse e ts ≡ Some (v x, m) → meets next m ≡ true → parse sep m ≡ None → parse_rule k ts ≡ None
  joined_no_separator x m a b c = is.is ts ∙ rw a (rw (b, c) refl)

  pub joined_more : (x : T) (q : P) (m n : Stream) → parse e ts ≡ Some (v x, m) → meets next m ≡ true → parse sep m ≡ Some (w q, n) →
      parse_rule k ts ≡ wrap (λ s. Node (Both (v x) (Left (Both (w q) s)))) (parse_rule k n)
  joined_more x q m n a b c = is.is ts ∙ rw a (rw (b, c) (go (parse_rule k n)))
    where
      go : (o : Out) → wrap Node (wrap (Both (v x)) (wrap Left (wrap (Both (w q)) o))) ≡ wrap (λ s. Node (Both (v x) (Left (Both (w q) s)))) o
      go None = refl
      go (Some p) = refl
