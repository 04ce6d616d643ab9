-- The patterns of a tuple: unless it is one pattern without a comma, they are printed as they are. A name after `ref` or `mut`. A
-- pattern with its type, compared with another.
use Rattle.std.proofs.Common.{◌≡◌, ◌≢◌, ◌⊎◌, inl, inr, Bool, true, false, List, [], ◌∷◌, Option, Some, None, refl, sym, ap, ap₂, ◌∙◌, subst, true≢false}
use Rattle.syn_grammar.specs.Words.{w_mut, w_ref}
use Rattle.syn_grammar.specs.Tokens.{Stream, end, or, at_word}
use Rattle.syn_grammar.specs.Rules.{pattern}
use Rattle.syn_grammar.specs.Grammar.{word, Syntax, Nothing, Both, Left, Right, Node}
use Rattle.syn_grammar.specs.Take.{Out, sees, take_token}
use Rattle.syn_grammar.specs.Same.{same_syntax}
use Rattle.syn_grammar.specs.Run.{branch, parse_rule, wrap}
use Rattle.syn_grammar.specs.Table.{at_binding_word}
use Rattle.syn_grammar.proofs.Each.{pattern_is}
use Rattle.syn_grammar.proofs.Looks.{sees_or}
use Rattle.syn_tokens.specs.Kinds.{Comma, Mut, Ref, comma_syntax, mut_syntax, ref_syntax}
use Rattle.syn_tokens.specs.Leaves.{maybe}
use Rattle.syn_tokens.specs.Listing.{list_of}
use Rattle.syn_lower.specs.Types.{tuple_elements}
use Rattle.syn_pat.specs.Patterns.{bound_name, local_pattern, syntax_of_Pat}
use Rattle.syn_pat.specs.declared.pat.Pat.TheVariants as Pat-m

pub tuple_list : (l : List (Pat-m.the_data × Comma)) (o : Option Pat-m.the_data) → (l ≢ []) ⊎ (o ≡ None) →
    tuple_elements (list_of syntax_of_Pat comma_syntax l o) ≡ list_of syntax_of_Pat comma_syntax l o
tuple_list [] None h = refl
tuple_list [] (Some t) (inl n) = absurd (n refl)
tuple_list [] (Some t) (inr e) = absurd (cc e)
tuple_list (x ∷ l) o h = refl

-- A NAME AFTER `ref` OR `mut`

-- what is read, and what is left
abbrev tree : Out → Syntax
tree (Some p) = p.0
tree None = Nothing

abbrev left_of : Out → Stream
left_of (Some p) = p.1
left_of None = end

-- if an optional word was read as none, it isn't there, and everything is left
absent : (b : Bool) (o : Out) (ts r : Stream) → branch b o (Some (Nothing, ts)) ≡ Some (Right Nothing, r) → (b ≡ false) × (ts ≡ r)
absent true (Some p) ts r e = absurd (cc (ap tree e))
absent true None ts r e = absurd (cc e)
absent false o ts r e = (refl, ap left_of e)

pub bound : (by_ref : Option Ref) (mutability : Option Mut) (name : Syntax) (ts m n : Stream) → sees at_binding_word ts ≡ true →
    branch (sees (at_word w_ref) ts) (take_token (word w_ref) ts) (Some (Nothing, ts)) ≡ Some (maybe ref_syntax by_ref, m) →
    branch (sees (at_word w_mut) m) (take_token (word w_mut) m) (Some (Nothing, m)) ≡ Some (maybe mut_syntax mutability, n) →
    bound_name (maybe ref_syntax by_ref) (maybe mut_syntax mutability) name ≡ Left (Both (maybe ref_syntax by_ref) (Both (maybe mut_syntax mutability) name))
bound (Some r) mutability name ts m n h a b = refl
bound None (Some t) name ts m n h a b = refl
bound None None name ts m n h a b = absurd (true≢false (sym h ∙ none (absent _ _ ts m a) (absent _ _ m n b)))
  where
    none : (sees (at_word w_ref) ts ≡ false) × (ts ≡ m) → (sees (at_word w_mut) m ≡ false) × (m ≡ n) → sees at_binding_word ts ≡ false
    none p q = sees_or (at_word w_ref) (at_word w_mut) ts ∙ ap₂ or p.0 (ap (sees (at_word w_mut)) p.1 ∙ q.0)

-- A PATTERN WITHOUT A TYPE, as a local has it

pub untyped : (ts : Stream) (s : Syntax) (r : Stream) → parse_rule pattern ts ≡ Some (s, r) → local_pattern s ≡ Both s (Right Nothing)
untyped ts s r e = go _ (sym (pattern_is ts) ∙ e)
  where
    go : (o : Out) → wrap Node o ≡ Some (s, r) → local_pattern s ≡ Both s (Right Nothing)
    go (Some p) h = subst (λ z. local_pattern z ≡ Both z (Right Nothing)) (ap tree h) refl
    go None h = absurd (cc h)

-- another pattern is in a node
pub before_typed : (p q : Pat-m.the_data) (typed s : Syntax) (b : Bool) → syntax_of_Pat p ≡ Node s → syntax_of_Pat q ≡ typed →
    ((s : Syntax) → b ≡ same_syntax (Node s) typed) → b ≡ same_syntax (syntax_of_Pat p) (syntax_of_Pat q)
before_typed p q typed s b h k turned = turned s ∙ ap₂ same_syntax (sym h) (sym k)
