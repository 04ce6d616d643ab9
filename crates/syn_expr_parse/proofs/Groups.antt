-- Expressions in groups: lists, tuples and arrays.
use Rattle.std.proofs.Common.{◌≡◌, ◌≢◌, ◌⊎◌, ap, inl, inr, true, false, List, [], ◌∷◌, Option, Some, None, refl}
use Rattle.syn_grammar.specs.Tokens.{Span, Stream, Paren, Bracket, at_mark, ended}
use Rattle.syn_grammar.specs.Words.{comma}
use Rattle.syn_grammar.specs.Shape.{Array, Tuple, bracketed}
use Rattle.syn_grammar.specs.Rules.{expressions, whole_expression}
use Rattle.syn_grammar.specs.Grammar.{Syntax, Nothing, Both, Left, Right, Node, Group, mark, rule}
use Rattle.syn_grammar.specs.Take.{sees, take_mark}
use Rattle.syn_grammar.specs.Run.{parse_rule, wrap}
use Rattle.syn_grammar.specs.Values.{new, shape}
use Rattle.syn_grammar.proofs.Each.{expressions_is}
use Rattle.syn_tokens.specs.Kinds.{Comma, comma_syntax}
use Rattle.syn_tokens.specs.Listing.{list_of}
use Rattle.syn_parse.specs.Form.{by, of}
use Rattle.syn_parse.specs.Listing.{IsList}
use Rattle.syn_parse.proofs.Listing.{list_end, list_last, list_more, list_no_separator, list_refused}
use Rattle.syn_tokens.specs.declared.token.delimiters.Delimiters.{Delimiters}
use Rattle.syn_lower.specs.Parts.{group_syntax}
use Rattle.syn_lower.specs.Types.{tuple_elements}
use Rattle.syn_expr_parse.specs.Parts.{array_elements}

expressions_list : IsList expressions (of (rule whole_expression)) (by ended) (by (at_mark comma)) (of (mark false comma))
expressions_list = record { is = expressions_is }

-- one step of reading them, after others
module _ (f : Syntax → Syntax) (ts : Stream) where
  pub expressions_end : sees ended ts ≡ true → wrap f (parse_rule expressions ts) ≡ Some (f (Node (Left Nothing)), ts)
  expressions_end h = ap (wrap f) (list_end (λ s. s) comma_syntax expressions (of (rule whole_expression)) (by ended) (by (at_mark comma)) (of (mark false comma)) expressions_list ts h)

  pub expressions_refused : sees ended ts ≡ false → parse_rule whole_expression ts ≡ None → wrap f (parse_rule expressions ts) ≡ None
  expressions_refused h a = ap (wrap f) (list_refused (λ s. s) comma_syntax expressions (of (rule whole_expression)) (by ended) (by (at_mark comma)) (of (mark false comma)) expressions_list ts h a)

  module _ (s : Syntax) (m : Stream) (h : sees ended ts ≡ false) (a : parse_rule whole_expression ts ≡ Some (s, m)) where
    pub expressions_last : sees (at_mark comma) m ≡ false → wrap f (parse_rule expressions ts) ≡ Some (f (Node (Right (Both s (Right Nothing)))), m)
    expressions_last b = ap (wrap f) (list_last (λ s. s) comma_syntax expressions (of (rule whole_expression)) (by ended) (by (at_mark comma)) (of (mark false comma)) expressions_list ts s m h a b)

    pub expressions_no_comma : sees (at_mark comma) m ≡ true → take_mark comma m ≡ None → wrap f (parse_rule expressions ts) ≡ None
    expressions_no_comma b c = ap (wrap f) (list_no_separator (λ s. s) comma_syntax expressions (of (rule whole_expression)) (by ended) (by (at_mark comma)) (of (mark false comma)) expressions_list ts s m h a b c)

    pub expressions_more : (q : Comma) (n : Stream) → sees (at_mark comma) m ≡ true → take_mark comma m ≡ Some (comma_syntax q, n) →
        wrap f (parse_rule expressions ts) ≡ wrap f (wrap (λ z. Node (Right (Both s (Left (Both (comma_syntax q) z))))) (parse_rule expressions n))
    expressions_more q n b c = ap (wrap f) (list_more (λ s. s) comma_syntax expressions (of (rule whole_expression)) (by ended) (by (at_mark comma)) (of (mark false comma)) expressions_list ts s q m n h a b c)

-- unless there is one without a comma, expressions in parentheses are a tuple, and its elements are printed as they are
pub tuple_shape : {T : Type 0} (v : T → Syntax) (o c : Span) (l : List (T × Comma)) (last : Option T) → (l ≢ []) ⊎ (last ≡ None) → shape bracketed (Group Paren o c (list_of v comma_syntax l last)) ≡ new Tuple (Group Paren o c (tuple_elements (list_of v comma_syntax l last)))
tuple_shape v o c [] None h = refl
tuple_shape v o c [] (Some t) (inl n) = absurd (n refl)
tuple_shape v o c [] (Some t) (inr e) = absurd (cc e)
tuple_shape v o c (x ∷ l) last h = refl

-- what has the elements of an array is one
pub array_shape : {K : Type 0} (p : Delimiters K) (s : Syntax) → shape bracketed (group_syntax Bracket p (array_elements s)) ≡ new Array (group_syntax Bracket p (array_elements s))
array_shape p (Node (Right (Both s t))) = refl
array_shape p s = refl
