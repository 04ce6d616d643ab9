-- The path of a trait ends with a word.
use Rattle.std.proofs.Common.{◌≡◌, ◌⊎◌, inl, inr, Bool, true, false, List, [], ◌∷◌, Option, Some, None, refl, sym, ap, ap₂, ◌∙◌}
use Rattle.std.specs.Prelude.{IsSome}
use Rattle.syn_grammar.specs.Words.{colons}
use Rattle.syn_grammar.specs.Tokens.{Stream, end}
use Rattle.syn_grammar.specs.Rules.{type_path, type_words}
use Rattle.syn_grammar.specs.Grammar.{Syntax, Nothing, Both, Left, Right, Node}
use Rattle.syn_grammar.specs.Take.{Out, sees, take_mark}
use Rattle.syn_grammar.specs.Run.{and_then, branch, wrap, parse_rule}
use Rattle.syn_grammar.specs.Promises.{itself}
use Rattle.syn_grammar.specs.Table.{at_colons}
use Rattle.syn_grammar.proofs.Each.{type_path_is}
use Rattle.syn_tokens.specs.Kinds.{PathSep, path_sep_syntax}
use Rattle.syn_tokens.specs.Listing.{joined_of}
use Rattle.syn_lower.proofs.Lists.{type_words_joined}
use Rattle.syn_pat.specs.PathForms.{path_syntax}

-- what is read, and what is left
abbrev tree : Out → Syntax
tree (Some p) = p.0
tree None = Nothing

abbrev left_of : Out → Stream
left_of (Some p) = p.1
left_of None = end

-- words: one, `::` and others; or the last one
abbrev Step : Syntax → Stream → Type 0
Step s r = ((w : Syntax) × (c : Syntax) × (t : Syntax) × (m : Stream) × (s ≡ Node (Both w (Left (Both c t)))) × (parse_rule type_words m ≡ Some (t, r)))
    ⊎ ((w : Syntax) × (s ≡ Node (Both w (Right Nothing))))

abbrev following_word : Stream → Out
following_word m = branch (sees at_colons m) (and_then (take_mark colons m) (parse_rule type_words)) (Some (Nothing, m))

module _ (s : Syntax) (r : Stream) where
  others : (w c : Syntax) (m : Stream) (o : Out) → parse_rule type_words m ≡ o → wrap Node (wrap (Both w) (wrap Left (wrap (Both c) o))) ≡ Some (s, r) → Step s r
  others w c m (Some p) q h = inl (w, c, p.0, m, sym (ap tree h), q ∙ ap (λ z. Some (p.0, z)) (ap left_of h))
  others w c m None q h = absurd (cc h)

  colons_and_others : (w : Syntax) (o : Out) → wrap Node (wrap (Both w) (wrap Left (and_then o (parse_rule type_words)))) ≡ Some (s, r) → Step s r
  colons_and_others w (Some p) h = others w p.0 p.1 (parse_rule type_words p.1) refl h
  colons_and_others w None h = absurd (cc h)

  following : (w : Syntax) (m : Stream) (b : Bool) → wrap Node (wrap (Both w) (branch b (and_then (take_mark colons m) (parse_rule type_words)) (Some (Nothing, m)))) ≡ Some (s, r) → Step s r
  following w m true h = colons_and_others w (take_mark colons m) h
  following w m false h = inr (w, sym (ap tree h))

  first : (o : Out) → wrap Node (and_then o following_word) ≡ Some (s, r) → Step s r
  first (Some p) h = following p.0 p.1 (sees at_colons p.1) h
  first None h = absurd (cc h)

step : (ts r : Stream) (s : Syntax) → parse_rule type_words ts ≡ Some (s, r) → Step s r
step ts r s e = first s r _ (sym (type_words_joined.is ts) ∙ e)

-- no words end with `::`
word_is_last : (l : List (Syntax × PathSep)) (ts r : Stream) → parse_rule type_words ts ≡ Some (joined_of itself path_sep_syntax l None, r) → ⊥
word_is_last [] ts r e = go (step ts r _ e)
  where
    go : Step Nothing r → ⊥
    go (inl (w, c, t, m, h, q)) = cc h
    go (inr (w, h)) = cc h
word_is_last (x ∷ l) ts r e = go (step ts r _ e) (λ m. word_is_last l m r)
  where
    go : Step (joined_of itself path_sep_syntax (x ∷ l) None) r → ((m : Stream) → parse_rule type_words m ≡ Some (joined_of itself path_sep_syntax l None, r) → ⊥) → ⊥
    go (inl (w, c, t, m, h, q)) again = again m (q ∙ ap (λ z. Some (z, r)) (sym (cc h)))
    go (inr (w, h)) again = cc h

-- a path ends with a word
pub ends_with_word : (leading : Option PathSep) (l : List (Syntax × PathSep)) (o : Option Syntax) (ts r : Stream) → parse_rule type_path ts ≡ Some (path_syntax leading l o, r) → IsSome o
ends_with_word leading l (Some x) ts r e = refl
ends_with_word leading l None ts r e = absurd (words (branch (sees at_colons ts) (take_mark colons ts) (Some (Nothing, ts))) (sym (type_path_is ts) ∙ e))
  where
    read : (m : Stream) (c : Syntax) (o : Out) → parse_rule type_words m ≡ o → wrap Node (wrap (Both c) o) ≡ Some (path_syntax leading l None, r) → ⊥
    read m c (Some p) q h =
        let words : p.0 ≡ joined_of itself path_sep_syntax l None = cc (ap tree h) in
        word_is_last l m r (q ∙ ap₂ (λ y z. Some (y, z)) words (ap left_of h))
    read m c None q h = cc h

    words : (o : Out) → wrap Node (and_then o (parse_rule type_words)) ≡ Some (path_syntax leading l None, r) → ⊥
    words (Some p) h = read p.1 p.0 (parse_rule type_words p.1) refl h
    words None h = cc h
