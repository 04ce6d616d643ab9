-- A row of members from the left, for a loop that reads it.
use Rattle.std.proofs.Common.{◌≡◌, true, false, Some, None, ap, ◌∙◌}
use Rattle.syn_grammar.specs.Words.{comma}
use Rattle.syn_grammar.specs.Tokens.{Stream}
use Rattle.syn_grammar.specs.Grammar.{Syntax, Grammar, Done, at_row_end, at_row_comma}
use Rattle.syn_grammar.specs.Take.{Parser, sees, take_mark}
use Rattle.syn_grammar.specs.Run.{wrap, union, last, more, span_of, row_member, row_after, row_comma, row_from, rows, parse_form}
use Rattle.syn_grammar.specs.Promises.{IsRow}
use Rattle.syn_grammar.proofs.Run.{row_is}

-- a row of two forms
pub row_of : (g h : Grammar) → IsRow (union (parse_form g) (parse_form h))
row_of g h = record { is = row_is g h }

module _ (p : Parser) (is : IsRow p) (ts : Stream) where
  -- it ends here
  pub row_stop : sees at_row_end ts ≡ true → rows p ts ≡ Some (Done, ts)
  row_stop h = is.is ts ∙ ap (λ b. row_from b p (rows p) ts) h

  -- no member
  pub row_bad : sees at_row_end ts ≡ false → p ts ≡ None → rows p ts ≡ None
  row_bad h a = is.is ts ∙ ap (λ b. row_from b p (rows p) ts) h ∙ ap (λ o. row_member o (rows p)) a

  module _ (s : Syntax) (m : Stream) (h : sees at_row_end ts ≡ false) (a : p ts ≡ Some (s, m)) where
    one : rows p ts ≡ row_after (sees at_row_comma m) s m (rows p)
    one = is.is ts ∙ ap (λ b. row_from b p (rows p) ts) h ∙ ap (λ o. row_member o (rows p)) a

    -- the last member
    pub row_last : sees at_row_comma m ≡ false → rows p ts ≡ Some (last s, m)
    row_last b = one ∙ ap (λ b. row_after b s m (rows p)) b

    -- a member that others follow
    pub row_more : (c : Syntax) (n : Stream) → sees at_row_comma m ≡ true → take_mark comma m ≡ Some (c, n) → rows p ts ≡ wrap (more s (span_of c)) (rows p n)
    row_more c n b d = one ∙ ap (λ b. row_after b s m (rows p)) b ∙ ap (λ o. row_comma s o (rows p)) d

    -- no comma can be read
    pub row_no_comma : sees at_row_comma m ≡ true → take_mark comma m ≡ None → rows p ts ≡ None
    row_no_comma b d = one ∙ ap (λ b. row_after b s m (rows p)) b ∙ ap (λ o. row_comma s o (rows p)) d
