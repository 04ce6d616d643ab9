-- A list with lifetimes first is printed in the order of its tokens.
use Rattle.std.proofs.Common.{◌≡◌, true, false, refl, sym, ap, ap₂, ◌∙◌}
use Rattle.syn_grammar.specs.Tokens.{Span, call_site, Stream, end, punct, ◌⧺◌}
use Rattle.syn_grammar.specs.Grammar.{Syntax, Last, More, show, renew, print, sort, following}
use Rattle.syn_grammar.proofs.Streams.{append_append}
use Rattle.syn_recognize.specs.PrintedRows.{with_comma, firsts, print_firsts, others_of, print_row}

-- of a sorted list: what precedes a member that is put after all of the first form, and what follows it
abbrev front : Syntax → Stream
front (More true s sp t) = with_comma (show s) sp (front t)
front (Last true s) = with_comma (show s) call_site end
front _ = end

abbrev rear : Syntax → Stream
rear (More true s sp t) = rear t
rear (Last true s) = end
rear t = show t

front_after : (s : Syntax) (sp : Span) (u : Syntax) → front (following s sp u) ≡ front u
front_after s sp (More true x q u) = ap (λ i. with_comma (show x) q i) (front_after s sp u)
front_after s sp (Last true x) = refl
front_after s sp _ = refl

rear_after : (s : Syntax) (sp : Span) (u : Syntax) → rear (following s sp u) ≡ with_comma (show s) sp (rear u)
rear_after s sp (More true x q u) = rear_after s sp u
rear_after s sp (Last true x) = refl
rear_after s sp _ = refl

show_after : (s : Syntax) (sp : Span) (u : Syntax) → show (following s sp u) ≡ front u ⧺ with_comma (show s) sp (rear u)
show_after s sp (More true x q u) = ap (λ i. with_comma (show x) q i) (show_after s sp u) ∙ sym (append_append (show x) (punct 44 false q (front u)) (with_comma (show s) sp (rear u)))
show_after s sp (Last true x) = sym (append_append (show x) (punct 44 false call_site end) (with_comma (show s) sp end))
show_after s sp _ = refl

-- of a list as it is sorted
front_sorted : (t : Syntax) → front (sort (renew t)) ≡ print_firsts (firsts t)
front_sorted (More true s sp t) = ap (λ i. with_comma (print s) sp i) (front_sorted t)
front_sorted (More false s sp t) = front_after (renew s) sp (sort (renew t)) ∙ front_sorted t
front_sorted (Last true s) = refl
front_sorted (Last false s) = refl
front_sorted _ = refl

rear_sorted : (t : Syntax) → rear (sort (renew t)) ≡ others_of true t
rear_sorted (More true s sp t) = rear_sorted t
rear_sorted (More false s sp t) = rear_after (renew s) sp (sort (renew t)) ∙ ap (λ i. with_comma (print s) sp i) (rear_sorted t)
rear_sorted (Last true s) = refl
rear_sorted (Last false s) = refl
rear_sorted _ = refl

pub row_printed : (t : Syntax) → show (sort (renew t)) ≡ print_row t
row_printed (More true s sp t) = ap (λ i. with_comma (print s) sp i) (row_printed t)
row_printed (More false s sp t) = show_after (renew s) sp (sort (renew t)) ∙ ap₂ (λ i j. i ⧺ with_comma (print s) sp j) (front_sorted t) (rear_sorted t)
row_printed _ = refl
