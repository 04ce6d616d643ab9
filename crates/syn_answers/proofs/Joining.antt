-- Pieces are joined one by one.
use Rattle.std.proofs.Common.{◌≡◌, ℕ, ◌+◌, ◌<◌, ◌≤◌, None, refl, sym, ap, ◌∙◌, subst, inl, inr}
use Rattle.std.specs.Prelude.{List, [], ◌∷◌, length, drop, get_or, Result, Ok, Err}
use Rattle.std.specs.Result.{IsErrAnd}
use Rattle.std.proofs.lemmas.List.{at_drop_more, drop_all}
use Rattle.syn_grammar.specs.Tokens.{Stream, end, ◌⧺◌, visible}
use Rattle.syn_grammar.specs.Rules.{item}
use Rattle.syn_grammar.specs.Joined.{prints, AllVisible, IsFileOf}
use Rattle.syn_grammar.specs.Promises.{Refused}
use Rattle.syn_grammar.specs.Run.{parse_rule}
use Rattle.syn_grammar.proofs.Joined.{joined_items, joined_is_visible}
use Rattle.syn_grammar.proofs.Streams.{append_append, append_end}
use Rattle.syn_recognize.specs.DeferredTokens.{whole_only}
use Rattle.syn_tokens.specs.Faults.{ErrorValue, IsSyntaxError}
use Rattle.syn_parse.specs.Refusals.{IsSyntax, IsRefusedAs}
use Rattle.syn_parse.specs.declared.read.refusal.Refusal.{Refusal}
use Rattle.syn_parse.proofs.Refused.{refused_by_syntax}
use Rattle.syn_answers.specs.Joining.{IsJoined, JoinOutcome, JoinedSoFar}
use Rattle.syn_answers.specs.Whole.{IsWholePrint}
use Rattle.syn_answers.proofs.Canons.{tree_of, refused_of}

pub begins : (l : List Stream) → JoinedSoFar l l end
begins l = record { onward = λ trees d. (trees, d, refl); back = λ r. r }

-- one piece more
one_more : (l m : List Stream) (a j p : Stream) → JoinedSoFar l (a ∷ m) j → IsWholePrint item a p → JoinedSoFar l m (j ⧺ p)
one_more l m a j p s h =
    let (t, d, q) = tree_of item a p h in
    record {
      onward = λ trees e.
          let (all, f, g) = s.onward (t ∷ trees) (d, e) in
          (all, f, g ∙ ap (λ z. j ⧺ (z ⧺ prints trees)) (sym q) ∙ sym (append_append j p (prints trees)));
      back = λ r. s.back (inr r);
    }

pub proceeds : (l : List Stream) (i : ℕ) (a j p : Stream) → i < length l → JoinedSoFar l (drop i l) j → IsWholePrint item (get_or l i a) p → JoinedSoFar l (drop (i + 1) l) (j ⧺ p)
proceeds l i a j p h s w = one_more l (drop (i + 1) l) (get_or l i a) j p (subst (λ m. JoinedSoFar l m j) (at_drop_more (λ m. m) l i a h) s) w

pub ends : (l : List Stream) (i : ℕ) (j : Stream) → length l ≤ i → JoinedSoFar l (drop i l) j → AllVisible l → IsJoined l j
ends l i j h s v =
    let (all, d, q) = (subst (λ m. JoinedSoFar l m j) (drop_all i l h) s).onward [] tt in
    let p : j ≡ prints all = sym (q ∙ append_end j) in
    record {
      trees = all;
      derived = d;
      in_order = p;
      seen = ap visible p ∙ joined_is_visible l all v d;
      as_a_file = subst (λ z. IsFileOf z all) (sym p) (joined_items l all d);
    }

pub refused : (l : List Stream) (i : ℕ) (a j : Stream) (r : Result Stream ErrorValue) (e : Refusal) → i < length l → a ≡ get_or l i a → JoinedSoFar l (drop i l) j → IsErrAnd r (λ f. IsRefusedAs e f) →
    (IsSyntax e → whole_only (parse_rule item a) ≡ None) → JoinOutcome IsSyntaxError l r
refused l i a j (Ok p) e h q s f n = absurd f
refused l i a j (Err g) e h q s f n = λ v x. (subst (λ m. JoinedSoFar l m j) (at_drop_more (λ m. m) l i a h) s).back (inl (subst (Refused item) q (refused_of item a (n (refused_by_syntax e g f x)))))
