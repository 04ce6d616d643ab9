-- What a type alias represents is read with one where clause at most.
use Rattle.std.proofs.Common.{◌≡◌, Bool, true, false, Some, None, refl, sym, ap, ap₂, ◌∙◌}
use Rattle.syn_grammar.specs.Words.{equals, w_where}
use Rattle.syn_grammar.specs.Tokens.{Stream, and, at_word, no, or, pick}
use Rattle.syn_grammar.specs.Rules.{type, where_clause}
use Rattle.syn_grammar.specs.Grammar.{Syntax, Nothing, Both, Left, Right, Node, Such, Unshown, Vanishing, ◌&◌, one_where, rule}
use Rattle.syn_grammar.specs.Forms.{punctuation}
use Rattle.syn_grammar.specs.Take.{Out, only, sees, take_mark}
use Rattle.syn_grammar.specs.Run.{and_then, branch, parse_form, parse_rule, such_as, vanish, wrap}
use Rattle.syn_grammar.proofs.DecidedByTokens.{one_where_seen}
use Rattle.syn_grammar.proofs.Takes.{TreeAndRest}
use Rattle.syn_lower.specs.Generics.{no_clause}
use Rattle.syn_lower.specs.WhereClauses.{clause_form, clause_there}
use Rattle.syn_grammar.proofs.Each.{where_clause_is}
use Rattle.syn_item.specs.ItemForms.{aliased_form, place_by, known_alias}
use Rattle.syn_item.specs.Simple.{aliased, place_aside, syntax_of_WhereClausePlacement}

-- a clause if it is next, and none if it isn't
some_clause : (ts : Stream) → sees (at_word w_where) ts ≡ true → parse_rule where_clause ts ≡ clause_there ts
unfolding clause_there
some_clause ts h = where_clause_is ts ∙ ap (λ b. wrap Node (vanish false (branch b (parse_form clause_form ts) (Some (Nothing, ts))))) h ∙ go (parse_form clause_form ts)
  where
    go : (o : Out) → wrap Node (vanish false (wrap Left o)) ≡ wrap (λ s. Node (Vanishing false (Left s))) o
    go None = refl
    go (Some p) = refl

none_clause : (ts : Stream) → sees (at_word w_where) ts ≡ false → parse_rule where_clause ts ≡ Some (no_clause, ts)
none_clause ts h = where_clause_is ts ∙ ap (λ b. wrap Node (vanish false (branch b (parse_form clause_form ts) (Some (Nothing, ts))))) h

-- one result has one value
abbrev found : Syntax → Stream → Out
found s r = Some (s, r)

one_value : (a b : Syntax) (m r : Stream) → found a m ≡ found b r → a ≡ b
one_value a b m r e =
    let i : ◌≡◌ {A = TreeAndRest} (a, m) (b, r) = cc e in
    ap (λ (y : TreeAndRest). y.0) i

-- if there is no clause, none is read
none_read : (ts : Stream) (s : Syntax) (r : Stream) → sees (at_word w_where) ts ≡ false → parse_rule where_clause ts ≡ Some (s, r) → s ≡ no_clause
none_read ts s r h e = one_value s no_clause r ts (sym e ∙ none_clause ts h)

-- a clause that is there leaves no place of its own, and neither does one before `=`, whether it is there or not
one_aside : (ts : Stream) (s : Syntax) (r : Stream) → sees (at_word w_where) ts ≡ true → parse_rule where_clause ts ≡ Some (s, r) → place_aside (Right Nothing) s ≡ Unshown Nothing
unfolding clause_there
one_aside ts s r h e = go (parse_form clause_form ts) (sym (some_clause ts h) ∙ e)
  where
    go : (o : Out) → wrap (λ t. Node (Vanishing false (Left t))) o ≡ Some (s, r) → place_aside (Right Nothing) s ≡ Unshown Nothing
    go None k = absurd (cc k)
    go (Some p) k = ap (place_aside (Right Nothing)) (one_value s (Node (Vanishing false (Left p.0))) r p.1 (sym k))

none_aside : (s : Syntax) → place_aside Nothing s ≡ Unshown Nothing
none_aside (Node (Vanishing false (Right Nothing))) = refl
none_aside s = refl

pub place_left : (ts : Stream) (early late : Syntax) (r : Stream) → parse_rule where_clause ts ≡ Some (late, r) →
    place_aside (syntax_of_WhereClausePlacement (place_by (sees (at_word w_where) ts))) (pick (sees (at_word w_where) ts) late early) ≡ Unshown Nothing
place_left ts early late r e = go (sees (at_word w_where) ts) refl
  where
    go : (b : Bool) → sees (at_word w_where) ts ≡ b → place_aside (syntax_of_WhereClausePlacement (place_by b)) (pick b late early) ≡ Unshown Nothing
    go true h = one_aside ts late r h e
    go false h = none_aside early

module _ (m0 m1 m2 m3 m : Stream) (w q t x : Syntax) where
  pub alias_read : parse_rule where_clause m0 ≡ Some (w, m1) → take_mark equals m1 ≡ Some (q, m2) → parse_rule type m2 ≡ Some (t, m3) → parse_rule where_clause m3 ≡ Some (x, m) →
      parse_form aliased_form m0 ≡ only (or (no (sees (at_word w_where) m0)) (no (sees (at_word w_where) m3))) (Some (Such (Both w (Both q (Both t x))), m))
  alias_read iw iq it ix =
      ap (λ o. such_as one_where (and_then o (parse_form (punctuation equals & rule type & rule where_clause)))) iw
      ∙ ap (λ o. such_as one_where (wrap (Both w) (and_then o (parse_form (rule type & rule where_clause))))) iq
      ∙ ap (λ o. such_as one_where (wrap (Both w) (wrap (Both q) (and_then o (parse_rule where_clause))))) it
      ∙ ap (λ o. such_as one_where (wrap (Both w) (wrap (Both q) (wrap (Both t) o)))) ix
      ∙ ap (λ b. only b (Some (Such (Both w (Both q (Both t x))), m))) (one_where_seen m0 m1 m2 m3 m w q t x iw iq it ix)

  abbrev is_early : Bool
  is_early = sees (at_word w_where) m0

  abbrev is_late : Bool
  is_late = sees (at_word w_where) m3

  -- with one clause at most it is read as the alias is seen: by where the clause is
  pub alias_placed : parse_rule where_clause m0 ≡ Some (w, m1) → take_mark equals m1 ≡ Some (q, m2) → parse_rule type m2 ≡ Some (t, m3) → parse_rule where_clause m3 ≡ Some (x, m) →
      and is_early is_late ≡ false → parse_form aliased_form m0 ≡ Some (aliased (syntax_of_WhereClausePlacement (place_by is_late)) (pick is_late x w) q t, m)
  alias_placed iw iq it ix h = alias_read iw iq it ix ∙ go is_early is_late refl refl h
    where
      go : (b c : Bool) → is_early ≡ b → is_late ≡ c → and b c ≡ false →
          only (or (no b) (no c)) (found (Such (Both w (Both q (Both t x)))) m) ≡ Some (aliased (syntax_of_WhereClausePlacement (place_by c)) (pick c x w) q t, m)
      go true true i j k = absurd (cc k)
      go true false i j k = ap (λ z. Some (Such (Both w (Both q (Both t z))), m)) (none_read m3 x m j ix)
      go false true i j k = ap (λ z. Some (Such (Both z (Both q (Both t x))), m)) (none_read m0 w m1 i iw)
      go false false i j k = ap (λ z. Some (Such (Both w (Both q (Both t z))), m)) (none_read m3 x m j ix)

  -- with two it isn't
  pub alias_refused : parse_rule where_clause m0 ≡ Some (w, m1) → take_mark equals m1 ≡ Some (q, m2) → parse_rule type m2 ≡ Some (t, m3) → parse_rule where_clause m3 ≡ Some (x, m) →
      and is_early is_late ≡ true → parse_form aliased_form m0 ≡ None
  alias_refused iw iq it ix h = alias_read iw iq it ix ∙ go is_early is_late h
    where
      go : (b c : Bool) → and b c ≡ true → only (or (no b) (no c)) (found (Such (Both w (Both q (Both t x)))) m) ≡ None
      go true true k = refl
      go true false k = absurd (cc k)
      go false c k = absurd (cc k)

  -- so it is decided by both places
  pub alias_known : parse_rule where_clause m0 ≡ Some (w, m1) → take_mark equals m1 ≡ Some (q, m2) → parse_rule type m2 ≡ Some (t, m3) → parse_rule where_clause m3 ≡ Some (x, m) →
      parse_form aliased_form m0 ≡ known_alias is_early is_late w q t x m
  alias_known iw iq it ix = go (and is_early is_late) refl
    where
      go : (b : Bool) → and is_early is_late ≡ b → parse_form aliased_form m0 ≡ known_alias is_early is_late w q t x m
      go true h = alias_refused iw iq it ix h ∙ sym (ap (λ (b : Bool). only (no b) (Some (aliased (syntax_of_WhereClausePlacement (place_by is_late)) (pick is_late x w) q t, m))) h)
      go false h = alias_placed iw iq it ix h ∙ sym (ap (λ (b : Bool). only (no b) (Some (aliased (syntax_of_WhereClausePlacement (place_by is_late)) (pick is_late x w) q t, m))) h)
