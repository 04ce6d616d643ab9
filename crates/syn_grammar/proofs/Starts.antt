-- A union reads what one of its alternatives reads; the alternatives are followed side by side.
use Rattle.std.proofs.Common.{◌≡◌, List, [], ◌∷◌, ◌++◌, map, Option, Some, None, refl, sym, ap, ◌∙◌}
use Rattle.syn_grammar.specs.Tokens.{Stream}
use Rattle.syn_grammar.specs.Rules.{Rule, attributes}
use Rattle.syn_grammar.specs.Grammar.{Grammar, ◌&◌, captured, rule, Node, Case, Both}
use Rattle.syn_grammar.specs.Table.{table}
use Rattle.syn_grammar.specs.Take.{Out, Parser}
use Rattle.syn_grammar.specs.Run.{wrap, and_then, caught, named, first_rule, parse_rule, parse_form}
use Rattle.syn_grammar.proofs.Run.{parse_rule_is}
use Rattle.syn_grammar.proofs.Threads.{and_next, in_node, in_case, reading, of_kind, of_kept, listed, Thread, rest, onward, recog, keep, answer, answer_all, first, rest_wrap, rest_then, rest_caught, onward_alike}

-- one rest, or another
abbrev pub first_rest : Option Stream → Option Stream → Option Stream
first_rest (Some r) o = Some r
first_rest None o = o

pub keep_first : (k : Rule) (ts : Stream) (o p : Option Stream) → keep k ts (first_rest o p) ≡ first (keep k ts o) (keep k ts p)
keep_first k ts (Some r) p = refl
keep_first k ts None p = refl

pub onward_first : (o : Option Stream) (f g h : Stream → Option Stream) → ((r : Stream) → f r ≡ first_rest (g r) (h r)) → onward o f ≡ first_rest (onward o g) (onward o h)
onward_first (Some r) f g h e = e r
onward_first None f g h e = refl

pub first_none : (o : Option Stream) → first_rest o None ≡ o
first_none (Some r) = refl
first_none None = refl

pub first_first : (a b c : Out) → first (first a b) c ≡ first a (first b c)
first_first (Some x) b c = refl
first_first None b c = refl

-- a kind of its own, and the verbatim forms of this rule
abbrev pub kind_thread : Rule → Thread
kind_thread k = of_kind (reading (table k) (in_case k ∷ in_node ∷ []))

abbrev pub kept_thread : Rule → Thread
kept_thread k = of_kept (reading (rule attributes) (and_next (rule k) ∷ []))

-- the forms of a sequence
abbrev pub flat : Grammar → List Grammar
flat (g & h) = g ∷ flat h
flat (captured g) = flat g
flat g = g ∷ []

abbrev pub listed_thread : Rule → Thread
listed_thread k = listed (rule attributes ∷ flat (table k))

onward_same : (o : Option Stream) → onward o (λ r. Some r) ≡ o
onward_same (Some r) = refl
onward_same None = refl

pub flat_is : (g : Grammar) (m : Stream) → recog (flat g) m ≡ rest (parse_form g m)
flat_is (g & h) m = onward_alike (rest (parse_form g m)) (recog (flat h)) (λ r. rest (parse_form h r)) (flat_is h) ∙ sym (rest_then (parse_form g m) (parse_form h))
flat_is (captured g) m = flat_is g m ∙ sym (rest_caught m (parse_form g m))
flat_is g m = onward_same (rest (parse_form g m))

-- the rule of the verbatim form, the beginning, and the value of the attributes
module _ (kk : Rule) (ts : Stream) where
  abbrev pub Kept : Rule → Out
  Kept k = keep kk ts (rest (and_then (parse_rule attributes ts) (parse_rule k)))

  pub kept_is : (k : Rule) → Kept k ≡ answer kk ts (kept_thread k) ts
  kept_is k = refl

  pub listed_is : (k : Rule) → Kept k ≡ answer kk ts (listed_thread k) ts
  listed_is k =
      ap (keep kk ts) (rest_then (parse_rule attributes ts) (parse_rule k)
      ∙ onward_alike (rest (parse_rule attributes ts)) (λ r. rest (parse_rule k r)) (recog (flat (table k))) (λ r. ap rest (parse_rule_is k r) ∙ rest_wrap Node (parse_form (table k) r) ∙ sym (flat_is (table k) r)))

  first_kept : (k : Rule) (q : Parser) (o : Out) → keep kk ts (rest (and_then o (λ m. named k (parse_rule k m) (q m)))) ≡ first (keep kk ts (rest (and_then o (parse_rule k)))) (keep kk ts (rest (and_then o q)))
  first_kept k q None = refl
  first_kept k q (Some a) = go (parse_rule k a.1)
    where
      go : (o : Out) → keep kk ts (rest (wrap (Both a.0) (named k o (q a.1)))) ≡ first (keep kk ts (rest (wrap (Both a.0) o))) (keep kk ts (rest (wrap (Both a.0) (q a.1))))
      go None = refl
      go (Some x) = refl

  none_kept : (o : Out) → keep kk ts (rest (and_then o (λ m. None))) ≡ None
  none_kept None = refl
  none_kept (Some a) = refl

  abbrev pub all_kept : List Rule → Out
  all_kept [] = None
  all_kept (k ∷ ks) = first (Kept k) (all_kept ks)

  pub kept_union : (ks : List Rule) → keep kk ts (rest (and_then (parse_rule attributes ts) (first_rule parse_rule ks))) ≡ all_kept ks
  kept_union [] = none_kept (parse_rule attributes ts)
  kept_union (k ∷ ks) = first_kept k (first_rule parse_rule ks) (parse_rule attributes ts) ∙ ap (first (Kept k)) (kept_union ks)

  named_kept : (q : Out) → wrap Node (named kk (wrap Node (caught ts q)) None) ≡ keep kk ts (rest q)
  named_kept (Some x) = refl
  named_kept None = refl

  pub named_kind : (k : Rule) (o p : Out) → wrap Node (named k (wrap Node o) p) ≡ first (wrap Node (wrap (Case k) o)) (wrap Node p)
  named_kind k (Some x) p = refl
  named_kind k None p = refl

  -- kinds, and the verbatim forms after them
  pub kinds_start : (ks : List Rule) (ths : List Thread) (q : Out) → parse_rule kk ts ≡ wrap Node (caught ts q) → keep kk ts (rest q) ≡ answer_all kk ts ths ts →
      wrap Node (first_rule parse_rule (ks ++ (kk ∷ [])) ts) ≡ answer_all kk ts (map kind_thread ks ++ ths) ts
  kinds_start [] ths q e h = ap (λ z. wrap Node (named kk z None)) e ∙ named_kept q ∙ h
  kinds_start (k ∷ ks) ths q e h =
      ap (λ z. wrap Node (named k z (first_rule parse_rule (ks ++ (kk ∷ [])) ts))) (parse_rule_is k ts) ∙ named_kind k (parse_form (table k) ts) (first_rule parse_rule (ks ++ (kk ∷ [])) ts)
      ∙ ap (first (wrap Node (wrap (Case k) (parse_form (table k) ts)))) (kinds_start ks ths q e h)
