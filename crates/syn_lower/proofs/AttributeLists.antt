-- Lists of attributes from the left: what one step of a loop reads.
use Rattle.std.proofs.Common.{◌≡◌, Bool, true, false, List, [], ◌∷◌, ◌++◌, Some, None, refl, sym, ap, ◌∙◌, true≢false}
use Rattle.syn_grammar.specs.Tokens.{Stream, Look, and, pick}
use Rattle.syn_grammar.specs.Rules.{Rule, attributes, inner_attributes}
use Rattle.syn_grammar.specs.Table.{at_pound, at_inner_attribute}
use Rattle.syn_grammar.proofs.Each.{attributes_is, inner_attributes_is}
use Rattle.syn_grammar.specs.Grammar.{Syntax, Nothing, Both, Left, Right, Node, Unshown, Grammar}
use Rattle.syn_grammar.specs.Take.{Out, sees}
use Rattle.syn_grammar.specs.Run.{parse_rule, parse_form, wrap, and_then, branch}
use Rattle.syn_tokens.specs.InOrder.{in_order}
use Rattle.syn_parse.proofs.Listing.{wrap_wrap, wrap_same}
use Rattle.syn_lower.specs.Attributes.{every, shown_before, listed, all_listed, outer_listed, inner_listed, none_listed, is_outer, is_inner, outer_form, inner_form, attributes_syntax, all_attributes_syntax, inner_attributes_syntax, syntax_of_Attribute}
use Rattle.syn_lower.specs.declared.attr.Attribute.{Attribute}

abbrev all : List Attribute → Syntax
all l = in_order syntax_of_Attribute l

-- one attribute, before what is left
abbrev pub before_others : Attribute → Syntax → Syntax
before_others a s = Node (Left (Both (syntax_of_Attribute a) s))

-- these attributes, before what is left
abbrev pub in_front : List Attribute → Syntax → Syntax
in_front [] s = s
in_front (a ∷ l) s = before_others a (in_front l s)

pub front_grows : (l : List Attribute) (a : Attribute) (s : Syntax) → in_front (l ++ a ∷ []) s ≡ in_front l (before_others a s)
front_grows [] a s = refl
front_grows (b ∷ l) a s = ap (before_others b) (front_grows l a s)

-- one more attribute is read
pub read_grows : (l : List Attribute) (a : Attribute) (o : Out) → wrap (in_front l) (wrap (before_others a) o) ≡ wrap (in_front (l ++ a ∷ [])) o
read_grows l a o = wrap_wrap (in_front l) (before_others a) o ∙ wrap_same _ _ (λ s. sym (front_grows l a s)) o

module _ (test : Syntax → Bool) where
  pub every_grows : (l : List Attribute) (a : Attribute) → every test (all l) ≡ true → test (syntax_of_Attribute a) ≡ true → every test (all (l ++ a ∷ [])) ≡ true
  every_grows [] a e h = ap (λ b. and b true) h
  every_grows (b ∷ l) a e h = go (test (syntax_of_Attribute b)) (every_grows l a) e
    where
      go : (c : Bool) → (every test (all l) ≡ true → test (syntax_of_Attribute a) ≡ true → every test (all (l ++ a ∷ [])) ≡ true) → and c (every test (all l)) ≡ true → and c (every test (all (l ++ a ∷ []))) ≡ true
      go true more k = more k h
      go false more k = k

  shown_all : (u : Syntax) (l : List Attribute) → every test (all l) ≡ true → shown_before test u (all l) ≡ in_front l (Node (Right (Unshown u)))
  shown_all u [] e = refl
  shown_all u (a ∷ l) e = go (test (syntax_of_Attribute a)) (shown_all u l) e
    where
      go : (c : Bool) → (every test (all l) ≡ true → shown_before test u (all l) ≡ in_front l (Node (Right (Unshown u)))) → and c (every test (all l)) ≡ true →
          pick c (before_others a (shown_before test u (all l))) (shown_before test u (all l)) ≡ before_others a (in_front l (Node (Right (Unshown u))))
      go true more k = ap (before_others a) (more k)
      go false more k = absurd (true≢false (sym k))

  -- where the test holds of all, all are shown
  pub listed_all : (l : List Attribute) → every test (all l) ≡ true → listed test (all l) ≡ in_front l none_listed
  listed_all l e = ap (λ b. shown_before test (pick b Nothing (all l)) (all l)) e ∙ shown_all Nothing l e

-- if all are printed, they are in that order too
all_listed_is : (l : List Attribute) → all_listed (all l) ≡ in_front l none_listed
all_listed_is [] = refl
all_listed_is (a ∷ l) = ap (before_others a) (all_listed_is l)

pub all_outer : (l : List Attribute) → every is_outer (all l) ≡ true → all_attributes_syntax l ≡ attributes_syntax l
unfolding outer_listed
all_outer l e = all_listed_is l ∙ sym (listed_all is_outer l e)

-- the rule is attributes of this form, as long as a look holds
abbrev pub attribute_and_others : Rule → Grammar → Look → Stream → Out
attribute_and_others k g c ts = wrap Node (branch (sees c ts) (and_then (parse_form g ts) (parse_rule k)) (Some (Unshown Nothing, ts)))

module _ (k : Rule) (g : Grammar) (c : Look) (ts : Stream) (is : parse_rule k ts ≡ attribute_and_others k g c ts) where
  pub attributes_end : sees c ts ≡ false → parse_rule k ts ≡ Some (none_listed, ts)
  attributes_end h = is ∙ rw h refl

  pub attributes_refused : sees c ts ≡ true → parse_form g ts ≡ None → parse_rule k ts ≡ None
  attributes_refused h a = is ∙ rw (h, a) refl

  pub attributes_more : (a : Attribute) (m : Stream) → sees c ts ≡ true → parse_form g ts ≡ Some (syntax_of_Attribute a, m) → parse_rule k ts ≡ wrap (before_others a) (parse_rule k m)
  attributes_more a m h e = is ∙ rw (h, e) (go (parse_rule k m))
    where
      go : (o : Out) → wrap Node (wrap Left (wrap (Both (syntax_of_Attribute a)) o)) ≡ wrap (before_others a) o
      go None = refl
      go (Some p) = refl

-- OUTER ONES

pub outer_refused : (ts : Stream) → sees at_pound ts ≡ true → parse_form outer_form ts ≡ None → parse_rule attributes ts ≡ None
outer_refused ts = attributes_refused attributes outer_form at_pound ts (attributes_is ts)

pub outer_more : (ts : Stream) (a : Attribute) (m : Stream) → sees at_pound ts ≡ true → parse_form outer_form ts ≡ Some (syntax_of_Attribute a, m) → parse_rule attributes ts ≡ wrap (before_others a) (parse_rule attributes m)
outer_more ts = attributes_more attributes outer_form at_pound ts (attributes_is ts)

pub outer_end : (l : List Attribute) (ts : Stream) → every is_outer (all l) ≡ true → sees at_pound ts ≡ false → wrap (in_front l) (parse_rule attributes ts) ≡ Some (attributes_syntax l, ts)
unfolding outer_listed
outer_end l ts e h = ap (wrap (in_front l)) (attributes_end attributes outer_form at_pound ts (attributes_is ts) h) ∙ ap (λ s. Some (s, ts)) (sym (listed_all is_outer l e))

-- INNER ONES

pub inner_refused : (ts : Stream) → sees at_inner_attribute ts ≡ true → parse_form inner_form ts ≡ None → parse_rule inner_attributes ts ≡ None
inner_refused ts = attributes_refused inner_attributes inner_form at_inner_attribute ts (inner_attributes_is ts)

pub inner_more : (ts : Stream) (a : Attribute) (m : Stream) → sees at_inner_attribute ts ≡ true → parse_form inner_form ts ≡ Some (syntax_of_Attribute a, m) → parse_rule inner_attributes ts ≡ wrap (before_others a) (parse_rule inner_attributes m)
inner_more ts = attributes_more inner_attributes inner_form at_inner_attribute ts (inner_attributes_is ts)

pub inner_end : (l : List Attribute) (ts : Stream) → every is_inner (all l) ≡ true → sees at_inner_attribute ts ≡ false → wrap (in_front l) (parse_rule inner_attributes ts) ≡ Some (inner_attributes_syntax l, ts)
unfolding inner_listed
inner_end l ts e h = ap (wrap (in_front l)) (attributes_end inner_attributes inner_form at_inner_attribute ts (inner_attributes_is ts) h) ∙ ap (λ s. Some (s, ts)) (sym (listed_all is_inner l e))
