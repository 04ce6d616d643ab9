-- The parameters of a signature, one after the other.
use Rattle.std.proofs.Common.{◌≡◌, ◌≢◌, Bool, true, false, List, [], ◌∷◌, ◌++◌, Some, None, refl, sym, ap, ap₂, ◌∙◌}
use Rattle.std.specs.Prelude.{Option}
use Rattle.syn_grammar.specs.Words.{comma}
use Rattle.syn_grammar.specs.Tokens.{Stream, Before_less, ended, pick}
use Rattle.syn_grammar.specs.Rules.{attributes, inputs, input_rest, later_inputs, pattern, receiver_rest, type, variadic}
use Rattle.syn_grammar.specs.Shape.{parameters}
use Rattle.syn_grammar.specs.Grammar.{Syntax, Nothing, Both, Left, Right, Node, Shaped, Grammar, empty, ◌&◌, when◌then◌else◌, rule, supplied}
use Rattle.syn_grammar.specs.Forms.{punctuation}
use Rattle.syn_grammar.specs.Table.{at_comma, at_ellipsis, at_receiver}
use Rattle.syn_grammar.specs.Take.{Out, sees, take_mark}
use Rattle.syn_grammar.specs.Values.{more_members, no_members, one_member, shape}
use Rattle.syn_grammar.specs.Run.{and_then, branch, parse_form, parse_rule, wrap}
use Rattle.syn_grammar.proofs.Each.{inputs_is, input_rest_is, later_inputs_is}
use Rattle.syn_parse.proofs.Listing.{wrap_wrap, wrap_same}
use Rattle.syn_tokens.specs.Kinds.{Comma, comma_syntax}
use Rattle.syn_tokens.specs.Listing.{list_of}
use Rattle.syn_tokens.specs.Lists.{Sequence, nothing_listed}
use Rattle.syn_lower.specs.Parameters.{after}
use Rattle.syn_lower.specs.Parts.{first, second}
use Rattle.syn_item.specs.SignatureForms.{before_parameters, inputs_by, is_first, named_pattern, next_parameter, of_variadic, other_parameter, parameter_after, parameters_after, read_parameter, typed_as, with_attributes}
use Rattle.syn_item.specs.Signatures.{comma_after, parameters_of, receiver_argument, syntax_of_FnArg}
use Rattle.syn_item.specs.declared.sig.FnArg.TheVariants as FnArg-m
use Rattle.syn_item.proofs.Supplied.{supplied_is, with_name}

-- what is after a comma, or nothing
abbrev others : Grammar
others = when at_comma then punctuation comma & rule later_inputs else empty

abbrev typed_form : Grammar
typed_form = when at_ellipsis then rule variadic else rule type & others

-- a result after attributes, as parameters
abbrev made : Syntax → Out → Out
made a o = wrap Node (wrap (shape parameters) (wrap Right (wrap (Both a) o)))

-- a parameter that was read, and what follows it
after_receiver : (a r : Syntax) (m : Stream) → made a (wrap Left (wrap (Both r) (parse_form others m))) ≡ parameters_after (Left (Node (Both a (Left r)))) m
after_receiver a r m = go (sees at_comma m)
  where
    more : (c : Syntax) (o : Out) → made a (wrap Left (wrap (Both r) (wrap Left (wrap (Both c) o)))) ≡ wrap (λ l. Node (more_members parameters (Node (Both a (Left r))) c l)) o
    more c None = refl
    more c (Some p) = refl

    by_comma : (o : Out) → made a (wrap Left (wrap (Both r) (wrap Left (and_then o (parse_rule later_inputs))))) ≡ after o (λ c n. wrap (λ l. Node (more_members parameters (Node (Both a (Left r))) c l)) (parse_rule later_inputs n))
    by_comma None = refl
    by_comma (Some p) = more p.0 (parse_rule later_inputs p.1)

    go : (b : Bool) → made a (wrap Left (wrap (Both r) (branch b (and_then (take_mark comma m) (parse_rule later_inputs)) (Some (Nothing, m)))))
        ≡ pick b (after (take_mark comma m) (λ c n. wrap (λ l. Node (more_members parameters (Node (Both a (Left r))) c l)) (parse_rule later_inputs n))) (Some (Node (one_member parameters (Node (Both a (Left r))) Nothing (Right Nothing)), m))
    go true = by_comma (take_mark comma m)
    go false = refl

module _ (a name : Syntax) where
  -- as it follows its name
  abbrev built : Out → Out
  built o = made a (wrap Right (wrap Node (wrap Right (wrap (with_name name) o))))

  after_type : (t : Syntax) (m : Stream) → built (wrap Right (wrap (Both t) (parse_form others m))) ≡ parameters_after (Left (typed_as a name t)) m
  after_type t m = go (sees at_comma m)
    where
      more : (c : Syntax) (o : Out) → built (wrap Right (wrap (Both t) (wrap Left (wrap (Both c) o)))) ≡ wrap (λ l. Node (more_members parameters (typed_as a name t) c l)) o
      more c None = refl
      more c (Some p) = refl

      by_comma : (o : Out) → built (wrap Right (wrap (Both t) (wrap Left (and_then o (parse_rule later_inputs))))) ≡ after o (λ c n. wrap (λ l. Node (more_members parameters (typed_as a name t) c l)) (parse_rule later_inputs n))
      by_comma None = refl
      by_comma (Some p) = more p.0 (parse_rule later_inputs p.1)

      go : (b : Bool) → built (wrap Right (wrap (Both t) (branch b (and_then (take_mark comma m) (parse_rule later_inputs)) (Some (Nothing, m)))))
          ≡ pick b (after (take_mark comma m) (λ c n. wrap (λ l. Node (more_members parameters (typed_as a name t) c l)) (parse_rule later_inputs n))) (Some (Node (one_member parameters (typed_as a name t) Nothing (Right Nothing)), m))
      go true = by_comma (take_mark comma m)
      go false = refl

  after_name : (m : Stream) → built (parse_form typed_form m) ≡ after (parameter_after a name m) parameters_after
  unfolding parameter_after
  after_name m = go (sees at_ellipsis m)
    where
      last : (o : Out) → built (wrap Left o) ≡ after (wrap (λ v. Right (of_variadic a (Left (Both (first name) (second name))) v)) o) parameters_after
      last None = refl
      last (Some p) = refl

      typed : (o : Out) → built (wrap Right (and_then o (parse_form others))) ≡ after (wrap (λ t. Left (typed_as a name t)) o) parameters_after
      typed None = refl
      typed (Some p) = after_type p.0 p.1

      go : (b : Bool) → built (branch b (parse_rule variadic m) (and_then (parse_rule type m) (parse_form others)))
          ≡ after (pick b (wrap (λ v. Right (of_variadic a (Left (Both (first name) (second name))) v)) (parse_rule variadic m)) (wrap (λ t. Left (typed_as a name t)) (parse_rule type m))) parameters_after
      go true = last (parse_rule variadic m)
      go false = typed (parse_rule type m)

-- one that is no receiver
other_is : (a : Syntax) (m : Stream) → made a (wrap Right (parse_rule input_rest m)) ≡ after (other_parameter a m) parameters_after
unfolding other_parameter
other_is a m = ap (λ o. made a (wrap Right o)) (input_rest_is m) ∙ go (sees at_ellipsis m)
  where
    last : (o : Out) → made a (wrap Right (wrap Node (wrap Left o))) ≡ after (wrap (λ v. Right (of_variadic a (Right Nothing) v)) o) parameters_after
    last None = refl
    last (Some p) = refl

    by_name : (o : Out) → made a (wrap Right (wrap Node (wrap Right (after o (λ name n. wrap (with_name name) (parse_form typed_form n)))))) ≡ after (after o (parameter_after a)) parameters_after
    by_name None = refl
    by_name (Some p) = after_name a p.0 p.1

    go : (b : Bool) → made a (wrap Right (wrap Node (branch b (parse_rule variadic m) (parse_form (supplied Before_less (rule pattern) typed_form) m))))
        ≡ after (pick b (wrap (λ v. Right (of_variadic a (Right Nothing) v)) (parse_rule variadic m)) (after (named_pattern m) (parameter_after a))) parameters_after
    go true = last (parse_rule variadic m)
    go false = ap (λ o. made a (wrap Right (wrap Node (wrap Right o)))) (supplied_is typed_form m refl) ∙ by_name (named_pattern m)

-- A PARAMETER, AND THOSE THAT FOLLOW IT

first_step : (a : Syntax) (m : Stream) → made a (branch (sees at_receiver m) (and_then (parse_rule receiver_rest m) (parse_form others)) (parse_rule input_rest m)) ≡ after (next_parameter true a m) parameters_after
first_step a m = go (sees at_receiver m)
  where
    received : (o : Out) → made a (wrap Left (and_then o (parse_form others))) ≡ after (wrap (λ s. Left (receiver_argument s)) (wrap (with_attributes a) o)) parameters_after
    received None = refl
    received (Some p) = after_receiver a p.0 p.1

    go : (b : Bool) → made a (branch b (and_then (parse_rule receiver_rest m) (parse_form others)) (parse_rule input_rest m))
        ≡ after (pick b (wrap (λ s. Left (receiver_argument s)) (wrap (with_attributes a) (parse_rule receiver_rest m))) (other_parameter a m)) parameters_after
    go true = received (parse_rule receiver_rest m)
    go false = other_is a m

later_step : (a : Syntax) (m : Stream) → made a (branch (sees at_receiver m) None (parse_rule input_rest m)) ≡ after (next_parameter false a m) parameters_after
later_step a m = go (sees at_receiver m)
  where
    go : (b : Bool) → made a (branch b None (parse_rule input_rest m)) ≡ after (pick b None (other_parameter a m)) parameters_after
    go true = refl
    go false = other_is a m

first_turn : (b : Bool) (x y : Out) → b ≡ true → branch b x y ≡ wrap Left x
first_turn b x y e = ap (λ c. branch c x y) e

second_turn : (b : Bool) (x y : Out) → b ≡ false → branch b x y ≡ wrap Right y
second_turn b x y e = ap (λ c. branch c x y) e

step : (first : Bool) (ts : Stream) → sees ended ts ≡ false → inputs_by first ts ≡ after (read_parameter first ts) parameters_after
unfolding read_parameter
step true ts h = inputs_is ts ∙ ap (λ o. wrap Node (wrap (shape parameters) o)) (second_turn _ _ _ h) ∙ go (parse_rule attributes ts)
  where
    go : (o : Out) → wrap Node (wrap (shape parameters) (wrap Right (and_then o (λ m. branch (sees at_receiver m) (and_then (parse_rule receiver_rest m) (parse_form others)) (parse_rule input_rest m))))) ≡ after (after o (next_parameter true)) parameters_after
    go None = refl
    go (Some p) = first_step p.0 p.1
step false ts h = later_inputs_is ts ∙ ap (λ o. wrap Node (wrap (shape parameters) o)) (second_turn _ _ _ h) ∙ go (parse_rule attributes ts)
  where
    go : (o : Out) → wrap Node (wrap (shape parameters) (wrap Right (and_then o (λ m. branch (sees at_receiver m) None (parse_rule input_rest m))))) ≡ after (after o (next_parameter false)) parameters_after
    go None = refl
    go (Some p) = later_step p.0 p.1

at_end : (first : Bool) (ts : Stream) → sees ended ts ≡ true → inputs_by first ts ≡ Some (Node (Shaped parameters (Both no_members (Right Nothing))), ts)
at_end true ts h = inputs_is ts ∙ ap (λ o. wrap Node (wrap (shape parameters) o)) (first_turn _ _ _ h)
at_end false ts h = later_inputs_is ts ∙ ap (λ o. wrap Node (wrap (shape parameters) o)) (first_turn _ _ _ h)

-- IN A LIST, as far as it was read

abbrev Pairs : Type 0
Pairs = List (FnArg-m.the_data × Comma)

abbrev listed : Pairs → Option FnArg-m.the_data → Syntax
listed = list_of syntax_of_FnArg comma_syntax

-- after the parameters before it, the list of all of them
all_before : (l : Pairs) (last : Option FnArg-m.the_data) (following : Syntax) → before_parameters l (Node (Shaped parameters (Both (listed [] last) following))) ≡ Node (Shaped parameters (Both (listed l last) following))
all_before [] last following = refl
all_before (x ∷ l) last following = ap (λ s. Node (more_members parameters (syntax_of_FnArg x.0) (comma_syntax x.1) s)) (all_before l last following)

front_grows : (l : Pairs) (x : FnArg-m.the_data) (c : Comma) (s : Syntax) → before_parameters (l ++ (x, c) ∷ []) s ≡ before_parameters l (Node (more_members parameters (syntax_of_FnArg x) (comma_syntax c) s))
front_grows [] x c s = refl
front_grows (y ∷ l) x c s = ap (λ t. Node (more_members parameters (syntax_of_FnArg y.0) (comma_syntax y.1) t)) (front_grows l x c s)

-- the last comma isn't added if there is one
comma_present : (l : Pairs) → comma_after (listed l None) ≡ listed l None
comma_present [] = refl
comma_present (x ∷ l) = ap (λ s. Node (Right (Both (syntax_of_FnArg x.0) (Left (Both (comma_syntax x.1) s))))) (comma_present l)

-- after a parameter, by whether a comma is next
abbrev following : Syntax → Stream → Bool → Out
following x m b = pick b (after (take_mark comma m) (λ sign n. wrap (λ t. Node (more_members parameters x sign t)) (parse_rule later_inputs n))) (Some (Node (one_member parameters x Nothing (Right Nothing)), m))

module _ (l : Pairs) (ts : Stream) (proceeds : sees ended ts ≡ false) where
  -- one more, and a comma after it
  pub one_more : (x : FnArg-m.the_data) (c : Comma) (m r : Stream) → read_parameter (is_first {B = FnArg-m.the_data} l None) ts ≡ Some (Left (syntax_of_FnArg x), m) → sees at_comma m ≡ true → take_mark comma m ≡ Some (comma_syntax c, r) →
      wrap (before_parameters l) (inputs_by (is_first {B = FnArg-m.the_data} l None) ts) ≡ wrap (before_parameters (l ++ (x, c) ∷ [])) (inputs_by false r)
  one_more x c m r e h k =
      ap (wrap (before_parameters l)) (step (is_first {B = FnArg-m.the_data} l None) ts proceeds ∙ ap (λ o. after o parameters_after) e ∙ ap (following (syntax_of_FnArg x) m) h ∙ ap (λ o. after o (λ sign n. wrap (λ t. Node (more_members parameters (syntax_of_FnArg x) sign t)) (parse_rule later_inputs n))) k)
      ∙ wrap_wrap (before_parameters l) (λ t. Node (more_members parameters (syntax_of_FnArg x) (comma_syntax c) t)) (parse_rule later_inputs r)
      ∙ wrap_same _ _ (λ s. sym (front_grows l x c s)) (parse_rule later_inputs r)

  -- one, and no comma where it is needed
  pub no_comma : (x : FnArg-m.the_data) (m : Stream) → read_parameter (is_first {B = FnArg-m.the_data} l None) ts ≡ Some (Left (syntax_of_FnArg x), m) → sees at_comma m ≡ true → take_mark comma m ≡ None →
      wrap (before_parameters l) (inputs_by (is_first {B = FnArg-m.the_data} l None) ts) ≡ None
  no_comma x m e h k =
      ap (wrap (before_parameters l)) (step (is_first {B = FnArg-m.the_data} l None) ts proceeds ∙ ap (λ o. after o parameters_after) e ∙ ap (following (syntax_of_FnArg x) m) h ∙ ap (λ o. after o (λ sign n. wrap (λ t. Node (more_members parameters (syntax_of_FnArg x) sign t)) (parse_rule later_inputs n))) k)

  -- the last one, without a comma
  pub last_one : (x : FnArg-m.the_data) (m : Stream) → read_parameter (is_first {B = FnArg-m.the_data} l None) ts ≡ Some (Left (syntax_of_FnArg x), m) → sees at_comma m ≡ false →
      wrap (before_parameters l) (inputs_by (is_first {B = FnArg-m.the_data} l None) ts) ≡ Some (parameters_of (listed l (Some x)) (Right Nothing), m)
  last_one x m e h =
      ap (wrap (before_parameters l)) (step (is_first {B = FnArg-m.the_data} l None) ts proceeds ∙ ap (λ o. after o parameters_after) e ∙ ap (following (syntax_of_FnArg x) m) h)
      ∙ ap (λ s. Some (s, m)) (all_before l (Some x) (Right Nothing))

  -- a variadic one
  pub variadic_one : (v : Syntax) (m : Stream) → read_parameter (is_first {B = FnArg-m.the_data} l None) ts ≡ Some (Right v, m) →
      wrap (before_parameters l) (inputs_by (is_first {B = FnArg-m.the_data} l None) ts) ≡ Some (parameters_of (listed l None) (Left v), m)
  variadic_one v m e =
      ap (wrap (before_parameters l)) (step (is_first {B = FnArg-m.the_data} l None) ts proceeds ∙ ap (λ o. after o parameters_after) e)
      ∙ ap (λ s. Some (s, m)) (all_before l None (Left v) ∙ ap (λ s. Node (Shaped parameters (Both s (Left v)))) (sym (comma_present l)))

  -- none
  pub none_more : read_parameter (is_first {B = FnArg-m.the_data} l None) ts ≡ None → wrap (before_parameters l) (inputs_by (is_first {B = FnArg-m.the_data} l None) ts) ≡ None
  none_more e = ap (wrap (before_parameters l)) (step (is_first {B = FnArg-m.the_data} l None) ts proceeds ∙ ap (λ o. after o parameters_after) e)

-- the end
pub all_read : (l : Pairs) (ts : Stream) → sees ended ts ≡ true → wrap (before_parameters l) (inputs_by (is_first {B = FnArg-m.the_data} l None) ts) ≡ Some (parameters_of (listed l None) (Right Nothing), ts)
all_read l ts h = ap (wrap (before_parameters l)) (at_end (is_first {B = FnArg-m.the_data} l None) ts h) ∙ ap (λ s. Some (s, ts)) (all_before l None (Right Nothing))

-- after a comma none is the first
pub later : (l : Pairs) (x : FnArg-m.the_data) (c : Comma) → is_first {B = FnArg-m.the_data} (l ++ (x, c) ∷ []) None ≡ false
later [] x c = refl
later (y ∷ l) x c = refl

-- with one more pair
pub grown : (k : Sequence FnArg-m.the_data Comma) (l : Pairs) (x : FnArg-m.the_data) (c : Comma) (r : Stream) → k ≡ record { pairs = l ++ (x, c) ∷ []; last = None } →
    wrap (before_parameters (l ++ (x, c) ∷ [])) (inputs_by false r) ≡ wrap (before_parameters k.pairs) (inputs_by (is_first k.pairs k.last) r)
grown k l x c r e =
    ap (λ b. wrap (before_parameters (l ++ (x, c) ∷ [])) (inputs_by b r)) (sym (later l x c))
    ∙ sym (ap (λ (n : Sequence FnArg-m.the_data Comma). wrap (before_parameters n.pairs) (inputs_by (is_first n.pairs n.last) r)) e)

-- so far, where the last one has its comma
pub so_far : (k : Sequence FnArg-m.the_data Comma) (ts : Stream) → k.last ≡ None →
    wrap (before_parameters k.pairs) (inputs_by (is_first k.pairs k.last) ts) ≡ wrap (before_parameters k.pairs) (inputs_by (is_first {B = FnArg-m.the_data} k.pairs None) ts)
so_far k ts e = ap (λ (o : Option FnArg-m.the_data). wrap (before_parameters k.pairs) (inputs_by (is_first k.pairs o) ts)) e

-- all of them, in the list that was made
abbrev in_list : Sequence FnArg-m.the_data Comma → Syntax → Stream → Out
in_list k v m = Some (parameters_of (listed k.pairs k.last) v, m)

pub made_of : (k n : Sequence FnArg-m.the_data Comma) (v u : Syntax) (m : Stream) → k ≡ n → v ≡ u → in_list n u m ≡ in_list k v m
made_of k n v u m e f = sym (ap₂ (λ (s : Sequence FnArg-m.the_data Comma) (t : Syntax). in_list s t m) e f)

-- a parameter is the first where none is listed
pub none_before : (l : Sequence FnArg-m.the_data Comma) → l ≡ nothing_listed → is_first l.pairs l.last ≡ true
none_before l h = ap (λ (k : Sequence FnArg-m.the_data Comma). is_first k.pairs k.last) h

pub some_before : (l : Sequence FnArg-m.the_data Comma) → (l ≢ nothing_listed) → is_first l.pairs l.last ≡ false
some_before l h = go l.pairs l.last h
  where
    go : (pairs : Pairs) (last : Option FnArg-m.the_data) → ((record { pairs = pairs; last = last }) ≢ nothing_listed) → is_first pairs last ≡ false
    go [] None k = absurd (k refl)
    go [] (Some x) k = refl
    go (x ∷ l) last k = refl
