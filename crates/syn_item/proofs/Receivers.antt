-- Receivers, and parameters alone.
use Rattle.std.proofs.Common.{◌≡◌, Bool, true, false, List, [], ◌∷◌, ◌++◌, Some, None, refl, sym, ap, subst, ◌∙◌}
use Rattle.std.specs.Prelude.{Option, Result, slice_get}
use Rattle.syn_grammar.specs.Words.{w_self}
use Rattle.syn_grammar.specs.Tokens.{Delimiter, Span, Stream, Before_less, pick}
use Rattle.syn_grammar.specs.Rules.{argument, attributes, no_attributes, pattern, receiver, receiver_rest, type}
use Rattle.syn_grammar.specs.Grammar.{Syntax, Nothing, Both, Left, Right, Node, Group, Unshown, Grammar, ◌&◌, when◌then◌else◌, empty, rule, supplied, word}
use Rattle.syn_grammar.specs.Forms.{never, plainly}
use Rattle.syn_grammar.specs.Table.{at_colons, at_pound, at_receiver}
use Rattle.syn_grammar.specs.Take.{Out, sees, take_token}
use Rattle.syn_grammar.specs.Run.{and_then, branch, parse_form, parse_rule, wrap}
use Rattle.syn_grammar.proofs.Each.{argument_is, no_attributes_is, receiver_is}
use Rattle.syn_tokens.specs.Kinds.{Comma, comma_syntax}
use Rattle.syn_tokens.specs.Leaves.{maybe}
use Rattle.syn_tokens.specs.Listing.{list_of}
use Rattle.syn_tokens.specs.Lists.{Sequence, firsts, listed, values}
use Rattle.syn_grammar.specs.Promises.{Computes, itself}
use Rattle.syn_lower.specs.Attributes.{attributes_syntax, none_listed, outer_listed}
use Rattle.syn_lower.specs.Parameters.{after}
use Rattle.syn_lower.specs.declared.attr.Attribute.{Attribute}
use Rattle.syn_pat.specs.Patterns.{after_attributes}
use Rattle.syn_item.specs.SignatureForms.{argument_after, kind_form, named_pattern, own_self_form, typed_as, typed_parameter, with_attributes}
use Rattle.syn_item.specs.Signatures.{comma_after, first_receiver, parameters_of, receiver_argument, receiver_as, receiver_in, receiver_of, syntax_of_FnArg, typed_argument}
use Rattle.syn_item.specs.declared.sig.FnArg.TheVariants as FnArg-m
use Rattle.syn_item.proofs.Supplied.{supplied_is, with_name}

-- A RECEIVER ALONE: no attribute is before it
by_attributes : (ts : Stream) → parse_rule receiver ts ≡ wrap Node (and_then (wrap Node (branch (sees at_pound ts) None (Some (Unshown Nothing, ts)))) (parse_rule receiver_rest))
by_attributes ts = receiver_is ts ∙ ap (λ o. wrap Node (and_then o (parse_rule receiver_rest))) (no_attributes_is ts)

pub receiver_alone : (ts : Stream) → sees at_pound ts ≡ false → parse_rule receiver ts ≡ wrap (with_attributes none_listed) (parse_rule receiver_rest ts)
receiver_alone ts h = by_attributes ts ∙ ap (λ b. wrap Node (and_then (wrap Node (branch b None (Some (Unshown Nothing, ts)))) (parse_rule receiver_rest))) h ∙ go (parse_rule receiver_rest ts)
  where
    go : (o : Out) → wrap Node (wrap (Both none_listed) o) ≡ wrap (with_attributes none_listed) o
    go None = refl
    go (Some p) = refl

pub no_receiver : (ts : Stream) → sees at_pound ts ≡ true → parse_rule receiver ts ≡ None
no_receiver ts h = by_attributes ts ∙ ap (λ b. wrap Node (and_then (wrap Node (branch b None (Some (Unshown Nothing, ts)))) (parse_rule receiver_rest))) h

-- what is promised of it, read after no attributes
pub alone_by : {X E : Type 0} (refusal : E → Type 0) (view : X → Syntax) (x : Result X E) (new ts : Stream) (l : List Attribute) → l ≡ [] → sees at_pound ts ≡ false →
    Computes refusal view (wrap (with_attributes (attributes_syntax l)) (parse_rule receiver_rest ts)) x new → Computes refusal view (parse_rule receiver ts) x new
unfolding outer_listed
alone_by refusal view x new ts l e h c =
    subst (λ (o : Out). Computes refusal view o x new) (sym (receiver_alone ts h ∙ ap (λ (k : List Attribute). wrap (with_attributes (attributes_syntax k)) (parse_rule receiver_rest ts)) (sym e))) c

-- AFTER `self`: a `::` is refused, and then a colon and a type may follow
abbrev after_self : Grammar
after_self = when at_colons then never else kind_form

abbrev with_kind : Syntax → Syntax → Syntax
with_kind (Both w s) kind = Both w (Right kind)
with_kind s kind = Both s kind

pub by_value : (ts : Stream) → parse_form (plainly (word w_self) & after_self) ts ≡ after (parse_form own_self_form ts) (λ s m. wrap (with_kind s) (parse_form kind_form m))
by_value ts = go (take_token (word w_self) ts)
  where
    kinds : (w : Syntax) (o : Out) → wrap (Both w) (wrap Right o) ≡ wrap (with_kind (Both w (Right Nothing))) o
    kinds w None = refl
    kinds w (Some p) = refl

    by_colons : (w : Syntax) (m : Stream) (b : Bool) → wrap (Both w) (branch b None (parse_form kind_form m)) ≡ after (wrap (Both w) (branch b None (Some (Nothing, m)))) (λ s n. wrap (with_kind s) (parse_form kind_form n))
    by_colons w m true = refl
    by_colons w m false = kinds w (parse_form kind_form m)

    go : (o : Out) → and_then o (parse_form after_self) ≡ after (and_then o (parse_form (when at_colons then never else empty))) (λ s m. wrap (with_kind s) (parse_form kind_form m))
    go None = refl
    go (Some p) = by_colons p.0 p.1 (sees at_colons p.1)

-- A PARAMETER ALONE

-- with a type, as the value of a pattern with its type
pub typed_is : (attrs pat sign ty : Syntax) → typed_argument (after_attributes attrs (Both pat (Left (Both sign ty)))) ≡ typed_as attrs (Both pat sign) ty
typed_is (Node (Right (Unshown Nothing))) pat sign ty = refl
typed_is attrs pat sign ty = refl

pub argument_by : (ts : Stream) → parse_rule argument ts ≡ after (parse_rule attributes ts) argument_after
unfolding typed_parameter
argument_by ts = argument_is ts ∙ go (parse_rule attributes ts)
  where
    received : (a : Syntax) (o : Out) → wrap Node (wrap (Both a) (wrap Left o)) ≡ wrap receiver_argument (wrap (with_attributes a) o)
    received a None = refl
    received a (Some p) = refl

    by_type : (a name : Syntax) (o : Out) → wrap Node (wrap (Both a) (wrap Right (wrap (with_name name) o))) ≡ wrap (typed_as a name) o
    by_type a name None = refl
    by_type a name (Some p) = refl

    by_name : (a : Syntax) (o : Out) → wrap Node (wrap (Both a) (wrap Right (after o (λ name m. wrap (with_name name) (parse_rule type m))))) ≡ after o (λ name m. wrap (typed_as a name) (parse_rule type m))
    by_name a None = refl
    by_name a (Some p) = by_type a p.0 (parse_rule type p.1)

    turn : (a : Syntax) (m : Stream) (b : Bool) → wrap Node (wrap (Both a) (branch b (parse_rule receiver_rest m) (parse_form (supplied Before_less (rule pattern) (rule type)) m)))
        ≡ pick b (wrap receiver_argument (wrap (with_attributes a) (parse_rule receiver_rest m))) (after (named_pattern m) (λ name n. wrap (typed_as a name) (parse_rule type n)))
    turn a m true = received a (parse_rule receiver_rest m)
    turn a m false = ap (λ o. wrap Node (wrap (Both a) (wrap Right o))) (supplied_is (rule type) m refl) ∙ by_name a (named_pattern m)

    go : (o : Out) → wrap Node (and_then o (λ m. branch (sees at_receiver m) (parse_rule receiver_rest m) (parse_form (supplied Before_less (rule pattern) (rule type)) m))) ≡ after o argument_after
    go None = refl
    go (Some p) = turn p.0 p.1 (sees at_receiver p.1)

-- THE RECEIVER OF A SIGNATURE is its first parameter, where that is one

abbrev Pairs : Type 0
Pairs = List (FnArg-m.the_data × Comma)

receiver_known : (s : Syntax) → receiver_of (receiver_argument s) ≡ Some s
receiver_known (Node (Both attrs r)) = refl
receiver_known s = refl

typed_known : (s : Syntax) → receiver_of (typed_argument s) ≡ None
typed_known (Both pat (Left (Both colon ty))) = refl
typed_known (Both (Node (Right (Unshown Nothing))) (Both pat (Left (Both colon ty)))) = refl
typed_known (Both attrs (Both pat (Left (Both colon ty)))) = refl
typed_known s = refl

-- a comma after the last one changes nothing of it
comma_aside : (s : Syntax) → first_receiver (comma_after s) ≡ first_receiver s
comma_aside (Node (Right (Both x (Right Nothing)))) = refl
comma_aside (Node (Right (Both x (Left (Both sign l))))) = refl
comma_aside s = refl

abbrev pub first_as : Option FnArg-m.the_data → Option Syntax
first_as (Some x) = receiver_as x
first_as None = None

of_argument : (x : FnArg-m.the_data) → receiver_of (syntax_of_FnArg x) ≡ receiver_as x
of_argument (FnArg-m.Receiver s) = receiver_known s
of_argument (FnArg-m.Typed s) = typed_known s

abbrev inputs_syntax : Pairs → Option FnArg-m.the_data → Syntax
inputs_syntax = list_of syntax_of_FnArg comma_syntax

receiver_listed : (l : Pairs) (last : Option FnArg-m.the_data) → first_receiver (inputs_syntax l last) ≡ first_as (slice_get (firsts l ++ listed last) 0)
receiver_listed (x ∷ l) last = of_argument x.0
receiver_listed [] (Some x) = of_argument x
receiver_listed [] None = refl

-- in a signature, whatever is around its parameters
module _ (constness asyncness safety abi sign ident generics more : Syntax) (d : Delimiter) (o c : Span) where
  abbrev around : Syntax → Syntax
  around s = Node (Both constness (Both asyncness (Both safety (Both abi (Node (Both sign (Both ident (Both generics (Both (Group d o c s) more)))))))))

  pub receiver_found : (l : Sequence FnArg-m.the_data Comma) (v : Option Syntax) → receiver_in (around (parameters_of (inputs_syntax l.pairs l.last) (maybe itself v))) ≡ first_as (slice_get (values l) 0)
  receiver_found l (Some v) = comma_aside (inputs_syntax l.pairs l.last) ∙ receiver_listed l.pairs l.last
  receiver_found l None = receiver_listed l.pairs l.last
