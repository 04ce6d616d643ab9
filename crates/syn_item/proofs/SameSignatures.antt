-- Receivers, parameters and signatures, compared part by part.
use Rattle.std.proofs.Common.{◌≡◌, Bool, true, false, List, [], ◌∷◌, Some, None, refl, sym, ap, ap₂, ◌∙◌, true≢false}
use Rattle.std.specs.Prelude.{Option}
use Rattle.syn_grammar.specs.Tokens.{and}
use Rattle.syn_grammar.specs.Grammar.{Syntax, Nothing, Both, Left, Right, Node, Shaped, Unshown, Added, plain_syntax}
use Rattle.syn_grammar.specs.Shape.{parameters}
use Rattle.syn_grammar.specs.Same.{same_syntax}
use Rattle.syn_grammar.specs.Promises.{itself}
use Rattle.syn_grammar.proofs.Same.{and_assoc, same_syntax_plain}
use Rattle.syn_tokens.specs.Kinds.{Comma, Mut, SelfValue, comma_syntax, mut_syntax, self_value_syntax}
use Rattle.syn_tokens.specs.Leaves.{maybe}
use Rattle.syn_tokens.specs.Listing.{list_of}
use Rattle.syn_lower.specs.Attributes.{none_listed}
use Rattle.syn_lower.specs.declared.attr.Attribute.{Attribute}
use Rattle.syn_lower.proofs.Attributes.{same_attributes}
use Rattle.syn_lower.proofs.Compared.{reported}
use Rattle.syn_item.specs.Signatures.{comma_after, parameters_of, received, receiver_argument, syntax_of_FnArg, syntax_of_ReceiverKind, typed_argument}
use Rattle.syn_item.specs.declared.sig.FnArg.TheVariants as FnArg-m
use Rattle.syn_item.specs.declared.sig.ReceiverKind.TheVariants as ReceiverKind-m
use Rattle.syn_item.proofs.SameParts.{all_same, listed_same}

-- RECEIVERS

abbrev was_aside : Syntax → Syntax
was_aside (Unshown (Left s)) = Left s
was_aside s = Right Nothing

abbrev both_received : Syntax → Syntax
both_received (Both mutability (Both word kind)) = received mutability word kind
both_received s = s

abbrev of_received : Syntax → Syntax
of_received (Left (Both sign (Both lifetime (Both by_mut (Both mutability (Both word s)))))) = Both (was_aside mutability) (Both word (Left (Both sign (Both lifetime by_mut))))
of_received (Right s) = s
of_received s = s

module _ (w : SelfValue) where
  abbrev parts : Option Mut → ReceiverKind-m.the_data → Syntax
  parts o k = Both (maybe mut_syntax o) (Both (self_value_syntax w) (syntax_of_ReceiverKind k))

  plain_received : (o : Option Mut) (k : ReceiverKind-m.the_data) → plain_syntax (both_received (parts o k)) ≡ both_received (plain_syntax (parts o k))
  plain_received None ReceiverKind-m.Value = refl
  plain_received None (ReceiverKind-m.Reference a l m) = refl
  plain_received None (ReceiverKind-m.Typed c t) = refl
  plain_received (Some x) ReceiverKind-m.Value = refl
  plain_received (Some x) (ReceiverKind-m.Reference a l m) = refl
  plain_received (Some x) (ReceiverKind-m.Typed c t) = refl

  known_received : (o : Option Mut) (k : ReceiverKind-m.the_data) → of_received (plain_syntax (both_received (parts o k))) ≡ plain_syntax (parts o k)
  known_received None ReceiverKind-m.Value = refl
  known_received None (ReceiverKind-m.Reference a l m) = refl
  known_received None (ReceiverKind-m.Typed c t) = refl
  known_received (Some x) ReceiverKind-m.Value = refl
  known_received (Some x) (ReceiverKind-m.Reference a l m) = refl
  known_received (Some x) (ReceiverKind-m.Typed c t) = refl

pub same_receiver : (l m : List Attribute) (o q : Option Mut) (w u : SelfValue) (j k : ReceiverKind-m.the_data) →
    and (listed_same l m) (same_syntax (received (maybe mut_syntax o) (self_value_syntax w) (syntax_of_ReceiverKind j)) (received (maybe mut_syntax q) (self_value_syntax u) (syntax_of_ReceiverKind k)))
    ≡ and (all_same l m) (and (same_syntax (maybe mut_syntax o) (maybe mut_syntax q)) (and (same_syntax (self_value_syntax w) (self_value_syntax u)) (same_syntax (syntax_of_ReceiverKind j) (syntax_of_ReceiverKind k))))
same_receiver l m o q w u j k =
    ap₂ and (same_attributes l m) (reported both_received of_received (both_received (parts w o j)) (both_received (parts u q k)) (parts w o j) (parts u q k) (plain_received w o j) (plain_received u q k) (known_received w o j) (known_received u q k))

-- PARAMETERS

abbrev of_receiver : Syntax → Syntax
of_receiver (Node (Both attrs (Left receiver))) = Node (Both attrs receiver)
of_receiver (Left s) = s
of_receiver s = s

plain_receiver : (s : Syntax) → plain_syntax (receiver_argument s) ≡ receiver_argument (plain_syntax s)
plain_receiver (Node (Both attrs receiver)) = refl
plain_receiver s = refl

known_receiver : (s : Syntax) → of_receiver (plain_syntax (receiver_argument s)) ≡ plain_syntax s
known_receiver (Node (Both attrs receiver)) = refl
known_receiver s = refl

abbrev of_typed : Syntax → Syntax
of_typed (Node (Both (Node (Right (Unshown Nothing))) (Right (Both pat (Both colon ty))))) = Both pat (Left (Both colon ty))
of_typed (Node (Both attrs (Right (Both pat (Both colon ty))))) = Both attrs (Both pat (Left (Both colon ty)))
of_typed (Right s) = s
of_typed s = s

plain_typed : (s : Syntax) → plain_syntax (typed_argument s) ≡ typed_argument (plain_syntax s)
plain_typed (Both pat (Left (Both colon ty))) = refl
plain_typed (Both (Node (Right (Unshown Nothing))) (Both pat (Left (Both colon ty)))) = refl
plain_typed (Both attrs (Both pat (Left (Both colon ty)))) = refl
plain_typed s = refl

known_typed : (s : Syntax) → of_typed (plain_syntax (typed_argument s)) ≡ plain_syntax s
known_typed (Both pat (Left (Both colon ty))) = refl
known_typed (Both (Node (Right (Unshown Nothing))) (Both pat (Left (Both colon ty)))) = refl
known_typed (Both attrs (Both pat (Left (Both colon ty)))) = refl
known_typed s = refl

-- a receiver is no parameter with a type
abbrev is_typed : Syntax → Bool
is_typed (Node (Both attrs (Right s))) = true
is_typed (Right s) = true
is_typed s = false

no_typed : (s : Syntax) → is_typed (plain_syntax (receiver_argument s)) ≡ false
no_typed (Node (Both attrs receiver)) = refl
no_typed s = refl

typed : (s : Syntax) → is_typed (plain_syntax (typed_argument s)) ≡ true
typed (Both pat (Left (Both colon ty))) = refl
typed (Both (Node (Right (Unshown Nothing))) (Both pat (Left (Both colon ty)))) = refl
typed (Both attrs (Both pat (Left (Both colon ty)))) = refl
typed s = refl

module _ (s t : Syntax) where
  apart : same_syntax (receiver_argument s) (typed_argument t) ≡ false
  apart = go (same_syntax (receiver_argument s) (typed_argument t)) refl
    where
      go : (b : Bool) → same_syntax (receiver_argument s) (typed_argument t) ≡ b → b ≡ false
      go true h = absurd (true≢false (sym (typed t) ∙ ap is_typed (sym ((same_syntax_plain (receiver_argument s) (typed_argument t)).0 h)) ∙ no_typed s))
      go false h = refl

  turned : same_syntax (typed_argument t) (receiver_argument s) ≡ false
  turned = go (same_syntax (typed_argument t) (receiver_argument s)) refl
    where
      go : (b : Bool) → same_syntax (typed_argument t) (receiver_argument s) ≡ b → b ≡ false
      go true h = absurd (true≢false (sym (typed t) ∙ ap is_typed ((same_syntax_plain (typed_argument t) (receiver_argument s)).0 h) ∙ no_typed s))
      go false h = refl

abbrev same_variants : FnArg-m.the_data → FnArg-m.the_data → Bool
same_variants (FnArg-m.Receiver s) (FnArg-m.Receiver t) = same_syntax s t
same_variants (FnArg-m.Typed s) (FnArg-m.Typed t) = same_syntax s t
same_variants x y = false

pub same_argument : (x y : FnArg-m.the_data) → same_syntax (syntax_of_FnArg x) (syntax_of_FnArg y) ≡ same_variants x y
same_argument (FnArg-m.Receiver s) (FnArg-m.Receiver t) = reported receiver_argument of_receiver (receiver_argument s) (receiver_argument t) s t (plain_receiver s) (plain_receiver t) (known_receiver s) (known_receiver t)
same_argument (FnArg-m.Typed s) (FnArg-m.Typed t) = reported typed_argument of_typed (typed_argument s) (typed_argument t) s t (plain_typed s) (plain_typed t) (known_typed s) (known_typed t)
same_argument (FnArg-m.Receiver s) (FnArg-m.Typed t) = apart s t
same_argument (FnArg-m.Typed s) (FnArg-m.Receiver t) = turned t s

-- PARAMETERS BEFORE A VARIADIC ONE: the comma that is added is distinguished from one that is there

abbrev Pairs : Type 0
Pairs = List (FnArg-m.the_data × Comma)

abbrev listed : Pairs → Option FnArg-m.the_data → Syntax
listed = list_of syntax_of_FnArg comma_syntax

abbrev without_added : Syntax → Syntax
without_added (Node (Right (Both x (Left (Both (Added mark) l))))) = Node (Right (Both x (Right Nothing)))
without_added (Node (Right (Both x (Left (Both sign l))))) = Node (Right (Both x (Left (Both sign (without_added l)))))
without_added s = s

abbrev both_parameters : Syntax → Syntax
both_parameters (Both inputs variadic) = parameters_of inputs variadic
both_parameters s = s

abbrev of_parameters : Syntax → Syntax
of_parameters (Node (Shaped j (Both inputs (Left variadic)))) = Both (without_added inputs) (Left variadic)
of_parameters (Node (Shaped j (Both inputs s))) = Both inputs s
of_parameters s = s

plain_after : (l : Pairs) (o : Option FnArg-m.the_data) → plain_syntax (comma_after (listed l o)) ≡ comma_after (plain_syntax (listed l o))
plain_after [] None = refl
plain_after [] (Some t) = refl
plain_after (x ∷ l) o = ap (λ z. Node (Right (Both (plain_syntax (syntax_of_FnArg x.0)) (Left (Both (plain_syntax (comma_syntax x.1)) z))))) (plain_after l o)

known_after : (l : Pairs) (o : Option FnArg-m.the_data) → without_added (plain_syntax (comma_after (listed l o))) ≡ plain_syntax (listed l o)
known_after [] None = refl
known_after [] (Some t) = refl
known_after (x ∷ l) o = ap (λ z. Node (Right (Both (plain_syntax (syntax_of_FnArg x.0)) (Left (Both (plain_syntax (comma_syntax x.1)) z))))) (known_after l o)

module _ (l : Pairs) (o : Option FnArg-m.the_data) where
  abbrev with_variadic : Option Syntax → Syntax
  with_variadic v = Both (listed l o) (maybe itself v)

  plain_parameters : (v : Option Syntax) → plain_syntax (both_parameters (with_variadic v)) ≡ both_parameters (plain_syntax (with_variadic v))
  plain_parameters None = refl
  plain_parameters (Some v) = ap (λ z. Node (Shaped parameters (Both z (Left (plain_syntax v))))) (plain_after l o)

  known_parameters : (v : Option Syntax) → of_parameters (plain_syntax (both_parameters (with_variadic v))) ≡ plain_syntax (with_variadic v)
  known_parameters None = refl
  known_parameters (Some v) = ap (λ z. Both z (Left (plain_syntax v))) (known_after l o)

pub same_parameters : (l m : Pairs) (o q : Option FnArg-m.the_data) (v u : Option Syntax) (x : Bool) →
    and (same_syntax (parameters_of (listed l o) (maybe itself v)) (parameters_of (listed m q) (maybe itself u))) x ≡ and (same_syntax (listed l o) (listed m q)) (and (same_syntax (maybe itself v) (maybe itself u)) x)
same_parameters l m o q v u x =
    ap (λ z. and z x) (reported both_parameters of_parameters (both_parameters (with_variadic l o v)) (both_parameters (with_variadic m q u)) (with_variadic l o v) (with_variadic m q u) (plain_parameters l o v) (plain_parameters m q u) (known_parameters l o v) (known_parameters m q u))
    ∙ sym (and_assoc (same_syntax (listed l o) (listed m q)) (same_syntax (maybe itself v) (maybe itself u)) x)

-- ten tests, one after the other, that don't all hold: whatever the last one says
pub tenth_apart : (v₁ v₂ v₃ v₄ v₅ v₆ v₇ v₈ v₉ v₁₀ a₁ a₂ a₃ a₄ a₅ a₆ a₇ a₈ a₉ a₁₀ x : Bool) →
    v₁ ≡ a₁ → v₂ ≡ and v₁ a₂ → v₃ ≡ and v₂ a₃ → v₄ ≡ and v₃ a₄ → v₅ ≡ and v₄ a₅ → v₆ ≡ and v₅ a₆ → v₇ ≡ and v₆ a₇ → v₈ ≡ and v₇ a₈ → v₉ ≡ and v₈ a₉ → v₁₀ ≡ and v₉ a₁₀ → v₁₀ ≡ false →
    v₁₀ ≡ and a₁ (and a₂ (and a₃ (and a₄ (and a₅ (and a₆ (and a₇ (and a₈ (and a₉ (and a₁₀ x)))))))))
tenth_apart v₁ v₂ v₃ v₄ v₅ v₆ v₇ v₈ v₉ v₁₀ a₁ a₂ a₃ a₄ a₅ a₆ a₇ a₈ a₉ a₁₀ x e₁ e₂ e₃ e₄ e₅ e₆ e₇ e₈ e₉ e₁₀ h =
    let all : v₁₀ ≡ and (and (and (and (and (and (and (and (and a₁ a₂) a₃) a₄) a₅) a₆) a₇) a₈) a₉) a₁₀ = rw (e₁₀, e₉, e₈, e₇, e₆, e₅, e₄, e₃, e₂, e₁) refl in
    let none : false ≡ and (and (and (and (and (and (and (and (and (and a₁ a₂) a₃) a₄) a₅) a₆) a₇) a₈) a₉) a₁₀) x = ap (λ z. and z x) (sym h ∙ all) in
    simp and_assoc (h ∙ none)
