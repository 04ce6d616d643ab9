-- THE SYNTAX OF SIGNATURES, one level at a time, every field.
use Rattle.std.specs.Prelude.{Option, Some, None}
use Rattle.syn_grammar.specs.Words.{comma}
use Rattle.syn_grammar.specs.Tokens.{Paren, Stream, end}
use Rattle.syn_grammar.specs.Shape.{parameters, untagged}
use Rattle.syn_grammar.specs.Grammar.{Syntax, Nothing, Both, Left, Right, Node, Shaped, Added, Group, Unshown, added, spell}
use Rattle.syn_grammar.specs.Promises.{itself}
use Rattle.syn_tokens.specs.InOrder.{pair_of}
use Rattle.syn_tokens.specs.Kinds.{and_syntax, async_syntax, colon_syntax, comma_syntax, const_syntax, dot_dot_dot_syntax, fn_syntax, mut_syntax, safe_syntax, self_value_syntax, unsafe_syntax}
use Rattle.syn_tokens.specs.Leaves.{maybe, syntax_of_ident}
use Rattle.syn_tokens.specs.Listing.{list_of}
use Rattle.syn_lower.specs.Attributes.{attributes_syntax, none_listed}
use Rattle.syn_lower.specs.Generics.{clause_of}
use Rattle.syn_lower.specs.Parts.{first, group_syntax}
use Rattle.syn_lower.specs.Paths.{syntax_of_ReturnType}
use Rattle.syn_lower.specs.Types.{syntax_of_Type, syntax_of_lifetime}
use Rattle.syn_pat.specs.Patterns.{syntax_of_Pat}
use Rattle.syn_item.specs.Parts.{aside}
use Rattle.syn_item.specs.declared.sig.FnArg.TheVariants as FnArg-m
use Rattle.syn_item.specs.declared.sig.Receiver.TheInside as Receiver-in
use Rattle.syn_item.specs.declared.sig.ReceiverKind.TheVariants as ReceiverKind-m
use Rattle.syn_item.specs.declared.sig.Safety.TheVariants as Safety-m
use Rattle.syn_item.specs.declared.sig.Signature.TheInside as Signature-in
use Rattle.syn_item.specs.declared.sig.Variadic.TheInside as Variadic-in

abbrev pub syntax_of_Safety : Safety-m.the_data → Syntax
syntax_of_Safety (Safety-m.Safe w) = Node (Left (Shaped untagged (safe_syntax w)))
syntax_of_Safety (Safety-m.Unsafe w) = Node (Left (Shaped untagged (unsafe_syntax w)))
syntax_of_Safety Safety-m.«Default» = Node (Right Nothing)

-- RECEIVERS

-- what is around the `self`
abbrev pub syntax_of_ReceiverKind : ReceiverKind-m.the_data → Syntax
syntax_of_ReceiverKind ReceiverKind-m.Value = Right (Right Nothing)
syntax_of_ReceiverKind (ReceiverKind-m.Reference sign lifetime mutability) = Left (Both (and_syntax sign) (Both (maybe syntax_of_lifetime lifetime) (maybe mut_syntax mutability)))
syntax_of_ReceiverKind (ReceiverKind-m.Typed colon ty) = Right (Left (Both (colon_syntax colon) (syntax_of_Type ty.value)))

-- a receiver after its attributes: after `&` a `mut` of its own is never printed
abbrev pub received : Syntax → Syntax → Syntax → Syntax
received mutability self_token (Left (Both sign (Both lifetime reference_mut))) =
    Left (Both sign (Both lifetime (Both reference_mut (Both (aside mutability) (Both self_token (Right Nothing))))))
received mutability self_token kind = Right (Both mutability (Both self_token kind))

abbrev pub view_Receiver : Receiver-in.Inside → Syntax
view_Receiver a =
    Node (Both (attributes_syntax a.attrs.items) (Node (received (maybe mut_syntax a.mutability) (self_value_syntax a.self_token) (syntax_of_ReceiverKind a.kind))))

-- PARAMETERS

-- a receiver as a parameter
abbrev pub receiver_argument : Syntax → Syntax
receiver_argument (Node (Both attrs receiver)) = Node (Both attrs (Left receiver))
receiver_argument s = Left s

-- a pattern with its type as a parameter (such a pattern has no attributes where none are before it, and not an empty list of them)
abbrev pub typed_argument : Syntax → Syntax
typed_argument (Both pat (Left (Both colon ty))) = Node (Both none_listed (Right (Both pat (Both colon ty))))
typed_argument (Both (Node (Right (Unshown Nothing))) (Both pat (Left (Both colon ty)))) = Right (Both none_listed (Both pat (Left (Both colon ty))))
typed_argument (Both attrs (Both pat (Left (Both colon ty)))) = Node (Both attrs (Right (Both pat (Both colon ty))))
typed_argument s = Right s

abbrev pub syntax_of_FnArg : FnArg-m.the_data → Syntax
syntax_of_FnArg (FnArg-m.Receiver receiver) = receiver_argument receiver
syntax_of_FnArg (FnArg-m.Typed typed) = typed_argument typed

abbrev pub view_Variadic : Variadic-in.Inside → Syntax
view_Variadic a =
    Both (attributes_syntax a.attrs.items)
    (Both (maybe (pair_of (λ b. syntax_of_Pat b.value) colon_syntax) a.pat) (Node (Both (dot_dot_dot_syntax a.dots) (Both (maybe comma_syntax a.comma) (Left Nothing)))))

-- parameters before a variadic one: a comma is printed after the last of them in any case
abbrev pub comma_after : Syntax → Syntax
comma_after (Node (Right (Both x (Right Nothing)))) = Node (Right (Both x (Left (Both (Added comma) (Node (Left Nothing))))))
comma_after (Node (Right (Both x (Left (Both sign l))))) = Node (Right (Both x (Left (Both sign (comma_after l)))))
comma_after s = s

-- that comma, as it is printed
abbrev pub last_comma : {T : Type 0} → Option T → Stream
last_comma None = end
last_comma (Some t) = spell (added comma) end

-- parameters, and a variadic one or none
abbrev pub parameters_of : Syntax → Syntax → Syntax
parameters_of inputs (Left variadic) = Node (Shaped parameters (Both (comma_after inputs) (Left variadic)))
parameters_of inputs s = Node (Shaped parameters (Both inputs s))

-- SIGNATURES: foreign ones are of the same form

abbrev pub view_Signature : Signature-in.Inside → Syntax
view_Signature a =
    Node (Both (maybe const_syntax a.constness) (Both (maybe async_syntax a.asyncness) (Both (syntax_of_Safety a.safety) (Both (maybe itself a.abi)
    (Node (Both (fn_syntax a.fn_token) (Both (syntax_of_ident a.ident) (Both (first a.generics)
    (Both (group_syntax Paren a.paren_token (parameters_of (list_of syntax_of_FnArg comma_syntax a.inputs.pairs a.inputs.last) (maybe itself a.variadic)))
    (Both (syntax_of_ReturnType a.output) (clause_of a.generics)))))))))))

-- the receiver that a parameter is, if it is one
abbrev pub receiver_as : FnArg-m.the_data → Option Syntax
receiver_as (FnArg-m.Receiver receiver) = Some receiver
receiver_as (FnArg-m.Typed typed) = None

-- this parameter, where it is a receiver
abbrev pub receiver_of : Syntax → Option Syntax
receiver_of (Node (Both attrs (Left receiver))) = Some (Node (Both attrs receiver))
receiver_of (Left receiver) = Some receiver
receiver_of s = None

-- the first of these parameters, where it is one
abbrev pub first_receiver : Syntax → Option Syntax
first_receiver (Node (Right (Both x more))) = receiver_of x
first_receiver s = None

-- the receiver of a signature
abbrev pub receiver_in : Syntax → Option Syntax
receiver_in (Node (Both constness (Both asyncness (Both safety (Both abi (Node (Both sign (Both ident (Both generics (Both (Group d o c (Node (Shaped j (Both inputs last)))) more)))))))))) = first_receiver inputs
receiver_in s = None
