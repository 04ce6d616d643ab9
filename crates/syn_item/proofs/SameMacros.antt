-- Macros among items and members, compared part by part.
use Rattle.std.proofs.Common.{◌≡◌, Bool, List, Some, None, refl, ap, ap₂, ◌∙◌}
use Rattle.std.specs.Prelude.{Option}
use Rattle.syn_grammar.specs.Tokens.{and}
use Rattle.syn_grammar.specs.Grammar.{Syntax, Nothing, Both, Left, Right, Node, plain_syntax}
use Rattle.syn_grammar.specs.Same.{same_syntax}
use Rattle.syn_tokens.specs.Kinds.{Semi, semi_syntax}
use Rattle.syn_tokens.specs.Leaves.{maybe}
use Rattle.syn_lower.specs.declared.attr.Attribute.{Attribute}
use Rattle.syn_lower.proofs.Attributes.{same_attributes}
use Rattle.syn_lower.proofs.Compared.{reported}
use Rattle.syn_item.specs.Macros.{ended_group, ended_macro, named_macro}
use Rattle.syn_item.proofs.SameParts.{all_same, listed_same, semi_of}

-- A GROUP, and what follows it

abbrev in_side : (Syntax → Syntax) → Syntax → Syntax
in_side side (Both group semi) = Both (side group) semi
in_side side s = s

abbrev of_group : Syntax → Syntax
of_group (Left s) = in_side Left (of_group s)
of_group (Right s) = in_side Right (of_group s)
of_group (Both group (Right s)) = Both group (Right s)
of_group (Both group semi) = Both group (Left semi)
of_group s = Both s (Right Nothing)

plain_group : (o : Option Semi) (s : Syntax) → plain_syntax (ended_group (semi_of o) s) ≡ ended_group (plain_syntax (semi_of o)) (plain_syntax s)
plain_group o (Left s) = ap Left (plain_group o s)
plain_group o (Right s) = ap Right (plain_group o s)
plain_group (Some semi) s = refl
plain_group None s = refl

known_group : (o : Option Semi) (s : Syntax) → of_group (plain_syntax (ended_group (semi_of o) s)) ≡ plain_syntax (Both s (semi_of o))
known_group o (Left s) = ap (in_side Left) (known_group o s)
known_group o (Right s) = ap (in_side Right) (known_group o s)
known_group (Some semi) s = refl
known_group None s = refl

-- A MACRO AS A MEMBER

abbrev in_macro : Syntax → Syntax → Syntax → Syntax
in_macro path bang (Both group semi) = Both (Node (Both path (Both bang group))) semi
in_macro path bang s = s

abbrev both_ended : Syntax → Syntax
both_ended (Both mac semi) = ended_macro semi mac
both_ended s = s

abbrev of_macro : Syntax → Syntax
of_macro (Node (Both path (Both bang (Node group)))) = in_macro path bang (of_group group)
of_macro s = s

plain_macro : (o : Option Semi) (s : Syntax) → plain_syntax (ended_macro (semi_of o) s) ≡ both_ended (plain_syntax (Both s (semi_of o)))
plain_macro o (Node (Both path (Both bang group))) = ap (λ z. Node (Both (plain_syntax path) (Both (plain_syntax bang) (Node z)))) (plain_group o group)
plain_macro o s = refl

known_macro : (o : Option Semi) (s : Syntax) → of_macro (plain_syntax (ended_macro (semi_of o) s)) ≡ plain_syntax (Both s (semi_of o))
known_macro o (Node (Both path (Both bang group))) = ap (in_macro (plain_syntax path) (plain_syntax bang)) (known_group o group)
known_macro o s = refl

pub same_ended : (o q : Option Semi) (s t : Syntax) → same_syntax (ended_macro (semi_of o) s) (ended_macro (semi_of q) t) ≡ and (same_syntax s t) (same_syntax (semi_of o) (semi_of q))
same_ended o q s t = reported both_ended of_macro (ended_macro (semi_of o) s) (ended_macro (semi_of q) t) (Both s (semi_of o)) (Both t (semi_of q)) (plain_macro o s) (plain_macro q t) (known_macro o s) (known_macro q t)

-- after its attributes
pub same_member_macro : (l m : List Attribute) (o q : Option Semi) (s t : Syntax) →
    and (listed_same l m) (same_syntax (ended_macro (semi_of o) s) (ended_macro (semi_of q) t)) ≡ and (all_same l m) (and (same_syntax s t) (same_syntax (semi_of o) (semi_of q)))
same_member_macro l m o q s t = ap₂ and (same_attributes l m) (same_ended o q s t)

-- A MACRO AS AN ITEM, with a name or without one

abbrev in_named : Syntax → Syntax → Syntax → Syntax → Syntax
in_named path bang ident (Both group semi) = Both ident (Both (Node (Both path (Both bang group))) semi)
in_named path bang ident s = s

abbrev both_named : Syntax → Syntax
both_named (Both ident (Both mac semi)) = named_macro ident semi mac
both_named s = s

abbrev of_named : Syntax → Syntax
of_named (Node (Both path (Both bang (Both ident (Node group))))) = in_named path bang ident (of_group group)
of_named (Both mac (Both ident semi)) = Both ident (Both mac semi)
of_named s = s

module _ (ident : Syntax) where
  abbrev parts : Option Semi → Syntax → Syntax
  parts o s = Both ident (Both s (semi_of o))

  plain_named : (o : Option Semi) (s : Syntax) → plain_syntax (named_macro ident (semi_of o) s) ≡ both_named (plain_syntax (parts o s))
  plain_named o (Node (Both path (Both bang group))) = ap (λ z. Node (Both (plain_syntax path) (Both (plain_syntax bang) (Both (plain_syntax ident) (Node z))))) (plain_group o group)
  plain_named o s = refl

  known_named : (o : Option Semi) (s : Syntax) → of_named (plain_syntax (named_macro ident (semi_of o) s)) ≡ plain_syntax (parts o s)
  known_named o (Node (Both path (Both bang group))) = ap (in_named (plain_syntax path) (plain_syntax bang) (plain_syntax ident)) (known_group o group)
  known_named o s = refl

pub same_item_macro : (l m : List Attribute) (a b : Syntax) (o q : Option Semi) (s t : Syntax) →
    and (listed_same l m) (same_syntax (named_macro a (semi_of o) s) (named_macro b (semi_of q) t)) ≡ and (all_same l m) (and (same_syntax a b) (and (same_syntax s t) (same_syntax (semi_of o) (semi_of q))))
same_item_macro l m a b o q s t =
    ap₂ and (same_attributes l m) (reported both_named of_named (named_macro a (semi_of o) s) (named_macro b (semi_of q) t) (parts a o s) (parts b q t) (plain_named a o s) (plain_named b q t) (known_named a o s) (known_named b q t))
