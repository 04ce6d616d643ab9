-- THE FIELDS OF A STRUCT OR VARIANT IN ORDER, and what each is called.
use Rattle.std.specs.Prelude.{ℕ, suc, List, [], ◌∷◌}
use Rattle.syn_grammar.specs.Tokens as grammar
use Rattle.syn_grammar.specs.Tokens.{ident, Stream, end, leaf, punct, group}
use Rattle.syn_grammar.specs.Grammar.{Syntax, Token, Both, Left, Right, Node, Group, Shaped, Unshown, print}
use Rattle.syn_tokens.specs.Idents.{IdentValue}
use Rattle.syn_tokens.specs.Leaves.{syntax_of_ident}
use Rattle.syn_tokens.specs.declared.span.Span.{Span}
use Rattle.syn_lower.specs.Members.{syntax_of_Index}
use Rattle.syn_lower.specs.declared.member.Index.{Index}
use Rattle.syn_tree.specs.declared.data.members.MemberRef.TheVariants as MemberRef-m
use Rattle.syn_tree.specs.declared.data.Fields.TheVariants as Fields-m

-- THE FIELDS

-- the values of a comma list
abbrev pub elements : Syntax → List Syntax
elements (Node (Right (Both s (Left (Both c l))))) = s ∷ elements l
elements (Node (Right (Both s (Right n)))) = s ∷ []
elements _ = []

-- of fields in braces or parentheses
abbrev pub fields_in : Syntax → List Syntax
fields_in (Node (Group d o c l)) = elements l
fields_in _ = []

abbrev pub fields_of : Fields-m.the_data → List Syntax
fields_of (Fields-m.Named f) = fields_in f
fields_of (Fields-m.Unnamed f) = fields_in f
fields_of Fields-m.«Unit» = []

-- WHERE A TYPE BEGINS

abbrev pub span_of : grammar.Span → Span
span_of s = record { start = s.start; end = s.stop }

-- the span of the first token; 0 to 0 if there is none
abbrev pub first_place : Stream → Span
first_place (leaf l s r) = span_of s
first_place (punct c j s r) = span_of s
first_place (group d o c i r) = span_of o
first_place end = record { start = 0; end = 0 }

-- MEMBERS: a field's name, or its place among the fields
pub data MemberValue : Type 0 where
  Named : IdentValue → MemberValue
  Unnamed : Index → MemberValue

abbrev pub member_value : MemberRef-m.the_data → MemberValue
member_value (MemberRef-m.Named i) = Named i.now
member_value (MemberRef-m.Unnamed i) = Unnamed i

-- of the field at this place, by what follows its visibility
abbrev pub member_in : ℕ → Syntax → MemberValue
member_in n (Both (Shaped j (Both (Token (ident x) s) t)) default) = Named (record { text = x; span = span_of s })
member_in n (Both c (Both ty default)) = Unnamed (record { index = n; span = first_place (print ty) })
member_in n _ = Unnamed (record { index = n; span = record { start = 0; end = 0 } })

abbrev pub member_of : ℕ → Syntax → MemberValue
member_of n (Node (Both attrs (Both vis s))) = member_in n s
member_of n s = member_in n s

-- of fields, the first of which is at this place
abbrev pub members_from : ℕ → List Syntax → List MemberValue
members_from n [] = []
members_from n (f ∷ l) = member_of n f ∷ members_from (suc n) l

-- AS SYNTAX

abbrev pub syntax_of_MemberRef : MemberRef-m.the_data → Syntax
syntax_of_MemberRef (MemberRef-m.Named i) = syntax_of_ident i.now
syntax_of_MemberRef (MemberRef-m.Unnamed i) = syntax_of_Index i
