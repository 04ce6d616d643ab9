-- Fields, read, printed and compared.
use Rattle.std.proofs.Common.{◌≡◌, refl, sym, ap, ◌∙◌}
use Rattle.std.specs.Prelude.{Option, Some, None, false}
use Rattle.syn_grammar.specs.Words.{colon, comma}
use Rattle.syn_grammar.specs.Tokens.{◌⧺◌, and, ended, at_mark}
use Rattle.syn_grammar.specs.Rules.{named_fields, named_field}
use Rattle.syn_grammar.specs.Shape.{untagged}
use Rattle.syn_grammar.specs.Grammar.{Syntax, Nothing, Both, Left, Right, Unshown, Added, Shaped, rule, mark, print, plain_syntax}
use Rattle.syn_grammar.specs.Same.{same_syntax}
use Rattle.syn_grammar.proofs.Each.{named_fields_is}
use Rattle.syn_grammar.proofs.Streams.{append_append}
use Rattle.syn_tokens.specs.Leaves.{maybe, syntax_of_ident}
use Rattle.syn_tokens.specs.Idents.{IdentValue}
use Rattle.syn_tokens.specs.Kinds.{Colon, colon_syntax}
use Rattle.syn_parse.specs.Form.{by, of}
use Rattle.syn_parse.specs.Listing.{IsList}
use Rattle.syn_lower.specs.Parts.{first, second, or_added}
use Rattle.syn_tree.specs.Data.{field_name, field_parts}
use Rattle.syn_lower.proofs.Compared.{reported}

-- fields with names are a list with commas
pub named_fields_list : IsList named_fields (of (rule named_field)) (by ended) (by (at_mark comma)) (of (mark false comma))
named_fields_list = record { is = named_fields_is }

-- a field's name, and what follows it
pub print_field_parts : (i : Option IdentValue) (c t d : Syntax) → print (field_parts (maybe syntax_of_ident i) c t d) ≡ print (field_name (maybe syntax_of_ident i) c) ⧺ (print t ⧺ print d)
print_field_parts (Some i) c t d = ap (λ z. print (syntax_of_ident i) ⧺ z) (append_append (print (or_added colon c)) (print t) (print d))
print_field_parts None c t d = refl

-- the parts of a field in order
abbrev parts_in_order : Syntax → Syntax → Syntax → Syntax → Syntax
parts_in_order i c t d = Both i (Both c (Both t d))

abbrev parts_of : Syntax → Syntax
parts_of s = field_parts (first s) (first (second s)) (first (second (second s))) (second (second (second s)))

abbrev parts_back : Syntax → Syntax
parts_back (Both (Shaped j (Both i (Both (Added x) (Shaped k t)))) d) = parts_in_order (Left i) (Right Nothing) t d
parts_back (Both (Shaped j (Both i (Both c (Shaped k t)))) d) = parts_in_order (Left i) (Left c) t d
parts_back (Both (Unshown Nothing) (Both t d)) = parts_in_order (Right Nothing) (Right Nothing) t d
parts_back (Both (Unshown c) (Both t d)) = parts_in_order (Right Nothing) (Left c) t d
parts_back s = s

abbrev listed : Option IdentValue → Option Colon → Syntax → Syntax → Syntax
listed i c t d = parts_in_order (maybe syntax_of_ident i) (maybe colon_syntax c) t d

abbrev formed : Option IdentValue → Option Colon → Syntax → Syntax → Syntax
formed i c t d = field_parts (maybe syntax_of_ident i) (maybe colon_syntax c) t d

plain_parts : (i : Option IdentValue) (c : Option Colon) (t d : Syntax) → plain_syntax (formed i c t d) ≡ parts_of (plain_syntax (listed i c t d))
plain_parts (Some i) (Some c) t d = refl
plain_parts (Some i) None t d = refl
plain_parts None (Some c) t d = refl
plain_parts None None t d = refl

known_parts : (i : Option IdentValue) (c : Option Colon) (t d : Syntax) → parts_back (plain_syntax (formed i c t d)) ≡ plain_syntax (listed i c t d)
known_parts (Some i) (Some c) t d = refl
known_parts (Some i) None t d = refl
known_parts None (Some c) t d = refl
known_parts None None t d = refl

pub same_field : (i j : Option IdentValue) (c e : Option Colon) (s t a d : Syntax) →
    same_syntax (field_parts (maybe syntax_of_ident i) (maybe colon_syntax c) s a) (field_parts (maybe syntax_of_ident j) (maybe colon_syntax e) t d) ≡ and (same_syntax (maybe syntax_of_ident i) (maybe syntax_of_ident j)) (and (same_syntax (maybe colon_syntax c) (maybe colon_syntax e)) (and (same_syntax s t) (same_syntax a d)))
same_field i j c e s t a d = reported parts_of parts_back _ _ (listed i c s a) (listed j e t d) (plain_parts i c s a) (plain_parts j e t d) (known_parts i c s a) (known_parts j e t d)
