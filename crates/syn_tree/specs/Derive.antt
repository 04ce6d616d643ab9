-- THE SYNTAX OF THE INPUT OF A DERIVE, one level at a time, every field. Structs, enums and unions as items represent
-- the same, as far as it is theirs (specs/Items).
use Rattle.std.specs.Prelude.{Option}
use Rattle.syn_grammar.specs.Words.{w_struct, w_enum, w_union, semicolon}
use Rattle.syn_grammar.specs.Tokens.{Brace, at_word}
use Rattle.syn_grammar.specs.Rules.{structure, enumeration, union_item, generics, structure_body, where_clause, variants, fields_named}
use Rattle.syn_grammar.specs.Grammar.{Grammar, name, word, ◌&◌, when◌then◌else◌, inside, rule, Syntax, Nothing, Both, Left, Right, Node, Case, Unshown}
use Rattle.syn_grammar.specs.Forms.{plainly}
use Rattle.syn_grammar.specs.Promises.{itself}
use Rattle.syn_tokens.specs.Leaves.{maybe, syntax_of_ident}
use Rattle.syn_tokens.specs.Idents.{IdentValue}
use Rattle.syn_tokens.specs.Kinds.{Comma, Semi, comma_syntax, enum_syntax, semi_syntax, struct_syntax, union_syntax}
use Rattle.syn_tokens.specs.Listing.{list_of}
use Rattle.syn_tokens.specs.Lists.{Sequence}
use Rattle.syn_tokens.specs.Kinds as kinds
use Rattle.syn_lower.specs.Parts.{group_syntax, or_added, or_else, first, second}
use Rattle.syn_lower.specs.Attributes.{attributes_syntax}
use Rattle.syn_tree.specs.Restriction.{syntax_of_Visibility}
use Rattle.syn_lower.specs.Generics.{clause_of, where_part}
use Rattle.syn_tree.specs.Data.{syntax_of_Fields}
use Rattle.syn_tree.specs.declared.data.Fields.TheVariants as Fields-m
use Rattle.syn_tree.specs.declared.derive.DataStruct.{DataStruct}
use Rattle.syn_tree.specs.declared.derive.DataEnum.{DataEnum}
use Rattle.syn_tree.specs.declared.derive.DataUnion.{DataUnion}
use Rattle.syn_tree.specs.declared.derive.Data.TheVariants as Data-m
use Rattle.syn_tree.specs.declared.derive.DeriveInput.TheInside as DeriveInput-in

-- WHAT EACH KIND HAS OF ITS OWN

abbrev pub syntax_of_DataStruct : DataStruct → Syntax
syntax_of_DataStruct d = Both (struct_syntax d.struct_token) (Both (syntax_of_Fields d.fields) (maybe semi_syntax d.semi_token))

abbrev pub syntax_of_DataEnum : DataEnum → Syntax
syntax_of_DataEnum d = Both (enum_syntax d.enum_token) (group_syntax Brace d.brace_token (list_of itself comma_syntax d.variants.pairs d.variants.last))

abbrev pub syntax_of_DataUnion : DataUnion → Syntax
syntax_of_DataUnion d = Both (union_syntax d.union_token) d.fields

abbrev pub syntax_of_Data : Data-m.the_data → Syntax
syntax_of_Data (Data-m.Struct d) = Left (syntax_of_DataStruct d)
syntax_of_Data (Data-m.Enum d) = Right (Left (syntax_of_DataEnum d))
syntax_of_Data (Data-m.Union d) = Right (Right (syntax_of_DataUnion d))

-- AFTER THE VISIBILITY: the word, the name, the parameters, and in its place among the rest the where clause

-- what follows a struct's parameters: fields in braces follow the where clause, and a semicolon that a tree made by
-- hand holds after them is not printed; in any other struct it is printed in any case
abbrev pub structure_body_of : Syntax → Syntax → Syntax → Syntax
structure_body_of (Left fields) clause semi_token = Node (Right (Both clause (Left (Both (Unshown (or_else Nothing semi_token)) fields))))
structure_body_of (Right (Left fields)) clause semi_token = Node (Left (Both fields (Both clause (or_added semicolon semi_token))))
structure_body_of fields clause semi_token = Node (Right (Both clause (Right (or_added semicolon semi_token))))

abbrev pub structure_of : Syntax → Syntax → Syntax → Syntax → Syntax
structure_of ident params clause own = Both (first own) (Both ident (Both params (structure_body_of (first (second own)) clause (second (second own)))))

-- of an enum and of a union
abbrev pub braced_of : Syntax → Syntax → Syntax → Syntax → Syntax
braced_of ident params clause own = Both (first own) (Both ident (Both params (Both clause (second own))))

-- by the kind
abbrev pub shape_of : Syntax → Syntax → Syntax → Syntax → Syntax
shape_of ident params clause (Left own) = Left (structure_of ident params clause own)
shape_of ident params clause (Right (Left own)) = Right (Left (braced_of ident params clause own))
shape_of ident params clause (Right (Right own)) = Right (Right (braced_of ident params clause own))
shape_of ident params clause own = own

-- AN ITEM: attributes, a visibility, and what follows it
abbrev pub item_of : Syntax → Syntax → Syntax → Syntax
item_of attrs vis rest = Both attrs (Node (Both vis rest))

-- the input of a derive, whose rule decides its kind
abbrev pub input_of : Syntax → Syntax → Syntax → Syntax
input_of attrs vis (Left rest) = Node (Case structure (item_of attrs vis rest))
input_of attrs vis (Right (Left rest)) = Node (Case enumeration (item_of attrs vis rest))
input_of attrs vis (Right (Right rest)) = Node (Case union_item (item_of attrs vis rest))
input_of attrs vis rest = rest

abbrev pub view_DeriveInput : DeriveInput-in.Inside → Syntax
view_DeriveInput a =
    input_of (attributes_syntax a.attrs.items) (syntax_of_Visibility a.vis) (shape_of (syntax_of_ident a.ident) (first a.generics) (clause_of a.generics) (syntax_of_Data a.shape))

-- AS THEY ARE READ

abbrev pub structure_form : Grammar
structure_form = plainly (word w_struct) & plainly name & rule generics & rule structure_body

abbrev pub enumeration_form : Grammar
enumeration_form = plainly (word w_enum) & plainly name & rule generics & rule where_clause & inside Brace (rule variants)

abbrev pub union_form : Grammar
union_form = plainly (word w_union) & plainly name & rule generics & rule where_clause & rule fields_named

-- a struct, an enum or a union, after its visibility
abbrev pub shape_form : Grammar
shape_form = when at_word w_struct then structure_form else when at_word w_enum then enumeration_form else union_form

abbrev pub structure_syntax : IdentValue × Syntax × DataStruct → Syntax
structure_syntax p = structure_of (syntax_of_ident p.0) (first p.1) (clause_of p.1) (syntax_of_DataStruct p.2)

abbrev pub enumeration_syntax : IdentValue × Syntax × DataEnum → Syntax
enumeration_syntax p = braced_of (syntax_of_ident p.0) (first p.1) (clause_of p.1) (syntax_of_DataEnum p.2)

abbrev pub union_item_syntax : IdentValue × Syntax × DataUnion → Syntax
union_item_syntax p = braced_of (syntax_of_ident p.0) (first p.1) (clause_of p.1) (syntax_of_DataUnion p.2)

abbrev pub shape_syntax : IdentValue × Syntax × Data-m.the_data → Syntax
shape_syntax p = shape_of (syntax_of_ident p.0) (first p.1) (clause_of p.1) (syntax_of_Data p.2)

-- what follows a struct's parameters
abbrev pub body_syntax : Option Syntax × Fields-m.the_data × Option Semi → Syntax
body_syntax p = structure_body_of (syntax_of_Fields p.1) (where_part p.0) (maybe semi_syntax p.2)

-- what follows an enum's parameters: a where clause, and variants in braces
abbrev pub enum_body_form : Grammar
enum_body_form = rule where_clause & inside Brace (rule variants)

abbrev pub enum_body_syntax : Option Syntax × kinds.Brace × Sequence Syntax Comma → Syntax
enum_body_syntax p = Both (where_part p.0) (group_syntax Brace p.1 (list_of itself comma_syntax p.2.pairs p.2.last))

abbrev pub union_body_form : Grammar
union_body_form = rule where_clause & rule fields_named

abbrev pub union_body_syntax : Option Syntax × Syntax → Syntax
union_body_syntax p = Both (where_part p.0) p.1

-- the parts of an input in order, as that input
abbrev pub placed : Syntax → Syntax
placed (Both attrs (Both vis rest)) = input_of attrs vis rest
placed s = s
