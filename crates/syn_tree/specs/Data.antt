-- THE SYNTAX OF FIELDS AND VARIANTS, one level at a time, every field of a struct.
use Rattle.std.specs.Prelude.{true}
use Rattle.syn_grammar.specs.Words.{w_pub, w_underscore, colon, equals}
use Rattle.syn_grammar.specs.Tokens.{None as Invisible, at_word}
use Rattle.syn_grammar.specs.Rules.{type, visibility, whole_expression, fields_named, fields_unnamed}
use Rattle.syn_grammar.specs.Shape.{untagged}
use Rattle.syn_grammar.specs.Grammar.{Grammar, name, word, empty, ◌&◌, when◌then◌else◌, vanishing, inside, rule, shaped, Syntax, Nothing, Both, Left, Right, Node, Vanishing, Shaped, Unshown}
use Rattle.syn_grammar.specs.Forms.{plainly, punctuation}
use Rattle.syn_grammar.specs.Table.{at_brace, at_paren, at_equals, at_visibility, nameless_type}
use Rattle.syn_grammar.specs.Promises.{itself}
use Rattle.syn_tokens.specs.InOrder.{pair_of}
use Rattle.syn_tokens.specs.Leaves.{maybe, syntax_of_ident}
use Rattle.syn_tokens.specs.Idents.{IdentValue}
use Rattle.syn_tokens.specs.Kinds.{Colon, colon_syntax, eq_syntax}
use Rattle.syn_lower.specs.Parts.{or_else, or_added}
use Rattle.syn_lower.specs.Attributes.{all_attributes_syntax}
use Rattle.syn_lower.specs.Types.{syntax_of_Type}
use Rattle.syn_tree.specs.Restriction.{syntax_of_Visibility}
use Rattle.syn_tree.specs.declared.data.Field.TheInside as Field-in
use Rattle.syn_tree.specs.declared.data.Fields.TheVariants as Fields-m
use Rattle.syn_tree.specs.declared.data.Variant.TheInside as Variant-in
use Rattle.syn_lower.specs.declared.ty.Type.TheVariants as Type-m

-- a field's name with its colon, which is printed in any case; without a name a colon is never printed
abbrev pub field_name : Syntax → Syntax → Syntax
field_name (Left ident) colon_token = Both ident (or_added colon colon_token)
field_name _ colon_token = Unshown (or_else Nothing colon_token)

-- a field after its visibility: the name that it has, its colon, its type and its default
abbrev pub field_parts : Syntax → Syntax → Syntax → Syntax → Syntax
field_parts (Left ident) colon_token ty default = Both (Shaped untagged (Both ident (Both (or_added colon colon_token) (Shaped untagged ty)))) default
field_parts _ colon_token ty default = Both (Unshown (or_else Nothing colon_token)) (Both ty default)

abbrev pub view_Field : Field-in.Inside → Syntax
view_Field a =
    Node (Both (all_attributes_syntax a.attrs.items) (Both (syntax_of_Visibility a.vis) (field_parts (maybe syntax_of_ident a.ident) (maybe colon_syntax a.colon_token) (syntax_of_Type a.ty) (maybe (pair_of eq_syntax itself) a.default))))

abbrev pub syntax_of_Fields : Fields-m.the_data → Syntax
syntax_of_Fields (Fields-m.Named f) = Left f
syntax_of_Fields (Fields-m.Unnamed f) = Right (Left f)
syntax_of_Fields Fields-m.«Unit» = Right (Right Nothing)

-- a visibility is never printed
abbrev pub view_Variant : Variant-in.Inside → Syntax
view_Variant a =
    Node (Both (all_attributes_syntax a.attrs.items) (Both (Vanishing true (Right Nothing)) (Both (syntax_of_ident a.ident) (Both (syntax_of_Fields a.fields) (maybe (pair_of eq_syntax itself) a.discriminant)))))

-- AS THEY ARE READ

-- a name or `_`, a colon and a type
abbrev pub named_type_form : Grammar
named_type_form = shaped untagged (when at_word w_underscore then plainly (word w_underscore) & punctuation colon & nameless_type else plainly name & punctuation colon & shaped untagged (rule type))

abbrev pub named_type_syntax : IdentValue × Colon × Type-m.the_data → Syntax
named_type_syntax p = Shaped untagged (Both (syntax_of_ident p.0) (Both (colon_syntax p.1) (Shaped untagged (syntax_of_Type p.2))))

-- `=` and an expression if `=` is next
abbrev pub value_form : Grammar
value_form = when at_equals then punctuation equals & rule whole_expression else empty

-- the visibility of a variant
abbrev pub unshown_visibility : Grammar
unshown_visibility = vanishing true at_visibility (when at_word w_pub then rule visibility else inside Invisible empty)

-- the fields of a variant
abbrev pub fields_form : Grammar
fields_form = when at_brace then rule fields_named else when at_paren then rule fields_unnamed else empty
