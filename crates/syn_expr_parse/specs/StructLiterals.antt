-- THE BRACES OF A STRUCT LITERAL: fields, and perhaps `..` with an expression.
use Rattle.std.specs.Prelude.{List, [], ◌∷◌}
use Rattle.syn_grammar.specs.Words.{colon, dots}
use Rattle.syn_grammar.specs.Rules.{whole_expression}
use Rattle.syn_grammar.specs.Tokens.{pick}
use Rattle.syn_grammar.specs.Shape.{Path, based, untagged}
use Rattle.syn_grammar.specs.Grammar.{Syntax, Nothing, Both, Left, Right, Node, Unshown, Shaped, Grammar, index, name, rule, unshown, when◌then◌else◌, ◌&◌}
use Rattle.syn_grammar.specs.Forms.{plainly, punctuation}
use Rattle.syn_grammar.specs.Table.{at_colon}
use Rattle.syn_grammar.specs.Same.{same_syntax}
use Rattle.syn_grammar.specs.Values.{more_members, new}

-- a list of fields, `..` and an expression, each of these or nothing
abbrev pub literal_of_parts : Syntax → Syntax → Syntax → Syntax
literal_of_parts fields dots base = Node (Shaped based (Both fields (Both dots base)))

-- a field and a comma before others
abbrev pub one_before : Syntax → Syntax → Syntax → Syntax
one_before field comma others = Node (more_members based field comma others)

-- fields and their commas before others
abbrev pub fields_before : {F P : Type 0} → (F → Syntax) → (P → Syntax) → List (F × P) → Syntax → Syntax
fields_before view sign [] s = s
fields_before view sign (f ∷ l) s = one_before (view f.0) (sign f.1) (fields_before view sign l s)

-- `..` and an expression
abbrev pub base_form : Grammar
base_form = punctuation dots & rule whole_expression

abbrev pub base_alone : Syntax → Syntax
base_alone (Both d e) = literal_of_parts (Node (Left Nothing)) (Left d) (Left e)
base_alone s = s

-- A FIELD

abbrev pub value_form : Grammar
value_form = punctuation colon & rule whole_expression

abbrev pub numbered_form : Grammar
numbered_form = plainly index & value_form

abbrev pub named_form : Grammar
named_form = plainly name & (when at_colon then value_form else unshown)

-- a name alone, which represents the variable of that name
abbrev pub named_path : Syntax → Syntax
named_path word = new Path (Node (Right (Node (Both (Right Nothing) (Node (Both (Shaped untagged (Both word (Shaped untagged Nothing))) (Right Nothing)))))))

-- what is left unshown after a name alone: nothing, where the value is that variable (spans aside)
abbrev pub hidden : Syntax → Syntax → Syntax
hidden word value = pick (same_syntax (named_path word) value) Nothing (Node value)

-- a number or a name; a colon, or none; and a value. Without a colon the value, which only a tree made by hand holds there, isn't shown.
abbrev pub member_and_value : Syntax → Syntax → Syntax → Syntax
member_and_value (Left number) (Left sign) value = Left (Both number (Both sign (Node value)))
member_and_value (Right word) (Left sign) value = Right (Both word (Left (Both sign (Node value))))
member_and_value (Left number) sign value = Left (Both number (Unshown (Node value)))
member_and_value (Right word) sign value = Right (Both word (Right (Unshown (hidden word value))))
member_and_value member sign value = Both member (Both sign (Node value))

-- a field, of its attributes and these
abbrev pub field_of : Syntax → Syntax → Syntax → Syntax → Syntax
field_of attributes member sign value = Node (Both attributes (member_and_value member sign value))

-- a name alone
abbrev pub lone_field : Syntax → Syntax → Syntax
lone_field attributes word = Node (Both attributes (Right (Both word (Right (Unshown Nothing)))))
