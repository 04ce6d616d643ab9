-- THE VALUE OF A SHAPED FORM: of an expression, a statement or the parameters of a function, in the structure of the Rust types.
-- An expression is `Shaped (expr variant) (Both attributes fields)`. The left operand of an operator, the function of a call etc. are fields: chains nest to the left.
use Rattle.std.specs.Prelude.{Bool, true, false}
use Rattle.syn_grammar.specs.Tokens.{end, Paren, Bracket}
use Rattle.syn_grammar.specs.Shape.{Variant, Path, Struct, Binary, Assign, Cast, Verbatim, Field, MethodCall, Parens, Tuple, Array, Repeat, Macro, Shape, expr, operand, bracketed, after_it, operator, dotted, fields, choice, chain, leading, labelled, attributed, listed, lone, said, said_macro, a_local, an_item, untagged, parameters, based, single}
use Rattle.syn_grammar.specs.Rules.{Rule, structure, structure_rest, enumeration, enumeration_rest, union_item, union_item_rest, function, function_rest, const_item, const_item_rest, static_item, static_item_rest, extern_crate, extern_crate_rest, use_item, use_item_rest, module_item, module_item_rest, trait_alias, trait_alias_rest, type_item, type_item_rest, macro_as_item, macro_as_item_rest, trait_definition, trait_definition_rest, impl_definition, impl_definition_rest, foreign_module, foreign_module_rest, kept_item}
use Rattle.syn_grammar.specs.Grammar.{Syntax, Nothing, Mark, Both, Left, Right, Node, Case, Group, Captured, Unshown, Shaped}

-- the value of the attributes where there are none
abbrev pub no_attributes : Syntax
no_attributes = Node (Right (Unshown Nothing))

-- an expression without attributes
abbrev pub new : Variant → Syntax → Syntax
new v s = Shaped (expr v) (Both no_attributes s)

-- the content of a rule's Node and of a choice's marks
abbrev pub core : Syntax → Syntax
core (Node s) = core s
core (Left s) = core s
core (Right s) = core s
core (Shaped j s) = Shaped j s
core s = Shaped choice s

-- `( )` is a tuple, unless it holds one expression without a comma; `[ ]` is an array, unless it has a `;`
abbrev pub variant_of : Syntax → Variant
variant_of (Group Paren o c (Node (Right (Both s (Right Nothing))))) = Parens
variant_of (Group Bracket o c (Node (Right (Both s (Left t))))) = Repeat
variant_of (Group Bracket o c s) = Array
variant_of s = Tuple

-- `.` followed by a number or a name alone is a field
abbrev pub member_variant : Syntax → Variant
member_variant (Both dot (Node (Left s))) = Field
member_variant (Both dot (Node (Right (Both name (Right (Right Nothing)))))) = Field
member_variant s = MethodCall

-- a path and the braces after it
abbrev pub literal_of : Syntax → Syntax → Syntax
literal_of (Shaped (expr Path) (Both a s)) p = Shaped (expr Struct) (Both a (Both s p))
literal_of s p = Shaped fields (Both s p)

-- applies postfixes and operators to an expression, from the left to the right
abbrev pub onto : Syntax → Syntax → Syntax
onto a Nothing = a
onto a (Node l) = onto a l
onto a (Left l) = onto a l
onto a (Right l) = onto a l
onto a (Both l m) = onto (onto a l) m
onto a (Shaped (after_it v) p) = new v (Both a p)
onto a (Shaped (operator v) p) = new v (Both a p)
onto a (Shaped dotted p) = new (member_variant p) (Both a p)
onto a (Shaped fields p) = literal_of a p
onto a l = Shaped chain (Both a l)

abbrev pub chained : Syntax → Syntax
chained (Both s l) = onto (core s) l
chained s = Shaped chain s

-- some attributes before others
abbrev pub attributes_before : Syntax → Syntax → Syntax
attributes_before (Node (Right (Unshown Nothing))) b = b
attributes_before (Node (Left (Both attribute more))) b = Node (Left (Both attribute (attributes_before more b)))
attributes_before a b = Both a b

-- attributes before the expression's own
abbrev pub with_attributes : Syntax → Syntax → Syntax
with_attributes a (Shaped (expr v) (Both b s)) = Shaped (expr v) (Both (attributes_before a b) s)
with_attributes a s = Shaped leading (Both a s)

abbrev pub led : Syntax → Syntax
led (Both a s) = with_attributes a (core s)
led s = Shaped leading s

-- an optional label is an expression's first field
abbrev pub with_label : Syntax → Syntax → Syntax
with_label a (Shaped (expr v) (Both (Node (Right (Unshown Nothing))) s)) = new v (Both a s)
with_label a s = Shaped labelled (Both a s)

abbrev pub label : Syntax → Syntax
label (Both a s) = with_label a (core s)
label s = Shaped labelled s

-- attributes before those of the leftmost operand, below the operators
abbrev pub moved : Syntax → Syntax → Syntax
moved a (Shaped (expr Binary) (Both (Node (Right (Unshown Nothing))) (Both l p))) = new Binary (Both (moved a l) p)
moved a (Shaped (expr Assign) (Both (Node (Right (Unshown Nothing))) (Both l p))) = new Assign (Both (moved a l) p)
moved a (Shaped (expr Cast) (Both (Node (Right (Unshown Nothing))) (Both l p))) = new Cast (Both (moved a l) p)
moved a s = with_attributes a s

-- ITEMS IN STATEMENTS are those of the rule `item`, with their attributes

-- the rule of an item, from the rule of its part after the attributes
abbrev pub whole_item : Rule → Rule
whole_item structure_rest = structure
whole_item enumeration_rest = enumeration
whole_item union_item_rest = union_item
whole_item function_rest = function
whole_item const_item_rest = const_item
whole_item static_item_rest = static_item
whole_item extern_crate_rest = extern_crate
whole_item use_item_rest = use_item
whole_item module_item_rest = module_item
whole_item trait_alias_rest = trait_alias
whole_item type_item_rest = type_item
whole_item macro_as_item_rest = macro_as_item
whole_item trait_definition_rest = trait_definition
whole_item impl_definition_rest = impl_definition
whole_item foreign_module_rest = foreign_module
whole_item k = k

-- attributes, and the part of an item after them
abbrev pub with_outer : Syntax → Syntax → Syntax
with_outer a (Node (Case k s)) = Node (Case (whole_item k) (Both a (Node s)))
with_outer a s = Both a s

-- an item that is stored verbatim
abbrev pub kept_whole : Syntax → Syntax
kept_whole (Node (Captured s i)) = Node (Case kept_item (Captured s i))
kept_whole s = s

-- STATEMENTS

-- an expression as a statement, with `;` (Left) or without; a macro with `;` is a macro statement, and a macro with braces always is (true)
abbrev pub sentence : Bool → Syntax → Syntax → Syntax
sentence b (Shaped (expr Macro) s) (Left m) = Shaped said_macro (Both s (Left m))
sentence true (Shaped (expr Macro) s) m = Shaped said_macro (Both s m)
sentence b e m = Shaped said (Both e m)

-- the statement of an expression with the attributes before it, from the part after the expression
abbrev pub alone : Bool → Syntax → Syntax → Syntax → Syntax
alone b a e (Mark xs) = sentence b (moved a e) (Left (Mark xs))
alone b a e (Node t) = alone b a e t
alone b a e (Left m) = sentence b (moved a e) (Left m)
alone b a e (Right (Left (Both more t))) = alone b a (onto e more) t
alone b a e (Right (Right t)) = sentence b (moved a e) (Right t)
alone b a e (Right (Node t)) = alone b a e t
alone b a e t = sentence b (moved a e) t

abbrev pub state : Syntax → Syntax → Syntax
state a (Shaped said (Both e t)) = alone false a (core e) t
state a (Shaped said_macro (Both e t)) = alone true a (core e) t
state a (Shaped a_local s) = Shaped a_local (Both a s)
state a (Shaped an_item (Both s (Left Nothing))) = Shaped an_item (with_outer a s)
state a (Shaped an_item s) = Shaped an_item (with_outer a s)
state a s = Shaped attributed (Both a s)

abbrev pub stated : Syntax → Syntax
stated (Both a s) = state a (core s)
stated s = Shaped attributed s

-- A LIST of statements is the value of `statements`: no statements, or a statement and a list.
abbrev pub no_statements : Syntax
no_statements = Node (Left Nothing)

abbrev pub listing : Syntax → Syntax → Syntax
listing s l = Shaped listed (Both s l)

-- the list of an expression with the attributes before it, from the part after the expression
abbrev pub going_on : Bool → Syntax → Syntax → Syntax → Syntax
going_on b a e (Node t) = going_on b a e t
going_on b a e (Left (Both m l)) = listing (sentence b (moved a e) (Left m)) l
going_on b a e (Right (Left (Both more t))) = going_on b a (onto e more) t
going_on b a e (Right (Right l)) = listing (sentence b (moved a e) (Right Nothing)) l
going_on b a e (Right (Left Nothing)) = listing (sentence b (moved a e) (Right Nothing)) no_statements
going_on b a e (Right (Node t)) = going_on b a e t
going_on b a e t = listing (sentence b (moved a e) t) no_statements

abbrev pub go_on : Syntax → Syntax → Syntax
go_on a (Shaped said (Both e t)) = going_on false a (core e) t
go_on a (Shaped said_macro (Both e t)) = going_on true a (core e) t
go_on a (Shaped a_local (Both s l)) = listing (Shaped a_local (Both a s)) l
go_on a (Shaped an_item (Both s l)) = listing (Shaped an_item (with_outer a s)) l
go_on a s = Shaped attributed (Both a s)

-- an item that is stored verbatim already includes its attributes
abbrev pub in_list : Syntax → Syntax
in_list (Left s) = in_list s
in_list (Right s) = in_list s
in_list (Both (Shaped an_item s) l) = listing (Shaped an_item s) l
in_list (Both a s) = go_on a (core s)
in_list s = Shaped listed s

-- `;` alone is an expression without tokens, and `;`
abbrev pub separated : Syntax → Syntax
separated (Both (Mark xs) l) = listing (Shaped said (Both (Shaped (expr Verbatim) (Captured Nothing end)) (Left (Mark xs)))) l
separated s = Shaped lone s

-- one of two alternatives, without the choice
abbrev pub untag : Syntax → Syntax
untag (Left s) = Shaped untagged s
untag (Right s) = Shaped untagged s
untag s = Shaped untagged s

-- LISTS WITH A PART AFTER THEM are such a list, and that part

-- no more members
abbrev pub no_members : Syntax
no_members = Node (Left Nothing)

-- a member, the part after it, and the part after the list
abbrev pub one_member : Shape → Syntax → Syntax → Syntax → Syntax
one_member j x n following = Shaped j (Both (Node (Right (Both x (Right n)))) following)

-- a member before a comma and further members
abbrev pub more_members : Shape → Syntax → Syntax → Syntax → Syntax
more_members j x comma (Node (Shaped k (Both l following))) = Shaped j (Both (Node (Right (Both x (Left (Both comma l))))) following)
more_members j x comma s = Shaped j (Both x (Both comma s))

-- a member, and the part after it; for the last member also the part after the list
abbrev pub member : Shape → Syntax → Syntax → Syntax → Syntax
member j alone x (Left (Both comma l)) = more_members j x comma l
member j alone x (Right n) = one_member j x n alone
member j alone x s = Shaped j (Both x s)

-- PARAMETERS of a function

-- a variadic one
abbrev pub ellipsis_of : Syntax → Syntax → Syntax → Syntax
ellipsis_of a p v = Shaped parameters (Both no_members (Left (Both a (Both p v))))

-- after a pattern and its colon
abbrev pub after_colon : Syntax → Syntax → Syntax → Syntax → Syntax
after_colon a p c (Left v) = ellipsis_of a (Left (Both p c)) v
after_colon a p c (Right (Both t e)) = member parameters (Right Nothing) (Node (Both a (Right (Both p (Both c t))))) e
after_colon a p c s = Shaped parameters (Both a (Both p (Both c s)))

-- one that is no receiver
abbrev pub typed : Syntax → Syntax → Syntax
typed a (Left v) = ellipsis_of a (Right Nothing) v
typed a (Right (Both p (Both c s))) = after_colon a p c s
typed a s = Shaped parameters (Both a s)

-- one after its attributes
abbrev pub parameter_of : Syntax → Syntax → Syntax
parameter_of a (Left (Both r e)) = member parameters (Right Nothing) (Node (Both a (Left r))) e
parameter_of a (Right (Node s)) = typed a s
parameter_of a s = Shaped parameters (Both a s)

abbrev pub parameters_of : Syntax → Syntax
parameters_of (Left n) = Shaped parameters (Both (Node (Left n)) (Right Nothing))
parameters_of (Right (Both a s)) = parameter_of a s
parameters_of s = Shaped parameters s

-- FIELDS of a struct literal, and an optional `..` with an expression
abbrev pub no_base : Syntax
no_base = Both (Right Nothing) (Right Nothing)

abbrev pub literal_fields_of : Syntax → Syntax
literal_fields_of (Left n) = Shaped based (Both (Node (Left n)) no_base)
literal_fields_of (Right (Left (Both d e))) = Shaped based (Both no_members (Both (Left d) (Left e)))
literal_fields_of (Right (Right (Both f e))) = member based no_base f e
literal_fields_of s = Shaped based s

abbrev pub shape : Shape → Syntax → Syntax
shape (operand v) s = new v s
shape bracketed s = new (variant_of s) s
shape choice s = core s
shape chain s = chained s
shape leading s = led s
shape labelled s = label s
shape attributed s = stated s
shape listed s = in_list s
shape lone s = separated s
shape untagged s = untag s
shape an_item s = Shaped an_item (kept_whole s)
shape parameters s = parameters_of s
shape based s = literal_fields_of s
shape single s = core s
shape j s = Shaped j s
