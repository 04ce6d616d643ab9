-- THE SYNTAX OF ATTRIBUTES, one level at a time, every field.
use Rattle.std.specs.Prelude.{Bool, true, false, List, [], ◌∷◌}
use Rattle.syn_grammar.specs.Tokens.{Stream, end, ◌⧺◌, Paren, Brace, Bracket, and, no, pick, at_word}
use Rattle.syn_grammar.specs.Words.{w_unsafe, pound, exclamation}
use Rattle.syn_grammar.specs.Rules.{meta, module_path, unsafe_path}
use Rattle.syn_grammar.specs.Shape.{untagged}
use Rattle.syn_grammar.specs.Grammar.{Grammar, ◌&◌, when◌then◌else◌, inside, rule, shaped, print, Syntax, Nothing, Both, Left, Right, Node, Group, Raw, Rest, Shaped, Unshown}
use Rattle.syn_grammar.specs.Forms.{punctuation, asking_punctuation}
use Rattle.syn_grammar.specs.Run.{marks_of}
use Rattle.syn_tokens.specs.InOrder.{in_order}
use Rattle.syn_tokens.specs.Kinds.{eq_syntax, not_syntax, pound_syntax}
use Rattle.syn_tokens.specs.Spans.{at}
use Rattle.syn_lower.specs.Parts.{group_syntax, second}
use Rattle.syn_lower.specs.declared.attr.MacroDelimiter.TheVariants as MacroDelimiter-m
use Rattle.syn_lower.specs.declared.attr.MetaList.{MetaList}
use Rattle.syn_lower.specs.declared.attr.MetaNameValue.{MetaNameValue}
use Rattle.syn_lower.specs.declared.attr.Meta.TheVariants as Meta-m
use Rattle.syn_lower.specs.declared.attr.AttrStyle.TheVariants as AttrStyle-m
use Rattle.syn_lower.specs.declared.attr.Attribute.{Attribute}

-- THE META OF AN ATTRIBUTE: a path and its value

abbrev pub meta_of : Syntax → Syntax → Syntax
meta_of path value = Node (Both (Shaped untagged path) (Node value))

-- no value
abbrev pub no_value : Syntax
no_value = Right (Right (Right (Right Nothing)))

-- delimiters, around nothing
abbrev pub syntax_of_MacroDelimiter : MacroDelimiter-m.the_data → Syntax
syntax_of_MacroDelimiter (MacroDelimiter-m.Paren d) = Left (Raw Paren (at d.opening) (at d.closing) end)
syntax_of_MacroDelimiter (MacroDelimiter-m.Brace d) = Right (Left (Raw Brace (at d.opening) (at d.closing) end))
syntax_of_MacroDelimiter (MacroDelimiter-m.Bracket d) = Right (Right (Left (Raw Bracket (at d.opening) (at d.closing) end)))

-- delimiters, around these tokens
abbrev pub filled : Stream → Syntax → Syntax
filled tokens (Left s) = Left (filled tokens s)
filled tokens (Right s) = Right (filled tokens s)
filled tokens (Raw d o c i) = Raw d o c tokens
filled tokens s = s

abbrev pub syntax_of_MetaList : MetaList → Syntax
syntax_of_MetaList m = meta_of m.path (filled m.tokens (syntax_of_MacroDelimiter m.delimiter))

-- `=`, and all that is left
abbrev pub after_equals : Syntax → Stream → Syntax
after_equals sign tokens = Right (Right (Right (Left (Rest (marks_of sign) tokens))))

abbrev pub syntax_of_MetaNameValue : MetaNameValue → Syntax
syntax_of_MetaNameValue m = meta_of m.path (after_equals (eq_syntax m.eq_token) m.value)

abbrev pub syntax_of_Meta : Meta-m.the_data → Syntax
syntax_of_Meta (Meta-m.Path p) = meta_of p no_value
syntax_of_Meta (Meta-m.List m) = syntax_of_MetaList m
syntax_of_Meta (Meta-m.NameValue m) = syntax_of_MetaNameValue m

-- AN ATTRIBUTE

abbrev pub syntax_of_AttrStyle : AttrStyle-m.the_data → Syntax
syntax_of_AttrStyle AttrStyle-m.Outer = Right Nothing
syntax_of_AttrStyle (AttrStyle-m.Inner bang) = Left (not_syntax bang)

-- what follows `#`: of an inner attribute `!`, and of each a group in brackets
abbrev pub after_pound : Syntax → Syntax → Syntax
after_pound (Left bang) brackets = Both bang brackets
after_pound _ brackets = brackets

abbrev pub syntax_of_Attribute : Attribute → Syntax
syntax_of_Attribute a = Both (pound_syntax a.pound_token) (after_pound (syntax_of_AttrStyle a.style) (group_syntax Bracket a.bracket_token (syntax_of_Meta a.meta)))

-- ATTRIBUTES IN ORDER: those that are printed there; and, if others are among them, all once more, unshown

abbrev pub is_group : Syntax → Bool
is_group (Group d o c s) = true
is_group _ = false

-- the group of an outer attribute follows its `#`
abbrev pub is_outer : Syntax → Bool
is_outer a = is_group (second a)

abbrev pub is_inner : Syntax → Bool
is_inner a = no (is_outer a)

-- of attributes in order, those for which the test holds
module _ (test : Syntax → Bool) where
  abbrev pub every : Syntax → Bool
  every (Both a l) = and (test a) (every l)
  every _ = true

  abbrev pub shown_before : Syntax → Syntax → Syntax
  shown_before unshown (Both a l) = pick (test a) (Node (Left (Both a (shown_before unshown l)))) (shown_before unshown l)
  shown_before unshown _ = Node (Right (Unshown unshown))

  abbrev pub listed : Syntax → Syntax
  listed l = shown_before (pick (every l) Nothing l) l

abbrev pub every_outer : Syntax → Bool
every_outer = every is_outer

abbrev pub outer_before : Syntax → Syntax → Syntax
outer_before = shown_before is_outer

-- of attributes in order
unfoldable pub outer_listed : Syntax → Syntax
outer_listed = listed is_outer

unfoldable pub inner_listed : Syntax → Syntax
inner_listed = listed is_inner

-- of a vector's items
abbrev pub attributes_syntax : List Attribute → Syntax
attributes_syntax l = outer_listed (in_order syntax_of_Attribute l)

abbrev pub inner_attributes_syntax : List Attribute → Syntax
inner_attributes_syntax l = inner_listed (in_order syntax_of_Attribute l)

-- attributes in order, where all are printed
abbrev pub all_listed : Syntax → Syntax
all_listed (Both a l) = Node (Left (Both a (all_listed l)))
all_listed _ = Node (Right (Unshown Nothing))

abbrev pub all_attributes_syntax : List Attribute → Syntax
all_attributes_syntax l = all_listed (in_order syntax_of_Attribute l)

-- no attributes
abbrev pub none_listed : Syntax
none_listed = Node (Right (Unshown Nothing))

-- what is printed of an attribute, and of some in order, where outer ones are printed
abbrev pub outer_part : Attribute → Stream
outer_part a = pick (is_outer (syntax_of_Attribute a)) (print (syntax_of_Attribute a)) end

abbrev pub outer_row : List Attribute → Stream
outer_row [] = end
outer_row (a ∷ l) = outer_part a ⧺ outer_row l

-- what is printed of attributes in order, where all are
abbrev pub all_row : List Attribute → Stream
all_row [] = end
all_row (a ∷ l) = print (syntax_of_Attribute a) ⧺ all_row l

-- AS THEY ARE READ

abbrev pub outer_form : Grammar
outer_form = punctuation pound & inside Bracket (rule meta)

abbrev pub inner_form : Grammar
inner_form = asking_punctuation pound & punctuation exclamation & inside Bracket (rule meta)

abbrev pub meta_path_form : Grammar
meta_path_form = shaped untagged (when at_word w_unsafe then rule unsafe_path else rule module_path)
