-- THE FORMS THAT THE PARSERS OF TYPES AND PATHS READ, each a part of its rule's form.
use Rattle.std.specs.Prelude.{[], ◌∷◌, true, false}
use Rattle.syn_grammar.specs.Words.{w_as, w_const, w_crate, w_mut, w_Self_type, w_self, w_super, ampersand, colons, equals, greater, semicolon, star}
use Rattle.syn_grammar.specs.Tokens.{Paren, Bracket, Before_equals, at_lifetime, at_word}
use Rattle.syn_grammar.specs.Rules.{generic_argument, generic_arguments, return_type, type, types, type_arguments, type_path, type_words, whole_expression}
use Rattle.syn_grammar.specs.Shape.{untagged}
use Rattle.syn_grammar.specs.Grammar.{Grammar, Syntax, Both, Left, Right, Node, empty, name, name_or, word, lifetime, ◌&◌, when◌then◌else◌, inside, either, rule, shaped}
use Rattle.syn_grammar.specs.Forms.{plainly, telling, asking, punctuation, asking_punctuation, optional}
use Rattle.syn_grammar.specs.Table.{at_arguments, at_colons, at_named_word, at_semicolon, no_arguments}
use Rattle.syn_grammar.specs.Take.{Out}
use Rattle.syn_grammar.specs.Run.{wrap}

-- TYPES

abbrev pub reference_form : Grammar
reference_form = punctuation ampersand & (when at_lifetime then lifetime else empty) & optional w_mut & rule type

abbrev pub pointer_words_form : Grammar
pointer_words_form = when at_word w_const then plainly (word w_const) else plainly (word w_mut)

abbrev pub pointer_form : Grammar
pointer_form = punctuation star & pointer_words_form & rule type

abbrev pub brackets_form : Grammar
brackets_form = inside Bracket (rule type & (when at_semicolon then punctuation semicolon & rule whole_expression else empty))

-- as alternatives of a type
abbrev pub of_parentheses : Syntax → Syntax
of_parentheses s = Node (Right (Right (Left s)))

abbrev pub in_parentheses : Out → Out
in_parentheses o = wrap Node (wrap Right (wrap Right (wrap Left o)))

abbrev pub in_brackets : Out → Out
in_brackets o = wrap Node (wrap Right (wrap Right (wrap Right (wrap Left o))))

-- PATHS

-- the arguments of a word, where they are next
abbrev pub arguments_form : Grammar
arguments_form = shaped untagged (when at_arguments then rule type_arguments else empty)

-- a word that may have arguments
abbrev pub named_word_form : Grammar
named_word_form = asking (name_or (w_Self_type ∷ [])) & arguments_form

abbrev pub other_word_form : Grammar
other_word_form = asking (name_or (w_self ∷ w_super ∷ w_crate ∷ [])) & no_arguments

abbrev pub word_form : Grammar
word_form = shaped untagged (when at_named_word then named_word_form else other_word_form)

abbrev pub parenthesized_form : Grammar
parenthesized_form = inside Paren (rule types) & rule return_type

abbrev pub angle_bracketed_form : Grammar
angle_bracketed_form = (when at_colons then asking_punctuation colons else empty) & rule generic_arguments

-- a member of generic arguments
abbrev pub argument_form : Grammar
argument_form = either lifetime (rule generic_argument)

abbrev pub association_form : Grammar
association_form = telling Before_equals name & punctuation equals & rule type

-- what follows the type of a qualified path: `as` and a path; and `>`, `::` and words
abbrev pub trait_form : Grammar
trait_form = plainly (word w_as) & rule type_path

abbrev pub after_trait_form : Grammar
after_trait_form = punctuation greater & punctuation colons & rule type_words

-- the result of a qualified path, by that of what follows its type
abbrev pub of_qualified : Syntax → Syntax → Out → Out
of_qualified lt ty o = wrap Node (wrap Left (wrap Node (wrap (Both lt) (wrap (Both ty) o))))
