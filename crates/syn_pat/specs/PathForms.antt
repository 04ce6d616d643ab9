-- THE FORMS THAT THE PARSERS OF PATHS, MACROS AND PATTERNS READ, each a part of its rule's form.
use Rattle.std.specs.Prelude.{List, [], ◌∷◌, Option}
use Rattle.syn_grammar.specs.Words.{w_mut, w_ref, w_underscore, w_Self_type, colon, colons, exclamation, greater}
use Rattle.syn_grammar.specs.Tokens.{Paren, Bracket, Brace}
use Rattle.syn_grammar.specs.Rules.{expression_words, path_as_expression, pattern, patterns, type, type_arguments}
use Rattle.syn_grammar.specs.Shape.{untagged}
use Rattle.syn_grammar.specs.Grammar.{Grammar, Syntax, Both, Left, Right, Node, empty, name, name_or, word, ◌&◌, when◌then◌else◌, inside, raw, rule, shaped}
use Rattle.syn_grammar.specs.Forms.{plainly, asking, punctuation, asking_punctuation, never, optional}
use Rattle.syn_grammar.specs.Table.{at_bang, at_bracket, at_colon, at_colons, at_named_word, at_paren, at_turbofish}
use Rattle.syn_grammar.specs.Take.{Out}
use Rattle.syn_grammar.specs.Run.{wrap}
use Rattle.syn_grammar.specs.Promises.{itself}
use Rattle.syn_tokens.specs.Kinds.{PathSep, path_sep_syntax}
use Rattle.syn_tokens.specs.Leaves.{maybe}
use Rattle.syn_tokens.specs.Listing.{joined_of}
use Rattle.syn_lower.specs.TypeForms.{other_word_form}

-- PATHS

-- the arguments of a word, where `::` and `<` are next
abbrev pub turbofish_form : Grammar
turbofish_form = shaped untagged (when at_turbofish then rule type_arguments else empty)

-- a word that may have arguments
abbrev pub named_word_form : Grammar
named_word_form = asking (name_or (w_Self_type ∷ [])) & turbofish_form

abbrev pub word_form : Grammar
word_form = shaped untagged (when at_named_word then named_word_form else other_word_form)

-- what follows the type of a qualified path, and its trait: `>`, `::` and words
abbrev pub after_trait_form : Grammar
after_trait_form = punctuation greater & punctuation colons & rule expression_words

-- a path, of its `::` and its words
abbrev pub path_syntax : Option PathSep → List (Syntax × PathSep) → Option Syntax → Syntax
path_syntax leading words last = Node (Both (maybe path_sep_syntax leading) (joined_of itself path_sep_syntax words last))

-- MACROS

abbrev pub bang_form : Grammar
bang_form = when at_bang then asking_punctuation exclamation else never

abbrev pub any_group_form : Grammar
any_group_form = when at_paren then raw Paren else when at_bracket then raw Bracket else raw Brace

-- PATTERNS

abbrev pub wild_form : Grammar
wild_form = plainly (word w_underscore)

-- a path, and patterns in parentheses after it or none
abbrev pub path_pattern_form : Grammar
path_pattern_form = rule path_as_expression & (when at_paren then inside Paren (rule patterns) else empty)

-- a name after `ref` or `mut` or both
abbrev pub binding_form : Grammar
binding_form = optional w_ref & optional w_mut & plainly name

-- a name without `::` after it
abbrev pub name_form : Grammar
name_form = asking name & (when at_colons then never else empty)

-- a colon and a type
abbrev pub type_form : Grammar
type_form = punctuation colon & rule type

-- a pattern with a type after a colon, or without one
abbrev pub typed_form : Grammar
typed_form = rule pattern & (when at_colon then type_form else empty)

-- such a pattern, by what is read after it
abbrev pub as_typed : Syntax → Out → Out
as_typed s o = wrap (Both s) (wrap Left o)

-- as alternatives of a pattern
abbrev pub as_parentheses : Out → Out
as_parentheses o = wrap Node (wrap Right (wrap Left o))

abbrev pub as_path : Out → Out
as_path o = wrap Node (wrap Right (wrap Right (wrap Left o)))

abbrev pub as_name : Out → Out
as_name o = wrap Node (wrap Right (wrap Right (wrap Right o)))
