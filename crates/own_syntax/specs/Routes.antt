-- THE SYNTAX OF ROUTES: `route GET "/users" ~> users::list [page: u8, size: u8] if admin`, with `;` between them.
use Rattle.std.specs.Prelude.{Bool, false, [], ◌∷◌, codes}
use Rattle.syn_grammar.specs.Words.{Text, w_if, colon, comma, semicolon}
use Rattle.syn_grammar.specs.Tokens.{Bracket, literal, begins_text, at_word}
use Rattle.syn_grammar.specs.Rules.{type_path, type}
use Rattle.syn_grammar.specs.Grammar.{token, name, word, any_literal, rule, Syntax, Token}
use Rattle.syn_parse.specs.Form.{Condition, by, Form, of, keyword, punctuation, ◌followed_by◌, in_group, list, optional, such_that}

-- the text of a path begins with `/` after its quote
abbrev pub is_path_text : Text → Bool
is_path_text x = begins_text (codes "\"/") x

abbrev pub is_path : Syntax → Bool
is_path (Token (literal k x) sp) = is_path_text x
is_path _ = false

-- a literal whose text is a path
abbrev pub path_form : Form
path_form = such_that is_path (of (token [] any_literal))

-- `name: Type`
abbrev pub parameter_form : Form
parameter_form = of (token [] name) followed_by punctuation colon followed_by of (rule type)

-- in brackets, parameters with commas between them
abbrev pub parameters_form : Form
parameters_form = in_group Bracket (list parameter_form (punctuation comma))

-- `if name`
abbrev pub guard_form : Form
guard_form = of (token [] (word w_if)) followed_by of (token [] name)

abbrev pub at_guard : Condition
at_guard = by (at_word w_if)

abbrev pub route_form : Form
route_form =
    keyword (codes "route") followed_by of (token [] name) followed_by path_form followed_by punctuation (codes "~>") followed_by of (rule type_path)
    followed_by parameters_form followed_by optional at_guard guard_form
