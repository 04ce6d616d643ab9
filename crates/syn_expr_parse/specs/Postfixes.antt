-- WHAT CONTINUES AN EXPRESSION: links, from the left to the right.
use Rattle.std.specs.Prelude.{List, [], ◌∷◌, Some, None}
use Rattle.syn_grammar.specs.Words.{colons, dot, question}
use Rattle.syn_grammar.specs.Tokens.{pick, Paren, Bracket, Look}
use Rattle.syn_grammar.specs.Shape.{Shape, Call, Index, Try, after_it, dotted}
use Rattle.syn_grammar.specs.Rules.{Rule, expressions, generic_arguments, member, whole_expression}
use Rattle.syn_grammar.specs.Grammar.{Syntax, Both, Right, Node, Grammar, name, empty, ◌&◌, when◌then◌else◌, inside, rule, shaped}
use Rattle.syn_grammar.specs.Forms.{plainly, punctuation}
use Rattle.syn_grammar.specs.Table.{at_bracket, at_colons, at_dot, at_paren, at_question}
use Rattle.syn_grammar.specs.Take.{Out, Parser, sees}
use Rattle.syn_grammar.specs.Values.{onto, shape}
use Rattle.syn_grammar.specs.Run.{parse_form, wrap}

abbrev pub arguments_form : Grammar
arguments_form = inside Paren (rule expressions)

abbrev pub index_form : Grammar
index_form = inside Bracket (rule whole_expression)

abbrev pub member_form : Grammar
member_form = punctuation dot & rule member

-- a link: where it is next, how the value is built, and its form
abbrev pub Link : Type 0
Link = Look × (Shape × Grammar)

abbrev pub postfix_links : List Link
postfix_links =
    (at_paren, (after_it Call, arguments_form)) ∷ (at_bracket, (after_it Index, index_form)) ∷ (at_question, (after_it Try, punctuation question))
    ∷ (at_dot, (dotted, member_form)) ∷ []

-- the form of links and what a rule reads after them
abbrev pub links_form : List Link → Rule → Grammar
links_form [] more = empty
links_form (l ∷ ls) more = when l.0 then shaped l.1.0 l.1.1 & rule more else links_form ls more

-- an expression followed by a link
abbrev pub linked : Shape → Syntax → Out → Out
linked j a o = wrap (λ s. onto a (shape j s)) o

-- an expression, and what continues it
abbrev pub then_more : Out → Parser → Out
then_more (Some p) more = wrap (onto p.0) (more p.1)
then_more None more = None

-- by the next token
abbrev pub follow : List Link → Syntax → Parser → Parser
follow [] a more ts = Some (a, ts)
follow (l ∷ ls) a more ts = pick (sees l.0 ts) (then_more (linked l.1.0 a (parse_form l.1.1 ts)) more) (follow ls a more ts)

-- MEMBERS

-- the name of a field, or of a method with its arguments
abbrev pub generic_call_form : Grammar
generic_call_form = punctuation colons & rule generic_arguments & arguments_form

abbrev pub after_name_form : Grammar
after_name_form = when at_colons then generic_call_form else when at_paren then arguments_form else empty

abbrev pub named_form : Grammar
named_form = plainly name & after_name_form

-- after a base and `.`
abbrev pub after_dot : Syntax → Syntax → Out → Out
after_dot base dot_token o = linked dotted base (wrap (Both dot_token) (wrap Node o))

-- after a name
abbrev pub after_name : Syntax → Syntax → Syntax → Out → Out
after_name base dot_token word o = after_dot base dot_token (wrap Right (wrap (Both word) o))
