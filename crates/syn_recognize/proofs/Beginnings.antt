-- What types, their arguments, attributes, expressions and statements begin with.
use Rattle.std.proofs.Common.{◌≡◌, ℕ, false, [], ◌∷◌, refl, sym, subst}
use Rattle.syn_grammar.specs.Tokens.{Paren}
use Rattle.syn_grammar.specs.Rules.{after_block, after_expression, expression_words, macro_invocation, member, postfixes, statement_rest, whole_expression, generic_argument, generic_arguments, meta, meta_value, module_path, module_words, path_as_type, type, type_arguments, type_path, type_words, types}
use Rattle.syn_grammar.specs.Grammar.{Grammar, empty, ◌&◌, when◌then◌else◌, inside, mark, name, name_or, rule, shaped, token}
use Rattle.syn_grammar.specs.Shape.{untagged}
use Rattle.syn_grammar.specs.Table.{table, at_association, at_brace_macro, at_turbofish}
use Rattle.syn_grammar.specs.Run.{parse_form}
use Rattle.syn_grammar.specs.Words.{equals, w_Self_type}
use Rattle.syn_parse.specs.declared.buffer.first.First.{First}
use Rattle.syn_parse.specs.declared.buffer.first.First.TheVariants as F
use Rattle.syn_tokens.specs.declared.delimiter.Delimiter.{Delimiter}
use Rattle.syn_tokens.specs.declared.delimiter.Delimiter.TheVariants as D
use Rattle.syn_recognize.specs.Opens.{Opens}
use Rattle.syn_recognize.specs.Within.{second}
use Rattle.syn_recognize.proofs.Opened.{opens_as_pruned, opens_pruned, opens_so_far, opens_through, words_form}

-- TYPES

pub type_by_keyword : (f : First) (g : Grammar) → f ≡ F.Keyword → parse_form g ≡ parse_form (table type_words) → Opens f g type
type_by_keyword f g e h = subst (λ z. Opens z g type) (sym e) (opens_through (type ∷ path_as_type ∷ type_path ∷ []) F.Keyword g type_words type refl h)

pub colon_type : (c : ℕ) (g : Grammar) → c ≡ 58 → parse_form g ≡ parse_form (table type_path) → Opens (F.Mark c) g type
colon_type c g e h = subst (λ z. Opens (F.Mark z) g type) (sym e) (opens_through (type ∷ path_as_type ∷ []) (F.Mark 58) g type_path type refl h)

pub less_type : (c : ℕ) (g : Grammar) → c ≡ 60 → parse_form g ≡ parse_form (table path_as_type) → Opens (F.Mark c) g type
less_type c g e h = subst (λ z. Opens (F.Mark z) g type) (sym e) (opens_through (type ∷ []) (F.Mark 60) g path_as_type type refl h)

abbrev pub tuple_form : Grammar
tuple_form = inside Paren (rule types)

pub tuple_opens : (d : Delimiter) → d ≡ D.Paren → Opens (F.Group d) tuple_form type
tuple_opens d e = subst (λ z. Opens (F.Group z) tuple_form type) (sym e) (opens_pruned (type ∷ []) (F.Group D.Paren) tuple_form type refl)

pub path_by_keyword : (f : First) (g : Grammar) → f ≡ F.Keyword → parse_form g ≡ parse_form (table type_words) → Opens f g type_path
path_by_keyword f g e h = subst (λ z. Opens z g type_path) (sym e) (opens_through (type_path ∷ []) F.Keyword g type_words type_path refl h)

pub path_opens : (f : First) → f ≡ F.Name → Opens f words_form type_path
path_opens f e = subst (λ z. Opens z words_form type_path) (sym e) (opens_as_pruned (type_path ∷ type_words ∷ []) F.Name words_form type_path refl)

-- ARGUMENTS

pub less_arguments : (c : ℕ) (g : Grammar) → c ≡ 60 → parse_form g ≡ parse_form (table generic_arguments) → Opens (F.Mark c) g type_arguments
less_arguments c g e h = subst (λ z. Opens (F.Mark z) g type_arguments) (sym e) (opens_through (type_arguments ∷ []) (F.Mark 60) g generic_arguments type_arguments refl h)

abbrev pub argument_form : Grammar
argument_form = when at_association then (token [] name & mark false equals & rule type) else rule type

pub argument_opens : (f : First) → f ≡ F.Name → Opens f argument_form generic_argument
argument_opens f e = subst (λ z. Opens z argument_form generic_argument) (sym e) (opens_as_pruned (generic_argument ∷ []) F.Name argument_form generic_argument refl)

-- ATTRIBUTES

abbrev pub meta_form : Grammar
meta_form = rule module_words & rule meta_value

pub meta_opens : (f : First) → f ≡ F.Name → Opens f meta_form meta
meta_opens f e = subst (λ z. Opens z meta_form meta) (sym e) (opens_as_pruned (meta ∷ module_path ∷ []) F.Name meta_form meta refl)

pub module_path_by_name : (f : First) (g : Grammar) → f ≡ F.Name → parse_form g ≡ parse_form (table module_words) → Opens f g module_path
module_path_by_name f g e h = subst (λ z. Opens z g module_path) (sym e) (opens_through (module_path ∷ []) F.Name g module_words module_path refl h)

pub module_path_by_keyword : (f : First) (g : Grammar) → f ≡ F.Keyword → parse_form g ≡ parse_form (table module_words) → Opens f g module_path
module_path_by_keyword f g e h = subst (λ z. Opens z g module_path) (sym e) (opens_through (module_path ∷ []) F.Keyword g module_words module_path refl h)

-- EXPRESSIONS

pub dot_postfix : (c : ℕ) (g : Grammar) → c ≡ 46 → parse_form g ≡ parse_form (second (second (second (table postfixes)))) → Opens (F.Mark c) g postfixes
dot_postfix c g e h = subst (λ z. Opens (F.Mark z) g postfixes) (sym e) (opens_so_far (postfixes ∷ []) 4 (F.Mark 46) g postfixes h)

pub member_by_name : (f : First) (g : Grammar) → f ≡ F.Name → parse_form g ≡ parse_form (second (table member)) → Opens f g member
member_by_name f g e h = subst (λ z. Opens z g member) (sym e) (opens_as_pruned (member ∷ []) F.Name g member h)

abbrev pub expression_words_form : Grammar
expression_words_form = (token [] (name_or (w_Self_type ∷ [])) & shaped untagged (when at_turbofish then (rule type_arguments) else empty)) & second (table expression_words)

pub expression_words_open : (f : First) → f ≡ F.Name → Opens f expression_words_form expression_words
expression_words_open f e = subst (λ z. Opens z expression_words_form expression_words) (sym e) (opens_as_pruned (expression_words ∷ []) F.Name expression_words_form expression_words refl)

-- STATEMENTS

abbrev pub statement_form : Grammar
statement_form = when at_brace_macro then (rule macro_invocation & rule after_block) else (rule whole_expression & rule after_expression)

pub statement_opens : (f : First) → f ≡ F.Name → Opens f statement_form statement_rest
statement_opens f e = subst (λ z. Opens z statement_form statement_rest) (sym e) (opens_as_pruned (statement_rest ∷ []) F.Name statement_form statement_rest refl)
