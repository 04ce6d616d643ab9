-- WHAT FORMS AS DATA DENOTE.
use Rattle.std.specs.Prelude.{true, false, [], ◌∷◌}
use Rattle.syn_grammar.specs.Words.{w_self, w_Self_type, w_super, w_crate, w_try, w_underscore}
use Rattle.syn_grammar.specs.Rules.{whole_expression}
use Rattle.syn_grammar.specs.Grammar as grammar
use Rattle.syn_recognize.specs.Ordered.{first_form, other_form, generics_form}
use Rattle.syn_recognize.specs.Fading.{fading_form}
use Rattle.syn_recognize.specs.Stages.{planned_form}
use Rattle.syn_recognize.specs.Supplied.{supplied_form}
use Rattle.syn_grammar.specs.Tokens.{Str}
use Rattle.syn_grammar.specs.Grammar.{Kind, Grammar, empty, token, mark, lifetime, ◌&◌, when◌then◌else◌, inside, raw, rest_after, either, one_of, rule, such, trailing_brace, no_trailing_brace, shaped, unshown, ordered, vanishing, captured}
use Rattle.syn_tokens.specs.Delimiters.{delimiter_of}
use Rattle.syn_recognize.specs.Parts.{part_form}
use Rattle.syn_recognize.specs.Names.{look_of, mark_text, word_text, rule_of, shape_of}
use Rattle.syn_recognize.specs.declared.token.Token.{Token}
use Rattle.syn_recognize.specs.declared.token.Token.TheVariants as Token-m
use Rattle.syn_recognize.specs.declared.form.Form.{Form}
use Rattle.syn_recognize.specs.declared.form.Form.TheVariants as Form-m

abbrev pub kind_of : Token → Kind
kind_of Token-m.Name = grammar.name
kind_of Token-m.PathWord = grammar.name_or (w_self ∷ w_Self_type ∷ w_super ∷ w_crate ∷ [])
kind_of Token-m.NameOrSelfType = grammar.name_or (w_Self_type ∷ [])
kind_of Token-m.UseWord = grammar.name_or (w_self ∷ w_super ∷ w_crate ∷ w_try ∷ [])
kind_of Token-m.NameOrUnderscore = grammar.name_or (w_underscore ∷ [])
kind_of Token-m.NameOrSelf = grammar.name_or (w_self ∷ [])
kind_of Token-m.NameOrTry = grammar.name_or (w_try ∷ [])
kind_of Token-m.Str = grammar.literal_of (Str ∷ [])
kind_of Token-m.NameOrPathStart = grammar.name_or (w_self ∷ w_super ∷ w_crate ∷ [])
kind_of (Token-m.Word w) = grammar.word (word_text w)
kind_of Token-m.Literal = grammar.any_literal
kind_of Token-m.Index = grammar.index

abbrev pub grammar_of : Form → Grammar
grammar_of Form-m.Empty = empty
grammar_of (Form-m.Never e) = one_of []
grammar_of (Form-m.Token t) = token [] (kind_of t)
grammar_of (Form-m.TokenAt t p) = token [] (kind_of t)
grammar_of (Form-m.Mark m) = mark false (mark_text m)
grammar_of (Form-m.MarkAt m p) = mark false (mark_text m)
grammar_of (Form-m.MarkElse m e) = mark false (mark_text m)
grammar_of Form-m.Lifetime = lifetime
grammar_of (Form-m.Then' p f q g) = grammar_of f & grammar_of g
grammar_of (Form-m.When' c p f q g) = when (look_of c) then (grammar_of f) else (grammar_of g)
grammar_of (Form-m.Inside' d p f) = inside (delimiter_of d) (grammar_of f)
grammar_of (Form-m.Raw d) = raw (delimiter_of d)
grammar_of (Form-m.RestAfter m) = rest_after (mark_text m)
grammar_of (Form-m.Rule k) = rule (rule_of k)
grammar_of (Form-m.Part p) = part_form p
grammar_of (Form-m.Shaped' j p f) = shaped (shape_of j) (grammar_of f)
grammar_of Form-m.Unshown = unshown
grammar_of (Form-m.Ordered k) = ordered (first_form k) (other_form k)
grammar_of Form-m.Generics = generics_form
grammar_of (Form-m.Fading k) = fading_form k
grammar_of (Form-m.Hidden' c p f) = vanishing true (look_of c.now) (grammar_of f)
grammar_of (Form-m.Captured' p f) = captured (grammar_of f)
grammar_of (Form-m.Planned k) = planned_form k
grammar_of (Form-m.Only k) = one_of (rule_of k ∷ [])
grammar_of (Form-m.Supplied k) = supplied_form k
grammar_of (Form-m.ByBraces' p f q g) = either (such trailing_brace (rule whole_expression) & grammar_of f) (such no_trailing_brace (rule whole_expression) & grammar_of g)
