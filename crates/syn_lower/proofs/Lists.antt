-- The words of a path, and types, as lists.
use Rattle.syn_grammar.specs.Tokens.{Stream, at_mark, ended}
use Rattle.syn_grammar.specs.Words.{colons, comma}
use Rattle.syn_grammar.specs.Rules.{module_words, more_type_words, type, type_words, types}
use Rattle.syn_grammar.specs.Grammar.{Nothing, Both, Node, mark, rule}
use Rattle.syn_grammar.specs.Take.{Out, sees, take_mark}
use Rattle.syn_grammar.specs.Run.{wrap, and_then, branch, parse_rule, parse_form}
use Rattle.std.proofs.Common.{◌≡◌, false, Some, None, refl, sym, ap, ◌∙◌}
use Rattle.syn_grammar.proofs.Each.{module_words_is, more_type_words_is, type_words_is, types_is}
use Rattle.syn_parse.specs.Form.{by, of}
use Rattle.syn_parse.specs.Listing.{IsJoined, IsList}
use Rattle.syn_lower.specs.Paths.{segment_form}
use Rattle.syn_lower.specs.TypeForms.{word_form}

pub module_words_joined : IsJoined module_words (of segment_form) (by (at_mark colons)) (of (mark false colons))
module_words_joined = record { is = module_words_is }

-- the words after the first are read as the first ones are
pub more_words : (ts : Stream) → parse_rule more_type_words ts ≡ parse_rule type_words ts
more_words ts = more_type_words_is ts ∙ sym (type_words_is ts)

words_after : (o : Out) → and_then o (parse_rule more_type_words) ≡ and_then o (parse_rule type_words)
words_after None = refl
words_after (Some p) = ap (wrap (Both p.0)) (more_words p.1)

word_and_others : (o : Out) →
    and_then o (λ r. branch (sees (at_mark colons) r) (and_then (take_mark colons r) (parse_rule more_type_words)) (Some (Nothing, r)))
    ≡ and_then o (λ r. branch (sees (at_mark colons) r) (and_then (take_mark colons r) (parse_rule type_words)) (Some (Nothing, r)))
word_and_others None = refl
word_and_others (Some p) = ap (λ z. wrap (Both p.0) (branch (sees (at_mark colons) p.1) z (Some (Nothing, p.1)))) (words_after (take_mark colons p.1))

pub type_words_joined : IsJoined type_words (of word_form) (by (at_mark colons)) (of (mark false colons))
type_words_joined = record { is = λ ts. type_words_is ts ∙ ap (wrap Node) (word_and_others (parse_form word_form ts)) }

pub types_list : IsList types (of (rule type)) (by ended) (by (at_mark comma)) (of (mark false comma))
types_list = record { is = types_is }
