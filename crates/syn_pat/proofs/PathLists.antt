-- The words of a path in an expression, and patterns, as lists.
use Rattle.std.proofs.Common.{false}
use Rattle.syn_grammar.specs.Tokens.{at_mark, ended}
use Rattle.syn_grammar.specs.Words.{colons, comma}
use Rattle.syn_grammar.specs.Rules.{expression_words, pattern, patterns}
use Rattle.syn_grammar.specs.Grammar.{mark, rule}
use Rattle.syn_grammar.proofs.Each.{expression_words_is, patterns_is}
use Rattle.syn_parse.specs.Form.{by, of}
use Rattle.syn_parse.specs.Listing.{IsJoined, IsList}
use Rattle.syn_pat.specs.PathForms.{word_form}

pub expression_words_joined : IsJoined expression_words (of word_form) (by (at_mark colons)) (of (mark false colons))
expression_words_joined = record { is = expression_words_is }

pub patterns_list : IsList patterns (of (rule pattern)) (by ended) (by (at_mark comma)) (of (mark false comma))
patterns_list = record { is = patterns_is }
