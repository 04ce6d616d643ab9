use Rattle.std.proofs.Common.{rules}
use Rattle.syn_grammar.specs.Rules.{expression_words}
use Rattle.syn_grammar.specs.Promises.{itself}
use Rattle.syn_parse.specs.Form.{of}
use Rattle.syn_pat.specs.PathForms.{word_form}
use Rattle.syn_pat.proofs.PathLists.{expression_words_joined}
use Rattle.syn_pat.proofs.parsing.path.expression_words.Goals as goal

pub returns-clause-reads : goal.returns-clause-reads
returns-clause-reads c = c.joined_list.ensures.reads expression_words (of word_form) itself expression_words_joined (record { says = λ old new x h. search (rules, h) })
