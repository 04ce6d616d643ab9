use Rattle.std.proofs.Common.{rules}
use Rattle.syn_grammar.specs.Rules.{type_words}
use Rattle.syn_grammar.specs.Promises.{itself}
use Rattle.syn_parse.specs.Form.{of}
use Rattle.syn_lower.specs.TypeForms.{word_form}
use Rattle.syn_lower.proofs.Lists.{type_words_joined}
use Rattle.syn_lower.proofs.parsing.path.words.Goals as goal

pub returns-clause-reads : goal.returns-clause-reads
returns-clause-reads g c = c.joined_list.ensures.reads type_words (of word_form) itself type_words_joined (record { says = λ old new x h. search (rules, h) })
