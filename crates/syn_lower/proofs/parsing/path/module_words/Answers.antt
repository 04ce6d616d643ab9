use Rattle.std.proofs.Common.{rules}
use Rattle.syn_grammar.specs.Rules.{module_words}
use Rattle.syn_grammar.specs.Promises.{itself}
use Rattle.syn_parse.specs.Form.{of}
use Rattle.syn_lower.specs.Paths.{segment_form}
use Rattle.syn_lower.proofs.Lists.{module_words_joined}
use Rattle.syn_lower.proofs.parsing.path.module_words.Goals as goal

pub returns-clause-reads : goal.returns-clause-reads
returns-clause-reads c = c.joined_list.ensures.reads module_words (of segment_form) itself module_words_joined (record { says = λ old new x h. search (rules, h) })
