-- Written by tools/kinds.py; edits are lost.
use Rattle.std.proofs.Common.{rules}
use Rattle.syn_grammar.specs.Rules.{variants, variant}
use Rattle.syn_grammar.specs.Grammar.{rule}
use Rattle.syn_parse.specs.Form.{of}
use Rattle.syn_grammar.specs.Promises.{itself}
use Rattle.syn_tree.proofs.CommaLists.{variants_list}
use Rattle.syn_tree.proofs.comma_lists.variants.Goals as goal

pub returns-clause-reads : goal.returns-clause-reads
returns-clause-reads c = c.punctuated_list.ensures.reads variants (of (rule variant)) itself variants_list (record { says = λ old new x h. search (rules, h) })
