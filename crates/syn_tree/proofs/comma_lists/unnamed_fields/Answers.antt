-- Written by tools/kinds.py; edits are lost.
use Rattle.std.proofs.Common.{rules}
use Rattle.syn_grammar.specs.Rules.{unnamed_fields, unnamed_field}
use Rattle.syn_grammar.specs.Grammar.{rule}
use Rattle.syn_parse.specs.Form.{of}
use Rattle.syn_grammar.specs.Promises.{itself}
use Rattle.syn_tree.proofs.CommaLists.{unnamed_fields_list}
use Rattle.syn_tree.proofs.comma_lists.unnamed_fields.Goals as goal

pub returns-clause-reads : goal.returns-clause-reads
returns-clause-reads c = c.punctuated_list.ensures.reads unnamed_fields (of (rule unnamed_field)) itself unnamed_fields_list (record { says = λ old new x h. search (rules, h) })
