use Rattle.std.proofs.Common.{rules}
use Rattle.syn_grammar.specs.Rules.{named_fields, named_field}
use Rattle.syn_grammar.specs.Grammar.{rule}
use Rattle.syn_grammar.specs.Promises.{itself}
use Rattle.syn_parse.specs.Form.{of}
use Rattle.syn_tree.proofs.Fields.{named_fields_list}
use Rattle.syn_tree.proofs.data.parsing.named_fields.Goals as goal

pub returns-clause-reads : goal.returns-clause-reads
returns-clause-reads g c = c.punctuated_list.ensures.reads named_fields (of (rule named_field)) itself named_fields_list (record { says = λ old new x h. search (rules, h) })
