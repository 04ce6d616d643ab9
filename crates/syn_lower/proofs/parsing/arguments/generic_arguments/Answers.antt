use Rattle.std.proofs.Common.{rules}
use Rattle.syn_grammar.specs.Rules.{generic_argument}
use Rattle.syn_grammar.specs.Grammar.{lifetime, rule}
use Rattle.syn_parse.specs.Form.{of}
use Rattle.syn_parse.proofs.RowsOf.{row_of}
use Rattle.syn_lower.specs.Paths.{is_lifetime, syntax_of_GenericArgument}
use Rattle.syn_lower.specs.TypeForms.{argument_form}
use Rattle.syn_lower.proofs.parsing.arguments.generic_arguments.Goals as goal

pub returns-clause-reads : goal.returns-clause-reads
returns-clause-reads g c = c.punctuated_list.ensures.row (of argument_form) is_lifetime syntax_of_GenericArgument (row_of lifetime (rule generic_argument)) (record { says = λ old new x h. search (rules, h) })
