use Rattle.std.proofs.Common.{rules}
use Rattle.syn_grammar.specs.Rules.{types, type}
use Rattle.syn_grammar.specs.Grammar.{rule}
use Rattle.syn_parse.specs.Form.{of}
use Rattle.syn_lower.specs.Types.{syntax_of_Type}
use Rattle.syn_lower.proofs.Lists.{types_list}
use Rattle.syn_lower.proofs.parsing.ty.types.Goals as goal

pub returns-clause-reads : goal.returns-clause-reads
returns-clause-reads g c = c.punctuated_list.ensures.reads types (of (rule type)) syntax_of_Type types_list (record { says = λ old new x h. search (rules, h) })
