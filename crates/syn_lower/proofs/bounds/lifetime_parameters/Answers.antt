use Rattle.std.proofs.Common.{rules}
use Rattle.syn_grammar.specs.Rules.{lifetime_parameter, lifetime_parameters}
use Rattle.syn_grammar.specs.Grammar.{rule}
use Rattle.syn_grammar.specs.Promises.{itself}
use Rattle.syn_parse.specs.Form.{of}
use Rattle.syn_lower.proofs.BoundLists.{lifetime_parameters_list}
use Rattle.syn_lower.proofs.bounds.lifetime_parameters.Goals as goal

pub returns-clause-reads : goal.returns-clause-reads
returns-clause-reads c = c.punctuated_list.ensures.reads lifetime_parameters (of (rule lifetime_parameter)) itself lifetime_parameters_list (record { says = λ old new x h. search (rules, h) })
