use Rattle.std.proofs.Common.{rules}
use Rattle.syn_grammar.specs.Rules.{pattern, patterns}
use Rattle.syn_grammar.specs.Grammar.{rule}
use Rattle.syn_parse.specs.Form.{of}
use Rattle.syn_pat.specs.Patterns.{syntax_of_Pat}
use Rattle.syn_pat.proofs.PathLists.{patterns_list}
use Rattle.syn_pat.proofs.parsing.pat.patterns.Goals as goal

pub returns-clause-reads : goal.returns-clause-reads
returns-clause-reads g c = c.punctuated_list.ensures.reads patterns (of (rule pattern)) syntax_of_Pat patterns_list (record { says = λ old new x h. search (rules, h) })
