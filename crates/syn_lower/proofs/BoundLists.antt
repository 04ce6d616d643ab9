-- Lists of bounds, of lifetime parameters and of predicates, each up to what ends it.
use Rattle.std.specs.Prelude.{false, refl}
use Rattle.syn_grammar.specs.Words.{comma, plus}
use Rattle.syn_grammar.specs.Tokens.{at_mark}
use Rattle.syn_grammar.specs.Rules.{bound, lifetime_parameter, lifetime_parameters, parameter_bounds, predicate, predicate_bounds, predicates}
use Rattle.syn_grammar.specs.Grammar.{mark, rule}
use Rattle.syn_grammar.specs.Table.{at_greater, at_parameter_end, at_predicate_end}
use Rattle.syn_grammar.proofs.Each.{lifetime_parameters_is, parameter_bounds_is, predicate_bounds_is, predicates_is}
use Rattle.syn_parse.specs.Form.{by, of}
use Rattle.syn_parse.specs.Listing.{IsList}

pub lifetime_parameters_list : IsList lifetime_parameters (of (rule lifetime_parameter)) (by at_greater) (by (at_mark comma)) (of (mark false comma))
lifetime_parameters_list = record { is = lifetime_parameters_is }

pub parameter_bounds_list : IsList parameter_bounds (of (rule bound)) (by at_parameter_end) (by (at_mark plus)) (of (mark false plus))
parameter_bounds_list = record { is = parameter_bounds_is }

pub predicate_bounds_list : IsList predicate_bounds (of (rule bound)) (by at_predicate_end) (by (at_mark plus)) (of (mark false plus))
predicate_bounds_list = record { is = predicate_bounds_is }

pub predicates_list : IsList predicates (of (rule predicate)) (by at_predicate_end) (by (at_mark comma)) (of (mark false comma))
predicates_list = record { is = predicates_is }
