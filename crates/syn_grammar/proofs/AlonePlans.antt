-- The plans of rules of their own read what the rules read.
use Rattle.std.proofs.Common.{◌≡◌, List, [], ◌∷◌, Some, None, refl, sym, ◌∙◌}
use Rattle.syn_grammar.specs.Tokens.{Stream}
use Rattle.syn_grammar.specs.Rules.{Rule, use_item_rest, type_item_rest, impl_definition_rest, kept_item}
use Rattle.syn_grammar.specs.Grammar.{Node}
use Rattle.syn_grammar.specs.Table.{table}
use Rattle.syn_grammar.specs.Take.{Out}
use Rattle.syn_grammar.specs.Run.{wrap, parse_rule, parse_form}
use Rattle.syn_grammar.specs.AlonePlans.{use_alone, type_alone, plain_types, impl_alone, UseAlone, TypeAlone, ImplAlone}
use Rattle.syn_grammar.proofs.Run.{parse_rule_is}
use Rattle.syn_grammar.proofs.Threads.{in_node, reading, of_kind, Thread, first, answer_all, Fits, fits_is}

abbrev alone : Rule → List Thread
alone k = of_kind (reading (table k) (in_node ∷ [])) ∷ []

one_answer : (o : Out) → first o None ≡ o
one_answer (Some x) = refl
one_answer None = refl

alone_is : (k : Rule) (ts : Stream) → parse_rule k ts ≡ answer_all kept_item ts (alone k) ts
alone_is k ts = parse_rule_is k ts ∙ sym (one_answer (wrap Node (parse_form (table k) ts)))

use_fits : Fits use_alone [] (alone use_item_rest)
unfolding use_alone
use_fits = λ v. λ k. (λ t. (((refl, refl), tt), (tt, λ z. refl)), λ c. λ t. λ z. refl)

type_fits : Fits type_alone [] (alone type_item_rest)
unfolding type_alone
type_fits = λ v. λ k. λ n. λ g. λ w. λ q. λ t. λ x. (((refl, refl), tt), (λ z. refl, tt))

impl_fits : Fits impl_alone [] (alone impl_definition_rest)
unfolding impl_alone plain_types
impl_fits = λ d. λ c. λ u. λ k. (λ g. (λ x. (λ b. refl, λ t. λ f. λ b. refl), (λ t. λ f. λ b. refl, λ t. λ b. refl)), (λ x. (λ b. refl, λ t. λ f. λ b. refl), (λ t. λ f. λ b. refl, λ t. λ b. refl)))

pub use_alone_is : UseAlone
use_alone_is ts = alone_is use_item_rest ts ∙ fits_is use_alone [] (alone use_item_rest) kept_item ts ts use_fits tt

pub type_alone_is : TypeAlone
type_alone_is ts = alone_is type_item_rest ts ∙ fits_is type_alone [] (alone type_item_rest) kept_item ts ts type_fits tt

pub impl_alone_is : ImplAlone
impl_alone_is ts = alone_is impl_definition_rest ts ∙ fits_is impl_alone [] (alone impl_definition_rest) kept_item ts ts impl_fits tt
