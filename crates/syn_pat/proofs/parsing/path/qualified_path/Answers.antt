use Rattle.std.proofs.Common.{◌≡◌, true, false, Some, sym, subst, rules}
use Rattle.syn_grammar.specs.Words.{less, w_as}
use Rattle.syn_grammar.specs.Tokens.{at_word}
use Rattle.syn_grammar.specs.Rules.{type}
use Rattle.syn_grammar.specs.Take.{sees, take_mark}
use Rattle.syn_grammar.specs.Run.{parse_rule}
use Rattle.syn_grammar.specs.Promises.{Computes}
use Rattle.syn_parse.specs.Refusals.{IsSyntax}
use Rattle.syn_tokens.specs.Kinds.{lt_syntax}
use Rattle.syn_lower.specs.Types.{syntax_of_Type}
use Rattle.syn_pat.specs.Patterns.{path_of}
use Rattle.syn_pat.proofs.ExpressionPaths.{with_trait, without_trait}
use Rattle.syn_pat.proofs.parsing.path.qualified_path.Goals as goal

pub returns-then-peek-clause-reads : goal.returns-then-peek-clause-reads
returns-then-peek-clause-reads c =
    let lt = lt_syntax c.in_ok-lt_token.lt_token in
    let ty = syntax_of_Type c.in_ok-ty.ty.value in
    let sign : take_mark less c.args.input.now ≡ Some (lt, c.read.new.self) = search rules in
    let inner : parse_rule type c.read.new.self ≡ Some (ty, c.read-2.new.self) = search rules in
    let named : sees (at_word w_as) c.read-2.new.self ≡ true = search rules in
    subst (λ o. Computes IsSyntax (λ p. path_of p.0 p.1) o c.qualified_by_trait.result c.qualified_by_trait.new.input) (sym (with_trait c.args.input.now c.read.new.self c.read-2.new.self lt ty sign inner named)) c.qualified_by_trait.ensures.reads

pub returns-else-peek-clause-reads : goal.returns-else-peek-clause-reads
returns-else-peek-clause-reads c =
    let lt = lt_syntax c.in_ok-lt_token.lt_token in
    let ty = syntax_of_Type c.in_ok-ty.ty.value in
    let sign : take_mark less c.args.input.now ≡ Some (lt, c.read.new.self) = search rules in
    let inner : parse_rule type c.read.new.self ≡ Some (ty, c.read-2.new.self) = search rules in
    let named : sees (at_word w_as) c.read-2.new.self ≡ false = search rules in
    subst (λ o. Computes IsSyntax (λ p. path_of p.0 p.1) o c.qualified_alone.result c.qualified_alone.new.input) (sym (without_trait c.args.input.now c.read.new.self c.read-2.new.self lt ty sign inner named)) c.qualified_alone.ensures.reads
