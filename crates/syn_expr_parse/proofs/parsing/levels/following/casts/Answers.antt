use Rattle.std.proofs.Common.{◌≡◌, ◌<◌, ◌≤◌, true, Some, sym, ap, ◌∙◌, rules, arith}
use Rattle.syn_grammar.specs.Words.{w_as}
use Rattle.syn_grammar.specs.Tokens.{at_word, pick}
use Rattle.syn_grammar.specs.Shape.{Cast}
use Rattle.syn_grammar.specs.Rules.{casts, type}
use Rattle.syn_grammar.specs.Grammar.{Syntax, Both, word}
use Rattle.syn_grammar.specs.Take.{left, sees, take_token}
use Rattle.syn_grammar.specs.Values.{core, new, onto}
use Rattle.syn_grammar.specs.Run.{parse_rule, wrap}
use Rattle.syn_tokens.specs.Kinds.{as_syntax}
use Rattle.syn_lower.specs.Types.{syntax_of_Type}
use Rattle.syn_expr_parse.specs.Levels.{cast_out, joined, then_more}
use Rattle.syn_expr_parse.proofs.Levels.{casts_step}
use Rattle.syn_expr_parse.proofs.parsing.levels.following.casts.Goals as goal

pub casts-preserved : goal.casts-preserved
casts-preserved g c =
    let ts = c.casts.input in
    let m = c.read.new.self in
    let n = c.read-in-casts.new.self in
    let a = g.N.Trees.Trees.expr_syntax c.casts.all.value in
    let x = as_syntax c.in_ok-as_token.as_token in
    let t = syntax_of_Type c.in_ok-ty.ty.value in
    let less : left m < left ts = search rules in
    let lesser : left n < left m = search rules in
    let seen : sees (at_word w_as) ts ≡ true = search rules in
    let sign : take_token (word w_as) ts ≡ Some (x, m) = search rules in
    let read : parse_rule type m ≡ Some (t, n) = search rules in
    let made : g.N.Trees.Trees.expr_syntax c.in_ok-all.all.value ≡ new Cast (Both a (Both x t)) = search rules in
    let same : core (g.N.Trees.Trees.expr_syntax c.in_ok-all.all.value) ≡ new Cast (Both (core a) (Both x t)) = ap core made ∙ ap (λ z. new Cast (Both z (Both x t))) (sym (g.N.Trees.Trees.core_is c.casts.all.value)) in (
      omega (arith, c.casts.invariant.0, less, lesser),
      c.casts.invariant.1 ∙ casts_step (core a) ts
          ∙ ap (λ b. pick b (cast_out (core a) (take_token (word w_as) ts)) (Some (core a, ts))) seen
          ∙ ap (cast_out (core a)) sign
          ∙ ap (λ o. then_more (joined Cast (core a) x o) (parse_rule casts)) read
          ∙ ap (λ s. wrap (onto s) (parse_rule casts n)) (sym same),
    )
