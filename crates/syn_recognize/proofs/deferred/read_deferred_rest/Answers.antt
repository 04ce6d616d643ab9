use Rattle.std.proofs.Common.{rules, ◌≡◌, Some, sym, ap, ◌∙◌, arith}
use Rattle.syn_grammar.specs.Tokens.{end}
use Rattle.syn_recognize.specs.DeferredTokens.{kind_rule, read_as}
use Rattle.syn_recognize.proofs.DeferredTokens.{kinds_read_again, whole_is_deferred, whole_read}
use Rattle.syn_recognize.proofs.deferred.read_deferred_rest.Goals as goal

pub of-requires : goal.of-requires
of-requires g c =
    let ended : c.tokens_of.new.input ≡ end = search rules in
    (omega arith, whole_is_deferred (kind_rule g.row.KIND) (kinds_read_again g.row.KIND) c.args.input.now _ _ _ c.in_ok-tokens.ensures.reads ended)

pub returns-clause-reads : goal.returns-clause-reads
returns-clause-reads g c =
    let ended : c.tokens_of.new.input ≡ end = search rules in
    let same : c.in_ok-of.field-0 ≡ read_as (kind_rule g.row.KIND) c.in_ok-tokens.tokens.shown = search rules in
    whole_read (kind_rule g.row.KIND) (kinds_read_again g.row.KIND) c.args.input.now _ _ _ c.in_ok-tokens.ensures.reads ended ∙ ap (λ s. Some (s, c.tokens_of.new.input)) (sym same)
