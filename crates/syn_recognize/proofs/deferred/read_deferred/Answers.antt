use Rattle.std.proofs.Common.{rules, ◌≡◌, Some, sym, ap, ◌∙◌, arith}
use Rattle.syn_recognize.specs.DeferredTokens.{kind_rule, read_as}
use Rattle.syn_recognize.proofs.DeferredTokens.{alone_is_deferred, alone_read}
use Rattle.syn_recognize.proofs.deferred.read_deferred.Goals as goal

pub of-requires : goal.of-requires
of-requires g c = (omega arith, alone_is_deferred (kind_rule g.row.KIND) c.requires c.args.input.now _ _ _ c.in_ok-tokens.ensures.reads)

pub returns-clause-reads : goal.returns-clause-reads
returns-clause-reads g c =
    let same : c.in_ok-of.field-0 ≡ read_as (kind_rule g.row.KIND) c.in_ok-tokens.tokens.shown = search rules in
    alone_read (kind_rule g.row.KIND) c.requires c.args.input.now _ _ _ c.in_ok-tokens.ensures.reads ∙ ap (λ s. Some (s, c.tokens_of.new.input)) (sym same)
