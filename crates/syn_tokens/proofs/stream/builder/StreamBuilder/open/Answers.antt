use Rattle.std.proofs.Common.{rules, [], ◌∷◌, ◌++◌, ap, ◌∙◌, ◌≡◌, length}
use Rattle.syn_grammar.specs.Tokens.{end}
use Rattle.syn_tokens.specs.Building.{Building, building}
use Rattle.syn_tokens.proofs.Builders.{group_from, opened_built, opened_begun, opened_is}
use Rattle.syn_tokens.specs.declared.stream.entry.Token.TheVariants as E
use Rattle.syn_tokens.proofs.stream.builder.StreamBuilder.open.Goals as goal

pub invariant_of-self-2 : goal.invariant_of-self-2
invariant_of-self-2 c =
    let long : c.len-at.result ≡ length c.self.inside.entries.items = c.len-at.ensures ∙ c.self.inside.entries.ok.0 in
    let entry : c.in_ok-entry.entry ≡ E.Open (record { delimiter = c.args.delimiter; span = c.args.opening; skip = 0 }) = search rules in
    rw (c.in_ok-push_back.ensures.items, entry, c.in_ok-push.ensures.items, c.in_ok-reserve.ensures.items) (
      opened_built c.self.inside.entries.items c.self.inside.pending.items c.self.inside.trees c.self.invariant.0 c.args.delimiter c.args.opening
          (record { delimiter = c.args.delimiter; opening = c.args.opening; at = c.len-at.result; trees = c.self.inside.trees })
          (λ i. record { delimiter = c.args.delimiter; opening = c.args.opening; at = long i; trees = c.self.inside.trees }),
      opened_begun c.self.inside.entries.items c.self.inside.pending.items c.self.inside.trees c.self.invariant.0 c.args.delimiter c.args.opening _ _ c.self.invariant.1,
    )

pub returns-clause-ok : goal.returns-clause-ok
returns-clause-ok c =
    let entry : c.in_ok-entry.entry ≡ E.Open (record { delimiter = c.args.delimiter; span = c.args.opening; skip = 0 }) = search rules in
    ap (building c.self.inside.mark.entries) (c.in_ok-push_back.ensures.items ∙ (λ i. c.self.inside.entries.items ++ entry i ∷ []))
    ∙ opened_is c.self.inside.entries.items c.self.inside.pending.items c.self.inside.trees c.self.invariant.0 c.args.delimiter c.args.opening _ _ c.self.invariant.1
    ∙ ap (λ (b : Building). record b { open_groups = b.open_groups ++ group_from c.args.delimiter c.args.opening b.stream ∷ []; stream = end }) c.self.view_is
