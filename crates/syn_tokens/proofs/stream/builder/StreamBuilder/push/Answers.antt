use Rattle.std.proofs.Common.{arith, [], ◌∷◌, ap, ◌∙◌}
use Rattle.syn_grammar.specs.Tokens.{◌⧺◌}
use Rattle.syn_tokens.specs.Entries.{decode}
use Rattle.syn_tokens.specs.Building.{Building, building}
use Rattle.syn_tokens.proofs.Entries.{token_flat}
use Rattle.syn_tokens.proofs.Builders.{few_built, joined_built, joined_begun, joined_is}
use Rattle.syn_tokens.proofs.stream.builder.StreamBuilder.push.Goals as goal

pub overflow_add-self : goal.overflow_add-self
overflow_add-self c =
    omega (arith, few_built c.self.inside.entries.items c.self.inside.pending.items c.self.inside.trees c.self.invariant.0, c.self.inside.entries.ok.0, c.self.inside.entries.ok.1, c.self.inside.entries.small)

pub invariant_of-self-2 : goal.invariant_of-self-2
invariant_of-self-2 c =
    let one = token_flat c.args.token c.requires in
    rw c.in_ok-push_back.ensures.items (
      joined_built c.self.inside.entries.items c.self.inside.pending.items c.self.inside.trees c.self.invariant.0 (c.args.token ∷ []) 1 one,
      joined_begun c.self.inside.entries.items c.self.inside.pending.items c.self.inside.trees c.self.invariant.0 (c.args.token ∷ []) 1 one _ _ c.self.invariant.1,
    )

pub returns-clause-ok : goal.returns-clause-ok
returns-clause-ok c =
    ap (building c.self.inside.mark.entries) c.in_ok-push_back.ensures.items
    ∙ joined_is c.self.inside.entries.items c.self.inside.pending.items c.self.inside.trees c.self.invariant.0 (c.args.token ∷ []) 1 (token_flat c.args.token c.requires) _ _ c.self.invariant.1
    ∙ ap (λ (b : Building). record b { stream = b.stream ⧺ decode (c.args.token ∷ []) }) c.self.view_is
