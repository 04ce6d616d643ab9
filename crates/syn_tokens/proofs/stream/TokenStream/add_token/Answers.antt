use Rattle.std.proofs.Common.{arith, [], ◌∷◌, ap, ◌∙◌}
use Rattle.syn_grammar.specs.Tokens.{◌⧺◌}
use Rattle.syn_tokens.specs.Entries.{decode}
use Rattle.syn_tokens.proofs.Entries.{few, joined, joined_is, token_flat}
use Rattle.syn_tokens.proofs.stream.TokenStream.add_token.Goals as goal

pub overflow_add-self : goal.overflow_add-self
overflow_add-self c =
    omega (arith, few c.self.inside.entries.items c.self.inside.trees c.self.invariant, c.self.inside.entries.ok.0, c.self.inside.entries.ok.1, c.self.inside.entries.small)

pub invariant_of-self-2 : goal.invariant_of-self-2
invariant_of-self-2 c =
    rw c.in_ok-push.ensures.items (joined c.self.inside.entries.items (c.args.token ∷ []) c.self.inside.trees 1 c.self.invariant (token_flat c.args.token c.requires))

pub returns-clause-ok : goal.returns-clause-ok
returns-clause-ok c =
    ap decode c.in_ok-push.ensures.items
    ∙ joined_is c.self.inside.entries.items (c.args.token ∷ []) c.self.inside.trees 1 c.self.invariant (token_flat c.args.token c.requires)
    ∙ ap (λ ts. ts ⧺ decode (c.args.token ∷ [])) c.self.view_is
