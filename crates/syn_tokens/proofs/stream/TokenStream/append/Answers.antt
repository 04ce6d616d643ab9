use Rattle.std.proofs.Common.{arith, ap, ◌∙◌}
use Rattle.syn_grammar.specs.Tokens.{◌⧺◌}
use Rattle.syn_tokens.specs.Entries.{decode}
use Rattle.syn_tokens.proofs.Entries.{few, joined, joined_is}
use Rattle.syn_tokens.proofs.stream.TokenStream.append.Goals as goal

pub overflow_add-self : goal.overflow_add-self
overflow_add-self c =
    omega (
      arith,
      few c.self.inside.entries.items c.self.inside.trees c.self.invariant,
      c.self.inside.entries.ok.0,
      c.self.inside.entries.ok.1,
      c.self.inside.entries.small,
      few c.other.inside.entries.items c.other.inside.trees c.other.invariant,
      c.other.inside.entries.ok.0,
      c.other.inside.entries.ok.1,
      c.other.inside.entries.small,
    )

pub invariant_of-self-2 : goal.invariant_of-self-2
invariant_of-self-2 c =
    rw c.in_ok-append.ensures.items
    (joined c.self.inside.entries.items c.other.inside.entries.items c.self.inside.trees c.other.inside.trees c.self.invariant c.other.invariant)

pub returns-clause-ok : goal.returns-clause-ok
returns-clause-ok c =
    ap decode c.in_ok-append.ensures.items
    ∙ joined_is c.self.inside.entries.items c.other.inside.entries.items c.self.inside.trees c.other.inside.trees c.self.invariant c.other.invariant
    ∙ (λ i. c.self.view_is i ⧺ c.other.view_is i)
