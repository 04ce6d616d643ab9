use Rattle.std.proofs.Common.{ℕ, List, drop, Some, sym, ap, ◌∙◌}
use Rattle.syn_reader.specs.Scanning.{closed}
use Rattle.syn_reader.proofs.Scans.{character_escaped, character_plain}
use Rattle.syn_reader.proofs.reader.lexer.Lexer.character_closes.Goals as goal

pub returns-then-is_at-clause-closes : goal.returns-then-is_at-clause-closes
returns-then-is_at-clause-closes c =
    λ k. character_escaped k _ c.requires (sym c.is_at.ensures ∙ c.if-is_at.true) ∙ ap (closed k) c.closes_by.ensures.closes

pub returns-clause-closes : goal.returns-clause-closes
returns-clause-closes c =
    λ k.
    character_plain k _ c.requires (sym c.is_at.ensures ∙ c.if-is_at.false)
    ∙ ap (λ (l : List ℕ). closed k (Some l)) (sym (c.step-2.ensures.rest ∙ ap (drop 1) c.step.ensures.rest))
