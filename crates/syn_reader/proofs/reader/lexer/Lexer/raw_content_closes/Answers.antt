use Rattle.std.proofs.Common.{length, sym, ap, ◌∙◌, arith}
use Rattle.syn_reader.specs.declared.reader.lexer.Lexer.{Lexer}
use Rattle.syn_reader.specs.Places.{left}
use Rattle.syn_reader.specs.Scanning.{after_raw}
use Rattle.syn_reader.proofs.Scans.{shorter, raw_ends, raw_here, raw_later, raw_not_here}
use Rattle.syn_reader.proofs.reader.lexer.Lexer.raw_content_closes.Goals as goal
use Rattle.syn_reader.proofs.reader.lexer.Lexer.raw_content_closes.Goals.{else-character-eq34-via-then-character-eq34+else-skip_hashes, else-character-eq34-via-else-character-eq34}

pub returns-then-skip_hashes-clause-closes : goal.returns-then-skip_hashes-clause-closes
returns-then-skip_hashes-clause-closes c =
    c.loop-character.invariant.1
    ∙ raw_here _ _ _ _ _ c.in-Some.ensures.left c.if-character-eq34.true (sym c.skip_hashes.ensures.hashes ∙ c.if-skip_hashes.true) (c.skip_hashes.ensures.all c.if-skip_hashes.true)

pub loop-character-smaller : goal.loop-character-smaller
loop-character-smaller c =
    elim c.else-character-eq34.branch [
      | else-character-eq34-via-then-character-eq34+else-skip_hashes w ↦
          omega (arith, shorter _ _ _ c.in-Some.ensures.left, w.skip_hashes.ensures.no_more, ap (λ (s : Lexer). length (left s.cursor)) w.self-is)
      | else-character-eq34-via-else-character-eq34 w ↦
          omega (arith, shorter _ _ _ c.in-Some.ensures.left, ap (λ (s : Lexer). length (left s.cursor)) w.self-is)
    ]

pub loop-character-preserved : goal.loop-character-preserved
loop-character-preserved c =
    elim c.else-character-eq34.branch [
      | else-character-eq34-via-then-character-eq34+else-skip_hashes w ↦ (
        (
          ap (λ (s : Lexer). s.cursor.text) w.self-is ∙ (w.skip_hashes.ensures.onward.0 ∙ (c.step.ensures.onward.0 ∙ c.loop-character.invariant.0.0)),
          omega (arith, ap (λ (s : Lexer). s.cursor.offset) w.self-is),
        ),
        c.loop-character.invariant.1
            ∙ (raw_not_here _ _ _ _ _ c.in-Some.ensures.left (sym w.skip_hashes.ensures.hashes ∙ w.if-skip_hashes.false) (w.skip_hashes.ensures.fewer w.if-skip_hashes.false _)
            ∙ ap (λ (s : Lexer). after_raw c.args.hashes (left s.cursor)) (sym w.self-is)),
      )
      | else-character-eq34-via-else-character-eq34 w ↦ (
        (
          ap (λ (s : Lexer). s.cursor.text) w.self-is ∙ (c.step.ensures.onward.0 ∙ c.loop-character.invariant.0.0),
          omega (arith, ap (λ (s : Lexer). s.cursor.offset) w.self-is),
        ),
        c.loop-character.invariant.1
            ∙ (raw_later _ _ _ _ c.in-Some.ensures.left w.if-character-eq34.false ∙ ap (λ (s : Lexer). after_raw c.args.hashes (left s.cursor)) (sym w.self-is)),
      )
    ]

pub returns-clause-closes : goal.returns-clause-closes
returns-clause-closes c = c.loop-character.invariant.1 ∙ raw_ends _ _ c.in_default.ensures.left
