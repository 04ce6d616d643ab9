use Rattle.std.proofs.Common.{◌++◌, take, ap, sym, ◌∙◌}
use Rattle.std.specs.Char.{is_not_whitespace}
use Rattle.std.proofs.lemmas.List.{take-append-drop}
use Rattle.syn_reader.proofs.Characters.{passes_there}
use Rattle.syn_reader.proofs.reader.cursor.Cursor.skip_white_space.Goals as goal

pub returns-clause-blank : goal.returns-clause-blank
returns-clause-blank c =
    let trimmed = c.trim_start.ensures.value in
    let space = take trimmed.0 c.rest.result.now in (
      space,
      trimmed.2,
      c.step_to.ensures.present space
          (sym c.rest.ensures ∙ (sym (take-append-drop trimmed.0 c.rest.result.now) ∙ ap (λ r. space ++ r) (sym trimmed.1))),
    )

pub returns-clause-stops : goal.returns-clause-stops
returns-clause-stops c =
    let trimmed = c.trim_start.ensures.value in
    rw (c.step_to.ensures.text, c.step_to.ensures.rest) (passes_there is_not_whitespace _ trimmed.3.0 c.trim_start.utf8 trimmed.3.1)
