use Rattle.std.proofs.Common.{refl, sym, ◌∙◌}
use Rattle.std.proofs.lemmas.Str.{chars_past_char}
use Rattle.syn_reader.proofs.Places.{ends_after}
use Rattle.syn_reader.proofs.reader.cursor.Cursor.bump.Goals as goal

pub step_to-requires : goal.step_to-requires
step_to-requires c =
    rw c.as_str.ensures
    (ends_after _ _ _ (sym c.rest.ensures ∙ (sym c.chars-characters.ensures.rest ∙ c.in_ok-first.ensures.steps.0)))

pub returns-clause-left : goal.returns-clause-left
returns-clause-left c =
    let rest = sym c.rest.ensures ∙ (sym c.chars-characters.ensures.rest ∙ c.in_ok-first.ensures.steps.0) in
    rw (c.step_to.ensures.text, c.step_to.ensures.rest, c.as_str.ensures) (chars_past_char _ _ _ (rw (← c.rest.ensures) c.rest.utf8) rest)

pub returns-clause-drops : goal.returns-clause-drops
returns-clause-drops c =
    let rest = sym c.rest.ensures ∙ (sym c.chars-characters.ensures.rest ∙ c.in_ok-first.ensures.steps.0) in
    rw (c.step_to.ensures.text, c.step_to.ensures.rest, c.as_str.ensures, chars_past_char _ _ _ (rw (← c.rest.ensures) c.rest.utf8) rest) refl
