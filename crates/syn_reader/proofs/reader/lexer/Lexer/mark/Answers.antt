use Rattle.std.proofs.Common.{refl, ap, ◌∙◌}
use Rattle.syn_reader.specs.Scanning.{literal_at}
use Rattle.syn_reader.proofs.Beginnings.{mark_from}
use Rattle.syn_reader.proofs.reader.lexer.Lexer.mark.Goals as goal

pub returns : goal.returns
returns c =
    let past = c.requires.past in
    let absent = ap literal_at past.2 ∙ mark_from _ _ c.requires.mark c.requires.apart c.requires.no_digit in
    let joint = rw past.0 at c.spacing.ensures in
    rw (c.new.ensures, c.span_since-span.ensures) (record { present = ((c.requires.first, past.1, (rw c.requires.apart c.requires.mark, c.requires.no_comment, absent, rw c.requires.apart joint)), refl, refl) })
