use Rattle.std.proofs.Common.{arith, ◌≡◌, sym, ◌∙◌, add-one}
use Rattle.syn_grammar.specs.Tokens.{end}
use Rattle.syn_tokens.specs.Places.{after}
use Rattle.syn_tokens.proofs.Places.{after_one, after_ended}
use Rattle.syn_tokens.proofs.stream.cursor.Cursor.skip.Goals as goal

pub returns-in_default : goal.returns-in_default
returns-in_default c =
    let ended : after c.loop-i.i c.args.self.now ≡ end = sym c.loop-i.invariant ∙ c.in_default.ensures in
    c.in_default.ensures ∙ sym (after_ended c.loop-i.i c.args.count c.args.self.now ended (omega arith))

pub loop-i-preserved : goal.loop-i-preserved
loop-i-preserved c =
    rw add-one (sym (after_one c.loop-i.i c.args.self.now c.in-Some.field-0-0 c.in-Some.rest (sym c.loop-i.invariant ∙ c.in-Some.ensures)))
