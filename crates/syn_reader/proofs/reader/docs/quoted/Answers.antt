use Rattle.std.proofs.Common.{◌≡◌, [], ◌∷◌, ◌∙◌, arith}
use Rattle.std.specs.Char.{encode_utf8}
use Rattle.std.proofs.lemmas.Str.{IsUtf8-past_char}
use Rattle.syn_reader.proofs.DocComments.{escaped_more, escaped_all}
use Rattle.syn_reader.proofs.reader.docs.quoted.Goals as goal

pub loop-character-preserved : goal.loop-character-preserved
loop-character-preserved c =
    let held = c.loop-character.invariant in
    let parts = c.in-Some.ensures.steps.0 in
    (IsUtf8-past_char _ _ c.in-Some.character held.0 parts, rw c.in_ok-push_escaped.ensures (escaped_more _ _ _ c.in-Some.character _ held.0 parts ∙ held.1))

pub returns : goal.returns
returns c =
    let quote : encode_utf8 34 ≡ 34 ∷ [] = c.in_ok-push-2.ensures.ascii (omega arith) in
    rw (c.in_ok-push-2.ensures.bytes, quote) (escaped_all _ _ _ c.in-None.ensures.steps.0.0 ∙ c.loop-character.invariant.1)
