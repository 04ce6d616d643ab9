use Rattle.std.proofs.Common.{ap, ◌∙◌}
use Rattle.syn_tokens.specs.Entries.{encode}
use Rattle.syn_tokens.specs.Places.{after}
use Rattle.syn_tokens.proofs.Places.{front_fits, front_is}
use Rattle.syn_tokens.proofs.stream.cursor.Cursor.front.Goals as goal

pub overflow_sub-self-inside : goal.overflow_sub-self-inside
overflow_sub-self-inside c =
    front_fits c.args.count c.args.self.now c.self.inside.entries.now c.rest.inside.entries.now
    (c.self.invariant.encoded ∙ ap encode c.self.view_is)
    (c.rest.invariant.encoded ∙ ap encode c.rest.view_is ∙ ap encode c.skip.ensures ∙ ap (λ ts. encode (after c.args.count ts)) c.fork-rest.ensures)

pub returns : goal.returns
returns c =
    c.split_at.ensures.front
    ∙ front_is c.args.count c.args.self.now c.self.inside.entries.now c.rest.inside.entries.now
    (c.self.invariant.encoded ∙ ap encode c.self.view_is)
    (c.rest.invariant.encoded ∙ ap encode c.rest.view_is ∙ ap encode c.skip.ensures ∙ ap (λ ts. encode (after c.args.count ts)) c.fork-rest.ensures)
