use Rattle.std.proofs.Common.{ap, sym, ◌∙◌, ◌≡◌, length, min}
use Rattle.syn_grammar.specs.Take as grammar
use Rattle.syn_tokens.specs.Entries.{encode}
use Rattle.syn_tokens.proofs.Entries.{is_flat, decoded}
use Rattle.syn_tokens.proofs.Places.{cut_first, length_first}
use Rattle.syn_tokens.proofs.stream.TokenStream.truncate.Goals as goal

pub invariant_of-self : goal.invariant_of-self
invariant_of-self c =
    let whole : c.self.inside.entries.items ≡ encode c.args.self.now = c.self.invariant.encoded ∙ ap encode c.self.view_is in
    let kept : c.front-kept.result.now ≡ encode (grammar.first c.args.count c.args.self.now) =
    c.front-kept.ensures ∙ ap (λ ts. encode (grammar.first c.args.count ts)) c.cursor.ensures in
    let left : c.truncate.new.self.items ≡ encode (grammar.first c.args.count c.args.self.now) =
    c.truncate.ensures.items ∙ cut_first c.args.count c.args.self.now c.self.inside.entries.items (length c.front-kept.result.now) whole (ap length kept) in
    let counted : c.min-self-inside.result ≡ min (grammar.length c.args.self.now) c.args.count =
    c.min-self-inside.ensures ∙ ap (λ n. min n c.args.count) (c.self.invariant.counted ∙ ap grammar.length c.self.view_is) in
    is_flat c.truncate.new.self.items (grammar.first c.args.count c.args.self.now) c.min-self-inside.result left
    (counted ∙ sym (length_first c.args.count c.args.self.now))

pub returns : goal.returns
returns c =
    let whole : c.self.inside.entries.items ≡ encode c.args.self.now = c.self.invariant.encoded ∙ ap encode c.self.view_is in
    let kept : c.front-kept.result.now ≡ encode (grammar.first c.args.count c.args.self.now) =
    c.front-kept.ensures ∙ ap (λ ts. encode (grammar.first c.args.count ts)) c.cursor.ensures in
    decoded c.truncate.new.self.items (grammar.first c.args.count c.args.self.now)
    (c.truncate.ensures.items ∙ cut_first c.args.count c.args.self.now c.self.inside.entries.items (length c.front-kept.result.now) whole (ap length kept))
