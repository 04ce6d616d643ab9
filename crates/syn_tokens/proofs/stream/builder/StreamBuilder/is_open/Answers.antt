use Rattle.std.proofs.Common.{nat_eq, length, ap, ◌∙◌, ◌≡◌}
use Rattle.syn_tokens.proofs.Builders.{open_pending}
use Rattle.syn_tokens.proofs.stream.builder.StreamBuilder.is_open.Goals as goal

pub returns : goal.returns
returns c =
    let empty : c.is_empty.result ≡ nat_eq (length c.self.inside.pending.items) 0 = c.is_empty.ensures ∙ ap (λ n. nat_eq n 0) c.self.inside.pending.ok.0 in
    open_pending c.self.inside.mark.entries c.self.inside.entries.items c.self.inside.pending.items c.self.inside.trees c.args.self.now c.is_empty.result c.self.invariant.0 c.self.view_is empty
