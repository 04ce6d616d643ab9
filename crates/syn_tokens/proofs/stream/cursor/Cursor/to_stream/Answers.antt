use Rattle.std.proofs.Common.{rules, ◌≡◌, ◌∙◌}
use Rattle.syn_tokens.specs.Entries.{encode}
use Rattle.syn_tokens.proofs.Entries.{is_flat, decoded}
use Rattle.syn_tokens.proofs.stream.cursor.Cursor.to_stream.Goals as goal

pub of_entries-requires : goal.of_entries-requires
of_entries-requires c =
    let copied : c.in_ok-entries.entries.items ≡ encode c.args.self.now = search rules in
    is_flat c.in_ok-entries.entries.items c.args.self.now c.len.result copied c.len.ensures

pub returns : goal.returns
returns c =
    let copied : c.in_ok-entries.entries.items ≡ encode c.args.self.now = search rules in
    c.of_entries.ensures ∙ decoded c.in_ok-entries.entries.items c.args.self.now copied
