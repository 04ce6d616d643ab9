use Rattle.std.proofs.Common.{rules, ◌≡◌, ◌∙◌, sym, min}
use Rattle.syn_grammar.specs.Take.{first, length}
use Rattle.syn_tokens.specs.Entries.{encode}
use Rattle.syn_tokens.proofs.Entries.{is_flat, decoded}
use Rattle.syn_tokens.proofs.Places.{length_first}
use Rattle.syn_tokens.proofs.stream.cursor.Cursor.first_to_stream.Goals as goal

pub of_entries-requires : goal.of_entries-requires
of_entries-requires c =
    let copied : c.in_ok-entries.entries.items ≡ encode (first c.args.count c.args.self.now) = search rules in
    let counted : c.min.result ≡ min (length c.args.self.now) c.args.count = search rules in
    is_flat c.in_ok-entries.entries.items (first c.args.count c.args.self.now) c.min.result copied (counted ∙ sym (length_first c.args.count c.args.self.now))

pub returns : goal.returns
returns c =
    let copied : c.in_ok-entries.entries.items ≡ encode (first c.args.count c.args.self.now) = search rules in
    c.of_entries.ensures ∙ decoded c.in_ok-entries.entries.items (first c.args.count c.args.self.now) copied
