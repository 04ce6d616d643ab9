use Rattle.std.proofs.Common.{rules, arith, [], ◌∷◌, ◌++◌, ap, ◌∙◌, ◌≡◌, length}
use Rattle.syn_grammar.specs.Tokens.{end, group, ◌⧺◌}
use Rattle.syn_tokens.specs.Spans.{at}
use Rattle.syn_tokens.specs.Delimiters.{delimiter_of}
use Rattle.syn_tokens.specs.Entries.{decode}
use Rattle.syn_tokens.proofs.Entries.{few, joined, joined_is, enclosed, group_flat, group_is}
use Rattle.syn_tokens.specs.declared.stream.entry.Token.TheVariants as E
use Rattle.syn_tokens.proofs.stream.TokenStream.add_group.Goals as goal

pub overflow_add-self : goal.overflow_add-self
overflow_add-self c =
    omega (arith, few c.self.inside.entries.items c.self.inside.trees c.self.invariant, c.self.inside.entries.ok.0, c.self.inside.entries.ok.1, c.self.inside.entries.small)

pub invariant_of-self-2 : goal.invariant_of-self-2
invariant_of-self-2 c =
    let skips : c.len.result ≡ length c.stream.inside.entries.items = c.len.ensures ∙ c.stream.inside.entries.ok.0 in
    let opening : c.in_ok-opening.opening ≡ E.Open (record { delimiter = c.args.tree.delimiter; span = c.args.tree.opening; skip = c.len.result }) = search rules in
    let closing : c.in_ok-closing.closing ≡ E.Close (record { delimiter = c.args.tree.delimiter; span = c.args.tree.closing; trees = c.stream.inside.trees }) = search rules in
    rw (c.in_ok-enclose.ensures.ok, opening, closing)
    (joined c.self.inside.entries.items _ c.self.inside.trees 1 c.self.invariant
    (group_flat c.args.tree.delimiter c.args.tree.opening c.args.tree.closing c.stream.inside.entries.items c.len.result c.stream.inside.trees skips c.stream.invariant))

pub returns-clause-ok : goal.returns-clause-ok
returns-clause-ok c =
    let skips : c.len.result ≡ length c.stream.inside.entries.items = c.len.ensures ∙ c.stream.inside.entries.ok.0 in
    let opening : c.in_ok-opening.opening ≡ E.Open (record { delimiter = c.args.tree.delimiter; span = c.args.tree.opening; skip = c.len.result }) = search rules in
    let closing : c.in_ok-closing.closing ≡ E.Close (record { delimiter = c.args.tree.delimiter; span = c.args.tree.closing; trees = c.stream.inside.trees }) = search rules in
    ap decode (c.in_ok-enclose.ensures.ok ∙ (λ i. c.self.inside.entries.items ++ opening i ∷ (c.stream.inside.entries.items ++ closing i ∷ [])))
    ∙ joined_is c.self.inside.entries.items (enclosed c.args.tree.delimiter c.args.tree.opening c.args.tree.closing c.len.result c.stream.inside.trees c.stream.inside.entries.items) c.self.inside.trees 1 c.self.invariant
    (group_flat c.args.tree.delimiter c.args.tree.opening c.args.tree.closing c.stream.inside.entries.items c.len.result c.stream.inside.trees skips c.stream.invariant)
    ∙ ap (λ ts. decode c.self.inside.entries.items ⧺ ts)
    (group_is c.args.tree.delimiter c.args.tree.opening c.args.tree.closing c.stream.inside.entries.items c.len.result c.stream.inside.trees skips c.stream.invariant)
    ∙ (λ i. c.self.view_is i ⧺ group (delimiter_of c.args.tree.delimiter) (at c.args.tree.opening) (at c.args.tree.closing) (c.stream.view_is i) end)
