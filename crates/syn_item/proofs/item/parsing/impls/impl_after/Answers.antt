use Rattle.std.proofs.Common.{◌≡◌, Some, rules}
use Rattle.syn_grammar.specs.Tokens.{Stream}
use Rattle.syn_grammar.specs.Words.{w_impl}
use Rattle.syn_grammar.specs.Rules.{kept_item}
use Rattle.syn_grammar.specs.Grammar.{word}
use Rattle.syn_grammar.specs.Take.{take_token}
use Rattle.syn_grammar.specs.Plan.{run_plan}
use Rattle.syn_grammar.specs.ItemPlan.{absent, impl_plan}
use Rattle.syn_tokens.specs.Kinds.{const_syntax, impl_syntax, unsafe_syntax}
use Rattle.syn_tokens.specs.Leaves.{maybe}
use Rattle.syn_lower.specs.Attributes.{attributes_syntax}
use Rattle.syn_lower.specs.Parsing.{IsSyntax}
use Rattle.syn_item.specs.Items.{syntax_of_Item}
use Rattle.syn_item.specs.Planned.{Follows}
use Rattle.syn_item.proofs.ItemImpls.{word_follows}
use Rattle.syn_item.proofs.item.parsing.impls.impl_after.Goals as goal

pub returns : goal.returns
returns c =
    let a = attributes_syntax c.args.begun.attrs.items in
    let k = maybe const_syntax c.args.constness in
    let u = maybe unsafe_syntax c.args.unsafety in
    let m = c.args.input.now in
    let w = impl_syntax c.in_ok-read.field-0 in
    let r = c.read.new.self in
    let word_read : take_token (word w_impl) m ≡ Some (w, r) = search rules in
    let follows : (ts : Stream) → Follows IsSyntax syntax_of_Item kept_item ts (run_plan (impl_plan a absent k u) kept_item ts m) c.after_marks.result c.after_marks.new.input =
    λ ts. word_follows kept_item ts a absent k u m IsSyntax syntax_of_Item c.after_marks.result c.after_marks.new.input w r word_read (c.after_marks.ensures.follows ts) in
    search (rules, follows)
