use Rattle.std.proofs.Common.{◌≡◌, true, false, Some, rules}
use Rattle.syn_grammar.specs.Tokens.{Stream}
use Rattle.syn_grammar.specs.Words.{w_impl}
use Rattle.syn_grammar.specs.Rules.{kept_item}
use Rattle.syn_grammar.specs.Grammar.{word}
use Rattle.syn_grammar.specs.Take.{sees, take_token}
use Rattle.syn_grammar.specs.Plan.{run_plan}
use Rattle.syn_grammar.specs.ItemPlan.{at_in_restriction, at_lone_word, bare_impl_plan}
use Rattle.syn_tokens.specs.Kinds.{impl_syntax}
use Rattle.syn_lower.specs.Attributes.{attributes_syntax}
use Rattle.syn_lower.specs.Parsing.{IsSyntax}
use Rattle.syn_item.specs.Items.{syntax_of_Item}
use Rattle.syn_item.specs.ItemStages.{place_of}
use Rattle.syn_item.specs.ItemTurns.{no_visibility}
use Rattle.syn_item.specs.Planned.{Follows}
use Rattle.syn_item.proofs.ItemImpls.{generics_follow, lone_follows}
use Rattle.syn_item.proofs.item.parsing.impls.bare_impl.Goals as goal

pub returns-then-at_lone_word : goal.returns-then-at_lone_word
returns-then-at_lone_word c =
    let a = attributes_syntax c.args.begun.attrs.items in
    let p = place_of c.args.begun.place in
    let m = c.args.input.now in
    let w = impl_syntax c.in_ok-read.field-0 in
    let r = c.read.new.self in
    let alone : no_visibility p ≡ true = search rules in
    let word_read : take_token (word w_impl) m ≡ Some (w, r) = search rules in
    let no_restriction : sees at_in_restriction r ≡ false = search rules in
    let here : sees at_lone_word r ≡ true = search rules in
    let follows : (ts : Stream) → Follows IsSyntax syntax_of_Item kept_item ts (run_plan (bare_impl_plan p a) kept_item ts m) c.impl_of_parentheses.result c.impl_of_parentheses.new.input =
    λ ts. lone_follows kept_item ts p a m alone w r word_read no_restriction IsSyntax syntax_of_Item c.impl_of_parentheses.result c.impl_of_parentheses.new.input here (c.impl_of_parentheses.ensures.follows ts) in
    search (rules, follows)

pub returns : goal.returns
returns c =
    let a = attributes_syntax c.args.begun.attrs.items in
    let p = place_of c.args.begun.place in
    let m = c.args.input.now in
    let w = impl_syntax c.in_ok-read.field-0 in
    let r = c.read.new.self in
    let alone : no_visibility p ≡ true = search rules in
    let word_read : take_token (word w_impl) m ≡ Some (w, r) = search rules in
    let no_restriction : sees at_in_restriction r ≡ false = search rules in
    let no_lone : sees at_lone_word r ≡ false = search rules in
    let follows : (ts : Stream) → Follows IsSyntax syntax_of_Item kept_item ts (run_plan (bare_impl_plan p a) kept_item ts m) c.after_marks.result c.after_marks.new.input =
    λ ts. generics_follow kept_item ts p a m alone w r word_read no_restriction IsSyntax syntax_of_Item c.after_marks.result c.after_marks.new.input no_lone (c.after_marks.ensures.follows ts) in
    search (rules, follows)
