use Rattle.std.proofs.Common.{◌≡◌, true, false, Some, rules}
use Rattle.syn_grammar.specs.Tokens.{Stream, at_word}
use Rattle.syn_grammar.specs.Words.{w_const, w_type}
use Rattle.syn_grammar.specs.Rules.{bare_trait_function, bare_trait_type, kept_trait_item, trait_function, trait_type}
use Rattle.syn_grammar.specs.Grammar.{Both, Case, Node}
use Rattle.syn_grammar.specs.Plan.{run_plan}
use Rattle.syn_grammar.specs.Take.{sees}
use Rattle.syn_grammar.specs.Run.{parse_rule, wrap}
use Rattle.syn_lower.specs.Attributes.{attributes_syntax}
use Rattle.syn_lower.specs.Parsing.{IsSyntax}
use Rattle.syn_item.specs.NextWords.{function_next, marked_next}
use Rattle.syn_item.specs.Planned.{Follows}
use Rattle.syn_item.specs.Stages.{trait_item_plan_after}
use Rattle.syn_item.specs.Traits.{syntax_of_TraitItem}
use Rattle.syn_item.proofs.TraitPlans.{const_follows, function_read, type_read}
use Rattle.syn_item.proofs.traits.parsing.trait_item_after.Goals as goal

pub returns-then-peek : goal.returns-then-peek
returns-then-peek c =
    let a = attributes_syntax c.args.attrs.items in
    let m = c.args.input.now in
    let t = c.in_ok-trait_type.field-0 in
    let r = c.trait_type.new.input in
    let unmarked : marked_next m ≡ false = search rules in
    let here : sees (at_word w_type) m ≡ true = search rules in
    let read : wrap (Both a) (parse_rule bare_trait_type m) ≡ Some (t, r) = search rules in
    let made : (ts : Stream) → run_plan (trait_item_plan_after a) kept_trait_item ts m ≡ Some (Node (Case trait_type t), r) = λ ts. type_read kept_trait_item ts a m unmarked t r here read in
    search (rules, made)

pub returns-then-at_function : goal.returns-then-at_function
returns-then-at_function c =
    let a = attributes_syntax c.args.attrs.items in
    let m = c.args.input.now in
    let t = c.in_ok-trait_function.field-0 in
    let r = c.trait_function.new.input in
    let unmarked : marked_next m ≡ false = search rules in
    let no_type : sees (at_word w_type) m ≡ false = search rules in
    let here : function_next m ≡ true = search rules in
    let read : wrap (Both a) (parse_rule bare_trait_function m) ≡ Some (t, r) = search rules in
    let made : (ts : Stream) → run_plan (trait_item_plan_after a) kept_trait_item ts m ≡ Some (Node (Case trait_function t), r) = λ ts. function_read kept_trait_item ts a m unmarked no_type t r here read in
    search (rules, made)

pub returns-then-peek-2 : goal.returns-then-peek-2
returns-then-peek-2 c =
    let a = attributes_syntax c.args.attrs.items in
    let m = c.args.input.now in
    let unmarked : marked_next m ≡ false = search rules in
    let no_type : sees (at_word w_type) m ≡ false = search rules in
    let no_function : function_next m ≡ false = search rules in
    let here : sees (at_word w_const) m ≡ true = search rules in
    let follows : (ts : Stream) → Follows IsSyntax syntax_of_TraitItem kept_trait_item ts (run_plan (trait_item_plan_after a) kept_trait_item ts m) c.trait_const.result c.trait_const.new.input =
    λ ts. const_follows kept_trait_item ts a m unmarked no_type no_function IsSyntax syntax_of_TraitItem c.trait_const.result c.trait_const.new.input here (c.trait_const.ensures.follows ts) in
    search (rules, follows)
