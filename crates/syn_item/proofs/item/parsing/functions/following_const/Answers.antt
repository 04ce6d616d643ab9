use Rattle.std.proofs.Common.{◌≡◌, true, false, Some, rules}
use Rattle.syn_grammar.specs.Words.{w_async, w_auto, w_const, w_fn, w_impl, w_trait, w_unsafe}
use Rattle.syn_grammar.specs.Tokens.{Stream, and, at_word, or}
use Rattle.syn_grammar.specs.Rules.{kept_item}
use Rattle.syn_grammar.specs.Table.{at_extern, item_word, optional_item_word}
use Rattle.syn_grammar.specs.Plan.{run_plan}
use Rattle.syn_grammar.specs.Take.{sees}
use Rattle.syn_grammar.specs.Run.{parse_form}
use Rattle.syn_parse.specs.Peeks.{past}
use Rattle.syn_tokens.specs.Kinds.{const_syntax}
use Rattle.syn_tokens.specs.Leaves.{maybe}
use Rattle.syn_lower.specs.Attributes.{attributes_syntax}
use Rattle.syn_lower.specs.Parsing.{IsSyntax}
use Rattle.syn_tree.specs.Restriction.{syntax_of_Visibility}
use Rattle.syn_item.specs.Items.{syntax_of_Item}
use Rattle.syn_item.specs.ItemStages.{place_of}
use Rattle.syn_item.specs.ItemTurns.{const_turn}
use Rattle.syn_item.specs.Planned.{Follows}
use Rattle.syn_item.proofs.ConstPlans.{auto_follows, const_follows, function_follows, impl_follows, trait_follows}
use Rattle.syn_item.proofs.item.parsing.functions.following_const.Goals as goal

pub returns-then-peek2-2 : goal.returns-then-peek2-2
returns-then-peek2-2 c =
    let a = attributes_syntax c.args.begun.attrs.items in
    let v = syntax_of_Visibility c.args.begun.vis in
    let m = c.args.input.now in
    let p = place_of c.args.begun.place in
    let k = const_syntax c.in_ok-const_token.const_token in
    let r = c.read.new.self in
    let word_read : parse_form (item_word w_const) m ≡ Some (k, r) = search rules in
    let no_unsafe : sees (at_word w_unsafe) (past m) ≡ false = search rules in
    let here : sees (at_word w_trait) (past m) ≡ true = search rules in
    let follows : (ts : Stream) → Follows IsSyntax syntax_of_Item kept_item ts (run_plan (const_turn p a v) kept_item ts m) c.const_trait.result c.const_trait.new.input =
    λ ts. trait_follows kept_item ts p a v m IsSyntax syntax_of_Item c.const_trait.result c.const_trait.new.input no_unsafe k r word_read here (c.const_trait.ensures.follows ts) in
    search (rules, follows)

pub returns-then-is_before_auto : goal.returns-then-is_before_auto
returns-then-is_before_auto c =
    let a = attributes_syntax c.args.begun.attrs.items in
    let v = syntax_of_Visibility c.args.begun.vis in
    let m = c.args.input.now in
    let p = place_of c.args.begun.place in
    let next : sees (at_word w_const) m ≡ true = c.requires.next in
    let k = maybe const_syntax c.in_ok-constness.constness in
    let r = c.read-then-is_before_auto.new.self in
    let const_read : parse_form (optional_item_word w_const) m ≡ Some (k, r) = search rules in
    let no_unsafe : sees (at_word w_unsafe) (past m) ≡ false = search rules in
    let no_trait : sees (at_word w_trait) (past m) ≡ false = search rules in
    let here : and (sees (at_word w_auto) (past m)) (sees (at_word w_trait) (past (past m))) ≡ true = search rules in
    let follows : (ts : Stream) → Follows IsSyntax syntax_of_Item kept_item ts (run_plan (const_turn p a v) kept_item ts m) c.trait_after.result c.trait_after.new.input =
    λ ts. auto_follows kept_item ts p a v m IsSyntax syntax_of_Item c.trait_after.result c.trait_after.new.input no_unsafe no_trait next k r const_read here (c.trait_after.ensures.follows ts) in
    search (rules, follows)

pub returns-then-peek2-3 : goal.returns-then-peek2-3
returns-then-peek2-3 c =
    let a = attributes_syntax c.args.begun.attrs.items in
    let v = syntax_of_Visibility c.args.begun.vis in
    let m = c.args.input.now in
    let p = place_of c.args.begun.place in
    let next : sees (at_word w_const) m ≡ true = c.requires.next in
    let k = maybe const_syntax c.in_ok-constness-2.constness in
    let r = c.read-then-peek2-3.new.self in
    let const_read : parse_form (optional_item_word w_const) m ≡ Some (k, r) = search rules in
    let no_unsafe : sees (at_word w_unsafe) (past m) ≡ false = search rules in
    let no_trait : sees (at_word w_trait) (past m) ≡ false = search rules in
    let no_auto : and (sees (at_word w_auto) (past m)) (sees (at_word w_trait) (past (past m))) ≡ false = search rules in
    let here : sees (at_word w_impl) (past m) ≡ true = search rules in
    let follows : (ts : Stream) → Follows IsSyntax syntax_of_Item kept_item ts (run_plan (const_turn p a v) kept_item ts m) c.const_impl.result c.const_impl.new.input =
    λ ts. impl_follows kept_item ts p a v m IsSyntax syntax_of_Item c.const_impl.result c.const_impl.new.input no_unsafe no_trait next no_auto k r const_read here (c.const_impl.ensures.follows ts) in
    search (rules, follows)

pub returns-then-is_before_function : goal.returns-then-is_before_function
returns-then-is_before_function c =
    let a = attributes_syntax c.args.begun.attrs.items in
    let v = syntax_of_Visibility c.args.begun.vis in
    let m = c.args.input.now in
    let p = place_of c.args.begun.place in
    let next : sees (at_word w_const) m ≡ true = c.requires.next in
    let no_unsafe : sees (at_word w_unsafe) (past m) ≡ false = search rules in
    let no_trait : sees (at_word w_trait) (past m) ≡ false = search rules in
    let no_auto : and (sees (at_word w_auto) (past m)) (sees (at_word w_trait) (past (past m))) ≡ false = search rules in
    let no_impl : sees (at_word w_impl) (past m) ≡ false = search rules in
    let here : or (sees (at_word w_async) (past m)) (or (sees at_extern (past m)) (sees (at_word w_fn) (past m))) ≡ true = search rules in
    let follows : (ts : Stream) → Follows IsSyntax syntax_of_Item kept_item ts (run_plan (const_turn p a v) kept_item ts m) c.function_or_kept.result c.function_or_kept.new.input =
    λ ts. function_follows kept_item ts p a v m IsSyntax syntax_of_Item c.function_or_kept.result c.function_or_kept.new.input no_unsafe no_trait next no_auto no_impl here (c.function_or_kept.ensures.follows ts) in
    search (rules, follows)

pub returns : goal.returns
returns c =
    let a = attributes_syntax c.args.begun.attrs.items in
    let v = syntax_of_Visibility c.args.begun.vis in
    let m = c.args.input.now in
    let p = place_of c.args.begun.place in
    let next : sees (at_word w_const) m ≡ true = c.requires.next in
    let no_unsafe : sees (at_word w_unsafe) (past m) ≡ false = search rules in
    let no_trait : sees (at_word w_trait) (past m) ≡ false = search rules in
    let no_auto : and (sees (at_word w_auto) (past m)) (sees (at_word w_trait) (past (past m))) ≡ false = search rules in
    let no_impl : sees (at_word w_impl) (past m) ≡ false = search rules in
    let no_function : or (sees (at_word w_async) (past m)) (or (sees at_extern (past m)) (sees (at_word w_fn) (past m))) ≡ false = search rules in
    let follows : (ts : Stream) → Follows IsSyntax syntax_of_Item kept_item ts (run_plan (const_turn p a v) kept_item ts m) c.const_or_kept.result c.const_or_kept.new.input =
    λ ts. const_follows kept_item ts p a v m IsSyntax syntax_of_Item c.const_or_kept.result c.const_or_kept.new.input no_unsafe no_trait next no_auto no_impl no_function (c.const_or_kept.ensures.follows ts) in
    search (rules, follows)
