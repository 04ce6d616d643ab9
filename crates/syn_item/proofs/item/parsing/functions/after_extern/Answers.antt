use Rattle.std.proofs.Common.{◌≡◌, true, false, None, Some, rules}
use Rattle.syn_grammar.specs.Words.{w_crate}
use Rattle.syn_grammar.specs.Tokens.{Stream, at_word}
use Rattle.syn_grammar.specs.Rules.{extern_crate, kept_item}
use Rattle.syn_grammar.specs.Grammar.{Case, Node}
use Rattle.syn_grammar.specs.Table.{at_extern}
use Rattle.syn_grammar.specs.Plan.{run_plan}
use Rattle.syn_grammar.specs.Take.{sees}
use Rattle.syn_grammar.specs.Run.{parse_form, wrap}
use Rattle.syn_parse.specs.Peeks.{past}
use Rattle.syn_lower.specs.Attributes.{attributes_syntax}
use Rattle.syn_lower.specs.Parsing.{IsSyntax}
use Rattle.syn_tree.specs.Derive.{item_of}
use Rattle.syn_tree.specs.Restriction.{syntax_of_Visibility}
use Rattle.syn_item.specs.ItemForms.{crate_form}
use Rattle.syn_item.specs.Items.{syntax_of_Item}
use Rattle.syn_item.specs.ItemStages.{place_of}
use Rattle.syn_item.specs.ItemTurns.{extern_turn}
use Rattle.syn_item.specs.Planned.{Follows}
use Rattle.syn_item.proofs.ItemWords.{crate_read, crate_refused, no_crate_follows}
use Rattle.std.specs.Prelude.{Err}
use Rattle.syn_item.proofs.Followed.{refused_by}
use Rattle.syn_item.proofs.item.parsing.functions.after_extern.Goals as goal

pub returns-in_err-item : goal.returns-in_err-item
returns-in_err-item c =
    let a = attributes_syntax c.args.begun.attrs.items in
    let v = syntax_of_Visibility c.args.begun.vis in
    let m = c.args.input.now in
    let p = place_of c.args.begun.place in
    let here : sees (at_word w_crate) (past m) ≡ true = search rules in
    let refused : (ts : Stream) → wrap (item_of a v) (parse_form crate_form m) ≡ None → run_plan (extern_turn p a v) kept_item ts m ≡ None = λ ts e. crate_refused kept_item ts p a v m here e in
    let fault : c.from_residual.result ≡ Err c.in_err-item.field-0.0 = search rules in
    record { follows = λ ts. refused_by IsSyntax syntax_of_Item kept_item ts (run_plan (extern_turn p a v) kept_item ts m) c.from_residual.result c.extern_crate.new.input c.in_err-item.field-0.0 fault (λ h. refused ts (c.in_err-item.ensures.reads h)) }

pub returns-then-peek2 : goal.returns-then-peek2
returns-then-peek2 c =
    let a = attributes_syntax c.args.begun.attrs.items in
    let v = syntax_of_Visibility c.args.begun.vis in
    let m = c.args.input.now in
    let p = place_of c.args.begun.place in
    let here : sees (at_word w_crate) (past m) ≡ true = search rules in
    let t = c.in_ok-item.item in
    let r = c.extern_crate.new.input in
    let made : wrap (item_of a v) (parse_form crate_form m) ≡ Some (t, r) = search rules in
    let whole : (ts : Stream) → run_plan (extern_turn p a v) kept_item ts m ≡ Some (Node (Case extern_crate t), r) = λ ts. crate_read kept_item ts p a v m here t r made in
    search (rules, whole)

pub returns : goal.returns
returns c =
    let a = attributes_syntax c.args.begun.attrs.items in
    let v = syntax_of_Visibility c.args.begun.vis in
    let m = c.args.input.now in
    let p = place_of c.args.begun.place in
    let next : sees at_extern m ≡ true = c.requires.next in
    let none : sees (at_word w_crate) (past m) ≡ false = search rules in
    let follows : (ts : Stream) → Follows IsSyntax syntax_of_Item kept_item ts (run_plan (extern_turn p a v) kept_item ts m) c.module_or_function.result c.module_or_function.new.input =
    λ ts. no_crate_follows kept_item ts p a v m IsSyntax syntax_of_Item c.module_or_function.result c.module_or_function.new.input next none (c.module_or_function.ensures.follows ts) in
    search (rules, follows)
