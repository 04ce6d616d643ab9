use Rattle.std.proofs.Common.{◌≡◌, true, false, None, Some, rules}
use Rattle.syn_grammar.specs.Words.{w_unsafe}
use Rattle.syn_grammar.specs.Tokens.{Stream, and, at_word, or}
use Rattle.syn_grammar.specs.Rules.{foreign_module, foreign_module_rest, kept_item}
use Rattle.syn_grammar.specs.Grammar.{Both, Case, Node}
use Rattle.syn_grammar.specs.Table.{at_extern}
use Rattle.syn_grammar.specs.Plan.{run_plan}
use Rattle.syn_grammar.specs.Take.{sees}
use Rattle.syn_grammar.specs.Run.{parse_rule, wrap}
use Rattle.syn_lower.specs.Attributes.{attributes_syntax}
use Rattle.syn_lower.specs.Parsing.{IsSyntax}
use Rattle.syn_tree.specs.Restriction.{syntax_of_Visibility}
use Rattle.syn_item.specs.Items.{syntax_of_Item}
use Rattle.syn_item.specs.ItemStages.{place_of}
use Rattle.syn_item.specs.ItemTurns.{module_next, module_or_function_turn, no_visibility}
use Rattle.syn_item.specs.Planned.{Follows}
use Rattle.syn_item.proofs.ForeignOrFunction.{function_follows, module_read, module_refused}
use Rattle.std.specs.Prelude.{Err}
use Rattle.syn_item.proofs.Followed.{refused_by}
use Rattle.syn_item.proofs.item.parsing.functions.module_or_function.Goals as goal

pub returns-in_err-item : goal.returns-in_err-item
returns-in_err-item c =
    let a = attributes_syntax c.args.begun.attrs.items in
    let v = syntax_of_Visibility c.args.begun.vis in
    let m = c.args.input.now in
    let p = place_of c.args.begun.place in
    let next : or (sees at_extern m) (sees (at_word w_unsafe) m) ≡ true = c.requires.next in
    let here : and (no_visibility p) (module_next m) ≡ true = search rules in
    let refused : (ts : Stream) → wrap (Both a) (parse_rule foreign_module_rest m) ≡ None → run_plan (module_or_function_turn p a v) kept_item ts m ≡ None = λ ts e. module_refused kept_item ts p a v m next here e in
    let fault : c.from_residual-in_err-item.result ≡ Err c.in_err-item.field-0.0 = search rules in
    record { follows = λ ts. refused_by IsSyntax syntax_of_Item kept_item ts (run_plan (module_or_function_turn p a v) kept_item ts m) c.from_residual-in_err-item.result c.foreign_module_rest.new.input c.in_err-item.field-0.0 fault (λ h. refused ts (c.in_err-item.ensures.reads h)) }

pub returns-then-branch : goal.returns-then-branch
returns-then-branch c =
    let a = attributes_syntax c.args.begun.attrs.items in
    let v = syntax_of_Visibility c.args.begun.vis in
    let m = c.args.input.now in
    let p = place_of c.args.begun.place in
    let next : or (sees at_extern m) (sees (at_word w_unsafe) m) ≡ true = c.requires.next in
    let here : and (no_visibility p) (module_next m) ≡ true = search rules in
    let t = c.in_ok-item.item in
    let r = c.foreign_module_rest.new.input in
    let made : wrap (Both a) (parse_rule foreign_module_rest m) ≡ Some (t, r) = search rules in
    let whole : (ts : Stream) → run_plan (module_or_function_turn p a v) kept_item ts m ≡ Some (Node (Case foreign_module t), r) = λ ts. module_read kept_item ts p a v m next here t r made in
    search (rules, whole)

pub returns : goal.returns
returns c =
    let a = attributes_syntax c.args.begun.attrs.items in
    let v = syntax_of_Visibility c.args.begun.vis in
    let m = c.args.input.now in
    let p = place_of c.args.begun.place in
    let next : or (sees at_extern m) (sees (at_word w_unsafe) m) ≡ true = c.requires.next in
    let none : and (no_visibility p) (module_next m) ≡ false = search rules in
    let follows : (ts : Stream) → Follows IsSyntax syntax_of_Item kept_item ts (run_plan (module_or_function_turn p a v) kept_item ts m) c.function_or_kept.result c.function_or_kept.new.input =
    λ ts. function_follows kept_item ts p a v m IsSyntax syntax_of_Item c.function_or_kept.result c.function_or_kept.new.input next none (c.function_or_kept.ensures.follows ts) in
    search (rules, follows)
