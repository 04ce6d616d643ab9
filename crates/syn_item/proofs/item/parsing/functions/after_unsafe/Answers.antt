use Rattle.std.proofs.Common.{◌≡◌, true, false, None, Some, rules}
use Rattle.syn_grammar.specs.Words.{w_auto, w_impl, w_mod, w_trait, w_unsafe}
use Rattle.syn_grammar.specs.Tokens.{Stream, and, at_word, or}
use Rattle.syn_grammar.specs.Rules.{kept_item, module_item}
use Rattle.syn_grammar.specs.Grammar.{Case, Node}
use Rattle.syn_grammar.specs.Table.{optional_item_word}
use Rattle.syn_grammar.specs.Plan.{run_plan}
use Rattle.syn_grammar.specs.Take.{sees}
use Rattle.syn_grammar.specs.Run.{parse_form, wrap}
use Rattle.syn_parse.specs.Peeks.{past}
use Rattle.syn_tokens.specs.Kinds.{unsafe_syntax}
use Rattle.syn_tokens.specs.Leaves.{maybe}
use Rattle.syn_lower.specs.Attributes.{attributes_syntax}
use Rattle.syn_lower.specs.Parsing.{IsSyntax}
use Rattle.syn_tree.specs.Restriction.{syntax_of_Visibility}
use Rattle.syn_item.specs.ItemForms.{module_form, module_of}
use Rattle.syn_item.specs.Items.{syntax_of_Item}
use Rattle.syn_item.specs.ItemStages.{place_of}
use Rattle.syn_item.specs.ItemTurns.{no_visibility, unsafe_turn}
use Rattle.syn_item.specs.Planned.{Follows}
use Rattle.syn_item.proofs.ItemWords.{impl_follows, mod_read, mod_refused, rest_follows, trait_follows}
use Rattle.std.specs.Prelude.{Err}
use Rattle.syn_item.proofs.Followed.{refused_by}
use Rattle.syn_item.proofs.item.parsing.functions.after_unsafe.Goals as goal

pub returns-in_err-item : goal.returns-in_err-item
returns-in_err-item c =
    let a = attributes_syntax c.args.begun.attrs.items in
    let v = syntax_of_Visibility c.args.begun.vis in
    let m = c.args.input.now in
    let p = place_of c.args.begun.place in
    let next : sees (at_word w_unsafe) m ≡ true = c.requires.next in
    let u = maybe unsafe_syntax c.in_ok-unsafety.unsafety in
    let r = c.read.new.self in
    let read : parse_form (optional_item_word w_unsafe) m ≡ Some (u, r) = search rules in
    let here : sees (at_word w_mod) (past m) ≡ true = search rules in
    let refused : (ts : Stream) → wrap (module_of a v u) (parse_form module_form r) ≡ None → run_plan (unsafe_turn p a v) kept_item ts m ≡ None = λ ts e. mod_refused kept_item ts p a v m next u r read here e in
    let fault : c.from_residual-in_err-item.result ≡ Err c.in_err-item.field-0.0 = search rules in
    record { follows = λ ts. refused_by IsSyntax syntax_of_Item kept_item ts (run_plan (unsafe_turn p a v) kept_item ts m) c.from_residual-in_err-item.result c.module.new.input c.in_err-item.field-0.0 fault (λ h. refused ts (c.in_err-item.ensures.reads h)) }

pub returns-then-peek2 : goal.returns-then-peek2
returns-then-peek2 c =
    let a = attributes_syntax c.args.begun.attrs.items in
    let v = syntax_of_Visibility c.args.begun.vis in
    let m = c.args.input.now in
    let p = place_of c.args.begun.place in
    let next : sees (at_word w_unsafe) m ≡ true = c.requires.next in
    let u = maybe unsafe_syntax c.in_ok-unsafety.unsafety in
    let r = c.read.new.self in
    let read : parse_form (optional_item_word w_unsafe) m ≡ Some (u, r) = search rules in
    let here : sees (at_word w_mod) (past m) ≡ true = search rules in
    let t = c.in_ok-item.item in
    let n = c.module.new.input in
    let made : wrap (module_of a v u) (parse_form module_form r) ≡ Some (t, n) = search rules in
    let whole : (ts : Stream) → run_plan (unsafe_turn p a v) kept_item ts m ≡ Some (Node (Case module_item t), n) = λ ts. mod_read kept_item ts p a v m next u r read here t n made in
    search (rules, whole)

pub returns-then-is_before_trait : goal.returns-then-is_before_trait
returns-then-is_before_trait c =
    let a = attributes_syntax c.args.begun.attrs.items in
    let v = syntax_of_Visibility c.args.begun.vis in
    let m = c.args.input.now in
    let p = place_of c.args.begun.place in
    let next : sees (at_word w_unsafe) m ≡ true = c.requires.next in
    let u = maybe unsafe_syntax c.in_ok-unsafety-2.unsafety in
    let r = c.read-then-is_before_trait.new.self in
    let read : parse_form (optional_item_word w_unsafe) m ≡ Some (u, r) = search rules in
    let no_mod : sees (at_word w_mod) (past m) ≡ false = search rules in
    let here : or (sees (at_word w_trait) (past m)) (sees (at_word w_auto) (past m)) ≡ true = search rules in
    let follows : (ts : Stream) → Follows IsSyntax syntax_of_Item kept_item ts (run_plan (unsafe_turn p a v) kept_item ts m) c.trait_after.result c.trait_after.new.input =
    λ ts. trait_follows kept_item ts p a v m next u r read no_mod IsSyntax syntax_of_Item c.trait_after.result c.trait_after.new.input here (c.trait_after.ensures.follows ts) in
    search (rules, follows)

pub returns-then-is_before_impl : goal.returns-then-is_before_impl
returns-then-is_before_impl c =
    let a = attributes_syntax c.args.begun.attrs.items in
    let v = syntax_of_Visibility c.args.begun.vis in
    let m = c.args.input.now in
    let p = place_of c.args.begun.place in
    let next : sees (at_word w_unsafe) m ≡ true = c.requires.next in
    let u = maybe unsafe_syntax c.in_ok-unsafety-3.unsafety in
    let r = c.read-then-is_before_impl.new.self in
    let read : parse_form (optional_item_word w_unsafe) m ≡ Some (u, r) = search rules in
    let no_mod : sees (at_word w_mod) (past m) ≡ false = search rules in
    let no_trait : or (sees (at_word w_trait) (past m)) (sees (at_word w_auto) (past m)) ≡ false = search rules in
    let here : and (no_visibility p) (sees (at_word w_impl) (past m)) ≡ true = search rules in
    let follows : (ts : Stream) → Follows IsSyntax syntax_of_Item kept_item ts (run_plan (unsafe_turn p a v) kept_item ts m) c.impl_after.result c.impl_after.new.input =
    λ ts. impl_follows kept_item ts p a v m next u r read no_mod IsSyntax syntax_of_Item c.impl_after.result c.impl_after.new.input no_trait here (c.impl_after.ensures.follows ts) in
    search (rules, follows)

pub returns : goal.returns
returns c =
    let a = attributes_syntax c.args.begun.attrs.items in
    let v = syntax_of_Visibility c.args.begun.vis in
    let m = c.args.input.now in
    let p = place_of c.args.begun.place in
    let next : sees (at_word w_unsafe) m ≡ true = c.requires.next in
    let no_mod : sees (at_word w_mod) (past m) ≡ false = search rules in
    let no_trait : or (sees (at_word w_trait) (past m)) (sees (at_word w_auto) (past m)) ≡ false = search rules in
    let no_impl : and (no_visibility p) (sees (at_word w_impl) (past m)) ≡ false = search rules in
    let follows : (ts : Stream) → Follows IsSyntax syntax_of_Item kept_item ts (run_plan (unsafe_turn p a v) kept_item ts m) c.module_or_function.result c.module_or_function.new.input =
    λ ts. rest_follows kept_item ts p a v m next IsSyntax syntax_of_Item c.module_or_function.result c.module_or_function.new.input no_mod no_trait no_impl (c.module_or_function.ensures.follows ts) in
    search (rules, follows)
