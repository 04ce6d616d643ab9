use Rattle.std.proofs.Common.{◌≡◌, true, None, Some, rules}
use Rattle.syn_grammar.specs.Tokens.{Stream}
use Rattle.syn_grammar.specs.Words.{w_const, w_default, w_impl, w_unsafe}
use Rattle.syn_grammar.specs.Rules.{kept_item}
use Rattle.syn_grammar.specs.Grammar.{word}
use Rattle.syn_grammar.specs.Table.{optional_item_word}
use Rattle.syn_grammar.specs.Take.{take_token}
use Rattle.syn_grammar.specs.Run.{parse_form}
use Rattle.syn_grammar.specs.Plan.{run_plan}
use Rattle.syn_tokens.specs.Kinds.{const_syntax, default_syntax, impl_syntax, unsafe_syntax}
use Rattle.syn_tokens.specs.Leaves.{maybe}
use Rattle.syn_lower.specs.Attributes.{attributes_syntax}
use Rattle.syn_lower.specs.Parsing.{IsSyntax}
use Rattle.syn_item.specs.Items.{syntax_of_Item}
use Rattle.syn_item.specs.ItemTurns.{default_impl_turn, default_next}
use Rattle.syn_item.specs.Planned.{Follows}
use Rattle.syn_item.proofs.ItemImpls.{default_follows, impl_refused}
use Rattle.std.specs.Prelude.{Err}
use Rattle.syn_item.proofs.Followed.{refused_by}
use Rattle.syn_item.proofs.item.parsing.impls.default_impl.Goals as goal

pub returns-in_err-read-4 : goal.returns-in_err-read-4
returns-in_err-read-4 c =
    let a = attributes_syntax c.args.begun.attrs.items in
    let m = c.args.input.now in
    let d = maybe default_syntax c.in_ok-read.field-0 in
    let k = maybe const_syntax c.in_ok-read-2.field-0 in
    let u = maybe unsafe_syntax c.in_ok-read-3.field-0 in
    let r = c.read.new.self in
    let q = c.read-2.new.self in
    let n = c.read-3.new.self in
    let here : default_next m ≡ true = search rules in
    let default_read : parse_form (optional_item_word w_default) m ≡ Some (d, r) = search rules in
    let const_read : parse_form (optional_item_word w_const) r ≡ Some (k, q) = search rules in
    let unsafe_read : parse_form (optional_item_word w_unsafe) q ≡ Some (u, n) = search rules in
    let refused : (ts : Stream) → take_token (word w_impl) n ≡ None → run_plan (default_impl_turn a) kept_item ts m ≡ None =
    λ ts e. impl_refused kept_item ts a m here d r default_read k q const_read u n unsafe_read e in
    let fault : c.from_residual-in_err-read-4.result ≡ Err c.in_err-read-4.field-0.0 = search rules in
    record { follows = λ ts. refused_by IsSyntax syntax_of_Item kept_item ts (run_plan (default_impl_turn a) kept_item ts m) c.from_residual-in_err-read-4.result c.read-4.new.self c.in_err-read-4.field-0.0 fault (λ h. refused ts (c.in_err-read-4.ensures.reads h)) }

pub returns : goal.returns
returns c =
    let a = attributes_syntax c.args.begun.attrs.items in
    let m = c.args.input.now in
    let d = maybe default_syntax c.in_ok-read.field-0 in
    let k = maybe const_syntax c.in_ok-read-2.field-0 in
    let u = maybe unsafe_syntax c.in_ok-read-3.field-0 in
    let r = c.read.new.self in
    let q = c.read-2.new.self in
    let n = c.read-3.new.self in
    let here : default_next m ≡ true = search rules in
    let default_read : parse_form (optional_item_word w_default) m ≡ Some (d, r) = search rules in
    let const_read : parse_form (optional_item_word w_const) r ≡ Some (k, q) = search rules in
    let unsafe_read : parse_form (optional_item_word w_unsafe) q ≡ Some (u, n) = search rules in
    let w = impl_syntax c.in_ok-read-4.field-0 in
    let z = c.read-4.new.self in
    let word_read : take_token (word w_impl) n ≡ Some (w, z) = search rules in
    let follows : (ts : Stream) → Follows IsSyntax syntax_of_Item kept_item ts (run_plan (default_impl_turn a) kept_item ts m) c.after_marks.result c.after_marks.new.input =
    λ ts. default_follows kept_item ts a m here d r default_read k q const_read u n unsafe_read IsSyntax syntax_of_Item c.after_marks.result c.after_marks.new.input w z word_read (c.after_marks.ensures.follows ts) in
    search (rules, follows)
