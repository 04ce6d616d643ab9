use Rattle.std.proofs.Common.{◌≡◌, true, false, None, Some, rules}
use Rattle.syn_grammar.specs.Tokens.{Stream}
use Rattle.syn_grammar.specs.Rules.{kept_item, type_item, where_clause}
use Rattle.syn_grammar.specs.Grammar.{Both, Case, Node}
use Rattle.syn_grammar.specs.Table.{at_colon}
use Rattle.syn_grammar.specs.Take.{sees}
use Rattle.syn_grammar.specs.Run.{parse_form, parse_rule, wrap}
use Rattle.syn_grammar.specs.Plan.{run_plan}
use Rattle.syn_grammar.specs.ItemPlan.{type_plan}
use Rattle.syn_tokens.specs.Kinds.{type_syntax}
use Rattle.syn_tokens.specs.Leaves.{syntax_of_ident}
use Rattle.syn_lower.specs.Attributes.{attributes_syntax}
use Rattle.syn_lower.specs.Parts.{first}
use Rattle.syn_tree.specs.Restriction.{syntax_of_Visibility}
use Rattle.syn_item.specs.ImplForms.{type_head_form}
use Rattle.syn_item.specs.ItemForms.{alias_end_form, alias_syntax}
use Rattle.syn_item.specs.NextWords.{equals_ahead}
use Rattle.syn_item.specs.Planned.{OnlyKept}
use Rattle.syn_item.proofs.TypePlans.{alias_read, colon_kept, no_alias_kept}
use Rattle.syn_item.proofs.item.parsing.kept.type_or_kept.Goals as goal

pub returns-then-peek : goal.returns-then-peek
returns-then-peek c =
    let a = attributes_syntax c.args.begun.attrs.items in
    let v = syntax_of_Visibility c.args.begun.vis in
    let m = c.args.input.now in
    let h = c.in_ok-head.head in
    let t = type_syntax h.0 in
    let n = syntax_of_ident h.1 in
    let g = first h.2 in
    let q = c.type_head.new.input in
    let head : parse_form type_head_form m ≡ Some (Both t (Both n g), q) = search rules in
    let here : sees at_colon q ≡ true = search rules in
    let kept : (ts : Stream) → OnlyKept kept_item ts (run_plan (type_plan a v) kept_item ts m) = λ ts. colon_kept kept_item ts a v m t n g q head here in
    search (rules, kept)

pub returns-then-not-branch : goal.returns-then-not-branch
returns-then-not-branch c =
    let a = attributes_syntax c.args.begun.attrs.items in
    let v = syntax_of_Visibility c.args.begun.vis in
    let m = c.args.input.now in
    let h = c.in_ok-head.head in
    let t = type_syntax h.0 in
    let n = syntax_of_ident h.1 in
    let g = first h.2 in
    let q = c.type_head.new.input in
    let head : parse_form type_head_form m ≡ Some (Both t (Both n g), q) = search rules in
    let no_colon : sees at_colon q ≡ false = search rules in
    let none : equals_ahead (parse_rule where_clause q) ≡ false = search rules in
    let kept : (ts : Stream) → OnlyKept kept_item ts (run_plan (type_plan a v) kept_item ts m) = λ ts. no_alias_kept kept_item ts a v m t n g q head no_colon none in
    search (rules, kept)

pub returns : goal.returns
returns c =
    let a = attributes_syntax c.args.begun.attrs.items in
    let v = syntax_of_Visibility c.args.begun.vis in
    let m = c.args.input.now in
    let h = c.in_ok-head.head in
    let t = type_syntax h.0 in
    let n = syntax_of_ident h.1 in
    let g = first h.2 in
    let q = c.type_head.new.input in
    let head : parse_form type_head_form m ≡ Some (Both t (Both n g), q) = search rules in
    let no_colon : sees at_colon q ≡ false = search rules in
    let ahead : equals_ahead (parse_rule where_clause q) ≡ true = search rules in
    let x = c.in_ok-item.item in
    let r = c.type_after_head.new.input in
    let made : wrap (alias_syntax a v t n g) (parse_form alias_end_form q) ≡ Some (x, r) = search rules in
    let read : (ts : Stream) → run_plan (type_plan a v) kept_item ts m ≡ Some (Node (Case type_item x), r) = λ ts. alias_read kept_item ts a v m t n g q head no_colon ahead x r made in
    search (rules, read)
