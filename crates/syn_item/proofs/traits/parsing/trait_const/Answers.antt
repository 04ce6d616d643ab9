use Rattle.std.proofs.Common.{◌≡◌, true, false, Some, rules}
use Rattle.syn_grammar.specs.Tokens.{Stream}
use Rattle.syn_grammar.specs.Words.{colon, w_const}
use Rattle.syn_grammar.specs.Rules.{kept_trait_item, type}
use Rattle.syn_grammar.specs.Grammar.{word}
use Rattle.syn_grammar.specs.Forms.{plainly, punctuation}
use Rattle.syn_grammar.specs.Table.{at_less, at_semicolon, name_or_underscore, optional_value}
use Rattle.syn_grammar.specs.Take.{sees}
use Rattle.syn_grammar.specs.Run.{parse_form, parse_rule}
use Rattle.syn_grammar.specs.Plan.{run_plan}
use Rattle.syn_grammar.specs.Promises.{itself}
use Rattle.syn_tokens.specs.InOrder.{pair_of}
use Rattle.syn_tokens.specs.Kinds.{colon_syntax, const_syntax, eq_syntax}
use Rattle.syn_tokens.specs.Leaves.{maybe, syntax_of_ident}
use Rattle.syn_lower.specs.Attributes.{attributes_syntax}
use Rattle.syn_lower.specs.Types.{syntax_of_Type}
use Rattle.syn_item.specs.Planned.{OnlyKept}
use Rattle.syn_item.specs.Stages.{trait_const_or_kept}
use Rattle.syn_item.proofs.TraitPlans.{clause_kept, generics_kept}
use Rattle.syn_item.proofs.traits.parsing.trait_const.Goals as goal

pub returns-then-peek : goal.returns-then-peek
returns-then-peek c =
    let a = attributes_syntax c.args.attrs.items in
    let m = c.args.input.now in
    let k = const_syntax c.in_ok-const_token.const_token in
    let n = syntax_of_ident c.in_ok-ident.ident in
    let r = c.read.new.self in
    let q = c.name_or.new.input in
    let word_read : parse_form (plainly (word w_const)) m ≡ Some (k, r) = search rules in
    let name_read : parse_form name_or_underscore r ≡ Some (n, q) = search rules in
    let here : sees at_less q ≡ true = search rules in
    let kept : (ts : Stream) → OnlyKept kept_trait_item ts (run_plan (trait_const_or_kept a) kept_trait_item ts m) = λ ts. generics_kept kept_trait_item ts a k n m r q word_read name_read here in
    search (rules, kept)

pub returns-then-not-peek : goal.returns-then-not-peek
returns-then-not-peek c =
    let a = attributes_syntax c.args.attrs.items in
    let m = c.args.input.now in
    let k = const_syntax c.in_ok-const_token.const_token in
    let n = syntax_of_ident c.in_ok-ident.ident in
    let s = colon_syntax c.in_ok-colon_token.colon_token in
    let t = syntax_of_Type c.in_ok-ty.ty in
    let e = maybe (pair_of eq_syntax itself) c.in_ok-default.default in
    let r = c.read.new.self in
    let q = c.name_or.new.input in
    let q1 = c.read-2.new.self in
    let q2 = c.read-3.new.self in
    let q3 = c.after_equals.new.input in
    let word_read : parse_form (plainly (word w_const)) m ≡ Some (k, r) = search rules in
    let name_read : parse_form name_or_underscore r ≡ Some (n, q) = search rules in
    let no_less : sees at_less q ≡ false = search rules in
    let colon_read : parse_form (punctuation colon) q ≡ Some (s, q1) = search rules in
    let type_read : parse_rule type q1 ≡ Some (t, q2) = search rules in
    let value_read : parse_form optional_value q2 ≡ Some (e, q3) = search rules in
    let no_end : sees at_semicolon q3 ≡ false = search rules in
    let kept : (ts : Stream) → OnlyKept kept_trait_item ts (run_plan (trait_const_or_kept a) kept_trait_item ts m) =
    λ ts. clause_kept kept_trait_item ts a k n m r q word_read name_read s t e q1 q2 q3 no_less colon_read type_read value_read no_end in
    search (rules, kept)
