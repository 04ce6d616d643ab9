use Rattle.std.proofs.Common.{◌≡◌, ◌<◌, true, false, Some, None, sym, ap, ◌∙◌, rules, arith}
use Rattle.std.specs.Prelude.{Option}
use Rattle.syn_grammar.specs.Words.{comma}
use Rattle.syn_grammar.specs.Tokens.{ended}
use Rattle.syn_grammar.specs.Rules.{inputs}
use Rattle.syn_grammar.specs.Grammar.{Nothing, Left, Right}
use Rattle.syn_grammar.specs.Table.{at_comma}
use Rattle.syn_grammar.specs.Take.{left, sees, take_mark}
use Rattle.syn_grammar.specs.Run.{parse_rule}
use Rattle.syn_tokens.specs.Kinds.{Comma, comma_syntax}
use Rattle.syn_tokens.specs.Lists.{Sequence}
use Rattle.syn_item.specs.SignatureForms.{is_first, parameter_syntax, read_parameter}
use Rattle.syn_item.specs.Signatures.{syntax_of_FnArg}
use Rattle.syn_item.specs.declared.sig.FnArg.TheVariants as FnArg-m
use Rattle.syn_item.proofs.Inputs.{all_read, grown, last_one, made_of, no_comma, none_more, one_more, so_far, variadic_one}
use Rattle.syn_item.proofs.sig.parameters.parameters.Goals as goal

pub returns-in_err-arg-clause-reads : goal.returns-in_err-arg-clause-reads
returns-in_err-arg-clause-reads c =
    let l = c.parameters.inputs.pairs in
    let ts = c.parameters.input in
    let proceeds : sees ended ts ≡ false = search rules in
    let bare = c.parameters.invariant.1 in
    let refused : read_parameter (is_first l c.parameters.inputs.last) ts ≡ None → parse_rule inputs c.args.input.now ≡ None =
    (λ e. c.parameters.invariant.2 ∙ so_far c.parameters.inputs ts bare ∙ none_more l ts proceeds (ap (λ (o : Option FnArg-m.the_data). read_parameter (is_first l o) ts) (sym bare) ∙ e)) in
    search (rules, refused)

pub returns-in-Variadic-clause-reads : goal.returns-in-Variadic-clause-reads
returns-in-Variadic-clause-reads c =
    let l = c.parameters.inputs.pairs in
    let ts = c.parameters.input in
    let v = c.in-Variadic.last in
    let m = c.parameter.new.input in
    let bare = c.parameters.invariant.1 in
    let proceeds : sees ended ts ≡ false = search rules in
    let got : read_parameter (is_first {B = FnArg-m.the_data} l None) ts ≡ Some (Right v, m) =
    ap (λ (o : Option FnArg-m.the_data). read_parameter (is_first l o) ts) (sym bare) ∙ c.in_ok-arg.ensures.reads ∙ ap (λ z. Some (parameter_syntax z, m)) c.in-Variadic.is in
    let made = c.before_variadic.ensures in
    let kept : c.parameters.inputs ≡ record { pairs = l; last = None } = ap (λ (o : Option FnArg-m.the_data). record { pairs = l; last = o }) bare in
    c.parameters.invariant.2 ∙ so_far c.parameters.inputs ts bare ∙ variadic_one l ts proceeds v m got ∙ made_of c.before_variadic.result.inputs (record { pairs = l; last = None }) _ (Left v) m (made.inputs ∙ kept) made.variadic

pub returns-then-not-peek-clause-reads : goal.returns-then-not-peek-clause-reads
returns-then-not-peek-clause-reads c =
    let l = c.parameters.inputs.pairs in
    let ts = c.parameters.input in
    let x = c.in-Input.arg in
    let m = c.parameter.new.input in
    let bare = c.parameters.invariant.1 in
    let proceeds : sees ended ts ≡ false = search rules in
    let got : read_parameter (is_first {B = FnArg-m.the_data} l None) ts ≡ Some (Left (syntax_of_FnArg x), m) =
    ap (λ (o : Option FnArg-m.the_data). read_parameter (is_first l o) ts) (sym bare) ∙ c.in_ok-arg.ensures.reads ∙ ap (λ z. Some (parameter_syntax z, m)) c.in-Input.is in
    let none : sees at_comma m ≡ false = search rules in
    let made = c.without_variadic.ensures in
    c.parameters.invariant.2 ∙ so_far c.parameters.inputs ts bare ∙ last_one l ts proceeds x m got none
    ∙ made_of c.without_variadic.result.inputs (record { pairs = l; last = Some x }) _ (Right Nothing) m (made.inputs ∙ c.in_ok-push_value.ensures.ok) made.variadic

pub returns-in_err-comma-clause-reads : goal.returns-in_err-comma-clause-reads
returns-in_err-comma-clause-reads c =
    let l = c.parameters.inputs.pairs in
    let ts = c.parameters.input in
    let x = c.in-Input.arg in
    let m = c.parameter.new.input in
    let bare = c.parameters.invariant.1 in
    let proceeds : sees ended ts ≡ false = search rules in
    let got : read_parameter (is_first {B = FnArg-m.the_data} l None) ts ≡ Some (Left (syntax_of_FnArg x), m) =
    ap (λ (o : Option FnArg-m.the_data). read_parameter (is_first l o) ts) (sym bare) ∙ c.in_ok-arg.ensures.reads ∙ ap (λ z. Some (parameter_syntax z, m)) c.in-Input.is in
    let next : sees at_comma m ≡ true = search rules in
    let refused : take_mark comma m ≡ None → parse_rule inputs c.args.input.now ≡ None =
    (λ k. c.parameters.invariant.2 ∙ so_far c.parameters.inputs ts bare ∙ no_comma l ts proceeds x m got next k) in
    search (rules, refused)

pub parameters-preserved : goal.parameters-preserved
parameters-preserved c =
    let l = c.parameters.inputs.pairs in
    let ts = c.parameters.input in
    let x = c.in-Input.arg in
    let m = c.parameter.new.input in
    let q = c.in_ok-comma.comma in
    let r = c.read.new.self in
    let bare = c.parameters.invariant.1 in
    let less : left m < left ts = search rules in
    let lesser : left r < left m = search rules in
    let proceeds : sees ended ts ≡ false = search rules in
    let got : read_parameter (is_first {B = FnArg-m.the_data} l None) ts ≡ Some (Left (syntax_of_FnArg x), m) =
    ap (λ (o : Option FnArg-m.the_data). read_parameter (is_first l o) ts) (sym bare) ∙ c.in_ok-arg.ensures.reads ∙ ap (λ z. Some (parameter_syntax z, m)) c.in-Input.is in
    let next : sees at_comma m ≡ true = search rules in
    let sign : take_mark comma m ≡ Some (comma_syntax q, r) = search rules in
    let pushed = c.in_ok-push_pair.ensures.ok in (
      omega (arith, c.parameters.invariant.0, less, lesser),
      ap (λ (k : Sequence FnArg-m.the_data Comma). k.last) pushed,
      c.parameters.invariant.2 ∙ so_far c.parameters.inputs ts bare ∙ one_more l ts proceeds x q m r got next sign ∙ grown c.push_pair.new.self l x q r pushed,
    )

pub returns-clause-reads : goal.returns-clause-reads
returns-clause-reads c =
    let l = c.parameters.inputs.pairs in
    let ts = c.parameters.input in
    let bare = c.parameters.invariant.1 in
    let done : sees ended ts ≡ true = search rules in
    let made = c.without_variadic-2.ensures in
    let kept : c.parameters.inputs ≡ record { pairs = l; last = None } = ap (λ (o : Option FnArg-m.the_data). record { pairs = l; last = o }) bare in
    c.parameters.invariant.2 ∙ so_far c.parameters.inputs ts bare ∙ all_read l ts done ∙ made_of c.without_variadic-2.result.inputs (record { pairs = l; last = None }) _ (Right Nothing) ts (made.inputs ∙ kept) made.variadic
