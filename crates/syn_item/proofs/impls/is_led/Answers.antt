use Rattle.std.proofs.Common.{◌≡◌, true, false, None, rules}
use Rattle.syn_grammar.specs.Tokens.{at_generics}
use Rattle.syn_grammar.specs.Grammar.{led, print, renew}
use Rattle.syn_grammar.specs.Take.{sees}
use Rattle.syn_lower.specs.Types.{syntax_of_Type}
use Rattle.syn_item.specs.Impls.{after_generics}
use Rattle.syn_item.proofs.ImplForms.{led_after_for, led_first, led_without}
use Rattle.syn_item.proofs.impls.is_led.Goals as goal

pub returns-then-at_generics : goal.returns-then-at_generics
returns-then-at_generics c =
    let v = c.args.item.now in
    let first : sees at_generics (print (after_generics v)) ≡ true = search rules in
    let made : true ≡ led (renew (after_generics v)) = led_first c.item.inside v c.item.view_is first in
    search (rules, made)

pub returns-in_ok-self_ty-in-Some : goal.returns-in_ok-self_ty-in-Some
returns-in_ok-self_ty-in-Some c =
    let v = c.args.item.now in
    let later : sees at_generics (print (after_generics v)) ≡ false = search rules in
    let made : sees at_generics (print (syntax_of_Type c.item.inside.self_ty.value)) ≡ led (renew (after_generics v)) = search (rules, led_after_for c.item.inside v c.item.view_is later) in
    search (rules, made)

pub returns-in-None : goal.returns-in-None
returns-in-None c =
    let v = c.args.item.now in
    let later : sees at_generics (print (after_generics v)) ≡ false = search rules in
    let none : c.item.inside.trait_ ≡ None = search rules in
    let made : false ≡ led (renew (after_generics v)) = led_without c.item.inside v c.item.view_is later none in
    search (rules, made)
