-- The normal form of a value is determined by the normal form of its tree, and of trees that one rule derives it determines it.
use Rattle.std.proofs.Common.{◌≡◌, refl, sym, ap, ap₂, ◌∙◌, subst}
use Rattle.syn_grammar.specs.Tokens.{call_site, plain}
use Rattle.syn_grammar.specs.Grammar.{Syntax, Both, Left, Right, Node, Vanishing, Group, Case, Such, Shaped, Impl, Unshown, Captured, Last, More, Order, plain_syntax, plain_mark, renew, print, normal}
use Rattle.syn_grammar.specs.Values.{shape}
use Rattle.syn_grammar.specs.Run.{value_of}
use Rattle.syn_grammar.specs.Laws.{Derives, SameValueForm}
use Rattle.syn_grammar.specs.Computed.{ValuePrintIsRead, ValuesSameForm}
use Rattle.syn_grammar.proofs.Plain.{print_normal}
use Rattle.syn_grammar.proofs.PlainValues.{plain_shape}
use Rattle.syn_grammar.proofs.PrintedValues.{bleach, bleach_renew, print_value}
use Rattle.syn_grammar.proofs.Proved.{print_is_read, same_form}

bleach_plain : (s : Syntax) → plain_syntax (bleach s) ≡ bleach (plain_syntax s)
bleach_plain (Both s t) = ap₂ Both (bleach_plain s) (bleach_plain t)
bleach_plain (Left s) = ap Left (bleach_plain s)
bleach_plain (Right s) = ap Right (bleach_plain s)
bleach_plain (Node s) = ap Node (bleach_plain s)
bleach_plain (Vanishing b s) = ap (Vanishing b) (bleach_plain s)
bleach_plain (Group d o c s) = ap (Group d call_site call_site) (bleach_plain s)
bleach_plain (Case k s) = ap (Case k) (bleach_plain s)
bleach_plain (Such s) = ap Such (bleach_plain s)
bleach_plain (Shaped j s) = plain_shape j (bleach s) ∙ ap (shape j) (bleach_plain s)
bleach_plain (Impl l s) = ap₂ Impl (bleach_plain l) (bleach_plain s)
bleach_plain (Unshown s) = ap Unshown (bleach_plain s)
bleach_plain (Captured s i) = refl
bleach_plain (Last k s) = ap (Last k) (bleach_plain s)
bleach_plain (More k s sp t) = ap₂ (λ a b. More k a call_site b) (bleach_plain s) (bleach_plain t)
bleach_plain (Order xs l ys) = ap (λ a. Order (plain_mark xs) a (plain_mark ys)) (bleach_plain l)
bleach_plain _ = refl

normal_value : (s : Syntax) → normal (value_of s) ≡ bleach (normal s)
normal_value s = ap plain_syntax (bleach_renew s) ∙ bleach_plain (renew s)

prints_of_value : (s : Syntax) → print (normal (value_of s)) ≡ plain (print s)
prints_of_value s = print_normal (value_of s) ∙ ap plain (print_value s)

pub same_value_form : SameValueForm
same_value_form k a b s t d e = (λ p. normal_value s ∙ ap bleach p ∙ sym (normal_value t), back)
  where
    back : normal (value_of s) ≡ normal (value_of t) → normal s ≡ normal t
    back p = (same_form k a b s t d e).1 (sym (prints_of_value s) ∙ ap print p ∙ prints_of_value t)

pub value_print_is_read : ValuePrintIsRead
value_print_is_read k ts x (s, d, v) =
    let (u, e, n) = print_is_read k ts s d in (
      value_of u,
      (u, subst (λ z. Derives k z u) (sym (print_value s) ∙ ap print v) e, refl),
      normal_value u ∙ ap bleach n ∙ sym (normal_value s) ∙ ap normal v,
    )

pub values_same_form : ValuesSameForm
values_same_form k a b x y (s, d, v) (t, e, w) = (λ p. sym (print_normal x) ∙ ap print p ∙ print_normal y, back)
  where
    print_of : (z : Syntax) (q : Syntax) → value_of z ≡ q → print q ≡ print z
    print_of z q h = ap print (sym h) ∙ print_value z

    back : plain (print x) ≡ plain (print y) → normal x ≡ normal y
    back p =
        let n = (same_form k a b s t d e).1 (ap plain (sym (print_of s x v)) ∙ p ∙ ap plain (print_of t y w)) in
        ap normal (sym v) ∙ normal_value s ∙ ap bleach n ∙ sym (normal_value t) ∙ ap normal w
