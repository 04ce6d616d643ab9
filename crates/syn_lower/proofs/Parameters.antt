-- A generic parameter is read by its attributes, and then by the next token.
use Rattle.std.proofs.Common.{◌≡◌, Bool, true, false, Some, None, refl, ap, ap₂, ◌∙◌}
use Rattle.syn_grammar.specs.Words.{w_const}
use Rattle.syn_grammar.specs.Tokens.{Stream, at_lifetime, at_word, pick}
use Rattle.syn_grammar.specs.Rules.{attributes, lifetime_parameter}
use Rattle.syn_grammar.specs.Grammar.{Syntax, Both, Left, Right, Node, Grammar, rule, when◌then◌else◌}
use Rattle.syn_grammar.specs.Table.{parameter}
use Rattle.syn_grammar.specs.Take.{Out, sees}
use Rattle.syn_grammar.specs.Run.{and_then, branch, first_of, parse_form, parse_rule, union, wrap}
use Rattle.syn_grammar.proofs.Begins.{not_here, not_there}
use Rattle.syn_grammar.proofs.Each as each
use Rattle.syn_lower.specs.Parameters.{after, const_after, const_form, lifetime_after, lifetime_form, type_after, type_form}

pub lifetime_parameter_is : (ts : Stream) → parse_rule lifetime_parameter ts ≡ after (parse_rule attributes ts) lifetime_after
unfolding lifetime_after
lifetime_parameter_is ts = each.lifetime_parameter_is ts ∙ go (parse_rule attributes ts)
  where
    go : (o : Out) → wrap Node (and_then o (parse_form lifetime_form)) ≡ after o lifetime_after
    go None = refl
    go (Some p) = inside (parse_form lifetime_form p.1)
      where
        inside : (o : Out) → wrap Node (wrap (Both p.0) o) ≡ wrap (λ s. Node (Both p.0 s)) o
        inside None = refl
        inside (Some q) = refl

-- what isn't a lifetime, after its attributes
abbrev pub other_form : Grammar
other_form = when at_word w_const then const_form else type_form

-- by the next token
abbrev pub by_next : Syntax → Stream → Out
by_next attrs ts = pick (sees at_lifetime ts) (wrap Left (lifetime_after attrs ts)) (pick (sees (at_word w_const) ts) (wrap Right (const_after attrs ts)) (wrap Right (type_after attrs ts)))

others : (a : Syntax) (ts : Stream) → wrap Right (wrap (Both a) (parse_form other_form ts)) ≡ pick (sees (at_word w_const) ts) (wrap Right (const_after a ts)) (wrap Right (type_after a ts))
unfolding const_after type_after
others a ts = go (sees (at_word w_const) ts)
  where
    constant : (o : Out) → wrap Right (wrap (Both a) (wrap Left o)) ≡ wrap Right (wrap (λ s. Both a (Left s)) o)
    constant None = refl
    constant (Some p) = refl

    of_type : (o : Out) → wrap Right (wrap (Both a) (wrap Right o)) ≡ wrap Right (wrap (λ s. Both a (Right s)) o)
    of_type None = refl
    of_type (Some p) = refl

    go : (b : Bool) → wrap Right (wrap (Both a) (branch b (parse_form const_form ts) (parse_form type_form ts))) ≡ pick b (wrap Right (wrap (λ s. Both a (Left s)) (parse_form const_form ts))) (wrap Right (wrap (λ s. Both a (Right s)) (parse_form type_form ts)))
    go true = constant (parse_form const_form ts)
    go false = of_type (parse_form type_form ts)

turn : (a : Syntax) (ts : Stream) (b : Bool) → sees at_lifetime ts ≡ b → first_of (wrap Node (wrap (Both a) (parse_form lifetime_form ts))) (wrap (Both a) (parse_form other_form ts)) ≡ pick b (wrap Left (lifetime_after a ts)) (pick (sees (at_word w_const) ts) (wrap Right (const_after a ts)) (wrap Right (type_after a ts)))
unfolding lifetime_after
turn a ts true e = ap (λ o. first_of (wrap Node (wrap (Both a) (parse_form lifetime_form ts))) (wrap (Both a) o)) (not_here at_lifetime other_form refl ts e) ∙ go (parse_form lifetime_form ts)
  where
    go : (o : Out) → first_of (wrap Node (wrap (Both a) o)) None ≡ wrap Left (wrap (λ s. Node (Both a s)) o)
    go None = refl
    go (Some p) = refl
turn a ts false e = ap (λ o. first_of (wrap Node (wrap (Both a) o)) (wrap (Both a) (parse_form other_form ts))) (not_there at_lifetime lifetime_form refl ts e) ∙ others a ts

pub parameter_is : (ts : Stream) → union (parse_rule lifetime_parameter) (parse_form parameter) ts ≡ after (parse_rule attributes ts) by_next
parameter_is ts = ap (λ o. first_of o (parse_form parameter ts)) (each.lifetime_parameter_is ts) ∙ go (parse_rule attributes ts)
  where
    go : (o : Out) → first_of (wrap Node (and_then o (parse_form lifetime_form))) (and_then o (parse_form other_form)) ≡ after o by_next
    go None = refl
    go (Some p) = turn p.0 p.1 (sees at_lifetime p.1) refl
