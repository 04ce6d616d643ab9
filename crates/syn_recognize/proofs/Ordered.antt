-- The next token decides which members of a list are printed first.
use Rattle.std.proofs.Common.{◌≡◌, Bool, true, false, Some, None, refl, sym, ap, ap₂, ◌∙◌, subst, true≢false}
use Rattle.syn_grammar.specs.Words.{pound}
use Rattle.syn_grammar.specs.Tokens.{Stream, Bracket, at_lifetime}
use Rattle.syn_grammar.specs.Rules.{attributes, generic_argument, lifetime_parameter, meta}
use Rattle.syn_grammar.specs.Grammar.{Syntax, Nothing, Both, Left, Right, Node, Group, Unshown, Grammar, rule}
use Rattle.syn_grammar.specs.Table.{parameter, table, at_pound}
use Rattle.syn_grammar.specs.Take.{Out, Opened, is_end, only, sees, taken, take_lifetime, take_mark, take_group}
use Rattle.syn_grammar.specs.Run.{and_then, branch, close, first_of, parse_form, parse_rule, within, wrap}
use Rattle.syn_grammar.proofs.Begins.{not_here, not_there}
use Rattle.syn_grammar.proofs.Each.{attributes_is, lifetime_parameter_is}
use Rattle.syn_grammar.proofs.Looks.{sees_lifetime}
use Rattle.syn_recognize.specs.Within.{first, second}
use Rattle.syn_recognize.specs.Ordered.{Settles, LeadsTo}
use Rattle.syn_recognize.specs.declared.list.List.TheVariants as List-m

-- ARGUMENTS

pub arguments_known : (ts : Stream) → Settles List-m.Arguments ts (sees at_lifetime ts)
arguments_known ts = record { is = go (take_lifetime ts) (sees at_lifetime ts) (sees_lifetime ts) }
  where
    go : (o : Out) (b : Bool) → b ≡ taken o → first_of o (parse_form (rule generic_argument) ts) ≡ branch b o (parse_form (rule generic_argument) ts)
    go (Some p) true e = refl
    go (Some p) false e = absurd (true≢false (sym e))
    go None true e = absurd (true≢false e)
    go None false e = refl

-- PARAMETERS, after their attributes

abbrev lifetime_form : Grammar
lifetime_form = second (table lifetime_parameter)

abbrev other_rest : Grammar
other_rest = second parameter

following : (a : Syntax) (ts : Stream) (b : Bool) → sees at_lifetime ts ≡ b →
    first_of (wrap Node (wrap (Both a) (parse_form lifetime_form ts))) (wrap (Both a) (parse_form other_rest ts)) ≡ branch b (wrap Node (wrap (Both a) (parse_form lifetime_form ts))) (wrap (Both a) (parse_form other_rest ts))
following a ts true e = ap (λ o. first_of (wrap Node (wrap (Both a) (parse_form lifetime_form ts))) (wrap (Both a) o)) (not_here at_lifetime other_rest refl ts e) ∙ go (parse_form lifetime_form ts)
  where
    go : (o : Out) → first_of (wrap Node (wrap (Both a) o)) None ≡ wrap Left (wrap Node (wrap (Both a) o))
    go None = refl
    go (Some p) = refl
following a ts false e = ap (λ o. first_of (wrap Node (wrap (Both a) o)) (wrap (Both a) (parse_form other_rest ts))) (not_there at_lifetime lifetime_form refl ts e)

pub parameters_known : (ts : Stream) (b : Bool) → LeadsTo (parse_rule attributes ts) b → Settles List-m.Parameters ts b
parameters_known ts b h = record { is = ap₂ first_of (lifetime_parameter_is ts) refl ∙ go (parse_rule attributes ts) b h ∙ sym (ap (λ o. branch b o (parse_form parameter ts)) (lifetime_parameter_is ts)) }
  where
    go : (o : Out) (b : Bool) → LeadsTo o b → first_of (wrap Node (and_then o (parse_form lifetime_form))) (and_then o (parse_form other_rest)) ≡ branch b (wrap Node (and_then o (parse_form lifetime_form))) (and_then o (parse_form other_rest))
    go None true h = refl
    go None false h = refl
    go (Some p) b h = following p.0 p.1 b h

-- ATTRIBUTES

leads_wrapped : (f : Syntax → Syntax) (o : Out) (b : Bool) → LeadsTo o b → LeadsTo (wrap f o) b
leads_wrapped f None b h = tt
leads_wrapped f (Some p) b h = h

-- none is next
pub no_attribute : (ts : Stream) (b : Bool) → sees at_pound ts ≡ false → sees at_lifetime ts ≡ b → LeadsTo (parse_rule attributes ts) b
no_attribute ts b e h = subst (λ o. LeadsTo o b) (sym is) h
  where
    is : parse_rule attributes ts ≡ Some (Node (Right (Unshown Nothing)), ts)
    is = attributes_is ts ∙ ap (λ a. wrap Node (branch a (parse_form (first (table attributes)) ts) (Some (Unshown Nothing, ts)))) e

-- one is next: `#`, and the tokens after it
begun : (ts m : Stream) (p : Syntax) → sees at_pound ts ≡ true → take_mark pound ts ≡ Some (p, m) →
    parse_rule attributes ts ≡ wrap Node (wrap Left (and_then (wrap (Both p) (within Bracket (take_group Bracket m) (parse_rule meta))) (parse_rule attributes)))
begun ts m p e q =
    attributes_is ts ∙ ap (λ a. wrap Node (branch a (parse_form (first (table attributes)) ts) (Some (Unshown Nothing, ts)))) e
    ∙ ap (λ o. wrap Node (wrap Left (and_then (and_then o (λ r. within Bracket (take_group Bracket r) (parse_rule meta))) (parse_rule attributes)))) q

-- and others after it
pub attribute_after : (ts m : Stream) (p : Syntax) (g : Opened) (b : Bool) → sees at_pound ts ≡ true → take_mark pound ts ≡ Some (p, m) → take_group Bracket m ≡ Some g → LeadsTo (parse_rule attributes g.rest) b → LeadsTo (parse_rule attributes ts) b
attribute_after ts m p g b e q i h =
    subst (λ o. LeadsTo o b) (sym (begun ts m p e q ∙ ap (λ o. wrap Node (wrap Left (and_then (wrap (Both p) (within Bracket o (parse_rule meta))) (parse_rule attributes)))) i)) (go (parse_rule meta g.content))
  where
    ended : (s : Syntax) (c : Bool) → LeadsTo (wrap Node (wrap Left (and_then (wrap (Both p) (only c (Some (Group Bracket g.opening g.closing s, g.rest)))) (parse_rule attributes)))) b
    ended s true =
        let t : Syntax = Both p (Group Bracket g.opening g.closing s) in
        leads_wrapped Node (wrap Left (wrap (Both t) (parse_rule attributes g.rest))) b (leads_wrapped Left (wrap (Both t) (parse_rule attributes g.rest)) b (leads_wrapped (Both t) (parse_rule attributes g.rest) b h))
    ended s false = tt

    go : (o : Out) → LeadsTo (wrap Node (wrap Left (and_then (wrap (Both p) (close Bracket g o)) (parse_rule attributes)))) b
    go None = tt
    go (Some x) = ended x.0 (is_end x.1)

-- no group follows `#`
pub no_brackets : (ts m : Stream) (p : Syntax) (b : Bool) → sees at_pound ts ≡ true → take_mark pound ts ≡ Some (p, m) → take_group Bracket m ≡ None → LeadsTo (parse_rule attributes ts) b
no_brackets ts m p b e q i =
    subst (λ o. LeadsTo o b) (sym (begun ts m p e q ∙ ap (λ o. wrap Node (wrap Left (and_then (wrap (Both p) (within Bracket o (parse_rule meta))) (parse_rule attributes)))) i)) tt
