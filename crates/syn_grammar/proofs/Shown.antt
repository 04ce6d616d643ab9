-- How a worked example is proved: the checker computes the reading and its print.
use Rattle.std.proofs.Common.{◌≡◌, ℕ, Option, Some, None, refl, sym, ap, ◌∙◌, subst}
use Rattle.syn_grammar.specs.Tokens.{Span, Stream, plain}
use Rattle.syn_grammar.specs.Rules.{Rule}
use Rattle.syn_grammar.specs.Grammar.{Syntax, DerivesPrefix, rule, print}
use Rattle.syn_grammar.specs.Table.{table}
use Rattle.syn_grammar.specs.Take.{Out}
use Rattle.syn_grammar.specs.Run.{parse_rule}
use Rattle.syn_grammar.specs.Promises.{NotDerived}
use Rattle.syn_grammar.proofs.Means.{parse_rule_known, refused}
use Rattle.syn_grammar.proofs.PrintedValues.{print_value}

-- from this byte to that
abbrev pub at : ℕ → ℕ → Span
at a b = record { start = a; stop = b }

-- from the stream the rule reads a tree that prints so, spans aside, and this rest is left
abbrev pub DerivesAs : Rule → Stream → Stream → Stream → Type 0
DerivesAs k ts printed rest = (s : Syntax) × DerivesPrefix table (rule k) s ts rest × (plain (print s) ≡ printed)

-- what is computed, printed, and what it leaves
abbrev pub printed_of : Out → Option (Stream × Stream)
printed_of (Some p) = Some (plain (print p.0), p.1)
printed_of None = None

Said : Rule → Stream → Option (Stream × Stream) → Type 0
Said k ts (Some q) = DerivesAs k ts q.0 q.1
Said k ts None = Unit {0}

pub computed : (k : Rule) (ts printed rest : Stream) → printed_of (parse_rule k ts) ≡ Some (printed, rest) → DerivesAs k ts printed rest
unfolding Said
computed k ts printed rest h = subst (Said k ts) h (go (parse_rule k ts) refl)
  where
    go : (o : Out) → parse_rule k ts ≡ o → Said k ts (printed_of o)
    go None e = tt
    go (Some p) e =
        let t = parse_rule_known k ts p e in
        (t.0, t.1, ap plain (sym (print_value t.0) ∙ ap print t.2))

-- nothing is read where nothing is computed
pub not_read : (k : Rule) (ts : Stream) → parse_rule k ts ≡ None → NotDerived (rule k) ts
not_read k ts e = refused k ts e
