-- Equal trees print alike.
use Rattle.std.proofs.Common.{◌≡◌, true, sym, ap, ◌∙◌}
use Rattle.syn_grammar.specs.Tokens.{plain}
use Rattle.syn_grammar.specs.Grammar.{Syntax, print, normal}
use Rattle.syn_grammar.specs.Same.{same_syntax}
use Rattle.syn_grammar.proofs.Plain.{print_normal, normal_plain}
use Rattle.syn_grammar.proofs.Same.{same_syntax_plain}

pub prints_alike : (s t : Syntax) → same_syntax s t ≡ true → plain (print s) ≡ plain (print t)
prints_alike s t h =
    sym (print_normal s)
    ∙ ap print (sym (normal_plain s) ∙ ap normal ((same_syntax_plain s t).0 h) ∙ normal_plain t)
    ∙ print_normal t

pub ruleset equals = (same_syntax_plain, prints_alike)
