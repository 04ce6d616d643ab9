-- Trees are compared part by part. Each odd form of a view commutes with forgetting spans, and has an inverse; that is all that
-- is shown of it, once for each of its shapes.
use Rattle.std.proofs.Common.{◌≡◌, Bool, true, false, refl, sym, ap, ◌∙◌}
use Rattle.syn_grammar.specs.Grammar.{Syntax, plain_syntax}
use Rattle.syn_grammar.specs.Same.{same_syntax}
use Rattle.syn_grammar.proofs.Same.{same_syntax_plain}

-- two tests that are true together are equal
alike : (a b : Bool) → (a ≡ true → b ≡ true) → (b ≡ true → a ≡ true) → a ≡ b
alike true true to from = refl
alike true false to from = sym (to refl)
alike false true to from = from refl
alike false false to from = refl

-- trees that determine their parts, and are determined by them, are the same if the parts are
pub reported : (form parts : Syntax → Syntax) (u v s t : Syntax) → plain_syntax u ≡ form (plain_syntax s) → plain_syntax v ≡ form (plain_syntax t)
    → parts (plain_syntax u) ≡ plain_syntax s → parts (plain_syntax v) ≡ plain_syntax t → same_syntax u v ≡ same_syntax s t
reported form parts u v s t p q i j = alike (same_syntax u v) (same_syntax s t)
    (λ h. (same_syntax_plain s t).1 (sym i ∙ ap parts ((same_syntax_plain u v).0 h) ∙ j))
    (λ h. (same_syntax_plain u v).1 (p ∙ ap form ((same_syntax_plain s t).0 h) ∙ sym q))
