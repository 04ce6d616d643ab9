-- An expression as a statement.
use Rattle.std.proofs.Common.{◌≡◌, Bool, true, false, refl, true≢false}
use Rattle.syn_grammar.specs.Shape.{Macro, expr, said}
use Rattle.syn_grammar.specs.Grammar.{Syntax, Nothing, Both, Right, Shaped}
use Rattle.syn_grammar.specs.Values.{sentence}
use Rattle.syn_expr.specs.Statements.{is_macro}

-- without `;`, what isn't a macro in braces is an expression
pub plain_sentence : (e : Syntax) → sentence false e (Right Nothing) ≡ Shaped said (Both e (Right Nothing))
plain_sentence (Shaped (expr Macro) s) = refl
plain_sentence e = refl

-- what is no macro is an expression
pub other_sentence : (b : Bool) (e m : Syntax) → is_macro e ≡ false → sentence b e m ≡ Shaped said (Both e m)
other_sentence b (Shaped (expr Macro) s) m h = absurd (true≢false h)
other_sentence b e m h = refl
