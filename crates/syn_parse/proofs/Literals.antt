-- When the next token is a literal of some kind.
use Rattle.std.proofs.Common.{◌≡◌, false, true, [], ◌∷◌, refl, ap, ap₂, ◌∙◌}
use Rattle.syn_grammar.specs.Words.{Text}
use Rattle.syn_grammar.specs.Tokens.{Span, LitKind, Str, ByteStr, CStr, Byte, Char, Int, Float, literal, Stream, leaf, or, Look, at_literal, ◌or_else◌}
use Rattle.syn_grammar.specs.Grammar.{literal_of}
use Rattle.syn_grammar.specs.Take.{lookahead_at, sees, taken}
use Rattle.syn_grammar.proofs.Looks.{sees_or, sees_literal}
use Rattle.syn_parse.specs.FirstTokens.{at_any_literal, NoLiteral}

pub literal_seen : (k : LitKind) (x : Text) (sp : Span) (r : Stream) → sees at_any_literal (leaf (literal k x) sp r) ≡ true
unfolding sees lookahead_at
literal_seen Str x sp r = refl
literal_seen ByteStr x sp r = refl
literal_seen CStr x sp r = refl
literal_seen Byte x sp r = refl
literal_seen Char x sp r = refl
literal_seen Int x sp r = refl
literal_seen Float x sp r = refl

pub no_literal_seen : (ts : Stream) → NoLiteral ts → sees at_any_literal ts ≡ false
no_literal_seen ts n =
    neither (at_literal Str) _ (none Str) (neither (at_literal ByteStr) _ (none ByteStr) (neither (at_literal CStr) _ (none CStr)
    (neither (at_literal Byte) _ (none Byte) (neither (at_literal Char) _ (none Char) (neither (at_literal Int) (at_literal Float) (none Int) (none Float))))))
  where
    none : (k : LitKind) → sees (at_literal k) ts ≡ false
    none k = sees_literal k ts ∙ ap taken (n (literal_of (k ∷ [])) refl)

    neither : (a b : Look) → sees a ts ≡ false → sees b ts ≡ false → sees (a or_else b) ts ≡ false
    neither a b e f = sees_or a b ts ∙ ap₂ or e f
