-- WHICH TOKENS ARE PRINTED AS THEY ARE SHOWN.
use Rattle.std.specs.Prelude.{◌≡◌, Some, refl}
use Rattle.std.proofs.Common.{sym, subst}
use Rattle.syn_grammar.specs.Words.{Text}
use Rattle.syn_grammar.specs.Tokens.{Span, Leaf, Stream}
use Rattle.syn_grammar.specs.Grammar.{Syntax, Token, Lifetime}
use Rattle.syn_grammar.specs.Take.{take_mark}
use Rattle.syn_grammar.proofs.Takes.{mark_known}
use Rattle.syn_recognize.specs.Trailing.{IsLeaf}

pub token_is_leaf : (x : Leaf) (sp : Span) → IsLeaf (Token x sp)
token_is_leaf x sp = record { shown = refl }

pub lifetime_is_leaf : (sp sq : Span) (x : Text) → IsLeaf (Lifetime sp x sq)
lifetime_is_leaf sp sq x = record { shown = refl }

pub mark_is_leaf : (cs : Text) (ts r : Stream) (s : Syntax) → take_mark cs ts ≡ Some (s, r) → IsLeaf s
mark_is_leaf cs ts r s e =
    let (xs, i, q, h) = mark_known cs ts (s, r) e in
    subst IsLeaf (sym i) (record { shown = refl })
