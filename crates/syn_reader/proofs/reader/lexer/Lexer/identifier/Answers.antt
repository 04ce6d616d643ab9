use Rattle.std.proofs.Common.{rules, arith, refl, sym, ap, ◌∙◌, ◌++◌}
use Rattle.std.specs.Str.{chars}
use Rattle.std.proofs.lemmas.Fn.{always_returns_same}
use Rattle.std.proofs.lemmas.Str.{chars-append}
use Rattle.unicode_ident.specs.Ident.{is_xid_continue}
use Rattle.syn_reader.proofs.Identifiers.{word_is}
use Rattle.syn_reader.proofs.reader.lexer.Lexer.identifier.Goals as goal

pub returns-clause-present : goal.returns-clause-present
returns-clause-present c =
    let same = c.requires.text in
    let front = c.requires.front in
    let word = c.requires.word in
    let after = c.skip_while.ensures.left is_xid_continue (always_returns_same _ _ _ (λ a r f h. search rules)) in
    let text = rw (c.skip_while.ensures.text, same) at c.text_since.ensures in
    let whole = sym (ap chars text.split ∙ chars-append _ _ c.text_since.utf8) ∙ (rw same at front.2) in
    let shown = rw (c.skip_while.ensures.text, same) at after in
    rw c.span_since.ensures (
      (
        text,
        omega (arith, c.requires.earlier, c.skip_while.ensures.onward),
        (
          word_is _ front.0 _ c.text_since.utf8 (ap (λ l. chars c.text_since.result.now ++ l) (sym shown) ∙ whole) front.1,
          c.requires.absent,
          (word.0, word.1, word.2, shown ∙ (rw same at word.3)),
        ),
      ),
      refl,
      refl,
    )
