use Rattle.std.proofs.Common.{sym, ◌∙◌, rules}
use Rattle.std.proofs.lemmas.List.Sorted.{answers_always}
use Rattle.unicode_ident.specs.Ident.{is_xid_continue}
use Rattle.syn_reader.proofs.Scans.{suffix_there}
use Rattle.syn_reader.proofs.reader.lexer.Lexer.skip_suffix.Goals as goal

pub returns-then-is_at_name-clause-left : goal.returns-then-is_at_name-clause-left
returns-then-is_at_name-clause-left c =
    suffix_there _ _ (sym c.is_at_name.ensures ∙ c.if-is_at_name.true) (c.skip_while.ensures.left is_xid_continue (answers_always _ _ _ (λ f a r g k. search rules)))
