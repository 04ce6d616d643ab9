use Rattle.std.proofs.Common.{sym, ◌∙◌, ap}
use Rattle.std.specs.List.{slice_get}
use Rattle.std.specs.Option.{option_copied}
use Rattle.syn_tokens.proofs.Keywords.{among_is, in_row_is, no_keyword}
use Rattle.syn_tokens.proofs.ident.keyword.is_keyword.Goals as goal

pub returns-in-Some : goal.returns-in-Some
returns-in-Some c =
    c.is_among.ensures ∙ among_is c.args.text.now c.keywords_from.result.now
    ∙ in_row_is c.args.text.now c.in-Some.first.now (ap option_copied (sym c.in-Some.is) ∙ c.first.ensures.value ∙ ap (λ t. slice_get t 0) c.as_bytes.ensures.value) _ c.keywords_from.ensures

pub returns-in-None : goal.returns-in-None
returns-in-None c = sym (no_keyword c.args.text.now (ap option_copied (sym c.in-None.is) ∙ c.first.ensures.value ∙ ap (λ t. slice_get t 0) c.as_bytes.ensures.value))
