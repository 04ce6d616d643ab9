use Rattle.std.proofs.Common.{sym, ◌∙◌, ap, length, rules}
use Rattle.syn_tokens.proofs.Names.{name_is, no_name}
use Rattle.syn_tokens.proofs.ident.identifier.is_name.Goals as goal

pub returns-then-may_start : goal.returns-then-may_start
returns-then-may_start c =
    let e = name_is c.args.text.now _ c.in-Some.first c.utf8.text (sym c.chars-characters.ensures.rest ∙ c.in-Some.ensures.steps.0) in search (rules, e)

pub returns-else-may_start : goal.returns-else-may_start
returns-else-may_start c =
    let e = name_is c.args.text.now _ c.in-Some.first c.utf8.text (sym c.chars-characters.ensures.rest ∙ c.in-Some.ensures.steps.0) in search (rules, e)

pub returns-in-None : goal.returns-in-None
returns-in-None c = sym (no_name c.args.text.now (ap length (sym c.chars-characters.ensures.rest) ∙ c.in-None.ensures.steps.0.0))
